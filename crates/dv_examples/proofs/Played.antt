-- Lines of named sessions, played over a folder made at 1000, and the text of what is said.
use Rattle.std.specs.Prelude.{ℕ, Bool, true, List, [], ◌∷◌, ◌++◌, flat_map, map, replicate}
use Rattle.dv_model.specs.declared.types.Command.{Command}
use Rattle.dv_model.specs.declared.types.Reply.{Reply}
use Rattle.dv_model.specs.Journals.{Damaged, Log}
use Rattle.dv_model.specs.Mailboxes.{empty_mailbox}
use Rattle.dv_model.specs.Spelling.{group_text}
use Rattle.dv_model.specs.Texts.{line_text}
use Rattle.dv_playing.specs.Playing.{Attempt, Failed, Play, Rotation, Served, begin, played, replies_to}

-- a folder made at 1000 has one record, which gives the UIDVALIDITY: the place behind it is 56
abbrev pub created_with : Bool → Log
created_with rotates = record {
  start = record (empty_mailbox 1000) { highest = 2 };
  start_mark = record { file_seq = 1; offset = 56 };
  rotates = rotates;
  entries = [];
  indexid = 1000;
  mail = λ uid. Damaged;
  guid = λ uid. replicate 16 0;
}

abbrev pub created : Log
created = created_with true

-- the clock reads 1000
abbrev pub clock : ℕ → ℕ
clock n = 1000

-- the session's name, its line, and what came of it
abbrev pub NamedLine : Type 0
NamedLine = List ℕ × Attempt

abbrev pub served : List ℕ → ℕ → Command → NamedLine
served name s c = (name, record { line = (s, c); outcome = Served })

abbrev pub failed : List ℕ → ℕ → Command → ℕ → Rotation → NamedLine
failed name s c faults rotation = (name, record { line = (s, c); outcome = Failed faults rotation })

abbrev pub attempts_of : List NamedLine → List Attempt
attempts_of lines = map (λ line. line.1) lines

-- where the lines lead
abbrev pub after_lines : Log → List NamedLine → Play
after_lines log lines = played clock (begin log) (attempts_of lines)

-- the text of the replies to each line
abbrev pub texts_of : List NamedLine → List (List Reply) → List ℕ
texts_of (line ∷ lines) (replies ∷ rest) = flat_map (line_text line.0) replies ++ texts_of lines rest
texts_of lines replies = []

-- what is said by these lines behind those
abbrev pub said_over : Log → List NamedLine → List NamedLine → List ℕ
said_over log before lines = texts_of lines (replies_to clock (after_lines log before) (attempts_of lines))

abbrev pub said_by : List NamedLine → List NamedLine → List ℕ
said_by before lines = said_over created before lines

-- the bytes of the groups
abbrev pub groups_text : Play → List (List ℕ)
groups_text play = map (λ e. group_text e.group) play.log.entries

-- texts, each with a line feed behind it
abbrev pub text_lines : List (List ℕ) → List ℕ
text_lines texts = flat_map (λ text. text ++ 10 ∷ []) texts
