-- The text of the sessions' transcripts, one session after another.
use Rattle.std.specs.Prelude.{◌≡◌, ℕ, ◌≤◌, List, [], ◌∷◌, ◌++◌, All, length, flat_map}
use Rattle.dv_model.specs.declared.types.Reply.{Reply}
use Rattle.dv_model.specs.Texts.{line_text}
use Rattle.dv_formats.specs.Scripts.{NamedLine, sessions_of}
use Rattle.dv_serving.specs.Scripts.{replies_text}

-- the text that answers a session's commands, one after another
abbrev pub transcript_text : List ℕ → List (List Reply) → List ℕ
transcript_text name replies = flat_map (flat_map (line_text name)) replies

-- that of each session, by the sessions' names and their replies
abbrev pub transcripts_text : List (List ℕ) → List (List (List Reply)) → List ℕ
transcripts_text [] replies = []
transcripts_text (name ∷ names) [] = []
transcripts_text (name ∷ names) (said ∷ replies) =
    transcript_text name said ++ transcripts_text names replies

-- ---- laws

-- a session's transcript has the text of the replies to its lines alone
abbrev pub SessionIsSerial : Type 0
SessionIsSerial = (name : List ℕ) (lines : List NamedLine) (replies : List (List Reply))
    → All (λ line. line.0 ≡ name) lines → length replies ≤ length lines
    → transcript_text name replies ≡ replies_text lines replies

-- so where a script has one session, its transcripts' text is that of its replies
abbrev pub OneSessionIsSerial : Type 0
OneSessionIsSerial = (lines : List NamedLine) (replies : List (List Reply))
    → length (sessions_of lines) ≡ 1 → length replies ≤ length lines
    → transcripts_text (sessions_of lines) (replies ∷ []) ≡ replies_text lines replies

-- the text of more sessions stands behind that of the first
abbrev pub TranscriptsGoOn : Type 0
TranscriptsGoOn = (names more : List (List ℕ)) (replies others : List (List (List Reply)))
    → length replies ≡ length names
    → transcripts_text (names ++ more) (replies ++ others)
    ≡ transcripts_text names replies ++ transcripts_text more others
