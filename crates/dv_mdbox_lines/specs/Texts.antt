-- The texts of answers (own).
use Rattle.std.specs.Prelude.{ℕ, List, [], ◌∷◌, ◌++◌, codes, decimal, flat_map, length, Option, Some, None}
use Rattle.dv_mdbox_lines.specs.declared.answers.Answer.{Answer}
use Rattle.dv_mdbox_lines.specs.declared.answers.Answer.TheVariants as answer
use Rattle.dv_mdbox_lines.specs.Playing.{Tried}

-- an answer without its line feed
abbrev pub words_of : Answer → List ℕ
words_of (answer.Done id) = codes "OK " ++ decimal id
words_of (answer.Held message) = codes "OK {" ++ decimal (length message) ++ codes "}\n" ++ message
words_of (answer.Purged n) = codes "OK PURGED " ++ decimal n
words_of answer.None = codes "NO NONE"
words_of answer.Full = codes "NO FULL"
words_of answer.Ids = codes "NO IDS"
words_of answer.Files = codes "NO FILES"
words_of (answer.TooLong bytes) = codes "NO BYTES " ++ decimal bytes
words_of (answer.Disk faults) = codes "NO DISK " ++ decimal faults
words_of answer.Damaged = codes "NO DAMAGED"

-- each answer ends with a line feed
abbrev pub answer_text : Answer → List ℕ
answer_text told = words_of told ++ 10 ∷ []

-- a call that memory ended has no answer
abbrev pub tried_text : Tried → List ℕ
tried_text tried = by_answer tried.answer
  where
    by_answer : Option Answer → List ℕ
    by_answer None = []
    by_answer (Some told) = answer_text told

-- the texts of the answers to calls in turn
abbrev pub tried_texts : List Tried → List ℕ
tried_texts tried = flat_map tried_text tried
