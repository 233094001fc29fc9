-- The words by which sessions tell each other of the groups that were written.
use Rattle.std.specs.Prelude.{ℕ, zero, suc, ◌/◌, List, [], ◌∷◌, length, take, drop, flat_map}
use Rattle.std.specs.Int.{w32, from_le_bytes}
use Rattle.dv_model.specs.declared.types.Entry.{Entry}
use Rattle.dv_model.specs.declared.types.Group.{Group}
use Rattle.dv_model.specs.Spelling.{group_text}

-- so many words of four bytes, the first byte the least significant
abbrev pub words_of : ℕ → List ℕ → List ℕ
words_of zero bytes = []
words_of (suc n) bytes = from_le_bytes w32 (take 4 bytes) ∷ words_of n (drop 4 bytes)

-- the records of a group as they are written
abbrev pub group_words : Group → List ℕ
group_words g = words_of (length (group_text g) / 4) (group_text g)

-- the author, the number of words that follow, and the words
abbrev pub entry_words : Entry → List ℕ
entry_words e = e.author ∷ length (group_words e.group) ∷ group_words e.group

-- one entry behind another
abbrev pub feed_text : List Entry → List ℕ
feed_text entries = flat_map entry_words entries
