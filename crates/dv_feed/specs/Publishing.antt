-- What is published of a group.
use Rattle.std.specs.Prelude.{◌≡◌, ℕ, List, [], ◌∷◌, ◌++◌, All}
use Rattle.dv_model.specs.declared.types.Group.{Group}
use Rattle.dv_model.specs.Journals.{AreByteValues}
use Rattle.dv_model.specs.Spelling.{IsRecord, group_text}
use Rattle.dv_formats.specs.Feeds.{entry_words, group_words}
use Rattle.dv_front.specs.Ends.{PenView}
use Rattle.dv_front.specs.declared.notes.Note.{Note}

-- these words were put, and are not published
abbrev pub with_words : PenView → List ℕ → PenView
with_words pen words = record pen { put = pen.put ++ words }

-- the words of this entry were put, and it is published
abbrev pub with_entry : PenView → Note → PenView
with_entry pen note = record pen { put = pen.put ++ entry_words note.entry; notes = pen.notes ++ note ∷ [] }

-- the text of some records
pub record IsGroupText (text : List ℕ) : Type 0 where
  pub group : Group
  pub records : All IsRecord group.records
  pub is : group_text group ≡ text

-- the words of some records
pub record IsGroupWords (words : List ℕ) : Type 0 where
  pub group : Group
  pub records : All IsRecord group.records
  pub bytes : AreByteValues (group_text group)
  pub is : group_words group ≡ words
