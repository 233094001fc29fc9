-- Which words are those of a feed, and which are those of good notes.
use Rattle.std.specs.Prelude.{◌≡◌, ℕ, true, List, ◌++◌, All, fold}
use Rattle.dv_model.specs.declared.types.Entry.{Entry}
use Rattle.dv_model.specs.declared.types.Mailbox.{Mailbox}
use Rattle.dv_model.specs.declared.types.Mark.{Mark}
use Rattle.dv_model.specs.Journals.{IsEntry, mark_behind}
use Rattle.dv_formats.specs.Feeds.{feed_text}
use Rattle.dv_front.specs.declared.notes.Note.{Note}
use Rattle.dv_front.specs.Notes.{AreNotes, entries_of, text_of}

-- the words are those of some entries, one behind another
pub record IsFeed (words : List ℕ) : Type 0 where
  pub entries : List Entry
  pub are : All IsEntry entries
  pub text : feed_text entries ≡ words

-- the place behind these entries, in the log from a place on
abbrev pub mark_from : Mark → List Entry → Mark
mark_from mark entries = fold (λ m e. mark_behind true m e.group) mark entries

-- the words are those of notes that are good behind some mailbox at this place
pub record AreWordsFrom (mark : Mark) (words : List ℕ) : Type 0 where
  pub mailbox : Mailbox
  pub notes : List Note
  pub good : AreNotes mailbox mark notes
  pub text : text_of notes ≡ words

-- ---- laws

-- words of good notes are a feed's
abbrev pub WordsAreFeed : Type 0
WordsAreFeed = (mark : Mark) (words : List ℕ) → AreWordsFrom mark words → IsFeed words

-- words of the notes behind the first of good ones are those of good notes from the place behind these
abbrev pub RestsAreWords : Type 0
RestsAreWords = (m : Mailbox) (mark : Mark) (first rest : List Note)
    → AreNotes m mark (first ++ rest) → AreWordsFrom (mark_from mark (entries_of first)) (text_of rest)
