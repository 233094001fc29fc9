-- What a search finds is what a session is told, and the keys of scripts nest no deeper than they may.
use Rattle.std.specs.Prelude.{◌≡◌, ◌≤◌, ℕ, Bool, List, [], ◌∷◌, map}
use Rattle.dv_model.specs.declared.types.Command.TheVariants as command
use Rattle.dv_model.specs.declared.types.Key.{Key}
use Rattle.dv_model.specs.declared.types.Mailbox.{Mailbox}
use Rattle.dv_model.specs.declared.types.Reply.TheVariants as reply
use Rattle.dv_model.specs.Journals.{Mail}
use Rattle.dv_model.specs.Sessions.{data_of, message_in, number_of}
use Rattle.dv_model.specs.Views.{View}
use Rattle.dv_formats.specs.Scripts.{AreSought}
use Rattle.dv_search.specs.Facts.{found_rows}
use Rattle.dv_search.specs.Nesting.{levels_of, most_levels}

-- the SEARCH line has the numbers, or the UIDs, of the rows that are found, where the mailbox has their messages
abbrev pub SearchSaysFound : Type 0
SearchSaysFound = (mail : ℕ → Mail) (by_uid : Bool) (key : Key) (view : View) (m : Mailbox)
    → data_of mail (command.Search by_uid key) view m ≡ reply.Search (map (number_of by_uid) (found_rows (message_in mail m) key view m)) ∷ []

-- the keys that a text of a SEARCH has nest no deeper
abbrev pub SoughtIsShallow : Type 0
SoughtIsShallow = (key : Key) (b : List ℕ) → AreSought key b → levels_of key ≤ most_levels
