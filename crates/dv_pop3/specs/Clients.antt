-- A POP3 session over the store of a keeper.
use Rattle.std.specs.Prelude.{◌≡◌, ◌<◌, ◌≤◌, true, List, All}
use mathlib.Core.List.{IsPrefix}
use Rattle.dv_model.specs.Sessions.{State}
use Rattle.dv_maildrop.specs.declared.types.Listed.{Listed}
use Rattle.dv_maildrop.specs.Maildrops.{Transaction}
use Rattle.dv_member.specs.Members.{Member, notes_of}

-- its maildrop, and its session of the store
pub record Client : Type 0 where
  pub maildrop : Transaction
  pub session : Member

-- The session has selected the mailbox, and each message had been added to it when that was last
-- told.
pub record IsListing (rows : List Listed) (x : State) : Type 0 where
  pub selected : x.selected ≡ true
  pub given : All (λ row. row.uid < x.view.next_uid) rows

-- so it is of one of them
abbrev pub IsGiven : Listed → State → Type 0
IsGiven row x = (x.selected ≡ true) × (row.uid < x.view.next_uid)

-- what a session has seen goes on, and it is the same one
pub record IsLater (old new : Member) : Type 0 where
  pub number : new.number ≡ old.number
  pub begins : IsPrefix (notes_of old) (notes_of new)

-- it is so later on
pub record KeepsOn (x y : State) : Type 0 where
  pub selected : y.selected ≡ true
  pub next_uid : x.view.next_uid ≤ y.view.next_uid
