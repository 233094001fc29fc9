-- The sessions of a keeper when they are made, and what a hold of the lock leaves of one.
use Rattle.std.specs.Prelude.{◌≡◌, ℕ, ◌+◌, false, true, List, [], ◌∷◌, length, ⊤}
use mathlib.Core.List.{IsPrefix}
use Rattle.dv_model.specs.Journals.{Log}
use Rattle.dv_member.specs.Calls.{counted, new_member, seeing}
use Rattle.dv_member.specs.Members.{Member, notes_of}

-- a session of this number that was just made
pub record IsNewSession (start : Log) (number : ℕ) (s : Member) : Type 0 where
  pub is : s ≡ new_member number s.front s.tables start.start
  pub nothing : notes_of s ≡ []

-- these have the numbers from this one on
abbrev pub AreNewSessions : Log → ℕ → List Member → Type 0
AreNewSessions start number [] = ⊤
AreNewSessions start number (s ∷ ss) =
    IsNewSession start number s × AreNewSessions start (number + 1) ss

-- it is in the newest generation, whose table isn't sealed, and it knows the tables of all
pub record IsAtNewest (old new : Member) : Type 0 where
  pub unsealed : new.front.sealed ≡ false
  pub newest : length new.tables.items ≡ new.front.generation.number
  pub tables : IsPrefix old.tables.items new.tables.items

-- it has caught up
pub record HasRejoined (old new : Member) : Type 0 where
  pub newest : IsAtNewest old new
  pub now : new ≡ record (seeing old new) { caught_up = true; knows_seal = false }

-- and that was a hold of the lock
pub record HasJoined (old new : Member) : Type 0 where
  pub newest : IsAtNewest old new
  pub now : new ≡ record (seeing old new) {
    caught_up = true;
    knows_seal = false;
    holds = counted old.holds;
  }
