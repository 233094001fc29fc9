-- Which message files are no mailbox row's.
use Rattle.std.specs.Prelude.{◌≡◌, ◌↔◌, ◌<◌, ◌&&◌, ℕ, List, [], ◌∷◌, Bool, false, not, nat_lt, flat_map, Contains, if◌then◌else◌}
use Rattle.std.specs.List.Sorted.{IsStrictlyIncreasing}
use Rattle.dv_model.specs.declared.types.Mailbox.{Mailbox}
use Rattle.dv_model.specs.Sessions.{has_uid}
use Rattle.dv_shelf.specs.declared.shelf.Name.{Name}
use Rattle.dv_shelf.specs.declared.shelf.Name.TheVariants as name

-- the mailbox has no row of this UID
abbrev pub IsFree : Mailbox → ℕ → Type 0
IsFree m uid = has_uid m uid ≡ false

-- a message file of this UID is among the names, the UID was given out, and has no row
pub record IsUnlisted (m : Mailbox) (names : List Name) (uid : ℕ) : Type 0 where
  pub there : Contains names (name.Mail uid)
  pub given : uid < m.next_uid
  pub free : IsFree m uid

-- the UIDs of all these files, rising, each once
pub record AreUnlisted (m : Mailbox) (names : List Name) (uids : List ℕ) : Type 0 where
  pub rising : IsStrictlyIncreasing uids
  pub are : (uid : ℕ) → Contains uids uid ↔ IsUnlisted m names uid

-- the UID was given out, and has no row
abbrev pub is_gone : Mailbox → ℕ → Bool
is_gone m uid = nat_lt uid m.next_uid && not (has_uid m uid)

-- the UID of such a message file
abbrev pub uid_in : Mailbox → Name → List ℕ
uid_in m (name.Mail uid) = if is_gone m uid then uid ∷ [] else []
uid_in m other = []

-- those of all of them, in the order of their names
abbrev pub uids_in : Mailbox → List Name → List ℕ
uids_in m names = flat_map (uid_in m) names
