-- A kept search that follows a mailbox group by group.
use Rattle.std.specs.Prelude.{◌≡◌, ℕ, List, [], ◌∷◌, Some}
use Rattle.std.specs.List.Sorted.{IsStrictlyIncreasing}
use Rattle.dv_model.specs.declared.types.Fresh.{Fresh}
use Rattle.dv_model.specs.declared.types.Group.{Group}
use Rattle.dv_model.specs.declared.types.Mailbox.{Mailbox}
use Rattle.dv_model.specs.declared.types.Shown.{Shown}
use Rattle.dv_model.specs.Effects.{applied}
use Rattle.dv_model.specs.Fresh.{patched}
use Rattle.dv_answer.specs.Following.{Leads, fresh_of}
use Rattle.dv_live.specs.Keeping.{Agrees, KeptSearch, MayFollow}

-- what following leaves of a kept search: it agrees with the rows of before as they were told anew, whichever those are
pub record Followed (old new : KeptSearch) (fresh : List Fresh) (table : List (List ℕ)) : Type 0 where
  pub key : new.key ≡ old.key
  pub names : new.names ≡ table
  pub agrees : (rows : List Shown) → Agrees old rows → Agrees new (patched rows fresh)

-- a group that was applied: the mailbox behind it, the UIDs that it touched, and the search that is kept then
pub record Turn : Type 0 where
  pub group : Group
  pub mailbox : Mailbox
  pub touched : List ℕ
  pub kept : KeptSearch

-- the group made its mailbox of the one before it, and the search followed it by what that has of the touched UIDs
pub record IsTurn (before : Mailbox) (kept : KeptSearch) (turn : Turn) : Type 0 where
  pub applied : applied before turn.group.records ≡ Some turn.mailbox
  pub leads : Leads before turn.mailbox turn.touched
  pub rising : IsStrictlyIncreasing turn.touched
  pub follows : MayFollow kept (fresh_of turn.mailbox turn.touched) turn.mailbox.keywords
      → Followed kept turn.kept (fresh_of turn.mailbox turn.touched) turn.mailbox.keywords

-- groups that were applied one after another
abbrev pub AreTurns : Mailbox → KeptSearch → List Turn → Type 0
AreTurns m kept [] = Unit {0}
AreTurns m kept (turn ∷ turns) = IsTurn m kept turn × AreTurns turn.mailbox turn.kept turns
