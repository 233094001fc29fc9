-- Which rows the records of a group may change, found before they are applied.
use Rattle.std.specs.Prelude.{◌≡◌, ◌⊎◌, ℕ, ◌<◌, Bool, true, ⊤, List, Option, None, Some, Contains, get_or, length, take}
use Rattle.dv_model.specs.declared.types.Body.{Body}
use Rattle.dv_model.specs.declared.types.Mailbox.{Mailbox}
use Rattle.dv_model.specs.declared.types.Record.{Record}
use Rattle.dv_model.specs.declared.types.Row.{Row}
use Rattle.dv_model.specs.Effects.{applied, effect}
use Rattle.dv_model.specs.Mailboxes.{IsValid}
use Rattle.dv_model.specs.declared.types.Body.TheVariants.{ExtIntro}
use Rattle.dv_ext.specs.Sizes.{leave_parts}
use Rattle.dv_ext.specs.Tables.{Table}
use Rattle.dv_portion.specs.Portions.{may_change, table_of}
use Rattle.dv_rows.specs.Parted.{HasUid}

-- no UID is lost, and each new one is a row's
pub record Adds (rows : List Row) (old new : List ℕ) : Type 0 where
  pub kept : (uid : ℕ) → Contains old uid → Contains new uid
  pub only : (uid : ℕ) → Contains new uid → Contains old uid ⊎ HasUid rows uid

-- among the UIDs is that of each row which a record may change in a mailbox with these extensions
abbrev pub AreNamed : Table → Body → List Row → List ℕ → Type 0
AreNamed t body rows uids = (uid : ℕ) → HasUid rows uid → may_change t body uid ≡ true → Contains uids uid

-- so it is for the first of the records, each in the mailbox that those before it leave
abbrev pub AreAllNamed : ℕ → Mailbox → List Record → List Row → List ℕ → Type 0
AreAllNamed many m rs rows uids = (k : ℕ) (d : Record) (n : Mailbox) → k < many → k < length rs → applied m (take k rs) ≡ Some n → AreNamed (table_of n) (get_or rs k d).body rows uids

-- a record with this body makes the one table of extensions of the other
abbrev pub MovesOn : Table → Body → Table → Type 0
MovesOn before body after = (m n : Mailbox) → IsValid m → table_of m ≡ before → effect m body ≡ Some n → table_of n ≡ after

-- where it is so, introductions leave each row's parts
abbrev pub LeavesParts : Bool → Table → Body → Type 0
LeavesParts stay t (ExtIntro intros) = stay ≡ true → leave_parts t.extensions intros ≡ true
LeavesParts stay t body = ⊤

-- the table that records moved on to, or else the first one
abbrev pub seen : Table → Option Table → Table
seen t None = t
seen t (Some moved) = moved
