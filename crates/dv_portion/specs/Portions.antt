-- What records do to a portion of a mailbox's rows, and which rows a record may change.
use Rattle.std.specs.Prelude.{◌≡◌, ℕ, ◌<◌, ◌≤◌, Bool, true, false, not, ◌&&◌, List, All, filter, get_or, length, Option, Some, None, nat_eq, nat_le, option_map, take}
use Rattle.std.specs.Int.{w32, from_le_bytes}
use Rattle.std.specs.List.{list_any}
use Rattle.dv_model.specs.declared.types.Body.{Body}
use Rattle.dv_model.specs.declared.types.Body.TheVariants.{Expunge, ExpungeGuid, ExtIntro, ExtRecordUpdate, ExtReset, FlagUpdate, KeywordReset, KeywordUpdate}
use Rattle.dv_model.specs.declared.types.Current.{Current}
use Rattle.dv_model.specs.declared.types.Mailbox.{Mailbox}
use Rattle.dv_model.specs.declared.types.Record.{Record}
use Rattle.dv_model.specs.declared.types.Row.{Row}
use Rattle.dv_model.specs.Effects.{applied, is_in_guid_rows, is_in_pairs}
use Rattle.dv_model.specs.Mailboxes.{IsValid}
use Rattle.dv_ext.specs.Sizes.{leave_parts}
use Rattle.dv_ext.specs.Tables.{Table}
use Rattle.dv_ext.specs.Updates.{Updates, updates_of}
use Rattle.dv_validity.specs.Laws.{IsInRange}

-- ---- some of the rows

-- the mailbox with the rows alone whose UIDs pass the test
abbrev pub portion : (ℕ → Bool) → Mailbox → Mailbox
portion test m = record m { rows = filter (λ row. test row.uid) m.rows }

-- the other rows
abbrev pub rest : (ℕ → Bool) → List Row → List Row
rest test rows = filter (λ row. not (test row.uid)) rows

-- each UID that wasn't given out passes
abbrev pub HoldsNew : (ℕ → Bool) → ℕ → Type 0
HoldsNew test next_uid = (uid : ℕ) → next_uid ≤ uid → test uid ≡ true

-- ---- rows that a record may change

-- a row of a record update has the UID
abbrev pub is_in_updates : Option Updates → ℕ → Bool
is_in_updates None uid = false
is_in_updates (Some updates) uid = list_any (λ update. nat_eq (from_le_bytes w32 (take 4 update)) uid) updates.rows

-- a record update of the current extension has it
abbrev pub is_updated : Option Current → List ℕ → ℕ → Bool
is_updated None bytes uid = false
is_updated (Some current) bytes uid = is_in_updates (updates_of current.size bytes) uid

-- a record with this body may change or remove the row of the UID in a mailbox with these extensions
abbrev pub may_change : Table → Body → ℕ → Bool
may_change t (Expunge pairs) uid = is_in_pairs pairs uid
may_change t (ExpungeGuid rows) uid = is_in_guid_rows rows uid
may_change t (FlagUpdate changes) uid = list_any (λ change. nat_le change.first uid && nat_le uid change.last) changes
may_change t (KeywordUpdate how name pairs) uid = is_in_pairs pairs uid
may_change t (KeywordReset pairs) uid = is_in_pairs pairs uid
may_change t (ExtIntro intros) uid = not (leave_parts t.extensions intros)
may_change t (ExtReset reset_id preserve) uid = nat_eq preserve 0
may_change t (ExtRecordUpdate bytes) uid = is_updated t.current bytes uid
may_change t body uid = false

-- the mailbox's extensions, with the current one
abbrev pub table_of : Mailbox → Table
table_of m = record { extensions = m.extensions; current = m.current }

-- the record may change none of these rows
abbrev pub Spares : Mailbox → Record → List Row → Type 0
Spares m r rows = All (λ row. may_change (table_of m) r.body row.uid ≡ false) rows

-- so may each of these records, in the mailbox that those before it leave
abbrev pub AllSpare : Mailbox → List Record → List Row → Type 0
AllSpare m rs rows = (k : ℕ) (d : Record) (n : Mailbox) → k < length rs → applied m (take k rs) ≡ Some n → IsValid n → Spares n (get_or rs k d) rows

-- ---- the laws

-- records make of a portion what they make of it among all rows
abbrev pub RecordsOnPortions : Type 0
RecordsOnPortions = (test : ℕ → Bool) (m : Mailbox) (rs : List Record) → HoldsNew test m.next_uid → applied (portion test m) rs ≡ option_map (portion test) (applied m rs)

-- rows that they may not change stay
abbrev pub OtherRowsStay : Type 0
OtherRowsStay = (test : ℕ → Bool) (m n : Mailbox) (rs : List Record) → IsValid m → All (λ r. IsInRange r.body) rs → HoldsNew test m.next_uid
    → AllSpare m rs (rest test m.rows) → applied m rs ≡ Some n → rest test n.rows ≡ rest test m.rows

-- a portion of a valid mailbox is valid
abbrev pub PortionIsValid : Type 0
PortionIsValid = (test : ℕ → Bool) (m : Mailbox) → IsValid m → IsValid (portion test m)
