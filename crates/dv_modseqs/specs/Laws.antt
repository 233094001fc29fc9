-- What records in turn leave of the rows' modification sequences (RFC 7162, section 3.1).
use Rattle.std.specs.Prelude.{◌≡◌, ◌⊎◌, ◌<◌, true, List, All, Any, Some}
use Rattle.dv_model.specs.declared.types.Mailbox.{Mailbox}
use Rattle.dv_model.specs.declared.types.Record.{Record}
use Rattle.dv_model.specs.declared.types.Row.{Row}
use Rattle.dv_model.specs.Effects.{applied, is_as_before}
use Rattle.dv_model.specs.Mailboxes.{IsValid, last_modseq}
use Rattle.dv_validity.specs.Laws.{IsInRange}

-- one of the rows has its UID, system flags and keywords, and its modification sequence
abbrev pub IsKept : List Row → Row → Type 0
IsKept before row = Any (λ old. (is_as_before row old ≡ true) × (row.modseq ≡ old.modseq)) before

-- a row of the later mailbox is as it was, or was changed above the highest number of the earlier one, or these numbers
-- have come to their end
abbrev pub StaysOrRises : Mailbox → Mailbox → Row → Type 0
StaysOrRises m n row = IsKept m.rows row ⊎ ((m.highest < row.modseq) ⊎ (n.highest ≡ last_modseq))

-- so is each row behind records that are applied in turn
abbrev pub RowsStayOrRise : Type 0
RowsStayOrRise = (m n : Mailbox) (rs : List Record) → IsValid m → All (λ r. IsInRange r.body) rs → applied m rs ≡ Some n → All (StaysOrRises m n) n.rows
