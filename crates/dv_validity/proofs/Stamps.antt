-- What the record's modification sequence leaves: a higher number of the mailbox, and of the rows that it changed.
use Rattle.std.proofs.Common.{◌≡◌, ℕ, ◌≤◌, Bool, true, false, cond, List, refl, arith}
use Rattle.std.specs.List.{list_any}
use Rattle.dv_model.specs.declared.types.Mailbox.{Mailbox}
use Rattle.dv_model.specs.declared.types.Row.{Row}
use Rattle.dv_model.specs.Effects.{is_as_before, stamped, stamped_row, with_higher}
use Rattle.dv_model.specs.Mailboxes.{IsRowOf, IsValid, last_modseq}
use Rattle.dv_validity.proofs.Rows.{IsWider, mapped_valid, rows_in}

-- ---- the mailbox's number

pub higher_valid : (m : Mailbox) → IsValid m → IsValid (with_higher m)
higher_valid m valid =
    let n : Mailbox = with_higher m in
    let low : 1 ≤ m.highest = valid.highest.0 in
    let high : m.highest ≤ last_modseq = valid.highest.1 in
    let wider : IsWider m n = record { next_uid = omega arith; keywords = omega arith; highest = omega arith } in
    record {
      next_uid = valid.next_uid;
      rising = valid.rising;
      rows = rows_in m n m.rows wider refl valid.rows;
      names = valid.names;
      extensions = valid.extensions;
      current = valid.current;
      highest = (omega arith, omega arith);
    }

-- ---- the rows' numbers

uid_by : (b : Bool) (n : ℕ) (row : Row) → (cond b row (record row { modseq = n })).uid ≡ row.uid
uid_by true n row = refl
uid_by false n row = refl

row_by : (m : Mailbox) (b : Bool) (row : Row) → 1 ≤ m.highest → IsRowOf m row → IsRowOf m (cond b row (record row { modseq = m.highest }))
row_by m true row low is = is
row_by m false row low is = record { uid = is.uid; keywords = is.keywords; parts = is.parts; modseq = (low, omega arith) }

pub stamped_valid : (before : List Row) (m : Mailbox) → IsValid m → IsValid (stamped before m)
stamped_valid before m valid =
    mapped_valid m (stamped_row before m.highest) (λ row. uid_by (list_any (is_as_before row) before) m.highest row) (λ row is. row_by m (list_any (is_as_before row) before) row valid.highest.0 is) valid
