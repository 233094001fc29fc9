-- What appends leave.
use Rattle.std.proofs.Common.{◌≡◌, ℕ, ◌-◌, ◌^◌, ◌<◌, ◌≤◌, Bool, true, false, cond, List, [], ◌∷◌, length, nat_lt, Some, None, refl, sym, ◌∙◌, subst, arith}
use Rattle.std.proofs.lemmas.Bool.{ltb-false}
use Rattle.std.specs.Prelude.{All, map, replicate}
use Rattle.std.specs.List.Sorted.{IsStrictlyIncreasing}
use Rattle.std.proofs.lemmas.Bool.Decides.{nat_tests}
use Rattle.std.proofs.lemmas.List.{map_push, length-replicate}
use Rattle.std.proofs.lemmas.List.Elements.{All-head, All-tail, All-map, All-nil, All-push, All-weaker}
use Rattle.dv_model.specs.declared.types.Mailbox.{Mailbox}
use Rattle.dv_model.specs.declared.types.NewRow.{NewRow}
use Rattle.dv_model.specs.declared.types.Row.{Row}
use Rattle.dv_model.specs.Effects.{fresh_row, with_row, with_rows}
use Rattle.dv_model.specs.Mailboxes.{IsRowOf, IsValid}
use Rattle.dv_validity.proofs.Rows.{IsWider, GoesOn, goes_on_again, goes_on_pushed, goes_on_same, map_map, map_same, rising_push, rows_in}

-- ---- one row

fresh_is : (m : Mailbox) (row : NewRow) → IsValid m → m.next_uid ≤ row.uid → IsRowOf (with_row m row) (fresh_row m row)
fresh_is m row valid new = record {
  uid = (omega (arith, valid.next_uid.0), omega arith);
  keywords = (λ k h. absurd (omega arith), All-nil (λ k. k < length m.keywords));
  parts = map_map length (λ e. replicate e.record_size 0) m.extensions ∙ map_same (λ e. length (replicate e.record_size 0)) (λ e. e.record_size) (λ e. length-replicate e.record_size 0) m.extensions;
  modseq = (valid.highest.0, omega arith);
}

below_fresh : (m : Mailbox) (uid : ℕ) → IsValid m → m.next_uid ≤ uid → All (λ x. x < uid) (map (λ row. row.uid) m.rows)
below_fresh m uid valid new =
    All-map (λ x. x < uid) (λ (row : Row). row.uid) m.rows (All-weaker (IsRowOf m) (λ row. row.uid < uid) (λ row is. omega (arith, is.uid.1)) m.rows valid.rows)

pub row_valid : (m : Mailbox) (row : NewRow) → IsValid m → m.next_uid ≤ row.uid → row.uid < 2 ^ 32 - 1 → IsValid (with_row m row)
row_valid m row valid new small =
    let n : Mailbox = with_row m row in
    let wider : IsWider m n = record { next_uid = omega arith; keywords = omega arith; highest = omega arith } in
    record {
      next_uid = (omega arith, omega arith);
      rising = subst IsStrictlyIncreasing (sym (map_push (λ (row : Row). row.uid) m.rows (fresh_row m row))) (rising_push (map (λ row. row.uid) m.rows) row.uid valid.rising (below_fresh m row.uid valid new));
      rows = All-push (IsRowOf n) m.rows (fresh_row m row) (rows_in m n m.rows wider refl valid.rows) (fresh_is m row valid new);
      names = valid.names;
      extensions = valid.extensions;
      current = valid.current;
      highest = valid.highest;
    }

row_goes_on : (m : Mailbox) (row : NewRow) → m.next_uid ≤ row.uid → GoesOn m (with_row m row)
row_goes_on m row new = goes_on_pushed m (with_row m row) (fresh_row m row) new (omega arith) refl refl refl refl

-- ---- rows in turn

abbrev IsSmall : NewRow → Type 0
IsSmall row = row.uid < 2 ^ 32 - 1

rows_valid_by : (m n : Mailbox) (row : NewRow) (rows : List NewRow) → (m.next_uid ≤ row.uid → with_rows (with_row m row) rows ≡ Some n → IsValid n)
    → (b : Bool) → nat_lt row.uid m.next_uid ≡ b → cond b None (with_rows (with_row m row) rows) ≡ Some n → IsValid n
rows_valid_by m n row rows later true e is = absurd cc
rows_valid_by m n row rows later false e is = later (ltb-false row.uid m.next_uid e) is

pub rows_valid : (m n : Mailbox) (rows : List NewRow) → IsValid m → All IsSmall rows → with_rows m rows ≡ Some n → IsValid n
rows_valid m n [] valid small is = let e : m ≡ n = cc in subst IsValid e valid
rows_valid m n (row ∷ rows) valid small is =
    rows_valid_by m n row rows (λ new rest. rows_valid (with_row m row) n rows (row_valid m row valid new (All-head IsSmall row rows small)) (All-tail IsSmall row rows small) rest)
    (nat_lt row.uid m.next_uid) refl is

rows_go_on_by : (m n : Mailbox) (row : NewRow) (rows : List NewRow) → (with_rows (with_row m row) rows ≡ Some n → GoesOn (with_row m row) n)
    → (b : Bool) → nat_lt row.uid m.next_uid ≡ b → cond b None (with_rows (with_row m row) rows) ≡ Some n → GoesOn m n
rows_go_on_by m n row rows later true e is = absurd cc
rows_go_on_by m n row rows later false e is = goes_on_again m (with_row m row) n (row_goes_on m row (ltb-false row.uid m.next_uid e)) (later is)

pub rows_go_on : (m n : Mailbox) (rows : List NewRow) → with_rows m rows ≡ Some n → GoesOn m n
rows_go_on m n [] is =
    let e : m ≡ n = cc in
    subst (GoesOn m) e (goes_on_same m m (omega arith) refl refl refl)
rows_go_on m n (row ∷ rows) is = rows_go_on_by m n row rows (rows_go_on (with_row m row) n rows) (nat_lt row.uid m.next_uid) refl is
