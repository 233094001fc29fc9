-- An append is each of its rows in turn, or is refused.
use Rattle.std.proofs.Common.{◌≡◌, ℕ, ◌+◌, ◌≤◌, Bool, true, false, cond, List, [], ◌∷◌, ◌++◌, nat_lt, Some, None, refl, sym, ◌∙◌, ap, append_assoc, arith}
use Rattle.std.proofs.lemmas.Bool.{ltb-false}
use Rattle.std.specs.Prelude.{All, fold, map, option_map}
use Rattle.std.proofs.lemmas.List.{append-nil}
use Rattle.std.proofs.lemmas.List.Elements.{All-cons, All-map, All-nil, All-weaker}
use Rattle.dv_model.specs.declared.types.Body.TheVariants.{Append}
use Rattle.dv_model.specs.declared.types.Mailbox.{Mailbox}
use Rattle.dv_model.specs.declared.types.NewRow.{NewRow}
use Rattle.dv_model.specs.declared.types.Row.{Row}
use Rattle.dv_model.specs.Effects.{fresh_row, stamped, with_higher, with_row, with_rows}
use Rattle.dv_model.specs.Mailboxes.{IsValid}
use Rattle.dv_validity.proofs.Comparisons.{stamped_with_more}
use Rattle.dv_validity.proofs.Rows.{map_map}
use Rattle.dv_apply.specs.Bodies.{Refused, after_body, first_refused, next_after}

-- ---- refused or not

none_by : (m : Mailbox) (row : NewRow) (rows : List NewRow) (b : Bool) → (first_refused (row.uid + 1) rows ≡ None → with_rows (with_row m row) rows ≡ Some (fold with_row (with_row m row) rows))
    → cond b (Some (record { uid = row.uid; next_uid = m.next_uid })) (first_refused (row.uid + 1) rows) ≡ None
    → cond b None (with_rows (with_row m row) rows) ≡ Some (fold with_row (with_row m row) rows)
none_by m row rows true later e = absurd cc
none_by m row rows false later e = later e

-- where no row is refused, each is added in turn
pub rows_in_turn : (m : Mailbox) (rows : List NewRow) → first_refused m.next_uid rows ≡ None → with_rows m rows ≡ Some (fold with_row m rows)
rows_in_turn m [] e = refl
rows_in_turn m (row ∷ rows) e = none_by m row rows (nat_lt row.uid m.next_uid) (rows_in_turn (with_row m row) rows) e

some_by : (m : Mailbox) (row : NewRow) (rows : List NewRow) (x : Refused) (b : Bool) → (first_refused (row.uid + 1) rows ≡ Some x → with_rows (with_row m row) rows ≡ None)
    → cond b (Some (record { uid = row.uid; next_uid = m.next_uid })) (first_refused (row.uid + 1) rows) ≡ Some x
    → cond b None (with_rows (with_row m row) rows) ≡ None
some_by m row rows x true later e = refl
some_by m row rows x false later e = later e

-- where a row is refused, all are
pub rows_refused : (m : Mailbox) (rows : List NewRow) (x : Refused) → first_refused m.next_uid rows ≡ Some x → with_rows m rows ≡ None
rows_refused m [] x e = absurd cc
rows_refused m (row ∷ rows) x e = some_by m row rows x (nat_lt row.uid m.next_uid) (rows_refused (with_row m row) rows x) e

new_by : (next : ℕ) (row : NewRow) (rows : List NewRow) (b : Bool) → nat_lt row.uid next ≡ b → (first_refused (row.uid + 1) rows ≡ None → All (λ (x : NewRow). row.uid + 1 ≤ x.uid) rows)
    → cond b (Some (record { uid = row.uid; next_uid = next })) (first_refused (row.uid + 1) rows) ≡ None → All (λ (x : NewRow). next ≤ x.uid) (row ∷ rows)
new_by next row rows true lt later e = absurd cc
new_by next row rows false lt later e =
    let le : next ≤ row.uid = ltb-false row.uid next lt in
    All-cons (λ (x : NewRow). next ≤ x.uid) row rows le (All-weaker (λ (x : NewRow). row.uid + 1 ≤ x.uid) (λ (x : NewRow). next ≤ x.uid) (λ x h. omega arith) rows (later e))

-- no UID of them was given out before
all_new : (next : ℕ) (rows : List NewRow) → first_refused next rows ≡ None → All (λ (x : NewRow). next ≤ x.uid) rows
all_new next [] e = All-nil (λ (x : NewRow). next ≤ x.uid)
all_new next (row ∷ rows) e = new_by next row rows (nat_lt row.uid next) refl (all_new (row.uid + 1) rows) e

-- ---- what stands behind them

pub folded : (m : Mailbox) (rows : List NewRow) → fold with_row m rows ≡ record m { rows = m.rows ++ map (fresh_row m) rows; next_uid = next_after m.next_uid rows }
folded m [] = ap (λ (rs : List Row). record m { rows = rs }) (sym (append-nil m.rows))
folded m (row ∷ rows) =
    folded (with_row m row) rows
    ∙ ap (λ (rs : List Row). record m { rows = rs; next_uid = next_after (row.uid + 1) rows }) (append_assoc m.rows (fresh_row m row ∷ []) (map (fresh_row m) rows))

-- new rows have the record's modification sequence already
pub appended : (m : Mailbox) (rows : List NewRow) → IsValid m → first_refused m.next_uid rows ≡ None → after_body m (Append rows) ≡ Some (fold with_row (with_higher m) rows)
appended m rows valid new =
    let h : Mailbox = with_higher m in
    let more : List Row = map (fresh_row h) rows in
    let n : Mailbox = record h { rows = m.rows ++ more; next_uid = next_after h.next_uid rows } in
    let above : All (λ (row : Row). m.next_uid ≤ row.uid) more = All-map (λ (row : Row). m.next_uid ≤ row.uid) (fresh_row h) rows (all_new m.next_uid rows new) in
    let same : stamped m.rows n ≡ n = stamped_with_more m n more valid above refl ∙ ap (λ (rs : List Row). record n { rows = m.rows ++ rs }) (map_map (λ (row : Row). record row { modseq = n.highest }) (fresh_row h) rows) in
    ap (option_map (stamped m.rows)) (rows_in_turn h rows new)
    ∙ ap (λ k. Some (stamped m.rows k)) (folded h rows)
    ∙ ap Some same
    ∙ ap Some (sym (folded h rows))

pub not_appended : (m : Mailbox) (rows : List NewRow) (x : Refused) → first_refused m.next_uid rows ≡ Some x → after_body m (Append rows) ≡ None
not_appended m rows x e = ap (option_map (stamped m.rows)) (rows_refused (with_higher m) rows x e)

rest_by : (next : ℕ) (row : NewRow) (rows : List NewRow) (b : Bool) → cond b (Some (record { uid = row.uid; next_uid = next })) (first_refused (row.uid + 1) rows) ≡ None → first_refused (row.uid + 1) rows ≡ None
rest_by next row rows true e = absurd cc
rest_by next row rows false e = e

-- where none is refused, none of the later ones is
pub rest_new : (next : ℕ) (row : NewRow) (rows : List NewRow) → first_refused next (row ∷ rows) ≡ None → first_refused (row.uid + 1) rows ≡ None
rest_new next row rows e = rest_by next row rows (nat_lt row.uid next) e
