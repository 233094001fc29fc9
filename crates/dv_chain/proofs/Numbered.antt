-- A valid mailbox stays valid with one modification sequence everywhere.
use Rattle.std.proofs.Common.{◌≡◌, ℕ, ◌≤◌, List, [], ◌∷◌, map, refl, sym, ap, subst, arith, All}
use Rattle.std.specs.List.Sorted.{IsStrictlyIncreasing}
use Rattle.std.proofs.lemmas.List.Elements.{All-cons, All-head, All-nil, All-tail}
use Rattle.dv_model.specs.declared.types.Mailbox.{Mailbox}
use Rattle.dv_model.specs.declared.types.Row.{Row}
use Rattle.dv_model.specs.Mailboxes.{IsRowOf, IsValid, last_modseq}
use Rattle.dv_openings.specs.Openings.{all_numbered, numbered_row}

same_uids : (n : ℕ) (rows : List Row) → map (λ row. row.uid) (map (numbered_row n) rows) ≡ map (λ row. row.uid) rows
same_uids n [] = refl
same_uids n (row ∷ rows) = ap (λ (uids : List ℕ). row.uid ∷ uids) (same_uids n rows)

numbered_rows : (n : ℕ) (m : Mailbox) (rows : List Row) → 1 ≤ n → All (IsRowOf m) rows → All (IsRowOf (all_numbered n m)) (map (numbered_row n) rows)
numbered_rows n m [] some all = All-nil (IsRowOf (all_numbered n m))
numbered_rows n m (row ∷ rows) some all =
    let is = All-head (IsRowOf m) row rows all in
    All-cons (IsRowOf (all_numbered n m)) (numbered_row n row) (map (numbered_row n) rows)
    (record { uid = is.uid; keywords = is.keywords; parts = is.parts; modseq = (some, omega arith) })
    (numbered_rows n m rows some (All-tail (IsRowOf m) row rows all))

pub numbered_valid : (n : ℕ) (m : Mailbox) → 1 ≤ n → n ≤ last_modseq → IsValid m → IsValid (all_numbered n m)
numbered_valid n m some small valid = record {
  next_uid = valid.next_uid;
  rising = subst IsStrictlyIncreasing (sym (same_uids n m.rows)) valid.rising;
  rows = numbered_rows n m m.rows some valid.rows;
  names = valid.names;
  extensions = valid.extensions;
  current = valid.current;
  highest = (some, small);
}
