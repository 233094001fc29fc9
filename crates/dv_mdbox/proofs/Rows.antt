-- The row of an id is the only one of that id.
use Rattle.std.proofs.Common.{◌≡◌, ⊎_elim, ℕ, ◌<◌, ◌≤◌, Bool, true, false, cond, List, length, get_or, nat_eq, nat_lt, Some, None, refl, sym, ◌∙◌, ap, arith, eq-eqb}
use Rattle.std.specs.Prelude.{All, map, position, slice_get}
use Rattle.std.specs.List.{position_or_len}
use Rattle.std.specs.Option.{option_and_then}
use Rattle.std.proofs.lemmas.Bool.{cases_lt, eqb-true, lt-ltb, ltb-true, ne_eqb}
use Rattle.std.proofs.lemmas.List.{get_or-map, get_or_default, length-map}
use Rattle.std.proofs.lemmas.List.Kept.{AllPairs-from_increasing}
use Rattle.std.proofs.lemmas.List.Quantifiers.{position-Some}
use Rattle.std.proofs.lemmas.List.Sums.{position_or_len_is}
use Rattle.std.proofs.lemmas.Option.{get_or_from_slice_get, option_and_then_some, slice_get-get_or}
use Rattle.dv_model.specs.declared.types.Mailbox.{Mailbox}
use Rattle.dv_model.specs.declared.types.Row.{Row}
use Rattle.dv_model.specs.Mailboxes.{IsValid}
use Rattle.dv_maps.specs.Laws.{HasCount}
use Rattle.dv_maps.specs.Maps.{row_count, row_place}
use Rattle.dv_mdbox.specs.declared.looking.Reference.{Reference}
use Rattle.dv_mdbox.specs.Looks.{reference_in, reference_of, row_of}

abbrev is_of : ℕ → Row → Bool
is_of id row = nat_eq row.uid id

-- a row at a place with the id, which is the only one
pub record IsOnly (m : Mailbox) (id : ℕ) (row : Row) : Type 0 where
  pub some : 1 ≤ length m.rows
  pub uid : row.uid ≡ id
  pub only : All (λ (r : Row). r.uid ≡ id → r ≡ row) m.rows

module _ (m : Mailbox) (valid : IsValid m) (id : ℕ) where
  abbrev uids : List ℕ
  uids = map (λ (row : Row). row.uid) m.rows

  below : (d : Row) (i j : ℕ) → i < j → j < length m.rows → (get_or m.rows i d).uid < (get_or m.rows j d).uid
  below d i j less inside =
      let long = length-map m.rows (λ (row : Row). row.uid) in
      let rises = AllPairs-from_increasing uids valid.rising i j d.uid less (omega (arith, long, inside)) in
      let one : get_or uids i d.uid ≡ (get_or m.rows i d).uid = get_or-map (λ (row : Row). row.uid) m.rows i d d.uid (omega (arith, less, inside)) in
      let two : get_or uids j d.uid ≡ (get_or m.rows j d).uid = get_or-map (λ (row : Row). row.uid) m.rows j d d.uid inside in
      omega (arith, rises, one, two)

  same_place : (d : Row) (i j : ℕ) → i < length m.rows → j < length m.rows → (get_or m.rows i d).uid ≡ (get_or m.rows j d).uid → i ≡ j
  same_place d i j first second same =
      ⊎_elim (λ less. absurd (let rises = below d i j less second in omega (arith, rises, same)))
      (λ more. ⊎_elim (λ less. absurd (let rises = below d j i less first in omega (arith, rises, same))) (λ least. omega (arith, more, least)) (cases_lt j i)) (cases_lt i j)

  only_at : (row : Row) (k : ℕ) → k < length m.rows → get_or m.rows k row ≡ row → row.uid ≡ id → IsOnly m id row
  only_at row k inside at uid = record {
    some = omega (arith, inside);
    uid = uid;
    only = λ j d less is.
        let here : get_or m.rows k d ≡ row = get_or_default m.rows k d row inside ∙ at in
        let same : j ≡ k = same_place d j k less inside (is ∙ sym (ap (λ (r : Row). r.uid) here ∙ uid)) in
        ap (λ (n : ℕ). get_or m.rows n d) same ∙ here;
  }

  row_only : (row : Row) → row_of m id ≡ Some row → IsOnly m id row
  row_only row is =
      option_and_then_some (slice_get m.rows) (position (is_of id) m.rows) row is
      (λ k found get.
      let first = position-Some (is_of id) m.rows k row found in
      let at : get_or m.rows k row ≡ row = get_or_from_slice_get m.rows k row row get in
      only_at row k first.0 at (eqb-true row.uid id (ap (is_of id) (sym at) ∙ first.1)))

  -- an id with references
  pub record IsReference (reference : Reference) : Type 0 where
    pub row : Row
    pub is : IsOnly m id row
    pub count : row_count m row ≡ reference.count
    pub place : row_place m row ≡ reference.place
    pub some : 1 ≤ reference.count

  by_count : (row : Row) (reference : Reference) (b : Bool) → nat_lt 0 (row_count m row) ≡ b → cond b (Some (record { count = row_count m row; place = row_place m row })) None ≡ Some reference → IsOnly m id row → IsReference reference
  by_count row reference false test is only = absurd cc
  by_count row reference true test is only =
      let made : Reference = record { count = row_count m row; place = row_place m row } in
      let same : made ≡ reference = some_same made reference is in
      let less : 0 < row_count m row = ltb-true 0 (row_count m row) test in
      let counts : row_count m row ≡ reference.count = ap (λ (r : Reference). r.count) same in
      record { row = row; is = only; count = counts; place = ap (λ (r : Reference). r.place) same; some = omega (arith, less, counts) }
    where
      some_same : (a b : Reference) → Some a ≡ Some b → a ≡ b
      some_same a b e = cc

  pub reference_is : (reference : Reference) → reference_of m id ≡ Some reference → IsReference reference
  reference_is reference is =
      option_and_then_some (reference_in m) (row_of m id) reference is
      (λ row found made. by_count row reference (nat_lt 0 (row_count m row)) refl made (row_only row found))

  pub count_of_only : (reference : Reference) → IsReference reference → HasCount m id reference.count
  count_of_only reference is = λ k d inside uid. ap (row_count m) (is.is.only k d inside uid) ∙ is.count

-- ---- a row is found by its id

pub row_found : (m : Mailbox) (valid : IsValid m) (d : Row) (k : ℕ) → k < length m.rows → row_of m (get_or m.rows k d).uid ≡ Some (get_or m.rows k d)
row_found m valid d k inside =
    let id : ℕ = (get_or m.rows k d).uid in
    let first : position_or_len (is_of id) m.rows ≡ k =
    position_or_len_is (is_of id) m.rows k d (omega (arith, inside)) (λ j less. ne_eqb (get_or m.rows j d).uid id (λ e. let rises = below m valid id d j k less inside in absurd (omega (arith, rises, e)))) (λ here. eq-eqb id id refl) in
    ap (λ (n : ℕ). option_and_then (slice_get m.rows) (cond (nat_lt n (length m.rows)) (Some n) None)) first
    ∙ ap (λ (b : Bool). option_and_then (slice_get m.rows) (cond b (Some k) None)) (lt-ltb k (length m.rows) inside)
    ∙ slice_get-get_or m.rows k d inside
