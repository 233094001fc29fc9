-- The item of an id is that of its row.
use Rattle.std.proofs.Common.{◌≡◌, ℕ, suc, ◌<◌, ◌≤◌, Bool, true, false, cond, List, [], ◌∷◌, length, get_or, map, nat_eq, nat_lt, Option, Some, None, refl, sym, ◌∙◌, ap, subst, arith}
use Rattle.std.specs.Prelude.{option_map, position, slice_get}
use Rattle.std.specs.List.{find, position_or_len}
use Rattle.std.specs.Option.{option_and_then}
use Rattle.std.proofs.lemmas.Bool.{eqb-true, ltb-false, ltb-true}
use Rattle.std.proofs.lemmas.List.Folds.{find_at}
use Rattle.std.proofs.lemmas.Option.{option_and_then_some, slice_get_past}
use Rattle.dv_model.specs.declared.types.Mailbox.{Mailbox}
use Rattle.dv_model.specs.declared.types.Row.{Row}
use Rattle.dv_maps.specs.Maps.{row_count, row_place}
use Rattle.dv_maps.specs.Storages.{item_of, storage_of}
use Rattle.dv_maps.specs.Texts.{Messages}
use Rattle.dv_mdbox.specs.declared.looking.Reference.{Reference}
use Rattle.dv_mdbox.specs.Looks.{reference_in, reference_of, row_of}
use Rattle.dv_mdbox_lines.specs.Playing.{count_in, item_with, references}

abbrev is_of : ℕ → Row → Bool
is_of id row = nat_eq row.uid id

module _ (id : ℕ) where
  pub row_found : (rows : List Row) → option_and_then (slice_get rows) (position (is_of id) rows) ≡ find (is_of id) rows
  row_found rows = by (nat_lt (position_or_len (is_of id) rows) (length rows)) refl
    where
      by : (b : Bool) → nat_lt (position_or_len (is_of id) rows) (length rows) ≡ b → option_and_then (slice_get rows) (cond b (Some (position_or_len (is_of id) rows)) None) ≡ find (is_of id) rows
      by true is = sym (find_at (is_of id) rows)
      by false is = sym (find_at (is_of id) rows ∙ slice_get_past rows (position_or_len (is_of id) rows) (ltb-false (position_or_len (is_of id) rows) (length rows) is))

  -- it is one of the rows
  pub find_in : (rows : List Row) (row : Row) → find (is_of id) rows ≡ Some row → (k : ℕ) × (k < length rows) × (get_or rows k row ≡ row) × (row.uid ≡ id)
  find_in [] row is = absurd (let no : None ≡ Some row = is in cc)
  find_in (r ∷ rows) row is = by (is_of id r) refl (find_in rows row) is
    where
      same : (a b : Row) → Some a ≡ Some b → a ≡ b
      same a b e = cc

      by : (b : Bool) → is_of id r ≡ b → (find (is_of id) rows ≡ Some row → (k : ℕ) × (k < length rows) × (get_or rows k row ≡ row) × (row.uid ≡ id)) → cond b (Some r) (find (is_of id) rows) ≡ Some row
          → (k : ℕ) × (k < length (r ∷ rows)) × (get_or (r ∷ rows) k row ≡ row) × (row.uid ≡ id)
      by true test others found = (0, omega arith, same r row found, subst (λ (x : Row). x.uid ≡ id) (same r row found) (eqb-true r.uid id test))
      by false test others found =
          let rest = others found in
          (suc rest.0, let less = rest.1 in omega (arith, less), rest.2, rest.3)

module _ (messages : Messages) (m : Mailbox) (id : ℕ) where
  item_found : (rows : List Row) → item_with id (map (item_of messages m) rows) ≡ option_map (item_of messages m) (find (is_of id) rows)
  item_found [] = refl
  item_found (r ∷ rows) = by (is_of id r) (item_found rows)
    where
      by : (b : Bool) → item_with id (map (item_of messages m) rows) ≡ option_map (item_of messages m) (find (is_of id) rows)
          → cond b (Some (item_of messages m r)) (item_with id (map (item_of messages m) rows)) ≡ option_map (item_of messages m) (cond b (Some r) (find (is_of id) rows))
      by true rest = refl
      by false rest = rest

  pub item_is : item_with id (storage_of messages m).items ≡ option_map (item_of messages m) (row_of m id)
  item_is = item_found m.rows ∙ ap (option_map (item_of messages m)) (sym (row_found id m.rows))

  -- an id with references
  pub record HasReference (r : Reference) : Type 0 where
    pub row : Row
    pub there : row_of m id ≡ Some row
    pub count : row_count m row ≡ r.count
    pub place : row_place m row ≡ r.place
    pub some : 1 ≤ r.count
    pub item : item_with id (storage_of messages m).items ≡ Some (item_of messages m row)

  by_count : (row : Row) (r : Reference) (b : Bool) → nat_lt 0 (row_count m row) ≡ b → cond b (Some (record { count = row_count m row; place = row_place m row })) None ≡ Some r → row_of m id ≡ Some row → HasReference r
  by_count row r false test is there = absurd (let no : None ≡ Some r = is in cc)
  by_count row r true test is there =
      let one : Reference = record { count = row_count m row; place = row_place m row } in
      let same : one ≡ r = some_same one r is in
      let counts : row_count m row ≡ r.count = ap (λ (x : Reference). x.count) same in
      let less : 0 < row_count m row = ltb-true 0 (row_count m row) test in
      record {
        row = row;
        there = there;
        count = counts;
        place = ap (λ (x : Reference). x.place) same;
        some = omega (arith, less, counts);
        item = item_is ∙ ap (option_map (item_of messages m)) there;
      }
    where
      some_same : (a b : Reference) → Some a ≡ Some b → a ≡ b
      some_same a b e = cc

  pub has_reference : (r : Reference) → reference_of m id ≡ Some r → HasReference r
  has_reference r is =
      option_and_then_some (reference_in m) (row_of m id) r is
      (λ row found made. by_count row r (nat_lt 0 (row_count m row)) refl made found)

  pub referenced : (r : Reference) → reference_of m id ≡ Some r → references (storage_of messages m) id ≡ r.count
  referenced r is =
      let has = has_reference r is in
      ap count_in has.item ∙ has.count

  pub none_referenced : reference_of m id ≡ None → references (storage_of messages m) id ≡ 0
  none_referenced none = by_row (row_of m id) refl
    where
      no_reference : Option Reference
      no_reference = None

      differ : (r : Reference) → Some r ≡ None → ⊥
      differ r e = cc

      by_test : (row : Row) (b : Bool) → nat_lt 0 (row_count m row) ≡ b → cond b (Some (record { count = row_count m row; place = row_place m row })) None ≡ no_reference → row_count m row ≡ 0
      by_test row true test is = absurd (differ (record { count = row_count m row; place = row_place m row }) is)
      by_test row false test is =
          let most : row_count m row ≤ 0 = ltb-false 0 (row_count m row) test in
          omega (arith, most)

      by_row : (o : Option Row) → row_of m id ≡ o → references (storage_of messages m) id ≡ 0
      by_row None there = ap count_in (item_is ∙ ap (option_map (item_of messages m)) there)
      by_row (Some row) there =
          ap count_in (item_is ∙ ap (option_map (item_of messages m)) there)
          ∙ by_test row (nat_lt 0 (row_count m row)) refl (ap (option_and_then (reference_in m)) (sym there) ∙ none)
