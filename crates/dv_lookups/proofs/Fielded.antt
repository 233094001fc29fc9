-- The names that are missing, and what was found, behind one field more.
use Rattle.std.proofs.Common.{◌≡◌, ℕ, Bool, true, false, ◌&&◌, cond, inl, inr, List, ◌∷◌, Option, Some, None, refl, subst, sym, ◌∙◌, ap}
use Rattle.std.specs.Prelude.{MatchOption, bytes_eq, find, is_some}
use Rattle.std.specs.BTreeMap.{BTreeMap, UpdatesBy}
use Rattle.std.specs.Cmp.Lexicographic.{slice_cmp}
use Rattle.std.specs.Global.{Vec}
use Rattle.std.specs.Map.{KeepsOthers}
use Rattle.std.specs.Option.{option_map}
use Rattle.std.specs.Ordering.{is_eq, nat_cmp}
use Rattle.std.specs.Str.{str_to_ascii_lowercase}
use Rattle.std.proofs.lemmas.Bool.{cases_Bool, cond-true, cond-false, false_from_ne_true, true≢false}
use Rattle.std.proofs.lemmas.Cmp.{eq_by_cmp_equiv, nat_list_cmp_total}
use Rattle.std.proofs.lemmas.Map.Text.{is_eq-slice_cmp}
use Rattle.std.proofs.lemmas.Slice.Eq.{bytes_eq-Decides}
use Rattle.dv_model.specs.Fields.{field_value, is_named}
use Rattle.dv_lookups.specs.Headers.{IsAsked, IsTold, at_key, at_name, first_of, found_behind}

-- ---- a map with one key more or less

same_bytes : (a b : List ℕ) → bytes_eq a b ≡ true → a ≡ b
same_bytes a b = (bytes_eq-Decides a b).0

unlike : (a b : List ℕ) → (a ≡ b → ⊥) → bytes_eq a b ≡ false
unlike a b apart = false_from_ne_true (bytes_eq a b) (λ e. apart (same_bytes a b e))

apart_from : (a b : List ℕ) → bytes_eq a b ≡ false → b ≡ a → ⊥
apart_from a b e same = true≢false (sym ((bytes_eq-Decides a b).1 (sym same)) ∙ e)

module _ {X : Type 0} where
  by_keys : (name other : List ℕ) (old new : BTreeMap (Vec ℕ) X) → KeepsOthers (λ (x y : Vec ℕ). is_eq (slice_cmp nat_cmp x.items y.items)) (λ k. is_eq (slice_cmp nat_cmp name k.items)) old.entries new.entries
      → ((k : Vec ℕ) → is_eq (slice_cmp nat_cmp name k.items) ≡ true → is_eq (slice_cmp nat_cmp other k.items) ≡ false) → at_key new other ≡ at_key old other
  unfolding KeepsOthers
  by_keys name other old new keeps others = keeps (λ k. is_eq (slice_cmp nat_cmp other k.items)) (λ x y. (eq_by_cmp_equiv nat_list_cmp_total).congr other x.items y.items) others

  -- one key changes
  pub updated : (name : List ℕ) (old new : BTreeMap (Vec ℕ) X) (value : Option X) → UpdatesBy (λ x y. slice_cmp nat_cmp x.items y.items) (λ key. slice_cmp nat_cmp name key.items) old new value
      → (other : List ℕ) → at_key new other ≡ cond (bytes_eq name other) value (at_key old other)
  updated name old new value is other =
      elim (cases_Bool (bytes_eq name other)) [
        | inl same ↦ subst (λ n. at_key new n ≡ value) (same_bytes name other same) is.1 ∙ sym (cond-true _ value (at_key old other) same)
        | inr apart ↦ by_keys name other old new is.3 (λ k at. is_eq-slice_cmp other k.items ∙ unlike other k.items (λ e. apart_from name other apart (e ∙ sym (same_bytes name k.items (sym (is_eq-slice_cmp name k.items) ∙ at))))) ∙ sym (cond-false _ value (at_key old other) apart)
      ]

-- ---- one field more

module _ {X : Type 0} (fields more : List (List ℕ)) (field name : List ℕ) (missing : BTreeMap (Vec ℕ) X) (values : BTreeMap (Vec ℕ) (List ℕ)) where
  -- a line that is no field of the name
  pub told_other : is_named name field ≡ false → IsTold fields (field ∷ more) missing values name → IsTold fields more missing values name
  told_other other told = by_missing (at_name missing name) told
    where
      first : first_of (field ∷ more) name ≡ first_of more name
      first = ap (λ b. option_map field_value (cond b (Some field) (find (is_named name) more))) other

      by_missing : (o : Option X) → MatchOption o (at_name values name ≡ first_of fields name) (λ asked. (at_name values name ≡ None) × (first_of fields name ≡ first_of (field ∷ more) name))
          → MatchOption o (at_name values name ≡ first_of fields name) (λ asked. (at_name values name ≡ None) × (first_of fields name ≡ first_of more name))
      by_missing None is = is
      by_missing (Some x) is = (is.0, is.1 ∙ first)

-- a name that is asked stays asked beside others
pub asks_also : {X : Type 0} (bytes : List ℕ) (old new : BTreeMap (Vec ℕ) X) (x : X) → ((other : List ℕ) → at_key new other ≡ cond (bytes_eq bytes other) (Some x) (at_key old other))
    → (name : List ℕ) → IsAsked old name → IsAsked new name
asks_also {X} bytes old new x is name asked = ap is_some (is key) ∙ by_test (bytes_eq bytes key)
  where
    key : List ℕ
    key = str_to_ascii_lowercase name

    by_test : (b : Bool) → is_some (cond b (Some x) (at_key old key)) ≡ true
    by_test true = refl
    by_test false = asked

-- what was found of a missing name
pub found_one : {X : Type 0} (bytes value : List ℕ) (missing : BTreeMap (Vec ℕ) X) (old new : BTreeMap (Vec ℕ) (List ℕ)) → is_some (at_key missing bytes) ≡ true
    → ((other : List ℕ) → at_key new other ≡ cond (bytes_eq bytes other) (Some value) (at_key old other)) → (key : List ℕ) → at_key new key ≡ found_behind bytes value missing old key
found_one bytes value missing old new has is key = is key ∙ by_test (bytes_eq bytes key) refl
  where
    by_test : (b : Bool) → bytes_eq bytes key ≡ b → cond b (Some value) (at_key old key) ≡ cond (b && is_some (at_key missing key)) (Some value) (at_key old key)
    by_test true same = ap (λ b. cond b (Some value) (at_key old key)) (sym (subst (λ k. is_some (at_key missing k) ≡ true) (same_bytes bytes key same) has))
    by_test false other = refl
