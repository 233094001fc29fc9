-- A map finds the names of a list that grows and shrinks at its end.
use Rattle.std.proofs.Common.{◌≡◌, ◌≢◌, inl, inr, ℕ, ◌+◌, ◌<◌, ◌≤◌, true, false, cond, not, List, [], ◌∷◌, ◌++◌, length, get_or, take, Option, Some, None, AllPairs, refl, subst, sym, ◌∙◌, ap, arith}
use Rattle.std.specs.BTreeMap.{BTreeMap, UpdatesBy}
use Rattle.std.specs.Cmp.Lexicographic.{slice_cmp}
use Rattle.std.specs.Global.{Vec}
use Rattle.std.specs.List.{position_or_len}
use Rattle.std.specs.Map.{KeepsOthers}
use Rattle.std.specs.Ordering.{is_eq, nat_cmp}
use Rattle.std.specs.Str.{bytes_eq}
use Rattle.std.proofs.lemmas.Bool.{cases_Bool, cases_lt, cond-true, cond-false, false_from_ne_true, lt-ltb, true≢false}
use Rattle.std.proofs.lemmas.Cmp.{eq_by_cmp_equiv, nat_list_cmp_total}
use Rattle.std.proofs.lemmas.List.{get_or-take, get_or_append_left, get_or_at, length-take, length_push, take-take, take_at, take_more}
use Rattle.std.proofs.lemmas.List.Quantifiers.{position-Some}
use Rattle.std.proofs.lemmas.List.Sums.{position_or_len_is}
use Rattle.std.proofs.lemmas.Map.Text.{is_eq-slice_cmp}
use Rattle.std.proofs.lemmas.Slice.Eq.{bytes_eq-Decides}
use Rattle.dv_model.specs.Effects.{place_of}
use Rattle.dv_keywords.specs.Finding.{FindsAll, FindsAlso, found}
use Rattle.dv_keywords.proofs.Lookup.{is_new, place_of_new}

-- ---- where a name stands

same_bytes : (a b : List ℕ) → bytes_eq a b ≡ true → a ≡ b
same_bytes a b = (bytes_eq-Decides a b).0

unlike : (a b : List ℕ) → a ≢ b → bytes_eq a b ≡ false
unlike a b apart = false_from_ne_true (bytes_eq a b) (λ e. apart (same_bytes a b e))

apart_from : (a b : List ℕ) → bytes_eq a b ≡ false → b ≢ a
apart_from a b e same = true≢false (sym ((bytes_eq-Decides a b).1 (sym same)) ∙ e)

-- the answer of a comparison
pub differ : (a b : List ℕ) → not (bytes_eq a b) ≡ true → a ≢ b
differ a b e same = true≢false (sym e ∙ ap not ((bytes_eq-Decides a b).1 same))

pub agree : (a b : List ℕ) → not (bytes_eq a b) ≡ false → a ≡ b
agree a b e = elim (cases_Bool (bytes_eq a b)) [
  | inl same ↦ same_bytes a b same
  | inr other ↦ absurd (true≢false (sym (ap not other) ∙ e))
]

first_is : (names : List (List ℕ)) (name : List ℕ) (i : ℕ) → i < length names → get_or names i [] ≡ name → ((k : ℕ) → k < i → bytes_eq name (get_or names k []) ≡ false) → place_of names name ≡ Some i
first_is names name i below here before =
    let is : position_or_len (bytes_eq name) names ≡ i = position_or_len_is (bytes_eq name) names i [] (omega (arith, below)) before (λ _. (bytes_eq-Decides name (get_or names i [])).1 (sym here)) in
    cond-true _ (Some (position_or_len (bytes_eq name) names)) None (lt-ltb _ _ (omega (arith, is, below))) ∙ ap (λ n. Some n) is

pub none_is : (names : List (List ℕ)) (name : List ℕ) → ((k : ℕ) → k < length names → get_or names k [] ≢ name) → place_of names name ≡ None
none_is names name others =
    let is : position_or_len (bytes_eq name) names ≡ length names = position_or_len_is (bytes_eq name) names (length names) [] (omega arith) (λ k below. unlike name (get_or names k []) (λ e. others k below (sym e))) (λ below. absurd (omega (arith, below))) in
    cond-false _ (Some (position_or_len (bytes_eq name) names)) None (grind (arith, is))

-- a name at the end is no other name
other_than : (names : List (List ℕ)) (last name : List ℕ) → bytes_eq last name ≡ false → place_of (names ++ last ∷ []) name ≡ place_of names name
other_than names last name differs = by_place (place_of names name) refl
  where
    at_end : (k : ℕ) → k < length names + 1 → (k < length names → get_or names k [] ≢ name) → get_or (names ++ last ∷ []) k [] ≢ name
    at_end k below before =
        elim (cases_lt k (length names)) [
          | inl inside ↦ λ e. before inside (sym (get_or_append_left names (last ∷ []) [] k inside) ∙ e)
          | inr past ↦ λ e. apart_from last name differs (sym e ∙ get_or_at names last [] [] k (omega (arith, below, past)))
        ]

    by_place : (o : Option ℕ) → place_of names name ≡ o → place_of (names ++ last ∷ []) name ≡ place_of names name
    by_place None e = none_is (names ++ last ∷ []) name (λ k below. at_end k (omega (arith, below, length_push names last)) (λ inside. is_new names name e k [] inside)) ∙ sym e
    by_place (Some i) e =
        let first = position-Some (bytes_eq name) names i [] e in
        first_is (names ++ last ∷ []) name i (omega (arith, first.0, length_push names last)) (get_or_append_left names (last ∷ []) [] i first.0 ∙ sym (same_bytes name (get_or names i []) first.1)) (λ k less. ap (bytes_eq name) (get_or_append_left names (last ∷ []) [] k (omega (arith, less, first.0))) ∙ first.2 k less) ∙ sym e

-- names that have a new one at their end
pub with_last : (names : List (List ℕ)) (last : List ℕ) → place_of names last ≡ None → (name : List ℕ) → place_of (names ++ last ∷ []) name ≡ cond (bytes_eq last name) (Some (length names)) (place_of names name)
with_last names last new name =
    elim (cases_Bool (bytes_eq last name)) [
      | inl same ↦ ap (λ n. place_of (names ++ last ∷ []) n) (sym (same_bytes last name same)) ∙ place_of_new names last new ∙ sym (cond-true _ (Some (length names)) (place_of names name) same)
      | inr other ↦ other_than names last name other ∙ sym (cond-false _ (Some (length names)) (place_of names name) other)
    ]

-- the last of distinct names is new
pub last_is_new : (names : List (List ℕ)) (last : List ℕ) → AllPairs (λ a b. a ≢ b) (names ++ last ∷ []) → place_of names last ≡ None
last_is_new names last apart = none_is names last (λ k below e. apart k (length names) [] below (omega (arith, length_push names last)) (get_or_append_left names (last ∷ []) [] k below ∙ e ∙ sym (get_or_at names last [] [] (length names) refl)))

-- the first names have a name where all do
pub in_front : (names : List (List ℕ)) (name : List ℕ) (n i : ℕ) → place_of names name ≡ Some i → i < n → place_of (take n names) name ≡ Some i
in_front names name n i e less =
    let first = position-Some (bytes_eq name) names i [] e in
    first_is (take n names) name i (omega (arith, first.0, less, length-take n names)) (get_or-take n names i [] less ∙ sym (same_bytes name (get_or names i []) first.1)) (λ k before. ap (bytes_eq name) (get_or-take n names k [] (omega (arith, less, before))) ∙ first.2 k before)

pub behind_front : (names : List (List ℕ)) (name : List ℕ) (n i : ℕ) → place_of names name ≡ Some i → n ≤ i → place_of (take n names) name ≡ None
behind_front names name n i e past =
    let first = position-Some (bytes_eq name) names i [] e in
    none_is (take n names) name (λ k below same. true≢false (sym ((bytes_eq-Decides name (get_or names k [])).1 (sym same ∙ get_or-take n names k [] (omega (arith, below, length-take n names)))) ∙ first.2 k (omega (arith, below, past, length-take n names))))

pub not_in_front : (names : List (List ℕ)) (name : List ℕ) (n : ℕ) → place_of names name ≡ None → place_of (take n names) name ≡ None
not_in_front names name n e = none_is (take n names) name (λ k below same. is_new names name e k [] (omega (arith, below, length-take n names)) (sym (get_or-take n names k [] (omega (arith, below, length-take n names))) ∙ same))

-- ---- where a map finds it

by_keys : (name other : List ℕ) (old new : BTreeMap (Vec ℕ) ℕ) → KeepsOthers (λ (x y : Vec ℕ). is_eq (slice_cmp nat_cmp x.items y.items)) (λ k. is_eq (slice_cmp nat_cmp name k.items)) old.entries new.entries
    → ((k : Vec ℕ) → is_eq (slice_cmp nat_cmp name k.items) ≡ true → is_eq (slice_cmp nat_cmp other k.items) ≡ false) → found new other ≡ found old other
unfolding KeepsOthers
by_keys name other old new keeps others = keeps (λ k. is_eq (slice_cmp nat_cmp other k.items)) (λ x y. (eq_by_cmp_equiv nat_list_cmp_total).congr other x.items y.items) others

-- one name's place changes
pub updated : (name : List ℕ) (old new : BTreeMap (Vec ℕ) ℕ) (place : Option ℕ) → UpdatesBy (λ x y. slice_cmp nat_cmp x.items y.items) (λ key. slice_cmp nat_cmp name key.items) old new place
    → (other : List ℕ) → found new other ≡ cond (bytes_eq name other) place (found old other)
updated name old new place is other =
    elim (cases_Bool (bytes_eq name other)) [
      | inl same ↦ subst (λ n. found new n ≡ place) (same_bytes name other same) is.1 ∙ sym (cond-true _ place (found old other) same)
      | inr apart ↦ by_keys name other old new is.3 (λ k at. is_eq-slice_cmp other k.items ∙ unlike other k.items (λ e. apart_from name other apart (e ∙ sym (same_bytes name k.items (sym (is_eq-slice_cmp name k.items) ∙ at))))) ∙ sym (cond-false _ place (found old other) apart)
    ]

-- ---- as names come and go

-- one more name, at the end
pub finds_more : (names : List (List ℕ)) (last : List ℕ) (at : ℕ) (old new : BTreeMap (Vec ℕ) ℕ) → place_of names last ≡ None → at ≡ length names → FindsAll old names
    → ((other : List ℕ) → found new other ≡ cond (bytes_eq last other) (Some at) (found old other)) → FindsAll new (names ++ last ∷ [])
finds_more names last at old new is_new end finds is name =
    is name ∙ ap (λ n. cond (bytes_eq last name) (Some n) (found old name)) end ∙ ap (λ o. cond (bytes_eq last name) (Some (length names)) o) (finds name) ∙ sym (with_last names last is_new name)

-- one that was found beside them
pub finds_last : (names : List (List ℕ)) (last : List ℕ) (at : ℕ) (map : BTreeMap (Vec ℕ) ℕ) → place_of names last ≡ None → at ≡ length names → FindsAlso last at map names → FindsAll map (names ++ last ∷ [])
finds_last names last at map is_new end also name =
    also name ∙ ap (λ n. cond (bytes_eq last name) (Some n) (place_of names name)) end ∙ sym (with_last names last is_new name)

pub finds_also : (names : List (List ℕ)) (one : List ℕ) (at : ℕ) (old new : BTreeMap (Vec ℕ) ℕ) → FindsAll old names
    → ((other : List ℕ) → found new other ≡ cond (bytes_eq one other) (Some at) (found old other)) → FindsAlso one at new names
finds_also names one at old new finds is name = is name ∙ ap (λ o. cond (bytes_eq one name) (Some at) o) (finds name)

-- the last is the one that stays
pub stays : (names : List (List ℕ)) (last one : List ℕ) (at : ℕ) (map : BTreeMap (Vec ℕ) ℕ) → last ≡ one → FindsAlso one at map (names ++ last ∷ []) → FindsAlso one at map names
stays names last one at map same also name =
    also name ∙ elim (cases_Bool (bytes_eq one name)) [
      | inl is ↦ cond-true _ (Some at) _ is ∙ sym (cond-true _ (Some at) (place_of names name) is)
      | inr other ↦ cond-false _ (Some at) _ other ∙ other_than names last name (ap (λ n. bytes_eq n name) same ∙ other) ∙ sym (cond-false _ (Some at) (place_of names name) other)
    ]

-- another last one goes
pub goes : (names : List (List ℕ)) (last one : List ℕ) (at : ℕ) (old new : BTreeMap (Vec ℕ) ℕ) → last ≢ one → AllPairs (λ a b. a ≢ b) (names ++ last ∷ []) → FindsAlso one at old (names ++ last ∷ [])
    → ((other : List ℕ) → found new other ≡ cond (bytes_eq last other) None (found old other)) → FindsAlso one at new names
goes names last one at old new apart distinct also is name =
    is name ∙ elim (cases_Bool (bytes_eq last name)) [
      | inl same ↦ let e : last ≡ name = same_bytes last name same in
          cond-true _ None _ same ∙ sym (ap (place_of names) (sym e) ∙ last_is_new names last distinct) ∙ sym (cond-false _ (Some at) (place_of names name) (unlike one name (λ f. apart (e ∙ sym f))))
      | inr other ↦ cond-false _ None _ other ∙ also name ∙ ap (λ o. cond (bytes_eq one name) (Some at) o) (other_than names last name other)
    ]

-- ---- the first of distinct names

pub distinct_front : (all front : List (List ℕ)) (n : ℕ) → AllPairs (λ a b. a ≢ b) all → front ≡ take n all → AllPairs (λ a b. a ≢ b) front
distinct_front all front n apart is = subst (AllPairs (λ a b. a ≢ b)) (sym is) (λ i j d less below same.
    let most = length-take n all in
    apart i j d less (omega (arith, below, most)) (sym (get_or-take n all i d (omega (arith, less, below, most))) ∙ same ∙ get_or-take n all j d (omega (arith, below, most))))

pub front_of : (all front items : List (List ℕ)) (last : List ℕ) → items ≡ front ++ last ∷ [] → items ≡ take (length items) all → front ≡ take (length front) all
front_of all front items last parts is =
    let size : length items ≡ length front + 1 = ap length parts ∙ length_push front last in
    sym (take_at front (last ∷ []) (length front) refl) ∙ ap (take (length front)) (sym parts ∙ is) ∙ take-take (length front) (length items) all (omega (arith, size))

-- the name at a place isn't among those before it
pub new_at : (names : List (List ℕ)) (at : ℕ) (name d : List ℕ) → AllPairs (λ a b. a ≢ b) names → at < length names → get_or names at d ≡ name → place_of (take at names) name ≡ None
new_at names at name d apart below is = last_is_new (take at names) name (distinct_front names (take at names ++ name ∷ []) (at + 1) apart (ap (λ n. take at names ++ n ∷ []) (sym is) ∙ sym (take_more names at d below)))
