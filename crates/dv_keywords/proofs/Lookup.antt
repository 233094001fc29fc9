-- Where a name stands among others.
use Rattle.std.proofs.Common.{◌≡◌, ◌≢◌, ℕ, suc, ◌+◌, ◌-◌, ◌^◌, ◌<◌, ◌≤◌, Bool, true, false, cond, not, ◌||◌, ltb, List, [], ◌∷◌, ◌++◌, length, get_or, take, Option, Some, None, refl, subst, sym, ◌∙◌, ap, arith}
use Rattle.std.specs.List.{list_any, prefix_len, position_or_len}
use Rattle.std.specs.Str.{bytes_eq}
use Rattle.std.proofs.lemmas.Bool.{both_ways, cond-true, cond-false, lt-ltb, ltb-false, eq-eqb}
use Rattle.std.proofs.lemmas.Bool.Decides.{nat_tests}
use Rattle.std.proofs.lemmas.List.{get_or-take, length-take, length_push, take_all, take_at}
use Rattle.std.proofs.lemmas.List.Elements.{All-push}
use Rattle.std.proofs.lemmas.List.Folds.{length-prefix_len, list_any_at, position_or_len_push}
use Rattle.std.proofs.lemmas.List.Quantifiers.{all_pairs_push}
use Rattle.std.proofs.lemmas.Slice.Eq.{bytes_eq-Decides}
use Rattle.dv_model.specs.Effects.{place_of, with_name}
use Rattle.dv_model.specs.Names.{IsName}
use Rattle.dv_keywords.specs.Tables.{IsTable}

some_test : {X : Type 0} (b : Bool) (x y : X) → cond b (Some x) None ≡ Some y → b ≡ true
some_test true x y e = refl
some_test {X = X} false x y e = let none : Option X = None in let other : none ≡ Some y = e in absurd (cc)

none_test : {X : Type 0} (b : Bool) (x : X) → cond b (Some x) None ≡ None → b ≡ false
none_test {X = X} true x e = let none : Option X = None in let other : Some x ≡ none = e in absurd (cc)
none_test false x e = refl

-- some element passes where the first that does stands before the end
first_or_none : {X : Type 0} (p : X → Bool) (xs : List X) → ltb (position_or_len p xs) (length xs) ≡ list_any p xs
first_or_none p [] = refl
first_or_none p (x ∷ xs) =
    elim (p x) as (λ b. ltb (cond (not b) (1 + prefix_len (λ y. not (p y)) xs) 0) (suc (length xs)) ≡ (b || list_any p xs)) [
      | true ↦ lt-ltb 0 (suc (length xs)) (omega arith)
      | false ↦ shifted (prefix_len (λ y. not (p y)) xs) (length xs) ∙ first_or_none p xs
    ]
  where
    shifted : (m n : ℕ) → ltb (1 + m) (suc n) ≡ ltb m n
    shifted m n = grind (arith, nat_tests)

pub has : (names : List (List ℕ)) (name : List ℕ) (at : ℕ) → place_of names name ≡ Some at → list_any (bytes_eq name) names ≡ true
has names name at e = sym (first_or_none (bytes_eq name) names) ∙ some_test (ltb (position_or_len (bytes_eq name) names) (length names)) (position_or_len (bytes_eq name) names) at e

pub lacks : (names : List (List ℕ)) (name : List ℕ) → place_of names name ≡ None → list_any (bytes_eq name) names ≡ false
lacks names name e = sym (first_or_none (bytes_eq name) names) ∙ none_test (ltb (position_or_len (bytes_eq name) names) (length names)) (position_or_len (bytes_eq name) names) e

-- a table that has the name stays
pub kept : (names : List (List ℕ)) (name : List ℕ) (at : ℕ) → place_of names name ≡ Some at → with_name name names ≡ names
kept names name at e = cond-true (list_any (bytes_eq name) names) names (names ++ name ∷ []) (has names name at e)

-- one that lacks it has it at its end
pub added : (names : List (List ℕ)) (name : List ℕ) → place_of names name ≡ None → with_name name names ≡ names ++ name ∷ []
added names name e = cond-false (list_any (bytes_eq name) names) names (names ++ name ∷ []) (lacks names name e)

pub is_new : (names : List (List ℕ)) (name : List ℕ) → place_of names name ≡ None → (k : ℕ) (d : List ℕ) → k < length names → get_or names k d ≢ name
is_new names name e k d below same =
    both_ways (list_any (bytes_eq name) names) (lacks names name e) (list_any_at (bytes_eq name) names k d below ((bytes_eq-Decides name (get_or names k d)).1 (sym same)))

-- where none passes, the place is that of the end
past : {X : Type 0} (p : X → Bool) (xs : List X) → list_any p xs ≡ false → position_or_len p xs ≡ length xs
past p xs none =
    let high : length xs ≤ position_or_len p xs = ltb-false (position_or_len p xs) (length xs) (first_or_none p xs ∙ none) in
    omega (arith, high, length-prefix_len (λ x. not (p x)) xs, length-take (prefix_len (λ x. not (p x)) xs) xs)

pub place_of_new : (names : List (List ℕ)) (name : List ℕ) → place_of names name ≡ None → place_of (names ++ name ∷ []) name ≡ Some (length names)
place_of_new names name e =
    let p = bytes_eq name in
    let before : position_or_len p names ≡ length names = past p names (lacks names name e) in
    let passes : p name ≡ true = (bytes_eq-Decides name name).1 refl in
    let end : position_or_len p (names ++ name ∷ []) ≡ length names =
    position_or_len_push p names name ∙ cond-true _ (length names + cond (p name) 0 1) (position_or_len p names) (eq-eqb (position_or_len p names) (length names) before) ∙ (ap (λ b. length names + cond b 0 1) passes ∙ omega arith) in
    let below : position_or_len p (names ++ name ∷ []) < length (names ++ name ∷ []) = omega (arith, end, length_push names name) in
    cond-true _ (Some (position_or_len p (names ++ name ∷ []))) None (lt-ltb _ _ below) ∙ ap (λ n. Some n) end

-- a table with a new name is a table
pub table_push : (names : List (List ℕ)) (name : List ℕ) → IsTable names → IsName name → place_of names name ≡ None → length names < 2 ^ 32 - 1 → IsTable (names ++ name ∷ [])
table_push names name table is e few = record {
  valid = All-push IsName names name table.valid is;
  distinct = all_pairs_push (λ a b. a ≢ b) names name table.distinct (is_new names name e);
  few = omega (arith, few, length_push names name);
}

-- the first names of a table are one
pub table_front : (names : List (List ℕ)) (n : ℕ) → IsTable names → IsTable (take n names)
table_front names n table =
    let most = length-take n names in
    record {
      valid = λ k d h. subst IsName (sym (get_or-take n names k d (omega arith))) (table.valid k d (omega arith));
      distinct = λ i j d less h same. table.distinct i j d less (omega arith) (sym (get_or-take n names i d (omega arith)) ∙ same ∙ get_or-take n names j d (omega arith));
      few = let few = table.few in omega arith;
    }

named_by : (b : Bool) (name : List ℕ) (names : List (List ℕ)) → take (length names) (cond b names (names ++ name ∷ [])) ≡ names
named_by true name names = take_all (length names) names (omega arith)
named_by false name names = take_at names (name ∷ []) (length names) refl

-- the names before a name that is added
pub before_named : (name : List ℕ) (names : List (List ℕ)) → take (length names) (with_name name names) ≡ names
before_named name names = named_by (list_any (bytes_eq name) names) name names
