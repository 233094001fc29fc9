-- Rows by rising UID are told by those that pass a test of their UIDs and those that don't.
use Rattle.std.proofs.Common.{◌≡◌, ℕ, suc, ◌<◌, Bool, true, false, cond, List, [], ◌∷◌, length, get_or, refl, sym, ◌∙◌, ap, subst, arith}
use Rattle.std.specs.Prelude.{All, Contains, filter, map, not}
use Rattle.std.specs.List.Sorted.{IsStrictlyIncreasing}
use Rattle.std.proofs.lemmas.List.{get_or-map, length-map}
use Rattle.std.proofs.lemmas.List.Elements.{All-contains_itself, All-filter, All-head}
use Rattle.std.proofs.lemmas.List.Kept.{AllPairs-from_increasing}
use Rattle.dv_model.proofs.Clients.{rising_tail}
use Rattle.dv_model.specs.declared.types.Row.{Row}

-- their UIDs rise
abbrev Rise : List Row → Type 0
Rise rows = IsStrictlyIncreasing (map (λ row. row.uid) rows)

-- the first number is below each later one
pub all_above : (u : ℕ) (us : List ℕ) → IsStrictlyIncreasing (u ∷ us) → All (λ v. u < v) us
all_above u us up k d h = AllPairs-from_increasing (u ∷ us) up 0 (suc k) d (omega arith) (omega (arith, h))

first_is_low : (x : Row) (xs : List Row) → Rise (x ∷ xs) → (y : Row) → Contains xs y → x.uid < y.uid
first_is_low x xs up y (k, h, at) =
    let long : length (map (λ (row : Row). row.uid) xs) ≡ length xs = length-map xs (λ (row : Row). row.uid) in
    let here : get_or (map (λ (row : Row). row.uid) xs) k 0 ≡ (get_or xs k y).uid = get_or-map (λ (row : Row). row.uid) xs k y 0 h in
    let less : x.uid < get_or (map (λ (row : Row). row.uid) xs) k 0 = all_above x.uid (map (λ row. row.uid) xs) up k 0 (omega arith) in
    let same : (get_or xs k y).uid ≡ y.uid = ap (λ (row : Row). row.uid) at in
    omega arith

first_is_there : (p : Row → Bool) (xs : List Row) (y : Row) (ys : List Row) → filter p xs ≡ y ∷ ys → Contains xs y
first_is_there p xs y ys e = All-head (Contains xs) y ys (subst (All (Contains xs)) e (All-filter p (Contains xs) xs (All-contains_itself xs)))

none_by : (y : Row) (one other : List Row) (b : Bool) → [] ≡ cond b (y ∷ one) one → [] ≡ cond (not b) (y ∷ other) other → ⊥
none_by y one other true mine others = cc
none_by y one other false mine others = cc

module _ (test : ℕ → Bool) where
  abbrev passing : List Row → List Row
  passing rows = filter (λ row. test row.uid) rows

  abbrev failing : List Row → List Row
  failing rows = filter (λ row. not (test row.uid)) rows

  firsts : (x y : Row) (xs ys : List Row) → Rise (x ∷ xs) → Rise (y ∷ ys) → (passing xs ≡ passing ys → failing xs ≡ failing ys → xs ≡ ys)
      → (b c : Bool) → cond b (x ∷ passing xs) (passing xs) ≡ cond c (y ∷ passing ys) (passing ys)
      → cond (not b) (x ∷ failing xs) (failing xs) ≡ cond (not c) (y ∷ failing ys) (failing ys) → x ∷ xs ≡ y ∷ ys
  firsts x y xs ys up also rest true true mine others =
      let first : x ≡ y = cc in
      let later : passing xs ≡ passing ys = cc in
      ap (λ r. r ∷ xs) first ∙ ap (λ l. y ∷ l) (rest later others)
  firsts x y xs ys up also rest false false mine others =
      let first : x ≡ y = cc in
      let later : failing xs ≡ failing ys = cc in
      ap (λ r. r ∷ xs) first ∙ ap (λ l. y ∷ l) (rest mine later)
  firsts x y xs ys up also rest true false mine others =
      let below : y.uid < x.uid = first_is_low y ys also x (first_is_there (λ row. test row.uid) ys x (passing xs) (sym mine)) in
      let above : x.uid < y.uid = first_is_low x xs up y (first_is_there (λ row. not (test row.uid)) xs y (failing ys) others) in
      absurd (omega arith)
  firsts x y xs ys up also rest false true mine others =
      let below : y.uid < x.uid = first_is_low y ys also x (first_is_there (λ row. not (test row.uid)) ys x (failing xs) (sym others)) in
      let above : x.uid < y.uid = first_is_low x xs up y (first_is_there (λ row. test row.uid) xs y (passing ys) mine) in
      absurd (omega arith)

  -- two such lists that have both in common are one list
  pub same_parts : (xs ys : List Row) → IsStrictlyIncreasing (map (λ row. row.uid) xs) → IsStrictlyIncreasing (map (λ row. row.uid) ys)
      → filter (λ row. test row.uid) xs ≡ filter (λ row. test row.uid) ys → filter (λ row. not (test row.uid)) xs ≡ filter (λ row. not (test row.uid)) ys → xs ≡ ys
  same_parts [] [] up also mine others = refl
  same_parts [] (y ∷ ys) up also mine others = absurd (none_by y (passing ys) (failing ys) (test y.uid) mine others)
  same_parts (x ∷ xs) [] up also mine others = absurd (none_by x (passing xs) (failing xs) (test x.uid) (sym mine) (sym others))
  same_parts (x ∷ xs) (y ∷ ys) up also mine others =
      firsts x y xs ys up also (same_parts xs ys (rising_tail x.uid (map (λ row. row.uid) xs) up) (rising_tail y.uid (map (λ row. row.uid) ys) also)) (test x.uid) (test y.uid) mine others
