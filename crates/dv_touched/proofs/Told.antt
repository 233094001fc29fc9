-- The row of a UID, numbers that are picked from a list, and two lists that are merged.
use Rattle.std.proofs.Common.{◌≡◌, ◌⊎◌, inl, inr, ℕ, zero, suc, ◌+◌, ◌<◌, ◌≤◌, Bool, true, false, cond, List, [], ◌∷◌, ◌++◌, length, get_or, take, refl, sym, ◌∙◌, ap, subst, arith}
use Rattle.std.specs.Prelude.{◌&&◌, All, Contains, Option, None, Some, find, nat_eq, nat_lt, position}
use Rattle.std.proofs.lemmas.Bool.{eqb-false, eqb-true, ltb-false, ltb-true}
use Rattle.std.specs.List.Sorted.{IsStrictlyIncreasing}
use Rattle.std.proofs.lemmas.List.{get_or-take, get_or_default, length-take-le, take_all, take_more}
use Rattle.std.proofs.lemmas.List.Elements.{Contains-append_left, Contains-get_or, Contains-push, Contains-push_cases}
use Rattle.std.proofs.lemmas.List.Kept.{AllPairs-from_increasing}
use Rattle.std.proofs.lemmas.List.Quantifiers.{position-Some}
use Rattle.dv_model.specs.declared.types.Row.{Row}
use Rattle.dv_rows.proofs.Named.{either}
use Rattle.dv_rows.proofs.PartChanges.{none_there}
use Rattle.dv_validity.proofs.Rows.{rising_push}

-- ---- the row of a UID

find_at : {X : Type 0} (p : X → Bool) (xs : List X) (at : ℕ) (d : X) → at < length xs → p (get_or xs at d) ≡ true → ((k : ℕ) → k < at → p (get_or xs k d) ≡ false) → find p xs ≡ Some (get_or xs at d)
find_at p [] at d h here before = absurd (omega (arith, h))
find_at p (x ∷ xs) zero d h here before = ap (λ b. cond b (Some x) (find p xs)) here
find_at p (x ∷ xs) (suc at) d h here before =
    ap (λ b. cond b (Some x) (find p xs)) (before 0 (omega arith)) ∙ find_at p xs at d (omega (arith, h)) here (λ k less. before (suc k) (omega (arith, less)))

find_none : {X : Type 0} (p : X → Bool) (xs : List X) → All (λ x. p x ≡ false) xs → find p xs ≡ None
find_none p [] none = refl
find_none p (x ∷ xs) none = ap (λ b. cond b (Some x) (find p xs)) (none 0 x (omega arith)) ∙ find_none p xs (λ k d h. none (suc k) d (omega (arith, h)))

pub found : (uid at : ℕ) (rows : List Row) (row : Row) → position (λ (r : Row). nat_eq r.uid uid) rows ≡ Some at → get_or rows at row ≡ row → find (λ r. nat_eq r.uid uid) rows ≡ Some row
found uid at rows row place is =
    let there = position-Some (λ (r : Row). nat_eq r.uid uid) rows at row place in
    find_at (λ (r : Row). nat_eq r.uid uid) rows at row there.0 there.1 there.2 ∙ ap Some is

pub not_found : (uid : ℕ) (rows : List Row) → position (λ (r : Row). nat_eq r.uid uid) rows ≡ None → find (λ r. nat_eq r.uid uid) rows ≡ None
not_found uid rows none = find_none (λ (r : Row). nat_eq r.uid uid) rows (none_there uid rows none)

uid_by : (uid : ℕ) (r row : Row) (o : Option Row) → (o ≡ Some row → row.uid ≡ uid) → (b : Bool) → nat_eq r.uid uid ≡ b → cond b (Some r) o ≡ Some row → row.uid ≡ uid
uid_by uid r row o later true here e = let same : r ≡ row = cc in sym (ap (λ (x : Row). x.uid) same) ∙ eqb-true r.uid uid here
uid_by uid r row o later false here e = later e

pub uid_found : (uid : ℕ) (rows : List Row) (row : Row) → find (λ r. nat_eq r.uid uid) rows ≡ Some row → row.uid ≡ uid
uid_found uid [] row e = cc
uid_found uid (r ∷ rows) row e = uid_by uid r row (find (λ r. nat_eq r.uid uid) rows) (uid_found uid rows row) (nat_eq r.uid uid) refl e

-- ---- the numbers that are picked

-- those of the first so many numbers
pub record ArePicked (P : ℕ → Type 0) (xs : List ℕ) (i : ℕ) (made : List ℕ) : Type 0 where
  pub rising : IsStrictlyIncreasing made
  pub only : (x : ℕ) → Contains made x → Contains (take i xs) x × P x
  pub all : (x : ℕ) → Contains (take i xs) x → P x → Contains made x

pub before_low : (xs : List ℕ) (i x : ℕ) → IsStrictlyIncreasing xs → i < length xs → Contains (take i xs) x → x < get_or xs i 0
before_low xs i x up less (k, h, at) =
    let before : k < i = omega (arith, h, length-take-le i xs (omega arith)) in
    let here : get_or (take i xs) k x ≡ get_or xs k x = get_or-take i xs k x before in
    let low : get_or xs k x < get_or xs i x = AllPairs-from_increasing xs up k i x before less in
    let there : get_or xs i x ≡ get_or xs i 0 = get_or_default xs i x 0 less in
    omega arith

more_before : (xs : List ℕ) (i x : ℕ) → i < length xs → Contains (take i xs) x → Contains (take (i + 1) xs) x
more_before xs i x less there = subst (λ l. Contains l x) (sym (take_more xs i 0 less)) (Contains-append_left (take i xs) (get_or xs i 0 ∷ []) x there)

last_before : (xs : List ℕ) (i x : ℕ) → i < length xs → Contains (take (i + 1) xs) x → Contains (take i xs) x ⊎ (get_or xs i 0 ≡ x)
last_before xs i x less there = Contains-push_cases (take i xs) (get_or xs i 0) x (subst (λ l. Contains l x) (take_more xs i 0 less) there)

last_there : (xs : List ℕ) (i : ℕ) → i < length xs → Contains (take (i + 1) xs) (get_or xs i 0)
last_there xs i less = subst (λ l. Contains l (get_or xs i 0)) (sym (take_more xs i 0 less)) (Contains-push (take i xs) (get_or xs i 0))

pub picks_one : (P : ℕ → Type 0) (xs : List ℕ) (i : ℕ) (made : List ℕ) → IsStrictlyIncreasing xs → i < length xs → ArePicked P xs i made → P (get_or xs i 0) → ArePicked P xs (i + 1) (made ++ get_or xs i 0 ∷ [])
picks_one P xs i made up less so_far here = record {
  rising = rising_push made (get_or xs i 0) so_far.rising (λ k d h. before_low xs i (get_or made k d) up less (so_far.only (get_or made k d) (Contains-get_or made k d h)).0);
  only = λ x there. either _ _ _ (Contains-push_cases made (get_or xs i 0) x there)
      (λ old. let was = so_far.only x old in (more_before xs i x less was.0, was.1))
      (λ same. subst (λ y. Contains (take (i + 1) xs) y × P y) same (last_there xs i less, here));
  all = λ x there p. either _ _ _ (last_before xs i x less there)
      (λ old. Contains-append_left made (get_or xs i 0 ∷ []) x (so_far.all x old p))
      (λ same. subst (Contains (made ++ get_or xs i 0 ∷ [])) same (Contains-push made (get_or xs i 0)));
}

pub picks_none : (P : ℕ → Type 0) (xs : List ℕ) (i : ℕ) (made : List ℕ) → i < length xs → ArePicked P xs i made → (P (get_or xs i 0) → ⊥) → ArePicked P xs (i + 1) made
picks_none P xs i made less so_far off = record {
  rising = so_far.rising;
  only = λ x there. let was = so_far.only x there in (more_before xs i x less was.0, was.1);
  all = λ x there p. either _ _ _ (last_before xs i x less there) (λ old. so_far.all x old p) (λ same. absurd (off (subst P (sym same) p)));
}

pub picks_end : (P : ℕ → Type 0) (xs : List ℕ) (i : ℕ) (made : List ℕ) → length xs ≤ i → ArePicked P xs i made → (x : ℕ) → (Contains made x → Contains xs x × P x) × (Contains xs x × P x → Contains made x)
picks_end P xs i made end so_far x =
    let all : take i xs ≡ xs = take_all i xs end in
    (λ there. let was = so_far.only x there in (subst (λ l. Contains l x) all was.0, was.1), λ both. so_far.all x (subst (λ l. Contains l x) (sym all) both.0) both.1)

-- ---- two lists that are merged

-- the first so many numbers of a list are in another, and those behind are above all of it
pub record IsMerged (xs : List ℕ) (i : ℕ) (made : List ℕ) : Type 0 where
  pub inside : i ≤ length xs
  pub all : (x : ℕ) → Contains (take i xs) x → Contains made x
  pub low : (x : ℕ) → Contains made x → i < length xs → x < get_or xs i 0

-- the place stays, or the number at it is this one
abbrev pub IsPast : List ℕ → ℕ → ℕ → ℕ → Type 0
IsPast xs i x next = ((next ≡ i + 1) × (i < length xs) × (get_or xs i 0 ≡ x)) ⊎ ((next ≡ i) × (i < length xs → x < get_or xs i 0))

past_by : (xs : List ℕ) (i x next : ℕ) (a b : Bool) → nat_lt i (length xs) ≡ a → nat_eq (get_or xs i 0) x ≡ b → (i < length xs → x ≤ get_or xs i 0) → next ≡ cond (a && b) (i + 1) i → IsPast xs i x next
past_by xs i x next true true is_in is_x least e = inl (e, ltb-true i (length xs) is_in, eqb-true (get_or xs i 0) x is_x)
past_by xs i x next true false is_in is_x least e = inr (e, λ less. let other = eqb-false (get_or xs i 0) x is_x in let low = least less in omega arith)
past_by xs i x next false b is_in is_x least e = inr (e, λ less. let out = ltb-false i (length xs) is_in in absurd (omega arith))

pub is_past : (xs : List ℕ) (i x next : ℕ) → (i < length xs → x ≤ get_or xs i 0) → next ≡ cond (nat_lt i (length xs) && nat_eq (get_or xs i 0) x) (i + 1) i → IsPast xs i x next
is_past xs i x next least e = past_by xs i x next (nat_lt i (length xs)) (nat_eq (get_or xs i 0) x) refl refl least e

pub merges_one : (xs : List ℕ) (i x next : ℕ) (made : List ℕ) → IsStrictlyIncreasing xs → IsMerged xs i made → IsPast xs i x next → IsMerged xs next (made ++ x ∷ [])
merges_one xs i x next made up so_far (inl (one, less, here)) = subst (λ n. IsMerged xs n (made ++ x ∷ [])) (sym one) (record {
  inside = omega arith;
  all = λ y there. either _ _ _ (last_before xs i y less there)
      (λ old. Contains-append_left made (x ∷ []) y (so_far.all y old))
      (λ same. subst (Contains (made ++ x ∷ [])) (sym here ∙ same) (Contains-push made x));
  low = λ y there further.
      let step : get_or xs i 0 < get_or xs (i + 1) 0 = up i further in
      either _ _ _ (Contains-push_cases made x y there) (λ old. let below = so_far.low y old less in omega arith) (λ same. omega arith);
})
merges_one xs i x next made up so_far (inr (same, above)) = subst (λ n. IsMerged xs n (made ++ x ∷ [])) (sym same) (record {
  inside = so_far.inside;
  all = λ y there. Contains-append_left made (x ∷ []) y (so_far.all y there);
  low = λ y there less. either _ _ _ (Contains-push_cases made x y there) (λ old. so_far.low y old less) (λ is. let high = above less in omega arith);
})

-- what was before a place is before the next
pub kept_before : (xs : List ℕ) (i x next y : ℕ) → IsPast xs i x next → Contains (take i xs) y → Contains (take next xs) y
kept_before xs i x next y (inl (one, less, here)) there = subst (λ n. Contains (take n xs) y) (sym one) (more_before xs i y less there)
kept_before xs i x next y (inr (same, above)) there = subst (λ n. Contains (take n xs) y) (sym same) there

-- the number itself is before the next place where it was at the place
pub now_before : (xs : List ℕ) (i x next : ℕ) → IsPast xs i x next → i < length xs → x ≡ get_or xs i 0 → Contains (take next xs) x
now_before xs i x next (inl (one, less, here)) h is = subst (λ n. Contains (take n xs) x) (sym one) (subst (Contains (take (i + 1) xs)) here (last_there xs i less))
now_before xs i x next (inr (same, above)) h is = let high = above h in absurd (omega arith)

-- two lists so far
pub record AreMerged (xs ys : List ℕ) (i j : ℕ) (made : List ℕ) : Type 0 where
  pub rising : IsStrictlyIncreasing made
  pub first : IsMerged xs i made
  pub second : IsMerged ys j made
  pub only : (x : ℕ) → Contains made x → Contains (take i xs) x ⊎ Contains (take j ys) x

-- the lesser of the numbers at the places
abbrev pub IsLesser : List ℕ → ℕ → List ℕ → ℕ → ℕ → Type 0
IsLesser xs i ys j x = ((i < length xs) × (x ≡ get_or xs i 0)) ⊎ ((j < length ys) × (x ≡ get_or ys j 0))

above_all : (xs ys : List ℕ) (i j x : ℕ) (made : List ℕ) → AreMerged xs ys i j made → IsLesser xs i ys j x → All (λ y. y < x) made
above_all xs ys i j x made so_far (inl (less, is)) k d h = let low = so_far.first.low (get_or made k d) (Contains-get_or made k d h) less in omega arith
above_all xs ys i j x made so_far (inr (less, is)) k d h = let low = so_far.second.low (get_or made k d) (Contains-get_or made k d h) less in omega arith

here_before : (xs ys : List ℕ) (i j x ni nj : ℕ) → IsPast xs i x ni → IsPast ys j x nj → IsLesser xs i ys j x → Contains (take ni xs) x ⊎ Contains (take nj ys) x
here_before xs ys i j x ni nj p q (inl (less, is)) = inl (now_before xs i x ni p less is)
here_before xs ys i j x ni nj p q (inr (less, is)) = inr (now_before ys j x nj q less is)

pub merge_more : (xs ys : List ℕ) (i j x ni nj : ℕ) (made : List ℕ) → IsStrictlyIncreasing xs → IsStrictlyIncreasing ys → AreMerged xs ys i j made → IsPast xs i x ni → IsPast ys j x nj → IsLesser xs i ys j x
    → AreMerged xs ys ni nj (made ++ x ∷ [])
merge_more xs ys i j x ni nj made up also so_far p q one = record {
  rising = rising_push made x so_far.rising (above_all xs ys i j x made so_far one);
  first = merges_one xs i x ni made up so_far.first p;
  second = merges_one ys j x nj made also so_far.second q;
  only = λ y there. either _ _ _ (Contains-push_cases made x y there)
      (λ old. either _ _ _ (so_far.only y old) (λ a. inl (kept_before xs i x ni y p a)) (λ b. inr (kept_before ys j x nj y q b)))
      (λ same. subst (λ z. Contains (take ni xs) z ⊎ Contains (take nj ys) z) same (here_before xs ys i j x ni nj p q one));
}

pub merge_ends : (xs ys : List ℕ) (i j : ℕ) (made : List ℕ) → AreMerged xs ys i j made → length xs ≤ i → length ys ≤ j → (x : ℕ) → (Contains made x → Contains xs x ⊎ Contains ys x) × (Contains xs x ⊎ Contains ys x → Contains made x)
merge_ends xs ys i j made so_far a b x =
    let first : take i xs ≡ xs = take_all i xs a in
    let second : take j ys ≡ ys = take_all j ys b in (
      λ there. either _ _ _ (so_far.only x there) (λ p. inl (subst (λ l. Contains l x) first p)) (λ q. inr (subst (λ l. Contains l x) second q)),
      λ there. either _ _ _ there (λ p. so_far.first.all x (subst (λ l. Contains l x) (sym first) p)) (λ q. so_far.second.all x (subst (λ l. Contains l x) (sym second) q)),
    )
