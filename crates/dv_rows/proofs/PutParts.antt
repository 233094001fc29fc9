-- The rows of a part are put among others one after another.
use Rattle.std.proofs.Common.{◌≡◌, ℕ, ◌+◌, ◌-◌, ◌^◌, ◌<◌, ◌≤◌, Bool, true, false, cond, eqb, List, [], ◌∷◌, ◌++◌, length, get_or, take, refl, sym, ◌∙◌, ap, subst, arith}
use Rattle.std.specs.Prelude.{◌&&◌, ◌||◌, All, Contains, filter, map, nat_eq, nat_le, not}
use Rattle.std.specs.List.{list_any}
use Rattle.std.proofs.lemmas.Bool.{eq-eqb, eqb-true, lt-leb}
use Rattle.std.proofs.lemmas.Bool.Decides.{nat_tests}
use Rattle.std.proofs.lemmas.List.{append-nil, get_or-map, get_or-take, get_or_default, get_or_push, length-map, length-take-le, length_push, map_push, take-take, take_all, take_more}
use Rattle.std.proofs.lemmas.List.Elements.{All-contains, All-filter, All-map, All-push, All-take, All-weaker, Contains-append_left, filter-append, filter_passes}
use Rattle.std.proofs.lemmas.Cmp.{nat_eq_equiv}
use Rattle.std.proofs.lemmas.List.Folds.{list_any_at}
use Rattle.std.proofs.lemmas.Map.Views.{Contains-from_any, any-filter_same, list_any-from_Contains}
use Rattle.dv_model.specs.declared.types.Row.{Row}
use Rattle.dv_validity.proofs.Rows.{map_filter, map_map, map_same}
use Rattle.dv_rows.specs.Kept.{AreRows}
use Rattle.dv_rows.specs.Parted.{HasUid, is_among, is_missing, is_parted}
use Rattle.dv_rows.proofs.Filtered.{none_yet, not_among, one_more_row, same_on}
use Rattle.dv_rows.proofs.Named.{at_uid as place_of_uid, no_row}
use Rattle.dv_rows.proofs.PartChanges.{at_uid, put_uid}
use Rattle.dv_rows.proofs.Rising.{apart, mapped_rows, pushed_rows}

-- the first rows of the part are in their places, and the others are as before
pub record IsPutTo (uids : List ℕ) (bound : ℕ) (part before : List Row) (i : ℕ) (now : List Row) : Type 0 where
  pub are : AreRows now
  pub mine : filter (λ row. is_among (take i (map (λ row. row.uid) part)) row.uid) now ≡ take i part
  pub others : filter (λ row. not (is_parted uids bound row.uid)) now ≡ filter (λ row. not (is_parted uids bound row.uid)) before
  pub cover : All (λ row. is_parted uids bound row.uid ≡ is_among (map (λ row. row.uid) part) row.uid) now
  pub there : All (λ row. row.uid < bound → HasUid now row.uid) part
  pub low : (uid : ℕ) → bound ≤ uid → All (λ row. row.uid < uid) (take i part) → All (λ row. row.uid < uid) now

-- what is asked of the part
pub record IsPart (uids : List ℕ) (bound : ℕ) (part before : List Row) : Type 0 where
  pub are : AreRows part
  pub named : All (HasUid before) uids
  pub below : All (λ row. row.uid < bound) before
  pub parted : All (λ row. is_parted uids bound row.uid ≡ true) part

-- ---- lists

All-push-last : {X : Type 0} (P : X → Type 0) (xs : List X) (x : X) → All P (xs ++ x ∷ []) → P x
All-push-last P xs x all = let long = length_push xs x in subst P (get_or_push xs x x (length xs) refl) (all (length xs) x (omega arith))

again_by : {X : Type 0} (p : X → Bool) (x : X) (xs : List X) (b : Bool) → (p x ≡ true → b ≡ true) → filter p (cond b (x ∷ xs) xs) ≡ cond (p x) (x ∷ filter p xs) (filter p xs)
again_by p x xs true passes = refl
again_by p x xs false passes = sym (ap (λ c. cond c (x ∷ filter p xs) (filter p xs)) (off (p x) passes))
  where
    off : (c : Bool) → (c ≡ true → false ≡ true) → c ≡ false
    off true h = sym (h refl)
    off false h = refl

-- what passes the first test passes the second
filter_again : {X : Type 0} (p q : X → Bool) → ((x : X) → p x ≡ true → q x ≡ true) → (xs : List X) → filter p (filter q xs) ≡ filter p xs
filter_again p q passes [] = refl
filter_again p q passes (x ∷ xs) =
    again_by p x (filter q xs) (q x) (passes x) ∙ ap (λ l. cond (p x) (x ∷ l) l) (filter_again p q passes xs)

-- an item that passes stays
kept_in : (p : ℕ → Bool) (xs : List ℕ) (x : ℕ) → p x ≡ true → Contains xs x → Contains (filter p xs) x
kept_in p xs x passes there =
    Contains-from_any (λ a b. eqb-true a b) x (filter p xs)
    (any-filter_same (nat_eq x) p true (λ y e. ap p (sym (eqb-true x y e)) ∙ passes) xs ∙ list_any-from_Contains nat_eq_equiv x xs there)

same_turned : (a b : ℕ) → nat_eq a b ≡ nat_eq b a
same_turned a b = grind (arith, nat_tests)

there_among : (part : List Row) (u : ℕ) → list_any (λ row. nat_eq row.uid u) part ≡ is_among (map (λ row. row.uid) part) u
there_among [] u = refl
there_among (row ∷ part) u = ap (λ b. b || list_any (λ row. nat_eq row.uid u) part) (same_turned row.uid u) ∙ ap (λ b. nat_eq u row.uid || b) (there_among part u)

-- ---- a row takes the place of the one with its UID

mapped_by : (test : ℕ → Bool) (row r : Row) (rest : List Row) → test row.uid ≡ false → (b : Bool) → eqb row.uid r.uid ≡ b
    → cond (test (cond b row r).uid) (cond b row r ∷ rest) rest ≡ cond (test r.uid) (r ∷ rest) rest
mapped_by test row r rest off true e =
    let out : test r.uid ≡ false = ap test (sym (eqb-true row.uid r.uid e)) ∙ off in
    ap (λ b. cond b (row ∷ rest) rest) off ∙ sym (ap (λ b. cond b (r ∷ rest) rest) out)
mapped_by test row r rest off false e = refl

filter_mapped : (test : ℕ → Bool) (row : Row) (rows : List Row) → test row.uid ≡ false → filter (λ r. test r.uid) (map (at_uid row.uid (λ other. row)) rows) ≡ filter (λ r. test r.uid) rows
filter_mapped test row [] off = refl
filter_mapped test row (r ∷ rows) off =
    ap (λ l. cond (test (at_uid row.uid (λ other. row) r).uid) (at_uid row.uid (λ other. row) r ∷ l) l) (filter_mapped test row rows off)
    ∙ mapped_by test row r (filter (λ r. test r.uid) rows) off (eqb row.uid r.uid) refl

uids_stay : (row : Row) (rows : List Row) → map (λ r. r.uid) (map (at_uid row.uid (λ other. row)) rows) ≡ map (λ r. r.uid) rows
uids_stay row rows = map_map (λ (r : Row). r.uid) (at_uid row.uid (λ other. row)) rows ∙ map_same (λ r. (at_uid row.uid (λ other. row) r).uid) (λ r. r.uid) (put_uid row) rows

-- ---- the part's UIDs

module _ (uids : List ℕ) (bound : ℕ) (part before : List Row) (is : IsPart uids bound part before) where
  abbrev us : List ℕ
  us = map (λ row. row.uid) part

  many : length us ≡ length part
  many = length-map part (λ (row : Row). row.uid)

  next_uid : (i : ℕ) (row : Row) → i < length part → row ≡ get_or part i row → row.uid ≡ get_or us i 0
  next_uid i row less here = ap (λ (r : Row). r.uid) here ∙ sym (get_or-map (λ (r : Row). r.uid) part i row 0 less)

  is_next : (i : ℕ) (row : Row) → i < length part → row ≡ get_or part i row → is_parted uids bound row.uid ≡ true
  is_next i row less here = subst (λ (r : Row). is_parted uids bound r.uid ≡ true) (sym here) (is.parted i row less)

  not_yet : (i : ℕ) (row : Row) → i < length part → row ≡ get_or part i row → is_among (take i us) row.uid ≡ false
  not_yet i row less here = let same = next_uid i row less here in let long = many in not_among us i row.uid is.are.rising (omega arith) (omega arith)

  one_part : (i : ℕ) (row : Row) → i < length part → row ≡ get_or part i row → take i part ++ row ∷ [] ≡ take (i + 1) part
  one_part i row less here = ap (λ r. take i part ++ r ∷ []) here ∙ sym (take_more part i row less)

  shorter : (P : Row → Type 0) (i : ℕ) → All P (take (i + 1) part) → All P (take i part)
  shorter P i all = subst (All P) (take-take i (i + 1) part (omega arith)) (All-take P i (take (i + 1) part) all)

  pub put_replaces : (i : ℕ) (now : List Row) (row : Row) → IsPutTo uids bound part before i now → i < length part → row ≡ get_or part i row → row.uid < bound
      → IsPutTo uids bound part before (i + 1) (map (at_uid row.uid (λ other. row)) now)
  put_replaces i now row so_far less here under =
      let long = many in
      let there : HasUid now row.uid = subst (λ (r : Row). HasUid now r.uid) (sym here) (so_far.there i row less (subst (λ (r : Row). r.uid < bound) here under)) in
      let (at, inside, same) = place_of_uid now row.uid there in
      let row_is : row ≡ get_or (map f now) at row =
      sym (get_or-map f now at row row inside ∙ ap (λ b. cond b row (get_or now at row)) (eq-eqb row.uid (get_or now at row).uid (sym (same row)))) in
      let still : AreRows (map f now) = mapped_rows f (put_uid row) now so_far.are in
      let length_is : length (map f now) ≡ length now = length-map now f in
      record {
        are = still;
        mine =
            one_more_row (map f now) us i at row still is.are.rising (omega arith) (omega arith) row_is (next_uid i row less here)
            ∙ ap (λ l. l ++ row ∷ []) (filter_mapped (is_among (take i us)) row now (not_yet i row less here) ∙ so_far.mine) ∙ one_part i row less here;
        others = filter_mapped (λ uid. not (is_parted uids bound uid)) row now (ap not (is_next i row less here)) ∙ so_far.others;
        cover = All-map (λ (r : Row). is_parted uids bound r.uid ≡ is_among us r.uid) f now
            (All-weaker (λ (r : Row). is_parted uids bound r.uid ≡ is_among us r.uid) (λ r. is_parted uids bound (f r).uid ≡ is_among us (f r).uid)
            (λ r e. subst (λ u. is_parted uids bound u ≡ is_among us u) (sym (put_uid row r)) e) now so_far.cover);
        there = λ k d h low. subst (λ l. Contains l (get_or part k d).uid) (sym (uids_stay row now)) (so_far.there k d h low);
        low = λ uid le all. All-map (λ (r : Row). r.uid < uid) f now
            (All-weaker (λ (r : Row). r.uid < uid) (λ r. (f r).uid < uid) (λ r h. let e = put_uid row r in omega arith) now (so_far.low uid le (shorter (λ r. r.uid < uid) i all)));
      }
    where
      f : Row → Row
      f = at_uid row.uid (λ other. row)

  earlier : (i : ℕ) (row : Row) → i < length part → row ≡ get_or part i row → All (λ r. r.uid < row.uid) (take i part)
  earlier i row less here k d h =
      let before : k < i = omega (arith, h, length-take-le i part (omega arith)) in
      let there : (get_or (take i part) k d).uid ≡ (get_or part k d).uid = ap (λ (r : Row). r.uid) (get_or-take i part k d before) in
      let up : (get_or part k d).uid < (get_or part i d).uid = apart part is.are k i d before less in
      let last : (get_or part i d).uid ≡ row.uid = ap (λ (r : Row). r.uid) (get_or_default part i d row less ∙ sym here) in
      omega arith

  pub put_above : (i : ℕ) (now : List Row) (row : Row) → IsPutTo uids bound part before i now → i < length part → row ≡ get_or part i row → bound ≤ row.uid → All (λ other. other.uid < row.uid) now
  put_above i now row so_far less here over = so_far.low row.uid over (earlier i row less here)

  pub put_adds : (i : ℕ) (now : List Row) (row : Row) → IsPutTo uids bound part before i now → i < length part → row ≡ get_or part i row → bound ≤ row.uid
      → IsPutTo uids bound part before (i + 1) (now ++ row ∷ [])
  put_adds i now row so_far less here over =
      let long = many in
      let small : row.uid < 2 ^ 32 - 1 = subst (λ (r : Row). r.uid < 2 ^ 32 - 1) (sym here) (is.are.below i row less) in
      let still : AreRows (now ++ row ∷ []) = pushed_rows now row (put_above i now row so_far less here over) small so_far.are in
      let length_is : length (now ++ row ∷ []) ≡ length now + 1 = length_push now row in
      let same : row.uid ≡ get_or us i 0 = next_uid i row less here in
      record {
        are = still;
        mine =
            one_more_row (now ++ row ∷ []) us i (length now) row still is.are.rising (omega arith) (omega arith) (sym (get_or_push now row row (length now) refl)) same
            ∙ ap (λ l. l ++ row ∷ []) (passed_over (λ r. is_among (take i us) r.uid) now row (not_yet i row less here) ∙ so_far.mine) ∙ one_part i row less here;
        others = passed_over (λ r. not (is_parted uids bound r.uid)) now row (ap not (is_next i row less here)) ∙ so_far.others;
        cover = All-push (λ (r : Row). is_parted uids bound r.uid ≡ is_among us r.uid) now row so_far.cover
            (is_next i row less here ∙ sym (list_any_at (nat_eq row.uid) us i 0 (omega arith) (eq-eqb row.uid (get_or us i 0) same)));
        there = λ k d h low. subst (λ l. Contains l (get_or part k d).uid) (sym (map_push (λ (r : Row). r.uid) now row)) (Contains-append_left (map (λ (r : Row). r.uid) now) (row.uid ∷ []) (get_or part k d).uid (so_far.there k d h low));
        low = λ uid le all. All-push (λ (r : Row). r.uid < uid) now row (so_far.low uid le (shorter (λ r. r.uid < uid) i all)) (last_of uid all);
      }
    where
      passed_over : (p : Row → Bool) (rows : List Row) (r : Row) → p r ≡ false → filter p (rows ++ r ∷ []) ≡ filter p rows
      passed_over p rows r off = filter-append p rows (r ∷ []) ∙ ap (λ b. filter p rows ++ cond b (r ∷ []) []) off ∙ append-nil (filter p rows)

      last_of : (uid : ℕ) → All (λ r. r.uid < uid) (take (i + 1) part) → row.uid < uid
      last_of uid all = All-push-last (λ (r : Row). r.uid < uid) (take i part) row (subst (All (λ (r : Row). r.uid < uid)) (sym (one_part i row less here)) all)

  -- ---- the rows that are missing left

  in_part : (u : ℕ) → is_among us u ≡ true → is_parted uids bound u ≡ true
  in_part u among =
      let (k, h, same) = place_of_uid part u (Contains-from_any (λ x y. eqb-true x y) u us among) in
      subst (λ v. is_parted uids bound v ≡ true) (same no_row) (is.parted k no_row h)

  pub put_starts : AreRows (filter (λ row. not (is_missing uids part row.uid)) before) → IsPutTo uids bound part before 0 (filter (λ row. not (is_missing uids part row.uid)) before)
  put_starts are = record {
    are = are;
    mine = none_yet (filter (λ row. not (is_missing uids part row.uid)) before);
    others = filter_again (λ row. not (is_parted uids bound row.uid)) (λ row. not (is_missing uids part row.uid)) (λ row. stays_by (is_among uids row.uid) (nat_le bound row.uid) (list_any (λ r. nat_eq r.uid row.uid) part)) before;
    cover = λ k d h.
        let rows = filter (λ row. not (is_missing uids part row.uid)) before in
        let u = (get_or rows k d).uid in
        let under : u < bound = All-filter (λ row. not (is_missing uids part row.uid)) (λ row. row.uid < bound) before is.below k d h in
        let stays = filter_passes (λ (row : Row). not (is_missing uids part row.uid)) before k d h in
        cover_by (is_among uids u) (nat_le bound u) (is_among us u) (lt-leb bound u under) (subst (λ b. not (is_among uids u && not b) ≡ true) (there_among part u) stays) (in_part u);
    there = λ k d h under.
        let u = (get_or part k d).uid in
        let named : is_among uids u ≡ true = or_by (is_among uids u) (nat_le bound u) (lt-leb bound u under) (is.parted k d h) in
        let found : HasUid before u = All-contains (HasUid before) uids u is.named (Contains-from_any (λ x y. eqb-true x y) u uids named) in
        let kept : not (is_missing uids part u) ≡ true = there_by (is_among uids u) (list_any (λ r. nat_eq r.uid u) part) (list_any_at (λ (r : Row). nat_eq r.uid u) part k d h (eq-eqb (get_or part k d).uid u refl)) in
        subst (λ l. Contains l u) (sym (map_filter (λ (r : Row). r.uid) (λ uid. not (is_missing uids part uid)) before))
        (kept_in (λ uid. not (is_missing uids part uid)) (map (λ r. r.uid) before) u kept found);
    low = λ uid le all. All-filter (λ row. not (is_missing uids part row.uid)) (λ row. row.uid < uid) before (All-weaker (λ row. row.uid < bound) (λ row. row.uid < uid) (λ row less. omega arith) before is.below);
  }
    where
      cover_by : (a n c : Bool) → n ≡ false → not (a && not c) ≡ true → (c ≡ true → (a || n) ≡ true) → (a || n) ≡ c
      cover_by true n true off stays part = refl
      cover_by true n false off stays part = cc
      cover_by false n true off stays part = part refl
      cover_by false n false off stays part = off

      or_by : (a n : Bool) → n ≡ false → (a || n) ≡ true → a ≡ true
      or_by true n off e = refl
      or_by false n off e = sym off ∙ e ∙ refl

      there_by : (a c : Bool) → c ≡ true → not (a && not c) ≡ true
      there_by true true e = refl
      there_by true false e = e
      there_by false c e = refl

      stays_by : (a n c : Bool) → not (a || n) ≡ true → not (a && not c) ≡ true
      stays_by true n c e = cc
      stays_by false n c e = refl

pub put_ends : (uids : List ℕ) (bound : ℕ) (part before : List Row) (i : ℕ) (now : List Row) → IsPutTo uids bound part before i now → length part ≤ i → filter (λ row. is_parted uids bound row.uid) now ≡ part
put_ends uids bound part before i now so_far end =
    same_on (λ row. is_parted uids bound row.uid) (λ row. is_among (map (λ row. row.uid) part) row.uid) now so_far.cover
    ∙ sym (ap (λ us. filter (λ (row : Row). is_among us row.uid) now) (take_all i (map (λ (row : Row). row.uid) part) (let long = length-map part (λ (row : Row). row.uid) in omega arith)))
    ∙ so_far.mine ∙ take_all i part end
