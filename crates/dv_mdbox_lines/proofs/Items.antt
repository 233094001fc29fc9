-- The items of a storage, by their ids.
use Rattle.std.proofs.Common.{◌≡◌, ℕ, ◌<◌, ◌≤◌, Bool, true, false, cond, not, List, [], ◌∷◌, ◌++◌, Option, Some, None, nat_eq, refl, sym, ◌∙◌, ap, subst, arith}
use Rattle.std.specs.Prelude.{All, filter, map}
use Rattle.std.specs.List.{list_any}
use Rattle.std.specs.Option.{option_and_then}
use Rattle.std.proofs.lemmas.Bool.{eqb-true, ne_eqb}
use Rattle.std.proofs.lemmas.List.Elements.{All-head, All-tail}
use Rattle.dv_maps.specs.Storages.{Item, counted}
use Rattle.dv_mdbox_lines.specs.Playing.{AreBelow, count_in, item_with}

-- ---- ids below a number

pub below_more : (n m : ℕ) (xs : List Item) → n ≤ m → AreBelow n xs → AreBelow m xs
below_more n m [] le below = tt
below_more n m (x ∷ xs) le below = (omega (arith, le, below.0), below_more n m xs le below.1)

pub below_append : (n : ℕ) (xs : List Item) (x : Item) → AreBelow n xs → x.id < n → AreBelow n (xs ++ x ∷ [])
below_append n [] x below less = (less, tt)
below_append n (y ∷ xs) x below less = (below.0, below_append n xs x below.1 less)

counted_id : (id : ℕ) (change : ℕ → ℕ) (x : Item) → (counted id change x).id ≡ x.id
counted_id id change x = by_test (nat_eq x.id id) refl
  where
    by_test : (t : Bool) → nat_eq x.id id ≡ t → (counted id change x).id ≡ x.id
    by_test true is = rw is refl
    by_test false is = rw is refl

pub below_counted : (n id : ℕ) (change : ℕ → ℕ) (xs : List Item) → AreBelow n xs → AreBelow n (map (counted id change) xs)
below_counted n id change [] below = tt
below_counted n id change (x ∷ xs) below = (subst (λ k. k < n) (sym (counted_id id change x)) below.0, below_counted n id change xs below.1)

pub below_filter : (n : ℕ) (p : Item → Bool) (xs : List Item) → AreBelow n xs → AreBelow n (filter p xs)
below_filter n p [] below = tt
below_filter n p (x ∷ xs) below = by_test (p x) refl (below_filter n p xs below.1)
  where
    by_test : (t : Bool) → p x ≡ t → AreBelow n (filter p xs) → AreBelow n (filter p (x ∷ xs))
    by_test true is others = rw is (below.0, others)
    by_test false is others = rw is others

-- ---- an item behind the others

below_not : (n id : ℕ) (x : Item) → x.id < n → nat_eq x.id id ≡ true → nat_eq n id ≡ false
below_not n id x less is = ne_eqb n id (λ same. omega (arith, less, eqb-true x.id id is, same))

pub with_last : (id : ℕ) (xs : List Item) (new : Item) → AreBelow new.id xs → item_with id (xs ++ new ∷ []) ≡ cond (nat_eq new.id id) (Some new) (item_with id xs)
with_last id [] new below = refl
with_last id (x ∷ xs) new below = by_test (nat_eq x.id id) refl (with_last id xs new below.1)
  where
    by_test : (t : Bool) → nat_eq x.id id ≡ t → item_with id (xs ++ new ∷ []) ≡ cond (nat_eq new.id id) (Some new) (item_with id xs)
        → item_with id ((x ∷ xs) ++ new ∷ []) ≡ cond (nat_eq new.id id) (Some new) (item_with id (x ∷ xs))
    by_test true is others = rw (is, below_not new.id id x below.0 is) refl
    by_test false is others = rw is others

-- ---- a count that changes

pub same_counted : (id : ℕ) (change : ℕ → ℕ) (xs : List Item) → 1 ≤ count_in (item_with id xs) → count_in (item_with id (map (counted id change) xs)) ≡ change (count_in (item_with id xs))
same_counted id change [] some = absurd (omega (arith, some))
same_counted id change (x ∷ xs) some = by_test (nat_eq x.id id) refl (same_counted id change xs) some
  where
    by_test : (t : Bool) → nat_eq x.id id ≡ t → (1 ≤ count_in (item_with id xs) → count_in (item_with id (map (counted id change) xs)) ≡ change (count_in (item_with id xs)))
        → 1 ≤ count_in (item_with id (x ∷ xs)) → count_in (item_with id (map (counted id change) (x ∷ xs))) ≡ change (count_in (item_with id (x ∷ xs)))
    by_test true is others s = rw is (rw is refl)
    by_test false is others s = rw is (rw is (others (rw is at s)))

pub others_counted : (n id : ℕ) (change : ℕ → ℕ) (xs : List Item) → nat_eq n id ≡ false → item_with id (map (counted n change) xs) ≡ item_with id xs
others_counted n id change [] other = refl
others_counted n id change (x ∷ xs) other = by_test (nat_eq x.id n) refl (others_counted n id change xs other)
  where
    by_id : (t : Bool) → nat_eq x.id n ≡ false → nat_eq x.id id ≡ t → item_with id (map (counted n change) xs) ≡ item_with id xs → item_with id (map (counted n change) (x ∷ xs)) ≡ item_with id (x ∷ xs)
    by_id true one two others = rw one (rw two refl)
    by_id false one two others = rw one (rw two others)

    by_test : (t : Bool) → nat_eq x.id n ≡ t → item_with id (map (counted n change) xs) ≡ item_with id xs → item_with id (map (counted n change) (x ∷ xs)) ≡ item_with id (x ∷ xs)
    by_test true is others =
        let not_it : nat_eq x.id id ≡ false = ap (λ k. nat_eq k id) (eqb-true x.id n is) ∙ other in
        rw is (rw not_it others)
    by_test false is others = by_id (nat_eq x.id id) is refl others

abbrev pub message_in : Option Item → Option (List ℕ)
message_in found = option_and_then (λ (item : Item). item.message) found

abbrev SameMessage : ℕ → ℕ → (ℕ → ℕ) → List Item → Type 0
SameMessage n id change xs = message_in (item_with id (map (counted n change) xs)) ≡ message_in (item_with id xs)

pub messages_counted : (n id : ℕ) (change : ℕ → ℕ) (xs : List Item) → message_in (item_with id (map (counted n change) xs)) ≡ message_in (item_with id xs)
messages_counted n id change [] = refl
messages_counted n id change (x ∷ xs) = by_test (nat_eq x.id n) refl (messages_counted n id change xs)
  where
    by_id : (t one : Bool) → nat_eq x.id n ≡ one → nat_eq x.id id ≡ t → SameMessage n id change xs → SameMessage n id change (x ∷ xs)
    by_id true true one two others = rw one (rw two refl)
    by_id true false one two others = rw one (rw two refl)
    by_id false true one two others = rw one (rw two others)
    by_id false false one two others = rw one (rw two others)

    by_test : (t : Bool) → nat_eq x.id n ≡ t → SameMessage n id change xs → SameMessage n id change (x ∷ xs)
    by_test t is others = by_id (nat_eq x.id id) t is refl others

-- ---- items that are gone

abbrev pub stays : List ℕ → Item → Bool
stays gone item = not (list_any (nat_eq item.id) gone)

abbrev SameItem : ℕ → List ℕ → List Item → Type 0
SameItem id gone xs = item_with id (filter (stays gone) xs) ≡ item_with id xs

abbrev NoItem : ℕ → List ℕ → List Item → Type 0
NoItem id gone xs = item_with id (filter (stays gone) xs) ≡ None

pub kept_item : (id : ℕ) (gone : List ℕ) (xs : List Item) → list_any (nat_eq id) gone ≡ false → item_with id (filter (stays gone) xs) ≡ item_with id xs
kept_item id gone [] kept = refl
kept_item id gone (x ∷ xs) kept = by_gone (list_any (nat_eq x.id) gone) refl (kept_item id gone xs kept)
  where
    by_id : (t : Bool) → list_any (nat_eq x.id) gone ≡ false → nat_eq x.id id ≡ t → SameItem id gone xs → SameItem id gone (x ∷ xs)
    by_id true one two others = rw one (rw two refl)
    by_id false one two others = rw one (rw two others)

    off : (t : Bool) → list_any (nat_eq x.id) gone ≡ true → nat_eq x.id id ≡ t → SameItem id gone xs → SameItem id gone (x ∷ xs)
    off true one two others =
        let no : true ≡ false = sym one ∙ ap (λ k. list_any (nat_eq k) gone) (eqb-true x.id id two) ∙ kept in
        absurd cc
    off false one two others = rw one (rw two others)

    by_gone : (t : Bool) → list_any (nat_eq x.id) gone ≡ t → SameItem id gone xs → SameItem id gone (x ∷ xs)
    by_gone true is others = off (nat_eq x.id id) is refl others
    by_gone false is others = by_id (nat_eq x.id id) is refl others

pub gone_item : (id : ℕ) (gone : List ℕ) (xs : List Item) → list_any (nat_eq id) gone ≡ true → item_with id (filter (stays gone) xs) ≡ None
gone_item id gone [] out = refl
gone_item id gone (x ∷ xs) out = by_gone (list_any (nat_eq x.id) gone) refl (gone_item id gone xs out)
  where
    by_id : (t : Bool) → list_any (nat_eq x.id) gone ≡ false → nat_eq x.id id ≡ t → NoItem id gone xs → NoItem id gone (x ∷ xs)
    by_id true one two others =
        let no : true ≡ false = sym out ∙ ap (λ k. list_any (nat_eq k) gone) (sym (eqb-true x.id id two)) ∙ one in
        absurd cc
    by_id false one two others = rw one (rw two others)

    by_gone : (t : Bool) → list_any (nat_eq x.id) gone ≡ t → NoItem id gone xs → NoItem id gone (x ∷ xs)
    by_gone true is others = rw is others
    by_gone false is others = by_id (nat_eq x.id id) is refl others

-- what holds of all of these holds of one of them
pub of_all : (P : ℕ → Type 0) (id : ℕ) (ids : List ℕ) → All P ids → list_any (nat_eq id) ids ≡ true → P id
of_all P id [] all one = absurd cc
of_all P id (n ∷ ids) all one = by_test (nat_eq id n) refl (of_all P id ids (All-tail P n ids all))
  where
    by_test : (t : Bool) → nat_eq id n ≡ t → (list_any (nat_eq id) ids ≡ true → P id) → P id
    by_test true is others = subst P (sym (eqb-true id n is)) (All-head P n ids all)
    by_test false is others = others (rw is at one)
