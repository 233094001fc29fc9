-- The item at a place of a list, changed; and lists whose items are alike.
use Rattle.std.proofs.Common.{◌≡◌, ℕ, zero, suc, ◌<◌, ◌≤◌, Bool, true, false, List, [], ◌∷◌, length, get_or, Option, Some, None, position, nat_lt, refl, sym, ◌∙◌, ap, subst, arith}
use Rattle.std.specs.Prelude.{All, AllPairs, IsSomeAnd, map, slice_get, cond}
use Rattle.std.specs.List.{position_or_len}
use Rattle.std.proofs.lemmas.Bool.Decides.{nat_tests}
use Rattle.std.proofs.lemmas.List.{get_or-map, length-map}
use Rattle.std.proofs.lemmas.List.Sums.{fails_before_first}
use Rattle.dv_model.specs.Effects.{with_item}

-- ---- one item is changed

pub map_with_item : {X Y : Type 0} (g : X → Y) (f : X → X) (h : Y → Y) → ((x : X) → g (f x) ≡ h (g x)) → (k : ℕ) (xs : List X) → map g (with_item k f xs) ≡ with_item k h (map g xs)
map_with_item g f h same k [] = refl
map_with_item g f h same zero (x ∷ xs) = ap (λ y. y ∷ map g xs) (same x)
map_with_item g f h same (suc k) (x ∷ xs) = ap (λ ys. g x ∷ ys) (map_with_item g f h same k xs)

-- the change leaves alone what is looked at
pub map_kept : {X Y : Type 0} (g : X → Y) (f : X → X) → ((x : X) → g (f x) ≡ g x) → (k : ℕ) (xs : List X) → map g (with_item k f xs) ≡ map g xs
map_kept g f same k [] = refl
map_kept g f same zero (x ∷ xs) = ap (λ y. y ∷ map g xs) (same x)
map_kept g f same (suc k) (x ∷ xs) = ap (λ ys. g x ∷ ys) (map_kept g f same k xs)

-- the change leaves that of this item alone
pub map_kept_at : {X Y : Type 0} (g : X → Y) (f : X → X) (k : ℕ) (xs : List X) → IsSomeAnd (slice_get xs k) (λ x. g (f x) ≡ g x) → map g (with_item k f xs) ≡ map g xs
map_kept_at g f k [] same = refl
map_kept_at g f zero (x ∷ xs) same = ap (λ y. y ∷ map g xs) same
map_kept_at g f (suc k) (x ∷ xs) same = ap (λ ys. g x ∷ ys) (map_kept_at g f k xs same)

-- what holds of the changed item
pub item_at : {X : Type 0} (P Q : X → Type 0) (f : X → X) → ((x : X) → P x → Q (f x)) → (k : ℕ) (xs : List X) → IsSomeAnd (slice_get xs k) P → IsSomeAnd (slice_get (with_item k f xs) k) Q
item_at P Q f step k [] is = is
item_at P Q f step zero (x ∷ xs) is = step x is
item_at P Q f step (suc k) (x ∷ xs) is = item_at P Q f step k xs is

-- what the change keeps holds of each item
pub item_anywhere : {X : Type 0} (P : X → Type 0) (f : X → X) → ((x : X) → P x → P (f x)) → (k j : ℕ) (xs : List X) → IsSomeAnd (slice_get xs j) P → IsSomeAnd (slice_get (with_item k f xs) j) P
item_anywhere P f step k j [] is = is
item_anywhere P f step zero zero (x ∷ xs) is = step x is
item_anywhere P f step zero (suc j) (x ∷ xs) is = is
item_anywhere P f step (suc k) zero (x ∷ xs) is = is
item_anywhere P f step (suc k) (suc j) (x ∷ xs) is = item_anywhere P f step k j xs is

pub some_and : {X : Type 0} (P : X → Type 0) (o : Option X) (x : X) → o ≡ Some x → P x → IsSomeAnd o P
some_and P None x e is = absurd cc
some_and P (Some y) x e is = let same : y ≡ x = cc in subst P (sym same) is

-- ---- lists of which something is the same

-- an item's number says the same of the other list's item
pub item_like : {X Y : Type 0} (g : X → ℕ) (h : Y → ℕ) (P : ℕ → Type 0) (k : ℕ) (xs : List X) (ys : List Y) → map g xs ≡ map h ys → IsSomeAnd (slice_get ys k) (λ y. P (h y)) → IsSomeAnd (slice_get xs k) (λ x. P (g x))
item_like g h P k [] [] e is = is
item_like g h P k [] (y ∷ ys) e is = absurd cc
item_like g h P k (x ∷ xs) [] e is = absurd is
item_like g h P zero (x ∷ xs) (y ∷ ys) e is = let same : g x ≡ h y = cc in subst P (sym same) is
item_like g h P (suc k) (x ∷ xs) (y ∷ ys) e is = let rest : map g xs ≡ map h ys = cc in item_like g h P k xs ys rest is

lengths_like : {X Y : Type 0} (f : X → Y) (xs ys : List X) → map f xs ≡ map f ys → length xs ≡ length ys
lengths_like f xs ys e = sym (length-map xs f) ∙ ap length e ∙ length-map ys f

at_like : {X Y : Type 0} (f : X → Y) (xs ys : List X) (i : ℕ) (d : X) → map f xs ≡ map f ys → i < length ys → f (get_or xs i d) ≡ f (get_or ys i d)
at_like f xs ys i d e h =
    let long : length xs ≡ length ys = lengths_like f xs ys e in
    sym (get_or-map f xs i d (f d) (omega arith)) ∙ ap (λ zs. get_or zs i (f d)) e ∙ get_or-map f ys i d (f d) h

pub all_like : {X Y : Type 0} (f : X → Y) (P : Y → Type 0) (xs ys : List X) → map f xs ≡ map f ys → All (λ x. P (f x)) xs → All (λ x. P (f x)) ys
all_like f P xs ys e each k d h =
    let long : length xs ≡ length ys = lengths_like f xs ys e in
    subst P (at_like f xs ys k d e h) (each k d (omega arith))

pub pairs_like : {X Y : Type 0} (f : X → Y) (R : Y → Y → Type 0) (xs ys : List X) → map f xs ≡ map f ys → AllPairs (λ a b. R (f a) (f b)) xs → AllPairs (λ a b. R (f a) (f b)) ys
pairs_like f R xs ys e pairs i j d less h =
    let long : length xs ≡ length ys = lengths_like f xs ys e in
    subst (λ y. R y (f (get_or ys j d))) (at_like f xs ys i d e (omega arith)) (subst (λ y. R (f (get_or xs i d)) y) (at_like f xs ys j d e h) (pairs i j d less (omega arith)))

-- ---- no item passes

none_is_past : (n k : ℕ) → cond (nat_lt k n) (Some k) None ≡ None → n ≤ k
none_is_past n k e = past_by (nat_lt k n) refl e
  where
    past_by : (b : Bool) → nat_lt k n ≡ b → cond b (Some k) None ≡ None → n ≤ k
    past_by true is e = absurd cc
    past_by false is e = grind (arith, nat_tests)

pub none_passes : {X : Type 0} (p : X → Bool) (xs : List X) → position p xs ≡ None → (k : ℕ) (d : X) → k < length xs → p (get_or xs k d) ≡ false
none_passes p xs e k d h =
    let past : length xs ≤ position_or_len p xs = none_is_past (length xs) (position_or_len p xs) e in
    fails_before_first p xs k d (omega arith)
