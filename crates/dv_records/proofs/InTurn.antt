-- Items one behind another: what holds of each, and of all their bytes.
use Rattle.std.proofs.Common.{◌≡◌, ℕ, ◌%◌, List, [], ◌∷◌, length, take, drop, arith, refl}
use Rattle.std.specs.List.{AllByRecursion}
use Rattle.std.proofs.lemmas.List.{length-take, length-drop}
use Rattle.dv_model.specs.Spelling.{InTurn}

-- an item's spelling has as many bytes as the item takes
pub record IsSized {A : Type 0} (size : A → ℕ) (Is : A → List ℕ → Type 0) : Type 0 where
  pub sized : (x : A) (b : List ℕ) → Is x b → length b ≡ size x
  pub whole : (x : A) → size x % 4 ≡ 0

pub in_turn-whole : {A : Type 0} (size : A → ℕ) (Is : A → List ℕ → Type 0) → IsSized size Is
    → (xs : List A) (b : List ℕ) → InTurn size Is xs b → length b % 4 ≡ 0
in_turn-whole size Is sizes [] b is = rw is refl
in_turn-whole size Is sizes (x ∷ xs) b is =
    let front : length (take (size x) b) ≡ size x = sizes.sized x _ is.0 in
    let rest : length (drop (size x) b) % 4 ≡ 0 = in_turn-whole size Is sizes xs _ is.1 in
    let word : size x % 4 ≡ 0 = sizes.whole x in
    omega (arith, length-take (size x) b, length-drop (size x) b)

pub in_turn-all : {A : Type 0} (size : A → ℕ) (Is : A → List ℕ → Type 0) (P : A → Type 0)
    → ((x : A) (b : List ℕ) → Is x b → P x) → (xs : List A) (b : List ℕ) → InTurn size Is xs b
    → AllByRecursion P xs
in_turn-all size Is P of_each [] b is = tt
in_turn-all size Is P of_each (x ∷ xs) b is = (of_each x _ is.0, in_turn-all size Is P of_each xs _ is.1)
