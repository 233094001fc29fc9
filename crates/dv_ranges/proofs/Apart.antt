-- Disjoint ranges that rise, as they are put at the end of a list or looked at from its front.
use Rattle.std.proofs.Common.{ℕ, ◌+◌, ◌<◌, ◌≤◌, List, [], ◌∷◌, ◌++◌, arith}
use Rattle.std.specs.Prelude.{All}
use Rattle.std.proofs.lemmas.List.Elements.{All-append, All-cons, All-nil, All-tail}
use Rattle.dv_ranges.specs.Ranges.{AreFrom}

pub first_of : {X : Type 0} (P : X → Type 0) (x : X) (xs : List X) → All P (x ∷ xs) → P x
first_of P x xs all = all 0 x (omega arith)

pub front_of : {X : Type 0} (P : X → Type 0) (xs ys : List X) → All P (xs ++ ys) → All P xs
front_of P [] ys all = All-nil P
front_of P (x ∷ xs) ys all = All-cons P x xs (first_of P x (xs ++ ys) all) (front_of P xs ys (All-tail P x (xs ++ ys) all))

pub back_of : {X : Type 0} (P : X → Type 0) (xs ys : List X) → All P (xs ++ ys) → All P ys
back_of P [] ys all = all
back_of P (x ∷ xs) ys all = back_of P xs ys (All-tail P x (xs ++ ys) all)

pub put_at_end : {X : Type 0} (P : X → Type 0) (xs : List X) (x : X) → All P xs → P x → All P (xs ++ x ∷ [])
put_at_end P xs x all one = All-append P xs (x ∷ []) all (All-cons P x [] one (All-nil P))

module _ {X : Type 0} (first last : X → ℕ) where
  pub lower : (low other : ℕ) (xs : List X) → other ≤ low → AreFrom first last low xs → AreFrom first last other xs
  lower low other [] le are = tt
  lower low other (x ∷ xs) le are = (omega (arith, are.0), are.1, are.2)

  -- each ends at the bound or behind it
  pub ends : (low : ℕ) (xs : List X) → AreFrom first last low xs → All (λ x. low ≤ last x) xs
  ends low [] are = All-nil (λ x. low ≤ last x)
  ends low (x ∷ xs) are =
      All-cons (λ y. low ≤ last y) x xs (omega (arith, are.0, are.1))
      (ends low xs (lower (last x + 1) low xs (omega (arith, are.0, are.1)) are.2))

  -- one more that begins behind the end of each
  pub put : (low : ℕ) (xs : List X) (x : X) → AreFrom first last low xs → All (λ y. last y < first x) xs → low ≤ first x → first x ≤ last x → AreFrom first last low (xs ++ x ∷ [])
  put low [] x are before le some = (le, some, tt)
  put low (y ∷ ys) x are before le some =
      (are.0, are.1, put (last y + 1) ys x are.2 (All-tail (λ z. last z < first x) y ys before) (let less = first_of (λ z. last z < first x) y ys before in omega arith) some)

  -- those before the last one, and the last one
  pub front : (low : ℕ) (xs ys : List X) → AreFrom first last low (xs ++ ys) → AreFrom first last low xs
  front low [] ys are = tt
  front low (x ∷ xs) ys are = (are.0, are.1, front (last x + 1) xs ys are.2)

  pub end : (low : ℕ) (xs : List X) (x : X) → AreFrom first last low (xs ++ x ∷ []) → (low ≤ first x) × (first x ≤ last x) × All (λ y. last y < first x) xs
  end low [] x are = (are.0, are.1, All-nil (λ y. last y < first x))
  end low (y ∷ ys) x are =
      let more = end (last y + 1) ys x are.2 in
      (omega (arith, more.0, are.0, are.1), more.1, All-cons (λ z. last z < first x) y ys (omega (arith, more.0)) more.2)
