-- A size and its code are inverse, and what a place that isn't closed begins with.
use Rattle.std.proofs.Common.{◌≡◌, ℕ, ◌+◌, ◌-◌, ◌*◌, ◌/◌, ◌%◌, ◌^◌, ◌<◌, ◌≤◌, Bool, true, false, not, ◌&&◌, ◌||◌, eqb, ltb, leb, List, [], ◌∷◌, ◌++◌, length, get_or, take, Option, Some, None, refl, ap, arith}
use Rattle.std.specs.Prelude.{is_none}
use Rattle.std.proofs.lemmas.Bool.{or_parts, ltb-false, eqb-true, leb-true, le-leb}
use Rattle.std.proofs.Math.Bool.{and-eq-true_iff}
use Rattle.std.proofs.lemmas.Option.{cond_some}
use Rattle.dv_model.specs.Spelling.{size_code, size_value, is_closed}
use Rattle.dv_records.specs.Faults.{size_at, size_or_zero}
use Rattle.dv_records.proofs.Loop.{IsBytes}

four : (a b c d x y z w : ℕ) → a ≡ x → b ≡ y → c ≡ z → d ≡ w
    → a ∷ b ∷ c ∷ d ∷ [] ≡ x ∷ y ∷ z ∷ w ∷ []
four a b c d x y z w p q r s = cc

-- the size that was written is the size that is read
pub code_of_value : (b : List ℕ) (n : ℕ) → IsBytes b → 4 ≤ length b → size_value b ≡ Some n
    → (take 4 b ≡ size_code n) × (n % 4 ≡ 0) × (get_or b 0 0 ≡ 128 → n < 2 ^ 23)
code_of_value [] n fits long is = absurd (omega arith)
code_of_value (a ∷ []) n fits long is = absurd (omega arith)
code_of_value (a ∷ b ∷ []) n fits long is = absurd (omega arith)
code_of_value (a ∷ b ∷ c ∷ []) n fits long is = absurd (omega arith)
code_of_value (a ∷ b ∷ c ∷ d ∷ rest) n fits long is =
    let p = cond_some (leb 128 a && leb 128 b && leb 128 c && leb 128 d) (4 * (2 ^ 21 * (a - 128) + 2 ^ 14 * (b - 128) + 2 ^ 7 * (c - 128) + (d - 128))) n is in
    let q = (and-eq-true_iff (leb 128 a && leb 128 b && leb 128 c) (leb 128 d)).0 p.0 in
    let r = (and-eq-true_iff (leb 128 a && leb 128 b) (leb 128 c)).0 q.0 in
    let s = (and-eq-true_iff (leb 128 a) (leb 128 b)).0 r.0 in
    let a_high : 128 ≤ a = leb-true 128 a s.0 in
    let b_high : 128 ≤ b = leb-true 128 b s.1 in
    let c_high : 128 ≤ c = leb-true 128 c r.1 in
    let d_high : 128 ≤ d = leb-true 128 d q.1 in
    let a_fits : a < 256 = fits 0 in
    let b_fits : b < 256 = fits 1 in
    let c_fits : c < 256 = fits 2 in
    let d_fits : d < 256 = fits 3 in
    let words : n / 4 ≡ 2 ^ 21 * (a - 128) + 2 ^ 14 * (b - 128) + 2 ^ 7 * (c - 128) + (d - 128) = omega arith in
    (four a b c d _ _ _ _ (omega arith) (omega arith) (omega arith) (omega arith), omega arith, λ e. omega arith)

value_of : (n x y z w : ℕ) (rest : List ℕ) → n ≡ 4 * (2 ^ 21 * x + 2 ^ 14 * y + 2 ^ 7 * z + w)
    → size_value ((128 + x) ∷ (128 + y) ∷ (128 + z) ∷ (128 + w) ∷ rest) ≡ Some n
value_of n x y z w rest e =
    rw (le-leb 128 (128 + x) (omega arith), le-leb 128 (128 + y) (omega arith), le-leb 128 (128 + z) (omega arith), le-leb 128 (128 + w) (omega arith)) (ap (λ (k : ℕ). Some k) (omega arith))

-- the code of a size reads as that size
pub value_of_code : (n : ℕ) (rest : List ℕ) → n < 2 ^ 30 → n % 4 ≡ 0
    → size_value (size_code n ++ rest) ≡ Some n
value_of_code n rest below whole = value_of n (n / 4 / 2 ^ 21 % 128) (n / 4 / 2 ^ 14 % 128) (n / 4 / 2 ^ 7 % 128) (n / 4 % 128) rest (omega arith)

-- ---- a place that isn't closed

-- where a record begins, its size is written
pub record IsOpen (b : List ℕ) : Type 0 where
  pub long : 4 ≤ length b
  pub first : get_or b 0 0 ≡ 128
  pub size : size_value b ≡ Some (size_at b)

some_or_zero : (o : Option ℕ) → is_none o ≡ false → o ≡ Some (size_or_zero o)
some_or_zero None e = absurd cc
some_or_zero (Some n) e = refl

not_false : (t : Bool) → not t ≡ false → t ≡ true
not_false true e = refl
not_false false e = absurd cc

pub is_open : (b : List ℕ) → is_closed b ≡ false → IsOpen b
is_open b e =
    let p = or_parts (ltb (length b) 4 || not (eqb (get_or b 0 0) 128)) (is_none (size_value b)) e in
    let q = or_parts (ltb (length b) 4) (not (eqb (get_or b 0 0) 128)) p.0 in
    record {
      long = ltb-false (length b) 4 q.0;
      first = eqb-true (get_or b 0 0) 128 (not_false (eqb (get_or b 0 0) 128) q.1);
      size = some_or_zero (size_value b) p.1;
    }
