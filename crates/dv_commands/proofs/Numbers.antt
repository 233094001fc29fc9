-- Numbers in decimal digits.
use Rattle.std.proofs.Common.{◌≡◌, ◌⊎◌, inl, inr, ℕ, zero, suc, ◌^◌, ◌<◌, ◌≤◌, Bool, true, false, cond, ◌&&◌, List, [], ◌∷◌, length, get_or, Option, Some, None, Ok, Err, refl, sym, ◌∙◌, ap, subst, arith, nat_le, nat_lt}
use Rattle.std.specs.Fmt.{decimal}
use Rattle.std.specs.Str.{IsUtf8, bytes_eq}
use Rattle.std.specs.Str.Parse.{AllDigits, digits_value, ParsesUnsigned}
use Rattle.std.proofs.lemmas.Bool.{lt-ltb, ltb-true}
use Rattle.std.proofs.lemmas.Bool.Decides.{nat_tests}
use Rattle.std.proofs.lemmas.Fmt.{decimal_digit, decimal_is_IsNumeral, decimal_nonempty, first_decimal, decimal-digits_value, parse-decimal, IsAscii-decimal}
use Rattle.std.proofs.lemmas.Slice.Eq.{bytes_eq-Decides}
use Rattle.std.proofs.lemmas.Str.{IsUtf8-from_ascii}
use Rattle.std.proofs.lemmas.Str.Parse.{IsNumeralModel, numerals_by_value, tells_digits, digit_at, parse_plain}
use Rattle.dv_formats.specs.Parsing.{number_of}

own : IsNumeralModel (AllDigits 10) (digits_value 10)
own = numerals_by_value (AllDigits 10) tells_digits

pub starts_yes : (x : ℕ) → (nat_le 49 x && nat_le x 57) ≡ true → 49 ≤ x
starts_yes x e = grind (arith, nat_tests)

pub starts_no : (x : ℕ) → (nat_le 49 x && nat_le x 57) ≡ false → 49 ≤ x → x ≤ 57 → ⊥
starts_no x e low high = grind (arith, nat_tests)

-- a number from 1 begins with a digit from 1
pub number_starts : (n : ℕ) (b : List ℕ) → 1 ≤ n → n < 2 ^ 64 → b ≡ decimal n
    → (49 ≤ get_or b 0 0) × (get_or b 0 0 ≤ 57)
number_starts n b some small is =
    let first : 48 < get_or b 0 0 = subst (λ t. 48 < get_or t 0 0) (sym is) (first_decimal n some small) in
    let long : 0 < length b = subst (λ t. 0 < length t) (sym is) (decimal_nonempty n small) in
    let digits : AllDigits 10 b = subst (AllDigits 10) (sym is) (decimal_is_IsNumeral n small).0.1 in
    (omega (arith, first), omega (arith, (digit_at b 0 digits long).1))

-- 0 is one digit, and other numbers begin with a digit from 1
pub number_kinds : (n : ℕ) (b : List ℕ) → n < 2 ^ 64 → b ≡ decimal n
    → (b ≡ 48 ∷ []) ⊎ ((49 ≤ get_or b 0 0) × (get_or b 0 0 ≤ 57))
number_kinds zero b small is = inl (is ∙ decimal_digit 0 (omega arith))
number_kinds (suc n) b small is = inr (number_starts (suc n) b (omega arith) small is)

pub zero_text : decimal 0 ≡ 48 ∷ []
zero_text = decimal_digit 0 (omega arith)

pub no_kind : (b : List ℕ) → bytes_eq b (48 ∷ []) ≡ false → (49 ≤ get_or b 0 0 → get_or b 0 0 ≤ 57 → ⊥)
    → (b ≡ 48 ∷ []) ⊎ ((49 ≤ get_or b 0 0) × (get_or b 0 0 ≤ 57)) → ⊥
no_kind b other none (inl is) = let same = (bytes_eq-Decides b (48 ∷ [])).1 is in cc
no_kind b other none (inr first) = none first.0 first.1

pub number_utf8 : (n : ℕ) (b : List ℕ) → n < 2 ^ 64 → b ≡ decimal n → IsUtf8 b
number_utf8 n b small is = subst IsUtf8 (sym is) (IsUtf8-from_ascii (decimal n) (IsAscii-decimal n small))

-- what is parsed and begins so is such a number
pub number_read : (n : ℕ) (b : List ℕ) → 49 ≤ get_or b 0 0 → ParsesUnsigned {E = ℕ} 64 10 b (Ok n) → b ≡ decimal n
number_read n b first parses =
    let plain = parse_plain own {E = ℕ} 64 b (Ok n) parses (omega (arith, first)) in
    let value = digits_value 10 b in
    let same : n ≡ value = plain.1 in
    let small : value < 2 ^ 64 = omega (arith, plain.0.2) in
    let text : decimal value ≡ b = decimal-digits_value own b plain.0.0 plain.0.1 (λ zero. absurd (omega (arith, first, zero))) small in
    sym text ∙ ap decimal (sym same)

-- and such a number is parsed
pub number_parses : {E : Type 0} (n : ℕ) (b : List ℕ) (e : E) → n < 2 ^ 64 → b ≡ decimal n
    → ParsesUnsigned 64 10 b (Err e) → ⊥
number_parses n b e small is parses = let same = parse-decimal 64 n b (Err e) small small is parses in cc

-- ---- as a function

value_of : (n : ℕ) (b : List ℕ) → n < 2 ^ 64 → b ≡ decimal n → digits_value 10 b ≡ n
value_of n b small is = ap (digits_value 10) is ∙ (decimal_is_IsNumeral n small).1

both : (p q : Bool) (x n : ℕ) → cond (p && q) (Some x) None ≡ Some n → (p ≡ true) × (q ≡ true) × (x ≡ n)
both true true x n e = (refl, refl, cc)
both true false x n e = cc
both false q x n e = cc

-- the text of a number is of that number
pub number_sound : (limit : ℕ) (b : List ℕ) (n : ℕ) → number_of limit b ≡ Some n → (n < limit) × (b ≡ decimal n)
unfolding number_of
number_sound limit b n e =
    let is = both (nat_lt (digits_value 10 b) limit) (bytes_eq b (decimal (digits_value 10 b))) (digits_value 10 b) n e in
    let less = ltb-true (digits_value 10 b) limit is.0 in
    (omega (arith, less, is.2), (bytes_eq-Decides b (decimal (digits_value 10 b))).0 is.1 ∙ ap decimal is.2)

-- and it is read
pub number_complete : (limit : ℕ) (b : List ℕ) (n : ℕ) → limit ≤ 2 ^ 64 → n < limit → b ≡ decimal n → number_of limit b ≡ Some n
unfolding number_of
number_complete limit b n wide less is =
    let value = value_of n b (omega (arith, wide, less)) is in
    let lt : nat_lt (digits_value 10 b) limit ≡ true = lt-ltb (digits_value 10 b) limit (omega (arith, value, less)) in
    let eq : bytes_eq b (decimal (digits_value 10 b)) ≡ true = (bytes_eq-Decides b (decimal (digits_value 10 b))).1 (is ∙ ap decimal (sym value)) in
    rw (lt, eq) (ap Some value)

-- a text of no number below the limit is none
pub number_none : (limit : ℕ) (b : List ℕ) → ((n : ℕ) → n < limit → b ≡ decimal n → ⊥) → number_of limit b ≡ None
number_none limit b none = by_case (number_of limit b) refl
  where
    by_case : (r : Option ℕ) → number_of limit b ≡ r → r ≡ None
    by_case None e = refl
    by_case (Some n) e = let is = number_sound limit b n e in absurd (none n is.0 is.1)

-- one at the limit or above it is none
pub is_above : (limit : ℕ) (b : List ℕ) (n : ℕ) → limit ≤ n → n < 2 ^ 64 → b ≡ decimal n → number_of limit b ≡ None
is_above limit b n above small is = number_none limit b (λ m less same.
    let one = sym (value_of m b (omega (arith, less, above, small)) same) ∙ value_of n b small is in
    omega (arith, less, above, one))
