-- The ends of ranges as text.
use Rattle.std.proofs.Common.{◌≡◌, ◌⊎◌, ℕ, zero, suc, ◌^◌, ◌<◌, ◌≤◌, true, false, ◌&&◌, List, [], length, get_or, Ok, Err, refl, sym, ◌∙◌, ap, subst, arith, nat_eq, nat_le}
use Rattle.std.specs.Fmt.{decimal}
use Rattle.std.specs.Str.{IsUtf8}
use Rattle.std.specs.Str.Parse.{AllDigits, digits_value, ParsesUnsigned}
use Rattle.std.proofs.lemmas.Bool.{ne_eqb}
use Rattle.std.proofs.lemmas.Bool.Decides.{nat_tests}
use Rattle.std.proofs.lemmas.Fmt.{decimal_digit, decimal_is_IsNumeral, decimal_injective, decimal_nonempty, first_decimal, decimal-digits_value, parse-decimal, IsAscii-decimal}
use Rattle.std.proofs.lemmas.List.{get_or_default}
use Rattle.std.proofs.lemmas.List.Elements.{All-cons, All-nil}
use Rattle.std.proofs.lemmas.Str.{IsUtf8-from_ascii}
use Rattle.std.proofs.lemmas.Str.Parse.{IsNumeralModel, numerals_by_value, tells_digits, digit_at, parse_plain}
use Rattle.dv_model.specs.declared.types.End.{End}
use Rattle.dv_model.specs.declared.types.End.TheVariants.{Number, Star}
use Rattle.dv_formats.specs.Scripts.{IsEnd}
use Rattle.dv_sets.proofs.Pieces.{Lacks}

own : IsNumeralModel (AllDigits 10) (digits_value 10)
own = numerals_by_value (AllDigits 10) tells_digits

-- the test of a first digit
pub starts_yes : (x : ℕ) → (nat_le 49 x && nat_le x 57) ≡ true → 49 ≤ x
starts_yes x e = grind (arith, nat_tests)

pub starts_no : (x : ℕ) → (nat_le 49 x && nat_le x 57) ≡ false → 49 ≤ x → x ≤ 57 → ⊥
starts_no x e low high = grind (arith, nat_tests)

-- a number from 1 begins with a digit from 1
pub number_starts : (n : ℕ) (b : List ℕ) → IsEnd (Number n) b
    → (49 ≤ get_or b 0 0) × (get_or b 0 0 ≤ 57)
number_starts n b is =
    let small : n < 2 ^ 64 = omega (arith, is.1) in
    let first : 48 < get_or b 0 0 = subst (λ t. 48 < get_or t 0 0) (sym is.2) (first_decimal n is.0 small) in
    let some : 0 < length b = subst (λ t. 0 < length t) (sym is.2) (decimal_nonempty n small) in
    let digits : AllDigits 10 b = subst (AllDigits 10) (sym is.2) (decimal_is_IsNumeral n small).0.1 in
    (omega (arith, first), omega (arith, (digit_at b 0 digits some).1))

pub number_utf8 : (n : ℕ) (b : List ℕ) → IsEnd (Number n) b → IsUtf8 b
number_utf8 n b is = subst IsUtf8 (sym is.2) (IsUtf8-from_ascii (decimal n) (IsAscii-decimal n (omega (arith, is.1))))

-- what is parsed and begins so is such a number
pub number_read : (n : ℕ) (b : List ℕ) → 49 ≤ get_or b 0 0 → ParsesUnsigned {E = ℕ} 32 10 b (Ok n) → IsEnd (Number n) b
number_read n b first parses =
    let plain = parse_plain own {E = ℕ} 32 b (Ok n) parses (omega (arith, first)) in
    let value = digits_value 10 b in
    let same : n ≡ value = plain.1 in
    let small : value < 2 ^ 64 = omega (arith, plain.0.2) in
    let text : decimal value ≡ b = decimal-digits_value own b plain.0.0 plain.0.1 (λ zero. absurd (omega (arith, first, zero))) small in
    let some : 1 ≤ value = positive value b first text in
    (omega (arith, same, some), omega (arith, same, plain.0.2), sym text ∙ ap decimal (sym same))
  where
    positive : (v : ℕ) (t : List ℕ) → 49 ≤ get_or t 0 0 → decimal v ≡ t → 1 ≤ v
    positive zero t at e = absurd (omega (arith, at, ap (λ s. get_or s 0 0) (sym e ∙ decimal_digit 0 (omega arith))))
    positive (suc v) t at e = omega arith

-- and such a number is parsed
pub number_parses : {E : Type 0} (n : ℕ) (b : List ℕ) (e : E) → IsEnd (Number n) b
    → ParsesUnsigned 32 10 b (Err e) → ⊥
number_parses n b e is parses = let same = parse-decimal 32 n b (Err e) is.1 (omega (arith, is.1)) is.2 parses in cc

-- an end has no byte but digits and the star
pub end_lacks : (byte : ℕ) (end : End) (b : List ℕ) → 42 < byte → (byte < 48) ⊎ (57 < byte)
    → IsEnd end b → Lacks byte b
end_lacks byte (Number n) b above outside is = λ k d less.
    let digits : AllDigits 10 b = subst (AllDigits 10) (sym is.2) (decimal_is_IsNumeral n (omega (arith, is.1))).0.1 in
    let at = digit_at b k digits less in
    ap (λ x. nat_eq x byte) (get_or_default b k d 0 less) ∙ ne_eqb (get_or b k 0) byte (λ same. omega (arith, at, outside, same))
end_lacks byte Star b above outside is = subst (Lacks byte) (sym is) (All-cons (λ b. nat_eq b byte ≡ false) 42 [] (ne_eqb 42 byte (λ same. omega (arith, same, above))) (All-nil (λ b. nat_eq b byte ≡ false)))

-- a text is of one end
pub end_is_one : (e f : End) (b : List ℕ) → IsEnd e b → IsEnd f b → e ≡ f
end_is_one (Number m) (Number n) b p q = ap Number (decimal_injective m n (omega (arith, p.1)) (omega (arith, q.1)) (sym p.2 ∙ q.2))
end_is_one (Number m) Star b p q = absurd (omega (arith, (number_starts m b p).0, ap (λ t. get_or t 0 0) q))
end_is_one Star (Number n) b p q = absurd (omega (arith, (number_starts n b q).0, ap (λ t. get_or t 0 0) p))
end_is_one Star Star b p q = refl
