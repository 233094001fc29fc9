-- The digits of a GUID, as the crate `hex` reads them.
use Rattle.std.proofs.Common.{◌≡◌, ℕ, zero, suc, ◌+◌, ◌*◌, ◌/◌, ◌%◌, ◌<◌, Bool, true, false, ◌&&◌, cond, eqb, List, [], ◌∷◌, length, Some, None, Result, Ok, Err, refl, ap, ◌∙◌, inl, inr, arith}
use Rattle.std.specs.Char.{digit_value}
use Rattle.std.specs.Option.{option_map}
use Rattle.std.specs.Result.{result_ok}
use Rattle.std.proofs.lemmas.Bool.{and_parts, cases_lt, eqb-false, eqb-true}
use Rattle.std.proofs.lemmas.Bool.Decides.{nat_tests}
use Rattle.hex.specs.declared.error.FromHexError.{FromHexError}
use Rattle.std.specs.Char.{digit_char}
use Rattle.std.specs.Prelude.{slice_index}
use Rattle.hex.specs.Hex.{IsBytes, encode_lower, encode_with, lower_digits, decode_pairs, decode_sized, hex_digit_value, pair_value, ◌>>=◌}
use Rattle.dv_dbox.specs.BoxTexts.{are_hex, guid_number, is_hex, paired, pairs_text}

digit_is : (c : ℕ) → hex_digit_value c ≡ cond (is_hex c) (Some (digit_value c)) None
digit_is c = grind (arith, nat_tests)

first_of_more : (byte : ℕ) (read : Result (List ℕ) FromHexError)
    → result_ok (read >>= λ bytes. Ok (byte ∷ bytes)) ≡ option_map (λ bytes. byte ∷ bytes) (result_ok read)
first_of_more byte (Ok bytes) = refl
first_of_more byte (Err e) = refl

step : (i h l : ℕ) (rest : List ℕ) (read : Result (List ℕ) FromHexError) (a b r : Bool)
    → is_hex h ≡ a → is_hex l ≡ b → result_ok read ≡ cond r (Some (paired rest)) None
    → result_ok (pair_value h l i >>= λ byte. read >>= λ bytes. Ok (byte ∷ bytes)) ≡ cond (a && (b && r)) (Some (paired (h ∷ l ∷ rest))) None
step i h l rest read false b r e f g = rw (digit_is h, e) refl
step i h l rest read true false r e f g = rw (digit_is h, digit_is l, e, f) refl
step i h l rest read true true false e f g = rw (digit_is h, digit_is l, e, f) (first_of_more (digit_value h * 16 + digit_value l) read ∙ rw g refl)
step i h l rest read true true true e f g = rw (digit_is h, digit_is l, e, f) (first_of_more (digit_value h * 16 + digit_value l) read ∙ rw g refl)

pairs : (i : ℕ) (text : List ℕ) → length text % 2 ≡ 0
    → result_ok (decode_pairs i text) ≡ cond (are_hex text) (Some (paired text)) None
unfolding decode_pairs
pairs i [] even = refl
pairs i (h ∷ []) even = absurd (omega arith)
pairs i (h ∷ l ∷ rest) even = step i h l rest (decode_pairs (i + 2) rest) (is_hex h) (is_hex l) (are_hex rest) refl refl (pairs (i + 2) rest (omega arith))

-- 32 digits, or no GUID
pub guid_is : (text : List ℕ) → result_ok (decode_sized text 16) ≡ guid_number text
guid_is text = by_length (eqb (length text) 32) refl
  where
    by_length : (t : Bool) → eqb (length text) 32 ≡ t
        → result_ok (decode_sized text 16) ≡ guid_number text
    by_length true e =
        let long : length text ≡ 32 = eqb-true _ _ e in
        rw long (pairs 0 text (rw long refl))
    by_length false e = wrong (eqb (length text % 2) 1) (eqb (length text / 2) 16) refl refl
      where
        wrong : (u v : Bool) → eqb (length text % 2) 1 ≡ u → eqb (length text / 2) 16 ≡ v
            → result_ok (decode_sized text 16) ≡ guid_number text
        wrong true v f g = rw (f, e) refl
        wrong false false f g = rw (f, g, e) refl
        wrong false true f g = absurd (omega (arith, eqb-true _ _ g, eqb-false _ _ f, eqb-false _ _ e))

-- the table's digit at a place is that of the number
abbrev is_same_digit : ℕ → Bool
is_same_digit d = eqb (slice_index lower_digits d) (digit_char d)

abbrev are_same_digits : ℕ → Bool
are_same_digits zero = true
are_same_digits (suc n) = is_same_digit n && are_same_digits n

same_below : (n d : ℕ) → are_same_digits n ≡ true → d < n → is_same_digit d ≡ true
same_below zero d e lt = absurd (omega arith)
same_below (suc n) d e lt =
    let parts = and_parts (is_same_digit n) (are_same_digits n) e in
    elim (cases_lt d n) [
      | inl below ↦ same_below n d parts.1 below
      | inr top ↦ let same : d ≡ n = omega arith in rw same parts.0
    ]

digit_at : (d : ℕ) → d < 16 → slice_index lower_digits d ≡ digit_char d
digit_at d lt = eqb-true _ _ (same_below 16 d refl lt)

-- the crate writes the same digits
pub encoded_is : (bytes : List ℕ) → IsBytes bytes → encode_lower bytes ≡ pairs_text bytes
unfolding encode_with
encoded_is [] h = refl
encoded_is (b ∷ bytes) h =
    let small : b < 256 = h 0 in
    let high = digit_at (b / 16) (omega arith) in
    let low = digit_at (b % 16) (omega arith) in
    rw (high, low) (ap (λ (text : List ℕ). digit_char (b / 16) ∷ digit_char (b % 16) ∷ text) (encoded_is bytes (λ i. h (suc i))))
