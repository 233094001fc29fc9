-- A value's text is of one value.
use Rattle.std.proofs.Common.{◌≡◌, ℕ, ◌+◌, ◌<◌, ◌≤◌, Bool, true, false, not, ◌&&◌, cond, eqb, List, [], ◌∷◌, ◌++◌, length, get_or, drop, All, Contains, Some, None, codes, flat_map, refl, sym, ◌∙◌, ap, subst, arith, append_assoc}
use Rattle.std.specs.Prelude.{sum_by, unwrap_or, nat_eq, bit_and}
use Rattle.std.specs.Fmt.{decimal}
use Rattle.std.specs.List.{list_all}
use Rattle.std.specs.Str.{bytes_eq}
use Rattle.std.proofs.lemmas.Bool.{agree_below_at, eqb-true, false_from_ne_true}
use Rattle.std.proofs.lemmas.List.{append_cancel_left}
use Rattle.std.proofs.lemmas.List.Elements.{All-append, All-cons, All-head, All-nil, All-tail, All-weaker}
use Rattle.std.proofs.lemmas.List.Sums.{AllPass-from_list_all, sum_by-append, sum_by-cons}
use Rattle.std.proofs.lemmas.Slice.Eq.{bytes_eq-Decides}
use Rattle.dv_model.specs.declared.types.Value.{Value}
use Rattle.dv_model.specs.declared.types.Value.TheVariants as value
use Rattle.dv_model.specs.Names.{IsName, IsNameByte}
use Rattle.dv_model.specs.Texts.{flag_when, flag_words, literal, spaced, value_text}
use Rattle.dv_formats.specs.Replies.{IsValue}
use Rattle.dv_formats.specs.Scripts.{IsFieldName, flag_bit, is_field_byte}
use Rattle.dv_formats.proofs.Stops.{EndsBy, IsDigit, Stops, apart, ends_by, list_one, literal_one, number_one, spaced_words, stops_by}
use Rattle.dv_formats.proofs.Texts.{head_one}

-- ---- words of a flag list

-- neither a space nor a parenthesis
abbrev IsWordByte : ℕ → Type 0
IsWordByte b = (b ≡ 32 → ⊥) × (b ≡ 41 → ⊥)

record IsWord (word : List ℕ) : Type 0 where
  some : 1 ≤ length word
  bytes : All IsWordByte word

name_byte : (b : ℕ) → IsNameByte b → IsWordByte b
name_byte b is = (
  λ same. omega (arith, is.printable, same),
  λ same. is.plain (subst (Contains (codes "(){\"\\%*")) (sym same) (1, omega arith, refl)),
)

name_word : (name : List ℕ) → IsName name → IsWord name
name_word name is = record { some = is.size.0; bytes = All-weaker IsNameByte IsWordByte name_byte name is.bytes }

word_one : (w v x y : List ℕ) → IsWord w → IsWord v → EndsBy 32 41 x → EndsBy 32 41 y
    → w ++ x ≡ v ++ y → (w ≡ v) × (x ≡ y)
word_one w v x y p q r s e =
    let space : IsWordByte 32 → ⊥ = λ is. is.0 refl in
    let close : IsWordByte 41 → ⊥ = λ is. is.1 refl in
    apart IsWordByte w v x y p.bytes q.bytes (stops_by IsWordByte 32 41 x space close r) (stops_by IsWordByte 32 41 y space close s) e

no_word : (w x y : List ℕ) → IsWord w → 41 ∷ x ≡ w ++ y → ⊥
no_word [] x y is e = omega (arith, is.some)
no_word (b ∷ w) x y is e = (All-head IsWordByte b w is.bytes).1 (sym (head_one 41 b x (w ++ y) e))

first_word : (w : List ℕ) (ws : List (List ℕ)) (x : List ℕ)
    → spaced (w ∷ ws) ++ 41 ∷ x ≡ w ++ (flat_map (λ v. 32 ∷ v) ws ++ 41 ∷ x)
first_word w ws x = ap (λ t. t ++ 41 ∷ x) (spaced_words w ws) ∙ append_assoc w (flat_map (λ v. 32 ∷ v) ws) (41 ∷ x)

words_one : (ws vs : List (List ℕ)) (x y : List ℕ) → All IsWord ws → All IsWord vs
    → spaced ws ++ 41 ∷ x ≡ spaced vs ++ 41 ∷ y → (ws ≡ vs) × (x ≡ y)
words_one [] [] x y p q e = (refl, ap (drop 1) e)
words_one [] (v ∷ vs) x y p q e = absurd (no_word v x (flat_map (λ v. 32 ∷ v) vs ++ 41 ∷ y) (All-head IsWord v vs q) (e ∙ first_word v vs y))
words_one (w ∷ ws) [] x y p q e = absurd (no_word w y (flat_map (λ v. 32 ∷ v) ws ++ 41 ∷ x) (All-head IsWord w ws p) (sym e ∙ first_word w ws x))
words_one (w ∷ ws) (v ∷ vs) x y p q e =
    let rest = flat_map (λ v. 32 ∷ v) ws ++ 41 ∷ x in
    let others = flat_map (λ v. 32 ∷ v) vs ++ 41 ∷ y in
    let first = word_one w v rest others (All-head IsWord w ws p) (All-head IsWord v vs q) (ends_by (λ v. v) 32 41 ws x) (ends_by (λ v. v) 32 41 vs y) (sym (first_word w ws x) ∙ e ∙ first_word v vs y) in
    let more = list_one (λ v. v) 32 41 IsWord (λ same. omega (arith, same)) (λ a c z t r s l m f. word_one a c z t r s l m f) ws vs x y (All-tail IsWord w ws p) (All-tail IsWord v vs q) first.1 in
    (ap (λ z. z ∷ ws) first.0 ∙ ap (λ zs. v ∷ zs) more.0, more.1)

-- ---- system flags

-- the bits of the flags among words
bits_of : List (List ℕ) → ℕ
bits_of words = sum_by (λ word. unwrap_or (flag_bit word) 0) words

bits_are : (flags : ℕ) → flags < 32 → bits_of (flag_words flags) ≡ flags
unfolding bits_of
bits_are flags small = eqb-true (bits_of (flag_words flags)) flags (agree_below_at (λ n. eqb (bits_of (flag_words n)) n) (λ n. true) 32 flags refl small)

-- a word that isn't a name
not_word : (name text : List ℕ) → IsName name → get_or text 0 0 ≡ 92 → bytes_eq name text ≡ false
not_word name text is slash = false_from_ne_true (bytes_eq name text) (λ same. no_slash name is (ap (λ t. get_or t 0 0) ((bytes_eq-Decides name text).0 same) ∙ slash))
  where
    no_slash : (w : List ℕ) → IsName w → get_or w 0 0 ≡ 92 → ⊥
    no_slash [] n e = omega (arith, n.size)
    no_slash (b ∷ w) n e = (All-head IsNameByte b w n.bytes).plain (subst (Contains (codes "(){\"\\%*")) (sym e) (4, omega arith, refl))

no_flag : (name : List ℕ) → IsName name → flag_bit name ≡ None
no_flag name is = rw (
  not_word name (codes "\\Answered") is refl,
  not_word name (codes "\\Flagged") is refl,
  not_word name (codes "\\Deleted") is refl,
  not_word name (codes "\\Seen") is refl,
  not_word name (codes "\\Draft") is refl,
) refl

no_bits : (names : List (List ℕ)) → All IsName names → bits_of names ≡ 0
unfolding bits_of
no_bits [] all = refl
no_bits (name ∷ names) all =
    let none : unwrap_or (flag_bit name) 0 ≡ 0 = ap (λ o. unwrap_or o 0) (no_flag name (All-head IsName name names all)) in
    omega (arith, sum_by-cons (λ word. unwrap_or (flag_bit word) 0) name names, none, no_bits names (All-tail IsName name names all))

all_bits : (flags : ℕ) (names : List (List ℕ)) → flags < 32 → All IsName names
    → bits_of (flag_words flags ++ names) ≡ flags
unfolding bits_of
all_bits flags names small all =
    omega (arith, bits_append (flag_words flags) names, bits_are flags small, no_bits names all)
  where
    bits_append : (xs ys : List (List ℕ)) → bits_of (xs ++ ys) ≡ bits_of xs + bits_of ys
    bits_append xs ys = sum_by-append (λ word. unwrap_or (flag_bit word) 0) xs ys

abbrev is_word_byte : ℕ → Bool
is_word_byte b = not (eqb b 32) && not (eqb b 41)

word_byte : (b : ℕ) → is_word_byte b ≡ true → IsWordByte b
word_byte b e = (
  λ same. let f : is_word_byte 32 ≡ true = subst (λ k. is_word_byte k ≡ true) same e in absurd cc,
  λ same. let f : is_word_byte 41 ≡ true = subst (λ k. is_word_byte k ≡ true) same e in absurd cc,
)

word_text : (word : List ℕ) → 1 ≤ length word → list_all is_word_byte word ≡ true → IsWord word
word_text word some e = record {
  some = some;
  bytes = All-weaker (λ b. is_word_byte b ≡ true) IsWordByte word_byte word (AllPass-from_list_all is_word_byte word e);
}

when_word : (t : Bool) (name : List ℕ) → IsWord name → All IsWord (cond t [] (name ∷ []))
when_word true name is = All-nil IsWord
when_word false name is = All-cons IsWord name [] is (All-nil IsWord)

flags_are_words : (flags : ℕ) → All IsWord (flag_words flags)
flags_are_words flags =
    let at = λ (bit : ℕ). nat_eq (bit_and flags bit) 0 in
    let answered = when_word (at 1) (codes "\\Answered") (word_text (codes "\\Answered") (omega arith) refl) in
    let flagged = when_word (at 2) (codes "\\Flagged") (word_text (codes "\\Flagged") (omega arith) refl) in
    let deleted = when_word (at 4) (codes "\\Deleted") (word_text (codes "\\Deleted") (omega arith) refl) in
    let seen = when_word (at 8) (codes "\\Seen") (word_text (codes "\\Seen") (omega arith) refl) in
    let draft = when_word (at 16) (codes "\\Draft") (word_text (codes "\\Draft") (omega arith) refl) in
    let two = All-append IsWord (flag_when flags 1 (codes "\\Answered")) (flag_when flags 2 (codes "\\Flagged")) answered flagged in
    let three = All-append IsWord (flag_when flags 1 (codes "\\Answered") ++ flag_when flags 2 (codes "\\Flagged")) (flag_when flags 4 (codes "\\Deleted")) two deleted in
    let four = All-append IsWord (flag_when flags 1 (codes "\\Answered") ++ flag_when flags 2 (codes "\\Flagged") ++ flag_when flags 4 (codes "\\Deleted")) (flag_when flags 8 (codes "\\Seen")) three seen in
    All-append IsWord (flag_when flags 1 (codes "\\Answered") ++ flag_when flags 2 (codes "\\Flagged") ++ flag_when flags 4 (codes "\\Deleted") ++ flag_when flags 8 (codes "\\Seen")) (flag_when flags 16 (codes "\\Draft")) four draft

are_words : (flags : ℕ) (names : List (List ℕ)) → All IsName names
    → All IsWord (flag_words flags ++ names)
are_words flags names all = All-append IsWord (flag_words flags) names (flags_are_words flags) (All-weaker IsName IsWord name_word names all)

flags_one : (f g : ℕ) (k l : List (List ℕ)) (x y : List ℕ) → f < 32 → g < 32 → All IsName k
    → All IsName l
    → spaced (flag_words f ++ k) ++ 41 ∷ x ≡ spaced (flag_words g ++ l) ++ 41 ∷ y
    → (f ≡ g) × (k ≡ l) × (x ≡ y)
flags_one f g k l x y small fits p q e =
    let both = words_one (flag_words f ++ k) (flag_words g ++ l) x y (are_words f k p) (are_words g l q) e in
    let flags : f ≡ g = sym (all_bits f k small p) ∙ ap bits_of both.0 ∙ all_bits g l fits q in
    let names : flag_words f ++ k ≡ flag_words f ++ l = both.0 ∙ ap (λ n. flag_words n ++ l) (sym flags) in
    (flags, append_cancel_left (flag_words f) k l names, both.1)

-- ---- a field's name

field_stop : is_field_byte 32 ≡ true → ⊥
field_stop e = cc

-- ---- values

kind : Value → ℕ
kind (value.Flags flags keywords) = 0
kind (value.Size n) = 1
kind (value.Body bytes) = 2
kind (value.Field name found) = 3
kind (value.Modseq n) = 4

-- what the first two bytes say
seen_kind : List ℕ → ℕ
seen_kind b =
    cond (eqb (get_or b 0 0) 82) 1
    (cond (eqb (get_or b 0 0) 66) 2
    (cond (eqb (get_or b 0 0) 77) 4
    (cond (eqb (get_or b 1 0) 73) 3 0)))

kind_is : (v : Value) (x : List ℕ) → seen_kind (value_text v ++ x) ≡ kind v
unfolding kind seen_kind
kind_is (value.Flags flags keywords) x = refl
kind_is (value.Size n) x = refl
kind_is (value.Body bytes) x = refl
kind_is (value.Field name None) x = refl
kind_is (value.Field name (Some bytes)) x = refl
kind_is (value.Modseq n) x = refl

field_one : (a c : List ℕ) (x y : List ℕ) → IsFieldName a → IsFieldName c
    → a ++ 32 ∷ x ≡ c ++ 32 ∷ y → (a ≡ c) × (x ≡ y)
field_one a c x y p q e =
    let both = apart (λ n. is_field_byte n ≡ true) a c (32 ∷ x) (32 ∷ y) p.bytes q.bytes field_stop field_stop e in
    (both.0, ap (drop 1) both.1)

pub value_one : (v w : Value) (x y : List ℕ) → IsValue v → IsValue w → EndsBy 32 41 x
    → EndsBy 32 41 y
    → value_text v ++ x ≡ value_text w ++ y → (v ≡ w) × (x ≡ y)
unfolding kind
value_one v w x y p q r s e = by_kind v w p q e (sym (kind_is v x) ∙ ap seen_kind e ∙ kind_is w y)
  where
    no_digit : (z : List ℕ) → EndsBy 32 41 z → Stops IsDigit z
    no_digit z ends = stops_by IsDigit 32 41 z (λ d. omega (arith, d.0)) (λ d. omega (arith, d.0)) ends

    behind : (a t z : List ℕ) → ((a ++ codes " ") ++ literal t) ++ z ≡ a ++ 32 ∷ (literal t ++ z)
    behind a t z = append_assoc (a ++ codes " ") (literal t) z ∙ append_assoc a (32 ∷ []) (literal t ++ z)

    by_kind : (v w : Value) → IsValue v → IsValue w → value_text v ++ x ≡ value_text w ++ y
        → kind v ≡ kind w → (v ≡ w) × (x ≡ y)
    by_kind (value.Flags f k) (value.Flags g l) p q e same =
        let left = append_assoc (spaced (flag_words f ++ k)) (41 ∷ []) x in
        let right = append_assoc (spaced (flag_words g ++ l)) (41 ∷ []) y in
        let all = flags_one f g k l x y p.0 q.0 p.1 q.1 (sym left ∙ ap (drop 7) e ∙ right) in
        (λ i. value.Flags (all.0 i) (all.1 i), all.2)
    by_kind (value.Size m) (value.Size n) p q e same =
        let both = number_one m n x y p q (no_digit x r) (no_digit y s) (ap (drop 12) e) in
        (ap (λ k. value.Size k) both.0, both.1)
    by_kind (value.Body a) (value.Body c) p q e same =
        let both = literal_one a c x y p q (ap (drop 7) e) in
        (ap (λ k. value.Body k) both.0, both.1)
    by_kind (value.Field a None) (value.Field c None) p q e same =
        let left = append_assoc a (codes " NIL") x in
        let right = append_assoc c (codes " NIL") y in
        let both = field_one a c (78 ∷ 73 ∷ 76 ∷ x) (78 ∷ 73 ∷ 76 ∷ y) p q (sym left ∙ ap (drop 6) e ∙ right) in
        (ap (λ k. value.Field k None) both.0, ap (drop 3) both.1)
    by_kind (value.Field a None) (value.Field c (Some t)) p q e same =
        let left = append_assoc a (codes " NIL") x in
        let both = field_one a c (78 ∷ 73 ∷ 76 ∷ x) (literal t ++ y) p q.0 (sym left ∙ ap (drop 6) e ∙ behind c t y) in
        absurd (omega (arith, ap (λ z. get_or z 0 0) both.1))
    by_kind (value.Field a (Some t)) (value.Field c None) p q e same =
        let right = append_assoc c (codes " NIL") y in
        let both = field_one a c (literal t ++ x) (78 ∷ 73 ∷ 76 ∷ y) p.0 q (sym (behind a t x) ∙ ap (drop 6) e ∙ right) in
        absurd (omega (arith, ap (λ z. get_or z 0 0) both.1))
    by_kind (value.Field a (Some t)) (value.Field c (Some u)) p q e same =
        let both = field_one a c (literal t ++ x) (literal u ++ y) p.0 q.0 (sym (behind a t x) ∙ ap (drop 6) e ∙ behind c u y) in
        let bytes = literal_one t u x y p.1 q.1 both.1 in
        (λ i. value.Field (both.0 i) (Some (bytes.0 i)), bytes.1)
    by_kind (value.Modseq m) (value.Modseq n) p q e same =
        let left = append_assoc (decimal m) (41 ∷ []) x in
        let right = append_assoc (decimal n) (41 ∷ []) y in
        let both = number_one m n (41 ∷ x) (41 ∷ y) p q (λ d. omega (arith, d.0)) (λ d. omega (arith, d.0)) (sym left ∙ ap (drop 8) e ∙ right) in
        (ap (λ k. value.Modseq k) both.0, ap (drop 1) both.1)
    by_kind v w p q e same = absurd (omega (arith, same))
