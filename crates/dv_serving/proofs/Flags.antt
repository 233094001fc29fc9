-- The flags that a script names are a byte, and its keywords are names, no more than it has bytes.
use Rattle.std.proofs.Common.{◌≡◌, inl, inr, ℕ, suc, ◌+◌, ◌^◌, ◌<◌, ◌≤◌, Bool, true, false, cond, List, [], ◌∷◌, ◌++◌, length, All, Option, Some, None, codes, fold, refl, ◌∙◌, ap, subst, arith, length-append}
use Rattle.std.specs.Prelude.{bit_or}
use Rattle.std.specs.List.{list_any}
use Rattle.std.specs.Str.{bytes_eq}
use Rattle.std.proofs.lemmas.List.Elements.{All-append, All-cons, All-head, All-nil, All-tail}
use Rattle.std.proofs.lemmas.Nat.{or_lt}
use Rattle.dv_model.specs.Names.{IsName}
use Rattle.dv_model.specs.Texts.{spaced}
use Rattle.dv_formats.specs.Scripts.{AreFlags, IsFlag, flag_bit, with_flag}

-- ---- one word

bit_small : (a b c d e : Bool) (bit : ℕ)
    → cond a (Some 1) (cond b (Some 2) (cond c (Some 4) (cond d (Some 8) (cond e (Some 16) None)))) ≡ Some bit
    → bit < 2 ^ 8
bit_small true b c d e bit is = let same : 1 ≡ bit = cc in omega (arith, same)
bit_small false true c d e bit is = let same : 2 ≡ bit = cc in omega (arith, same)
bit_small false false true d e bit is = let same : 4 ≡ bit = cc in omega (arith, same)
bit_small false false false true e bit is = let same : 8 ≡ bit = cc in omega (arith, same)
bit_small false false false false true bit is = let same : 16 ≡ bit = cc in omega (arith, same)
bit_small false false false false false bit is = absurd cc

-- so many words were read
pub record AreRead (count : ℕ) (s : ℕ × List (List ℕ)) : Type 0 where
  pub flags : s.0 < 2 ^ 8
  pub names : All IsName s.1
  pub few : length s.1 ≤ count

one_more : (count : ℕ) (s : ℕ × List (List ℕ)) (word : List ℕ) → IsFlag word → AreRead count s
    → AreRead (suc count) (with_flag s word)
one_more count s word is so_far = by_bit (flag_bit word) refl
  where
    known : Bool → List (List ℕ)
    known t = cond t s.1 (s.1 ++ word ∷ [])

    by_known : (t : Bool) → IsName word → All IsName (known t) × (length (known t) ≤ suc count)
    by_known true name = (so_far.names, omega (arith, so_far.few))
    by_known false name = (
      All-append IsName s.1 (word ∷ []) so_far.names (All-cons IsName word [] name (All-nil IsName)),
      omega (arith, so_far.few, length-append s.1 (word ∷ [])),
    )

    is_name : IsFlag word → flag_bit word ≡ None → IsName word
    is_name (inl (n, e)) none = absurd cc
    is_name (inr name) none = name

    by_bit : (r : Option ℕ) → flag_bit word ≡ r → AreRead (suc count) (with_flag s word)
    by_bit (Some bit) same =
        let small = bit_small (bytes_eq word (codes "\\Answered")) (bytes_eq word (codes "\\Flagged")) (bytes_eq word (codes "\\Deleted")) (bytes_eq word (codes "\\Seen")) (bytes_eq word (codes "\\Draft")) bit same in
        let added : AreRead (suc count) (bit_or s.0 bit, s.1) = record { flags = or_lt 8 s.0 bit so_far.flags small; names = so_far.names; few = omega (arith, so_far.few) } in
        rw same added
    by_bit None same =
        let keywords = by_known (list_any (bytes_eq word) s.1) (is_name is same) in
        let added : AreRead (suc count) (s.0, known (list_any (bytes_eq word) s.1)) = record { flags = so_far.flags; names = keywords.0; few = keywords.1 } in
        rw same added

-- ---- all words

all_read : (words : List (List ℕ)) (count : ℕ) (s : ℕ × List (List ℕ)) → All IsFlag words
    → AreRead count s → AreRead (count + length words) (fold with_flag s words)
all_read [] count s all so_far = subst (λ n. AreRead n s) (omega arith) so_far
all_read (word ∷ words) count s all so_far =
    subst (λ n. AreRead n (fold with_flag (with_flag s word) words)) (omega arith)
    (all_read words (suc count) (with_flag s word) (All-tail IsFlag word words all)
    (one_more count s word (All-head IsFlag word words all) so_far))

-- there is a space between two words
words_fit : (words : List (List ℕ)) → length words ≤ suc (length (spaced words))
words_fit [] = omega arith
words_fit (word ∷ []) = omega arith
words_fit (word ∷ next ∷ words) =
    omega (arith, words_fit (next ∷ words), length-append word (32 ∷ spaced (next ∷ words)))

-- the flags of a text, which has a byte for each keyword
pub flags_fit : (flags : ℕ) (keywords : List (List ℕ)) (b : List ℕ) → AreFlags flags keywords b
    → (flags < 2 ^ 8) × All IsName keywords × (length keywords ≤ length b)
flags_fit flags keywords b is =
    let none : AreRead 0 (0, []) = record { flags = omega arith; names = All-nil IsName; few = omega arith } in
    let all : AreRead (0 + length is.words) (flags, keywords) = subst (AreRead (0 + length is.words)) is.named (all_read is.words 0 (0, []) is.each none) in
    let read : AreRead (length is.words) (flags, keywords) = subst (λ n. AreRead n (flags, keywords)) (omega arith) all in
    let long : length b ≡ length (spaced is.words) + 2 = ap length is.text ∙ omega (arith, length-append (spaced is.words) (codes ")")) in
    (read.flags, read.names, omega (arith, read.few, words_fit is.words, long))
