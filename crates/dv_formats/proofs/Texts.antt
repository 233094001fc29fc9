-- A text is of one snapshot.
use Rattle.std.proofs.Common.{◌≡◌, ◌⊎◌, inl, inr, ℕ, zero, suc, ◌+◌, ◌^◌, ◌<◌, ◌≤◌, List, [], ◌∷◌, ◌++◌, length, take, drop, refl, sym, ◌∙◌, ap, subst, arith, length-append}
use Rattle.std.specs.Prelude.{flat_map, replicate}
use Rattle.std.specs.Int.{w16, w32, w64, to_le_bytes, from_le_bytes}
use Rattle.std.specs.List.{AllByRecursion, range_with_len}
use Rattle.std.proofs.lemmas.Bool.{cases_lt}
use Rattle.std.proofs.lemmas.List.{append_assoc, length-replicate}
use Rattle.std.proofs.lemmas.Nat.{from_le_bytes-to_le_bytes_2, from_le_bytes-to_le_bytes_4, from_le_bytes-to_le_bytes_8}
use Rattle.dv_model.specs.declared.types.Extension.{Extension}
use Rattle.dv_model.specs.Spelling.{padding}
use Rattle.dv_formats.specs.Snapshots.{filled, keyword_text, extension_text, keyword_word}
use Rattle.dv_formats.proofs.Bits.{Rise, word_fits}

-- ---- numbers and lists

pub half_one : (m n : ℕ) → m < 2 ^ 16 → n < 2 ^ 16 → to_le_bytes w16 m ≡ to_le_bytes w16 n → m ≡ n
half_one m n p q e = sym (from_le_bytes-to_le_bytes_2 m p) ∙ ap (from_le_bytes w16) e ∙ from_le_bytes-to_le_bytes_2 n q

pub word_one : (m n : ℕ) → m < 2 ^ 32 → n < 2 ^ 32 → to_le_bytes w32 m ≡ to_le_bytes w32 n → m ≡ n
word_one m n p q e = sym (from_le_bytes-to_le_bytes_4 m p) ∙ ap (from_le_bytes w32) e ∙ from_le_bytes-to_le_bytes_4 n q

pub wide_one : (m n : ℕ) → m < 2 ^ 64 → n < 2 ^ 64 → to_le_bytes w64 m ≡ to_le_bytes w64 n → m ≡ n
wide_one m n p q e = sym (from_le_bytes-to_le_bytes_8 m p) ∙ ap (from_le_bytes w64) e ∙ from_le_bytes-to_le_bytes_8 n q

pub head_one : (x y : ℕ) (xs ys : List ℕ) → x ∷ xs ≡ y ∷ ys → x ≡ y
head_one x y xs ys e = cc

-- lists of one length in front of others
pub parts_one : (a c b d : List ℕ) → length a ≡ length c → a ++ b ≡ c ++ d → (a ≡ c) × (b ≡ d)
parts_one [] [] b d same e = (refl, e)
parts_one [] (y ∷ c) b d same e = absurd (omega (arith, same))
parts_one (x ∷ a) [] b d same e = absurd (omega (arith, same))
parts_one (x ∷ a) (y ∷ c) b d same e =
    let first = head_one x y (a ++ b) (c ++ d) e in
    let rest = parts_one a c b d (omega (arith, same)) (ap (drop 1) e) in
    (ap (λ z. z ∷ a) first ∙ ap (λ zs. y ∷ zs) rest.0, rest.1)

pub length_filled : (a : List ℕ) → length (filled a) ≡ length a + padding (length a)
length_filled a = length-append a (replicate (padding (length a)) 0) ∙ ap (λ n. length a + n) (length-replicate (padding (length a)) 0)

-- texts of one length that are filled up
pub filled_one : (a c b d : List ℕ) → length a ≡ length c → filled a ++ b ≡ filled c ++ d
    → (a ≡ c) × (b ≡ d)
filled_one a c b d same e =
    let lengths : length (filled a) ≡ length (filled c) = length_filled a ∙ ap (λ n. n + padding n) same ∙ sym (length_filled c) in
    let outer = parts_one (filled a) (filled c) b d lengths e in
    ((parts_one a c (replicate (padding (length a)) 0) (replicate (padding (length c)) 0) same outer.0).0, outer.1)

-- ---- the tables

abbrev pub AreShort : List (List ℕ) → Type 0
AreShort names = AllByRecursion (λ name. length name < 2 ^ 16) names

name_one : (n n' b b' : List ℕ) → length n < 2 ^ 16 → length n' < 2 ^ 16
    → keyword_text n ++ b ≡ keyword_text n' ++ b' → (n ≡ n') × (b ≡ b')
name_one n n' b b' p q e =
    let sizes : length n ≡ length n' = half_one (length n) (length n') p q (ap (take 2) e) in
    let lengths : length (to_le_bytes w16 (length n) ++ n) ≡ length (to_le_bytes w16 (length n') ++ n') = omega (arith, sizes) in
    let both = filled_one (to_le_bytes w16 (length n) ++ n) (to_le_bytes w16 (length n') ++ n') b b' lengths e in
    (ap (drop 2) both.0, both.1)

pub names_one : (ns ns' : List (List ℕ)) (b b' : List ℕ) → length ns ≡ length ns' → AreShort ns
    → AreShort ns' → flat_map keyword_text ns ++ b ≡ flat_map keyword_text ns' ++ b'
    → (ns ≡ ns') × (b ≡ b')
names_one [] [] b b' same p q e = (refl, e)
names_one [] (n' ∷ ns') b b' same p q e = absurd (omega (arith, same))
names_one (n ∷ ns) [] b b' same p q e = absurd (omega (arith, same))
names_one (n ∷ ns) (n' ∷ ns') b b' same p q e =
    let joined = sym (append_assoc (keyword_text n) (flat_map keyword_text ns) b) ∙ e ∙ append_assoc (keyword_text n') (flat_map keyword_text ns') b' in
    let first = name_one n n' (flat_map keyword_text ns ++ b) (flat_map keyword_text ns' ++ b') p.0 q.0 joined in
    let rest = names_one ns ns' b b' (omega (arith, same)) p.1 q.1 first.1 in
    (ap (λ x. x ∷ ns) first.0 ∙ ap (λ xs. n' ∷ xs) rest.0, rest.1)

pub record IsShortExtension (e : Extension) : Type 0 where
  pub numbers : (e.reset_id < 2 ^ 32) × (e.record_size < 2 ^ 16) × (e.record_align < 2 ^ 16) × (e.flags < 2 ^ 16)
  pub texts : (length e.name < 2 ^ 16) × (length e.header < 2 ^ 32)

pub extension_one : (x y : Extension) (b b' : List ℕ) → IsShortExtension x → IsShortExtension y
    → extension_text x ++ b ≡ extension_text y ++ b' → (x ≡ y) × (b ≡ b')
extension_one x y b b' p q e =
    let reset = word_one x.reset_id y.reset_id p.numbers.0 q.numbers.0 (ap (take 4) e) in
    let header_size = word_one (length x.header) (length y.header) p.texts.1 q.texts.1 (ap (λ t. take 4 (drop 4 t)) e) in
    let record_size = half_one x.record_size y.record_size p.numbers.1 q.numbers.1 (ap (λ t. take 2 (drop 8 t)) e) in
    let align = half_one x.record_align y.record_align p.numbers.2 q.numbers.2 (ap (λ t. take 2 (drop 10 t)) e) in
    let flags = half_one x.flags y.flags p.numbers.3 q.numbers.3 (ap (λ t. take 2 (drop 12 t)) e) in
    let name_size = half_one (length x.name) (length y.name) p.texts.0 q.texts.0 (ap (λ t. take 2 (drop 14 t)) e) in
    let behind : filled x.name ++ filled x.header ++ b ≡ filled y.name ++ filled y.header ++ b' = ap (drop 16) e in
    let joined = sym (append_assoc (filled x.name) (filled x.header) b) ∙ behind ∙ append_assoc (filled y.name) (filled y.header) b' in
    let names = filled_one x.name y.name (filled x.header ++ b) (filled y.header ++ b') name_size joined in
    let headers = filled_one x.header y.header b b' header_size names.1 in
    (same_extension x y reset header_size record_size align flags names.0 headers.0, headers.1)
  where
    same_extension : (x y : Extension) → x.reset_id ≡ y.reset_id → length x.header ≡ length y.header
        → x.record_size ≡ y.record_size → x.record_align ≡ y.record_align → x.flags ≡ y.flags
        → x.name ≡ y.name → x.header ≡ y.header → x ≡ y
    same_extension x y reset sizes record_size align flags name header = λ i. record { name = name i; reset_id = reset i; header = header i; record_size = record_size i; record_align = align i; flags = flags i }

pub extensions_one : (xs ys : List Extension) (b b' : List ℕ) → length xs ≡ length ys
    → AllByRecursion IsShortExtension xs → AllByRecursion IsShortExtension ys
    → flat_map extension_text xs ++ b ≡ flat_map extension_text ys ++ b' → (xs ≡ ys) × (b ≡ b')
extensions_one [] [] b b' same p q e = (refl, e)
extensions_one [] (y ∷ ys) b b' same p q e = absurd (omega (arith, same))
extensions_one (x ∷ xs) [] b b' same p q e = absurd (omega (arith, same))
extensions_one (x ∷ xs) (y ∷ ys) b b' same p q e =
    let joined = sym (append_assoc (extension_text x) (flat_map extension_text xs) b) ∙ e ∙ append_assoc (extension_text y) (flat_map extension_text ys) b' in
    let first = extension_one x y (flat_map extension_text xs ++ b) (flat_map extension_text ys ++ b') p.0 q.0 joined in
    let rest = extensions_one xs ys b b' (omega (arith, same)) p.1 q.1 first.1 in
    (ap (λ z. z ∷ xs) first.0 ∙ ap (λ zs. y ∷ zs) rest.0, rest.1)

-- ---- keywords

abbrev bits_from : ℕ → ℕ → List ℕ → List ℕ
bits_from from n places = flat_map (λ word. to_le_bytes w32 (keyword_word places word)) (range_with_len from n)

pub words_one : (from n : ℕ) (ks ks' : List ℕ) (b b' : List ℕ) → Rise 0 ks → Rise 0 ks'
    → bits_from from n ks ++ b ≡ bits_from from n ks' ++ b'
    → ((word : ℕ) → from ≤ word → word < from + n → keyword_word ks word ≡ keyword_word ks' word) × (b ≡ b')
words_one from zero ks ks' b b' rise rise' e = (λ word low high. absurd (omega (arith, low, high)), e)
words_one from (suc n) ks ks' b b' rise rise' e =
    let first = word_one (keyword_word ks from) (keyword_word ks' from) (word_fits from ks rise) (word_fits from ks' rise') (ap (take 4) e) in
    let rest = words_one (from + 1) n ks ks' b b' rise rise' (ap (drop 4) e) in
    (λ word low high. by_place word low high first rest.0 (cases_lt from word), rest.1)
  where
    by_place : (word : ℕ) → from ≤ word → word < from + suc n
        → keyword_word ks from ≡ keyword_word ks' from
        → ((w : ℕ) → from + 1 ≤ w → w < from + 1 + n → keyword_word ks w ≡ keyword_word ks' w)
        → (from < word) ⊎ (word ≤ from) → keyword_word ks word ≡ keyword_word ks' word
    by_place word low high first rest (inl above) = rest word (omega (arith, above)) (omega (arith, high))
    by_place word low high first rest (inr le) = let same : from ≡ word = omega (arith, low, le) in subst (λ w. keyword_word ks w ≡ keyword_word ks' w) same first
