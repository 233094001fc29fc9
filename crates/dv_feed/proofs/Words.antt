-- The words of a text.
use Rattle.std.proofs.Common.{◌≡◌, ℕ, zero, suc, ◌+◌, ◌*◌, ◌/◌, List, [], ◌∷◌, ◌++◌, length, take, drop, refl, sym, ap, ◌∙◌, arith, add-one}
use Rattle.std.specs.Prelude.{flat_map}
use Rattle.std.specs.Int.{w32, from_le_bytes, to_le_bytes}
use Rattle.std.proofs.lemmas.List.{drop-drop, length-drop, length-take-le, nil_from_length, take-append-drop}
use Rattle.std.proofs.lemmas.List.Concat.{flat_map-cons}
use Rattle.std.proofs.lemmas.Nat.{le_bytes_4}
use Rattle.dv_model.specs.declared.types.Group.{Group}
use Rattle.dv_model.specs.Spelling.{group_text}
use Rattle.dv_formats.specs.Feeds.{entry_words, group_words, words_of}
use Rattle.dv_records.proofs.Loop.{IsBytes, IsBytes-drop, IsBytes-take}
use Rattle.dv_feeding.proofs.Words.{length-words_of}

more_words : (k : ℕ) (b : List ℕ) → words_of (suc k) b ≡ words_of k b ++ from_le_bytes w32 (take 4 (drop (k * 4) b)) ∷ []
more_words zero b = refl
more_words (suc k) b =
    let place : drop (k * 4) (drop 4 b) ≡ drop (suc k * 4) b = drop-drop (k * 4) 4 b ∙ ap (λ n. drop n b) (omega arith) in
    ap (λ ws. from_le_bytes w32 (take 4 b) ∷ ws) (more_words k (drop 4 b) ∙ ap (λ t. words_of k (drop 4 b) ++ from_le_bytes w32 (take 4 t) ∷ []) place)

-- one word more
pub words_of_snoc : (k : ℕ) (b : List ℕ) → words_of (k + 1) b ≡ words_of k b ++ from_le_bytes w32 (take 4 (drop (k * 4) b)) ∷ []
words_of_snoc k b = ap (λ n. words_of n b) (add-one k) ∙ more_words k b

-- the words of a text, as bytes, are the text
pub bytes_of_words : (n : ℕ) (b : List ℕ) → length b ≡ 4 * n → IsBytes b → flat_map (to_le_bytes w32) (words_of n b) ≡ b
bytes_of_words zero b len all = sym (nil_from_length b (omega (arith, len)))
bytes_of_words (suc n) b len all =
    let four : length (take 4 b) ≡ 4 = length-take-le 4 b (omega (arith, len)) in
    let first : to_le_bytes w32 (from_le_bytes w32 (take 4 b)) ≡ take 4 b = le_bytes_4 (take 4 b) _ four (IsBytes-take 4 b all) refl in
    let rest = bytes_of_words n (drop 4 b) (omega (arith, length-drop 4 b, len)) (IsBytes-drop 4 b all) in
    flat_map-cons (to_le_bytes w32) (from_le_bytes w32 (take 4 b)) (words_of n (drop 4 b)) ∙ (λ i. first i ++ rest i) ∙ take-append-drop 4 b

-- the words of an entry, by its text
pub entry_is : (author : ℕ) (g : Group) (text : List ℕ) → group_text g ≡ text
    → author ∷ length text / 4 ∷ words_of (length text / 4) text ≡ entry_words record { author = author; group = g }
entry_is author g text is =
    let words : words_of (length text / 4) text ≡ group_words g = ap (λ t. words_of (length t / 4) t) (sym is) in
    let count : length text / 4 ≡ length (group_words g) = sym (length-words_of (length text / 4) text) ∙ ap length words in
    (λ i. author ∷ count i ∷ words i)
