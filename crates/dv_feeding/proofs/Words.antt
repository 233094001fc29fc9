-- Words of four bytes are of one text.
use Rattle.std.proofs.Common.{◌≡◌, ℕ, zero, suc, ◌*◌, List, [], ◌∷◌, ◌++◌, length, take, drop, refl, sym, ◌∙◌, ap, arith}
use Rattle.std.specs.Int.{w32, from_le_bytes, to_le_bytes}
use Rattle.std.proofs.lemmas.List.{length-drop, length-take-le, take-append-drop}
use Rattle.std.proofs.lemmas.Nat.{le_bytes_4}
use Rattle.dv_formats.specs.Feeds.{words_of}
use Rattle.dv_formats.proofs.Texts.{head_one}
use Rattle.dv_records.proofs.Loop.{IsBytes, IsBytes-drop, IsBytes-take}

pub length-words_of : (n : ℕ) (b : List ℕ) → length (words_of n b) ≡ n
length-words_of zero b = refl
length-words_of (suc n) b = omega (arith, length-words_of n (drop 4 b))

word_one : (b c : List ℕ) → length b ≡ 4 → length c ≡ 4 → IsBytes b → IsBytes c → from_le_bytes w32 b ≡ from_le_bytes w32 c → b ≡ c
word_one b c long longer p q e = sym (le_bytes_4 b (from_le_bytes w32 b) long p refl) ∙ ap (to_le_bytes w32) e ∙ le_bytes_4 c (from_le_bytes w32 c) longer q refl

pub words_one : (n : ℕ) (b c : List ℕ) → length b ≡ 4 * n → length c ≡ 4 * n → IsBytes b → IsBytes c → words_of n b ≡ words_of n c → b ≡ c
words_one zero [] [] long longer p q e = refl
words_one zero [] (y ∷ c) long longer p q e = absurd (omega arith)
words_one zero (x ∷ b) c long longer p q e = absurd (omega arith)
words_one (suc n) b c long longer p q e =
    let first : take 4 b ≡ take 4 c = word_one (take 4 b) (take 4 c) (length-take-le 4 b (omega arith)) (length-take-le 4 c (omega arith)) (IsBytes-take 4 b p) (IsBytes-take 4 c q)
    (head_one (from_le_bytes w32 (take 4 b)) (from_le_bytes w32 (take 4 c)) (words_of n (drop 4 b)) (words_of n (drop 4 c)) e) in
    let rest : drop 4 b ≡ drop 4 c = words_one n (drop 4 b) (drop 4 c) (omega (arith, length-drop 4 b)) (omega (arith, length-drop 4 c)) (IsBytes-drop 4 b p) (IsBytes-drop 4 c q) (ap (drop 1) e) in
    sym (take-append-drop 4 b) ∙ ap (λ (t : List ℕ). t ++ drop 4 b) first ∙ ap (λ (t : List ℕ). take 4 c ++ t) rest ∙ take-append-drop 4 c
