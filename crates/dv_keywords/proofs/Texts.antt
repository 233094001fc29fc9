-- The text of a keyword.
use Rattle.std.proofs.Common.{◌≡◌, ◌⊎◌, inl, inr, ℕ, ◌+◌, ◌<◌, ◌≤◌, List, ◌++◌, length, get_or, take, drop, replicate, sym, ◌∙◌, ap, subst, arith, length-append, append_assoc}
use Rattle.std.specs.Int.{w16, from_le_bytes, to_le_bytes}
use Rattle.std.proofs.Math.Seq.{take-add}
use Rattle.std.proofs.lemmas.List.{get_or-take, get_or_past, length-drop, length-replicate, length-take}
use Rattle.std.proofs.lemmas.Bool.{cases_lt}
use Rattle.std.proofs.lemmas.Nat.{le_bytes_2}
use Rattle.dv_model.specs.Names.{IsName}
use Rattle.dv_model.specs.Spelling.{padding, padded}
use Rattle.dv_formats.specs.Snapshots.{keyword_text}
use Rattle.dv_keywords.specs.Tables.{IsNameAt}

-- the length and the name take so many bytes
pub front_length : (name : List ℕ) → length (to_le_bytes w16 (length name) ++ name) ≡ 2 + length name
front_length name = omega (arith, length-append (to_le_bytes w16 (length name)) name)

pub text_parts : (name : List ℕ) → keyword_text name ≡ to_le_bytes w16 (length name) ++ name ++ replicate (padding (2 + length name)) 0
text_parts name = ap (λ n. to_le_bytes w16 (length name) ++ name ++ replicate (padding n) 0) (front_length name)

pub text_length : (name : List ℕ) → length (keyword_text name) ≡ padded (2 + length name)
text_length name =
    ap length (text_parts name) ∙ omega (arith, front_length name, length-append (to_le_bytes w16 (length name) ++ name) (replicate (padding (2 + length name)) 0), length-replicate {A = ℕ} (padding (2 + length name)) 0)

take_fits : (b : List ℕ) (n : ℕ) → ((i : ℕ) → get_or b i 0 < 256) → (i : ℕ) → get_or (take n b) i 0 < 256
take_fits b n fits i = by_place (cases_lt i n)
  where
    by_place : (i < n) ⊎ (n ≤ i) → get_or (take n b) i 0 < 256
    by_place (inl below) = subst (λ x. x < 256) (sym (get_or-take n b i 0 below)) (fits i)
    by_place (inr past) = subst (λ x. x < 256) (sym (get_or_past (take n b) i 0 (omega (arith, past, length-take n b)))) (omega arith)

-- a length, a name of so many bytes, and zero bytes
pub name_stands : (b : List ℕ) (n : ℕ) → ((i : ℕ) → get_or b i 0 < 256) → n ≡ from_le_bytes w16 (take 2 b) → padded (2 + n) ≤ length b → IsName (take n (drop 2 b))
    → take (padding (2 + n)) (drop (2 + n) b) ≡ replicate (padding (2 + n)) 0 → IsNameAt b (take n (drop 2 b))
name_stands b n fits number size is zeros =
    let name = take n (drop 2 b) in
    let same : length name ≡ n = omega (arith, size, length-take n (drop 2 b), length-drop 2 b) in
    let two : length (take 2 b) ≡ 2 = omega (arith, size, length-take 2 b) in
    let front : to_le_bytes w16 n ≡ take 2 b = le_bytes_2 (take 2 b) n two (take_fits b 2 fits) number in
    let pieces : take (padded (2 + n)) b ≡ take 2 b ++ name ++ replicate (padding (2 + n)) 0 = take-add (2 + n) (padding (2 + n)) b ∙ ap (λ t. t ++ take (padding (2 + n)) (drop (2 + n) b)) (take-add 2 n b) ∙ ap (λ t. take 2 b ++ name ++ t) zeros in
    record {
      is = is;
      size = subst (λ k. padded (2 + k) ≤ length b) (sym same) size;
      text = ap (λ k. take (padded (2 + k)) b) same ∙ pieces ∙ ap (λ t. t ++ name ++ replicate (padding (2 + n)) 0) (sym front)
          ∙ ap (λ k. to_le_bytes w16 k ++ name ++ replicate (padding (2 + k)) 0) (sym same) ∙ sym (text_parts name);
    }

-- what is written piece by piece
pub written : (out front name zeros one two three : List ℕ) → one ≡ out ++ front → two ≡ one ++ name → three ≡ two ++ zeros → front ≡ to_le_bytes w16 (length name) → zeros ≡ replicate (padding (2 + length name)) 0 → three ≡ out ++ keyword_text name
written out front name zeros one two three p q r e f =
    r ∙ ap (λ t. t ++ zeros) (q ∙ ap (λ t. t ++ name) p) ∙ ap (λ t. out ++ front ++ name ++ t) f ∙ ap (λ t. out ++ t ++ name ++ replicate (padding (2 + length name)) 0) e
    ∙ ap (λ t. t ++ replicate (padding (2 + length name)) 0) (append_assoc out (to_le_bytes w16 (length name)) name) ∙ append_assoc out (to_le_bytes w16 (length name) ++ name) (replicate (padding (2 + length name)) 0) ∙ ap (λ t. out ++ t) (sym (text_parts name))
