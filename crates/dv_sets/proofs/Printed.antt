-- Words and ranges with separators.
use Rattle.std.proofs.Common.{◌≡◌, ℕ, suc, ◌+◌, ◌-◌, ◌<◌, ◌≤◌, List, take, [], ◌∷◌, ◌++◌, length, map, sym, ◌∙◌, ap, arith, append_assoc}
use Rattle.std.specs.List.{flat_map}
use Rattle.std.proofs.lemmas.List.{append-nil, length-append}
use Rattle.std.proofs.Math.Seq.{take-append_seam}
use Rattle.std.proofs.lemmas.Grind.{flat_map-append}
use Rattle.dv_model.specs.Texts.{spaced}
use Rattle.dv_formats.specs.Scripts.{joined}

-- the first piece and the others, each behind the separator
pub joined_first : {A : Type 0} (separator : List ℕ) (f : A → List ℕ) (x : A) (xs : List A)
    → joined separator (map f (x ∷ xs)) ≡ f x ++ flat_map (λ y. separator ++ f y) xs
joined_first separator f x [] = sym (append-nil (f x))
joined_first {A} separator f x (y ∷ ys) =
    let others = flat_map (λ (z : A). separator ++ f z) ys in
    append_assoc (f x) separator (joined separator (map f (y ∷ ys))) ∙ ap (λ t. f x ++ (separator ++ t)) (joined_first separator f y ys) ∙ ap (λ t. f x ++ t) (sym (append_assoc separator (f y) others))

-- words with a space behind each are the spaced words and a space
pub spaced_ends : (w : List ℕ) (ws : List (List ℕ))
    → flat_map (λ word. word ++ 32 ∷ []) (w ∷ ws) ≡ spaced (w ∷ ws) ++ 32 ∷ []
spaced_ends w [] = append-nil (w ++ 32 ∷ [])
spaced_ends w (v ∷ vs) = ap (λ t. (w ++ 32 ∷ []) ++ t) (spaced_ends v vs) ∙ append_assoc w (32 ∷ []) (spaced (v ∷ vs) ++ 32 ∷ []) ∙ sym (append_assoc w (32 ∷ spaced (v ∷ vs)) (32 ∷ []))

-- without words there is one byte
pub closed_empty : (ws : List (List ℕ)) (t : List ℕ)
    → t ≡ 40 ∷ flat_map (λ word. word ++ 32 ∷ []) ws → length t ≤ 1
    → t ++ 41 ∷ [] ≡ 40 ∷ (spaced ws ++ 41 ∷ [])
closed_empty [] t e few = ap (λ s. s ++ 41 ∷ []) e
closed_empty (w ∷ ws) t e few =
    let size : length t ≡ suc (length (spaced (w ∷ ws)) + 1) = ap length (e ∙ ap (λ s. 40 ∷ s) (spaced_ends w ws)) ∙ ap suc (length-append (spaced (w ∷ ws)) (32 ∷ [])) in
    absurd (omega (arith, size, few))

-- else the last byte is a space
pub closed : (ws : List (List ℕ)) (t : List ℕ) → t ≡ 40 ∷ flat_map (λ word. word ++ 32 ∷ []) ws
    → 1 < length t → take (length t - 1) t ++ 41 ∷ [] ≡ 40 ∷ (spaced ws ++ 41 ∷ [])
closed [] t e some = absurd (omega (arith, ap length e, some))
closed (w ∷ ws) t e some =
    let front = 40 ∷ spaced (w ∷ ws) in
    let whole : t ≡ front ++ 32 ∷ [] = e ∙ ap (λ s. 40 ∷ s) (spaced_ends w ws) in
    let size : length t - 1 ≡ length front = omega (arith, ap length whole, length-append front (32 ∷ [])) in
    ap (λ s. s ++ 41 ∷ []) (ap (λ n. take n t) size ∙ ap (take (length front)) whole ∙ take-append_seam front (32 ∷ []))

-- two lists of words, one behind the other
pub two_lists : (ws vs : List (List ℕ)) (a b c : List ℕ) → a ≡ 40 ∷ []
    → b ≡ a ++ flat_map (λ word. word ++ 32 ∷ []) ws
    → c ≡ b ++ flat_map (λ word. word ++ 32 ∷ []) vs
    → c ≡ 40 ∷ flat_map (λ word. word ++ 32 ∷ []) (ws ++ vs)
two_lists ws vs a b c p q r =
    r ∙ ap (λ t. t ++ flat_map (λ word. word ++ 32 ∷ []) vs) (q ∙ ap (λ t. t ++ flat_map (λ word. word ++ 32 ∷ []) ws) p) ∙ ap (λ t. 40 ∷ t) (sym (flat_map-append (λ word. word ++ 32 ∷ []) ws vs))
