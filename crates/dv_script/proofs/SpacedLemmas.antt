-- Words and numbers written one by one.
use Rattle.std.proofs.Common.{◌≡◌, ℕ, ◌+◌, ◌<◌, ◌≤◌, Bool, true, false, List, [], ◌∷◌, ◌++◌, map, cond, length, take, get_or, refl, ap, sym, ◌∙◌, append_assoc}
use Rattle.std.specs.Prelude.{flat_map, decimal}
use Rattle.std.proofs.lemmas.List.{append-nil, take_all, take_more}
use Rattle.dv_model.specs.Texts.{spaced, with_commas}
use Rattle.dv_script.specs.Spaced.{spaced_from, none_of, AddsWords}

-- one more piece
pub pieces : (old mid new a b : List ℕ) → mid ≡ old ++ a → new ≡ mid ++ b → new ≡ old ++ (a ++ b)
pieces old mid new a b e f = f ∙ ap (λ (t : List ℕ). t ++ b) e ∙ append_assoc old a b

pub spaced-map : {X : Type 0} (f : X → List ℕ) (w : List ℕ) (xs : List X)
    → spaced (w ∷ map f xs) ≡ w ++ flat_map (λ x. 32 ∷ f x) xs
spaced-map f w [] = sym (append-nil w)
spaced-map f w (x ∷ xs) = ap (λ (t : List ℕ). w ++ 32 ∷ t) (spaced-map f (f x) xs)

pub with_commas-cons : (n : ℕ) (ns : List ℕ)
    → with_commas (n ∷ ns) ≡ decimal n ++ flat_map (λ x. 44 ∷ decimal x) ns
with_commas-cons n [] = sym (append-nil (decimal n))
with_commas-cons n (m ∷ ns) = append_assoc (decimal n) (44 ∷ []) (with_commas (m ∷ ns)) ∙ ap (λ (t : List ℕ). decimal n ++ 44 ∷ t) (with_commas-cons m ns)

none_of-false : (ws : List (List ℕ)) → none_of false ws ≡ false
unfolding none_of
none_of-false [] = refl
none_of-false (w ∷ ws) = refl

none_of-append : (first : Bool) (ws vs : List (List ℕ))
    → none_of first (ws ++ vs) ≡ none_of (none_of first ws) vs
unfolding none_of
none_of-append first [] vs = refl
none_of-append first (w ∷ ws) vs = sym (none_of-false vs)

spaced_from-append : (first : Bool) (ws vs : List (List ℕ))
    → spaced_from first (ws ++ vs) ≡ spaced_from first ws ++ spaced_from (none_of first ws) vs
unfolding spaced_from none_of
spaced_from-append first [] vs = refl
spaced_from-append first (w ∷ ws) vs =
    ap (λ (t : List ℕ). cond first w (32 ∷ w) ++ t) (spaced_from-append false ws vs ∙ ap (λ (b : Bool). spaced_from false ws ++ spaced_from b vs) (none_of-false ws)) ∙ sym (append_assoc (cond first w (32 ∷ w)) (spaced_from false ws) (spaced_from false vs))

spaced_from-first : (ws : List (List ℕ)) → spaced_from true ws ≡ spaced ws
unfolding spaced_from
spaced_from-first [] = refl
spaced_from-first (w ∷ []) = append-nil w
spaced_from-first (w ∷ v ∷ ws) = ap (λ (t : List ℕ). w ++ 32 ∷ t) (spaced_from-first (v ∷ ws))

pub no_words : (first : Bool) (text : List ℕ) → AddsWords first [] text text first
unfolding spaced_from none_of
no_words first text = record { written = sym (append-nil text); still = refl }

pub more_words : {first next last : Bool} {ws vs : List (List ℕ)} {a b c : List ℕ}
    → AddsWords first ws a b next → AddsWords next vs b c last → AddsWords first (ws ++ vs) a c last
more_words {first} {next} {last} {ws} {vs} {a} {b} {c} front behind = record {
  written = pieces a b c (spaced_from first ws) (spaced_from (none_of first ws) vs) front.written (behind.written ∙ ap (λ (n : Bool). b ++ spaced_from n vs) front.still) ∙ ap (λ (t : List ℕ). a ++ t) (sym (spaced_from-append first ws vs));
  still = behind.still ∙ ap (λ (n : Bool). none_of n vs) front.still ∙ sym (none_of-append first ws vs);
}

pub one_more_word : {first next last : Bool} {a b c : List ℕ} (ws : List (List ℕ)) (i : ℕ)
    (w : List ℕ)
    → i < length ws → w ≡ get_or ws i w → AddsWords first (take i ws) a b next
    → AddsWords next (w ∷ []) b c last → AddsWords first (take (i + 1) ws) a c last
one_more_word ws i w h is front behind = rw (take_more ws i w h, ← is) (more_words front behind)

-- words that begin a text
pub all_words : {ws : List (List ℕ)} {a b : List ℕ} {last : Bool} → AddsWords true ws a b last
    → b ≡ a ++ spaced ws
all_words {ws} {a} h = h.written ∙ ap (λ (t : List ℕ). a ++ t) (spaced_from-first ws)

-- the first thing and the others, each behind a space
pub listed : {X : Type 0} (f : X → List ℕ) (x : X) (all xs : List X) (i : ℕ) (a b c : List ℕ) → all ≡ x ∷ xs → length xs ≤ i
    → b ≡ a ++ f x → c ≡ b ++ flat_map (λ y. 32 ∷ f y) (take i xs) → c ≡ a ++ spaced (map f all)
listed f x all xs i a b c parts last first others =
    let whole = ap (λ ys. b ++ flat_map (λ y. 32 ∷ f y) ys) (take_all i xs last) in
    pieces a b c (f x) (flat_map (λ y. 32 ∷ f y) xs) first (others ∙ whole)
    ∙ ap (λ t. a ++ t) (sym (spaced-map f (f x) xs) ∙ ap (λ ys. spaced (map f ys)) (sym parts))
