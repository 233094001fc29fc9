-- The first names of a table are shown, and the others kept.
use Rattle.std.proofs.Common.{◌≡◌, ℕ, ◌+◌, ◌≤◌, List, [], ◌∷◌, ◌++◌, length, take, drop, Some, None, sym, ◌∙◌, ap, arith}
use Rattle.std.proofs.Math.Seq.{take-add}
use Rattle.std.proofs.lemmas.List.{drop-append-le, drop-drop, drop_all, length-take, length_push, take-append-drop, take-take, take_all}
use Rattle.dv_model.specs.Effects.{place_of, with_name}
use Rattle.dv_keywords.specs.Tables.{Keywords}
use Rattle.dv_keywords.proofs.Lookup.{added, place_of_new}

-- so many names shown, of these
abbrev pub shown : ℕ → List (List ℕ) → Keywords
shown n names = record { names = take n names; kept = drop n names }

-- with the names that are kept first
abbrev with : List (List ℕ) → List (List ℕ) → Keywords
with kept names = record { names = names; kept = kept }

alike : (names others kept left : List (List ℕ)) → names ≡ others → kept ≡ left → ◌≡◌ {A = Keywords} (record { names = names; kept = kept }) (record { names = others; kept = left })
alike names others kept left e f = ap (with kept) e ∙ ap (λ (ns : List (List ℕ)). with ns others) f

pub fewer : (names : List (List ℕ)) (n m : ℕ) (old : Keywords) → m ≤ n → n ≤ length names → shown n names ≡ old → ◌≡◌ {A = Keywords} (shown m names) (record { names = take m old.names; kept = drop m old.names ++ old.kept })
fewer names n m old less inside is =
    alike (take m names) (take m (take n names)) (drop m names) (drop m (take n names) ++ drop n names) (sym (take-take m n names less))
    (ap (drop m) (sym (take-append-drop n names)) ∙ drop-append-le m (take n names) (drop n names) (omega (arith, less, inside, length-take n names)))
    ∙ ap (λ (k : Keywords). with (drop m k.names ++ k.kept) (take m k.names)) is

pub more : (names : List (List ℕ)) (n m : ℕ) (old : Keywords) → shown n names ≡ old → ◌≡◌ {A = Keywords} (shown (n + m) names) (record { names = old.names ++ take m old.kept; kept = drop m old.kept })
more names n m old is =
    alike (take (n + m) names) (take n names ++ take m (drop n names)) (drop (n + m) names) (drop m (drop n names)) (take-add n m names) (sym (drop-drop m n names))
    ∙ ap (λ (k : Keywords). with (drop m k.kept) (k.names ++ take m k.kept)) is

-- all are shown
pub all_shown : (names others : List (List ℕ)) (n : ℕ) → length names ≤ n → names ≡ others → ◌≡◌ {A = Keywords} (shown n names) (record { names = others; kept = [] })
all_shown names others n all same = alike (take n names) others (drop n names) [] (take_all n names all ∙ same) (drop_all n names all)

-- one more is shown, and none kept
pub grown : (names : List (List ℕ)) (n : ℕ) (name : List ℕ) (old : Keywords) → n ≤ length names → shown n names ≡ old → place_of old.names name ≡ None
    → (take (n + 1) (take n names ++ name ∷ []) ≡ with_name name old.names) × (place_of (take (n + 1) (take n names ++ name ∷ [])) name ≡ Some n)
grown names n name old inside is new =
    let front = take n names in
    let size : length front ≡ n = omega (arith, inside, length-take n names) in
    let same : front ≡ old.names = ap (λ (k : Keywords). k.names) is in
    let all : take (n + 1) (front ++ name ∷ []) ≡ front ++ name ∷ [] = take_all (n + 1) (front ++ name ∷ []) (omega (arith, size, length_push front name)) in (
      all ∙ ap (λ ns. ns ++ name ∷ []) same ∙ sym (added old.names name new),
      ap (λ ns. place_of ns name) all ∙ place_of_new front name (ap (λ ns. place_of ns name) same ∙ new) ∙ ap (λ k. Some k) size,
    )
