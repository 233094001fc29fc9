-- Names are compared with those before them.
use Rattle.std.proofs.Common.{◌≡◌, ◌≢◌, ℕ, ◌+◌, ◌<◌, List, [], ◌∷◌, ◌++◌, length, take, get_or, All, AllPairs, sym, subst, ap, ◌∙◌, arith}
use Rattle.std.proofs.lemmas.List.{get_or-take, get_or_default, length-take, take_more}
use Rattle.std.proofs.lemmas.List.Quantifiers.{all_pairs_push}
use Rattle.dv_model.specs.declared.types.Extension.{Extension}

abbrev pub Differ : Extension → Extension → Type 0
Differ a b = a.name ≢ b.name

pub one_more : (es : List Extension) (at : ℕ) (e : Extension) → at < length es → e ≡ get_or es at e → AllPairs Differ (take at es) → All (λ x. Differ x e) (take at es) → AllPairs Differ (take (at + 1) es)
one_more es at e below is pairs new =
    subst (AllPairs Differ) (sym (take_more es at e below ∙ ap (λ x. take at es ++ x ∷ []) (sym is))) (all_pairs_push Differ (take at es) e pairs new)

pub doubled : (es : List Extension) (at : ℕ) (e : Extension) → at < length es → e ≡ get_or es at e → (All (λ x. Differ x e) (take at es) → ⊥) → AllPairs Differ es → ⊥
doubled es at e below is old pairs =
    old (λ k d low.
    let small : k < at = omega (arith, low, length-take at es) in
    let differ = pairs k at e small below in
    λ same. differ (ap (λ (x : Extension). x.name) (get_or_default es k e d (omega (arith, small, below)) ∙ sym (get_or-take at es k d small)) ∙ same ∙ ap (λ (x : Extension). x.name) is))
