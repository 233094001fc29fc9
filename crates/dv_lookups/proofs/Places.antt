-- The part of a row stands beside its extension.
use Rattle.std.proofs.Common.{◌≡◌, ℕ, zero, suc, ◌<◌, ◌≤◌, Bool, true, false, cond, List, [], ◌∷◌, length, get_or, Some, None, refl, ◌∙◌, ap, arith, ltb}
use Rattle.std.specs.Prelude.{position, slice_get}
use Rattle.std.specs.Option.{option_and_then}
use Rattle.dv_model.specs.declared.types.Extension.{Extension}
use Rattle.std.proofs.lemmas.Bool.{ltb-false}
use Rattle.std.specs.List.{position_or_len}
use Rattle.std.proofs.lemmas.List.Sums.{fails_before_first}
use Rattle.std.proofs.lemmas.List.Quantifiers.{position-Some}
use Rattle.dv_openings.specs.TrueCaches.{look_at, look_in}
use Rattle.dv_lookups.specs.Looks.{is_cache}

pub look_in-at : (es : List Extension) (ps : List (List ℕ)) (k : ℕ) (d : Extension) → k < length es → is_cache (get_or es k d) ≡ true
    → ((j : ℕ) → j < k → is_cache (get_or es j d) ≡ false) → look_in es ps ≡ option_and_then (look_at (get_or es k d).reset_id) (slice_get ps k)
look_in-at [] ps k d less is first = absurd (omega (arith, less))
look_in-at (e ∷ es) [] zero d less is first = refl
look_in-at (e ∷ es) [] (suc k) d less is first = refl
look_in-at (e ∷ es) (p ∷ ps) zero d less is first = ap (λ (b : Bool). cond b (look_at e.reset_id p) (look_in es ps)) is
look_in-at (e ∷ es) (p ∷ ps) (suc k) d less is first =
    ap (λ (b : Bool). cond b (look_at e.reset_id p) (look_in es ps)) (first 0 (omega arith)) ∙ look_in-at es ps k d (omega (arith, less)) is (λ j below. first (suc j) (omega (arith, below)))

pub look_in-none : (es : List Extension) (ps : List (List ℕ)) (d : Extension) → ((j : ℕ) → j < length es → is_cache (get_or es j d) ≡ false) → look_in es ps ≡ None
look_in-none [] ps d none = refl
look_in-none (e ∷ es) [] d none = refl
look_in-none (e ∷ es) (p ∷ ps) d none =
    ap (λ (b : Bool). cond b (look_at e.reset_id p) (look_in es ps)) (none 0 (omega arith)) ∙ look_in-none es ps d (λ j below. none (suc j) (omega (arith, below)))

none_by : (b : Bool) (n : ℕ) → cond b (Some n) None ≡ None → b ≡ false
none_by true n e = absurd cc
none_by false n e = refl

-- an extension of nothing
pub no_extension : Extension
no_extension = record { name = []; reset_id = 0; header = []; record_size = 0; record_align = 0; flags = 0 }

-- without the extension nothing is looked up
pub look_in-nowhere : (es : List Extension) (ps : List (List ℕ)) → position is_cache es ≡ None → look_in es ps ≡ None
look_in-nowhere es ps none =
    let end : length es ≤ position_or_len is_cache es = ltb-false (position_or_len is_cache es) (length es) (none_by (ltb (position_or_len is_cache es) (length es)) (position_or_len is_cache es) none) in
    look_in-none es ps no_extension (λ j below. fails_before_first is_cache es j no_extension (omega (arith, end, below)))

-- with it the row's part is
pub look_in-there : (es : List Extension) (ps : List (List ℕ)) (k : ℕ) (d : Extension) → position is_cache es ≡ Some k → look_in es ps ≡ option_and_then (look_at (get_or es k d).reset_id) (slice_get ps k)
look_in-there es ps k d found =
    let some = position-Some is_cache es k d found in
    look_in-at es ps k d some.0 some.1 some.2
