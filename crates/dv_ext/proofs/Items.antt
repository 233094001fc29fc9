-- The item at a place of a list, changed.
use Rattle.std.proofs.Common.{◌≡◌, ℕ, zero, suc, ◌<◌, List, [], ◌∷◌, length, get_or, refl, ap, sym, ◌∙◌, arith, Result, Ok, Err, OnOk}
use Rattle.std.proofs.Math.ListN.{set}
use Rattle.dv_model.specs.Effects.{with_item}

with_item_set : {X : Type 0} (change : X → X) (xs : List X) (k : ℕ) (d : X) → k < length xs → with_item k change xs ≡ set xs k (change (get_or xs k d))
with_item_set change [] k d h = absurd (omega arith)
with_item_set change (x ∷ xs) zero d h = refl
with_item_set change (x ∷ xs) (suc k) d h = ap (λ ys. x ∷ ys) (with_item_set change xs k d (omega arith))

pub with_item_at : {X : Type 0} (change : X → X) (xs : List X) (k : ℕ) (x : X) → k < length xs → x ≡ get_or xs k x → with_item k change xs ≡ set xs k (change x)
with_item_at change xs k x h at = with_item_set change xs k x h ∙ ap (λ y. set xs k (change y)) (sym at)

-- an item that was read, changed and written back
pub item_written : {X : Type 0} (change : X → X) (xs items made : List X) (k : ℕ) (x y : X) → k < length xs → items ≡ xs → x ≡ get_or items k x → y ≡ change x → made ≡ set items k y → made ≡ with_item k change xs
item_written change xs items made k x y h same at is written =
    let here : x ≡ get_or xs k x = at ∙ ap (λ zs. get_or zs k x) same in
    written ∙ ap (λ zs. set zs k y) same ∙ ap (set xs k) is ∙ sym (with_item_at change xs k x h here)

pub ok_then : {T E : Type 0} (r : Result T E) (P Q : Type 0) → OnOk r P → (P → Q) → OnOk r Q
ok_then (Ok x) P Q p f = f p
ok_then (Err e) P Q p f = tt
