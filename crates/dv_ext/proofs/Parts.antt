-- Parts of rows, and headers, that keep their sizes.
use Rattle.std.proofs.Common.{◌≡◌, ℕ, zero, suc, ◌+◌, ◌-◌, ◌<◌, ◌≤◌, Bool, true, false, List, [], ◌∷◌, ◌++◌, Some, length, map, fold, get_or, nat_le, slice_get, replicate, take, drop, All, refl, ap, ◌∙◌, arith, length-append, if◌then◌else◌}
use Rattle.std.proofs.lemmas.Bool.{leb-true}
use Rattle.std.proofs.lemmas.List.{length-drop, length-replicate, length-take-le}
use Rattle.std.proofs.lemmas.List.{append-nil}
use Rattle.dv_model.specs.declared.types.Extension.{Extension}
use Rattle.dv_model.specs.declared.types.Part.{Part}
use Rattle.dv_model.specs.declared.types.Row.{Row}
use Rattle.dv_model.specs.Effects.{grown_to, with_item, with_row_parts, written_over, zeroed}

-- ---- headers

pub length-zeroed : (bytes : List ℕ) → length (zeroed bytes) ≡ length bytes
length-zeroed bytes = length-replicate (length bytes) 0

length_written : (bytes : List ℕ) (part : Part) (b : Bool) → nat_le (part.offset + length part.bytes) (length bytes) ≡ b → length (if b then take part.offset bytes ++ part.bytes ++ drop (part.offset + length part.bytes) bytes else bytes) ≡ length bytes
length_written bytes part false e = refl
length_written bytes part true e =
    let h : part.offset + length part.bytes ≤ length bytes = leb-true (part.offset + length part.bytes) (length bytes) e in
    let front : length (take part.offset bytes) ≡ part.offset = length-take-le part.offset bytes (omega arith) in
    omega (arith, length-append (take part.offset bytes ++ part.bytes) (drop (part.offset + length part.bytes) bytes), length-append (take part.offset bytes) part.bytes, length-drop (part.offset + length part.bytes) bytes)

pub length-written_over : (bytes : List ℕ) (part : Part) → length (written_over bytes part) ≡ length bytes
length-written_over bytes part = length_written bytes part (nat_le (part.offset + length part.bytes) (length bytes)) refl

pub length-fold_written : (parts : List Part) (bytes : List ℕ) → length (fold written_over bytes parts) ≡ length bytes
length-fold_written [] bytes = refl
length-fold_written (part ∷ parts) bytes = length-fold_written parts (written_over bytes part) ∙ length-written_over bytes part

-- ---- parts of rows

grown_is_same : (n : ℕ) (bytes : List ℕ) → n ≤ length bytes → grown_to n bytes ≡ bytes
grown_is_same n bytes h =
    let none : n - length bytes ≡ 0 = omega arith in
    ap (λ (k : ℕ). bytes ++ replicate k 0) none ∙ append-nil bytes

part_is_same : (k n : ℕ) (parts : List (List ℕ)) (es : List Extension) (e : Extension) → map length parts ≡ map (λ x. x.record_size) es → slice_get es k ≡ Some e → n ≤ e.record_size → with_item k (grown_to n) parts ≡ parts
part_is_same k n [] es e same there h = refl
part_is_same k n (p ∷ ps) [] e same there h = absurd cc
part_is_same zero n (p ∷ ps) (x ∷ es) e same there h =
    let size : length p ≡ x.record_size = cc in
    let is : x ≡ e = cc in
    let wide : n ≤ length p = rw (size, is) h in
    ap (λ (q : List ℕ). q ∷ ps) (grown_is_same n p wide)
part_is_same (suc k) n (p ∷ ps) (x ∷ es) e same there h =
    let rest : map length ps ≡ map (λ y. y.record_size) es = cc in
    ap (λ (qs : List (List ℕ)). p ∷ qs) (part_is_same k n ps es e rest there h)

map_is_same : {X : Type 0} (f : X → X) (xs : List X) → ((k : ℕ) (d : X) → k < length xs → f (get_or xs k d) ≡ get_or xs k d) → map f xs ≡ xs
map_is_same f [] h = refl
map_is_same f (x ∷ xs) h =
    let first : f x ≡ x = h 0 x (omega arith) in
    let rest : map f xs ≡ xs = map_is_same f xs (λ k d lt. h (suc k) d (omega arith)) in
    cc

-- rows whose parts are as large stay
pub rows_are_same : (k n : ℕ) (rows : List Row) (es : List Extension) (e : Extension) → All (λ row. map length row.parts ≡ map (λ x. x.record_size) es) rows → slice_get es k ≡ Some e → n ≤ e.record_size → map (with_row_parts (with_item k (grown_to n))) rows ≡ rows
rows_are_same k n rows es e all there h =
    map_is_same (with_row_parts (with_item k (grown_to n))) rows (λ i d lt. ap (λ (parts : List (List ℕ)). record (get_or rows i d) { parts = parts }) (part_is_same k n (get_or rows i d).parts es e (all i d lt) there h))
