-- Parts that are cut from bytes.
use Rattle.std.proofs.Common.{◌≡◌, ◌∙◌, ℕ, suc, ◌+◌, ◌<◌, min, List, [], ◌∷◌, length, get_or, take, drop, ap, sym, refl, arith}
use Rattle.std.specs.Prelude.{slice_get, Some}
use Rattle.std.proofs.lemmas.List.{drop-drop, drop_min, drop_more, get_or-drop, take_min}
use Rattle.std.proofs.lemmas.Option.{slice_get-get_or}
use Rattle.dv_blocks.specs.Shared.{cut}

pub many_parts : (sizes bytes : List ℕ) → length (cut sizes bytes) ≡ length sizes
many_parts [] bytes = refl
many_parts (n ∷ sizes) bytes = ap suc (many_parts sizes (drop n bytes))

next : (sizes rest : List ℕ) (k x : ℕ) → k < length sizes → x ≡ get_or sizes k 0 → cut (drop k sizes) rest ≡ take x rest ∷ cut (drop (k + 1) sizes) (drop x rest)
next sizes rest k x h e = ap (λ l. cut l rest) (drop_more sizes k 0 h) ∙ ap (λ n. take n rest ∷ cut (drop (k + 1) sizes) (drop n rest)) (sym e)

-- one part further
pub behind : (sizes bytes rest : List ℕ) (k x : ℕ) → k < length sizes → x ≡ get_or sizes k 0 → cut (drop k sizes) rest ≡ drop k (cut sizes bytes) → cut (drop (k + 1) sizes) (drop (min x (length rest)) rest) ≡ drop (k + 1) (cut sizes bytes)
behind sizes bytes rest k x h e is =
    ap (cut (drop (k + 1) sizes)) (drop_min x rest) ∙ ap (drop 1) (sym (next sizes rest k x h e) ∙ is) ∙ drop-drop 1 k (cut sizes bytes)

-- the part there
pub there : (sizes bytes rest : List ℕ) (k x : ℕ) → k < length sizes → x ≡ get_or sizes k 0 → cut (drop k sizes) rest ≡ drop k (cut sizes bytes) → slice_get (cut sizes bytes) k ≡ Some (take (min x (length rest)) rest)
there sizes bytes rest k x h e is =
    let many = many_parts sizes bytes in
    let none : k ≡ k + 0 = omega arith in
    slice_get-get_or (cut sizes bytes) k [] (omega arith)
    ∙ ap Some (ap (λ n. get_or (cut sizes bytes) n []) none ∙ sym (get_or-drop k (cut sizes bytes) 0 []) ∙ ap (λ l. get_or l 0 []) (sym is ∙ next sizes rest k x h e) ∙ sym (take_min x rest))
