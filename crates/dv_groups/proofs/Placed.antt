-- The places of rows' entries in the cache file, row by row.
use Rattle.std.proofs.Common.{◌≡◌, ℕ, ◌+◌, ◌-◌, ◌<◌, ◌≤◌, List, [], ◌∷◌, ◌++◌, get_or, length, take, drop, Some, ◌∙◌, ap, arith, get_or-drop, length-drop}
use Rattle.std.specs.Prelude.{flat_map, slice_get}
use Rattle.std.specs.List.{enumerate_from}
use Rattle.std.proofs.lemmas.Grind.{flat_map-append}
use Rattle.std.proofs.lemmas.List.{append-nil, take_more}
use Rattle.std.proofs.lemmas.List.FromFn.{get_or-enumerate_from, length-enumerate_from}
use Rattle.std.proofs.lemmas.Option.{get_or_from_slice_get}
use Rattle.dv_model.specs.declared.types.Row.{Row}
use Rattle.dv_model.specs.Sessions.{offset_row}

pub offsets-more : (rows : List Row) (from at : ℕ) (row : Row) → from ≤ at → at < length rows → slice_get rows at ≡ Some row
    → flat_map offset_row (take (at + 1 - from) (drop from (enumerate_from 0 rows))) ≡ flat_map offset_row (take (at - from) (drop from (enumerate_from 0 rows))) ++ offset_row (at, row)
offsets-more rows from at row up less is =
    let all : List (ℕ × Row) = enumerate_from 0 rows in
    let back : List (ℕ × Row) = drop from all in
    let k : ℕ = at - from in
    let long : length all ≡ length rows = length-enumerate_from 0 rows in
    let inside : k < length back = omega (arith, length-drop from all, long) in
    let place : at + 1 - from ≡ k + 1 = omega arith in
    let it : get_or back k (at, row) ≡ (at, row) =
    get_or-drop from all k (at, row) ∙ ap (λ n. get_or all n (at, row)) (let e : from + k ≡ at = omega arith in e) ∙ get_or-enumerate_from 0 rows at (at, row) less
    ∙ ap (λ n. (n, get_or rows at row)) (let e : 0 + at ≡ at = omega arith in e) ∙ ap (λ (r : Row). (at, r)) (get_or_from_slice_get rows at row row is) in
    ap (λ n. flat_map offset_row (take n back)) place ∙ ap (flat_map offset_row) (take_more back k (at, row) inside) ∙ flat_map-append offset_row (take k back) (get_or back k (at, row) ∷ [])
    ∙ ap (λ (r : ℕ × Row). flat_map offset_row (take k back) ++ flat_map offset_row (r ∷ [])) it ∙ ap (λ t. flat_map offset_row (take k back) ++ t) (append-nil (offset_row (at, row)))
