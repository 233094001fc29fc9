-- Counts of flags by the difference.
use Rattle.std.proofs.Common.{◌≡◌, ℕ, ◌+◌, ◌-◌, ◌^◌, ◌<◌, ◌≤◌, cond, List, length, get_or, arith, length-set}
use Rattle.std.proofs.Math.ListN.{set}
use Rattle.std.specs.Prelude.{not, nat_eq, bit_and}
use Rattle.std.proofs.lemmas.List.Sums.{count_by-le-length, get_or-le-sum_by, sum_by-set}
use Rattle.dv_rows.specs.Noted.{note_count}

pub recount_fits : (bit : ℕ) (notes : List ℕ) (at new count : ℕ) → at < length notes → length notes < 2 ^ 32 → count ≡ note_count bit notes
    → count - cond (not (nat_eq (bit_and (get_or notes at 0) bit) 0)) 1 0 + cond (not (nat_eq (bit_and new bit) 0)) 1 0 < 2 ^ 32
recount_fits bit notes at new count inside few is =
    let number : ℕ → ℕ = λ note. cond (not (nat_eq (bit_and note bit) 0)) 1 0 in
    let sums : note_count bit (set notes at new) + number (get_or notes at 0) ≡ note_count bit notes + number new = sum_by-set number notes at new 0 inside in
    let most : note_count bit (set notes at new) ≤ length (set notes at new) = count_by-le-length (λ note. not (nat_eq (bit_and note bit) 0)) (set notes at new) in
    let had : number (get_or notes at 0) ≤ note_count bit notes = get_or-le-sum_by number notes at 0 inside in
    let long : length (set notes at new) ≡ length notes = length-set notes at new in
    omega arith
