-- The end of a good file: no record begins there.
use Rattle.std.proofs.Common.{◌≡◌, ℕ, ◌+◌, ◌*◌, ◌≤◌, Bool, List, [], ◌∷◌, length, Some, None, refl, ◌∙◌, ap, arith}
use Rattle.std.specs.Prelude.{if◌then◌else◌}
use Rattle.std.proofs.lemmas.Bool.{eq-eqb, ne_eqb}
use Rattle.dv_records.proofs.Readings.{spelling_long}
use Rattle.dv_logfile.specs.Scans.{Spot, AreSpots}
use Rattle.dv_openings.specs.Openings.{spots_from}

-- each record has eight bytes at least
pub spots_rise : (from : ℕ) (spots : List Spot) (b : List ℕ) (end : ℕ) (rest : List ℕ)
    → AreSpots from spots b end rest → from + 8 * length spots ≤ end
spots_rise from [] b end rest are = omega (arith, are.0)
spots_rise from (spot ∷ spots) b end rest are =
    let more = are.1 in
    omega (arith, spots_rise (from + length more.0) spots more.1 end rest more.5, spelling_long spot.is more.0 more.3)

pub none_at_end : (from : ℕ) (spots : List Spot) (b : List ℕ) (end : ℕ) (rest : List ℕ)
    → AreSpots from spots b end rest → spots_from end end spots ≡ Some []
none_at_end from [] b end rest are =
    ap (λ (x : Bool). if x then Some [] else None) (eq-eqb end end refl)
none_at_end from (spot ∷ spots) b end rest are =
    let more = are.1 in
    ap (λ (x : Bool). if x then Some (spot ∷ spots) else spots_from end end spots)
    (ne_eqb end spot.place (λ e. omega (arith, are.0, spots_rise (from + length more.0) spots more.1 end rest more.5, spelling_long spot.is more.0 more.3)))
    ∙ none_at_end (from + length more.0) spots more.1 end rest more.5
