use Rattle.std.proofs.Common.{◌≡◌, ◌+◌, ◌∷◌, [], ◌++◌, arith, refl, rules, subst, sym}
use Rattle.std.proofs.lemmas.Bool.{both_ways}
use Rattle.dv_index.specs.Reading.{HasBitPast}
use Rattle.dv_index.proofs.Places.{AreSet, no_places, places_found, set_step, starts, unset_step}
use Rattle.dv_index.proofs.reading.keywords.read_places.Goals.{then-is_set+in_ok-push, else-is_set}
use Rattle.dv_index.proofs.reading.keywords.read_places.Goals as goal

pub returns-then-has_bit_past-clause-check : goal.returns-then-has_bit_past-clause-check
returns-then-has_bit_past-clause-check c =
    let past : HasBitPast c.args.names c.args.bits.now = c.has_bit_past.ensures.0 (search rules) in
    rw c.failed.ensures (refl, λ places are. no_places c.args.names c.args.bits.now places past are)

pub loop-place-init : goal.loop-place-init
loop-place-init c = subst (AreSet c.args.bits.now 0) (sym c.new-places.ensures) (starts c.args.bits.now)

pub loop-place-preserved : goal.loop-place-preserved
loop-place-preserved c =
    elim c.if-is_set.branch [
      | then-is_set+in_ok-push w ↦
          let pushed : c.if-is_set.places ≡ c.loop-place.places ++ c.loop-place.place ∷ [] = search rules in
          subst (AreSet c.args.bits.now (c.loop-place.place + 1)) (sym pushed) (set_step c.args.bits.now c.loop-place.places c.loop-place.place c.loop-place.invariant (c.is_set.ensures.0 (search rules)))
      | else-is_set w ↦
          let same : c.if-is_set.places ≡ c.loop-place.places = search rules in
          subst (AreSet c.args.bits.now (c.loop-place.place + 1)) (sym same) (unset_step c.args.bits.now c.loop-place.places c.loop-place.place c.loop-place.invariant (λ set. both_ways c.is_set.result w.if-is_set.false (c.is_set.ensures.1 set)))
    ]

pub returns : goal.returns
returns c =
    let end : c.loop-place.place ≡ c.args.names = omega arith in
    record {
      found = places_found c.args.names c.args.bits.now c.loop-place.places (λ i. let fits = c.type_inv.bits i in omega (arith, fits)) c.requires (λ past. both_ways c.has_bit_past.result c.if-has_bit_past.false (c.has_bit_past.ensures.1 past)) (subst (λ n. AreSet c.args.bits.now n c.loop-place.places) end c.loop-place.invariant);
      check = tt;
    }
