use Rattle.std.proofs.Common.{◌+◌, ℕ, List, length, subst, sym, arith, ap}
use Rattle.std.proofs.lemmas.List.{length-drop}
use Rattle.dv_logfile.proofs.Counted.{IsCounted, counted_more, counted_all, next_fits}
use Rattle.dv_logfile.proofs.counting.record_count.Goals as goal

pub split_at-requires : goal.split_at-requires
split_at-requires c = (next_fits _ _ _ c.record_size.result c.requires.group (omega arith) (record { is = c.record_size.ensures }) c.loop-rest.invariant).1

pub loop-rest-smaller : goal.loop-rest-smaller
loop-rest-smaller c =
    let fits = next_fits _ _ _ c.record_size.result c.requires.group (omega arith) (record { is = c.record_size.ensures }) c.loop-rest.invariant in
    omega (arith, fits.0, fits.1, ap length c.split_at.ensures.back, length-drop c.record_size.result c.loop-rest.rest.now)

pub loop-rest-preserved : goal.loop-rest-preserved
loop-rest-preserved c =
    subst (λ (l : List ℕ). IsCounted c.args.text.now l (c.loop-rest.count + 1)) (sym c.split_at.ensures.back)
    (counted_more _ _ _ c.record_size.result c.requires.group (omega arith) (record { is = c.record_size.ensures }) c.loop-rest.invariant)

pub returns : goal.returns
returns c = λ records spelled. counted_all _ _ _ (omega arith) c.loop-rest.invariant records spelled
