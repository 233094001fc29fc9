use Rattle.std.proofs.Common.{◌<◌, ◌≢◌, List, length, subst, sym, arith, rules, get_or-set_other}
use Rattle.std.proofs.lemmas.List.Elements.{AllWithin-from_all, AllWithin-more_set, AllWithin-none}
use Rattle.dv_answer.specs.Following.{Follower, IsAbreast}
use Rattle.dv_serial.proofs.Seated.{states_refl, states_set}
use Rattle.dv_serial.proofs.seats.tell_all.Goals as goal

pub loop-seat-init : goal.loop-seat-init
loop-seat-init c = record {
  states = states_refl c.args.seats.now;
  abreast = λ old new all leads. (AllWithin-none (IsAbreast new) c.args.seats.now 0, AllWithin-from_all (IsAbreast old) c.args.seats.now all);
}

pub loop-seat-preserved : goal.loop-seat-preserved
loop-seat-preserved c =
    let seats : List Follower = c.loop-seat.seats in
    let at = c.loop-seat.seat-index in
    let less : at < length seats = search rules in
    record {
      states = states_set c.args.seats.now seats at c.seat-item.result c.touch.new.self c.loop-seat.invariant.states less c.touch.ensures.state;
      abreast = λ old new all leads.
          let both = c.loop-seat.invariant.abreast old new all leads in
          let behind = c.in_ok-touch.ensures.abreast old new (both.1 at c.seat-item.result (omega arith) less) leads in (
            AllWithin-more_set seats at c.touch.new.self less (IsAbreast new) both.0 behind,
            λ k d low high. let other : k ≢ at = omega arith in subst (IsAbreast old) (sym (get_or-set_other seats at k c.touch.new.self d other)) (both.1 k d (omega arith) (search rules)),
          );
    }

pub returns : goal.returns
returns c = record {
  states = c.loop-seat.invariant.states;
  abreast = λ old new all leads. let both = c.loop-seat.invariant.abreast old new all leads in λ k d less. both.0 k d (omega arith) (search rules);
}
