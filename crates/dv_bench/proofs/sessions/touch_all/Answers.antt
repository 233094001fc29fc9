use Rattle.std.proofs.Common.{◌<◌, ◌≢◌, List, length, subst, sym, arith, rules, get_or-set_other}
use Rattle.std.proofs.lemmas.List.Elements.{AllWithin-from_all, AllWithin-more_set, AllWithin-none}
use Rattle.dv_answer.specs.Following.{Follower, IsAbreast}
use Rattle.dv_bench.proofs.sessions.touch_all.Goals as goal

pub loop-session-init : goal.loop-session-init
loop-session-init c = λ old new all leads.
    (AllWithin-none (IsAbreast new) c.args.sessions.now 0, AllWithin-from_all (IsAbreast old) c.args.sessions.now all)

pub loop-session-preserved : goal.loop-session-preserved
loop-session-preserved c = λ old new all leads.
    let sessions : List Follower = c.loop-session.sessions in
    let at = c.loop-session.session-index in
    let both = c.loop-session.invariant old new all leads in
    let less : at < length sessions = search rules in
    let behind = c.in_ok-touch.ensures.abreast old new (both.1 at c.session-item.result (omega arith) less) leads in (
      AllWithin-more_set sessions at c.touch.new.self less (IsAbreast new) both.0 behind,
      λ k d low high. let other : k ≢ at = omega arith in subst (IsAbreast old) (sym (get_or-set_other sessions at k c.touch.new.self d other)) (both.1 k d (omega arith) (search rules)),
    )

pub returns : goal.returns
returns c = λ old new all leads. let both = c.loop-session.invariant old new all leads in λ k d less. both.0 k d (omega arith) (search rules)
