use Rattle.std.proofs.Common.{◌≡◌, ◌<◌, ◌-◌, ◌∙◌, ap, map, sym, take, arith}
use Rattle.std.specs.Prelude.{option_to_list}
use Rattle.dv_model.specs.declared.types.Reply.TheVariants as reply
use Rattle.dv_model.proofs.Clients.{above_of_rising}
use Rattle.dv_view.proofs.Losing.{expunges, lost, lost_last, lost_said}
use Rattle.dv_view.proofs.Placing.{rises_of}
use Rattle.dv_view.proofs.TakenMore.{taken_more}
use Rattle.dv_view.proofs.telling.add_lost.Goals as goal

pub loop-at-preserved : goal.loop-at-preserved
loop-at-preserved g c =
    let with = g.R.Replies.with in
    let rows = c.args.rows.now in
    let fresh = c.args.fresh.now in
    let at = c.loop-at.at in
    let before = c.loop-at.said in
    let some : 0 < at = omega (arith, c.loop-at-test.true) in
    let number = c.left_number.result in
    let last = lost_last rows fresh at c.index-fresh-at.result number some c.loop-at.invariant.inside (sym c.index-fresh-at.is) (sym c.left_number.ensures) in
    let rest = expunges (lost rows (take (at - 1) fresh)) in
    record {
      inside = omega (arith, c.loop-at.invariant.inside);
      taken = taken_more with g.met.R.Replies.more c.args.said.now before c.add_expunge.new.said c.loop-at.invariant.taken (record { told = map (λ n. reply.Expunge n) (option_to_list number); is = c.in_ok-add_expunge.ensures.ok });
      said = ap (λ x. with x rest) c.in_ok-add_expunge.ensures.ok
          ∙ g.met.R.Replies.more before (map (λ n. reply.Expunge n) (option_to_list number)) rest
          ∙ ap (with before) (sym last) ∙ c.loop-at.invariant.said;
    }

pub returns-clause-ok : goal.returns-clause-ok
returns-clause-ok g c =
    let with = g.R.Replies.with in
    let rows = c.args.rows.now in
    let fresh = c.args.fresh.now in
    let none : 0 ≡ c.loop-at.at = omega (arith, c.loop-at-test.false) in
    sym (g.met.R.Replies.none c.loop-at.said)
    ∙ ap (λ n. with c.loop-at.said (expunges (lost rows (take n fresh)))) none
    ∙ c.loop-at.invariant.said
    ∙ ap (with c.args.said.now) (sym (lost_said rows fresh (above_of_rising rows c.requires.rising.uids) (rises_of fresh c.requires.given)))
