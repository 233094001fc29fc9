use Rattle.std.proofs.Common.{◌≡◌, ◌∙◌, ap, arith}
use Rattle.std.specs.Prelude.{ℕ, replicate}
use Rattle.std.proofs.lemmas.List.{replicate_more}
use Rattle.dv_answer.specs.Following.{new_follower}
use Rattle.dv_serial.proofs.seats.new_seats.Goals as goal

pub loop-init : goal.loop-init
loop-init c = c.new-seats.ensures

pub loop-preserved : goal.loop-preserved
loop-preserved c = cc (c.in_ok-push.ensures.ok, replicate_more c.loop.counter new_follower)

pub returns : goal.returns
returns c =
    let same : c.loop.counter ≡ c.args.count = omega arith in
    c.loop.invariant ∙ ap (λ (n : ℕ). replicate n new_follower) same
