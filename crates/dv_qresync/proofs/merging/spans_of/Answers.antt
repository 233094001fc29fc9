use Rattle.std.proofs.Common.{◌≡◌, ◌<◌, ◌+◌, ◌∙◌, ℕ, List, ap, arith, length, subst, sym, take}
use Rattle.std.proofs.lemmas.List.{take_all}
use Rattle.dv_model.specs.declared.types.Pair.{Pair}
use Rattle.dv_model.specs.declared.types.Span.{Span}
use Rattle.dv_model.specs.Effects.{is_in_pairs}
use Rattle.dv_model.specs.Sets.{is_in_set}
use Rattle.dv_qresync.proofs.Gathered.{one, spans_more, spans_none}
use Rattle.dv_qresync.proofs.merging.spans_of.Goals as goal
use Rattle.dv_qresync.proofs.merging.spans_of.Goals.{then-pair+in_ok-push, else-pair}

pub loop-pair-preserved : goal.loop-pair-preserved
loop-pair-preserved c =
    let pairs : List Pair = c.args.pairs.now in
    let i = c.loop-pair.pair-index in
    let less : i < length pairs = c.loop-pair-test.true in
    elim c.if-pair.branch [
      | then-pair+in_ok-push w ↦
          rw w.spans-is
          (subst (λ (spans : List Span). (star uid : ℕ) → is_in_set star spans uid ≡ is_in_pairs (take (i + 1) pairs) uid) (sym w.in_ok-push.ensures.items)
          (spans_more pairs i (one 0 0) c.loop-pair.spans.items less (omega (arith, w.if-pair.true)) c.loop-pair.invariant))
      | else-pair w ↦ rw w.spans-is (spans_none pairs i (one 0 0) c.loop-pair.spans.items less (omega (arith, w.if-pair.false)) c.loop-pair.invariant)
    ]

pub returns : goal.returns
returns c = λ star uid. c.loop-pair.invariant star uid ∙ ap (λ (pairs : List Pair). is_in_pairs pairs uid) (take_all c.loop-pair.pair-index c.args.pairs.now c.loop-pair-test.false)
