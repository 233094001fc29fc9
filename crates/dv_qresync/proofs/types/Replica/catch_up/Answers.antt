use Rattle.std.proofs.Common.{List, ◌∙◌, ap, get_or}
use Rattle.std.proofs.lemmas.List.{take_all}
use Rattle.dv_qresync.specs.declared.types.Answer.{Answer}
use Rattle.dv_qresync.specs.declared.types.Replica.{Replica}
use Rattle.dv_qresync.specs.Merging.{merged}
use Rattle.dv_qresync.specs.Replicas.{caught_up, heard}
use Rattle.dv_qresync.proofs.Catching.{catches_up}
use Rattle.dv_qresync.proofs.Merged.{caught_more}
use Rattle.dv_qresync.proofs.types.Replica.catch_up.Goals as goal

pub hear-requires : goal.hear-requires
hear-requires c = c.loop-a.invariant.at

pub loop-a-preserved : goal.loop-a-preserved
loop-a-preserved c =
    let items : List Answer = c.as_slice-a-items.result.now in
    let i = c.loop-a.a-index in
    let a : Answer = c.a-item.result in
    record {
      heard =
          c.in_ok-hear.ensures.is
          ∙ ap (heard (merged c.loop-a.merge)) c.a-item.is
          ∙ ap (λ (r : Replica). heard r (get_or items i a)) c.loop-a.invariant.heard
          ∙ caught_more c.args.self.now items i a c.loop-a-test.true;
      at = c.in_ok-hear.ensures.at;
    }

pub returns-clause-ok : goal.returns-clause-ok
returns-clause-ok c =
    c.in_ok-self.ensures ∙ c.loop-a.invariant.heard
    ∙ ap (caught_up c.args.self.now) (take_all c.loop-a.a-index c.as_slice-a-items.result.now c.loop-a-test.false ∙ c.as_slice-a-items.ensures)

pub returns-clause-equal : goal.returns-clause-equal
returns-clause-equal c = λ m hears.
    c.in_ok-self.ensures ∙ c.loop-a.invariant.heard
    ∙ ap (caught_up c.args.self.now) (take_all c.loop-a.a-index c.as_slice-a-items.result.now c.loop-a-test.false ∙ c.as_slice-a-items.ensures)
    ∙ catches_up c.args.self.now c.args.answers.now m hears
