use Rattle.std.proofs.Common.{◌≡◌, Some, sym, subst}
use Rattle.std.specs.Prelude.{⊤}
use Rattle.dv_model.specs.declared.types.Record.{Record}
use Rattle.dv_model.specs.Spelling.{IsRecord}
use Rattle.dv_apply.specs.Bodies.{refused_row}
use Rattle.dv_apply.proofs.Keeping.{sound}
use Rattle.dv_apply.proofs.Lending.{bad_by}
use Rattle.dv_apply.proofs.Testing.{LeavesNext, in_turn, refused_at}
use Rattle.dv_apply.proofs.refusals.test_records.Goals as goal

pub next_behind-requires : goal.next_behind-requires
next_behind-requires c = sound c.record-item.result (subst IsRecord (sym c.record-item.is) (c.requires c.loop-record.record-index c.record-item.result c.loop-record-test.true))

pub returns-in-Err-clause-bad : goal.returns-in-Err-clause-bad
returns-in-Err-clause-bad c =
    let rs = c.args.records.now in
    let i = c.loop-record.record-index in
    let r : Record = c.record-item.result in
    bad_by ⊤ c.next_behind.result c.in-Err.e _ _ c.in-Err.is c.next_behind.ensures.bad (λ x each m e.
    refused_at m rs i r c.loop-record.next x c.loop-record-test.true (c.loop-record.invariant m e) (λ k at. subst (λ (y : Record). refused_row k y.body ≡ Some x) c.record-item.is (each k at)))

pub loop-record-preserved : goal.loop-record-preserved
loop-record-preserved c = λ m e.
    let next = c.in-Ok.behind in
    in_turn m c.args.records.now c.loop-record.record-index c.record-item.result c.loop-record.next next c.loop-record-test.true (c.loop-record.invariant m e)
    (λ k at. subst (λ (y : Record). LeavesNext k next y.body) c.record-item.is (c.in-Ok.ensures.ok k at))
