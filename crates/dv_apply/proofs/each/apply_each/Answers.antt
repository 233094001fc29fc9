use Rattle.std.proofs.Common.{ap, sym, ◌∙◌, subst}
use Rattle.std.proofs.lemmas.List.Elements.{All-more}
use Rattle.dv_model.specs.declared.types.Record.{Record}
use Rattle.dv_model.specs.Effects.{after_record}
use Rattle.dv_model.specs.Spelling.{IsRecord}
use Rattle.dv_validity.proofs.Rows.{grows_again}
use Rattle.dv_validity.specs.Laws.{IsInRange}
use Rattle.dv_apply.specs.States.{mailbox_of}
use Rattle.dv_apply.proofs.Applying.{applied_next, grows, range_of}
use Rattle.dv_apply.proofs.Keeping.{sound}
use Rattle.dv_apply.proofs.each.apply_each.Goals as goal

pub loop-record-preserved : goal.loop-record-preserved
loop-record-preserved c =
    let i = c.loop-record.record-index in
    let rs = c.args.records.now in
    let r = c.record-item.result in
    let made = c.in_ok-apply_record.ensures.ok in
    let range : IsInRange r.body = range_of (mailbox_of c.loop-record.state) (mailbox_of c.apply_record.new.state) r (sound r (subst IsRecord (sym c.record-item.is) (c.requires.records i r c.loop-record-test.true))) made c.apply_record.ensures.kept.valid.next_uid.1 in
    record {
      is =
          applied_next (mailbox_of c.args.state.now) (mailbox_of c.loop-record.state) (mailbox_of c.apply_record.new.state) rs i r c.loop-record-test.true c.loop-record.invariant.is
          (ap (after_record (mailbox_of c.loop-record.state)) (sym c.record-item.is) ∙ made);
      range = All-more (λ (x : Record). IsInRange x.body) rs i r c.loop-record-test.true c.loop-record.invariant.range (subst (λ (x : Record). IsInRange x.body) c.record-item.is range);
      names =
          grows_again c.args.state.now.names.names c.loop-record.state.names.names c.apply_record.new.state.names.names c.loop-record.invariant.names
          (grows (mailbox_of c.loop-record.state) (mailbox_of c.apply_record.new.state) r made);
      kept = c.apply_record.ensures.kept;
    }
