use Rattle.std.proofs.Common.{ap, sym, ◌∙◌}
use Rattle.dv_model.specs.declared.types.Body.TheVariants.{Expunge, ExpungeGuid, FlagUpdate, HeaderUpdate, KeywordReset, ExtRecordUpdate}
use Rattle.dv_apply.proofs.Keeping.{became}
use Rattle.dv_apply.proofs.bodies.change.Goals as goal

pub returns-in-Expunge-clause-ok : goal.returns-in-Expunge-clause-ok
returns-in-Expunge-clause-ok c = became c.args.state.now c.expunge.new.state (Expunge c.as_slice-in-Expunge.result.now) c.args.body.now c.expunge.ensures (c.in-Expunge.is ∙ ap Expunge (sym c.as_slice-in-Expunge.ensures))

pub returns-in-ExpungeGuid-clause-ok : goal.returns-in-ExpungeGuid-clause-ok
returns-in-ExpungeGuid-clause-ok c = became c.args.state.now c.expunge_named.new.state (ExpungeGuid c.as_slice-in-ExpungeGuid.result.now) c.args.body.now c.expunge_named.ensures (c.in-ExpungeGuid.is ∙ ap ExpungeGuid (sym c.as_slice-in-ExpungeGuid.ensures))

pub returns-in-FlagUpdate-clause-ok : goal.returns-in-FlagUpdate-clause-ok
returns-in-FlagUpdate-clause-ok c = became c.args.state.now c.change_flags.new.state (FlagUpdate c.as_slice-in-FlagUpdate.result.now) c.args.body.now c.change_flags.ensures (c.in-FlagUpdate.is ∙ ap FlagUpdate (sym c.as_slice-in-FlagUpdate.ensures))

pub returns-in-HeaderUpdate-clause-ok : goal.returns-in-HeaderUpdate-clause-ok
returns-in-HeaderUpdate-clause-ok c = became c.args.state.now c.update_numbers.new.state (HeaderUpdate c.as_slice-in-HeaderUpdate.result.now) c.args.body.now c.update_numbers.ensures (c.in-HeaderUpdate.is ∙ ap HeaderUpdate (sym c.as_slice-in-HeaderUpdate.ensures))

pub returns-in-KeywordReset-clause-ok : goal.returns-in-KeywordReset-clause-ok
returns-in-KeywordReset-clause-ok c = became c.args.state.now c.clear_keywords.new.state (KeywordReset c.as_slice-in-KeywordReset.result.now) c.args.body.now c.clear_keywords.ensures (c.in-KeywordReset.is ∙ ap KeywordReset (sym c.as_slice-in-KeywordReset.ensures))

pub returns-in-ExtRecordUpdate-clause-ok : goal.returns-in-ExtRecordUpdate-clause-ok
returns-in-ExtRecordUpdate-clause-ok c = became c.args.state.now c.update_rows.new.state (ExtRecordUpdate c.as_slice-in-ExtRecordUpdate.result.now) c.args.body.now c.update_rows.ensures (c.in-ExtRecordUpdate.is ∙ ap ExtRecordUpdate (sym c.as_slice-in-ExtRecordUpdate.ensures))

pub returns-in-ExtHeaderUpdate-clause-ok : goal.returns-in-ExtHeaderUpdate-clause-ok
returns-in-ExtHeaderUpdate-clause-ok c = became c.args.state.now c.update_header.new.state _ c.args.body.now c.update_header.ensures c.in-ExtHeaderUpdate.is

pub returns-in-Carried-clause-ok : goal.returns-in-Carried-clause-ok
returns-in-Carried-clause-ok c = became c.args.state.now c.carry.new.state _ c.args.body.now c.carry.ensures c.in-Carried.is
