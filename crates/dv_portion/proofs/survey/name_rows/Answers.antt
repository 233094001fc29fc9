use Rattle.std.proofs.Common.{ap, sym, ◌∙◌}
use Rattle.dv_model.specs.declared.types.Body.TheVariants.{Expunge, ExpungeGuid, FlagUpdate, KeywordReset, KeywordUpdate}
use Rattle.dv_portion.proofs.Surveying.{adds_by, named_bodies, named_by_guid}
use Rattle.dv_portion.proofs.survey.name_rows.Goals as goal

pub returns-in-Expunge-clause-named : goal.returns-in-Expunge-clause-named
returns-in-Expunge-clause-named c =
    named_bodies c.name_pairs.result c.args.current c.args.stay c.args.body.now (Expunge c.as_slice.result.now) c.args.rows.now.rows c.name_pairs.new.uids.items _
    (c.in-Expunge.is ∙ ap Expunge (sym c.as_slice.ensures)) (λ t uid e. e) c.name_pairs.ensures.named

pub returns-in-Expunge-clause-adds : goal.returns-in-Expunge-clause-adds
returns-in-Expunge-clause-adds c = adds_by c.args.rows.now.rows c.args.uids.now.items c.name_pairs.new.uids.items _ c.name_pairs.ensures.kept c.name_pairs.ensures.only

pub returns-in-ExpungeGuid-clause-named : goal.returns-in-ExpungeGuid-clause-named
returns-in-ExpungeGuid-clause-named c =
    named_bodies c.name_uids.result c.args.current c.args.stay c.args.body.now (ExpungeGuid c.as_slice-in-ExpungeGuid.result.now) c.args.rows.now.rows c.name_uids.new.uids.items _
    (c.in-ExpungeGuid.is ∙ ap ExpungeGuid (sym c.as_slice-in-ExpungeGuid.ensures)) (λ t uid e. named_by_guid c.as_slice-in-ExpungeGuid.result.now uid e) c.name_uids.ensures.named

pub returns-in-ExpungeGuid-clause-adds : goal.returns-in-ExpungeGuid-clause-adds
returns-in-ExpungeGuid-clause-adds c = adds_by c.args.rows.now.rows c.args.uids.now.items c.name_uids.new.uids.items _ c.name_uids.ensures.kept c.name_uids.ensures.only

pub returns-in-FlagUpdate-clause-named : goal.returns-in-FlagUpdate-clause-named
returns-in-FlagUpdate-clause-named c =
    named_bodies c.name_changed.result c.args.current c.args.stay c.args.body.now (FlagUpdate c.as_slice-in-FlagUpdate.result.now) c.args.rows.now.rows c.name_changed.new.uids.items _
    (c.in-FlagUpdate.is ∙ ap FlagUpdate (sym c.as_slice-in-FlagUpdate.ensures)) (λ t uid e. e) c.name_changed.ensures.named

pub returns-in-FlagUpdate-clause-adds : goal.returns-in-FlagUpdate-clause-adds
returns-in-FlagUpdate-clause-adds c = adds_by c.args.rows.now.rows c.args.uids.now.items c.name_changed.new.uids.items _ c.name_changed.ensures.kept c.name_changed.ensures.only

pub returns-in-KeywordUpdate-clause-named : goal.returns-in-KeywordUpdate-clause-named
returns-in-KeywordUpdate-clause-named c =
    named_bodies c.name_pairs-in-KeywordUpdate.result c.args.current c.args.stay c.args.body.now (KeywordUpdate c.in-KeywordUpdate.how c.in-KeywordUpdate.name c.as_slice-in-KeywordUpdate.result.now) c.args.rows.now.rows c.name_pairs-in-KeywordUpdate.new.uids.items _
    (c.in-KeywordUpdate.is ∙ ap (KeywordUpdate c.in-KeywordUpdate.how c.in-KeywordUpdate.name) (sym c.as_slice-in-KeywordUpdate.ensures)) (λ t uid e. e) c.name_pairs-in-KeywordUpdate.ensures.named

pub returns-in-KeywordUpdate-clause-adds : goal.returns-in-KeywordUpdate-clause-adds
returns-in-KeywordUpdate-clause-adds c = adds_by c.args.rows.now.rows c.args.uids.now.items c.name_pairs-in-KeywordUpdate.new.uids.items _ c.name_pairs-in-KeywordUpdate.ensures.kept c.name_pairs-in-KeywordUpdate.ensures.only

pub returns-in-KeywordReset-clause-named : goal.returns-in-KeywordReset-clause-named
returns-in-KeywordReset-clause-named c =
    named_bodies c.name_pairs-in-KeywordReset.result c.args.current c.args.stay c.args.body.now (KeywordReset c.as_slice-in-KeywordReset.result.now) c.args.rows.now.rows c.name_pairs-in-KeywordReset.new.uids.items _
    (c.in-KeywordReset.is ∙ ap KeywordReset (sym c.as_slice-in-KeywordReset.ensures)) (λ t uid e. e) c.name_pairs-in-KeywordReset.ensures.named

pub returns-in-KeywordReset-clause-adds : goal.returns-in-KeywordReset-clause-adds
returns-in-KeywordReset-clause-adds c = adds_by c.args.rows.now.rows c.args.uids.now.items c.name_pairs-in-KeywordReset.new.uids.items _ c.name_pairs-in-KeywordReset.ensures.kept c.name_pairs-in-KeywordReset.ensures.only
