use Rattle.std.proofs.Common.{rules, ◌≡◌, ◌∙◌, All, arith, subst}
use Rattle.dv_model.specs.Spelling.{IsRecord}
use Rattle.dv_logfile.specs.Layout.{log_text}
use Rattle.dv_openings.specs.Salvages.{rebuilt_records}
use Rattle.dv_rebuild.specs.Plans.{header_of}
use Rattle.dv_rebuild.specs.Walks.{salvaged_of}
use Rattle.dv_rebuild.proofs.Plans.{in_time}
use Rattle.dv_rebuild.proofs.planning.text_of.Goals as goal

pub returns-then-len-gt-LONGEST_LOG-clause-records : goal.returns-then-len-gt-LONGEST_LOG-clause-records
returns-then-len-gt-LONGEST_LOG-clause-records c = subst (All IsRecord) c.in_ok-records.ensures.is c.in_ok-records.ensures.valid

pub returns-clause-records : goal.returns-clause-records
returns-clause-records c = subst (All IsRecord) c.in_ok-records.ensures.is c.in_ok-records.ensures.valid

pub returns-clause-text : goal.returns-clause-text
returns-clause-text c =
    let h = header_of c.args.indexid c.args.stamp c.args.salvage.now.live.mailbox.highest in
    let rs = rebuilt_records (salvaged_of c.args.salvage.now) c.args.kept.now c.args.indexid in
    let is : c.in_ok-text.text ≡ log_text h rs = search rules in
    in_time h rs c.in_ok-text.text is (omega (arith, c.if-len-gt-LONGEST_LOG.false, c.len.ensures))
