use Rattle.std.proofs.Common.{ℕ, ◌≤◌, List, length, sym, subst}
use Rattle.std.specs.Prelude.{All, IsSome}
use Rattle.dv_model.specs.declared.types.Group.{Group}
use Rattle.dv_model.specs.Effects.{applied}
use Rattle.dv_model.specs.Spelling.{IsRecord}
use Rattle.dv_logfile.proofs.Logs.{spelled_written}
use Rattle.dv_logfile.specs.Layout.{Spelled, closing}
use Rattle.dv_apply.specs.Preparing.{Makes}
use Rattle.dv_plans.proofs.Applied.{after_of, found_applies, found_records}
use Rattle.dv_plans.proofs.groups.write_group.Goals as goal

pub group_text-requires-clause-some : goal.group_text-requires-clause-some
group_text-requires-clause-some c =
    let found = c.requires in
    subst (λ (g : Group). 1 ≤ length g.records) (sym (c.in_ok-group.ensures found.view found.guid found.changed found.removed)) found.some

pub group_text-requires-clause-valid : goal.group_text-requires-clause-valid
group_text-requires-clause-valid c =
    let found = c.requires in
    subst (λ (g : Group). All IsRecord g.records) (sym (c.in_ok-group.ensures found.view found.guid found.changed found.removed)) (found_records c.args.c.now c.args.live.now.mailbox c.args.uids.now c.args.guids.now found)

pub prepare-requires-clause-records : goal.prepare-requires-clause-records
prepare-requires-clause-records c =
    let found = c.requires in
    subst (λ (g : Group). All IsRecord g.records) (sym (c.in_ok-group.ensures found.view found.guid found.changed found.removed)) (found_records c.args.c.now c.args.live.now.mailbox c.args.uids.now c.args.guids.now found)

pub prepare-requires-clause-applies : goal.prepare-requires-clause-applies
prepare-requires-clause-applies c =
    let found = c.requires in
    subst (λ (g : Group). IsSome (applied c.args.live.now.mailbox g.records)) (sym (c.in_ok-group.ensures found.view found.guid found.changed found.removed))
    (found_applies c.args.c.now c.args.live.now.mailbox c.args.uids.now c.args.guids.now found)

pub returns-clause-ready : goal.returns-clause-ready
returns-clause-ready c =
    let found = c.requires in
    let group = c.in_ok-group.group in
    let is = c.in_ok-group.ensures found.view found.guid found.changed found.removed in
    let all : All IsRecord group.records = subst (λ (g : Group). All IsRecord g.records) (sym is) (found_records c.args.c.now c.args.live.now.mailbox c.args.uids.now c.args.guids.now found) in
    let made = after_of (Makes c.prepare.new.live c.in_ok-prepared.prepared) (applied c.prepare.new.live.mailbox group.records) c.in_ok-prepared.ensures.ok in
    record {
      some = subst (λ (g : Group). 1 ≤ length g.records) (sym is) found.some;
      text = c.in_ok-text.ensures.text;
      spelled = subst (λ (t : List ℕ). Spelled group.records t closing) (sym c.in_ok-text.ensures.text) (spelled_written group.records closing all);
      after = made.0;
      gives = made.1;
      makes = made.2;
    }
