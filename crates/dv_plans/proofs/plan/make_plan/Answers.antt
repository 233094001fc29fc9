use Rattle.std.proofs.Common.{ℕ, ◌+◌, Bool, List, refl, sym, ◌∙◌, ap, subst}
use Rattle.std.proofs.lemmas.Result.{err_from_is_err_and}
use Rattle.dv_model.specs.declared.types.GuidRow.{GuidRow}
use Rattle.dv_model.specs.Sessions.{group_of, is_append}
use Rattle.dv_dbox.specs.Mails.{no_guid}
use Rattle.dv_shelf.specs.Clocks.{behind}
use Rattle.dv_files.specs.Texts.{place_of}
use Rattle.dv_plans.specs.Begins.{count_of, received_at, turns}
use Rattle.dv_plans.specs.Counts.{CountsReads, CountsUpTo}
use Rattle.dv_plans.specs.Groups.{AreFound}
use Rattle.dv_plans.proofs.Counts.{all_counted, reads_also}
use Rattle.dv_plans.proofs.Dated.{dated_at}
use Rattle.dv_plans.proofs.Made.{files_at, plan_made, plans_each, read_at, turned_at}
use Rattle.dv_plans.proofs.Passed.{few_rows, passes}
use Rattle.dv_plans.proofs.Planned.{all_found}
use Rattle.dv_plans.proofs.plan.make_plan.Goals as goal

pub read_before-requires-clause-few : goal.read_before-requires-clause-few
read_before-requires-clause-few g c =
    let command = c.args.c.now in
    let view = c.args.view.now in
    let chain = c.args.chain.now in
    let zero : ℕ → List ℕ = λ uid. no_guid in
    few_rows command view chain.live.mailbox (place_of chain) zero (passes command chain.live.mailbox (place_of chain) (group_of command view chain.live.mailbox zero) (c.requires.written zero (λ uid. refl)).0)

pub read_before-requires-clause-turn : goal.read_before-requires-clause-turn
read_before-requires-clause-turn g c = c.read_times-times.ensures.turn ∙ c.is_turn_due.ensures

pub write_group-requires : goal.write_group-requires
write_group-requires g c =
    let chain = c.args.chain.now in
    let rows = c.in_ok-before.before.guids in
    subst (λ (r : List GuidRow). AreFound c.args.c.now chain.live.mailbox c.args.uids.now r) (sym c.as_slice.ensures)
    (all_found c.args.c.now c.args.view.now chain c.args.uids.now rows c.requires.command c.have_bounds.ensures.ordered c.have_bounds.ensures.valid c.have_bounds.ensures.resets c.requires.found c.requires.written c.in_ok-before.ensures.is.guids)

pub returns-clause-steps : goal.returns-clause-steps
returns-clause-steps g c =
    plan_made c.args.c.now c.args.view.now c.args.chain.now c.args.uids.now c.args.owed.now c.read_times-times.result c.in_ok-before.before c.requires.command c.have_bounds.ensures.ordered c.have_bounds.ensures.valid c.have_bounds.ensures.resets
    c.requires.found c.requires.written (c.read_times-times.ensures.turn ∙ c.is_turn_due.ensures) c.in_ok-before.ensures.is c.write_group.new.live c.write_group.ensures.mailbox c.in_ok-written.written c.in_ok-written.ensures.ready
    (λ view guid changed removed. c.in_ok-written.ensures.group view guid changed (c.as_slice.ensures ∙ removed))

pub returns-clause-write : goal.returns-clause-write
returns-clause-write g c = λ tells.
    let S = g.S.Shelf in
    let command = c.args.c.now in
    let chain = c.args.chain.now in
    let owed = c.args.owed.now in
    let times = c.read_times-times.result in
    let before = c.in_ok-before.before in
    let old = c.args.shelf.now in
    let upcoming : ℕ → ℕ = g.C.Clock.sees.upcoming c.args.clock.now in
    let known = received_at (turns owed chain) upcoming in
    let dated = dated_at g.C.Clock.sees.tells (is_append command) times.received known
    c.read_times-times.ensures.small (λ reads. g.met.C.Clock.readings_small c.args.clock.now (count_of (turns owed chain)) reads)
    (λ reads append. c.read_times-times.ensures.received reads (c.is_append.ensures ∙ append) ∙ ap (λ (b : Bool). received_at b upcoming) c.is_turn_due.ensures) in
    let read = c.in_ok-before.ensures.read tells in
    record {
      at = dated.at;
      small = dated.small;
      clock = dated.clock;
      is = record {
        each = plans_each command c.args.view.now chain c.args.uids.now owed times before c.requires.command c.have_bounds.ensures.ordered c.have_bounds.ensures.valid c.have_bounds.ensures.resets
            c.requires.found c.requires.written (c.read_times-times.ensures.turn ∙ c.is_turn_due.ensures) c.in_ok-before.ensures.is c.write_group.new.live c.write_group.ensures.mailbox c.in_ok-written.written c.in_ok-written.ensures.ready
            (λ view guid changed removed. c.in_ok-written.ensures.group view guid changed (c.as_slice.ensures ∙ removed))
            (S.sees.files old) (S.sees.files c.read_before.new.shelf) dated.at
            (read_at command c.args.uids.now chain times.received dated.at (S.sees.files old) before dated.is read)
            (c.in_ok-before.ensures.looks tells).same;
        files = files_at command chain times.received dated.at (S.sees.files old) before.files dated.is read.files;
        came = dated.is;
      };
    }

pub returns-clause-clock : goal.returns-clause-clock
returns-clause-clock g c = λ tells.
    let upcoming : ℕ → ℕ = g.C.Clock.sees.upcoming c.args.clock.now in
    let due = c.is_turn_due.ensures in
    let times = c.read_times-times in (
      times.ensures.clock tells ∙ ap (λ (b : Bool). behind upcoming (count_of b + count_of c.is_append.result)) due ∙ ap (λ (b : Bool). behind upcoming (count_of (turns c.args.owed.now c.args.chain.now) + count_of b)) c.is_append.ensures,
      turned_at c.args.chain.now times.result.turn c.in_ok-before.before.turn (upcoming 0) c.in_ok-before.ensures.is.made c.in_ok-before.ensures.is.turn (times.ensures.time tells),
    )

pub returns-in_err-before-clause-mail_reads : goal.returns-in_err-before-clause-mail_reads
returns-in_err-before-clause-mail_reads g c =
    let p = err_from_is_err_and c.from_residual.result c.from_residual.ensures.1 in
    rw p.1 c.in_err-before.ensures.mail_reads

pub returns-in_err-written-clause-mail_reads : goal.returns-in_err-written-clause-mail_reads
returns-in_err-written-clause-mail_reads g c =
    let S = g.S.Shelf in
    let p = err_from_is_err_and c.from_residual-in_err-written.result c.from_residual-in_err-written.ensures.1 in
    rw p.1
    (reads_also S.sees c.args.c.now c.args.chain.now c.args.uids.now c.args.shelf.now c.read_before.new.shelf c.read_before.new.shelf CountsReads CountsUpTo refl (λ n before all. all_counted n before (S.sees.mail_reads c.read_before.new.shelf) all) c.in_ok-before.ensures.mail_reads)

pub returns-clause-mail_reads : goal.returns-clause-mail_reads
returns-clause-mail_reads g c = c.in_ok-before.ensures.mail_reads
