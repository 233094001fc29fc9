use Rattle.std.proofs.Common.{ℕ, [], Err, refl, sym, ap, subst}
use Rattle.dv_plans.specs.declared.plan.Plan.{Plan}
use Rattle.dv_plans.specs.Begins.{count_of, readings_of, received_at, turns}
use Rattle.dv_shelf.specs.Folders.{counted}
use Rattle.dv_plans.specs.Counts.{CountsReads}
use Rattle.dv_plans.proofs.Counts.{reads_also, reads_none}
use Rattle.dv_plans.proofs.Dated.{cut, cut_same, cut_small}
use Rattle.dv_groups.specs.Changes.{changed_uids}
use Rattle.dv_writing.specs.Writes.{Write}
use Rattle.dv_store.specs.Commits.{CountsFor, CountsMails, TakesReadings, write_at}
use Rattle.dv_store.specs.States.{State}
use Rattle.dv_store.proofs.Committing.{quiet_idle, quiet_refused, quiet_written, rotates_not, rotates_written, stands_readied}
use Rattle.dv_store.proofs.Equal.{owing_equal}
use Rattle.dv_store.proofs.Receipts.{carried_paid, commits_idle, commits_refused, commits_written, disk_written, idle_untouched, idle_unwritten, later_cause, mails_counted, passed_cause, plan_written, readings_passed, readings_taken}
use Rattle.dv_logfile.proofs.Settling.{looked_settled, settled_then}
use Rattle.dv_store.proofs.store.Store.commit_command.Goals as goal

pub write_plan-requires : goal.write_plan-requires
write_plan-requires g c =
    let is = rw c.in-Ok-Some.field-0-is at c.in-Ok-Some.ensures.steps in
    record { owing = owing_equal c.make_ready.new.chain c.self.inside.chain c.self.inside.owed c.in-Ok-Some.ensures.chain c.self.invariant; steps = is.steps }

pub invariant_of-self-in-Ok-None : goal.invariant_of-self-in-Ok-None
invariant_of-self-in-Ok-None g c = owing_equal c.make_ready.new.chain c.self.inside.chain c.self.inside.owed c.in-Ok-None.ensures.chain c.self.invariant

pub invariant_of-self-in-Err : goal.invariant_of-self-in-Err
invariant_of-self-in-Err g c = owing_equal c.make_ready.new.chain c.self.inside.chain c.self.inside.owed c.in-Err.ensures.chain c.self.invariant

pub returns-in-Ok-Some-clause-value : goal.returns-in-Ok-Some-clause-value
returns-in-Ok-Some-clause-value g c = rw (← c.self.view_is) (
    let decides = rw c.in-Ok-Some.field-0-is at c.in-Ok-Some.ensures.decides in
    let is = rw c.in-Ok-Some.field-0-is at c.in-Ok-Some.ensures.steps in
    commits_written c.args.c.now c.args.view.now _ c.make_ready.new.chain c.in-Ok-Some.ensures.chain c.forget.new.cache c.forget.ensures c.in-Ok-Some.plan decides is c.write_plan.new.owed c.write_plan.new.chain c.write_plan.new.shelf c.make_ready.new.clock c.write_plan.new.at
    c.appended_uid-uid.result (g.S.Shelf.sees.fault_count c.write_plan.new.shelf) c.write_plan.result c.appended_uid-uid.ensures c.write_plan.ensures.receipt c.write_plan.ensures.err c.write_plan.ensures.value c.write_plan.ensures.mark)

pub returns-in-Ok-None-clause-value : goal.returns-in-Ok-None-clause-value
returns-in-Ok-None-clause-value g c = rw (← c.self.view_is, c.idle.ensures) (
    let decides = rw c.in-Ok-None.field-0-is at c.in-Ok-None.ensures.decides in
    commits_idle c.args.c.now c.args.view.now _ c.make_ready.new.chain c.in-Ok-None.ensures.chain c.forget.new.cache c.forget.ensures Plan c.self.inside.mark c.appended_uid-uid.result c.make_ready.new.shelf c.make_ready.new.clock decides refl c.appended_uid-uid.ensures)

pub returns-in-Err-clause-value : goal.returns-in-Err-clause-value
returns-in-Err-clause-value g c = rw (← c.self.view_is)
    (commits_refused c.args.c.now c.args.view.now _ c.make_ready.new.chain c.in-Err.ensures.chain c.forget.new.cache c.forget.ensures Plan c.in-Err.e c.make_ready.new.shelf c.make_ready.new.clock c.in-Err.ensures.decides)

pub returns-in-Ok-Some-clause-idle : goal.returns-in-Ok-Some-clause-idle
returns-in-Ok-Some-clause-idle g c = λ idle.
    let is = rw c.in-Ok-Some.field-0-is at c.in-Ok-Some.ensures.steps in
    absurd (plan_written c.in-Ok-Some.plan c.appended_uid-uid.result is.some (g.S.Shelf.sees.fault_count c.write_plan.new.shelf) c.write_plan.result c.write_plan.ensures.receipt c.write_plan.ensures.err (idle_unwritten c.write_plan.result idle))

pub returns-in-Err-clause-idle : goal.returns-in-Err-clause-idle
returns-in-Err-clause-idle g c = rw (← c.self.view_is) (λ idle. idle_untouched Plan _ c.in-Err.e c.in-Err.ensures.untouched idle)

pub returns-in-Ok-Some-clause-looks : goal.returns-in-Ok-Some-clause-looks
returns-in-Ok-Some-clause-looks g c = λ tells none.
    let is = rw c.in-Ok-Some.field-0-is at c.in-Ok-Some.ensures.steps in
    absurd (plan_written c.in-Ok-Some.plan c.appended_uid-uid.result is.some (g.S.Shelf.sees.fault_count c.write_plan.new.shelf) c.write_plan.result c.write_plan.ensures.receipt c.write_plan.ensures.err none)

pub returns-in-Ok-Some-clause-gives : goal.returns-in-Ok-Some-clause-gives
returns-in-Ok-Some-clause-gives g c = rw (← c.self.view_is) (λ tells.
    let S = g.S.Shelf in
    let mid = c.make_ready.new in
    let plan = c.in-Ok-Some.plan in
    let is = rw c.in-Ok-Some.field-0-is at c.in-Ok-Some.ensures.steps in
    let dated = rw c.in-Ok-Some.field-0-is at (c.in-Ok-Some.ensures.write tells) in
    let same = c.in-Ok-Some.ensures.chain in
    let looks = c.in-Ok-Some.ensures.looks tells in
    record {
      at = dated.at;
      small = dated.small;
      clock = dated.clock;
      is = λ log debt author rest.
          let write : Write = write_at author c.args.c.now c.args.view.now dated.at in
          let stands = stands_readied S.sees log debt write _ rest mid.chain same c.forget.new.cache c.forget.ensures mid.shelf mid.clock looks in
          let plans = dated.is.each log author stands.named (stands.keeps (S.sees.files mid.shelf) (g.met.S.Shelf.leaves_files mid.shelf tells)) in
          quiet_written S.sees log debt write _ rest mid.chain same c.forget.new.cache c.forget.ensures mid.shelf mid.clock looks plan c.write_plan.new.owed c.write_plan.new.chain c.write_plan.new.shelf is plans dated.is.files dated.is.came c.write_plan.new.at
          (g.met.S.Shelf.leaves_files c.self.inside.shelf tells)
          c.appended_uid-uid.result c.write_plan.result c.write_plan.ensures.receipt (carried_paid c.write_plan.result c.write_plan.ensures.value) (disk_written (S.sees.fault_count c.write_plan.new.shelf) c.write_plan.result c.write_plan.ensures.err)
          (c.write_plan.ensures.gives tells log debt write rest.fits stands plans.is);
    })

pub returns-in-Ok-None-clause-gives : goal.returns-in-Ok-None-clause-gives
returns-in-Ok-None-clause-gives g c = rw (← c.self.view_is, c.idle.ensures) (λ tells.
    let S = g.S.Shelf in
    let decides = rw c.in-Ok-None.field-0-is at c.in-Ok-None.ensures.decides in
    let known = received_at (turns c.self.inside.owed c.self.inside.chain) (g.C.Clock.sees.upcoming c.self.inside.clock) in
    record {
      at = cut known;
      small = cut_small known;
      clock = λ reads. cut_same known (g.met.C.Clock.readings_small c.self.inside.clock (count_of (turns c.self.inside.owed c.self.inside.chain)) reads);
      is = λ log debt author rest.
          quiet_idle S.sees log debt _ _ rest c.make_ready.new.chain c.in-Ok-None.ensures.chain c.forget.new.cache c.forget.ensures c.make_ready.new.shelf c.make_ready.new.clock (c.in-Ok-None.ensures.looks tells) Plan c.self.inside.mark c.appended_uid-uid.result decides;
    })

pub returns-in-Err-clause-gives : goal.returns-in-Err-clause-gives
returns-in-Err-clause-gives g c = rw (← c.self.view_is) (λ tells.
    let S = g.S.Shelf in
    let known = received_at (turns c.self.inside.owed c.self.inside.chain) (g.C.Clock.sees.upcoming c.self.inside.clock) in
    record {
      at = cut known;
      small = cut_small known;
      clock = λ reads. cut_same known (g.met.C.Clock.readings_small c.self.inside.clock (count_of (turns c.self.inside.owed c.self.inside.chain)) reads);
      is = λ log debt author rest.
          quiet_refused S.sees log debt _ _ rest c.make_ready.new.chain c.in-Err.ensures.chain c.forget.new.cache c.forget.ensures c.make_ready.new.shelf c.make_ready.new.clock (c.in-Err.ensures.looks tells) c.in-Err.e;
    })

pub returns-in-Ok-Some-clause-clock : goal.returns-in-Ok-Some-clause-clock
returns-in-Ok-Some-clause-clock g c = rw (← c.self.view_is) (λ reads.
    let is = rw c.in-Ok-Some.field-0-is at c.in-Ok-Some.ensures.steps in
    let taken = rw c.in-Ok-Some.field-0-is at (c.in-Ok-Some.ensures.clock reads) in
    let upcoming = g.C.Clock.sees.upcoming in (
      readings_taken c.in-Ok-Some.plan c.appended_uid-uid.result is.some (readings_of c.args.c.now c.self.inside.owed c.self.inside.chain) (g.S.Shelf.sees.fault_count c.write_plan.new.shelf) (upcoming c.self.inside.clock) (upcoming c.make_ready.new.clock) c.write_plan.result c.write_plan.ensures.receipt c.write_plan.ensures.err taken.0,
      λ tells due. rotates_written (upcoming c.self.inside.clock 0) c.self.inside.chain c.make_ready.new.chain c.in-Ok-Some.ensures.chain _ _ c.in-Ok-Some.plan (g.S.Shelf.sees.files c.write_plan.new.shelf) c.write_plan.result refl due
          c.write_plan.ensures.value is.turn taken.1 (c.write_plan.ensures.turned tells),
    ))

pub returns-in-Ok-None-clause-clock : goal.returns-in-Ok-None-clause-clock
returns-in-Ok-None-clause-clock g c = rw (← c.self.view_is, c.idle.ensures) (λ reads.
    let untouched = rw c.in-Ok-None.field-0-is at c.in-Ok-None.ensures.untouched in
    let upcoming = g.C.Clock.sees.upcoming in (
      ap upcoming untouched.1,
      λ tells due. rotates_not (upcoming c.self.inside.clock 0) c.self.inside.chain c.make_ready.new.chain c.in-Ok-None.ensures.chain _ _ (g.S.Shelf.sees.files c.make_ready.new.shelf) refl refl due refl,
    ))

pub returns-in-Ok-Some-clause-mail_reads : goal.returns-in-Ok-Some-clause-mail_reads
returns-in-Ok-Some-clause-mail_reads g c = rw (← c.self.view_is) (
    let S = g.S.Shelf in
    let is = rw c.in-Ok-Some.field-0-is at c.in-Ok-Some.ensures.steps in
    let read = rw c.in-Ok-Some.field-0-is at c.in-Ok-Some.ensures.mail_reads in
    let chain = c.self.inside.chain in
    let mid = c.make_ready.new.shelf in
    let new = c.write_plan.new.shelf in
    let same = c.write_plan.ensures.mail_reads in
    reads_also S.sees c.args.c.now chain (changed_uids c.args.c.now c.args.view.now chain.live.mailbox) c.self.inside.shelf mid new CountsReads (λ n before now. CountsMails n before now c.write_plan.result) (ap (λ (k : ℕ). counted k 0) same)
    (λ n before some. mails_counted c.in-Ok-Some.plan c.appended_uid-uid.result is.some n before (S.sees.mail_reads mid) (S.sees.mail_reads new) c.write_plan.result c.write_plan.ensures.receipt some same) read)

pub returns-in-Ok-None-clause-mail_reads : goal.returns-in-Ok-None-clause-mail_reads
returns-in-Ok-None-clause-mail_reads g c = rw (← c.self.view_is, c.idle.ensures) (
    let S = g.S.Shelf in
    let untouched = rw c.in-Ok-None.field-0-is at c.in-Ok-None.ensures.untouched in
    let same = ap S.sees.mail_reads untouched.0 in
    let chain = c.self.inside.chain in
    reads_none S.sees c.args.c.now chain (changed_uids c.args.c.now c.args.view.now chain.live.mailbox) c.self.inside.shelf c.make_ready.new.shelf (λ n before now. CountsFor n before now []) (ap (λ (k : ℕ). counted k 0) same) (λ n. same))

pub returns-in-Err-clause-mail_reads : goal.returns-in-Err-clause-mail_reads
returns-in-Err-clause-mail_reads g c = rw (← c.self.view_is) c.in-Err.ensures.mail_reads

pub returns-in-Ok-Some-clause-cause : goal.returns-in-Ok-Some-clause-cause
returns-in-Ok-Some-clause-cause g c = rw (← c.self.view_is)
    (later_cause _ _ _ c.in-Ok-Some.field-0 c.write_plan.result c.in-Ok-Some.ensures.cause c.write_plan.ensures.cause)

pub returns-in-Err-clause-cause : goal.returns-in-Err-clause-cause
returns-in-Err-clause-cause g c = rw (← c.self.view_is) (passed_cause {A = _} _ _ c.in-Err.e c.in-Err.ensures.cause)

pub returns-in-Err-clause-clock : goal.returns-in-Err-clause-clock
returns-in-Err-clause-clock g c = λ reads.
    let upcoming = g.C.Clock.sees.upcoming in (
      subst (λ (s : State g.row.S.Denot g.row.C.Denot). TakesReadings (readings_of c.args.c.now s.owed s.chain) (upcoming s.clock) (upcoming c.make_ready.new.clock) (Err c.in-Err.e)) c.self.view_is
          (readings_passed Plan (readings_of c.args.c.now c.self.inside.owed c.self.inside.chain) (upcoming c.self.inside.clock) (upcoming c.make_ready.new.clock) c.in-Err.e (c.in-Err.ensures.clock reads).0),
      λ tells due. rotates_not (upcoming c.args.self.now.clock 0) c.self.inside.chain c.make_ready.new.chain c.in-Err.ensures.chain c.args.self.now _ (g.S.Shelf.sees.files c.make_ready.new.shelf)
          (ap (λ (s : State g.row.S.Denot g.row.C.Denot). s.chain) (sym c.self.view_is)) refl due (ap (λ (s : State g.row.S.Denot g.row.C.Denot). s.owed) c.self.view_is),
    )

pub returns-in-Ok-Some-clause-settled : goal.returns-in-Ok-Some-clause-settled
returns-in-Ok-Some-clause-settled g c = rw (← c.self.view_is) (λ tells.
    let S = g.S.Shelf in
    let old = c.self.inside.shelf in
    let mid = c.make_ready.new.shelf in
    let ready = c.in-Ok-Some.ensures in
    let looks = ready.looks tells in
    settled_then S.sees old mid c.write_plan.new.shelf ready.cause.later c.write_plan.ensures.cause.later (looked_settled S.sees old mid looks.same looks.crash) (c.write_plan.ensures.settled tells))

pub returns-in-Ok-None-clause-settled : goal.returns-in-Ok-None-clause-settled
returns-in-Ok-None-clause-settled g c = rw (← c.self.view_is) (λ tells.
    let looks = c.in-Ok-None.ensures.looks tells in
    looked_settled g.S.Shelf.sees c.self.inside.shelf c.make_ready.new.shelf looks.same looks.crash)

pub returns-in-Err-clause-settled : goal.returns-in-Err-clause-settled
returns-in-Err-clause-settled g c = rw (← c.self.view_is) (λ tells.
    let looks = c.in-Err.ensures.looks tells in
    looked_settled g.S.Shelf.sees c.self.inside.shelf c.make_ready.new.shelf looks.same looks.crash)
