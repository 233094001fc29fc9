use Rattle.std.proofs.Common.{◌∙◌, ℕ, List, [], Ok, Err, ap, arith, length, refl, subst, sym}
use Rattle.std.specs.Prelude.{IfErr}
use Rattle.std.proofs.lemmas.Result.{err_from_is_err_and}
use mathlib.Core.List.{IsPrefix}
use Rattle.dv_apply.specs.States.{Held}
use Rattle.dv_front.specs.declared.notes.Note.{Note}
use Rattle.dv_front.proofs.Prefixes.{prefix_self}
use Rattle.dv_member.specs.Members.{Member, notes_of}
use Rattle.dv_model.specs.Sessions.{group_of}
use Rattle.dv_model.specs.Views.{View}
use Rattle.dv_notes.specs.Logs.{log_of, note_of}
use Rattle.dv_plans.specs.declared.fault.StoreFault.TheVariants as fault
use Rattle.dv_responses.specs.Met.{met_of}
use Rattle.dv_serving.specs.Lines.{fault_lines}
use Rattle.dv_shared.specs.Kept.{Locked, notes_in}
use Rattle.dv_keeper.specs.Turns.{LeavesUntold}
use Rattle.dv_keeper.proofs.Committed.{commit_of, denied_answered, leaves_before, leaves_entry, leaves_met, leaves_written, no_commit, refused_begins, write_left, write_turn, written_begins}
use Rattle.dv_keeper.proofs.Telling.{taken_same}
use Rattle.dv_keeper.proofs.Turning.{tells_more}
use Rattle.dv_keeper.proofs.writing.serve_write.Goals as goal

-- ---- memory ran out first

pub returns-in_err-met-clause-begins : goal.returns-in_err-met-clause-begins
returns-in_err-met-clause-begins g c =
    subst (λ (ns : List Note). IsPrefix (notes_of c.args.s.now) ns) (sym c.face.ensures.as_before.notes) (prefix_self (notes_of c.args.s.now))

pub returns-in_err-met-clause-commit : goal.returns-in_err-met-clause-commit
returns-in_err-met-clause-commit g c =
    let k = g.K.Keeping in
    let kept = c.face.new.self.kept in
    let as_before = c.face.ensures.as_before in
    let p = err_from_is_err_and c.from_residual.result c.from_residual.ensures.1 in
    let begins = subst (λ (l : Locked g.row.S.Denot g.row.C.Denot). IsPrefix (notes_of c.face.new.s) (notes_in l.kept)) (sym c.face.ensures.same) c.face.ensures.begins in (
      record { before = kept; behind = kept; came = Err fault.NoMemory },
      (c.knows.ensures.holds, c.knows.ensures.holds),
      no_commit g.S.Shelf.sees g.C.Clock.sees k.start k.honest c.args.s.now c.face.new.s as_before c.args.c.now kept begins c.knows.ensures.owes,
      rw (p.1, p.2) (refl, as_before),
      rw p.1 tt,
    )

pub returns-in_err-met-clause-turn : goal.returns-in_err-met-clause-turn
returns-in_err-met-clause-turn g c h =
    let p = err_from_is_err_and c.from_residual.result c.from_residual.ensures.1 in rw p.1 (record { replies = []; taken = tt; holds = tt })

pub returns-in_err-met-clause-entry : goal.returns-in_err-met-clause-entry
returns-in_err-met-clause-entry g c h =
    let p = err_from_is_err_and c.from_residual.result c.from_residual.ensures.1 in rw (p.1, p.2) tt

pub returns-in_err-met-clause-replies : goal.returns-in_err-met-clause-replies
returns-in_err-met-clause-replies g c =
    let p = err_from_is_err_and c.from_residual.result c.from_residual.ensures.1 in rw p.1 (taken_same g.R.Replies.with g.met.R.Replies.none c.args.replies.now c.args.replies.now refl)

-- ---- it was taken

pub tell_written-requires-clause-pass : goal.tell_written-requires-clause-pass
tell_written-requires-clause-pass g c more =
    let e = c.in-Ok.ensures in
    e.value.pass (omega (arith, more, c.count-before.ensures, e.value.told.number))

pub returns-in-Ok-clause-begins : goal.returns-in-Ok-clause-begins
returns-in-Ok-clause-begins g c =
    let k0 = c.face.new.self.kept in
    let k1 = c.commit.new.self.kept in
    let f = c.face.new.s in
    let e = c.in-Ok.ensures in
    let m = k0.store.chain.live.mailbox in
    let noted = e.value.notes in
    let group = group_of c.args.c.now f.follower.state.view m noted.guid in
    let note : Note = note_of (log_of g.K.Keeping.start (notes_in k0)) f.number c.args.c.now noted.received group m in
    written_begins c.args.s.now f c.commit.new.s c.tell_written.new.s c.face.ensures.as_before (notes_in k0) (notes_in k1) note group.records noted.is c.in-Ok.written e.value.told.number e.session
    (notes_of c.tell_written.new.s) c.tell_written.ensures.begins

pub returns-in-Ok-clause-commit : goal.returns-in-Ok-clause-commit
returns-in-Ok-clause-commit g c =
    let k = g.K.Keeping in
    let k0 = c.face.new.self.kept in
    let k1 = c.commit.new.self.kept in
    let old = c.args.s.now in
    let f = c.face.new.s in
    let w = c.commit.new.s in
    let new = c.tell_written.new.s in
    let v = c.in-Ok.written in
    let e = c.in-Ok.ensures in
    let as_before = c.face.ensures.as_before in
    let m = k0.store.chain.live.mailbox in
    let noted = e.value.notes in
    let group = group_of c.args.c.now f.follower.state.view m noted.guid in
    let note : Note = note_of (log_of k.start (notes_in k0)) f.number c.args.c.now noted.received group m in
    let begins = subst (λ (l : Locked g.row.S.Denot g.row.C.Denot). IsPrefix (notes_of f) (notes_in l.kept)) (sym c.face.ensures.same) c.face.ensures.begins in
    let untold = subst (λ (n : ℕ). IfErr c.tell_written.result (LeavesUntold n v k1.feed w new)) c.count-before.ensures c.tell_written.ensures.err in (
      record { before = k0; behind = k1; came = Ok v },
      (c.knows.ensures.holds, c.knows-in-Ok.ensures.holds),
      commit_of g.S.Shelf.sees g.C.Clock.sees k.start k.honest old f as_before c.args.c.now k0 begins k1 (Ok v) e.value e.outcome c.knows.ensures.owes e.owes e.cause e.settled,
      leaves_written old f w new as_before (notes_in k0) (notes_in k1) note group.records noted.is v e.value.told.number e.session k1.feed refl c.tell_written.result c.tell_written.ensures.ok untold,
      tt,
    )

pub returns-in-Ok-clause-turn : goal.returns-in-Ok-clause-turn
returns-in-Ok-clause-turn g c h =
    let k = g.K.Keeping in
    let k0 = c.face.new.self.kept in
    let k1 = c.commit.new.self.kept in
    let old = c.args.s.now in
    let f = c.face.new.s in
    let w = c.commit.new.s in
    let new = c.tell_written.new.s in
    let v = c.in-Ok.written in
    let e = c.in-Ok.ensures in
    let as_before = c.face.ensures.as_before in
    let m = k0.store.chain.live.mailbox in
    let noted = e.value.notes in
    let group = group_of c.args.c.now f.follower.state.view m noted.guid in
    let note : Note = note_of (log_of k.start (notes_in k0)) f.number c.args.c.now noted.received group m in
    let begins = subst (λ (l : Locked g.row.S.Denot g.row.C.Denot). IsPrefix (notes_of f) (notes_in l.kept)) (sym c.face.ensures.same) c.face.ensures.begins in
    let commit = commit_of g.S.Shelf.sees g.C.Clock.sees k.start k.honest old f as_before c.args.c.now k0 begins k1 (Ok v) e.value e.outcome c.knows.ensures.owes e.owes e.cause e.settled in
    let met = c.in_ok-met.ensures ∙ ap (λ (x : View). met_of c.args.c.now x c.live.result.now.mailbox) c.view.ensures ∙ ap (λ (x : Held). met_of c.args.c.now f.follower.state.view x.mailbox) c.live.ensures in
    write_turn old f w new as_before (notes_in k0) (notes_in k1) note group.records noted.is v e.value.told.number e.session k.start k.count c.args.c.now k0.store k1.store c.knows.ensures.holds.stands c.knows-in-Ok.ensures.holds.stands
    c.number.ensures.session c.requires.fresh commit.begins (commit.outcome h) g.R.Replies.with c.args.replies.now c.tell_written.new.replies c.tell_written.result
    (c.tell_written.ensures.answer (log_of k.start (notes_in k1)).mail m (met ∙ ap (λ (x : Member). met_of c.args.c.now x.follower.state.view m) (sym e.session))) c.tell_written.ensures.ok

pub returns-in-Ok-clause-entry : goal.returns-in-Ok-clause-entry
returns-in-Ok-clause-entry g c h =
    let k = g.K.Keeping in
    let k0 = c.face.new.self.kept in
    let k1 = c.commit.new.self.kept in
    let old = c.args.s.now in
    let f = c.face.new.s in
    let w = c.commit.new.s in
    let new = c.tell_written.new.s in
    let v = c.in-Ok.written in
    let e = c.in-Ok.ensures in
    let as_before = c.face.ensures.as_before in
    let m = k0.store.chain.live.mailbox in
    let noted = e.value.notes in
    let group = group_of c.args.c.now f.follower.state.view m noted.guid in
    let note : Note = note_of (log_of k.start (notes_in k0)) f.number c.args.c.now noted.received group m in
    let begins = subst (λ (l : Locked g.row.S.Denot g.row.C.Denot). IsPrefix (notes_of f) (notes_in l.kept)) (sym c.face.ensures.same) c.face.ensures.begins in
    let commit = commit_of g.S.Shelf.sees g.C.Clock.sees k.start k.honest old f as_before c.args.c.now k0 begins k1 (Ok v) e.value e.outcome c.knows.ensures.owes e.owes e.cause e.settled in
    let untold = subst (λ (n : ℕ). IfErr c.tell_written.result (LeavesUntold n v k1.feed w new)) c.count-before.ensures c.tell_written.ensures.err in
    leaves_entry old f w new as_before (notes_in k0) (notes_in k1) note group.records noted.is v e.value.told.number e.session k1.feed refl k.start c.args.c.now c.tell_written.result untold
    (write_left old f w new as_before (notes_in k0) (notes_in k1) note group.records noted.is v e.value.told.number e.session k.start k.count c.args.c.now k0.store k1.store c.knows.ensures.holds.stands c.knows-in-Ok.ensures.holds.stands
    c.number.ensures.session c.requires.fresh commit.begins (commit.outcome h) c.requires.write)

-- ---- it was refused

pub returns-in_ok-tell_fault-in-Err-clause-begins : goal.returns-in_ok-tell_fault-in-Err-clause-begins
returns-in_ok-tell_fault-in-Err-clause-begins g c =
    refused_begins c.args.s.now c.face.new.s c.commit.new.s c.tell_fault.new.s c.face.ensures.as_before (length (notes_in c.face.new.self.kept)) c.in-Err.fault c.in-Err.ensures.session (notes_of c.tell_fault.new.s) c.tell_fault.ensures.begins

pub returns-in_ok-tell_fault-in-Err-clause-commit : goal.returns-in_ok-tell_fault-in-Err-clause-commit
returns-in_ok-tell_fault-in-Err-clause-commit g c =
    let k = g.K.Keeping in
    let k0 = c.face.new.self.kept in
    let k1 = c.commit.new.self.kept in
    let old = c.args.s.now in
    let f = c.face.new.s in
    let w = c.commit.new.s in
    let new = c.tell_fault.new.s in
    let fail = c.in-Err.fault in
    let e = c.in-Err.ensures in
    let as_before = c.face.ensures.as_before in
    let told = c.in_ok-tell_fault-in-Err.ensures in
    let begins = subst (λ (l : Locked g.row.S.Denot g.row.C.Denot). IsPrefix (notes_of f) (notes_in l.kept)) (sym c.face.ensures.same) c.face.ensures.begins in (
      record { before = k0; behind = k1; came = Err fail },
      (c.knows.ensures.holds, c.knows-in-Err.ensures.holds),
      commit_of g.S.Shelf.sees g.C.Clock.sees k.start k.honest old f as_before c.args.c.now k0 begins k1 (Err fail) e.value e.outcome c.knows.ensures.owes e.owes e.cause e.settled,
      (told.ok.0, leaves_met old f w new as_before (length (notes_in k0)) fail e.session told.ok.1),
      told.said,
    )

pub returns-in_ok-tell_fault-in-Err-clause-turn : goal.returns-in_ok-tell_fault-in-Err-clause-turn
returns-in_ok-tell_fault-in-Err-clause-turn g c h =
    let k = g.K.Keeping in
    let k0 = c.face.new.self.kept in
    let k1 = c.commit.new.self.kept in
    let old = c.args.s.now in
    let f = c.face.new.s in
    let fail = c.in-Err.fault in
    let e = c.in-Err.ensures in
    let as_before = c.face.ensures.as_before in
    let told = c.in_ok-tell_fault-in-Err.ensures in
    let begins = subst (λ (l : Locked g.row.S.Denot g.row.C.Denot). IsPrefix (notes_of f) (notes_in l.kept)) (sym c.face.ensures.same) c.face.ensures.begins in
    let commit = commit_of g.S.Shelf.sees g.C.Clock.sees k.start k.honest old f as_before c.args.c.now k0 begins k1 (Err fail) e.value e.outcome c.knows.ensures.owes e.owes e.cause e.settled in
    record {
      replies = fault_lines fail;
      taken = told.said.0;
      holds = denied_answered old f c.commit.new.s c.tell_fault.new.s as_before (length (notes_in k0)) fail e.session k.start k.count c.args.c.now (notes_in k0) (notes_in k1) k0.store c.knows.ensures.holds.stands c.number.ensures.session
          c.requires.fresh commit.begins c.requires.write e.value.notes (commit.outcome h) (tells_more c.face.new.self.refused k.count (g.S.Shelf.sees.fault_count k0.store.shelf) (g.S.Shelf.sees.fault_count k1.store.shelf) fail c.knows.ensures.few e.cause)
          (fault_lines fail) told.ok.0 told.ok.1 told.said.1;
    }

-- and memory ran out behind that

pub returns-in_err-tell_fault-in-Err-clause-begins : goal.returns-in_err-tell_fault-in-Err-clause-begins
returns-in_err-tell_fault-in-Err-clause-begins g c =
    refused_begins c.args.s.now c.face.new.s c.commit.new.s c.tell_fault.new.s c.face.ensures.as_before (length (notes_in c.face.new.self.kept)) c.in-Err.fault c.in-Err.ensures.session (notes_of c.tell_fault.new.s) c.tell_fault.ensures.begins

pub returns-in_err-tell_fault-in-Err-clause-commit : goal.returns-in_err-tell_fault-in-Err-clause-commit
returns-in_err-tell_fault-in-Err-clause-commit g c =
    let k = g.K.Keeping in
    let k0 = c.face.new.self.kept in
    let k1 = c.commit.new.self.kept in
    let old = c.args.s.now in
    let f = c.face.new.s in
    let fail = c.in-Err.fault in
    let e = c.in-Err.ensures in
    let as_before = c.face.ensures.as_before in
    let p = err_from_is_err_and c.from_residual-in_err-tell_fault-in-Err.result c.from_residual-in_err-tell_fault-in-Err.ensures.1 in
    let begins = subst (λ (l : Locked g.row.S.Denot g.row.C.Denot). IsPrefix (notes_of f) (notes_in l.kept)) (sym c.face.ensures.same) c.face.ensures.begins in
    let untold = leaves_before old f c.commit.new.s c.tell_fault.new.s as_before (length (notes_in k0)) fail e.session c.in_err-tell_fault-in-Err.ensures.err in (
      record { before = k0; behind = k1; came = Err fail },
      (c.knows.ensures.holds, c.knows-in-Err.ensures.holds),
      commit_of g.S.Shelf.sees g.C.Clock.sees k.start k.honest old f as_before c.args.c.now k0 begins k1 (Err fail) e.value e.outcome c.knows.ensures.owes e.owes e.cause e.settled,
      rw (p.1, p.2) (e.value.notes, untold),
      rw p.1 tt,
    )

pub returns-in_err-tell_fault-in-Err-clause-turn : goal.returns-in_err-tell_fault-in-Err-clause-turn
returns-in_err-tell_fault-in-Err-clause-turn g c h =
    let p = err_from_is_err_and c.from_residual-in_err-tell_fault-in-Err.result c.from_residual-in_err-tell_fault-in-Err.ensures.1 in rw p.1 (record { replies = []; taken = tt; holds = tt })

pub returns-in_err-tell_fault-in-Err-clause-entry : goal.returns-in_err-tell_fault-in-Err-clause-entry
returns-in_err-tell_fault-in-Err-clause-entry g c h =
    let p = err_from_is_err_and c.from_residual-in_err-tell_fault-in-Err.result c.from_residual-in_err-tell_fault-in-Err.ensures.1 in rw (p.1, p.2) tt
