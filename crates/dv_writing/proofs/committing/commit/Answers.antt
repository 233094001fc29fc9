use Rattle.std.proofs.Common.{◌≡◌, ◌+◌, ◌-◌, length, refl, sym, ◌∙◌, arith}
use Rattle.std.proofs.lemmas.Result.{err_from_is_err_and}
use Rattle.dv_writing.proofs.Shelves.{commit_done, commit_failed, commit_front, pending_one}
use Rattle.dv_writing.proofs.committing.commit.Goals as goal

pub returns-in_err-mark-clause-opens : goal.returns-in_err-mark-clause-opens
returns-in_err-mark-clause-opens g c = λ tells after pending rest.
    let S = g.S.Shelf in
    let p = err_from_is_err_and c.from_residual.result c.from_residual.ensures.1 in
    let old = c.args.shelf.now in
    rw p.1
    (commit_failed S.sees c.args.text.now after c.args.chain.now pending old c.commit.new.shelf rest _ refl refl (g.met.S.Shelf.leaves_files old tells)
    p.0 c.in_err-mark.field-0.0 refl c.in_err-mark.ensures.value (c.in_err-mark.ensures.bytes tells) (c.in_err-mark.ensures.crash tells))

pub returns-clause-value : goal.returns-clause-value
returns-clause-value g c =
    let ready = c.requires.ready in
    let value = c.in_ok-mark.ensures.value in
    let end = value.end in
    let behind : c.in_ok-mark.mark.offset ≡ c.args.chain.now.log.end + length c.args.text.now - 4 = omega (arith, value.mark.1, value.end) in
    record {
      mailbox = λ after pending. c.complete-touched.ensures.is ready.after ready.makes ∙ pending_one c.args.text.now ready.after after c.args.chain.now ready.pending pending;
      mark = ((λ i. record { file_seq = value.mark.0 i; offset = behind i }), (λ i. record { file_seq = (value.mark.0 ∙ sym value.file_seq) i; offset = value.mark.1 i }));
      touched = c.complete-touched.ensures.touched;
      debt = value.debt;
      failed = tt;
      file = (value.file_seq, refl, refl);
      bounds = λ bounds. record { end = omega (arith, end, ready.pending.room); count = (value.counted bounds.count ready.pending.records ready.pending.spelled).1; named = bounds.named };
    }

pub returns-clause-opens : goal.returns-clause-opens
returns-clause-opens g c = λ tells after pending rest.
    let S = g.S.Shelf in
    let ready = c.requires.ready in
    let old = c.args.shelf.now in
    let mailbox = c.complete-touched.ensures.is ready.after ready.makes ∙ pending_one c.args.text.now ready.after after c.args.chain.now ready.pending pending in
    commit_done S.sees c.args.text.now after c.args.chain.now pending old c.commit.new.shelf rest _ refl refl (g.met.S.Shelf.leaves_files old tells)
    _ c.in_ok-mark.mark mailbox c.in_ok-mark.ensures.value (c.in_ok-mark.ensures.bytes tells) (c.in_ok-mark.ensures.crash tells)

pub returns-in_err-mark-clause-front : goal.returns-in_err-mark-clause-front
returns-in_err-mark-clause-front g c = λ tells long.
    let S = g.S.Shelf in
    commit_front c.args.text.now c.args.chain.now.log _ _ (S.sees.files c.args.shelf.now) (S.sees.files c.commit.new.shelf) long (c.in_err-mark.ensures.bytes tells)

pub returns-clause-front : goal.returns-clause-front
returns-clause-front g c = λ tells long.
    let S = g.S.Shelf in
    commit_front c.args.text.now c.args.chain.now.log _ _ (S.sees.files c.args.shelf.now) (S.sees.files c.commit.new.shelf) long (c.in_ok-mark.ensures.bytes tells)
