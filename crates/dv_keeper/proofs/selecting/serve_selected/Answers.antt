use Rattle.std.proofs.Common.{◌∙◌, ℕ, List, [], Err, ap, subst, sym}
use Rattle.std.proofs.lemmas.Result.{err_from_is_err_and, on_err_weaker}
use Rattle.dv_front.specs.declared.notes.Note.{Note}
use Rattle.dv_front.proofs.Prefixes.{prefix_trans}
use Rattle.dv_member.specs.Members.{notes_of}
use Rattle.dv_plans.specs.declared.fault.StoreFault.TheVariants as fault
use Rattle.dv_shared.specs.Kept.{Locked, notes_in}
use Rattle.dv_keeper.specs.Selecting.{HasSelected}
use Rattle.dv_keeper.proofs.Selected.{both_turns, leaves_selected, left_early, shown_selected, shown_spent}
use Rattle.dv_keeper.proofs.Telling.{taken_more}
use Rattle.dv_keeper.proofs.selecting.serve_selected.Goals as goal

pub serve_mail-requires-clause-fresh : goal.serve_mail-requires-clause-fresh
serve_mail-requires-clause-fresh g c =
    let k = g.K.Keeping in
    let turn = c.in_ok-select_newest.ensures.turn in
    shown_spent k.start k.count (notes_in c.args.shared.now.kept) turn.replies c.args.s.now c.select_newest.new.s turn.holds ∙ c.requires.fresh

pub serve_mail-requires-clause-allowed : goal.serve_mail-requires-clause-allowed
serve_mail-requires-clause-allowed g c =
    let k = g.K.Keeping in
    let turn = c.in_ok-select_newest.ensures.turn in
    c.requires.allowed c.select_newest.new.s.follower.state (shown_selected k.start k.count (notes_in c.args.shared.now.kept) turn.replies c.args.s.now c.select_newest.new.s turn.holds)

pub returns-clause-begins : goal.returns-clause-begins
returns-clause-begins g c = prefix_trans (notes_of c.args.s.now) (notes_of c.select_newest.new.s) (notes_of c.serve_mail.new.s) c.select_newest.ensures.begins c.serve_mail.ensures.begins

-- what was kept is what the session was shown
pub returns-clause-read : goal.returns-clause-read
returns-clause-read g c =
    let k = g.K.Keeping in
    let turn = c.in_ok-select_newest.ensures.turn in
    let read = c.serve_mail.ensures.read in
    let same = read.5 ∙ ap (λ (l : Locked g.row.S.Denot g.row.C.Denot). notes_in l.kept) c.select_newest.ensures.same in
    let selected = subst (λ (ns : List Note). HasSelected k.start k.count ns turn.replies c.args.s.now c.select_newest.new.s) (sym same) turn.holds in (
      read.0,
      read.1,
      read.2,
      leaves_selected k.start k.count (notes_in read.0) turn.replies c.args.s.now c.select_newest.new.s selected c.serve_mail.new.s read.1 c.serve_mail.result read.3,
      read.4,
    )

pub returns-clause-turn : goal.returns-clause-turn
returns-clause-turn g c h =
    let k = g.K.Keeping in
    let turn = c.in_ok-select_newest.ensures.turn in
    let read = c.serve_mail.ensures.read in
    let same = read.5 ∙ ap (λ (l : Locked g.row.S.Denot g.row.C.Denot). notes_in l.kept) c.select_newest.ensures.same in
    let selected = subst (λ (ns : List Note). HasSelected k.start k.count ns turn.replies c.args.s.now c.select_newest.new.s) (sym same) turn.holds in
    both_turns k.start k.count (notes_in read.0) turn.replies c.args.s.now c.select_newest.new.s selected c.serve_mail.new.s read.1 g.R.Replies.with g.met.R.Replies.more c.args.replies.now c.select_newest.new.replies c.serve_mail.new.replies turn.taken c.args.c.now
    c.serve_mail.result read.3 (c.serve_mail.ensures.turn h)

pub returns-clause-replies : goal.returns-clause-replies
returns-clause-replies g c h =
    let with = g.R.Replies.with in
    let turn = c.in_ok-select_newest.ensures.turn in
    on_err_weaker c.serve_mail.result
    (λ more. taken_more with g.met.R.Replies.more c.args.replies.now c.select_newest.new.replies c.serve_mail.new.replies (record { told = turn.replies; is = turn.taken }) more)
    (c.serve_mail.ensures.replies h)

-- ---- memory ran out first

pub returns-in_err-select_newest-clause-read : goal.returns-in_err-select_newest-clause-read
returns-in_err-select_newest-clause-read g c =
    let p = err_from_is_err_and c.from_residual.result c.from_residual.ensures.1 in
    let k = g.K.Keeping in
    let kept = c.args.shared.now.kept in (
      kept,
      Err fault.NoMemory,
      c.knows.ensures.holds,
      rw (p.1, p.2) (left_early {A = List ℕ} k.start k.count (notes_in kept) (Err fault.NoMemory) c.args.s.now c.select_newest.new.s c.in_err-select_newest.field-0.0 c.in_err-select_newest.ensures.err),
      c.knows.ensures.settled,
    )

pub returns-in_err-select_newest-clause-turn : goal.returns-in_err-select_newest-clause-turn
returns-in_err-select_newest-clause-turn g c h =
    let p = err_from_is_err_and c.from_residual.result c.from_residual.ensures.1 in rw p.1 (record { replies = []; taken = tt; holds = tt })
