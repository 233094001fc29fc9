use Rattle.std.proofs.Common.{◌≡◌, ◌∙◌, ℕ, List, [], Ok, Err, ap, length, subst, sym}
use Rattle.std.proofs.lemmas.Result.{err_from_is_err_and, on_ok_weaker}
use mathlib.Core.List.{IsPrefix}
use Rattle.dv_apply.specs.States.{Held}
use Rattle.dv_front.specs.declared.notes.Note.{Note}
use Rattle.dv_front.proofs.Prefixes.{prefix_self}
use Rattle.dv_member.specs.Calls.{IsAsBefore}
use Rattle.dv_member.specs.Members.{Member, notes_of}
use Rattle.dv_model.specs.Journals.{mark_of}
use Rattle.dv_model.specs.Sessions.{Answer, answer, data_of}
use Rattle.dv_model.specs.Views.{View}
use Rattle.dv_answer.specs.Answers.{IsAnswered}
use Rattle.dv_responses.specs.Damaged.{damaged_uids}
use Rattle.dv_notes.specs.Logs.{log_of}
use Rattle.dv_responses.specs.Met.{met_of}
use Rattle.dv_serving.specs.Lines.{IsFaultLine, fault_lines}
use Rattle.dv_shared.specs.Kept.{notes_in}
use Rattle.dv_keeper.specs.Turns.{HasAnswered, HasTold}
use Rattle.dv_keeper.proofs.Telling.{hold_begins, leaves_unread, unread_begins, err_taken, mail_answered, notes_stay, read_found, taken_more, taken_same, seen_end, told_end, unread_answered, unread_before}
use Rattle.dv_keeper.proofs.Turning.{takes_by}
use Rattle.dv_keeper.proofs.mailing.serve_mail.Goals as goal

-- ---- it was read

pub returns-in_ok-finish-in-Ok-clause-begins : goal.returns-in_ok-finish-in-Ok-clause-begins
returns-in_ok-finish-in-Ok-clause-begins g c =
    hold_begins c.finish.new.s c.end_hold.new.s c.end_hold.ensures.counted (notes_of c.args.s.now)
    (subst (λ (x : Member). IsPrefix (notes_of x) (notes_of c.finish.new.s)) c.in-Ok.ensures.session c.finish.ensures.begins)

pub returns-in_ok-finish-in-Ok-clause-read : goal.returns-in_ok-finish-in-Ok-clause-read
returns-in_ok-finish-in-Ok-clause-read g c =
    let k = g.K.Keeping in
    let kept = c.read_for.new.self.kept in
    let turned = c.in_ok-finish-in-Ok.ensures.ok in
    let end = c.end_hold.new.s in (
      kept,
      Ok c.in-Ok.damaged,
      c.knows-in-Ok.ensures.holds,
      (
        seen_end kept.feed c.read_for.new.s c.finish.new.s end c.end_hold.ensures.counted k.start k.count turned.all c.end_hold.ensures.session,
        subst (λ (x : Member). HasTold 0 x end) c.in-Ok.ensures.session (told_end kept.feed c.read_for.new.s c.finish.new.s end c.end_hold.ensures.counted turned),
      ),
      c.knows-in-Ok.ensures.settled,
      notes_stay c.args.shared.now.kept kept c.in-Ok.ensures.stays,
    )

pub returns-in_ok-finish-in-Ok-clause-turn : goal.returns-in_ok-finish-in-Ok-clause-turn
returns-in_ok-finish-in-Ok-clause-turn g c h =
    let k = g.K.Keeping in
    let with = g.R.Replies.with in
    let kept = c.read_for.new.self.kept in
    let old = c.args.s.now in
    let same = c.in-Ok.ensures.session in
    let turned = c.in_ok-finish-in-Ok.ensures.ok in
    let end = c.end_hold.new.s in
    let log = log_of k.start (notes_in kept) in
    let m = kept.store.chain.live.mailbox in
    let sees = seen_end kept.feed c.read_for.new.s c.finish.new.s end c.end_hold.ensures.counted k.start k.count turned.all c.end_hold.ensures.session in
    let told = subst (λ (x : Member). HasTold 0 x end) same (told_end kept.feed c.read_for.new.s c.finish.new.s end c.end_hold.ensures.counted turned) in
    let begins = subst (λ (ns : List Note). IsPrefix (notes_of old) ns) sees.are (hold_begins c.finish.new.s end c.end_hold.ensures.counted (notes_of old)
    (subst (λ (x : Member). IsPrefix (notes_of x) (notes_of c.finish.new.s)) same c.finish.ensures.begins)) in
    let read = read_found k.start with c.args.replies.now c.read_for.new.lines c.args.c.now old.follower.state.view c.args.shared.now.kept kept c.in-Ok.ensures.stays c.in-Ok.damaged (c.in-Ok.ensures.found h) in
    let met = c.in_ok-met-in-Ok.ensures ∙ ap (λ (x : View). met_of c.args.c.now x c.live.result.now.mailbox) c.view.ensures ∙ ap (λ (x : Held). met_of c.args.c.now c.read_for.new.s.follower.state.view x.mailbox) c.live.ensures in
    let damaged = c.as_slice.ensures ∙ read.1 in
    let said = c.in_ok-finish-in-Ok.ensures.answer log.mail m c.args.replies.now met
    (subst (λ (x : Member). c.as_slice.result.now ≡ damaged_uids log.mail c.args.c.now x.follower.state.view m) (sym same) damaged)
    (subst (λ (x : Member). c.read_for.new.lines ≡ with c.args.replies.now (data_of log.mail c.args.c.now x.follower.state.view m)) (sym same) read.0) in
    let rules : Member → Answer = λ x. answer log.mail x.follower.state c.args.c.now m (length (notes_in kept)) m (mark_of log (length (notes_in kept))) in
    let answered = subst (λ (x : Member). IsAnswered with c.args.replies.now c.finish.new.replies end.follower.state (rules x)) same (said.0, ap (λ (x : Member). x.follower.state) c.end_hold.ensures.counted ∙ said.1) in
    let both = mail_answered k.start k.count c.args.c.now old end (notes_in kept) kept.store c.knows-in-Ok.ensures.holds.stands c.number.ensures.session c.requires.fresh c.requires.reads c.requires.allowed with c.args.replies.now c.finish.new.replies begins answered (sees, told) in
    record { replies = (rules old).replies; taken = both.0; holds = both.1 }

-- memory ran out

pub returns-in_err-met-in-Ok-clause-begins : goal.returns-in_err-met-in-Ok-clause-begins
returns-in_err-met-in-Ok-clause-begins g c =
    subst (λ (x : Member). IsPrefix (notes_of c.args.s.now) (notes_of x)) (sym c.in-Ok.ensures.session) (prefix_self (notes_of c.args.s.now))

pub returns-in_err-finish-in-Ok-clause-begins : goal.returns-in_err-finish-in-Ok-clause-begins
returns-in_err-finish-in-Ok-clause-begins g c =
    subst (λ (x : Member). IsPrefix (notes_of x) (notes_of c.finish.new.s)) c.in-Ok.ensures.session c.finish.ensures.begins

pub returns-in_err-met-in-Ok-clause-read : goal.returns-in_err-met-in-Ok-clause-read
returns-in_err-met-in-Ok-clause-read g c =
    let p = err_from_is_err_and c.from_residual.result c.from_residual.ensures.1 in
    (c.read_for.new.self.kept, Ok c.in-Ok.damaged, c.knows-in-Ok.ensures.holds, rw p.1 (unread_before (Ok c.in-Ok.damaged) c.args.s.now c.read_for.new.s c.in-Ok.ensures.session), c.knows-in-Ok.ensures.settled, notes_stay c.args.shared.now.kept c.read_for.new.self.kept c.in-Ok.ensures.stays)

pub returns-in_err-met-in-Ok-clause-turn : goal.returns-in_err-met-in-Ok-clause-turn
returns-in_err-met-in-Ok-clause-turn g c h =
    let p = err_from_is_err_and c.from_residual.result c.from_residual.ensures.1 in rw p.1 (record { replies = []; taken = tt; holds = tt })

pub returns-in_err-met-in-Ok-clause-replies : goal.returns-in_err-met-in-Ok-clause-replies
returns-in_err-met-in-Ok-clause-replies g c h =
    let p = err_from_is_err_and c.from_residual.result c.from_residual.ensures.1 in
    let log = log_of g.K.Keeping.start (notes_in c.args.shared.now.kept) in
    rw p.1 (record { told = data_of log.mail c.args.c.now c.args.s.now.follower.state.view c.args.shared.now.kept.store.chain.live.mailbox; is = (c.in-Ok.ensures.found h).0 })

pub returns-in_err-finish-in-Ok-clause-read : goal.returns-in_err-finish-in-Ok-clause-read
returns-in_err-finish-in-Ok-clause-read g c =
    let p = err_from_is_err_and c.from_residual-in_err-finish-in-Ok.result c.from_residual-in_err-finish-in-Ok.ensures.1 in
    let before = subst (λ (x : Member). IsAsBefore x c.finish.new.s) c.in-Ok.ensures.session c.in_err-finish-in-Ok.ensures.err in
    (c.read_for.new.self.kept, Ok c.in-Ok.damaged, c.knows-in-Ok.ensures.holds, rw p.1 before, c.knows-in-Ok.ensures.settled, notes_stay c.args.shared.now.kept c.read_for.new.self.kept c.in-Ok.ensures.stays)

pub returns-in_err-finish-in-Ok-clause-turn : goal.returns-in_err-finish-in-Ok-clause-turn
returns-in_err-finish-in-Ok-clause-turn g c h =
    let p = err_from_is_err_and c.from_residual-in_err-finish-in-Ok.result c.from_residual-in_err-finish-in-Ok.ensures.1 in rw p.1 (record { replies = []; taken = tt; holds = tt })

pub returns-in_err-finish-in-Ok-clause-replies : goal.returns-in_err-finish-in-Ok-clause-replies
returns-in_err-finish-in-Ok-clause-replies g c h =
    let p = err_from_is_err_and c.from_residual-in_err-finish-in-Ok.result c.from_residual-in_err-finish-in-Ok.ensures.1 in
    let log = log_of g.K.Keeping.start (notes_in c.args.shared.now.kept) in
    rw p.1 (taken_more g.R.Replies.with g.met.R.Replies.more c.args.replies.now c.read_for.new.lines c.finish.new.replies
    (record { told = data_of log.mail c.args.c.now c.args.s.now.follower.state.view c.args.shared.now.kept.store.chain.live.mailbox; is = (c.in-Ok.ensures.found h).0 }) c.in_err-finish-in-Ok.ensures.replies)

-- ---- the disk failed it

pub returns-in-Err-clause-replies : goal.returns-in-Err-clause-replies
returns-in-Err-clause-replies g c h =
    let with = g.R.Replies.with in
    let taken = c.in-Err.ensures.lines h in
    let cut : c.cut.new.self ≡ c.args.replies.now = c.cut.ensures c.args.replies.now taken.told taken.is c.length-taken.ensures in
    err_taken c.take_line.result (λ e. taken_same with g.met.R.Replies.none c.args.replies.now c.take_line.new.replies (e ∙ cut)) c.take_line.ensures.err

pub returns-in-Err-clause-begins : goal.returns-in-Err-clause-begins
returns-in-Err-clause-begins g c = unread_begins (List ℕ) c.args.s.now c.read_for.new.s c.in-Err.fault c.in-Err.ensures.session

pub returns-in-Err-clause-read : goal.returns-in-Err-clause-read
returns-in-Err-clause-read g c = (
  c.read_for.new.self.kept,
  Err c.in-Err.fault,
  c.knows-in-Err.ensures.holds,
  leaves_unread (List ℕ) (notes_in c.read_for.new.self.kept) c.in-Err.fault c.args.s.now c.read_for.new.s c.take_line.result c.in-Err.ensures.session c.in-Err.ensures.err
      (on_ok_weaker c.take_line.result (λ (x : (c.take_line.new.replies ≡ g.R.Replies.with c.cut.new.self (fault_lines c.in-Err.fault)) × IsFaultLine c.in-Err.fault (fault_lines c.in-Err.fault)). x.1) c.take_line.ensures.said),
  c.knows-in-Err.ensures.settled,
  notes_stay c.args.shared.now.kept c.read_for.new.self.kept c.in-Err.ensures.stays,
)

pub returns-in-Err-clause-turn : goal.returns-in-Err-clause-turn
returns-in-Err-clause-turn g c h =
    let k = g.K.Keeping in
    let with = g.R.Replies.with in
    let fail = c.in-Err.fault in
    let old = c.args.s.now in
    let before = c.args.shared.now in
    let after = c.read_for.new.self in
    let taken = c.in-Err.ensures.lines h in
    let cut : c.cut.new.self ≡ c.args.replies.now = c.cut.ensures c.args.replies.now taken.told taken.is c.length-taken.ensures in
    takes_by with c.args.replies.now c.take_line.new.replies (fault_lines fail) (λ lines. HasAnswered k.start k.count c.args.c.now lines old c.read_for.new.s) c.take_line.result
    (on_ok_weaker c.take_line.result
    (λ (x : (c.take_line.new.replies ≡ with c.cut.new.self (fault_lines fail)) × IsFaultLine fail (fault_lines fail)).
    unread_answered k.start k.count c.args.c.now old c.read_for.new.s fail with c.args.replies.now c.take_line.new.replies c.number.ensures.session c.requires.fresh c.requires.reads c.requires.allowed c.in-Err.ensures.session c.in-Err.ensures.err before.refused (g.S.Shelf.sees.fault_count before.kept.store.shelf)
    (g.S.Shelf.sees.fault_count after.kept.store.shelf) c.knows.ensures.few c.in-Err.ensures.cause (x.0 ∙ ap (λ y. with y (fault_lines fail)) cut, x.1)) c.take_line.ensures.said)
