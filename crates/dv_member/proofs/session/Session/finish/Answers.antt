use Rattle.std.proofs.Common.{◌≡◌, ◌∙◌, ℕ, List, Result, Ok, Err, OnErr, false, ap, length, refl, subst, sym, take}
use mathlib.Core.List.{IsPrefix}
use Rattle.dv_model.specs.declared.types.Mailbox.{Mailbox}
use Rattle.dv_model.specs.declared.types.Mark.{Mark}
use Rattle.dv_model.specs.Mailboxes.{IsValid}
use Rattle.dv_model.specs.Sessions.{State, answer, data_of}
use Rattle.dv_responses.specs.Damaged.{damaged_uids}
use Rattle.dv_responses.specs.Met.{met_of}
use Rattle.dv_front.specs.declared.notes.Note.{Note}
use Rattle.dv_front.proofs.Prefixes.{prefix_trans}
use Rattle.dv_answer.specs.Answers.{IsAnswered}
use Rattle.dv_generations.specs.Feeds.{journal}
use Rattle.dv_member.specs.declared.mirror.Mirror.{Mirror}
use Rattle.dv_member.specs.Batches.{Leads}
use Rattle.dv_member.specs.Calls.{HasTurned, IsAsBefore}
use Rattle.dv_member.specs.Inside.{IsMember, all_of}
use Rattle.dv_member.specs.Members.{Member, notes_of}
use Rattle.dv_member.proofs.Calls.{before_begins, before_on, end_begins, end_mailbox, end_mark, end_member, end_notes, end_same, end_sees, end_told, member_of, turned_now}
use Rattle.dv_member.proofs.session.Session.finish.Goals as goal

on_err : {A E P : Type 0} (r : Result A E) → P → OnErr r P
on_err (Ok x) p = tt
on_err (Err e) p = p

pub returns-in_err-reached-clause-begins : goal.returns-in_err-reached-clause-begins
returns-in_err-reached-clause-begins g c =
    let s = c.self.inside in
    let r = c.reach.new.r in
    let m = c.reach.new.m in
    let e = c.reach.ensures in
    subst (λ (x : Member). IsPrefix (notes_of x) (take m.seen (all_of r.pass))) c.self.view_is
    (before_begins s.number s.caught_up s.knows_seal s.spent s.turns s.holds s.writes.amount s.refusals.amount s.reader r s.mirror m c.self.invariant.0.within e.pass.1 e.leaf.begins e.mirror e.mailbox)

pub returns-in_err-reached-clause-err : goal.returns-in_err-reached-clause-err
returns-in_err-reached-clause-err g c =
    let s = c.self.inside in
    let r = c.reach.new.r in
    let m = c.reach.new.m in
    let e = c.reach.ensures in
    on_err c.from_residual.result
    (subst (λ (x : Member). IsAsBefore x (member_of s.number r m s.caught_up s.knows_seal s.spent s.turns s.holds s.writes.amount s.refusals.amount)) c.self.view_is
    (before_on s.number s.caught_up s.knows_seal s.spent s.turns s.holds s.writes.amount s.refusals.amount s.reader r s.mirror m c.self.invariant.0.within e.pass.1 e.leaf.begins e.mirror e.mailbox))

pub finish_ready-requires-clause-leads : goal.finish_ready-requires-clause-leads
finish_ready-requires-clause-leads g c =
    let start = g.K.Keeping.start in
    let notes = journal c.args.feed.now in
    let reached = c.in_ok-reached.reached in
    let ends = c.in_ok-reached.ensures.reached.ends in
    let live = end_mailbox start notes c.args.live.now.mailbox c.reach.ensures.member.start_is.fresh c.requires.live in
    subst (λ (x : Mailbox). Leads c.reach.new.m x reached.ready) (end_same start notes c.reach.new.m reached.ready ends c.args.live.now.mailbox live) ends.leads

pub finish_ready-requires-clause-abreast : goal.finish_ready-requires-clause-abreast
finish_ready-requires-clause-abreast g c =
    let start = g.K.Keeping.start in
    let notes = journal c.args.feed.now in
    let reached = c.in_ok-reached.reached in
    let ends = c.in_ok-reached.ensures.reached.ends in
    let live = end_mailbox start notes c.args.live.now.mailbox c.reach.ensures.member.start_is.fresh c.requires.live in (
      (c.reach.ensures.member.follows refl).mirror.abreast,
      ends.valid.0,
      subst IsValid (end_same start notes c.reach.new.m reached.ready ends c.args.live.now.mailbox live) ends.valid.1,
    )

pub returns-in_err-finish_ready-clause-begins : goal.returns-in_err-finish_ready-clause-begins
returns-in_err-finish_ready-clause-begins g c =
    let s = c.self.inside in
    let r = c.reach.new.r in
    let e = c.reach.ensures in
    let back = c.in_err-finish_ready.ensures.err in
    subst (λ (x : Member). IsPrefix (notes_of x) (take c.finish_ready.new.m.seen (all_of r.pass))) c.self.view_is
    (subst (λ (m : Mirror). IsPrefix (take s.mirror.seen (all_of s.reader.pass)) (take m.seen (all_of r.pass))) (sym back)
    (before_begins s.number s.caught_up s.knows_seal s.spent s.turns s.holds s.writes.amount s.refusals.amount s.reader r s.mirror c.reach.new.m c.self.invariant.0.within e.pass.1 e.leaf.begins e.mirror e.mailbox))

pub returns-in_err-finish_ready-clause-err : goal.returns-in_err-finish_ready-clause-err
returns-in_err-finish_ready-clause-err g c =
    let s = c.self.inside in
    let r = c.reach.new.r in
    let e = c.reach.ensures in
    let back = c.in_err-finish_ready.ensures.err in
    on_err c.from_residual-in_err-finish_ready.result
    (subst (λ (x : Member). IsAsBefore x (member_of s.number r c.finish_ready.new.m s.caught_up s.knows_seal s.spent s.turns s.holds s.writes.amount s.refusals.amount)) c.self.view_is
    (subst (λ (m : Mirror). IsAsBefore (member_of s.number s.reader s.mirror s.caught_up s.knows_seal s.spent s.turns s.holds s.writes.amount s.refusals.amount)
    (member_of s.number r m s.caught_up s.knows_seal s.spent s.turns s.holds s.writes.amount s.refusals.amount)) (sym back)
    (before_on s.number s.caught_up s.knows_seal s.spent s.turns s.holds s.writes.amount s.refusals.amount s.reader r s.mirror c.reach.new.m c.self.invariant.0.within e.pass.1 e.leaf.begins e.mirror e.mailbox)))

pub invariant_of-self-2 : goal.invariant_of-self-2
invariant_of-self-2 g c =
    let s = c.self.inside in
    let start = g.K.Keeping.start in
    let notes = journal c.args.feed.now in
    let fresh = ap (λ (x : Member). x.spent) c.self.view_is ∙ c.requires.fresh in
    let at = IsMember g.K.Keeping.roll start g.K.Keeping.count in
    let reached = c.in_ok-reached.reached in
    let reaches = c.in_ok-reached.ensures.reached in
    let live = end_mailbox start notes c.args.live.now.mailbox c.reach.ensures.member.start_is.fresh c.requires.live in
    let mirror = end_told start notes c.reach.new.m c.finish_ready.new.m reached.ready reaches.ends c.args.live.now.mailbox live c.in_ok-finish_ready.ensures.ok in (
      subst (at c.arrive.new.r c.finish_ready.new.m) (sym fresh)
          (end_member c.args.feed.now c.reach.new.r c.reach.new.m reached c.reach.ensures.member reaches c.arrive.new.r c.finish_ready.new.m c.arrive.ensures mirror),
      c.self.invariant.1,
      c.self.invariant.2,
    )

pub returns-clause-answer : goal.returns-clause-answer
returns-clause-answer g c = λ mail met_mailbox first met damaged lines.
    let start = g.K.Keeping.start in
    let with = g.R.Replies.with in
    let notes = journal c.args.feed.now in
    let command = c.args.c.now in
    let live = c.args.live.now.mailbox in
    let ends = c.in_ok-reached.ensures.reached.ends in
    let state : c.reach.new.m.session.state ≡ c.args.self.now.follower.state = ap (λ (x : Mirror). x.session.state) c.reach.ensures.mirror ∙ ap (λ (x : Member). x.follower.state) c.self.view_is in
    let mark = end_mark start notes c.in_ok-reached.reached.ready.mark c.reach.ensures.member.start_is ends.mark in
    let answers = subst (λ (x : State). c.args.met ≡ met_of command x.view met_mailbox → c.args.damaged.now ≡ damaged_uids mail command x.view live
    → c.args.replies.now ≡ with first (data_of mail command x.view live)
    → IsAnswered with first c.finish_ready.new.replies c.finish_ready.new.m.session.state (answer mail x command met_mailbox c.in_ok-reached.reached.ready.seen live c.in_ok-reached.reached.ready.mark)) state
    (c.in_ok-finish_ready.ensures.answer mail met_mailbox first) met damaged lines in
    subst (λ (k : Mark). IsAnswered with first c.finish_ready.new.replies c.finish_ready.new.m.session.state (answer mail c.args.self.now.follower.state command met_mailbox (length notes) live k)) mark
    (subst (λ (q : ℕ). IsAnswered with first c.finish_ready.new.replies c.finish_ready.new.m.session.state (answer mail c.args.self.now.follower.state command met_mailbox q live c.in_ok-reached.reached.ready.mark)) ends.seen answers)

pub returns-clause-begins : goal.returns-clause-begins
returns-clause-begins g c =
    let s = c.self.inside in
    let r = c.reach.new.r in
    let m = c.reach.new.m in
    let n = c.finish_ready.new.m in
    let e = c.reach.ensures in
    let feed = c.args.feed.now in
    let reaches = c.in_ok-reached.ensures.reached in
    let first = before_begins s.number s.caught_up s.knows_seal s.spent s.turns s.holds s.writes.amount s.refusals.amount s.reader r s.mirror m c.self.invariant.0.within e.pass.1 e.leaf.begins e.mirror e.mailbox in
    let seen : n.seen ≡ length (journal feed) = ap (λ (x : Mirror). x.seen) c.in_ok-finish_ready.ensures.ok.now ∙ reaches.ends.seen in
    let whole = end_notes feed r m c.in_ok-reached.reached e.member reaches c.arrive.new.r n c.arrive.ensures seen in
    let begins = prefix_trans (take s.mirror.seen (all_of s.reader.pass)) (take m.seen (all_of r.pass)) (journal feed) first
    (end_begins feed r m c.in_ok-reached.reached e.member reaches c.arrive.new.r n c.arrive.ensures) in
    subst (λ (x : Member). IsPrefix (notes_of x) (take n.seen (all_of c.arrive.new.r.pass))) c.self.view_is
    (subst (λ (l : List Note). IsPrefix (take s.mirror.seen (all_of s.reader.pass)) l) (sym whole) begins)

pub returns-clause-ok : goal.returns-clause-ok
returns-clause-ok g c =
    let s = c.self.inside in
    let r = c.reach.new.r in
    let m = c.reach.new.m in
    let n = c.finish_ready.new.m in
    let e = c.reach.ensures in
    let feed = c.args.feed.now in
    let reaches = c.in_ok-reached.ensures.reached in
    let seen : n.seen ≡ length (journal feed) = ap (λ (x : Mirror). x.seen) c.in_ok-finish_ready.ensures.ok.now ∙ reaches.ends.seen in
    subst (λ (x : Member). HasTurned feed x (member_of s.number c.arrive.new.r n c.end_turn.new.caught_up false s.spent c.end_turn.new.turns s.holds s.writes.amount s.refusals.amount)) c.self.view_is
    record {
      all = end_sees feed r m c.in_ok-reached.reached e.member reaches c.arrive.new.r n c.arrive.ensures
          (member_of s.number s.reader s.mirror s.caught_up s.knows_seal s.spent s.turns s.holds s.writes.amount s.refusals.amount) c.end_turn.new.caught_up false s.spent c.end_turn.new.turns s.holds s.writes.amount
          s.refusals.amount e.leaf.begins e.leaf.all seen;
      now = turned_now s.number s.caught_up s.knows_seal s.spent c.end_turn.new.caught_up s.turns c.end_turn.new.turns s.holds s.writes.amount s.refusals.amount s.reader c.arrive.new.r s.mirror n
          c.end_turn.ensures.0 c.end_turn.ensures.1;
    }
