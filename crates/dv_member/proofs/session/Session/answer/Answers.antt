use Rattle.std.proofs.Common.{◌≡◌, ◌∙◌, Result, Ok, Err, OnErr, ap, refl, subst, sym, take}
use Rattle.dv_model.specs.Sessions.{State}
use Rattle.dv_model.specs.Transcripts.{IsTurn}
use Rattle.dv_responses.specs.Met.{met_of}
use Rattle.dv_responses.specs.Supplied.{AreSupplied}
use Rattle.dv_model.proofs.Clients.{false_is_not_true}
use Rattle.dv_answer.specs.Refusing.{own_refusal}
use Rattle.dv_model.specs.Views.{View}
use Rattle.dv_member.specs.declared.mirror.Mirror.{Mirror}
use Rattle.dv_member.specs.Calls.{turn_of, turned}
use Rattle.dv_member.specs.Inside.{IsMember, all_of}
use Rattle.dv_member.specs.Members.{Member, log_seen}
use Rattle.dv_member.proofs.Calls.{member_of}
use Rattle.dv_member.proofs.Members.{lives_at, mark_at, seen_long}
use Rattle.dv_member.proofs.Turns.{is_turn, log_long, told_mirror, turn_taken}
use Rattle.dv_member.proofs.session.Session.answer.Goals as goal

on_err : {A E P : Type 0} (r : Result A E) → P → OnErr r P
on_err (Ok x) p = tt
on_err (Err e) p = p

pub returns-in_err-answer-clause-turn : goal.returns-in_err-answer-clause-turn
returns-in_err-answer-clause-turn g c =
    let s = c.self.inside in
    let start = g.K.Keeping.start in
    let command = c.args.c.now in
    let fresh = ap (λ (x : Member). x.spent) c.self.view_is ∙ c.requires.fresh in
    let member = subst (IsMember g.K.Keeping.roll start g.K.Keeping.count s.reader s.mirror) fresh c.self.invariant.0 in
    let old = member_of s.number s.reader s.mirror s.caught_up s.knows_seal s.spent s.turns s.holds s.writes.amount s.refusals.amount in
    let own = ap (λ (x : Member). own_refusal x.follower.state command) c.self.view_is ∙ c.requires.allowed in
    let long = log_long start old member.start_is.fresh (seen_long s.reader s.mirror member) in
    subst (λ (x : Member). IsTurn (log_seen start x) g.K.Keeping.count x.number (turn_of (log_seen start x) x command)) c.self.view_is
    (is_turn start g.K.Keeping.count old command long (lives_at s.reader s.mirror member) (member.follows refl).mirror.told c.requires.read.0 own)

pub returns-in_err-answer-clause-replies : goal.returns-in_err-answer-clause-replies
returns-in_err-answer-clause-replies g c =
    on_err c.from_residual-in_err-answer.result (c.in_err-answer.ensures.replies (log_seen g.K.Keeping.start c.args.self.now).mail (λ is. false_is_not_true (sym c.requires.read.1 ∙ is)))

pub invariant_of-self-2 : goal.invariant_of-self-2
invariant_of-self-2 g c =
    let s = c.self.inside in
    let start = g.K.Keeping.start in
    let command = c.args.c.now in
    let fresh = ap (λ (x : Member). x.spent) c.self.view_is ∙ c.requires.fresh in
    let member = subst (IsMember g.K.Keeping.roll start g.K.Keeping.count s.reader s.mirror) fresh c.self.invariant.0 in
    let old = member_of s.number s.reader s.mirror s.caught_up s.knows_seal s.spent s.turns s.holds s.writes.amount s.refusals.amount in
    let mail = (log_seen start old).mail in
    let live = s.mirror.live.mailbox in
    let met : c.in_ok-met.met ≡ met_of command s.mirror.session.state.view live = c.in_ok-met.ensures ∙ ap (λ (v : View). met_of command v live) c.view.ensures in
    let supplied : AreSupplied mail command s.mirror.session.state.view live c.new-none.result = λ is. false_is_not_true (sym c.requires.read.1 ∙ is) in
    let taken = turn_taken g.R.Replies.with start old command s.mirror.mark c.args.replies.now c.answer.new.replies c.answer.new.self.state (mark_at s.reader s.mirror member)
    (c.in_ok-answer.ensures.answer mail live met supplied) in
    let notes = take s.mirror.seen (all_of s.reader.pass) in
    let mirror : Mirror = record s.mirror { session = c.answer.new.self; told_mark = s.mirror.mark } in
    let follows = member.follows refl in (
      record {
        start_is = member.start_is;
        reader = member.reader;
        within = member.within;
        follows = λ is. record {
          took = follows.took;
          mirror = told_mirror start notes s.mirror mirror follows.mirror refl c.in_ok-answer.ensures.abreast (ap (λ (x : State). x.told) taken.1);
        };
      },
      c.self.invariant.1,
      c.self.invariant.2,
    )

pub returns-clause-turn : goal.returns-clause-turn
returns-clause-turn g c =
    let s = c.self.inside in
    let start = g.K.Keeping.start in
    let command = c.args.c.now in
    let fresh = ap (λ (x : Member). x.spent) c.self.view_is ∙ c.requires.fresh in
    let member = subst (IsMember g.K.Keeping.roll start g.K.Keeping.count s.reader s.mirror) fresh c.self.invariant.0 in
    let old = member_of s.number s.reader s.mirror s.caught_up s.knows_seal s.spent s.turns s.holds s.writes.amount s.refusals.amount in
    let own = ap (λ (x : Member). own_refusal x.follower.state command) c.self.view_is ∙ c.requires.allowed in
    let long = log_long start old member.start_is.fresh (seen_long s.reader s.mirror member) in
    subst (λ (x : Member). IsTurn (log_seen start x) g.K.Keeping.count x.number (turn_of (log_seen start x) x command)) c.self.view_is
    (is_turn start g.K.Keeping.count old command long (lives_at s.reader s.mirror member) (member.follows refl).mirror.told c.requires.read.0 own)

pub returns-clause-lines : goal.returns-clause-lines
returns-clause-lines g c =
    let s = c.self.inside in
    let start = g.K.Keeping.start in
    let command = c.args.c.now in
    let fresh = ap (λ (x : Member). x.spent) c.self.view_is ∙ c.requires.fresh in
    let member = subst (IsMember g.K.Keeping.roll start g.K.Keeping.count s.reader s.mirror) fresh c.self.invariant.0 in
    let old = member_of s.number s.reader s.mirror s.caught_up s.knows_seal s.spent s.turns s.holds s.writes.amount s.refusals.amount in
    let mail = (log_seen start old).mail in
    let live = s.mirror.live.mailbox in
    let met : c.in_ok-met.met ≡ met_of command s.mirror.session.state.view live = c.in_ok-met.ensures ∙ ap (λ (v : View). met_of command v live) c.view.ensures in
    let supplied : AreSupplied mail command s.mirror.session.state.view live c.new-none.result = λ is. false_is_not_true (sym c.requires.read.1 ∙ is) in
    let taken = turn_taken g.R.Replies.with start old command s.mirror.mark c.args.replies.now c.answer.new.replies c.answer.new.self.state (mark_at s.reader s.mirror member)
    (c.in_ok-answer.ensures.answer mail live met supplied) in
    subst (λ (x : Member). c.answer.new.replies ≡ g.R.Replies.with c.args.replies.now (turn_of (log_seen start x) x command).replies) c.self.view_is taken.0

pub returns-clause-ok : goal.returns-clause-ok
returns-clause-ok g c =
    let s = c.self.inside in
    let start = g.K.Keeping.start in
    let command = c.args.c.now in
    let fresh = ap (λ (x : Member). x.spent) c.self.view_is ∙ c.requires.fresh in
    let member = subst (IsMember g.K.Keeping.roll start g.K.Keeping.count s.reader s.mirror) fresh c.self.invariant.0 in
    let old = member_of s.number s.reader s.mirror s.caught_up s.knows_seal s.spent s.turns s.holds s.writes.amount s.refusals.amount in
    let mail = (log_seen start old).mail in
    let live = s.mirror.live.mailbox in
    let met : c.in_ok-met.met ≡ met_of command s.mirror.session.state.view live = c.in_ok-met.ensures ∙ ap (λ (v : View). met_of command v live) c.view.ensures in
    let supplied : AreSupplied mail command s.mirror.session.state.view live c.new-none.result = λ is. false_is_not_true (sym c.requires.read.1 ∙ is) in
    let taken = turn_taken g.R.Replies.with start old command s.mirror.mark c.args.replies.now c.answer.new.replies c.answer.new.self.state (mark_at s.reader s.mirror member)
    (c.in_ok-answer.ensures.answer mail live met supplied) in
    let state = taken.1 in
    let ends = c.end_turn.ensures in
    let mirror : Mirror = record s.mirror { session = c.answer.new.self; told_mark = s.mirror.mark } in
    let new = member_of s.number s.reader mirror c.end_turn.new.caught_up s.knows_seal s.spent c.end_turn.new.turns s.holds s.writes.amount s.refusals.amount in
    subst (λ (x : Member). new ≡ turned x (record c.answer.new.self { state = (turn_of (log_seen start x) x command).after })) c.self.view_is
    (λ i. record (member_of s.number s.reader mirror (ends.0 i) s.knows_seal s.spent (ends.1 i) s.holds s.writes.amount s.refusals.amount) { follower = record { state = state i; touched = c.answer.new.self.touched } })
