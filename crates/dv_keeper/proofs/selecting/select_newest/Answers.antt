use Rattle.std.proofs.Common.{◌∙◌, inl, inr, List, [], ap, refl, subst, sym}
use Rattle.std.proofs.lemmas.Result.{err_from_is_err_and}
use mathlib.Core.List.{IsPrefix}
use Rattle.dv_front.specs.declared.notes.Note.{Note}
use Rattle.dv_generations.specs.Feeds.{journal}
use Rattle.dv_member.specs.Calls.{turn_of}
use Rattle.dv_member.specs.Members.{Member, log_seen, notes_of}
use Rattle.dv_model.specs.declared.types.Command.TheVariants.{Select}
use Rattle.dv_keeper.specs.Sessions.{HasRejoined}
use Rattle.dv_keeper.specs.Turns.{HasSeen}
use Rattle.dv_keeper.proofs.Selected.{caught_seen, rejoined, selects}
use Rattle.dv_keeper.proofs.Telling.{taken_same}
use Rattle.dv_keeper.proofs.selecting.select_newest.Goals as goal

pub answer-requires-clause-fresh : goal.answer-requires-clause-fresh
answer-requires-clause-fresh g c = ap (λ (s : Member). s.spent) c.in_ok-catch_up.ensures.ok.now ∙ c.requires.fresh

pub answer-requires-clause-caught : goal.answer-requires-clause-caught
answer-requires-clause-caught g c = ap (λ (s : Member). s.caught_up) c.in_ok-catch_up.ensures.ok.now

pub returns-clause-begins : goal.returns-clause-begins
returns-clause-begins g c = subst (λ (ns : List Note). IsPrefix (notes_of c.args.s.now) ns) (sym (ap notes_of c.in_ok-answer.ensures.ok)) c.catch_up.ensures.begins

pub returns-clause-turn : goal.returns-clause-turn
returns-clause-turn g c =
    let k = g.K.Keeping in
    let caught = c.catch_up.new.s in
    record {
      replies = (turn_of (log_seen k.start caught) caught Select).replies;
      taken = c.in_ok-answer.ensures.lines;
      holds = selects k.start k.count c.args.shared.now.kept.feed c.args.s.now caught c.answer.new.self c.in_ok-catch_up.ensures.ok c.number.ensures.session c.number-2.ensures.session c.answer.ensures.turn c.in_ok-answer.ensures.ok;
    }

-- ---- memory ran out

pub returns-in_err-catch_up-clause-turn : goal.returns-in_err-catch_up-clause-turn
returns-in_err-catch_up-clause-turn g c =
    let p = err_from_is_err_and c.from_residual.result c.from_residual.ensures.1 in rw p.1 (record { replies = []; taken = tt; holds = tt })

pub returns-in_err-catch_up-clause-err : goal.returns-in_err-catch_up-clause-err
returns-in_err-catch_up-clause-err g c =
    let p = err_from_is_err_and c.from_residual.result c.from_residual.ensures.1 in rw p.1 (inl c.in_err-catch_up.ensures.err)

pub returns-in_err-catch_up-clause-replies : goal.returns-in_err-catch_up-clause-replies
returns-in_err-catch_up-clause-replies g c =
    let p = err_from_is_err_and c.from_residual.result c.from_residual.ensures.1 in
    rw p.1 (taken_same g.R.Replies.with g.met.R.Replies.none c.args.replies.now c.args.replies.now refl)

pub returns-in_err-answer-clause-begins : goal.returns-in_err-answer-clause-begins
returns-in_err-answer-clause-begins g c = subst (λ (s : Member). IsPrefix (notes_of c.args.s.now) (notes_of s)) (sym c.in_err-answer.ensures.err) c.catch_up.ensures.begins

pub returns-in_err-answer-clause-turn : goal.returns-in_err-answer-clause-turn
returns-in_err-answer-clause-turn g c =
    let p = err_from_is_err_and c.from_residual-in_err-answer.result c.from_residual-in_err-answer.ensures.1 in rw p.1 (record { replies = []; taken = tt; holds = tt })

pub returns-in_err-answer-clause-err : goal.returns-in_err-answer-clause-err
returns-in_err-answer-clause-err g c =
    let p = err_from_is_err_and c.from_residual-in_err-answer.result c.from_residual-in_err-answer.ensures.1 in
    let k = g.K.Keeping in
    let feed = c.args.shared.now.kept.feed in
    let old = c.args.s.now in
    let caught = c.catch_up.new.s in
    let has = c.in_ok-catch_up.ensures.ok in
    rw p.1 (inr (subst (λ (s : Member). HasRejoined old s × HasSeen (journal feed) s) (sym c.in_err-answer.ensures.err) (rejoined feed old caught has, caught_seen k.start k.count feed old caught has c.number.ensures.session)))
