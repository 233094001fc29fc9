use Rattle.std.proofs.Common.{◌≡◌, ℕ, ◌<◌, ◌≤◌, ◌∙◌, Err, length, refl, subst, sym}
use Rattle.std.proofs.lemmas.Bool.{MatchBool-at_false, MatchBool-at_true}
use Rattle.dv_model.specs.Sessions.{end_of_uids, message_limit}
use Rattle.dv_logfile.proofs.Settling.{looked_settled, settled_then}
use Rattle.dv_maps.specs.declared.place.Place.{Place}
use Rattle.dv_mdbox.specs.Answers.{AnswersSave}
use Rattle.dv_mdbox.specs.States.{State}
use Rattle.dv_mdbox.proofs.Counted.{failure_refused, refused_anyway}
use Rattle.dv_mdbox.proofs.Finding.{answers_put, answers_unfound, group_shelved, looked_itself, looks_itself, saves_found, saves_unfound, rest_looked}
use Rattle.dv_mdbox.proofs.Going.{goes_looked, goes_nowhere}
use Rattle.dv_mdbox.proofs.Saved.{saves_stayed}
use Rattle.dv_mdbox.proofs.Written.{group_kept}
use Rattle.dv_mdbox.proofs.storage.Storage.save.Goals as goal

pub put_message-requires-clause-next : goal.put_message-requires-clause-next
put_message-requires-clause-next g c =
    let id = c.self.inside.chain.live.mailbox.next_uid in
    record {
      left = MatchBool-at_false (id ≡ end_of_uids) (id < end_of_uids) c.if-is_used_up.false c.is_used_up.ensures;
      room = sym c.is_full.ensures ∙ c.if-is_full.false;
    }

-- ---- answers

pub returns-then-is_used_up-clause-answers : goal.returns-then-is_used_up-clause-answers
returns-then-is_used_up-clause-answers g c = rw (← c.self.view_is) (
    let id = c.self.inside.chain.live.mailbox.next_uid in
    MatchBool-at_true (id ≡ end_of_uids) (id < end_of_uids) c.if-is_used_up.true c.is_used_up.ensures)

pub returns-in-Ok-clause-answers : goal.returns-in-Ok-clause-answers
returns-in-Ok-clause-answers g c = rw (← c.self.view_is) (
    let S = g.S.Shelf in
    let chain = c.self.inside.chain in
    let id = chain.live.mailbox.next_uid in
    let size = length c.args.message.now in
    answers_put S.sees.tells (S.sees.files c.self.inside.shelf) chain.live.mailbox chain size
    (record {
      left = MatchBool-at_false (id ≡ end_of_uids) (id < end_of_uids) c.if-is_used_up.false c.is_used_up.ensures;
      short = MatchBool-at_false (message_limit < size) (size ≤ message_limit) c.if-is_long.false c.is_long.ensures;
      room = sym c.is_full.ensures ∙ c.if-is_full.false;
    }) c.put_message.result c.put_message.ensures.id c.put_message.ensures.err)

pub returns-in-Err-clause-answers : goal.returns-in-Err-clause-answers
returns-in-Err-clause-answers g c =
    let S = g.S.Shelf in
    let chain = c.self.inside.chain in
    let id = chain.live.mailbox.next_uid in
    let size = length c.args.message.now in
    subst (λ (s : State g.row.S.Denot g.row.C.Denot). AnswersSave S.sees.tells (S.sees.files s.shelf) s.chain.live.mailbox s.chain size (Err c.in-Err.e)) c.self.view_is
    (answers_unfound S.sees.tells (S.sees.files c.self.inside.shelf) chain.live.mailbox chain size
    (record {
      left = MatchBool-at_false (id ≡ end_of_uids) (id < end_of_uids) c.if-is_used_up.false c.is_used_up.ensures;
      short = MatchBool-at_false (message_limit < size) (size ≤ message_limit) c.if-is_long.false c.is_long.ensures;
      room = sym c.is_full.ensures ∙ c.if-is_full.false;
    }) c.in-Err.e c.in-Err.ensures.finds)

-- ---- a refusal

pub returns-then-is_used_up-clause-refused : goal.returns-then-is_used_up-clause-refused
returns-then-is_used_up-clause-refused g c = rw (← c.self.view_is) (looked_itself _, λ tells. looks_itself g.S.Shelf.sees c.self.inside.shelf (λ f left. g.met.S.Shelf.only_now c.self.inside.shelf f tells left))

pub returns-then-is_long-clause-refused : goal.returns-then-is_long-clause-refused
returns-then-is_long-clause-refused g c = rw (← c.self.view_is) (looked_itself _, λ tells. looks_itself g.S.Shelf.sees c.self.inside.shelf (λ f left. g.met.S.Shelf.only_now c.self.inside.shelf f tells left))

pub returns-then-is_full-clause-refused : goal.returns-then-is_full-clause-refused
returns-then-is_full-clause-refused g c = rw (← c.self.view_is) (looked_itself _, λ tells. looks_itself g.S.Shelf.sees c.self.inside.shelf (λ f left. g.met.S.Shelf.only_now c.self.inside.shelf f tells left))

pub returns-in-Err-clause-refused : goal.returns-in-Err-clause-refused
returns-in-Err-clause-refused g c = rw (← c.self.view_is) (refused_anyway ℕ _ c.in-Err.e (record { clock = refl; chain = refl; owed = refl; start = refl; entries = refl; mark = refl; tail = refl }, c.in-Err.ensures.looks))

pub returns-in-Ok-clause-refused : goal.returns-in-Ok-clause-refused
returns-in-Ok-clause-refused g c = failure_refused _ c.put_message.result c.put_message.ensures.err

-- ---- nothing was written

pub returns-then-is_used_up-clause-value : goal.returns-then-is_used_up-clause-value
returns-then-is_used_up-clause-value g c = rw (← c.self.view_is) (
    let none : Place = record { file = 0; offset = 0; size = 0 } in
    (none, group_kept _ _ _ _ refl refl refl refl, tt))

pub returns-then-is_long-clause-value : goal.returns-then-is_long-clause-value
returns-then-is_long-clause-value g c = rw (← c.self.view_is) (
    let none : Place = record { file = 0; offset = 0; size = 0 } in
    (none, group_kept _ _ _ _ refl refl refl refl, tt))

pub returns-then-is_full-clause-value : goal.returns-then-is_full-clause-value
returns-then-is_full-clause-value g c = rw (← c.self.view_is) (
    let none : Place = record { file = 0; offset = 0; size = 0 } in
    (none, group_kept _ _ _ _ refl refl refl refl, tt))

pub returns-in-Err-clause-value : goal.returns-in-Err-clause-value
returns-in-Err-clause-value g c = rw (← c.self.view_is) (
    let none : Place = record { file = 0; offset = 0; size = 0 } in
    (none, group_kept _ _ _ _ refl refl refl refl, tt))

pub returns-then-is_used_up-clause-gives : goal.returns-then-is_used_up-clause-gives
returns-then-is_used_up-clause-gives g c = rw (← c.self.view_is) (λ tells messages debt rest.
    saves_stayed g.S.Shelf.sees messages debt c.args.message.now _ _ rest _ refl refl refl (λ f left. g.met.S.Shelf.only_now c.self.inside.shelf f tells left))

pub returns-then-is_long-clause-gives : goal.returns-then-is_long-clause-gives
returns-then-is_long-clause-gives g c = rw (← c.self.view_is) (λ tells messages debt rest.
    saves_stayed g.S.Shelf.sees messages debt c.args.message.now _ _ rest _ refl refl refl (λ f left. g.met.S.Shelf.only_now c.self.inside.shelf f tells left))

pub returns-then-is_full-clause-gives : goal.returns-then-is_full-clause-gives
returns-then-is_full-clause-gives g c = rw (← c.self.view_is) (λ tells messages debt rest.
    saves_stayed g.S.Shelf.sees messages debt c.args.message.now _ _ rest _ refl refl refl (λ f left. g.met.S.Shelf.only_now c.self.inside.shelf f tells left))

pub returns-in-Err-clause-gives : goal.returns-in-Err-clause-gives
returns-in-Err-clause-gives g c = rw (← c.self.view_is) (λ tells messages debt rest.
    saves_unfound g.S.Shelf.sees messages debt c.args.message.now _ c.find_target.new.shelf (c.in-Err.ensures.looks tells) rest c.in-Err.e)

-- ---- the message

pub returns-in-Ok-clause-value : goal.returns-in-Ok-clause-value
returns-in-Ok-clause-value g c =
    rw (← c.self.view_is) (group_shelved g.S.Shelf.sees _ c.put_message.new.self c.find_target.new.shelf c.in-Ok.target c.put_message.result c.in-Ok.ensures.finds c.put_message.ensures.value)

pub returns-in-Ok-clause-gives : goal.returns-in-Ok-clause-gives
returns-in-Ok-clause-gives g c = rw (← c.self.view_is) (λ tells messages debt rest.
    let S = g.S.Shelf in
    let mid = c.find_target.new.shelf in
    let looks = c.in-Ok.ensures.looks tells in
    saves_found S.sees messages debt c.args.message.now _ mid looks rest c.put_message.new.self c.put_message.result
    (c.put_message.ensures.gives tells messages debt (rest_looked S.sees messages debt c.args.message.now _ mid looks rest)))

pub returns-in-Ok-clause-settled : goal.returns-in-Ok-clause-settled
returns-in-Ok-clause-settled g c = rw (← c.self.view_is) (λ tells.
    let S = g.S.Shelf in
    let old = c.self.inside.shelf in
    let mid = c.find_target.new.shelf in
    let looks = c.in-Ok.ensures.looks tells in
    settled_then S.sees old mid c.put_message.new.self.shelf c.in-Ok.ensures.cause.later c.put_message.ensures.cause.later (looked_settled S.sees old mid looks.same looks.crash) (c.put_message.ensures.settled tells))

pub returns-in-Err-clause-settled : goal.returns-in-Err-clause-settled
returns-in-Err-clause-settled g c = rw (← c.self.view_is) (λ tells.
    let looks = c.in-Err.ensures.looks tells in
    looked_settled g.S.Shelf.sees c.self.inside.shelf c.find_target.new.shelf looks.same looks.crash)

-- ---- the end of the last file

pub returns-then-is_used_up-clause-goes : goal.returns-then-is_used_up-clause-goes
returns-then-is_used_up-clause-goes g c = rw (← c.self.view_is) (goes_nowhere g.S.Shelf.sees _ _ _ refl refl)

pub returns-then-is_long-clause-goes : goal.returns-then-is_long-clause-goes
returns-then-is_long-clause-goes g c = rw (← c.self.view_is) (goes_nowhere g.S.Shelf.sees _ _ _ refl refl)

pub returns-then-is_full-clause-goes : goal.returns-then-is_full-clause-goes
returns-then-is_full-clause-goes g c = rw (← c.self.view_is) (goes_nowhere g.S.Shelf.sees _ _ _ refl refl)

pub returns-in-Err-clause-goes : goal.returns-in-Err-clause-goes
returns-in-Err-clause-goes g c = rw (← c.self.view_is) (goes_nowhere g.S.Shelf.sees _ _ c.in-Err.e c.in-Err.ensures.mail_reads refl)

pub returns-in-Ok-clause-goes : goal.returns-in-Ok-clause-goes
returns-in-Ok-clause-goes g c = rw (← c.self.view_is) (goes_looked g.S.Shelf.sees _ c.put_message.new.self c.find_target.new.shelf c.in-Ok.ensures.mail_reads c.put_message.result c.put_message.ensures.goes)
