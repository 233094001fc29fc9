use Rattle.std.proofs.Common.{◌≡◌, ◌∙◌, Bool, true, false, ap, subst, sym}
use Rattle.std.proofs.lemmas.List.{get_or_read}
use Rattle.std.proofs.lemmas.Result.{err_from_is_err_and}
use Rattle.dv_model.specs.Views.{View}
use Rattle.dv_view.proofs.TakenMore.{taken_none}
use Rattle.dv_responses.specs.Damaged.{IsRead}
use Rattle.dv_answer.specs.Following.{Follower, new_follower}
use Rattle.dv_plans.specs.declared.fault.StoreFault.TheVariants as fault
use Rattle.dv_store.proofs.Looked.{done_failed}
use Rattle.dv_serving.proofs.Looking.{known_here, messages_known}
use Rattle.dv_serial.proofs.serial.Serial.add_data.Goals.{in-Ok, in-Err}
use Rattle.dv_serial.proofs.serial.Serial.add_data.Goals as goal

pub returns-clause-found : goal.returns-clause-found
returns-clause-found g c =
    let less = rw (← c.self.view_is) at c.requires.at in
    let seen = c.view.ensures ∙ ap (λ (f : Follower). f.state.view) (get_or_read c.self.inside.seats.items c.args.at _ less c.index-2.ensures new_follower) in
    rw (← c.self.view_is) (λ tells log debt rest.
    let S = g.S.Shelf in
    let store = c.self.inside.store in
    let there = g.met.S.Shelf.leaves_files store.shelf tells in
    let knows = (known_here S.sees log debt store there rest).knows in
    elim c.match-read_for.branch [
      | in-Ok w ↦ rw (w.result-is, w.replies-is) (subst (λ (view : View). IsRead g.R.Replies.with c.args.replies.now c.read_for.new.lines log.mail c.args.c.now view store.chain.live.mailbox w.in-Ok.damaged) seen
          (w.in-Ok.ensures.found tells log.mail (record { knows = knows; held = messages_known S.sees log debt store there rest })))
      | in-Err w ↦ rw w.result-is tt
    ])

pub returns-clause-failed : goal.returns-clause-failed
returns-clause-failed g c =
    rw (← c.self.view_is) (λ tells log debt rest faults disk.
    let S = g.S.Shelf in
    let store = c.self.inside.store in
    let there = g.met.S.Shelf.leaves_files store.shelf tells in
    let knows = (known_here S.sees log debt store there rest).knows in
    elim c.match-read_for.branch [
      | in-Ok w ↦ absurd (done_failed _ (fault.Disk faults) c.match-read_for.result w.result-is disk)
      | in-Err w ↦
          let more = w.in-Err.ensures.replies tells knows in
          w.replies-is ∙ w.cut.ensures c.args.replies.now more.told more.is c.length-taken.ensures
    ])

pub returns-in_err-add_data_lines-clause-replies : goal.returns-in_err-add_data_lines-clause-replies
returns-in_err-add_data_lines-clause-replies g c = λ tells log debt rest.
    let p = err_from_is_err_and c.from_residual.result c.from_residual.ensures.1 in
    rw (p.1)
    (c.in_err-add_data_lines.ensures.err log.mail (λ reads.
    let no : ◌≡◌ {A = Bool} true false = sym reads ∙ sym c.if-not-reads_mail.ensures in
    absurd cc))

pub returns-clause-replies : goal.returns-clause-replies
returns-clause-replies g c =
    rw (← c.self.view_is) (λ tells log debt rest.
    let S = g.S.Shelf in
    let store = c.self.inside.store in
    let there = g.met.S.Shelf.leaves_files store.shelf tells in
    let knows = (known_here S.sees log debt store there rest).knows in
    elim c.match-read_for.branch [
      | in-Ok w ↦ rw w.result-is tt
      | in-Err w ↦
          let more = w.in-Err.ensures.replies tells knows in
          let same = w.replies-is ∙ w.cut.ensures c.args.replies.now more.told more.is c.length-taken.ensures in
          rw w.result-is (taken_none g.R.Replies.with g.met.R.Replies.none c.args.replies.now c.match-read_for.replies same)
    ])
