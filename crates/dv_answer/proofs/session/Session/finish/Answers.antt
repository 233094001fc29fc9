use Rattle.std.proofs.Common.{◌≡◌, ◌∙◌, ◌++◌, ◌∷◌, [], true, false, ap, append_assoc, refl, sym}
use Rattle.dv_model.specs.declared.types.Command.TheVariants.{Select}
use Rattle.dv_model.specs.declared.types.Step.TheVariants.{Full}
use Rattle.dv_model.specs.Sessions.{Answer, data_of, ending_of, gone_uid, is_select, told_of}
use Rattle.dv_model.specs.Views.{View, empty_view, moved, said}
use Rattle.dv_answer.specs.Following.{Follower}
use Rattle.dv_answer.proofs.Answering.{other_answer, select_answer, select_damaged, select_data, select_gone, select_met, with_both}
use Rattle.dv_answer.proofs.session.Session.finish.Goals as goal

pub returns-then-is_select-clause-answer : goal.returns-then-is_select-clause-answer
returns-then-is_select-clause-answer g c = λ mail met_mailbox start met damaged taken.
    let with = g.R.Replies.with in
    let m = c.args.live.now.mailbox in
    let x = c.args.self.now.state in
    let command = c.args.c.now in
    let select : is_select command ≡ true = sym c.is_select.ensures ∙ c.if-is_select.true in
    let gone : c.in_ok-gone.gone ≡ gone_uid command empty_view m = c.in_ok-gone.ensures ∙ select_gone command select c.self.inside.view empty_view m in
    let last : c.ending-last.result ≡ ending_of mail command empty_view met_mailbox m c.args.mark =
    c.ending-last.ensures mail empty_view met_mailbox gone (met ∙ select_met command select x.view empty_view met_mailbox) (damaged ∙ select_damaged mail command select x.view empty_view m) in
    let lines = told_of Select m empty_view (moved Full empty_view m) ++ c.ending-last.result ∷ [] in
    let asked = taken ∙ ap (with start) (select_data mail command select x.view m) ∙ g.met.R.Replies.none start in
    with_both c.select.result c.select.ensures.said c.select.ensures.state (λ are behind.
    let whole = select_answer mail x command select met_mailbox m c.args.told c.args.mark lines c.ending-last.result c.select.new.self.state refl last behind in (
      are ∙ ap (λ r. with r lines) asked ∙ ap (λ (a : Answer). with start a.replies) whole,
      ap (λ (a : Answer). a.next) whole,
    ))

pub returns-else-is_select-clause-answer : goal.returns-else-is_select-clause-answer
returns-else-is_select-clause-answer g c = λ mail met_mailbox start met damaged taken.
    let with = g.R.Replies.with in
    let m = c.args.live.now.mailbox in
    let x = c.args.self.now.state in
    let command = c.args.c.now in
    let other : is_select command ≡ false = sym c.is_select.ensures ∙ c.if-is_select.false in
    let view : c.self.inside.view ≡ x.view = ap (λ (f : Follower). f.state.view) c.self.view_is in
    let given = data_of mail command x.view m in
    let gone : c.in_ok-gone.gone ≡ gone_uid command x.view m = c.in_ok-gone.ensures ∙ ap (λ (v : View). gone_uid command v m) view in
    let last : c.ending-last.result ≡ ending_of mail command x.view met_mailbox m c.args.mark = c.ending-last.ensures mail x.view met_mailbox gone met damaged in
    let told = said m x.view (moved c.step_of.result x.view m) in
    with_both c.move_on.result c.move_on.ensures.said c.move_on.ensures.state (λ are behind.
    let whole = other_answer mail x command other met_mailbox m c.args.told c.args.mark c.step_of.result given (given ++ told ++ c.ending-last.result ∷ []) c.ending-last.result c.move_on.new.self.state c.step_of.ensures refl refl last behind in (
      are ∙ ap (λ r. with r (told ++ c.ending-last.result ∷ [])) taken ∙ g.met.R.Replies.more start given (told ++ c.ending-last.result ∷ [])
          ∙ ap (with start) (sym (append_assoc given told (c.ending-last.result ∷ []))) ∙ ap (λ (a : Answer). with start a.replies) whole,
      ap (λ (a : Answer). a.next) whole,
    ))
