use Rattle.std.proofs.Common.{◌≡◌, ◌∙◌, ℕ, List, Some, None, sym, ap}
use Rattle.std.specs.Prelude.{min, option_map}
use Rattle.std.specs.List.{reduce}
use Rattle.dv_model.specs.declared.types.Reply.TheVariants as reply
use Rattle.dv_model.specs.declared.types.Word.{Word}
use Rattle.dv_model.specs.Sessions.{appended_of, damaged_uid, gone_uid, modified_of, word_of}
use Rattle.dv_responses.specs.declared.meeting.Met.{Met}
use Rattle.dv_responses.proofs.Closing.{appended_is, ends_damaged, ends_done, smallest_is}
use Rattle.dv_responses.proofs.endings.ending.Goals as goal

pub returns-in-Some-smallest : goal.returns-in-Some-smallest
returns-in-Some-smallest c = λ mail view met gone taken are.
    let m = c.args.live.now.mailbox in
    let command = c.args.c.now in
    let none : gone_uid command view m ≡ None = sym gone ∙ c.in_default.is in
    let damaged : damaged_uid mail command view m ≡ Some c.in-Some-smallest.uid =
    smallest_is mail command view m ∙ ap (reduce min) (sym are) ∙ sym c.smallest.ensures ∙ c.in-Some-smallest.is in
    sym (ends_damaged mail command view m met c.args.mark c.in-Some-smallest.uid none damaged)

pub returns : goal.returns
returns c = λ mail view met gone taken are.
    let m = c.args.live.now.mailbox in
    let command = c.args.c.now in
    let none : gone_uid command view m ≡ None = sym gone ∙ c.in_default.is in
    let whole : damaged_uid mail command view m ≡ None =
    smallest_is mail command view m ∙ ap (reduce min) (sym are) ∙ sym c.smallest.ensures ∙ c.in_default-smallest.is in
    let appended : c.appended_in.result ≡ appended_of command met m = c.appended_in.ensures ∙ ap (λ (t : Met). option_map (λ uid. (m.uid_validity, uid)) t.appended) taken ∙ appended_is command view met m in
    let modified : c.args.met.modified ≡ modified_of command view met = ap (λ (t : Met). t.modified) taken in
    ap (λ (w : Word). reply.Done w c.args.mark c.appended_in.result c.args.met.modified) c.word_of.ensures
    ∙ ap (λ a. reply.Done (word_of command) c.args.mark a c.args.met.modified) appended
    ∙ ap (λ (ns : List ℕ). reply.Done (word_of command) c.args.mark (appended_of command met m) ns) modified
    ∙ sym (ends_done mail command view m met c.args.mark none whole)
