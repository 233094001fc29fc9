use Rattle.std.proofs.Common.{◌∙◌, ◌++◌, ◌∷◌, [], ℕ, List, ap}
use Rattle.std.proofs.lemmas.Result.{on_ok_weaker}
use Rattle.dv_model.specs.declared.types.Reply.{Reply}
use Rattle.dv_model.specs.Sessions.{fetch_line}
use Rattle.dv_model.specs.Texts.{line_text}
use Rattle.dv_texts.proofs.Joined.{line_taken}
use Rattle.dv_texts.specs.Lines.{Lines, joined, with_replies}
use Rattle.dv_texts.proofs.reply_text.ReplyTextResponses.take_fetch.Goals as goal

pub returns-clause-ok : goal.returns-clause-ok
returns-clause-ok c = λ message are.
    let line : Reply = fetch_line c.args.live.now.mailbox c.args.items.now (c.args.number, c.args.s.now) message in
    let inside = c.self.inside in
    on_ok_weaker c.add_fetch_line.result (λ put.
    line_taken inside.session (joined inside.pieces.items) inside.text (line_text inside.session line) c.add_fetch_line.new.text
    (put ∙ ap (λ (name : List ℕ). inside.text ++ line_text name line) c.as_slice-session.ensures)
    ∙ ap (λ (l : Lines). with_replies l (line ∷ [])) (c.self.view_is ∙ c.in_ok-make_room.ensures ∙ c.in_ok-settle.ensures))
    (c.add_fetch_line.ensures.ok message are)
