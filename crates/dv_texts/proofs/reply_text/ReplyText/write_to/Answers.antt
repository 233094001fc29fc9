use Rattle.std.proofs.Common.{◌∙◌, ◌++◌, ℕ, List, ap, subst}
use Rattle.dv_shelf.specs.Streams.{AppendsFront}
use Rattle.dv_texts.proofs.Joined.{front_behind}
use Rattle.dv_texts.specs.Lines.{Lines, joined}
use Rattle.dv_texts.proofs.reply_text.ReplyText.write_to.Goals as goal

pub returns-clause-err : goal.returns-clause-err
returns-clause-err g c = λ tells.
    let old = g.O.Sink.sees.taken c.args.out.now in
    let mid = g.O.Sink.sees.taken c.write_pieces.new.out in
    let new = g.O.Sink.sees.taken c.write_all.new.self in
    let whole = c.in_ok-write_pieces.ensures.ok tells ∙ ap (λ (ps : List (List ℕ)). old ++ joined ps) c.deref.ensures.value in
    subst (λ (l : Lines). AppendsFront old new l.text) c.self.view_is
    (front_behind old (joined c.self.inside.pieces.items) c.self.inside.text mid new whole (subst (λ (t : List ℕ). AppendsFront mid new t) c.as_slice.ensures (c.write_all.ensures.err tells)))
