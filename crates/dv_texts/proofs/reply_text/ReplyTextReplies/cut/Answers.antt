use Rattle.std.proofs.Common.{◌≡◌, ◌∙◌, ◌-◌, ◌++◌, ℕ, List, ap, take, arith}
use Rattle.std.specs.Prelude.{flat_map}
use Rattle.dv_model.specs.Texts.{line_text}
use Rattle.dv_texts.proofs.Joined.{cut_front}
use Rattle.dv_texts.specs.Lines.{Lines, joined}
use Rattle.dv_texts.proofs.reply_text.ReplyTextReplies.cut.Goals as goal

pub returns : goal.returns
returns c = λ x told is long.
    let whole : List ℕ = joined c.cut_pieces-whole.new.pieces.items in
    let last : List ℕ = c.cut_pieces-whole.result.1 in
    let front : whole ++ c.from_vec.result ≡ x.text =
    cut_front x.text (flat_map (line_text x.session) told) whole last (joined c.self.inside.pieces.items) c.self.inside.text c.from_vec.result c.args.length long
    (ap (λ (l : Lines). l.text) (c.self.view_is ∙ is))
    (c.cut_pieces-whole.ensures.front ∙ ap (λ (t : List ℕ). take c.args.length (joined c.self.inside.pieces.items ++ t)) c.replace-last.ensures.value)
    (omega (arith, c.cut_pieces-whole.ensures.whole, c.cut_pieces-whole.ensures.enough))
    (c.from_vec.ensures ∙ c.truncate.ensures.items ∙ ap (take c.saturating_sub.result) c.into_vec-text.ensures
    ∙ ap (λ (n : ℕ). take n last) (c.saturating_sub.ensures ∙ ap (λ (n : ℕ). c.args.length - n) c.cut_pieces-whole.ensures.whole)) in
    let session : c.self.inside.session ≡ x.session = ap (λ (l : Lines). l.session) (c.self.view_is ∙ is) in
    ap (λ (t : List ℕ). record { session = c.self.inside.session; text = t }) front ∙ ap (λ (s : List ℕ). record { session = s; text = x.text }) session
