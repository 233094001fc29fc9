use Rattle.std.proofs.Common.{◌∙◌, List, ℕ, ap, sym}
use Rattle.std.specs.Prelude.{bytes_eq}
use Rattle.dv_catching.proofs.Sets.{no_end, number_end, star_end}
use Rattle.dv_catching.proofs.clients.is_end.Goals as goal

pub returns-then-eq : goal.returns-then-eq
returns-then-eq c =
    let word = c.args.word.now in
    let same = ap (λ (t : List ℕ). bytes_eq word t) (sym c.as_slice.ensures) in
    sym (star_end word (same ∙ sym c.eq.ensures ∙ c.if-eq.true))

pub returns-in-Some : goal.returns-in-Some
returns-in-Some c =
    let word = c.args.word.now in
    let same = ap (λ (t : List ℕ). bytes_eq word t) (sym c.as_slice.ensures) in
    sym (number_end word c.in-Some.n (same ∙ sym c.eq.ensures ∙ c.if-eq.false) (sym c.in-Some.ensures.is))

pub returns-in-None : goal.returns-in-None
returns-in-None c =
    let word = c.args.word.now in
    let same = ap (λ (t : List ℕ). bytes_eq word t) (sym c.as_slice.ensures) in
    sym (no_end word (same ∙ sym c.eq.ensures ∙ c.if-eq.false) (sym c.in-None.ensures.is))
