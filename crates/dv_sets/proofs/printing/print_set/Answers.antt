use Rattle.std.proofs.Common.{◌≡◌, ◌∙◌, ◌∷◌, ◌++◌, ap, sym, codes}
use Rattle.std.specs.List.{flat_map}
use Rattle.dv_model.specs.declared.types.Span.{Span}
use Rattle.dv_formats.specs.Printing.{set_text, span_text}
use Rattle.dv_sets.proofs.Printed.{joined_first}
use Rattle.dv_sets.proofs.printing.print_set.Goals as goal

pub returns : goal.returns
returns c =
    let first : Span = c.in-Some.first.now in
    let others = c.in-Some.others.now in
    let whole : c.args.s.now ≡ first ∷ others = sym c.as_slice.ensures ∙ c.in-Some.ensures.cases.0 in
    let front = c.in_ok-put_span.ensures ∙ ap (λ t. t ++ span_text first) c.new-text.ensures in
    c.in_ok-put_others.ensures ∙ ap (λ t. t ++ flat_map (λ (s : Span). 44 ∷ span_text s) others) front ∙ sym (joined_first (codes ",") span_text first others) ∙ ap set_text (sym whole)
