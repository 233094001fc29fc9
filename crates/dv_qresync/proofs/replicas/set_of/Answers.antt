use Rattle.std.proofs.Common.{◌≡◌, ◌++◌, ◌∷◌, [], List, ◌∙◌, ap, append-nil, map, rules, sym}
use Rattle.std.specs.Prelude.{reverse}
use Rattle.std.proofs.lemmas.List.{append_assoc, reverse-append}
use Rattle.dv_model.specs.declared.types.Pair.{Pair}
use Rattle.dv_model.specs.declared.types.Span.{Span}
use Rattle.dv_qresync.specs.Replicas.{span_of}
use Rattle.dv_qresync.proofs.replicas.set_of.Goals as goal

pub loop-range-preserved : goal.loop-range-preserved
loop-range-preserved c =
    let left : List Pair = c.pop.new.self.items in
    ap (λ (spans : List Span). spans ++ map span_of (reverse left)) c.in_ok-push.ensures.ok
    ∙ append_assoc c.loop-range.set (span_of c.in-Some.range ∷ []) (map span_of (reverse left))
    ∙ ap (λ (ps : List Pair). c.loop-range.set ++ map span_of ps) (sym (ap reverse c.in-Some.ensures.items ∙ reverse-append left (c.in-Some.range ∷ [])))
    ∙ c.loop-range.invariant

pub returns : goal.returns
returns c =
    let none : c.loop-range.ranges.items ≡ [] = search rules in
    sym (append-nil c.loop-range.set)
    ∙ ap (λ (ps : List Pair). c.loop-range.set ++ map span_of (reverse ps)) (sym none)
    ∙ c.loop-range.invariant
