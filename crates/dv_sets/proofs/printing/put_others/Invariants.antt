use Rattle.std.proofs.Common.{◌≡◌, ◌∷◌, ◌++◌, take}
use Rattle.std.specs.Prelude.{flat_map}
use Rattle.dv_formats.specs.Printing.{span_text}
use Rattle.dv_sets.proofs.printing.put_others.Given as goal

abbrev pub invariant-loop-span : goal.invariant-loop-span
invariant-loop-span l = l.text ≡ l.initial.text ++ flat_map (λ span. 44 ∷ span_text span) (take l.span-index l.spans)
