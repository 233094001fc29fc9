use Rattle.std.proofs.Common.{◌≡◌, ◌∷◌, ◌++◌, [], take}
use Rattle.std.specs.Prelude.{flat_map}
use Rattle.dv_sets.proofs.printing.put_keywords.Given as goal

abbrev pub invariant-loop-keyword : goal.invariant-loop-keyword
invariant-loop-keyword l = l.text ≡ l.initial.text ++ flat_map (λ word. word ++ 32 ∷ []) (take l.keyword-index l.keywords)
