use Rattle.std.proofs.Common.{◌≡◌, ◌∷◌, ◌++◌, take}
use Rattle.std.specs.Prelude.{flat_map}
use Rattle.dv_model.specs.Texts.{value_text}
use Rattle.dv_script.proofs.value.put_values.Given as goal

abbrev pub invariant-loop-value : goal.invariant-loop-value
invariant-loop-value l = l.text ≡ l.initial.text ++ flat_map (λ v. 32 ∷ value_text v) (take l.value-index l.values)
