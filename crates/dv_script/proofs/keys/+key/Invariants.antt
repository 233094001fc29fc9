use Rattle.std.proofs.Common.{◌≡◌, ◌++◌, ◌∷◌, take}
use Rattle.std.specs.Prelude.{flat_map}
use Rattle.dv_formats.specs.Printing.{key_text}
use Rattle.dv_script.proofs.keys.+key.Given as goal

abbrev pub invariant-put_keys-loop-key : goal.invariant-put_keys-loop-key
invariant-put_keys-loop-key l = l.text ≡ l.initial.text ++ flat_map (λ key. 32 ∷ key_text key) (take l.key-index l.others)
