-- What an output has taken.
use Rattle.std.specs.Prelude.{ℕ, List}
use Rattle.dv_shelf.specs.Sees.{SeesOutput}

-- An output, and the bytes that it has taken before and now, where it tells them.
pub record Output : Type 1 where
  pub told : Type 0
  pub taken : List ℕ
  pub taken_now : List ℕ

-- that of these bytes
abbrev pub output_with : Type 0 → List ℕ → List ℕ → Output
output_with told taken taken_now =
    record { told = told; taken = taken; taken_now = taken_now }

-- that of an object, before and now
abbrev pub output_of : {O : Type 0} → SeesOutput O → O → O → Output
output_of sees old new = output_with sees.tells (sees.taken old) (sees.taken new)
