-- What applying a record answers.
use Rattle.std.specs.Prelude.{Result, Err, ⊤}
use Rattle.dv_apply.specs.Bodies.{Refused}
use Rattle.dv_apply.specs.declared.fault.ApplyFault.{ApplyFault}
use Rattle.dv_apply.specs.declared.fault.ApplyFault.TheVariants.{BadAppend}

-- a refused row is named only with this
abbrev pub OnBadAppend : {A : Type 0} → Result A ApplyFault → (Refused → Type 0) → Type 0
OnBadAppend (Err (BadAppend uid next_uid)) P = P (record { uid = uid; next_uid = next_uid })
OnBadAppend r P = ⊤
