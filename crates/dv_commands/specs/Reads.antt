-- What a reader answers.
use Rattle.std.specs.Prelude.{◌≡◌, Option, Some, None, Result, Ok, Err}
use Rattle.dv_sets.specs.declared.end.ParseEnd.{ParseEnd}
use Rattle.dv_sets.specs.declared.end.ParseEnd.TheVariants as parse_end

-- nothing is of the form, or memory ran out
abbrev pub Fails : {Y : Type 0} → ParseEnd → Option Y → Type 0
Fails parse_end.Bad read = read ≡ None
Fails parse_end.NoMemory read = Unit {0}

-- what was read, seen by this view, is what is read by definition, unless memory ran out
abbrev pub Gives : {X Y : Type 0} → (X → Y) → Result X ParseEnd → Option Y → Type 0
Gives view (Ok x) read = read ≡ Some (view x)
Gives view (Err e) read = Fails e read
