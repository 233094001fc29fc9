-- What choosing by numbers and reading a text answer.
use Rattle.std.specs.Prelude.{◌≡◌, Result, Err, ⊤}
use Rattle.dv_sets.specs.declared.end.ParseEnd.{ParseEnd}
use Rattle.dv_sets.specs.declared.end.ParseEnd.TheVariants as parse_end
use Rattle.dv_sets.specs.declared.end.SetEnd.{SetEnd}
use Rattle.dv_sets.specs.declared.end.SetEnd.TheVariants as set_end

-- these messages, unless memory ran out
abbrev pub Chooses : {A : Type 0} → Result A SetEnd → Result A SetEnd → Type 0
Chooses (Err set_end.NoMemory) answer = ⊤
Chooses r answer = r ≡ answer

-- this answer, unless memory ran out
abbrev pub Answers : {A : Type 0} → Result A ParseEnd → Result A ParseEnd → Type 0
Answers (Err parse_end.NoMemory) answer = ⊤
Answers r answer = r ≡ answer

-- a bad text comes only with this
abbrev pub OnBad : {A : Type 0} → Result A ParseEnd → Type 0 → Type 0
OnBad (Err parse_end.Bad) P = P
OnBad r P = ⊤
