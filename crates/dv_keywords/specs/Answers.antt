-- What reading a table answers.
use Rattle.std.specs.Prelude.{◌≡◌, Result, Err, ⊤}
use Rattle.dv_keywords.specs.declared.end.TableEnd.{TableEnd}
use Rattle.dv_keywords.specs.declared.end.TableEnd.TheVariants.{Bad, NoMemory}

-- this answer, unless memory ran out
abbrev pub Answers : {A : Type 0} → Result A TableEnd → Result A TableEnd → Type 0
Answers (Err NoMemory) answer = ⊤
Answers r answer = r ≡ answer

-- bad bytes come only with this
abbrev pub OnBad : {A : Type 0} → Result A TableEnd → Type 0 → Type 0
OnBad (Err Bad) P = P
OnBad r P = ⊤
