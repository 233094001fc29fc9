-- What is told by how a run ends, and by its status.
use Rattle.std.proofs.Common.{◌≡◌, ◌⊎◌, inl, inr, ⊎_elim, ℕ, List, refl, sym, ap, subst}
use Rattle.std.specs.Prelude.{Err, Ok, Option, Result}
use Rattle.dv_formats.specs.Parsing.{ScriptFault}
use Rattle.dv_formats.specs.Scripts.{NamedLine}
use Rattle.dv_notices.specs.declared.telling.Told.{Told}
use Rattle.dv_notices.specs.declared.telling.Told.TheVariants as told
use Rattle.dv_script.specs.declared.types.ScriptEnd.{ScriptEnd}
use Rattle.dv_script.specs.declared.types.ScriptEnd.TheVariants as script
use Rattle.dv_cli.specs.Causes.{EndsRefused}
use Rattle.dv_cli.specs.Endings.{IsStatus}
use Rattle.dv_cli.specs.Tasks.{EndsBy}
use Rattle.dv_cli.specs.Told.{IsToldAt, IsToldBy, TellsEnd, TellsFault}
use Rattle.dv_cli.specs.declared.ending.End.{End}
use Rattle.dv_cli.specs.declared.ending.End.TheVariants as end
use Rattle.dv_cli.specs.declared.words.Task.{Task}

-- ---- where nothing is told

nothing_ends : (text : List ℕ) (e : End) → TellsEnd text e told.Nothing
nothing_ends text (end.Answered mark groups loaded) = refl
nothing_ends text (end.Rebuilt kept skipped) = refl
nothing_ends text end.Usage = refl
nothing_ends text (end.Unopened f) = refl
nothing_ends text end.NoMemory = refl
nothing_ends text (end.Script (script.BadLine number)) = tt
nothing_ends text (end.Script (script.ShortLiteral number)) = tt
nothing_ends text (end.Script script.TooLong) = refl
nothing_ends text (end.Script script.NoMemory) = refl
nothing_ends text (end.Source faults) = refl
nothing_ends text end.Sink = refl

pub quiet_ends : (text : List ℕ) (e : End) (said : Told) → said ≡ told.Nothing → TellsEnd text e said
quiet_ends text e said none = subst (TellsEnd text e) (sym none) (nothing_ends text e)

pub quiet_at : (e : End) (said : Told) → said ≡ told.Nothing → IsToldAt e said
quiet_at e said none = subst (IsToldAt e) (sym none) tt

nothing_faults : (fault : ScriptFault) (text : List ℕ) → TellsFault fault text told.Nothing
nothing_faults (ScriptFault.BadLine number) text = tt
nothing_faults (ScriptFault.ShortLiteral number) text = tt
nothing_faults ScriptFault.TooLong text = refl

-- ---- a script that is refused

quiet_faults : (fault : ScriptFault) (text : List ℕ) (said : Told) → said ≡ told.Nothing → TellsFault fault text said
quiet_faults fault text said none = subst (TellsFault fault text) (sym none) (nothing_faults fault text)

-- an error's fault
abbrev fault_in : Result (List NamedLine) ScriptFault → ScriptFault → ScriptFault
fault_in (Err fault) other = fault
fault_in (Ok lines) other = other

same_fault : (fault other : ScriptFault) → ◌≡◌ {A = Result (List NamedLine) ScriptFault} (Err fault) (Err other) → fault ≡ other
same_fault fault other is = ap (λ (r : Result (List NamedLine) ScriptFault). fault_in r fault) is

by_end : (fault : ScriptFault) (s : ScriptEnd) (text : List ℕ) (said : Told) → EndsRefused fault (end.Script s) → TellsEnd text (end.Script s) said → TellsFault fault text said
by_end fault (script.BadLine number) text said is tells = subst (λ (f : ScriptFault). TellsFault f text said) (sym (same_fault fault (ScriptFault.BadLine number) is)) tells
by_end fault (script.ShortLiteral number) text said is tells = subst (λ (f : ScriptFault). TellsFault f text said) (sym (same_fault fault (ScriptFault.ShortLiteral number) is)) tells
by_end fault script.TooLong text said is tells = quiet_faults fault text said tells
by_end fault script.NoMemory text said is tells = quiet_faults fault text said tells

pub fault_told : (fault : ScriptFault) (e : End) (text : List ℕ) (said : Told) → EndsRefused fault e → TellsEnd text e said → TellsFault fault text said
fault_told fault (end.Script s) text said is tells = by_end fault s text said is tells
fault_told fault (end.Source faults) text said is tells = quiet_faults fault text said tells
fault_told fault end.NoMemory text said is tells = quiet_faults fault text said tells
fault_told fault (end.Answered mark groups loaded) text said is tells = absurd is
fault_told fault (end.Rebuilt kept skipped) text said is tells = absurd is
fault_told fault end.Usage text said is tells = absurd is
fault_told fault (end.Unopened f) text said is tells = absurd is
fault_told fault end.Sink text said is tells = absurd is

-- ---- by the status

script_status : (s : ScriptEnd) (status : ℕ) → IsStatus (end.Script s) status → (status ≡ 4) ⊎ (status ≡ 5) ⊎ (status ≡ 7)
script_status s status is = ⊎_elim (own s) (⊎_elim (λ plain. inl plain.1) (λ seven. inr (inr seven))) is
  where
    own : (x : ScriptEnd) → status ≡ Rattle.dv_cli.specs.Endings.status_of (end.Script x) → (status ≡ 4) ⊎ (status ≡ 5) ⊎ (status ≡ 7)
    own script.NoMemory four = inl four
    own script.TooLong five = inr (inl five)
    own (script.BadLine number) five = inr (inl five)
    own (script.ShortLiteral number) five = inr (inl five)

rebuilt_status : (kept skipped status : ℕ) → IsStatus (end.Rebuilt kept skipped) status → (status ≡ 0) ⊎ (status ≡ 4) ⊎ (status ≡ 7)
rebuilt_status kept skipped status is = ⊎_elim (λ zero. inl zero) (⊎_elim (λ plain. inr (inl plain.1)) (λ seven. inr (inr seven))) is

pub told_by : (t : Option Task) (e : End) (status : ℕ) (said : Told) → EndsBy t e → IsStatus e status → IsToldAt e said → IsToldBy t status said
told_by t e status told.Nothing ends is at = tt
told_by t (end.Script s) status (told.BadLine line) ends is at = (ends, script_status s status is)
told_by t (end.Rebuilt kept skipped) status (told.Rebuilt rebuilt) ends is at = (ends, rebuilt_status kept skipped status is)
told_by t (end.Answered mark groups loaded) status (told.BadLine line) ends is at = absurd at
told_by t (end.Rebuilt kept skipped) status (told.BadLine line) ends is at = absurd at
told_by t end.Usage status (told.BadLine line) ends is at = absurd at
told_by t (end.Unopened f) status (told.BadLine line) ends is at = absurd at
told_by t end.NoMemory status (told.BadLine line) ends is at = absurd at
told_by t (end.Source faults) status (told.BadLine line) ends is at = absurd at
told_by t end.Sink status (told.BadLine line) ends is at = absurd at
told_by t (end.Answered mark groups loaded) status (told.Rebuilt rebuilt) ends is at = absurd at
told_by t end.Usage status (told.Rebuilt rebuilt) ends is at = absurd at
told_by t (end.Unopened f) status (told.Rebuilt rebuilt) ends is at = absurd at
told_by t end.NoMemory status (told.Rebuilt rebuilt) ends is at = absurd at
told_by t (end.Script s) status (told.Rebuilt rebuilt) ends is at = absurd at
told_by t (end.Source faults) status (told.Rebuilt rebuilt) ends is at = absurd at
told_by t end.Sink status (told.Rebuilt rebuilt) ends is at = absurd at
