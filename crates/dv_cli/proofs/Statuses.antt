-- Which end a status comes from.
use Rattle.std.proofs.Common.{◌≡◌, ◌⊎◌, inl, inr, ℕ, zero, suc, ◌≤◌, List, Result, Err, refl, sym, ◌∙◌, subst, arith}
use Rattle.std.specs.Prelude.{Option, None}
use Rattle.dv_model.specs.declared.types.OpenFault.{OpenFault}
use Rattle.dv_model.specs.declared.types.OpenFault.TheVariants as fault
use Rattle.dv_model.specs.Counts.{Rose, RoseBy}
use Rattle.dv_shelf.specs.Folders.{Folder}
use Rattle.dv_formats.specs.Parsing.{ScriptFault}
use Rattle.dv_formats.specs.Scripts.{NamedLine}
use Rattle.dv_script.specs.declared.types.ScriptEnd.{ScriptEnd}
use Rattle.dv_script.specs.declared.types.ScriptEnd.TheVariants as script
use Rattle.dv_cli.specs.declared.ending.End.{End}
use Rattle.dv_cli.specs.declared.ending.End.TheVariants as end
use Rattle.dv_cli.specs.Causes.{ComesFrom, Counts, HasCauses, TellsFaults, TellsScript, counts_of}
use Rattle.dv_cli.specs.declared.words.Task.{Task}
use Rattle.dv_cli.specs.Endings.{IsStatus, status_of}
use Rattle.dv_beginning.specs.Causes.{HasFault, IsFault, fault_status}
use Rattle.dv_cli.specs.Tasks.{EndsBy, HasScript, Opens}

-- ---- counts

pub rose_on : (before mid now : ℕ) → Rose before mid → mid ≤ now → Rose before now
rose_on before mid now rose later = omega (arith, rose, later)

pub rose_after : (before mid now : ℕ) → before ≤ mid → Rose mid now → Rose before now
rose_after before mid now later rose = omega (arith, rose, later)

-- nothing failed where the count didn't rise
pub none_failed : (n before now : ℕ) → RoseBy n before now → (Rose before now → ⊥) → n ≡ 0
none_failed zero before now by still = refl
none_failed (suc n) before now by still = absurd (still (omega (arith, by)))

-- ---- numbers

pub fault_range : (f : OpenFault) → (2 ≤ fault_status f) × (fault_status f ≤ 4)
fault_range (fault.Disk faults) = (omega arith, omega arith)
fault_range fault.NoMemory = (omega arith, omega arith)
fault_range fault.NoLog = (omega arith, omega arith)
fault_range fault.BadLogHeader = (omega arith, omega arith)
fault_range (fault.BadRecord offset) = (omega arith, omega arith)
fault_range fault.BadIndex = (omega arith, omega arith)
fault_range (fault.Gap index log) = (omega arith, omega arith)

pub script_range : (s : ScriptEnd) → (4 ≤ status_of (end.Script s)) × (status_of (end.Script s) ≤ 5)
script_range (script.BadLine line) = (omega arith, omega arith)
script_range script.TooLong = (omega arith, omega arith)
script_range (script.ShortLiteral line) = (omega arith, omega arith)
script_range script.NoMemory = (omega arith, omega arith)

small : (e : End) → status_of e ≤ 7
small (end.Answered mark groups loaded) = omega arith
small (end.Rebuilt kept skipped) = omega arith
small end.Usage = omega arith
small (end.Unopened f) = omega (arith, fault_range f)
small end.NoMemory = omega arith
small (end.Script s) = omega (arith, script_range s)
small (end.Source faults) = omega arith
small end.Sink = omega arith

pub status_small : (e : End) (status : ℕ) → IsStatus e status → status ≤ 7
status_small e status (inl is) = let le = small e in omega (arith, is, le)
status_small e status (inr (inl four)) = omega (arith, four.1)
status_small e status (inr (inr seven)) = omega (arith, seven)

-- any other status than that of want of memory and of a failed output is the end's
pub status_is : (e : End) (status k : ℕ) → IsStatus e status → status ≡ k → (k ≡ 4 → ⊥)
    → (k ≡ 7 → ⊥) → status_of e ≡ k
status_is e status k (inl is) at not-four not-seven = sym is ∙ at
status_is e status k (inr (inl four)) at not-four not-seven = absurd (not-four (sym at ∙ four.1))
status_is e status k (inr (inr seven)) at not-four not-seven = absurd (not-seven (sym at ∙ seven))

-- ---- ends by their numbers

usage_end : (t : Option Task) (e : End) → EndsBy t e → status_of e ≡ 1 → t ≡ None
usage_end t (end.Answered mark groups loaded) by is = absurd (omega (arith, is))
usage_end t (end.Rebuilt kept skipped) by is = absurd (omega (arith, is))
usage_end t end.Usage by is = by
usage_end t (end.Unopened f) by is = let r = fault_range f in absurd (omega (arith, is, r))
usage_end t end.NoMemory by is = absurd (omega (arith, is))
usage_end t (end.Script s) by is = let r = script_range s in absurd (omega (arith, is, r))
usage_end t (end.Source faults) by is = absurd (omega (arith, is))
usage_end t end.Sink by is = absurd (omega (arith, is))

opened_end : (t : Option Task) (e : End) → EndsBy t e → status_of e ≡ 3 → Opens t
opened_end t (end.Answered mark groups loaded) by is = by
opened_end t (end.Rebuilt kept skipped) by is = absurd (omega (arith, is))
opened_end t end.Usage by is = absurd (omega (arith, is))
opened_end t (end.Unopened f) by is = by.1 is
opened_end t end.NoMemory by is = absurd (omega (arith, is))
opened_end t (end.Script s) by is = let r = script_range s in absurd (omega (arith, is, r))
opened_end t (end.Source faults) by is = absurd (omega (arith, is))
opened_end t end.Sink by is = absurd (omega (arith, is))

-- a script that is refused or couldn't be read is that of a task which reads one
read_end : (t : Option Task) (e : End) → EndsBy t e → 5 ≤ status_of e → status_of e ≤ 6
    → HasScript t
read_end t (end.Answered mark groups loaded) by ge le = absurd (omega (arith, ge))
read_end t (end.Rebuilt kept skipped) by ge le = absurd (omega (arith, ge))
read_end t end.Usage by ge le = absurd (omega (arith, ge))
read_end t (end.Unopened f) by ge le = let r = fault_range f in absurd (omega (arith, ge, r))
read_end t end.NoMemory by ge le = absurd (omega (arith, ge))
read_end t (end.Script s) by ge le = by
read_end t (end.Source faults) by ge le = by
read_end t end.Sink by ge le = absurd (omega (arith, le))

disk_fault : (before now : Counts) (f : OpenFault) → ComesFrom before now (end.Unopened f)
    → fault_status f ≡ 2 → Rose before.shelf now.shelf
disk_fault before now (fault.Disk faults) cause is = cause.0
disk_fault before now fault.NoMemory cause is = absurd (omega (arith, is))
disk_fault before now fault.NoLog cause is = absurd (omega (arith, is))
disk_fault before now fault.BadLogHeader cause is = absurd (omega (arith, is))
disk_fault before now (fault.BadRecord offset) cause is = absurd (omega (arith, is))
disk_fault before now fault.BadIndex cause is = absurd (omega (arith, is))
disk_fault before now (fault.Gap index log) cause is = absurd (omega (arith, is))

disk_end : (before now : Counts) (e : End) → ComesFrom before now e → status_of e ≡ 2
    → Rose before.shelf now.shelf
disk_end before now (end.Answered mark groups loaded) cause is = absurd (omega (arith, is))
disk_end before now (end.Rebuilt kept skipped) cause is = absurd (omega (arith, is))
disk_end before now end.Usage cause is = absurd (omega (arith, is))
disk_end before now (end.Unopened f) cause is = disk_fault before now f cause is
disk_end before now end.NoMemory cause is = absurd (omega (arith, is))
disk_end before now (end.Script s) cause is = let r = script_range s in absurd (omega (arith, is, r))
disk_end before now (end.Source faults) cause is = absurd (omega (arith, is))
disk_end before now end.Sink cause is = absurd (omega (arith, is))

-- a fault that is told is the folder's
pub fault_told : (folder : Folder) (f : OpenFault) → TellsFaults folder (end.Unopened f) → IsFault f
    → HasFault folder
fault_told folder f tells is =
    record { fault = f; is = is; found = (tells is).0; some = (tells is).1 }

found_end : (folder : Folder) (e : End) → TellsFaults folder e → status_of e ≡ 3 → HasFault folder
found_end folder (end.Answered mark groups loaded) tells is = absurd (omega (arith, is))
found_end folder (end.Rebuilt kept skipped) tells is = absurd (omega (arith, is))
found_end folder end.Usage tells is = absurd (omega (arith, is))
found_end folder (end.Unopened f) tells is = fault_told folder f tells is
found_end folder end.NoMemory tells is = absurd (omega (arith, is))
found_end folder (end.Script s) tells is = let r = script_range s in absurd (omega (arith, is, r))
found_end folder (end.Source faults) tells is = absurd (omega (arith, is))
found_end folder end.Sink tells is = absurd (omega (arith, is))

script_fault : (read : Result (List NamedLine) ScriptFault) (s : ScriptEnd)
    → TellsScript read (end.Script s) → status_of (end.Script s) ≡ 5
    → (fault : ScriptFault) × (read ≡ Err fault)
script_fault read (script.BadLine line) tells is = (ScriptFault.BadLine line, tells)
script_fault read script.TooLong tells is = (ScriptFault.TooLong, tells)
script_fault read (script.ShortLiteral line) tells is = (ScriptFault.ShortLiteral line, tells)
script_fault read script.NoMemory tells is = absurd (omega (arith, is))

script_end : (read : Result (List NamedLine) ScriptFault) (e : End) → TellsScript read e
    → status_of e ≡ 5 → (fault : ScriptFault) × (read ≡ Err fault)
script_end read (end.Answered mark groups loaded) tells is = absurd (omega (arith, is))
script_end read (end.Rebuilt kept skipped) tells is = absurd (omega (arith, is))
script_end read end.Usage tells is = absurd tells
script_end read (end.Unopened f) tells is = let r = fault_range f in absurd (omega (arith, is, r))
script_end read end.NoMemory tells is = absurd (omega (arith, is))
script_end read (end.Script s) tells is = script_fault read s tells is
script_end read (end.Source faults) tells is = absurd (omega (arith, is))
script_end read end.Sink tells is = absurd (omega (arith, is))

source_end : (before now : Counts) (e : End) → ComesFrom before now e → status_of e ≡ 6
    → Rose before.source now.source
source_end before now (end.Answered mark groups loaded) cause is = absurd (omega (arith, is))
source_end before now (end.Rebuilt kept skipped) cause is = absurd (omega (arith, is))
source_end before now end.Usage cause is = absurd (omega (arith, is))
source_end before now (end.Unopened f) cause is =
    let r = fault_range f in absurd (omega (arith, is, r))
source_end before now end.NoMemory cause is = absurd (omega (arith, is))
source_end before now (end.Script s) cause is =
    let r = script_range s in absurd (omega (arith, is, r))
source_end before now (end.Source faults) cause is = cause.0
source_end before now end.Sink cause is = absurd (omega (arith, is))

-- ---- the last line's own failure

-- a failed output has its cause before the last line or at it
pub sink_cause : (before mid : Counts) (now : ℕ) (e : End) → ComesFrom before mid e
    → before.output ≤ mid.output → mid.output ≤ now → (e ≡ end.Sink) ⊎ Rose mid.output now
    → Rose before.output now
sink_cause before mid now e cause later since (inl is) =
    rose_on before.output mid.output now (subst (λ (x : End). ComesFrom before mid x) is cause) since
sink_cause before mid now e cause later since (inr rose) =
    rose_after before.output mid.output now later rose

unopened_later : (before : Counts) (shelf source mid now : ℕ) (f : OpenFault)
    → ComesFrom before (counts_of shelf source mid) (end.Unopened f)
    → ComesFrom before (counts_of shelf source now) (end.Unopened f)
unopened_later before shelf source mid now (fault.Disk faults) cause = cause
unopened_later before shelf source mid now fault.NoMemory cause = tt
unopened_later before shelf source mid now fault.NoLog cause = tt
unopened_later before shelf source mid now fault.BadLogHeader cause = tt
unopened_later before shelf source mid now (fault.BadRecord offset) cause = tt
unopened_later before shelf source mid now fault.BadIndex cause = tt
unopened_later before shelf source mid now (fault.Gap index log) cause = tt

-- behind the last line an end comes from the same
pub comes_later : (before : Counts) (shelf source mid now : ℕ) (e : End) → mid ≤ now
    → ComesFrom before (counts_of shelf source mid) e
    → ComesFrom before (counts_of shelf source now) e
comes_later before shelf source mid now (end.Answered mark groups loaded) since cause = tt
comes_later before shelf source mid now (end.Rebuilt kept skipped) since cause = tt
comes_later before shelf source mid now end.Usage since cause = tt
comes_later before shelf source mid now (end.Unopened f) since cause =
    unopened_later before shelf source mid now f cause
comes_later before shelf source mid now end.NoMemory since cause = tt
comes_later before shelf source mid now (end.Script s) since cause = tt
comes_later before shelf source mid now (end.Source faults) since cause = cause
comes_later before shelf source mid now end.Sink since cause =
    rose_on before.output mid now cause since

-- ---- all causes of a status

pub causes_of : (status : ℕ) (t : Option Task) (before now : Counts)
    (folder : Folder) (read : Result (List NamedLine) ScriptFault) (holds told : Type 0) (e : End)
    → IsStatus e status → EndsBy t e → ComesFrom before now e
    → (status ≡ 7 → Rose before.output now.output) → (holds → TellsFaults folder e)
    → (HasScript t → told → TellsScript read e)
    → HasCauses status t before now (holds → HasFault folder)
    (told → (fault : ScriptFault) × (read ≡ Err fault))
causes_of status t before now folder read holds told e is by cause sink faults lines =
    record {
      small = status_small e status is;
      usage = λ at. usage_end t e by (status_is e status 1 is at (λ x. omega (arith, x)) (λ x. omega (arith, x)));
      disk = λ at. disk_end before now e cause (status_is e status 2 is at (λ x. omega (arith, x)) (λ x. omega (arith, x)));
      found = λ at.
          let k = status_is e status 3 is at (λ x. omega (arith, x)) (λ x. omega (arith, x)) in
          (opened_end t e by k, λ h. found_end folder e (faults h) k);
      script = λ at.
          let k = status_is e status 5 is at (λ x. omega (arith, x)) (λ x. omega (arith, x)) in
          let run = read_end t e by (omega (arith, k)) (omega (arith, k)) in
          (run, λ tells. script_end read e (lines run tells) k);
      source = λ at.
          let k = status_is e status 6 is at (λ x. omega (arith, x)) (λ x. omega (arith, x)) in
          (read_end t e by (omega (arith, k)) (omega (arith, k)), source_end before now e cause k);
      output = sink;
    }
