-- How often the clock is read.
use Rattle.std.proofs.Common.{◌≡◌, ℕ, ◌≤◌, Err, refl, arith}
use Rattle.dv_model.specs.declared.types.OpenFault.{OpenFault}
use Rattle.dv_model.specs.declared.types.OpenFault.TheVariants as fault
use Rattle.dv_script.specs.declared.types.ScriptEnd.{ScriptEnd}
use Rattle.dv_serving.specs.Readings.{TakesUpTo}
use Rattle.dv_beginning.proofs.Readings.{takes_none}
use Rattle.dv_cli.specs.declared.ending.End.{End}
use Rattle.dv_cli.specs.declared.ending.End.TheVariants as end
use Rattle.dv_cli.specs.Causes.{TakesByEnd, TakesByStatus, TakesForRun, most_readings}
use Rattle.dv_cli.specs.Endings.{IsStatus, status_of}
use Rattle.dv_beginning.specs.Causes.{TakesForOpening, fault_status}
use Rattle.dv_cli.proofs.Statuses.{fault_range, status_is}

-- ---- so many at most

pub takes_more : (few most : ℕ) (old new : ℕ → ℕ) → few ≤ most → TakesUpTo few old new
    → TakesUpTo most old new
takes_more few most old new le takes = (takes.0, omega (arith, le, takes.1), takes.2)

opening_takes : (most : ℕ) (old new : ℕ → ℕ) (f : OpenFault) → 1 ≤ most
    → TakesForOpening old new {A = Unit {0}} (Err f) → TakesUpTo most old new
opening_takes most old new (fault.Disk faults) le takes = takes_more 1 most old new le takes
opening_takes most old new fault.NoMemory le takes = takes_more 1 most old new le takes
opening_takes most old new fault.NoLog le is = takes_none most old new is
opening_takes most old new fault.BadLogHeader le is = takes_none most old new is
opening_takes most old new (fault.BadRecord offset) le is = takes_none most old new is
opening_takes most old new fault.BadIndex le is = takes_none most old new is
opening_takes most old new (fault.Gap index log) le is = takes_none most old new is

-- a run over a folder reads it so often at most
pub run_takes : (lines : ℕ) (old new : ℕ → ℕ) (e : End) → TakesForRun lines old new e
    → TakesUpTo (most_readings lines) old new
run_takes lines old new (end.Unopened f) takes =
    opening_takes (most_readings lines) old new f (omega arith) takes
run_takes lines old new (end.Answered mark groups loaded) takes = takes
run_takes lines old new (end.Rebuilt kept skipped) takes = takes
run_takes lines old new end.Usage takes = takes
run_takes lines old new end.NoMemory takes = takes
run_takes lines old new (end.Script s) takes = takes
run_takes lines old new (end.Source faults) takes = takes
run_takes lines old new end.Sink takes = takes

-- ---- by the end

-- a run over a folder ends neither by its words nor by its script
pub run_by_end : (lines : ℕ) (old new : ℕ → ℕ) (e : End) → TakesForRun lines old new e
    → (e ≡ end.Usage → ⊥) → ((s : ScriptEnd) → e ≡ end.Script s → ⊥)
    → ((n : ℕ) → e ≡ end.Source n → ⊥) → TakesByEnd old new e
run_by_end lines old new (end.Answered mark groups loaded) takes usage script source = tt
run_by_end lines old new (end.Rebuilt kept skipped) takes usage script source = tt
run_by_end lines old new end.Usage takes usage script source = absurd (usage refl)
run_by_end lines old new (end.Unopened f) takes usage script source = takes
run_by_end lines old new end.NoMemory takes usage script source = tt
run_by_end lines old new (end.Script s) takes usage script source = absurd (script s refl)
run_by_end lines old new (end.Source n) takes usage script source = absurd (source n refl)
run_by_end lines old new end.Sink takes usage script source = tt

-- ---- by the status

usage_takes : (old new : ℕ → ℕ) (e : End) → TakesByEnd old new e → status_of e ≡ 1 → new ≡ old
usage_takes old new (end.Answered mark groups loaded) takes is = absurd (omega (arith, is))
usage_takes old new (end.Rebuilt kept skipped) takes is = absurd (omega (arith, is))
usage_takes old new end.Usage takes is = takes
usage_takes old new (end.Unopened f) takes is =
    let r = fault_range f in absurd (omega (arith, is, r))
usage_takes old new end.NoMemory takes is = absurd (omega (arith, is))
usage_takes old new (end.Script s) takes is = takes
usage_takes old new (end.Source faults) takes is = takes
usage_takes old new end.Sink takes is = absurd (omega (arith, is))

disk_opening : (old new : ℕ → ℕ) (f : OpenFault)
    → TakesForOpening old new {A = Unit {0}} (Err f) → fault_status f ≡ 2 → TakesUpTo 1 old new
disk_opening old new f takes is = opening_takes 1 old new f (omega arith) takes

disk_takes : (old new : ℕ → ℕ) (e : End) → TakesByEnd old new e → status_of e ≡ 2
    → TakesUpTo 1 old new
disk_takes old new (end.Answered mark groups loaded) takes is = absurd (omega (arith, is))
disk_takes old new (end.Rebuilt kept skipped) takes is = absurd (omega (arith, is))
disk_takes old new end.Usage takes is = takes_none 1 old new takes
disk_takes old new (end.Unopened f) takes is = disk_opening old new f takes is
disk_takes old new end.NoMemory takes is = absurd (omega (arith, is))
disk_takes old new (end.Script s) takes is = takes_none 1 old new takes
disk_takes old new (end.Source faults) takes is = takes_none 1 old new takes
disk_takes old new end.Sink takes is = absurd (omega (arith, is))

found_opening : (old new : ℕ → ℕ) (f : OpenFault)
    → TakesForOpening old new {A = Unit {0}} (Err f) → fault_status f ≡ 3 → new ≡ old
found_opening old new (fault.Disk faults) takes is = absurd (omega (arith, is))
found_opening old new fault.NoMemory takes is = absurd (omega (arith, is))
found_opening old new fault.NoLog takes is = takes
found_opening old new fault.BadLogHeader takes is = takes
found_opening old new (fault.BadRecord offset) takes is = takes
found_opening old new fault.BadIndex takes is = takes
found_opening old new (fault.Gap index log) takes is = takes

found_takes : (old new : ℕ → ℕ) (e : End) → TakesByEnd old new e → status_of e ≡ 3 → new ≡ old
found_takes old new (end.Answered mark groups loaded) takes is = absurd (omega (arith, is))
found_takes old new (end.Rebuilt kept skipped) takes is = absurd (omega (arith, is))
found_takes old new end.Usage takes is = takes
found_takes old new (end.Unopened f) takes is = found_opening old new f takes is
found_takes old new end.NoMemory takes is = absurd (omega (arith, is))
found_takes old new (end.Script s) takes is = takes
found_takes old new (end.Source faults) takes is = takes
found_takes old new end.Sink takes is = absurd (omega (arith, is))

read_takes : (old new : ℕ → ℕ) (e : End) → TakesByEnd old new e → 5 ≤ status_of e
    → status_of e ≤ 6 → new ≡ old
read_takes old new (end.Answered mark groups loaded) takes ge le = absurd (omega (arith, ge))
read_takes old new (end.Rebuilt kept skipped) takes ge le = absurd (omega (arith, ge))
read_takes old new end.Usage takes ge le = takes
read_takes old new (end.Unopened f) takes ge le =
    let r = fault_range f in absurd (omega (arith, ge, r))
read_takes old new end.NoMemory takes ge le = absurd (omega (arith, ge))
read_takes old new (end.Script s) takes ge le = takes
read_takes old new (end.Source faults) takes ge le = takes
read_takes old new end.Sink takes ge le = absurd (omega (arith, le))

pub status_takes : (old new : ℕ → ℕ) (status : ℕ) (e : End) → IsStatus e status
    → TakesByEnd old new e → TakesByStatus status old new
status_takes old new status e is takes = record {
  usage = λ at. usage_takes old new e takes (status_is e status 1 is at (λ x. omega (arith, x)) (λ x. omega (arith, x)));
  disk = λ at. disk_takes old new e takes (status_is e status 2 is at (λ x. omega (arith, x)) (λ x. omega (arith, x)));
  found = λ at. found_takes old new e takes (status_is e status 3 is at (λ x. omega (arith, x)) (λ x. omega (arith, x)));
  script = λ at. let k = status_is e status 5 is at (λ x. omega (arith, x)) (λ x. omega (arith, x)) in
      read_takes old new e takes (omega (arith, k)) (omega (arith, k));
  source = λ at. let k = status_is e status 6 is at (λ x. omega (arith, x)) (λ x. omega (arith, x)) in
      read_takes old new e takes (omega (arith, k)) (omega (arith, k));
}
