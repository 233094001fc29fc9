-- A script that a POP3 session is given: what it says, how the run ends, and how often the clock is read.
use Rattle.std.proofs.Common.{◌≡◌, ◌∙◌, ◌<◌, ◌≤◌, ⊎_elim, ap, sym, subst, refl, ℕ, List, length, take, arith}
use Rattle.std.specs.Prelude.{Option, Some, None, Result, Ok, Err, unwrap_or}
use Rattle.std.proofs.lemmas.Bool.{cases_lt, lt-ltb}
use Rattle.std.proofs.lemmas.List.{length-take, take_all}
use Rattle.dv_model.specs.declared.types.Mark.{Mark}
use Rattle.dv_model.specs.declared.types.OpenFault.TheVariants as open_fault
use Rattle.dv_model.specs.Counts.{RoseBy}
use Rattle.dv_model.specs.Journals.{Log}
use Rattle.dv_shelf.specs.Sees.{SeesFolder}
use Rattle.dv_formats.specs.Scripts.{script_limit}
use Rattle.dv_maildrop.specs.declared.types.PopLine.{PopLine}
use Rattle.dv_maildrop.specs.Scripts.{script_commands}
use Rattle.dv_member.specs.Members.{Member}
use Rattle.dv_serving.specs.Faults.{Faults}
use Rattle.dv_serving.specs.Outputs.{Output}
use Rattle.dv_pop3.specs.declared.entering.PopFault.{PopFault}
use Rattle.dv_pop3.specs.declared.entering.PopFault.TheVariants as fault
use Rattle.dv_pop3.specs.declared.lines.LinesEnd.{LinesEnd}
use Rattle.dv_pop3.specs.declared.lines.LinesEnd.TheVariants as lines_end
use Rattle.dv_pop3.specs.Servings.{HasServed}
use Rattle.dv_pop3_serving.specs.declared.ending.PopEnd.{PopEnd}
use Rattle.dv_pop3_serving.specs.Ends.{end_of}
use Rattle.dv_pop3_serving.specs.Serves.{NoneBegan, OneServed, ServesPop}
use Rattle.dv_cli.specs.declared.ending.End.{End}
use Rattle.dv_cli.specs.declared.ending.End.TheVariants as end
use Rattle.dv_cli.specs.Causes.{TakesByStatus}
use Rattle.dv_cli.specs.Endings.{IsStatus, status_of}
use Rattle.dv_cli.specs.Readings.{read_limit}
use Rattle.dv_cli.proofs.Statuses.{status_is}
use Rattle.dv_cli.proofs.Takes.{status_takes}
use Rattle.dv_program.specs.Pop3.{IsDiskCaused}
use Rattle.dv_program.specs.Readings.{TakesUnlessDisk, TakesWhereRefused}

-- ---- the script

too_long : (s : List ℕ) → script_limit < length s → script_commands s ≡ None
too_long s long = rw (lt-ltb script_limit (length s) long) refl

-- more than the longest script isn't looked at
front_commands : (script : List ℕ) → script_commands (take read_limit script) ≡ script_commands script
front_commands script = ⊎_elim whole cut (cases_lt read_limit (length script))
  where
    whole : read_limit < length script → script_commands (take read_limit script) ≡ script_commands script
    whole long =
        let front : script_limit < length (take read_limit script) = omega (arith, length-take read_limit script, long) in
        too_long (take read_limit script) front ∙ sym (too_long script (omega (arith, long)))

    cut : length script ≤ read_limit → script_commands (take read_limit script) ≡ script_commands script
    cut short = ap script_commands (take_all read_limit script short)

-- so what was read of its front is what it says
pub read_so : (script text : List ℕ) (read said : Option (List PopLine)) → text ≡ take read_limit script → read ≡ script_commands text → read ≡ said → script_commands script ≡ said
read_so script text read said front by is = sym (front_commands script) ∙ ap script_commands (sym front) ∙ sym by ∙ is

-- a script has one list of lines
pub same_commands : (read : Option (List PopLine)) (one other : List PopLine) → read ≡ Some one → read ≡ Some other → one ≡ other
same_commands read one other is also = ap (λ (r : Option (List PopLine)). unwrap_or r one) (sym is ∙ also)

-- ---- the end

module _ (start : Log) (faults : Faults) (first last : Member) (lines : List PopLine) (out : Output) (mark : Mark) (groups : ℕ) where
  came_caused : (came : Result LinesEnd PopFault) → HasServed start faults.before first last lines came out → RoseBy last.refused faults.before faults.now
      → IsDiskCaused faults.before faults.now (end_of came mark groups)
  came_caused (Ok lines_end.Answered) served few = tt
  came_caused (Ok lines_end.NoMemory) served few = tt
  came_caused (Ok (lines_end.Sink count)) served few = tt
  came_caused (Err fault.NoMemory) served few = tt
  came_caused (Err (fault.Disk count)) served few = omega (arith, served.0.0.counted, few)

-- a disk that failed before the greeting has a count that rose
pub disk_caused : {S : Type 0} (sees : SeesFolder S) (clock : ℕ → ℕ) (tells : Type 0) (faults : Faults) (lines : List PopLine) (e : PopEnd) (out : Output) (old new : S)
    → ServesPop sees clock tells faults lines e out old new → IsDiskCaused faults.before faults.now e
disk_caused sees clock tells faults lines e out old new serves = ⊎_elim none one serves.answers.session
  where
    none : NoneBegan e out serves.notes → IsDiskCaused faults.before faults.now e
    none began = subst (IsDiskCaused faults.before faults.now) (sym began.ends) tt

    one : OneServed faults serves.start lines e out serves.notes → IsDiskCaused faults.before faults.now e
    one served = subst (IsDiskCaused faults.before faults.now) (sym served.ends)
        (came_caused serves.start faults served.first served.last lines out _ _ served.came served.served served.few)

-- ---- the clock

disk_status : (e : End) (k : ℕ) → status_of e ≡ k → (k ≡ 2 → ⊥) → (count : ℕ) → e ≡ end.Unopened (open_fault.Disk count) → ⊥
disk_status e k is other count disk = other (sym is ∙ ap status_of disk)

pub refused_takes : (old new : ℕ → ℕ) (status : ℕ) (e : End) → IsStatus e status → TakesUnlessDisk old new e → TakesWhereRefused status old new
refused_takes old new status e is takes = record {
  found = λ at. (by 3 at (λ x. omega (arith, x)) (λ x. omega (arith, x)) (λ x. omega (arith, x))).found at;
  script = λ at. (by 5 at (λ x. omega (arith, x)) (λ x. omega (arith, x)) (λ x. omega (arith, x))).script at;
  source = λ at. (by 6 at (λ x. omega (arith, x)) (λ x. omega (arith, x)) (λ x. omega (arith, x))).source at;
}
  where
    by : (k : ℕ) → status ≡ k → (k ≡ 4 → ⊥) → (k ≡ 7 → ⊥) → (k ≡ 2 → ⊥) → TakesByStatus status old new
    by k at not-four not-seven not-two = status_takes old new status e is (takes (disk_status e k (status_is e status k is at not-four not-seven) not-two))
