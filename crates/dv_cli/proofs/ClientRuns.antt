-- A run that answers a client with an older state: how it ends, and what it writes.
use Rattle.std.proofs.Common.{◌≡◌, inr, ⊎_elim, ℕ, List, ◌++◌, ◌∙◌, ap, subst, append_assoc}
use Rattle.std.specs.Prelude.{None}
use Rattle.dv_model.specs.declared.types.Mark.{Mark}
use Rattle.dv_model.specs.declared.types.OpenFault.{OpenFault}
use Rattle.dv_model.specs.declared.types.OpenFault.TheVariants as fault
use Rattle.dv_shelf.specs.Folders.{Folder}
use Rattle.dv_shelf.specs.Sees.{SeesFolder}
use Rattle.dv_shelf.specs.Streams.{Appends}
use Rattle.dv_serving.specs.Outputs.{output_with}
use Rattle.dv_beginning.specs.Causes.{IsFault, TakesForOpening, TellsOpening}
use Rattle.dv_beginning.specs.Leaving.{LeavesUnopened}
use Rattle.dv_beginning.proofs.FoundStarts.{faults_one, starts_faultless, starts_one}
use Rattle.dv_qresync.specs.declared.types.Old.{Old}
use Rattle.dv_qresync.specs.Answers.{resynced}
use Rattle.dv_qresync.specs.Texts.{answers_text}
use Rattle.dv_catching.specs.declared.catching.CatchEnd.{CatchEnd}
use Rattle.dv_catching.specs.declared.catching.CatchEnd.TheVariants as caught
use Rattle.dv_catching.specs.Catching.{CatchCause, Catches, CatchesOver, HasCatchCause, opened}
use Rattle.dv_cli.specs.declared.ending.End.{End}
use Rattle.dv_cli.specs.declared.ending.End.TheVariants as end
use Rattle.dv_cli.specs.Causes.{AnyRose, ComesFrom, Counts, EndCause, FolderCause, TakesForRun, TellsFaults}
use Rattle.dv_cli.specs.Endings.{Concludes, status_of, text_of}
use Rattle.dv_cli.specs.Outputs.{IsOutputTo}
use Rattle.dv_cli.specs.Resyncing.{RunsClient, caught_end}
use Rattle.dv_cli.specs.Running.{answered_text, fault_text}
use Rattle.dv_cli.specs.Spans.{times_with}
use Rattle.dv_cli.proofs.WholeRuns.{Writes, told_plainly, unopened_well}

-- ---- ends

-- a fault that is found is told, and a client that is answered finds none
pub caught_faults : (folder : Folder) (how : CatchEnd) → TellsOpening folder (opened how) → TellsFaults folder (caught_end how)
caught_faults folder (caught.Answered mark) tells = tells
caught_faults folder (caught.Unopened f) tells = tells
caught_faults folder caught.NoMemory tells = tt
caught_faults folder caught.Sink tells = tt

unopened_cause : (shelf shelf_now out out_now : ℕ) (f : OpenFault) → CatchCause shelf shelf_now out out_now (caught.Unopened f) → FolderCause shelf shelf_now out out_now (end.Unopened f)
unopened_cause shelf shelf_now out out_now (fault.Disk faults) cause = cause
unopened_cause shelf shelf_now out out_now fault.NoMemory cause = tt
unopened_cause shelf shelf_now out out_now fault.NoLog cause = tt
unopened_cause shelf shelf_now out out_now fault.BadLogHeader cause = tt
unopened_cause shelf shelf_now out out_now (fault.BadRecord offset) cause = tt
unopened_cause shelf shelf_now out out_now fault.BadIndex cause = tt
unopened_cause shelf shelf_now out out_now (fault.Gap index log) cause = tt

pub caught_cause : (shelf shelf_now out out_now : ℕ) (how : CatchEnd) → HasCatchCause shelf shelf_now out out_now how → EndCause shelf shelf_now out out_now (caught_end how)
caught_cause shelf shelf_now out out_now (caught.Answered mark) is = record { later = is.later; cause = tt }
caught_cause shelf shelf_now out out_now (caught.Unopened f) is = record { later = is.later; cause = unopened_cause shelf shelf_now out out_now f is.cause }
caught_cause shelf shelf_now out out_now caught.NoMemory is = record { later = is.later; cause = tt }
caught_cause shelf shelf_now out out_now caught.Sink is = record { later = is.later; cause = is.cause }

pub caught_takes : (old new : ℕ → ℕ) (how : CatchEnd) → TakesForOpening old new (opened how) → TakesForRun 0 old new (caught_end how)
caught_takes old new (caught.Answered mark) takes = takes
caught_takes old new (caught.Unopened f) takes = takes
caught_takes old new caught.NoMemory takes = takes
caught_takes old new caught.Sink takes = takes

-- ---- what is written

module _ {S : Type 0} (sees : SeesFolder S) (timed : Type 0) (clock clock_now : ℕ → ℕ) (client : Old)
    (told : Type 0) (taken between taken_now : List ℕ) (old new : S) where
  abbrev IsWritten : Type 0
  IsWritten = Writes taken taken_now (IsOutputTo client clock (sees.files old))

  -- the answers, and the last line
  answered : (mark : Mark) → told → Catches sees clock client (caught.Answered mark) (output_with told taken between) old new
      → Appends between taken_now (answered_text mark 0 None) → IsWritten
  answered mark tells catches last =
      let text = answers_text (resynced catches.start.start client) in (
        text ++ answered_text catches.start.start_mark 0 None,
        last ∙ (λ i. catches.output tells i ++ answered_text (catches.ends i) 0 None)
            ∙ append_assoc taken text (answered_text catches.start.start_mark 0 None),
        (
          λ start used starts.
              let one = starts_one clock (sees.files old) catches.start start catches.used used catches.starts starts in
              (λ i. answers_text (resynced (one.0 i).start client) ++ answered_text (one.0 i).start_mark 0 None),
          λ f is some found.
              absurd (starts_faultless clock (sees.files old) catches.start catches.used catches.starts (record { fault = f; is = is; found = found; some = some })),
        ),
      )

  -- the fault of the folder
  unopened : (f : OpenFault) → IsFault f → between ≡ taken → LeavesUnopened sees clock f old new
      → Appends between taken_now (fault_text f) → IsWritten
  unopened f is none leaves last = (
    fault_text f,
    last ∙ ap (λ (bs : List ℕ). bs ++ fault_text f) none,
    (
      λ start used starts.
          absurd (starts_faultless clock (sees.files old) start used starts (record { fault = f; is = is; found = leaves.found; some = leaves.some is })),
      λ g g-is some found. ap fault_text (faults_one (sees.files old) f g is g-is leaves.found found),
    ),
  )

  module _ (status : ℕ) (before now : Counts) (tells : told) (still : AnyRose before now → ⊥) (not-four : status ≡ 4 → ⊥) where
    by_how : (how : CatchEnd) → CatchesOver sees clock client how (output_with told taken between) old new
        → ComesFrom before now (caught_end how) → status ≡ status_of (caught_end how)
        → Appends between taken_now (text_of (caught_end how)) → IsWritten
    by_how (caught.Answered mark) catches cause is last = answered mark tells catches last
    by_how (caught.Unopened f) catches cause is last =
        ⊎_elim (λ well. unopened f well.1 (catches.0 tells) catches.1 last)
        (⊎_elim (λ four. absurd (not-four four)) (λ rose. absurd (still rose)))
        (unopened_well status before now f cause is)
    by_how caught.NoMemory catches cause is last = absurd (not-four is)
    by_how caught.Sink catches cause is last = absurd (still (inr (inr cause)))

    -- without want of memory and with nothing failed
    pub client_output : (e : End) → RunsClient sees (times_with timed clock clock_now) client e (output_with told taken between) old new
        → ComesFrom before now e → Concludes e status between taken_now → (status ≡ 7 → ⊥) → IsWritten
    client_output e runs cause concludes not-seven =
        let plain = told_plainly e status between taken_now concludes not-four not-seven in
        ⊎_elim (λ unasked. absurd (not-four (plain.0 ∙ ap status_of unasked.end)))
        (λ answers.
        by_how answers.how answers.catches (subst (ComesFrom before now) answers.is cause) (plain.0 ∙ ap status_of answers.is)
        (subst (λ (x : End). Appends between taken_now (text_of x)) answers.is plain.1))
        runs
