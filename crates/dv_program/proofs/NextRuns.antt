-- A next run may begin from what a run in threads or by a POP3 session left.
use Rattle.std.proofs.Common.{◌≡◌, ⊎_elim, inr, ℕ, List, [], sym, subst}
use Rattle.std.specs.Prelude.{Some}
use Rattle.dv_model.specs.declared.types.OpenFault.{OpenFault}
use Rattle.dv_shelf.specs.Causes.{Stayed}
use Rattle.dv_shelf.specs.Sees.{SeesFolder, SeesOutput, SeesTime}
use Rattle.dv_formats.specs.Scripts.{NamedLine}
use Rattle.dv_beginning.specs.Leaving.{LeavesUnopened}
use Rattle.dv_serving.specs.Outputs.{Output, output_of}
use Rattle.dv_cli.specs.Causes.{ComesFrom, Counts}
use Rattle.dv_cli.specs.Endings.{Concludes, IsStatus}
use Rattle.dv_cli.specs.Restarts.{MayRun, RunsGoOn}
use Rattle.dv_cli.specs.Spans.{Times, times_from}
use Rattle.dv_cli.specs.Wholes.{shelf_faults}
use Rattle.dv_cli.specs.declared.ending.End.{End}
use Rattle.dv_cli.specs.declared.ending.End.TheVariants as end
use Rattle.dv_cli.specs.declared.words.Task.TheVariants as task
use Rattle.dv_program.specs.NextRuns.{Pop3RunsGoOn, ThreadsRunsGoOn}
use Rattle.dv_program.specs.Pop3.{EndsUnopened}
use Rattle.dv_program.specs.Serving.{RunsBy, ServesBy}

module _ {S O C : Type 0} (sees : SeesFolder S) (seen : SeesOutput O) (ticks : SeesTime C) (runs_go_on : RunsGoOn sees seen ticks) where
  module _ (before now : Counts) (status : ℕ) (clock : ℕ → ℕ) (clock_now : C) (out out_now : O) (old new : S) (may : MayRun sees old) (stayed : Stayed before.shelf now.shelf) (between : List ℕ) where
    abbrev times : Times
    times = times_from ticks clock clock_now

    abbrev text : Output
    text = record (output_of seen out out_now) { taken_now = between }

    -- a folder that isn't opened is left as by a run without threads
    unopened : (f : OpenFault) → (text.told → text.taken_now ≡ text.taken) → LeavesUnopened sees times.clock f old new → ComesFrom before now (end.Unopened f) → IsStatus (end.Unopened f) status
        → ((output_of seen out out_now).told → Concludes (end.Unopened f) status between (output_of seen out out_now).taken_now) → MayRun sees new
    unopened f unwritten leaves cause ended concludes =
        runs_go_on before now (Some task.Run) [] status clock clock_now out out_now old new may (record {
          how = end.Unopened f;
          between = between;
          runs = record { runs = inr (unwritten, leaves); loads = λ none. absurd (none tt); silent = λ none. absurd (none tt) };
          cause = cause;
          ended = ended;
          concludes = concludes;
        }) stayed

    served : (lines : List NamedLine) (e : End) → ServesBy sees times (shelf_faults before now) lines e text old new → MayRun sees new
    served lines e by = record { settled = by.serves.settled stayed; seen = by.serves.next.seen }

    by_end : (lines : List NamedLine) (e : End) → RunsBy sees times (shelf_faults before now) lines e text old new → ComesFrom before now e → IsStatus e status
        → ((output_of seen out out_now).told → Concludes e status between (output_of seen out out_now).taken_now) → MayRun sees new
    by_end lines (end.Unopened f) runs cause ended concludes = unopened f runs.0 runs.1 cause ended concludes
    by_end lines (end.Answered mark groups loaded) runs cause ended concludes = served lines (end.Answered mark groups loaded) runs
    by_end lines (end.Rebuilt kept skipped) runs cause ended concludes = served lines (end.Rebuilt kept skipped) runs
    by_end lines end.Usage runs cause ended concludes = served lines end.Usage runs
    by_end lines end.NoMemory runs cause ended concludes = served lines end.NoMemory runs
    by_end lines (end.Script fault) runs cause ended concludes = served lines (end.Script fault) runs
    by_end lines (end.Source faults) runs cause ended concludes = served lines (end.Source faults) runs
    by_end lines end.Sink runs cause ended concludes = served lines end.Sink runs

    -- a POP3 session's folder may not be opened, too
    pop_unopened : (e : End) → EndsUnopened sees times e text old new → ComesFrom before now e → IsStatus e status
        → ((output_of seen out out_now).told → Concludes e status between (output_of seen out out_now).taken_now) → MayRun sees new
    pop_unopened e ends cause ended concludes =
        unopened ends.why ends.unwritten ends.leaves (subst (ComesFrom before now) ends.is cause) (subst (λ (x : End). IsStatus x status) ends.is ended)
        (λ told. subst (λ (x : End). Concludes x status between (output_of seen out out_now).taken_now) ends.is (concludes told))

  pub threads_go_on : ThreadsRunsGoOn sees seen ticks
  threads_go_on before now lines status clock clock_now out out_now old new may is stayed =
      ⊎_elim (λ unread. subst (MayRun sees) (sym unread.2) may)
      (λ runs. by_end before now status clock clock_now out out_now old new may stayed is.between lines is.how runs is.cause is.ended is.concludes) is.runs

  pub pop3_goes_on : Pop3RunsGoOn sees seen ticks
  pop3_goes_on before now lines status clock clock_now out out_now old new may is stayed =
      ⊎_elim (λ unread. subst (MayRun sees) (sym unread.2) may)
      (⊎_elim (λ ends. pop_unopened before now status clock clock_now out out_now old new may stayed is.between is.how ends is.cause is.ended is.concludes)
      (λ serves. record { settled = serves.serves.settled stayed; seen = serves.serves.next.seen })) is.runs
