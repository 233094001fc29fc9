-- A next run may begin from what a run left, where no fault of the folder was counted.
use Rattle.std.proofs.Common.{⊎_elim, ℕ, List, Result, Ok, Err, sym, subst}
use Rattle.std.specs.Prelude.{Option}
use Rattle.dv_model.specs.declared.types.OpenFault.{OpenFault}
use Rattle.dv_model.specs.declared.types.OpenFault.TheVariants as open_fault
use Rattle.dv_shelf.specs.Causes.{Stayed}
use Rattle.dv_shelf.specs.Crashes.{IsSettled}
use Rattle.dv_shelf.specs.Folders.{Folder}
use Rattle.dv_shelf.specs.Sees.{SeesFolder, SeesOutput, SeesTime}
use Rattle.dv_formats.specs.Scripts.{NamedLine}
use Rattle.dv_openings.specs.TrueCaches.{HasTrueCache}
use Rattle.dv_openings.proofs.Numbers.{mailbox_one}
use Rattle.dv_rebuild.specs.declared.fault.RebuildFault.{RebuildFault}
use Rattle.dv_rebuild.specs.declared.fault.RebuildFault.TheVariants as fault
use Rattle.dv_rebuild.specs.declared.rebuilding.Rebuilt.{Rebuilt}
use Rattle.dv_rebuild.specs.Rebuilding.{IsRebuilt, LeavesRebuilt, UnlessDisk}
use Rattle.dv_serving.specs.Faults.{faults_between}
use Rattle.dv_serving.specs.NextRuns.{IsTrueFolder}
use Rattle.dv_serving.specs.Outputs.{Output, output_of}
use Rattle.dv_cli.specs.declared.ending.End.{End}
use Rattle.dv_cli.specs.declared.ending.End.TheVariants as end
use Rattle.dv_cli.specs.declared.words.Load.{Load}
use Rattle.dv_cli.specs.Causes.{ComesFrom, Counts}
use Rattle.dv_cli.specs.Rebuilding.{rebuilt_end}
use Rattle.dv_cli.specs.Restarts.{MayRun, RebuildsGoOn, RunsGoOn}
use Rattle.dv_cli.specs.Runs.{RunsOver, ServesLines}
use Rattle.dv_beginning.specs.Leaving.{LeavesUnopened}
use Rattle.dv_cli.specs.Spans.{Times, times_from}
use Rattle.dv_cli.specs.Tasks.{load_in, replies_of}

-- the cache file of a rebuilt folder is true of the mailbox that is found in it
rebuilt_true : (old new : Folder) (now : ℕ) → IsRebuilt old now new → IsTrueFolder new
rebuilt_true old new now made = λ indexid m mark named found.
    subst (HasTrueCache new indexid) (mailbox_one new made.opens.mailbox m _ mark made.opens.found found) (made.opens.cache indexid)

module _ {S : Type 0} (sees : SeesFolder S) (old new : S) (may : MayRun sees old) (before now : Counts) (stayed : Stayed before.shelf now.shelf) where
  -- ---- a run over lines

  module _ (times : Times) (load : Option Load) (lines : List NamedLine) (out : Output) where
    unopened : (f : OpenFault) → ComesFrom before now (end.Unopened f) → LeavesUnopened sees times.clock f old new → MayRun sees new
    unopened (open_fault.Disk faults) cause leaves = absurd (stayed cause.0)
    unopened open_fault.NoMemory cause leaves = record { settled = leaves.settled; seen = (leaves.next may.seen).seen }
    unopened open_fault.NoLog cause leaves = record { settled = leaves.settled; seen = (leaves.next may.seen).seen }
    unopened open_fault.BadLogHeader cause leaves = record { settled = leaves.settled; seen = (leaves.next may.seen).seen }
    unopened (open_fault.BadRecord offset) cause leaves = record { settled = leaves.settled; seen = (leaves.next may.seen).seen }
    unopened open_fault.BadIndex cause leaves = record { settled = leaves.settled; seen = (leaves.next may.seen).seen }
    unopened (open_fault.Gap index log) cause leaves = record { settled = leaves.settled; seen = (leaves.next may.seen).seen }

    served : (e : End) → ServesLines sees times (faults_between before.shelf now.shelf) load lines e out old new → MayRun sees new
    served e serves = record { settled = serves.settled stayed; seen = serves.next.seen }

    run_goes_on : (e : End) → ComesFrom before now e → RunsOver sees times (faults_between before.shelf now.shelf) load lines e out old new → MayRun sees new
    run_goes_on (end.Unopened f) cause runs = unopened f cause runs.1
    run_goes_on (end.Answered mark groups loaded) cause runs = served (end.Answered mark groups loaded) runs
    run_goes_on (end.Rebuilt kept skipped) cause runs = served (end.Rebuilt kept skipped) runs
    run_goes_on end.Usage cause runs = served end.Usage runs
    run_goes_on end.NoMemory cause runs = served end.NoMemory runs
    run_goes_on (end.Script fault) cause runs = served (end.Script fault) runs
    run_goes_on (end.Source faults) cause runs = served (end.Source faults) runs
    run_goes_on end.Sink cause runs = served end.Sink runs

  -- ---- a rebuild

  rebuild_goes_on : (reading : ℕ) (result : Result Rebuilt RebuildFault) → ComesFrom before now (rebuilt_end result) → LeavesRebuilt (sees.files old) reading (sees.files new) result → UnlessDisk result (IsSettled sees new) → MayRun sees new
  rebuild_goes_on reading (Ok rebuilt) cause leaves settled = record { settled = settled; seen = rebuilt_true (sees.files old) (sees.files new) reading leaves.made }
  rebuild_goes_on reading (Err fault.NoMemory) cause leaves settled = record { settled = settled; seen = subst IsTrueFolder (sym leaves) may.seen }
  rebuild_goes_on reading (Err (fault.Disk faults)) cause leaves settled = absurd (stayed cause.0)

module _ {S O C : Type 0} (sees : SeesFolder S) (seen : SeesOutput O) (ticks : SeesTime C) where
  pub runs_go_on : RunsGoOn sees seen ticks
  runs_go_on before now t lines status clock clock_now out out_now old new may is stayed =
      ⊎_elim (λ unread. subst (MayRun sees) (sym unread.2) may)
      (λ runs. run_goes_on sees old new may before now stayed (times_from ticks clock clock_now) (load_in t) lines (replies_of t (record (output_of seen out out_now) { taken_now = is.between })) is.how is.cause runs) is.runs.runs

  pub rebuilds_go_on : RebuildsGoOn sees seen ticks
  rebuilds_go_on before now status said clock clock_now out out_now old new may is stayed =
      let rebuilds = is.rebuilds in
      rebuild_goes_on sees old new may before now stayed rebuilds.now rebuilds.result (subst (ComesFrom before now) rebuilds.told is.cause) rebuilds.leaves rebuilds.settled
