-- What a next run may rest on behind sessions in threads. It takes what a shelf, an
-- output and a clock show.
use Rattle.std.specs.Prelude.{ℕ, List}
use Rattle.dv_shelf.specs.Causes.{Stayed}
use Rattle.dv_shelf.specs.Crashes.{IsSettled}
use Rattle.dv_shelf.specs.Sees.{SeesFolder, SeesOutput, SeesTime}
use Rattle.dv_formats.specs.Scripts.{NamedLine}
use Rattle.dv_serving.specs.Faults.{Faults}
use Rattle.dv_serving.specs.NextRuns.{IsTrueFolder}
use Rattle.dv_serving.specs.Outputs.{output_of}
use Rattle.dv_threads.specs.declared.ending.ThreadsEnd.{ThreadsEnd}
use Rattle.dv_threads.specs.Serves.{ServesThreads}

-- Where no failure of the folder was counted, the sessions leave what a run asks of a folder: a
-- crash would leave just what a read gives, and the cache file is true.
abbrev pub ThreadsGoOn : {S O C : Type 0} → SeesFolder S → SeesOutput O → SeesTime C → Type 0
ThreadsGoOn {S} {O} sees seen ticks = (clock : ℕ → ℕ) (faults : Faults) (lines : List NamedLine)
    (e : ThreadsEnd) (out out_now : O) (old new : S)
    → ServesThreads sees clock ticks.tells faults lines e (output_of seen out out_now) old new
    → Stayed faults.before faults.now → IsSettled sees new × IsTrueFolder (sees.files new)
