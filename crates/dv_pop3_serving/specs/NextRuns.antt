-- What a next run may rest on behind a POP3 session. It takes what a shelf, an output and a clock
-- show.
use Rattle.std.specs.Prelude.{ℕ, List}
use Rattle.dv_shelf.specs.Causes.{Stayed}
use Rattle.dv_shelf.specs.Crashes.{IsSettled}
use Rattle.dv_shelf.specs.Sees.{SeesFolder, SeesOutput, SeesTime}
use Rattle.dv_serving.specs.Faults.{Faults}
use Rattle.dv_serving.specs.NextRuns.{IsTrueFolder}
use Rattle.dv_serving.specs.Outputs.{output_of}
use Rattle.dv_maildrop.specs.declared.types.PopLine.{PopLine}
use Rattle.dv_pop3_serving.specs.declared.ending.PopEnd.{PopEnd}
use Rattle.dv_pop3_serving.specs.Serves.{ServesPop}

-- Where no failure of the folder was counted, the session leaves what a run asks of a folder: a
-- crash would leave just what a read gives, and the cache file is true.
abbrev pub PopGoesOn : {S O C : Type 0} → SeesFolder S → SeesOutput O → SeesTime C → Type 0
PopGoesOn {S} {O} sees seen ticks = (clock : ℕ → ℕ) (faults : Faults) (lines : List PopLine)
    (e : PopEnd) (out out_now : O) (old new : S)
    → ServesPop sees clock ticks.tells faults lines e (output_of seen out out_now) old new
    → Stayed faults.before faults.now → IsSettled sees new × IsTrueFolder (sees.files new)
