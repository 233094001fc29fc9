-- What a session leaves of a run that began with opening or making a mailbox.
use Rattle.std.proofs.Common.{ℕ, List}
use Rattle.dv_shelf.specs.Sees.{SeesFolder, SeesTime}
use Rattle.dv_beginning.specs.Begins.{IsBegun}
use Rattle.dv_serving.specs.Faults.{Faults}
use Rattle.dv_serving.specs.Outputs.{Output}
use Rattle.dv_store.specs.States.{State}
use Rattle.dv_maildrop.specs.declared.types.PopLine.{PopLine}
use Rattle.dv_threads.proofs.Serves.{run_crash, run_goes_on, run_next, run_opens}
use Rattle.dv_pop3_serving.specs.declared.ending.PopEnd.{PopEnd}
use Rattle.dv_pop3_serving.specs.Serves.{ServesPop, ServesSession}

module _ {S C : Type 0} (sees : SeesFolder S) (ticks : SeesTime C) (clock : ℕ → ℕ) (old : S) (store : State S C) (begun : IsBegun sees ticks clock old store) (tells : Type 0) where
  pub serves_pop : (new : S) (faults : Faults) (lines : List PopLine) (e : PopEnd) (out : Output) → ServesSession sees tells begun.start (sees.moment store.shelf) (sees.left_since store.shelf) faults lines e out new → ServesPop sees clock tells faults lines e out old new
  serves_pop new faults lines e out serves = record {
    start = begun.start;
    used = begun.used;
    starts = begun.starts;
    notes = serves.notes;
    tries = serves.tries;
    goes_on = run_goes_on sees ticks clock old store begun tells new serves.notes serves.tries serves.answers.are serves.gives serves.since;
    answers = serves.answers;
    gives = serves.gives;
    crash = run_crash sees ticks clock old store begun tells new serves.notes serves.tries serves.answers.are serves.gives serves.since;
    opens = run_opens sees ticks clock old store begun tells new serves.notes serves.tries serves.answers.are serves.gives serves.since;
    settled = serves.settled;
    next = run_next sees ticks clock old store begun tells new serves.notes serves.tries serves.answers.are serves.gives serves.since;
  }
