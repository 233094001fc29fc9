-- What is told of a key is what a search gives.
use Rattle.std.specs.Prelude.{◌≡◌, ℕ, true, List, Some, length}
use Rattle.dv_model.specs.declared.types.Key.{Key}
use Rattle.dv_model.specs.Journals.{Log, at}
use Rattle.dv_playing.specs.Laws.{MayPlay}
use Rattle.dv_playing.specs.Playing.{Attempt, Play}
use Rattle.dv_serial.specs.Places.{play_of}
use Rattle.dv_live.specs.Laws.{IsSearched}
use Rattle.dv_live.specs.Steadiness.{steady}
use Rattle.dv_watching.specs.Texts.{found_in}

-- Behind lines that were played, the mailbox is that of all entries of the log so far, and what the
-- key finds there is the answer of a UID SEARCH.
abbrev pub ToldIsSearched : Type 0
ToldIsSearched = (clock : ℕ → ℕ) (start : Log) (base faults : ℕ) (attempts : List Attempt) (key : Key)
    → steady key ≡ true → MayPlay clock start base faults attempts
    → let behind : Play = play_of clock start attempts in
    (at behind.log (length behind.log.entries) ≡ Some behind.mailbox)
    × IsSearched key (found_in key behind.mailbox) behind.mailbox
