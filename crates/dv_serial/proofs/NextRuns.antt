-- A next run may begin from each folder that gives the log behind lines.
use Rattle.std.proofs.Common.{⊎_elim, ℕ, List, [], ◌∷◌}
use Rattle.dv_model.specs.Journals.{Log}
use Rattle.dv_shelf.specs.Folders.{Folder}
use Rattle.dv_playing.specs.Playing.{Attempt, Play}
use Rattle.dv_serving.specs.NextRuns.{IsTrueFolder}
use Rattle.dv_serving.proofs.NextRuns.{gives_true, play_true}
use Rattle.dv_serial.specs.NextRuns.{GivesTrue}
use Rattle.dv_serial.specs.Places.{GivesBehind, GivesNext, MayGive, play_of}

-- behind the lines, and with a group that the disk failed
pub behind_true : (clock : ℕ → ℕ) (start : Log) (attempts : List Attempt) (c : Folder) → GivesBehind clock start attempts c → IsTrueFolder c
behind_true clock start attempts c gives = ⊎_elim (play_true (play_of clock start attempts) c) (λ with. gives_true _ _ _ c with.3) gives

next_true : (clock : ℕ → ℕ) (play : Play) (back : List Attempt) (c : Folder) → GivesNext clock play back c → IsTrueFolder c
next_true clock play [] c gives = play_true play c gives
next_true clock play (a ∷ back) c gives = ⊎_elim (play_true play c) (λ with. gives_true _ _ _ c with.1) gives

-- behind a front of them
pub may_true : (clock : ℕ → ℕ) (start : Log) (attempts : List Attempt) (c : Folder) → MayGive clock start attempts c → IsTrueFolder c
may_true clock start attempts c may = next_true clock (play_of clock start may.front) may.back c may.gives

pub give_true : GivesTrue
give_true clock start attempts c gives = ⊎_elim (behind_true clock start attempts c) (may_true clock start attempts c) gives
