-- From the folders that lines leave a next run may begin.
use Rattle.std.specs.Prelude.{◌⊎◌, ℕ, List}
use Rattle.dv_model.specs.Journals.{Log}
use Rattle.dv_shelf.specs.Folders.{Folder}
use Rattle.dv_playing.specs.Playing.{Attempt}
use Rattle.dv_serving.specs.NextRuns.{IsTrueFolder}
use Rattle.dv_serial.specs.Places.{GivesBehind, MayGive}

-- the cache file is true in each folder that gives the log behind lines, or behind a front of them
abbrev pub GivesTrue : Type 0
GivesTrue = (clock : ℕ → ℕ) (start : Log) (attempts : List Attempt) (c : Folder)
    → GivesBehind clock start attempts c ⊎ MayGive clock start attempts c → IsTrueFolder c
