-- Which files the writes of lines may change.
use Rattle.std.specs.Prelude.{◌≡◌, ◌++◌, ℕ, List, ◌∷◌}
use Rattle.dv_model.specs.Journals.{Log}
use Rattle.dv_shelf.specs.declared.shelf.Name.{Name}
use Rattle.dv_shelf.specs.Folders.{Folder}
use Rattle.dv_playing.specs.Playing.{Attempt}
use Rattle.dv_serving.specs.Commits.{MayChangeHere}
use Rattle.dv_serial.specs.Places.{play_of}

-- one of the lines is a write with a group that may change this file where the play stood there: so
-- no line that was refused, or that changes nothing, or that only reads
pub record MayTouch (clock : ℕ → ℕ) (start : Log) (attempts : List Attempt) (n : Name) : Type 0
  where
    pub front : List Attempt
    pub back : List Attempt
    pub attempt : Attempt
    pub parts : attempts ≡ front ++ attempt ∷ back
    pub changes : MayChangeHere (play_of clock start front) attempt.line n

-- files that none of the lines may change stay
abbrev pub KeepsOthers : (ℕ → ℕ) → Log → List Attempt → Folder → Folder → Type 0
KeepsOthers clock start attempts old new =
    (n : Name) → (MayTouch clock start attempts n → ⊥) → new n ≡ old n
