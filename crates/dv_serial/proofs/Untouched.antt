-- Files that a line doesn't write stay.
use Rattle.std.proofs.Common.{◌≡◌, ℕ, List, [], refl, ap}
use Rattle.dv_model.specs.Journals.{Log}
use Rattle.dv_model.specs.Transcripts.{Line}
use Rattle.dv_shelf.specs.declared.shelf.Name.{Name}
use Rattle.dv_shelf.specs.Folders.{Folder}
use Rattle.dv_playing.specs.Playing.{Attempt, Outcome}
use Rattle.dv_serving.specs.Commits.{MayChangeHere}
use Rattle.dv_serial.specs.Following.{with_line}
use Rattle.dv_serial.specs.Others.{KeepsOthers}
use Rattle.dv_serial.specs.Places.{play_of}

module _ (clock : ℕ → ℕ) (start : Log) (old new : Folder) where
  -- nothing was written
  pub same_others : (lines : List Attempt) → new ≡ old → KeepsOthers clock start lines old new
  same_others lines same = λ n none. ap (λ (f : Folder). f n) same

  -- a write may have changed its own
  pub write_others : (attempts : List Attempt) (line : Line) (outcome : Outcome) → ((n : Name) → (MayChangeHere (play_of clock start attempts) line n → ⊥) → new n ≡ old n)
      → KeepsOthers clock start (with_line attempts line outcome) old new
  write_others attempts line outcome others = λ n none. others n (λ changes. none (record {
    front = attempts;
    back = [];
    attempt = record { line = line; outcome = outcome };
    parts = refl;
    changes = changes;
  }))
