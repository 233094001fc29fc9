-- What is owed behind the lines of a script, and what the folder gives there.
use Rattle.std.specs.Prelude.{◌≡◌, ◌⊎◌, ◌++◌, ℕ, List, [], ◌∷◌, Some, ⊤}
use Rattle.dv_model.specs.declared.types.Mailbox.{Mailbox}
use Rattle.dv_model.specs.declared.types.Mark.{Mark}
use Rattle.dv_model.specs.Effects.{applied}
use Rattle.dv_model.specs.Journals.{Log}
use Rattle.dv_shelf.specs.Folders.{Folder}
use Rattle.dv_writing.specs.Debts.{Debt, Pending}
use Rattle.dv_playing.specs.Playing.{Attempt, Play, begin, group_here, played, with_group_here}
use Rattle.dv_serving.specs.Places.{GivesPlay, GivesWith, IsFailedWrite, begin_at, text_here}

-- where the play stands behind these lines
abbrev pub play_of : (ℕ → ℕ) → Log → List Attempt → Play
play_of clock start attempts = played clock (begin start) attempts

-- ---- what is owed

-- the disk failed a write where the play stood there, and none of the lines since wrote a group
pub record IsLastFailed (clock : ℕ → ℕ) (start : Log) (attempts : List Attempt) (met : Play)
    (a : Attempt) : Type 0 where
  pub front : List Attempt
  pub back : List Attempt
  pub lines : attempts ≡ front ++ a ∷ back
  pub was : met ≡ play_of clock start front
  pub failed : IsFailedWrite met a
  pub log : (play_of clock start attempts).log ≡ met.log
  pub mailbox : (play_of clock start attempts).mailbox ≡ met.mailbox
  pub mark : (play_of clock start attempts).mark ≡ met.mark

-- the group of such a line stands behind the log's end, and makes this mailbox
pub record IsPendingOf (clock : ℕ → ℕ) (start : Log) (attempts : List Attempt) (text : List ℕ)
    (after : Mailbox) (written : Log) : Type 0 where
  pub met : Play
  pub attempt : Attempt
  pub failed : IsLastFailed clock start attempts met attempt
  pub spelled : text ≡ text_here met attempt.line
  pub gives : applied met.mailbox (group_here met attempt.line).records ≡ Some after
  pub log : written ≡ (with_group_here clock met attempt.line).log

-- What is owed behind these lines, with the log's end at this place, is of a rotation, or of such a
-- line, whose group would begin there.
abbrev pub IsOwedBehind : (ℕ → ℕ) → Log → List Attempt → Mark → Debt → Type 0
IsOwedBehind clock start attempts place (Pending text after written) =
    IsPendingOf clock start attempts text after written
    × (place ≡ begin_at (play_of clock start attempts).mark)
IsOwedBehind clock start attempts place debt = ⊤

-- ---- what a folder gives

-- The folder gives the log behind all of these lines, or that with the group of one that the disk
-- failed, behind which none was written.
abbrev pub GivesBehind : (ℕ → ℕ) → Log → List Attempt → Folder → Type 0
GivesBehind clock start attempts c =
    GivesPlay (play_of clock start attempts) c
    ⊎ ((met : Play) × (a : Attempt) × IsLastFailed clock start attempts met a
    × GivesWith clock met a.line c)

-- What a crash leaves at any moment between these lines and those, which go on from them: the log
-- behind the first ones, or behind all.
abbrev pub GivesBetween : (ℕ → ℕ) → Log → List Attempt → List Attempt → Folder → Type 0
GivesBetween clock start before behind c =
    GivesBehind clock start before c ⊎ GivesBehind clock start behind c

-- the play, or, where the disk failed the first of the lines behind, that with its group
abbrev pub GivesNext : (ℕ → ℕ) → Play → List Attempt → Folder → Type 0
GivesNext clock play [] c = GivesPlay play c
GivesNext clock play (a ∷ back) c =
    GivesPlay play c ⊎ (IsFailedWrite play a × GivesWith clock play a.line c)

-- What a crash leaves while these lines are served gives the log behind some of them, or, where the
-- disk failed the next one, that with its group.
pub record MayGive (clock : ℕ → ℕ) (start : Log) (attempts : List Attempt) (c : Folder)
    : Type 0 where
  pub front : List Attempt
  pub back : List Attempt
  pub lines : attempts ≡ front ++ back
  pub gives : GivesNext clock (play_of clock start front) back c
