-- Where a play's log ends in its folder, and what the folder gives there. Of a play only the log,
-- the mailbox, the mark and whether a file is begun there count, with the state of the session that
-- gives the line: whoever holds these may make one.
use Rattle.std.specs.Prelude.{◌≡◌, ◌⊎◌, ◌+◌, ◌++◌, ℕ, Bool, true, false, List, Option, None, IsSome, if◌then◌else◌}
use Rattle.dv_model.specs.declared.types.Mark.{Mark}
use Rattle.dv_model.specs.Journals.{header_size, is_rotation_due}
use Rattle.dv_model.specs.Spelling.{group_text}
use Rattle.dv_model.specs.Transcripts.{Line}
use Rattle.dv_shelf.specs.Folders.{Folder}
use Rattle.dv_logfile.specs.Layout.{closing}
use Rattle.dv_files.specs.declared.texts.Turn.{Turn}
use Rattle.dv_writing.specs.Keeping.{Gives}
use Rattle.dv_playing.specs.Laws.{MayWrite}
use Rattle.dv_playing.specs.Playing.{Attempt, Failed, Play, Rotation, group_here, with_group_here}

-- ---- the place

-- the first place of the file behind that of a mark
abbrev pub next_file : Mark → Mark
next_file mark = record { file_seq = mark.file_seq + 1; offset = header_size }

-- where the next group begins
abbrev pub begin_at : Mark → Mark
begin_at mark = if is_rotation_due true mark then next_file mark else mark

-- The log ends at this mark, and no turn is owed; or a rotation was begun there, whose last replace
-- is owed, or behind which the log ends at the first place of the new file.
abbrev pub StandsAt : Bool → Mark → Mark → Option Turn → Type 0
StandsAt false mark place owed = (place ≡ mark) × (owed ≡ None)
StandsAt true mark place owed =
    (is_rotation_due true mark ≡ true)
    × (((place ≡ mark) × IsSome owed) ⊎ ((place ≡ next_file mark) × (owed ≡ None)))

-- ---- a line

-- the disk failed a write here, which has a group
pub record IsFailedWrite (play : Play) (a : Attempt) : Type 0 where
  pub faults : ℕ
  pub rotation : Rotation
  pub outcome : a.outcome ≡ Failed faults rotation
  pub write : MayWrite play a.line

-- the text of the group that a line writes here, as a commit takes it
abbrev pub text_here : Play → Line → List ℕ
text_here play line = group_text (group_here play line) ++ closing

-- ---- what a folder gives

-- the play's mailbox at its mark, or, behind a rotation, at the first place of the new file
abbrev pub GivesPlay : Play → Folder → Type 0
GivesPlay play c =
    Gives play.log play.mailbox play.mark c
    ⊎ ((is_rotation_due true play.mark ≡ true)
    × Gives play.log play.mailbox (next_file play.mark) c)

-- that with the group of a line
abbrev pub GivesWith : (ℕ → ℕ) → Play → Line → Folder → Type 0
GivesWith clock play line c =
    let behind : Play = with_group_here clock play line in
    Gives behind.log behind.mailbox behind.mark c
