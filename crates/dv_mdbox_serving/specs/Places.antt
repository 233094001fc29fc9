-- What a storage's folder gives behind some calls, and while one runs.
use Rattle.std.specs.Prelude.{◌≡◌, ◌⊎◌, ℕ, List, [], ◌∷◌, ◌++◌, All, Option, Some, None, ⊤}
use Rattle.dv_model.specs.declared.types.Mailbox.{Mailbox}
use Rattle.dv_model.specs.declared.types.Mark.{Mark}
use Rattle.dv_shelf.specs.Folders.{Folder, IsNew}
use Rattle.dv_filing.specs.Standing.{Gives}
use Rattle.dv_maps.specs.Laws.{IsMap}
use Rattle.dv_maps.specs.Storages.{Storage, storage_of}
use Rattle.dv_maps.specs.Texts.{Messages}
use Rattle.dv_mdbox_lines.specs.declared.answers.Answer.{Answer}
use Rattle.dv_mdbox_lines.specs.declared.answers.Answer.TheVariants as answer
use Rattle.dv_mdbox_lines.specs.Laws.{new_storage}
use Rattle.dv_mdbox_lines.specs.Playing.{MayAnswer, Tried, behind, behind_call, done_by, references, without}
use Rattle.dv_mdbox_lines.specs.Scripts.{Call, Copy, Drop, Get, Purge, Save}

-- ---- a folder

-- the folder opens to a map of this storage, and has the text of each message with a reference
pub record GivesStorage (s : Storage) (c : Folder) : Type 0 where
  pub indexid : ℕ
  pub messages : Messages
  pub mailbox : Mailbox
  pub mark : Mark
  pub map : IsMap mailbox
  pub storage : storage_of messages mailbox ≡ s
  pub gives : Gives messages indexid mailbox mark c

-- what a run starts from: the storage that the folder gives, or a new one, where the folder has no
-- file of one
abbrev pub StartsFrom : Folder → Storage → Type 0
StartsFrom folder start = GivesStorage start folder ⊎ (IsNew folder × (start ≡ new_storage))

-- ---- a call that runs

-- the storage without some ids that have no reference
abbrev pub IsWithoutSome : Storage → Storage → Type 0
IsWithoutSome s left =
    (gone : List ℕ) × All (λ id. references s id ≡ 0) gone × (left ≡ without gone s)

-- the answer to a call that is done
abbrev pub done_answer : Call → Storage → Answer
done_answer (Save message) s = answer.Done s.next
done_answer (Copy id) s = answer.Done id
done_answer (Drop id) s = answer.Done id
done_answer call s = answer.None

-- the storage with what a call does, which may be done here
abbrev pub IsDoneHere : Call → Storage → Storage → Type 0
IsDoneHere call s made =
    MayAnswer s call [] (Some (done_answer call s)) × (made ≡ done_by call s)

-- memory ended it, or the disk failed it
abbrev pub IsCutOff : Option Answer → Type 0
IsCutOff None = ⊤
IsCutOff (Some (answer.Disk faults)) = ⊤
IsCutOff (Some told) = ⊥

-- What may be found behind a call that was cut off, until the next write: the storage with what the
-- call does. Of a purge, while it runs too, it is without some ids.
abbrev pub MayMake : Call → Option Answer → Storage → Storage → Type 0
MayMake Purge told s made = IsWithoutSome s made
MayMake (Get id) told s made = ⊥
MayMake call told s made = IsCutOff told × IsDoneHere call s made

-- the folder gives what the call may make
abbrev pub GivesMade : Storage → Tried → Folder → Type 0
GivesMade s tried c =
    (made : Storage) × MayMake tried.call tried.answer s made × GivesStorage made c

-- ---- behind calls

-- a call isn't answered that it is done
abbrev pub IsUndone : Option Answer → Type 0
IsUndone (Some (answer.Done id)) = ⊥
IsUndone (Some (answer.Purged n)) = ⊥
IsUndone told = ⊤

-- it left the storage as it was
abbrev pub LeavesAll : Tried → Type 0
LeavesAll tried = IsUndone tried.answer × (tried.gone ≡ [])

-- The last of these calls that the disk may have failed, or memory ended, in its write: the calls
-- behind it changed nothing.
pub record IsLastCut (calls : List Tried) (cut : Tried) : Type 0 where
  pub front : List Tried
  pub back : List Tried
  pub parts : calls ≡ front ++ cut ∷ back
  pub undone : IsUndone cut.answer
  pub since : All LeavesAll back

-- The folder gives the storage behind these calls, or that with what the last one makes that was
-- cut off.
abbrev pub GivesBehind : Storage → List Tried → Folder → Type 0
GivesBehind start calls c =
    GivesStorage (behind start calls) c
    ⊎ ((cut : Tried) × IsLastCut calls cut × GivesMade (behind start calls) cut c)

-- What a crash leaves at any moment of a call behind these: the storage before it, or behind it, or
-- what it may make.
abbrev pub GivesBetween : Storage → List Tried → Tried → Folder → Type 0
GivesBetween start calls call c =
    GivesBehind start calls c
    ⊎ GivesStorage (behind_call (behind start calls) call) c
    ⊎ GivesMade (behind start calls) call c

-- the storage, or what the first of these calls may make of it
abbrev pub GivesNext : Storage → List Tried → Folder → Type 0
GivesNext s [] c = GivesStorage s c
GivesNext s (call ∷ back) c = GivesStorage s c ⊎ GivesMade s call c

-- What a crash leaves while these calls run gives the storage behind some of them, or what the next
-- one may make of that.
pub record MayGive (start : Storage) (calls : List Tried) (c : Folder) : Type 0 where
  pub front : List Tried
  pub back : List Tried
  pub parts : calls ≡ front ++ back
  pub gives : GivesNext (behind start front) back c

-- so it is during a run, in which at first there may be no storage
abbrev pub MayLeave : Storage → List Tried → Folder → Folder → Type 0
MayLeave start calls old c = (IsNew old × (c ≡ old)) ⊎ MayGive start calls c
