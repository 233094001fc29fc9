-- What becomes of the calls of a script, one after another. The records take what a shelf shows.
use Rattle.std.specs.Prelude.{◌≡◌, ◌⊎◌, ℕ, List, [], ◌∷◌, ◌++◌, All, IsSome, None, length, map, Result, Ok, Err, ⊤}
use Rattle.dv_model.specs.declared.types.OpenFault.TheVariants as fault
use Rattle.dv_model.specs.declared.types.Mark.{Mark}
use Rattle.dv_model.specs.Counts.{Rose}
use Rattle.dv_shelf.specs.Causes.{Stayed}
use Rattle.dv_shelf.specs.Crashes.{IsSettled, LeavesOnly}
use Rattle.dv_shelf.specs.Folders.{Folder, IsNew}
use Rattle.dv_shelf.specs.Sees.{SeesFolder}
use Rattle.dv_shelf.specs.Streams.{Appends, AppendsFront}
use Rattle.dv_openings.specs.Openings.{Finds, Found, IsFound}
use Rattle.dv_chain.specs.Openings.{FaultFound, IsOutside}
use Rattle.dv_maps.specs.Storages.{Storage}
use Rattle.dv_playing.specs.Laws.{RiseFrom}
use Rattle.dv_mdbox.specs.States.{State}
use Rattle.dv_mdbox.specs.Opening.{TakesToOpen}
use Rattle.dv_mdbox_lines.specs.Playing.{MayGo, Tried}
use Rattle.dv_mdbox_lines.specs.Scripts.{Call}
use Rattle.dv_mdbox_lines.specs.Texts.{tried_text, tried_texts}
use Rattle.dv_serving.specs.Faults.{Faults}
use Rattle.dv_serving.specs.Outputs.{Output}
use Rattle.dv_mdbox_serving.specs.declared.ending.CallEnd.{CallEnd}
use Rattle.dv_mdbox_serving.specs.declared.ending.CallEnd.TheVariants as call_end
use Rattle.dv_mdbox_serving.specs.declared.ending.StorageEnd.{StorageEnd}
use Rattle.dv_mdbox_serving.specs.declared.ending.StorageEnd.TheVariants as end
use Rattle.dv_mdbox_serving.specs.Following.{HaveGroups, Keeps, failures_of}
use Rattle.dv_mdbox_serving.specs.Groups.{LogsCalls}
use Rattle.dv_mdbox_serving.specs.Marks.{EndsAt, IfAnswered}
use Rattle.dv_mdbox_serving.specs.Opening.{LeavesUnopened}
use Rattle.dv_mdbox_serving.specs.Places.{GivesBehind, MayGive, MayLeave}
use Rattle.dv_mdbox_serving.specs.Purges.{PurgeInTurn, PurgeUpTo}

-- ---- how it ends

-- the calls of those that were tried
abbrev pub calls_of : List Tried → List Call
calls_of tried = map (λ t. t.call) tried

-- a call had an answer
abbrev pub IsAnswered : Tried → Type 0
IsAnswered tried = IsSome tried.answer

-- the call that ended the run: where memory did, it has no answer
abbrev pub EndsCall : StorageEnd → Tried → Type 0
EndsCall end.NoMemory tried = tried.answer ≡ None
EndsCall end.Sink tried = IsAnswered tried
EndsCall e tried = ⊥

-- All calls were answered, with so many groups; or memory or the output ended the run at the first
-- of the rest.
abbrev pub EndsWith : StorageEnd → List Tried → List Tried → List Call → Type 0
EndsWith (end.Answered mark groups) answered left rest =
    (rest ≡ []) × (left ≡ []) × HaveGroups answered groups
EndsWith e answered (tried ∷ []) (call ∷ more) = (tried.call ≡ call) × EndsCall e tried
EndsWith e answered left rest = ⊥

-- the text of the answers was written; where the output failed, a front of the next one's too
abbrev pub Writes : StorageEnd → List Tried → List Tried → List ℕ → List ℕ → Type 0
Writes end.Sink answered (tried ∷ []) old new =
    AppendsFront (old ++ tried_texts answered) new (tried_text tried)
Writes e answered left old new = Appends old new (tried_texts answered)

-- ---- the calls

-- The first calls were answered, each by the storage's rules, as one list says it, and the texts of
-- the answers written. The next one is that which memory ended, or for whose answer the output
-- failed. The failures of the disk tell counts that rise up to the one behind the run.
pub record AreTried (start : Storage) (faults : Faults) (calls : List Call) (e : StorageEnd)
    (out : Output) : Type 0 where
  pub answered : List Tried
  pub left : List Tried
  pub rest : List Call
  pub parts : calls ≡ calls_of answered ++ rest
  pub each : All IsAnswered answered
  pub ends : EndsWith e answered left rest
  pub may : MayGo start (answered ++ left)
  pub failures : RiseFrom faults.before (failures_of (answered ++ left)) faults.now
  pub output : out.told → Writes e answered left out.taken out.taken_now

-- how a run ends behind its calls, at this place and with so many groups
abbrev pub end_of : Result (Unit {0}) CallEnd → Mark → ℕ → StorageEnd
end_of (Ok done) mark groups = end.Answered mark groups
end_of (Err call_end.NoMemory) mark groups = end.NoMemory
end_of (Err (call_end.Sink faults)) mark groups = end.Sink

module _ {S C : Type 0} where
  -- at those of a storage
  abbrev pub end_behind : Result (Unit {0}) CallEnd → State S C → StorageEnd
  end_behind result store = end_of result store.mark (length store.entries)

  -- What is left keeps the storage behind these calls, and where all were answered it ends with
  -- their groups; each purge that was done left the folder and the map so. A crash at any moment
  -- leaves the storage behind some of the calls, or what the next one may make.
  pub record Serves (sees : SeesFolder S) (start : Storage) (faults : Faults) (calls : List Call)
      (e : StorageEnd) (out : Output) (old new : State S C) : Type 0 where
    pub tried : AreTried start faults calls e out
    pub keeps : Keeps sees start (tried.answered ++ tried.left) new
    pub logs : IfAnswered e (λ mark groups. LogsCalls (tried.answered ++ tried.left) old new
        × (mark ≡ new.mark) × (groups ≡ length new.entries))
    pub purges : PurgeInTurn start (tried.answered ++ tried.left) (sees.files old.shelf)
        old.chain.live.mailbox (sees.files new.shelf) new.chain.live.mailbox
    pub since : LeavesOnly sees old.shelf new.shelf
        (MayGive start (tried.answered ++ tried.left))

-- ---- a run over a folder

-- The calls were answered in the storage that the folder gives, or a new one. Where all were, the
-- place and the number of groups that are told are those of their groups. Each purge that was done
-- removed exactly what it may, and left each message file named. The folder gives the
-- storage behind them, or that with what the last one makes that was cut off; so does what a crash
-- behind the run leaves, and a crash during it leaves the storage behind some of them, or what the
-- next one may make. It is settled where the count of faults didn't rise.
pub record ServesCalls {S : Type 0} (sees : SeesFolder S) (start : Storage) (faults : Faults)
    (calls : List Call) (e : StorageEnd) (out : Output) (old new : S) : Type 0 where
  pub tried : AreTried start faults calls e out
  pub place : IfAnswered e (λ mark groups.
      EndsAt start (tried.answered ++ tried.left) mark groups (sees.files old) (sees.may_leave new))
  pub purges : PurgeUpTo start (tried.answered ++ tried.left) (sees.files new)
  pub folder : GivesBehind start (tried.answered ++ tried.left) (sees.files new)
  pub after : (c : Folder) → sees.may_leave new c
      → GivesBehind start (tried.answered ++ tried.left) c
  pub crash : LeavesOnly sees old new
      (MayLeave start (tried.answered ++ tried.left) (sees.files old))
  pub settled : Stayed faults.before faults.now → IsSettled sees new

-- so it is, or the folder isn't opened
abbrev pub RunsCalls : {S : Type 0} → SeesFolder S → Storage → Faults → List Call → StorageEnd
    → Output → S → S → Type 0
RunsCalls sees start faults calls (end.Unopened f) out old new =
    (out.told → out.taken_now ≡ out.taken) × LeavesUnopened sees f old new
RunsCalls sees start faults calls e out old new =
    ServesCalls sees start faults calls e out old new

-- where a fault is found, no call is answered
abbrev pub IfUnopened : {S : Type 0} → SeesFolder S → StorageEnd → Output → S → S → Type 0
IfUnopened sees (end.Unopened f) out old new =
    (out.told → out.taken_now ≡ out.taken) × LeavesUnopened sees f old new
IfUnopened sees e out old new = ⊤

-- ---- causes

-- calls end so
abbrev pub EndsServing : StorageEnd → Type 0
EndsServing (end.Unopened f) = ⊥
EndsServing e = ⊤

-- a map is found
abbrev pub IsFinding : Found → Type 0
IsFinding (Finds m mark) = ⊤
IsFinding other = ⊥

-- What the folder holds is told: a fault that is found, where it has a file of a storage; all calls
-- are answered only where a map is found, or none is there.
abbrev pub TellsFolderAt : Folder → StorageEnd → Type 0
TellsFolderAt folder (end.Unopened f) =
    FaultFound f (IsFound folder) × (IsOutside f ⊎ (IsNew folder → ⊥))
TellsFolderAt folder e = IsNew folder ⊎ ((found : Found) × IsFinding found × IsFound folder found)

-- a disk's fault that ended the run at its opening tells the count, which rose, and a failed output
-- comes only where its count rose
abbrev pub EndCause : StorageEnd → Faults → Faults → Type 0
EndCause (end.Unopened (fault.Disk faults)) shelf out =
    Rose shelf.before shelf.now × (faults ≡ shelf.now)
EndCause end.Sink shelf out = Rose out.before out.now
EndCause e shelf out = ⊤

-- the clock isn't read where a fault is found, and once at most where the folder isn't opened
abbrev pub TakesByEnd : StorageEnd → (ℕ → ℕ) → (ℕ → ℕ) → Type 0
TakesByEnd (end.Unopened f) old new = TakesToOpen {A = Unit {0}} old new (Err f)
TakesByEnd e old new = ⊤
