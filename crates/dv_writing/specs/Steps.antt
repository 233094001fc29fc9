-- The steps of a write, and the files that it makes and removes before its group. The records take
-- what a shelf shows.
use Rattle.std.specs.Prelude.{◌≡◌, ℕ, List, Contains, All, Option, Some, None, Result, OnOk, ⊤}
use Rattle.dv_model.specs.declared.types.Mailbox.{Mailbox}
use Rattle.dv_model.specs.Journals.{Log}
use Rattle.dv_shelf.specs.declared.shelf.Name.{Name}
use Rattle.dv_shelf.specs.declared.shelf.Name.TheVariants as name
use Rattle.dv_shelf.specs.Folders.{Folder}
use Rattle.dv_chain.specs.declared.chain.Chain.{Chain}
use Rattle.dv_writing.specs.Commits.{IsReady}
use Rattle.dv_files.specs.declared.texts.Turn.{Turn}
use Rattle.dv_files.specs.Texts.{IsSnapshotOf}
use Rattle.dv_writing.specs.Removals.{IsFree}
use Rattle.dv_writing.specs.Renewals.{IsCacheOf}
use Rattle.dv_writing.specs.declared.steps.Files.{Files}
use Rattle.dv_writing.specs.declared.steps.Files.TheVariants as files
use Rattle.dv_writing.specs.declared.steps.Steps.{Steps}
use Rattle.dv_writing.specs.Ways.{IsDue, IsOfLog, ready}
use Rattle.dv_shelf.specs.Sees.{SeesFolder}

-- ---- before they are written

-- no row has the files that go, and the index is the chain's snapshot
abbrev pub AreFilesFor : Chain → Files → Type 0
AreFilesFor chain files.Nothing = ⊤
AreFilesFor chain (files.Message text) = ⊤
AreFilesFor chain (files.Check renewal) =
    All (IsFree chain.live.mailbox) renewal.gone × IsSnapshotOf chain renewal.index

-- the steps are made for the chain, which is ready for them behind what is owed and due
pub record AreSteps (owed : Option Turn) (chain : Chain) (text : List ℕ) (steps : Steps)
    : Type 0 where
  pub due : IsDue owed chain steps.turn
  pub files : AreFilesFor (ready owed steps.turn chain) steps.files
  pub group : IsReady text steps.prepared (ready owed steps.turn chain)

-- the cache file is of the log's messages
abbrev pub MayRenew : Log → Mailbox → Files → Type 0
MayRenew log m files.Nothing = ⊤
MayRenew log m (files.Message text) = ⊤
MayRenew log m (files.Check renewal) = IsCacheOf log m renewal.cache

-- ---- when they are written

-- a folder has the appended message's file; or the files that go are gone, and index and cache file
-- are the new ones
abbrev pub HoldsFiles : Mailbox → Files → Folder → Type 0
HoldsFiles m files.Nothing c = ⊤
HoldsFiles m (files.Message text) c = c (name.Mail m.next_uid) ≡ Some text
HoldsFiles m (files.Check renewal) c =
    ((uid : ℕ) → Contains renewal.gone uid → c (name.Mail uid) ≡ None)
    × (c name.Index ≡ Some renewal.index) × (c name.Cache ≡ Some renewal.cache)

-- so have the files as they are read, and each folder that a crash now may leave
pub record HasFiles {S : Type 0} (sees : SeesFolder S)
    (m : Mailbox) (steps : Files) (shelf : S) : Type 0 where
  pub seen : HoldsFiles m steps (sees.files shelf)
  pub crash : (c : Folder) → sees.may_leave shelf c → HoldsFiles m steps c

-- the files that are written or removed
abbrev pub IsNamed : Mailbox → Files → Name → Type 0
IsNamed m files.Nothing n = ⊥
IsNamed m (files.Message text) n = n ≡ name.Mail m.next_uid
IsNamed m (files.Check renewal) (name.Mail uid) = Contains renewal.gone uid
IsNamed m (files.Check renewal) name.Index = ⊤
IsNamed m (files.Check renewal) name.Cache = ⊤
IsNamed m (files.Check renewal) n = ⊥

-- all others are as before
abbrev pub KeepsUnnamed : Mailbox → Files → Folder → Folder → Type 0
KeepsUnnamed m steps old new = (n : Name) → (IsNamed m steps n → ⊥) → new n ≡ old n

-- ---- behind the whole write

-- Behind Ok the files are written. At every exit those are as before that no step names, and that
-- are none of the log or of a rotation that was due.
pub record HasWritten (m : Mailbox) (steps : Steps) {T E : Type 0} (result : Result T E)
    (old new : Folder) : Type 0 where
  pub ok : OnOk result (HoldsFiles m steps.files new)
  pub others : (n : Name) → (IsNamed m steps.files n → ⊥) → (IsOfLog steps.turn n → ⊥)
      → new n ≡ old n
