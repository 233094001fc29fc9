-- What comes before a write's own files: what is owed is paid, and a long log rotated. The records
-- take what a shelf shows.
use Rattle.std.specs.Prelude.{◌≡◌, ◌⊎◌, ℕ, ◌<◌, List, take, Option, Some, None, IfSome, IsSome, Result, OnOk, OnErr, ⊤}
use Rattle.dv_model.specs.Journals.{Log, header_size}
use Rattle.dv_shelf.specs.declared.shelf.Name.{Name}
use Rattle.dv_shelf.specs.declared.shelf.Name.TheVariants as name
use Rattle.dv_shelf.specs.Crashes.{LeavesOnly}
use Rattle.dv_shelf.specs.Folders.{Folder, contents}
use Rattle.dv_logfile.specs.declared.commit.Debt.TheVariants as log_debt
use Rattle.dv_chain.specs.declared.chain.Chain.{Chain}
use Rattle.dv_chain.specs.Rest.{next_mark}
use Rattle.dv_files.specs.declared.texts.Turn.{Turn}
use Rattle.dv_files.specs.Texts.{IsTurnOf, turned}
use Rattle.dv_writing.specs.Debts.{Debt, Fits, Last, MayGive, Nothing, Stands, debt_of}
use Rattle.dv_writing.specs.Keeping.{Gives}
use Rattle.dv_writing.specs.Repairing.{IsOwing}
use Rattle.dv_shelf.specs.Sees.{SeesFolder}

-- ---- the chain

-- with the debt of its log paid
abbrev pub healed : Chain → Chain
healed chain = record chain { log = record chain.log { debt = log_debt.None } }

-- behind what was owed
abbrev pub repaired : Option Turn → Chain → Chain
repaired None chain = healed chain
repaired (Some turn) chain = turned (healed chain)

-- and behind the rotation that was due
abbrev pub ready : Option Turn → Option Turn → Chain → Chain
ready owed None chain = repaired owed chain
ready owed (Some turn) chain = turned (repaired owed chain)

-- a turn is of the chain, where a file may follow; none is made where one is owed
abbrev pub IsDue : Option Turn → Chain → Option Turn → Type 0
IsDue owed chain turn =
    IfSome turn (λ t. IsTurnOf chain t × (chain.log.file_seq < 4294967295) × (owed ≡ None))

-- An error leaves chain and turn as they were; or, where a rotation was due, what was owed is paid,
-- and the rotation wasn't made, or its last replace is owed.
abbrev pub StopsOnWay : Option Turn → Option Turn → Option Turn → Chain → Chain → Type 0
StopsOnWay owed left turn old new =
    ((new ≡ old) × (left ≡ owed))
    ⊎ ((new ≡ repaired owed old) × IsSome turn × ((left ≡ None) ⊎ (left ≡ turn)))

-- Behind Ok nothing is owed, and the chain is ready. An error stops on the way there.
pub record MakesWay (owed left turn : Option Turn) (old new : Chain) {T E : Type 0}
    (result : Result T E) : Type 0 where
  pub ok : OnOk result ((new ≡ ready owed turn old) × (left ≡ None))
  pub failed : OnErr result (StopsOnWay owed left turn old new)
  pub owing : IsOwing new left

-- ---- the folder

-- the mailbox at its place, or with what was owed; or, where the log is rotated, at the first place
-- of the new file
abbrev pub MayGiveOn : Log → Debt → Option Turn → Chain → Folder → Type 0
MayGiveOn log debt turn chain c =
    MayGive log debt chain c
    ⊎ (IsSome turn × Gives log chain.live.mailbox (next_mark chain) c)

-- What an error leaves of chain, turn and debt together: all as it was; or, where a rotation was
-- due, what was owed is paid, and nothing is owed, or the rotation's last replace.
abbrev pub IsLeftOnWay : Option Turn → Option Turn → Option Turn → Chain → Chain → Debt → Debt
    → Type 0
IsLeftOnWay owed left turn old new debt now =
    ((new ≡ old) × (left ≡ owed) × (now ≡ debt))
    ⊎ ((new ≡ repaired owed old) × IsSome turn × (left ≡ None) × (now ≡ Nothing))
    ⊎ ((new ≡ repaired owed old) × IsSome turn × (left ≡ turn) × (now ≡ debt_of turn))

-- a folder, the mailbox at the end of its log, and the turn that is owed
pub record Held (S : Type 0) : Type 0 where
  pub shelf : S
  pub chain : Chain
  pub owed : Option Turn

abbrev pub held : {S : Type 0} → S → Chain → Option Turn → Held S
held shelf chain owed = record { shelf = shelf; chain = chain; owed = owed }

-- From rest to rest: behind Ok nothing is owed, behind an error what is left says. A crash at any
-- moment leaves a folder that gives the mailbox, or that with what was owed.
pub record MakesWayQuietly {S : Type 0} (sees : SeesFolder S) (log : Log) (debt : Debt)
    (turn : Option Turn) (old new : Held S) {T E : Type 0} (result : Result T E) : Type 0 where
  pub since : LeavesOnly sees old.shelf new.shelf (MayGiveOn log debt turn old.chain)
  pub ok : OnOk result (Stands sees log Nothing new.chain new.shelf)
  pub err : OnErr result ((now : Debt)
      × IsLeftOnWay old.owed new.owed turn old.chain new.chain debt now
      × Fits new.owed now × Stands sees log now new.chain new.shelf)

-- ---- the files

-- those that a repair and a commit write, and a rotation where one is due
abbrev pub IsOfLog : Option Turn → Name → Type 0
IsOfLog turn name.Log = ⊤
IsOfLog turn name.Index = IsSome turn
IsOfLog turn name.Log2 = IsSome turn
IsOfLog turn n = ⊥

-- all other files are as before
abbrev pub KeepsBeside : Option Turn → Folder → Folder → Type 0
KeepsBeside turn old new = (n : Name) → (IsOfLog turn n → ⊥) → new n ≡ old n

-- so it is; and behind Ok the log is the new one of the rotation, where one was due
pub record MakesWayIn (turn : Option Turn) {T E : Type 0} (result : Result T E) (old new : Folder)
    : Type 0 where
  pub others : KeepsBeside turn old new
  pub turned : OnOk result (IfSome turn (λ t. new name.Log ≡ Some t.new))

-- the log begins with the header of that file
abbrev pub BeginsAs : List ℕ → Folder → Type 0
BeginsAs file folder = take header_size (contents folder name.Log) ≡ take header_size file

-- where the chain went on to another file, the log begins as that of the rotation that was due
abbrev pub HasTurned : Option Turn → Chain → Chain → Folder → Type 0
HasTurned turn old new folder = IfSome turn (λ t.
    (new.log.file_seq ≡ old.log.file_seq → ⊥) → BeginsAs t.new folder)

-- the cache file and the message files are as before
pub record KeepsMails (old new : Folder) : Type 0 where
  pub cache : new name.Cache ≡ old name.Cache
  pub mails : (uid : ℕ) → new (name.Mail uid) ≡ old (name.Mail uid)
