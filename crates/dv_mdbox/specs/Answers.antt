-- What calls on a storage answer, and why.
use Rattle.std.specs.Prelude.{◌≡◌, ◌⊎◌, ℕ, ◌≤◌, ◌<◌, Result, Ok, Err, Some, None, false, true, ⊤}
use Rattle.dv_model.specs.Counts.{Rose}
use Rattle.dv_model.specs.Sessions.{end_of_uids, is_log_full, message_limit}
use Rattle.dv_shelf.specs.Folders.{Folder}
use Rattle.dv_shelf.specs.Clocks.{behind}
use Rattle.dv_shelf.specs.declared.shelf.ShelfFault.{ShelfFault}
use Rattle.dv_shelf.specs.declared.shelf.ShelfFault.TheVariants as shelf_fault
use Rattle.dv_chain.specs.declared.chain.Chain.{Chain}
use Rattle.dv_files.specs.declared.fault.ChainFault.{ChainFault}
use Rattle.dv_files.specs.declared.fault.ChainFault.TheVariants as chain_fault
use Rattle.dv_files.specs.Texts.{place_of}
use Rattle.dv_mdbox.specs.declared.fault.StorageFault.{StorageFault}
use Rattle.dv_mdbox.specs.declared.fault.StorageFault.TheVariants as fault
use Rattle.dv_mdbox.specs.declared.looking.Reference.{Reference}
use Rattle.dv_mdbox.specs.Looks.{reference_of}
use Rattle.dv_mdbox.specs.Tails.{FindsTarget}
use Rattle.dv_model.specs.declared.types.Mailbox.{Mailbox}

-- what a shelf answers, with its count of faults
abbrev pub shelf_told : ℕ → ShelfFault → StorageFault
shelf_told faults shelf_fault.Failed = fault.Disk faults
shelf_told faults shelf_fault.NoMemory = fault.NoMemory

-- what comes of the files and of memory
abbrev pub chain_told : ChainFault → StorageFault
chain_told (chain_fault.Disk faults) = fault.Disk faults
chain_told chain_fault.NoMemory = fault.NoMemory

-- the disk failed only with this
abbrev pub OnDisk : {A : Type 0} → Result A StorageFault → (ℕ → Type 0) → Type 0
OnDisk (Err (fault.Disk faults)) P = P faults
OnDisk r P = ⊤

-- a fault of the disk comes only where a count rose, and tells the count; the count never falls
pub record HasStorageCause {A : Type 0} (before now : ℕ) (result : Result A StorageFault)
    : Type 0 where
  pub later : before ≤ now
  pub rose : OnDisk result (λ faults. (faults ≡ now) × Rose before now)

-- the group has no room behind the log's end, and no file can follow
abbrev pub IsFull : Chain → ℕ → Type 0
IsFull chain size = is_log_full true (place_of chain) size ≡ true

abbrev pub HasRoom : Chain → ℕ → Type 0
HasRoom chain size = is_log_full true (place_of chain) size ≡ false

-- memory ran out, or the disk failed
abbrev pub IsFailure : StorageFault → Type 0
IsFailure fault.NoMemory = ⊤
IsFailure (fault.Disk faults) = ⊤
IsFailure e = ⊥

-- neither memory nor the disk is why there is an error, and then this holds
abbrev pub OnRefused : {A : Type 0} → Result A StorageFault → Type 0 → Type 0
OnRefused (Ok x) P = ⊤
OnRefused (Err fault.NoMemory) P = ⊤
OnRefused (Err (fault.Disk faults)) P = ⊤
OnRefused (Err e) P = P

-- the id has references, whose count is so
abbrev pub IsReferenced : Mailbox → ℕ → (ℕ → Type 0) → Type 0
IsReferenced m id Is =
    (reference : Reference) × (reference_of m id ≡ Some reference) × Is reference.count

-- A change of an id's count: None is answered exactly where the id has no reference, Full exactly
-- where it has the most that may be, and TooLong exactly where the log is full; else the count is
-- changed, or the disk failed, or memory ran out.
abbrev pub ChangesCount : Mailbox → Chain → ℕ → ℕ → {A : Type 0} → Result A StorageFault → Type 0
ChangesCount m chain id most (Err fault.None) = reference_of m id ≡ None
ChangesCount m chain id most (Err fault.Full) = IsReferenced m id (λ count. count ≡ most)
ChangesCount m chain id most (Err (fault.TooLong bytes)) =
    IsReferenced m id (λ count. count < most) × IsFull chain 48 × (bytes ≡ 48)
ChangesCount m chain id most (Err fault.NoMemory) =
    IsReferenced m id (λ count. count < most) × HasRoom chain 48
ChangesCount m chain id most (Err (fault.Disk faults)) =
    IsReferenced m id (λ count. count < most) × HasRoom chain 48
ChangesCount m chain id most (Ok x) =
    IsReferenced m id (λ count. count < most) × HasRoom chain 48
ChangesCount m chain id most (Err other) = ⊥

-- Room for a group: TooLong is answered exactly where there is none.
abbrev pub FindsRoom : Chain → ℕ → {A : Type 0} → Result A StorageFault → Type 0
FindsRoom chain size (Err (fault.TooLong bytes)) = IsFull chain size × (bytes ≡ size)
FindsRoom chain size (Err fault.NoMemory) = HasRoom chain size
FindsRoom chain size (Err (fault.Disk faults)) = HasRoom chain size
FindsRoom chain size (Ok x) = HasRoom chain size
FindsRoom chain size (Err other) = ⊥

-- no reading of a clock, or as many as these
abbrev pub TakesUpTo : ℕ → (ℕ → ℕ) → (ℕ → ℕ) → Type 0
TakesUpTo n old new = (new ≡ old) ⊎ (new ≡ behind old n)

-- an id is left, and the group that gives it out has room
pub record HasNext (chain : Chain) : Type 0 where
  pub left : chain.live.mailbox.next_uid < end_of_uids
  pub room : HasRoom chain 120

-- an id is left, and the message and its group have room
pub record IsShort (m : Mailbox) (chain : Chain) (size : ℕ) : Type 0 where
  pub left : m.next_uid < end_of_uids
  pub short : size ≤ message_limit
  pub room : HasRoom chain 120

-- A save: Ids is answered exactly where no id is left, TooLong exactly where the message has more
-- than 32 MiB, or, with a shorter one, where the log is full, and Files exactly where a new file is
-- needed and no number is left for it; else the disk may fail, or memory run out.
abbrev pub AnswersSave : Type 0 → Folder → Mailbox → Chain → ℕ → Result ℕ StorageFault → Type 0
AnswersSave tells folder m chain size (Err fault.Ids) = m.next_uid ≡ end_of_uids
AnswersSave tells folder m chain size (Err (fault.TooLong bytes)) =
    (m.next_uid < end_of_uids)
    × (((message_limit < size) × (bytes ≡ size))
    ⊎ ((size ≤ message_limit) × IsFull chain 120 × (bytes ≡ 120)))
AnswersSave tells folder m chain size (Err fault.Files) =
    IsShort m chain size × FindsTarget tells folder m (Err fault.Files)
AnswersSave tells folder m chain size (Err (fault.Disk faults)) = IsShort m chain size
AnswersSave tells folder m chain size (Err fault.NoMemory) = IsShort m chain size
AnswersSave tells folder m chain size (Ok id) = IsShort m chain size × (id ≡ m.next_uid)
AnswersSave tells folder m chain size (Err other) = ⊥
