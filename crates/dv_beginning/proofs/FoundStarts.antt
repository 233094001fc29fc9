-- A folder starts one log, or has one fault.
use Rattle.std.proofs.Common.{◌≡◌, inl, inr, ℕ, List, Option, refl, sym, ◌∙◌, ap, subst, arith}
use Rattle.dv_model.specs.declared.types.Mailbox.{Mailbox}
use Rattle.dv_model.specs.declared.types.Mark.{Mark}
use Rattle.dv_model.specs.declared.types.OpenFault.{OpenFault}
use Rattle.dv_model.specs.declared.types.OpenFault.TheVariants as fault
use Rattle.dv_model.specs.Journals.{Log}
use Rattle.dv_shelf.specs.Folders.{Folder, IsNew}
use Rattle.dv_logfile.specs.Scans.{Good, IsScanned}
use Rattle.dv_openings.specs.Openings as found
use Rattle.dv_openings.specs.Openings.{Finds, Found, IsFound}
use Rattle.dv_openings.proofs.FoundOnce.{found_one}
use Rattle.dv_openings.proofs.Numbers.{mailbox_in, named_one}
use Rattle.dv_chain.specs.Openings.{FaultFound}
use Rattle.dv_beginning.specs.Causes.{IsFault, fault_status}
use Rattle.dv_beginning.specs.Causes.{HasFault}
use Rattle.dv_beginning.specs.Starts.{IsOpened, Starts, log_from}

-- ---- faults

abbrev of_fault : OpenFault → Found
of_fault fault.NoLog = found.NoLog
of_fault fault.BadLogHeader = found.BadLogHeader
of_fault (fault.BadRecord offset) = found.BadRecord offset
of_fault fault.BadIndex = found.BadIndex
of_fault (fault.Gap index log) = found.Gap index log
of_fault f = found.NoLog

abbrev as_fault : Found → OpenFault
as_fault (found.Finds m mark) = fault.NoMemory
as_fault found.NoLog = fault.NoLog
as_fault found.BadLogHeader = fault.BadLogHeader
as_fault (found.BadRecord offset) = fault.BadRecord offset
as_fault found.BadIndex = fault.BadIndex
as_fault (found.Gap index log) = fault.Gap index log

found_so : (folder : Folder) (f : OpenFault) → IsFault f → FaultFound f (IsFound folder)
    → IsFound folder (of_fault f)
found_so folder fault.NoLog is there = there
found_so folder fault.BadLogHeader is there = there
found_so folder (fault.BadRecord offset) is there = there
found_so folder fault.BadIndex is there = there
found_so folder (fault.Gap index log) is there = there
found_so folder fault.NoMemory is there = absurd (omega (arith, is))
found_so folder (fault.Disk faults) is there = absurd (omega (arith, is))

same_fault : (f : OpenFault) → IsFault f → as_fault (of_fault f) ≡ f
same_fault fault.NoLog is = refl
same_fault fault.BadLogHeader is = refl
same_fault (fault.BadRecord offset) is = refl
same_fault fault.BadIndex is = refl
same_fault (fault.Gap index log) is = refl
same_fault fault.NoMemory is = absurd (omega (arith, is))
same_fault (fault.Disk faults) is = absurd (omega (arith, is))

-- one fault is found
pub faults_one : (folder : Folder) (f g : OpenFault) → IsFault f → IsFault g
    → FaultFound f (IsFound folder) → FaultFound g (IsFound folder) → f ≡ g
faults_one folder f g f-is g-is one other =
    sym (same_fault f f-is)
    ∙ ap as_fault (found_one folder (of_fault f) (of_fault g) (found_so folder f f-is one) (found_so folder g g-is other))
    ∙ same_fault g g-is

-- where a mailbox is found no fault is
pub found_faultless : (folder : Folder) (m : Mailbox) (mark : Mark) (f : OpenFault)
    → IsFound folder (Finds m mark) → IsFault f → FaultFound f (IsFound folder) → ⊥
found_faultless folder m mark f there is other =
    let same : f ≡ fault.NoMemory =
    sym (same_fault f is)
    ∙ ap as_fault (found_one folder (of_fault f) (Finds m mark) (found_so folder f is other) there) in
    let status : 3 ≡ 4 = sym is ∙ ap fault_status same in
    absurd (omega (arith, status))

-- ---- starts

abbrev mark_in : Mark → Found → Mark
mark_in k (found.Finds other mark) = mark
mark_in k f = k

opened_one : (folder : Folder) (s t : Log) → IsOpened folder s → IsOpened folder t → s ≡ t
opened_one folder s t one other =
    let number : one.indexid ≡ other.indexid = named_one folder one.indexid other.indexid one.named other.named in
    let same : Finds one.mailbox one.mark ≡ Finds other.mailbox other.mark = found_one folder _ _ one.found other.found in
    one.is
    ∙ (λ i. log_from (number i) (mailbox_in one.mailbox (same i)) (mark_in one.mark (same i)) folder)
    ∙ sym other.is

-- a folder with a log isn't new
pub opened_old : (folder : Folder) (s : Log) → IsOpened folder s → IsNew folder → ⊥
opened_old folder s one new =
    subst (λ (file : Option (List ℕ)). IsScanned file (Good one.named.log)) new.log one.named.scanned

-- the start is one, behind so many readings
pub starts_one : (clock : ℕ → ℕ) (folder : Folder) (s t : Log) (used now : ℕ)
    → Starts clock folder s used → Starts clock folder t now → (s ≡ t) × (used ≡ now)
starts_one clock folder s t used now (inl one) (inl other) =
    (opened_one folder s t one.0 other.0, one.1 ∙ sym other.1)
starts_one clock folder s t used now (inl one) (inr other) =
    absurd (opened_old folder s one.0 other.0)
starts_one clock folder s t used now (inr one) (inl other) =
    absurd (opened_old folder t other.0 one.0)
starts_one clock folder s t used now (inr one) (inr other) =
    (one.1 ∙ sym other.1, one.2 ∙ sym other.2)

-- where a run starts no fault is found
pub starts_faultless : (clock : ℕ → ℕ) (folder : Folder) (s : Log) (used : ℕ)
    → Starts clock folder s used → HasFault folder → ⊥
starts_faultless clock folder s used (inl one) has =
    found_faultless folder one.0.mailbox one.0.mark has.fault one.0.found has.is has.found
starts_faultless clock folder s used (inr one) has = has.some one.0

-- so it is told
pub found_told : (folder : Folder) (m : Mailbox) (mark : Mark) → IsFound folder (Finds m mark)
    → HasFault folder → ⊥
found_told folder m mark found has =
    found_faultless folder m mark has.fault found has.is has.found
