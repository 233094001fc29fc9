-- What a commit and a heal do: to the value, to the files as reads give them, to what a crash
-- leaves in bytes, and to what is read of that. The records take what a shelf shows.
use Rattle.std.specs.Prelude.{◌≡◌, ℕ, ◌+◌, ◌-◌, ◌*◌, ◌^◌, ◌<◌, ◌≤◌, min, List, [], ◌∷◌, length, Some, Result, IfOk, OnOk, OnErr}
use Rattle.dv_model.specs.declared.types.Mark.{Mark}
use Rattle.dv_model.specs.declared.types.Record.{Record}
use Rattle.dv_shelf.specs.declared.shelf.Name.TheVariants.{Log}
use Rattle.dv_shelf.specs.Crashes.{Follows, IsSettled, LeavesOnly}
use Rattle.dv_shelf.specs.Folders.{Folder, with_file, contents, patched, ChangesOnly, TornFile}
use Rattle.dv_logfile.specs.declared.commit.Debt.TheVariants as debt
use Rattle.dv_logfile.specs.declared.commit.LogFile.{LogFile}
use Rattle.dv_logfile.specs.Layout.{Spelled, closing, longest_log}
use Rattle.dv_logfile.specs.Gates.{IsBeforeOrAfter, IsStaged, IsOpen, IsLeft, AreLong, FromOneOf}
use Rattle.dv_logfile.specs.Reading.{IsAtRest, ReadsAs, ReadsWith, ReadsEither, ReadsLeft}
use Rattle.dv_shelf.specs.Sees.{SeesFolder}

-- ---- the value

-- Behind Ok the end and the count go on by the group, the mark is the new end, and nothing is owed.
-- An error keeps the end and the count.
pub record AdvancesLog (text : List ℕ) (old new : LogFile) {E : Type 0} (result : Result Mark E) : Type 0 where
  pub mark : IfOk result (λ mark. (mark.file_seq ≡ old.file_seq) × (mark.offset ≡ new.end))
  pub end : OnOk result (new.end + 4 ≡ old.end + length text)
  pub count : (records : List Record) → Spelled records text closing
      → OnOk result (new.count ≡ min (old.count + length records) (2 ^ 32 - 1))
  pub counted : 8 * old.count ≤ old.end → (records : List Record) → Spelled records text closing
      → OnOk result ((new.count ≡ old.count + length records) × (8 * new.count ≤ new.end))
  pub file_seq : new.file_seq ≡ old.file_seq
  pub debt : OnOk result (new.debt ≡ debt.None)
  pub kept : OnErr result ((new.end ≡ old.end) × (new.count ≡ old.count))

-- Behind Ok nothing is owed, behind an error what was; the rest of the value stays.
pub record SettlesDebt (old new : LogFile) {T E : Type 0} (result : Result T E) : Type 0 where
  pub debt : OnOk result (new.debt ≡ debt.None)
  pub failed : OnErr result (new.debt ≡ old.debt)
  pub kept : (new.file_seq ≡ old.file_seq) × (new.end ≡ old.end) × (new.count ≡ old.count)

-- ---- the files, as reads give them

-- Bytes are written into the log and synced. A failure leaves any bytes in their place, and so may
-- a crash, which behind Ok leaves the log as it is read.
pub record WritesSynced {S : Type 0} (sees : SeesFolder S)
    (at : ℕ) (bytes : List ℕ) {T E : Type 0} (result : Result T E) (old new : S) : Type 0 where
  pub ok : OnOk result (sees.files new ≡ with_file (sees.files old) Log (Some (patched (contents (sees.files old) Log) at bytes)))
  pub err : OnErr result (ChangesOnly Log (TornFile at (length bytes)) (sees.files old) (sees.files new))
  pub durable : OnOk result ((c : Folder) → sees.may_leave new c → c Log ≡ sees.files new Log)
  pub crash : Follows (ChangesOnly Log (TornFile at (length bytes))) (sees.may_leave old) (sees.may_leave new)
  pub since : LeavesOnly sees old new
      (FromOneOf (sees.may_leave old) (ChangesOnly Log (TornFile at (length bytes))))

-- Behind Ok the text stands at the old end. An error leaves the gate as it was, or the group whole
-- behind it; the debt says which.
pub record WritesGroup (text : List ℕ) (old new : LogFile) {T E : Type 0} (result : Result T E) (before now : Folder) : Type 0 where
  pub written : old.end ≤ length (contents before Log)
      → OnOk result (now ≡ with_file before Log (Some (patched (contents before Log) old.end text)))
  pub failed : old.end < length (contents before Log) → OnErr result (IsBeforeOrAfter before old.end text now)
  pub owed : old.end < length (contents before Log) → OnErr result (IsLeft new.debt before old.end text now)

-- Behind Ok a zero byte stands at the end where a debt was owed. An error leaves any byte there.
pub record ShutsGate (old : LogFile) {T E : Type 0} (result : Result T E) (before now : Folder) : Type 0 where
  pub written : old.debt ≡ debt.Gate
      → OnOk result (now ≡ with_file before Log (Some (patched (contents before Log) old.end (0 ∷ []))))
  pub torn : OnErr result (ChangesOnly Log (TornFile old.end 1) before now)

-- ---- what a crash leaves

-- A crash at any moment leaves the bytes up to the gate as they were, or the whole group behind the
-- gate; one behind Ok the group, one behind an error what the debt says.
pub record LeavesGroup {S : Type 0} (sees : SeesFolder S)
    (text : List ℕ) (log new_log : LogFile) {T E : Type 0} (result : Result T E) (old new : S) : Type 0 where
  pub any_moment : IsSettled sees old → log.end < length (contents (sees.files old) Log)
      → LeavesOnly sees old new (IsBeforeOrAfter (sees.files old) log.end text)
  pub since : AreLong log.end (sees.may_leave old)
      → LeavesOnly sees old new (FromOneOf (sees.may_leave old) (λ d c. IsBeforeOrAfter d log.end text c))
  pub opened : AreLong log.end (sees.may_leave old)
      → OnOk result (Follows (λ d c. IsOpen d log.end text c) (sees.may_leave old) (sees.may_leave new))
  pub left : AreLong log.end (sees.may_leave old)
      → OnErr result (Follows (λ d c. IsLeft new_log.debt d log.end text c) (sees.may_leave old) (sees.may_leave new))

-- A commit goes from rest to rest. A crash at any moment leaves a log of the records from before,
-- or of those and the group's; one behind Ok of those and the group's, one behind an error what the
-- debt says.
pub record ReadsGroup {S : Type 0} (sees : SeesFolder S)
    (text : List ℕ) (log new_log : LogFile) {T E : Type 0} (result : Result T E) (old new : S) : Type 0 where
  pub rest : IsAtRest new_log.debt new_log.end text (sees.may_leave new)
  pub reading : LeavesOnly sees old new (FromOneOf (sees.may_leave old) (ReadsEither log.end text))
  pub reads_group : OnOk result (Follows (ReadsWith log.end text) (sees.may_leave old) (sees.may_leave new))
  pub reads_left : OnErr result (Follows (ReadsLeft new_log.debt log.end text) (sees.may_leave old) (sees.may_leave new))

-- A heal goes from rest to rest. Where a debt is owed, a crash at any moment leaves the group
-- behind the gate, whatever the gate is. What is read of the log is its records or, where a debt is
-- owed, those and the group's; behind Ok its records.
pub record ReadsHealed {S : Type 0} (sees : SeesFolder S)
    (text : List ℕ) (log new_log : LogFile) {T E : Type 0} (result : Result T E) (old new : S) : Type 0 where
  pub since : log.debt ≡ debt.Gate
      → LeavesOnly sees old new (FromOneOf (sees.may_leave old) (λ d c. IsStaged d log.end text c))
  pub rest : IsAtRest new_log.debt new_log.end text (sees.may_leave new)
  pub reading : log.end + length text ≤ longest_log
      → LeavesOnly sees old new (FromOneOf (sees.may_leave old) (ReadsLeft log.debt log.end text))
  pub reads_old : log.end + length text ≤ longest_log
      → OnOk result (Follows (ReadsAs log.end) (sees.may_leave old) (sees.may_leave new))
