-- What a commit does to a store at rest. The records take what a shelf shows.
use Rattle.std.specs.Prelude.{◌≡◌, ℕ, List, Result, OnOk, OnErr}
use Rattle.dv_model.specs.declared.types.Mailbox.{Mailbox}
use Rattle.dv_model.specs.Journals.{Log}
use Rattle.dv_shelf.specs.Crashes.{LeavesOnly}
use Rattle.dv_shelf.specs.Folders.{Folder}
use Rattle.dv_logfile.specs.declared.commit.Debt.{Debt as LogDebt}
use Rattle.dv_logfile.specs.declared.commit.Debt.TheVariants as log_debt
use Rattle.dv_chain.specs.declared.chain.Chain.{Chain}
use Rattle.dv_writing.specs.Commits.{KeepsOthers}
use Rattle.dv_writing.specs.Debts.{Debt, MayGive, Nothing, Pending, Stands}
use Rattle.dv_writing.specs.Keeping.{Keeps}
use Rattle.dv_shelf.specs.Sees.{SeesFolder}

-- the log with the group is of the same index, and each folder that a crash now may leave keeps the
-- mailbox with the group
pub record KeepsNext {S : Type 0} (sees : SeesFolder S) (log written : Log)
    (after : Mailbox) (shelf : S) : Type 0 where
  pub named : written.indexid ≡ log.indexid
  pub keeps : (c : Folder) → sees.may_leave shelf c → Keeps written after c

-- what is owed behind a commit that failed, by the log's debt
abbrev pub debt_after : LogDebt → List ℕ → Mailbox → Log → Debt
debt_after log_debt.None text after written = Nothing
debt_after log_debt.Gate text after written = Pending text after written

-- At any moment a crash leaves a folder that gives the mailbox, or that with the group. Behind Ok
-- the store is at rest with the group and owes nothing, behind an error it is as before, and owes
-- what the log does.
pub record WritesGroup {S : Type 0} (sees : SeesFolder S) (text : List ℕ) (after : Mailbox)
    (log written : Log) (chain new_chain : Chain) {T E : Type 0} (result : Result T E) (old new : S)
    : Type 0 where
  pub ok : OnOk result (Stands sees written Nothing new_chain new)
  pub err : OnErr result
      (Stands sees log (debt_after new_chain.log.debt text after written) new_chain new)
  pub any_moment : LeavesOnly sees old new
      (MayGive log (Pending text after written) chain)
  pub others : KeepsOthers (sees.files old) (sees.files new)
