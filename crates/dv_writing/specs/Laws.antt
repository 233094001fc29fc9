-- What is kept where files stay, and what a store at rest gives.
use Rattle.std.specs.Prelude.{◌≡◌, Contains}
use Rattle.dv_model.specs.declared.types.Mailbox.{Mailbox}
use Rattle.dv_model.specs.declared.types.Row.{Row}
use Rattle.dv_model.specs.Journals.{Log}
use Rattle.dv_shelf.specs.declared.shelf.Name.TheVariants as name
use Rattle.dv_shelf.specs.Folders.{Folder}
use Rattle.dv_chain.specs.declared.chain.Chain.{Chain}
use Rattle.dv_writing.specs.Debts.{Debt, MayGive, Stands}
use Rattle.dv_writing.specs.Keeping.{Keeps}
use Rattle.dv_shelf.specs.Sees.{SeesFolder}

-- the cache file and the message files of a mailbox's rows are as before
pub record SameMessages (m : Mailbox) (old new : Folder) : Type 0 where
  pub cache : new name.Cache ≡ old name.Cache
  pub files : (row : Row) → Contains m.rows row → new (name.Mail row.uid) ≡ old (name.Mail row.uid)

-- then what is kept is still kept
abbrev pub KeptWhereSame : Type 0
KeptWhereSame = (log : Log) (m : Mailbox) (old new : Folder) → SameMessages m old new
    → Keeps log m old → Keeps log m new

-- whatever a crash leaves of a store at rest gives its mailbox, or that with what is owed
abbrev pub RestGives : {S : Type 0} → SeesFolder S → Type 0
RestGives {S} sees = (log : Log) (debt : Debt) (chain : Chain) (shelf : S) (c : Folder)
    → Stands sees log debt chain shelf → sees.may_leave shelf c → MayGive log debt chain c
