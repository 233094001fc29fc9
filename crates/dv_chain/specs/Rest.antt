-- A chain at rest: what a crash may leave of its folder between two calls, and what the chain owes
-- before its next write.
use Rattle.std.specs.Prelude.{◌≡◌, ◌⊎◌, ℕ, ◌+◌, ◌≤◌, List, ◌++◌, length, take, Some}
use Rattle.dv_model.specs.declared.types.Mailbox.{Mailbox}
use Rattle.dv_model.specs.declared.types.Mark.{Mark}
use Rattle.dv_model.specs.declared.types.Record.{Record}
use Rattle.dv_model.specs.Effects.{applied}
use Rattle.dv_model.specs.Journals.{header_size}
use Rattle.dv_shelf.specs.declared.shelf.Name.TheVariants as name
use Rattle.dv_shelf.specs.Folders.{Folder, contents, with_file}
use Rattle.dv_logfile.specs.declared.commit.Debt.TheVariants as debt
use Rattle.dv_logfile.specs.declared.header.LogHeader.{LogHeader}
use Rattle.dv_logfile.specs.Layout.{Begins, Spelled, closing, longest_log}
use Rattle.dv_logfile.specs.Reading.{HasGroup, HasShutGate}
use Rattle.dv_openings.specs.Numbers.{OpensAs}
use Rattle.dv_openings.specs.Openings.{Finds, IsFound}
use Rattle.dv_chain.specs.declared.chain.Chain.{Chain}
use Rattle.dv_chain.specs.Openings.{HasBounds, found_of}
use Rattle.dv_shelf.specs.Sees.{SeesFolder}

-- ---- what is owed

-- Nothing; or a failed commit's gate may be open, behind which its text stands, which makes this
-- mailbox; or the log may already be this new file of a rotation, which gives this mailbox.
pub data Owed : Type 0 where
  Nothing : Owed
  Pending : (text : List ℕ) (after : Mailbox) → Owed
  Last : (log : List ℕ) (after : Mailbox) → Owed

-- there is room for the text of a group, which makes that mailbox of the chain's
pub record IsPending (text : List ℕ) (after : Mailbox) (chain : Chain) : Type 0 where
  pub records : List Record
  pub some : 1 ≤ length records
  pub spelled : Spelled records text closing
  pub gives : applied chain.live.mailbox records ≡ Some after
  pub room : chain.log.end + length text ≤ longest_log

-- the log's debt says so
abbrev pub Owes : Chain → Owed → Type 0
Owes chain Nothing = chain.log.debt ≡ debt.None
Owes chain (Pending text after) = (chain.log.debt ≡ debt.Gate) × IsPending text after chain
Owes chain (Last log after) = chain.log.debt ≡ debt.None

-- ---- what a crash may leave

-- the folder's log begins with the records of the file that the chain stands on
pub record StandsOn (folder : Folder) (chain : Chain) : Type 0 where
  pub header : LogHeader
  pub records : List Record
  pub begins : Begins header records chain.log.end (contents folder name.Log)
  pub seq : chain.log.file_seq ≡ header.file_seq
  pub count : chain.log.count ≡ length records
  pub indexid : chain.indexid ≡ header.indexid
  pub number : chain.records ≡ header.initial_modseq

-- the folder with its log cut at a place, and closed there
abbrev pub cut_at : ℕ → Folder → Folder
cut_at end folder =
    with_file folder name.Log (Some (take end (contents folder name.Log) ++ closing))

-- The folder's log begins with that of the chain, and cut at the chain's end it opens to the
-- chain's mailbox.
pub record Holds (chain : Chain) (folder : Folder) : Type 0 where
  pub stands : StandsOn folder chain
  pub opens : IsFound (cut_at chain.log.end folder) (found_of chain)

-- the first place of the file behind the chain's
abbrev pub next_mark : Chain → Mark
next_mark chain = record { file_seq = chain.log.file_seq + 1; offset = header_size }

-- the same, and no record begins behind the chain's end
abbrev pub HoldsAlone : Chain → Folder → Type 0
HoldsAlone chain c = Holds chain c × HasShutGate chain.log.end (contents c name.Log)

-- Nothing more stands in the log where nothing is owed; or a group stands behind the chain's end,
-- whose gate may be open. Before the last replace of a rotation is made again, the log is the old
-- or the new one, and with the new one the folder opens to a mailbox at its first place.
abbrev pub IsResting : Owed → Chain → Folder → Type 0
IsResting Nothing chain c = HoldsAlone chain c
IsResting (Pending text after) chain c =
    Holds chain c × HasGroup chain.log.end text (contents c name.Log)
IsResting (Last log after) chain c =
    (HoldsAlone chain c ⊎ (c name.Log ≡ Some log))
    × OpensAs (with_file c name.Log (Some log)) chain.indexid (Finds after (next_mark chain))

-- A chain is at rest where each folder that a crash now may leave is so; the files as they are read
-- are one of these. It takes what the shelf shows.
pub record Rests {S : Type 0} (sees : SeesFolder S) (owed : Owed) (chain : Chain)
    (shelf : S) : Type 0 where
  pub bounds : HasBounds chain
  pub owes : Owes chain owed
  pub each : (c : Folder) → sees.may_leave shelf c → IsResting owed chain c
