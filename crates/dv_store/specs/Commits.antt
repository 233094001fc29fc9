-- What a command's write does to a store, and its receipt. The records take what a shelf shows.
use Rattle.std.specs.Prelude.{◌≡◌, ◌⊎◌, ◌↔◌, ◌||◌, ◌+◌, ◌<◌, ◌≤◌, ℕ, true, List, [], ◌∷◌, ◌++◌, flat_map, length, Contains, Option, Some, None, is_some, IfSome, IsSome, if◌then◌else◌, Bool, Result, Ok, Err, IfOk, OnOk, OnErr, ⊤}
use Rattle.dv_model.specs.declared.types.Command.{Command}
use Rattle.dv_model.specs.declared.types.Command.TheVariants as command
use Rattle.dv_model.specs.declared.types.Group.{Group}
use Rattle.dv_model.specs.declared.types.Mailbox.{Mailbox}
use Rattle.dv_model.specs.declared.types.Mark.{Mark}
use Rattle.dv_model.specs.declared.types.Record.{Record}
use Rattle.dv_model.specs.declared.types.Reply.{Reply}
use Rattle.dv_model.specs.declared.types.Reply.TheVariants as reply
use Rattle.dv_model.specs.Effects.{applied}
use Rattle.dv_model.specs.Fresh.{IsTouched}
use Rattle.dv_model.specs.Journals.{IsEntry, IsGuid, IsU32, Log}
use Rattle.dv_model.specs.Sessions.{is_append}
use Rattle.dv_model.specs.Spelling.{group_text, written}
use Rattle.dv_model.specs.Views.{View}
use Rattle.dv_shelf.specs.declared.shelf.Name.{Name}
use Rattle.dv_shelf.specs.declared.shelf.Name.TheVariants as name
use Rattle.dv_shelf.specs.Clocks.{behind}
use Rattle.dv_shelf.specs.Crashes.{LeavesOnly}
use Rattle.dv_shelf.specs.Folders.{Folder}
use Rattle.dv_logfile.specs.Layout.{closing}
use Rattle.dv_formats.specs.Snapshots.{IsSnapshot}
use Rattle.dv_groups.specs.Groups.{HasSizes}
use Rattle.dv_chain.specs.declared.chain.Chain.{Chain}
use Rattle.dv_chain.specs.Rest.{next_mark}
use Rattle.dv_writing.specs.Opening.{AreEqual}
use Rattle.dv_files.specs.declared.texts.Turn.{Turn}
use Rattle.dv_files.specs.Texts.{next_log, place_of}
use Rattle.dv_writing.specs.Debts.{Debt, Last, MayGive, Nothing}
use Rattle.dv_writing.specs.Keeping.{Gives}
use Rattle.dv_lookups.specs.declared.cache_file.CacheFile.{CacheFile}
use Rattle.dv_lookups.specs.declared.cache_file.CacheFile.TheVariants as cache
use Rattle.dv_writing.specs.Removals.{IsFree}
use Rattle.dv_plans.specs.declared.fault.StoreFault.{StoreFault}
use Rattle.dv_plans.specs.declared.fault.StoreFault.TheVariants as fault
use Rattle.dv_plans.specs.Begins.{beginning, turns}
use Rattle.dv_plans.specs.Counts.{CountsReads, CountsUpTo}
use Rattle.dv_plans.specs.Files.{IsNextCache}
use Rattle.dv_plans.specs.Limits.{IsWritten}
use Rattle.dv_plans.specs.Overs.{group_over, limit_over}
use Rattle.dv_writing.specs.Ways.{BeginsAs}
use Rattle.dv_writing.specs.Writes.{IsAfter, MayOweGate, Write, group_by, log_with}
use Rattle.dv_store.specs.declared.receipt.Receipt.{Receipt}
use Rattle.dv_store.specs.Carried.{MovesMark}
use Rattle.dv_store.specs.Paying.{OwesNothing}
use Rattle.dv_store.specs.Rest.{IsAtRest}
use Rattle.dv_store.specs.States.{State}
use Rattle.dv_shelf.specs.Sees.{SeesFolder}

-- ---- the receipt

-- the UID of an appended message
abbrev pub appended_uid : Command → Mailbox → Option ℕ
appended_uid c m = if is_append c then Some m.next_uid else None

-- the place behind the text of records that begins at a place
abbrev pub behind_text : Mark → List Record → Mark
behind_text mark records = record {
  file_seq = mark.file_seq;
  offset = mark.offset + length (flat_map written records);
}

-- Where a group begins: at the log's end, or, where the log is rotated or a rotation's last replace
-- is owed, at the first place of the next file.
abbrev pub begin_of : Option Turn → Chain → Mark
begin_of owed chain = beginning (is_some owed || turns owed chain) chain

-- where the log ends with these records: where it did, if there is none
abbrev pub end_with : Option Turn → Chain → List Record → Mark
end_with owed chain [] = place_of chain
end_with owed chain (r ∷ rs) = behind_text (begin_of owed chain) (r ∷ rs)

-- The receipt has the command's group over the chain's mailbox, with some GUIDs. Its text is the
-- group's written spelling, which is as long whatever they are. The mailbox is that with the group.
-- Where it has a record, the mark is behind the text, at the log's end, and the group is an entry
-- of any author. The touched UIDs are those that are shown otherwise.
pub record IsReceipt (c : Command) (view : View) (owed : Option Turn) (old new : Chain)
    (receipt : Receipt) : Type 0 where
  pub guid : ℕ → List ℕ
  pub guids : (uid : ℕ) → IsGuid (guid uid)
  pub group : receipt.group ≡ group_over c view old guid
  pub text : receipt.text ≡ group_text receipt.group
  pub size : (other : ℕ → List ℕ) → HasSizes other
      → length receipt.text ≡ length (group_text (group_over c view old other))
  pub gives : applied old.live.mailbox receipt.group.records ≡ Some new.live.mailbox
  pub mark : 1 ≤ length receipt.group.records
      → receipt.mark ≡ end_with owed old receipt.group.records
  pub place : 1 ≤ length receipt.group.records → receipt.mark ≡ place_of new
  pub entry : 1 ≤ length receipt.group.records → (author : ℕ) → IsU32 author
      → IsEntry (record { author = author; group = receipt.group })
  pub uid : receipt.uid ≡ appended_uid c old.live.mailbox
  pub touched : (uid : ℕ) → Contains receipt.touched uid
      ↔ IsTouched old.live.mailbox new.live.mailbox uid

-- the receipt of a command that changes nothing
abbrev pub idle_receipt : Mark → Option ℕ → Receipt
idle_receipt mark uid = record {
  mark = mark;
  uid = uid;
  group = record { records = [] };
  text = [];
  touched = [];
  received = 0;
}

-- ---- which answer

-- A limit is answered exactly where it is met first, but where memory runs out, and a fault of the
-- disk only where the group has a record.
abbrev pub IsLimited : Option Reply → Group → Result Receipt StoreFault → Type 0
IsLimited limit group (Ok receipt) = limit ≡ None
IsLimited limit group (Err fault.UidsUsedUp) = limit ≡ Some reply.UidsUsedUp
IsLimited limit group (Err (fault.TooLong bytes)) = limit ≡ Some (reply.TooLong bytes)
IsLimited limit group (Err (fault.Disk faults)) = IsWritten limit group
IsLimited limit group (Err fault.NoMemory) = ⊤

-- a limit is met, or the group has no record
abbrev pub IsIdle : Result Receipt StoreFault → Type 0
IsIdle (Ok receipt) = receipt.group.records ≡ []
IsIdle (Err fault.UidsUsedUp) = ⊤
IsIdle (Err (fault.TooLong bytes)) = ⊤
IsIdle (Err e) = ⊥

-- nothing was written: so it is, or memory ran out
abbrev pub IsUnwritten : Result Receipt StoreFault → Type 0
IsUnwritten (Ok receipt) = receipt.group.records ≡ []
IsUnwritten (Err (fault.Disk faults)) = ⊥
IsUnwritten (Err e) = ⊤

-- ---- the clock, the message files and the cache file

-- no reading was taken where there is no record, else so many
abbrev pub TakesFor : ℕ → (ℕ → ℕ) → (ℕ → ℕ) → List Record → Type 0
TakesFor n old new [] = new ≡ old
TakesFor n old new (r ∷ rs) = new ≡ behind old n

-- behind a fault of the disk as many, behind another error none or as many
abbrev pub TakesReadings : ℕ → (ℕ → ℕ) → (ℕ → ℕ) → Result Receipt StoreFault → Type 0
TakesReadings n old new (Ok receipt) = TakesFor n old new receipt.group.records
TakesReadings n old new (Err (fault.Disk faults)) = new ≡ behind old n
TakesReadings n old new (Err e) = (new ≡ old) ⊎ (new ≡ behind old n)

-- no message file was read where there is no record, else so many
abbrev pub CountsFor : ℕ → ℕ → ℕ → List Record → Type 0
CountsFor n before now [] = now ≡ before
CountsFor n before now (r ∷ rs) = CountsReads n before now

-- behind an error so many at most
abbrev pub CountsMails : ℕ → ℕ → ℕ → Result Receipt StoreFault → Type 0
CountsMails n before now (Ok receipt) = CountsFor n before now receipt.group.records
CountsMails n before now (Err e) = CountsUpTo n before now

-- a CHECK forgets what was read of the cache file
abbrev pub cache_behind : Command → CacheFile → CacheFile
cache_behind command.Check file = cache.Unread
cache_behind c file = file

-- ---- a check

-- Each message file of a UID that was given out and has no row is gone. The index is the snapshot
-- of the mailbox at the place where the group begins, and the cache file is of the rows' messages.
pub record HasChecked (owed : Option Turn) (chain : Chain) (old new : Folder) : Type 0 where
  pub gone : (uid : ℕ) → uid < chain.live.mailbox.next_uid → IsFree chain.live.mailbox uid
      → new (name.Mail uid) ≡ None
  pub index : List ℕ
  pub snapshot : IsSnapshot 2 chain.live.mailbox chain.indexid (begin_of owed chain) index
  pub cache : List ℕ
  pub renewed : IsNextCache chain old cache
  pub there : (new name.Index ≡ Some index) × (new name.Cache ≡ Some cache)

-- so it is behind a CHECK
abbrev pub Checks : Command → Option Turn → Chain → Folder → Folder → Type 0
Checks command.Check owed chain old new = HasChecked owed chain old new
Checks c owed chain old new = ⊤

-- ---- the files

-- the message file of an appended message, or those that a CHECK removes
abbrev pub MayWriteMail : Command → Mailbox → ℕ → Type 0
MayWriteMail (command.Append flags keywords message) m uid = uid ≡ m.next_uid
MayWriteMail command.Check m uid = (uid < m.next_uid) × IsFree m uid
MayWriteMail c m uid = ⊥

-- a CHECK alone writes the cache file
abbrev pub MayWriteCache : Command → Type 0
MayWriteCache command.Check = ⊤
MayWriteCache c = ⊥

-- The files that a command's write and a repair may change, and a rotation where one is due: it
-- replaces the index, as a CHECK does, and the rotated log.
abbrev pub MayChange : Command → Mailbox → Bool → Name → Type 0
MayChange c m turning (name.Mail uid) = MayWriteMail c m uid
MayChange c m turning name.Cache = MayWriteCache c
MayChange c m turning name.Index = MayWriteCache c ⊎ (turning ≡ true)
MayChange c m turning name.Log2 = turning ≡ true
MayChange c m turning name.Log = ⊤

-- these, whether or not a rotation is due
abbrev pub MayWrite : Command → Mailbox → Name → Type 0
MayWrite c m (name.Mail uid) = MayWriteMail c m uid
MayWrite c m name.Cache = MayWriteCache c
MayWrite c m n = ⊤

-- ---- what the folder gives

-- the text of a write's group, as a commit takes it
abbrev pub text_by : Log → Write → Mailbox → List ℕ
text_by log write m = group_text (group_by log write m) ++ closing

-- The mailbox from before, or with what was owed; or, where the log is rotated, at the first place
-- of the new file; or the mailbox with the write's group, behind it.
abbrev pub MayGiveCommit : Log → Debt → Write → Option Turn → Chain → Folder → Type 0
MayGiveCommit log debt write owed chain c =
    MayGive log debt chain c
    ⊎ ((turns owed chain ≡ true) × Gives log chain.live.mailbox (next_mark chain) c)
    ⊎ ((after : Mailbox) × IsAfter log write chain.live.mailbox after
    × Gives (log_with log write chain.live.mailbox) after
    (end_with owed chain (group_by log write chain.live.mailbox).records) c)

-- ---- the store

-- a command's write, whose message is received then
abbrev pub write_at : ℕ → Command → View → ℕ → Write
write_at author c view received = record {
  author = author;
  command = c;
  view = view;
  received = received;
}

module _ {S C : Type 0} where
  -- the chain, the mark and what is owed are as before, but for spare rows
  pub record StaysAs (old new : State S C) : Type 0 where
    pub chain : AreEqual new.chain old.chain
    pub owed : new.owed ≡ old.owed
    pub mark : new.mark ≡ old.mark

  -- Behind a rotation that a command made, the log begins as the file behind the old one, made at
  -- this reading of the clock; so is the text of one whose last replace is owed.
  pub record Rotates (reading : ℕ) (old new : State S C) (folder : Folder) : Type 0 where
    pub log : (new.chain.log.file_seq ≡ old.chain.log.file_seq → ⊥)
        → BeginsAs (next_log old.chain reading) folder
    pub owed : IfSome new.owed (λ turn. turn.new ≡ next_log old.chain reading)

  -- The log's end and the turn that is owed are as they were; or, where a rotation was due, the end
  -- is, and a turn may be owed; or the log ends where the group begins, and none is.
  abbrev pub StopsAt : State S C → State S C → Type 0
  StopsAt old new =
      ((place_of new.chain ≡ place_of old.chain) × (new.owed ≡ old.owed))
      ⊎ ((place_of new.chain ≡ place_of old.chain) × (turns old.owed old.chain ≡ true))
      ⊎ ((place_of new.chain ≡ begin_of old.owed old.chain) × (new.owed ≡ None))

  -- What a command does to a store, but for shelf and clock. Behind Ok the mark is the receipt's,
  -- and with a group nothing is owed. An error keeps mailbox and mark, and stops at the log's end or
  -- on the way to where the group would begin; where nothing was written, all of it stays.
  pub record Commits (c : Command) (view : View) (old new : State S C)
      (result : Result Receipt StoreFault) : Type 0 where
    pub limit : (guid : ℕ → List ℕ) → HasSizes guid
        → IsLimited (limit_over c view old.chain guid) (group_over c view old.chain guid) result
    pub ok : IfOk result (IsReceipt c view old.owed old.chain new.chain)
    pub paid : IfOk result (λ receipt. 1 ≤ length receipt.group.records → OwesNothing new)
    pub failed : OnErr result (new.chain.live.mailbox ≡ old.chain.live.mailbox)
    pub place : OnErr result (StopsAt old new)
    pub mark : MovesMark old.mark new.mark result
    pub unwritten : IsUnwritten result → StaysAs old new
    pub indexid : new.chain.indexid ≡ old.chain.indexid
    pub cache : new.cache ≡ cache_behind c old.cache

  -- What a failed command leaves of place, turn and debt together: all as before; or, where a
  -- rotation was due, nothing is owed, or the rotation's last replace; or the log ends where the
  -- group begins, and the group's gate may be open.
  abbrev pub IsLeftAt : Log → Debt → Write → State S C → State S C → Debt → Type 0
  IsLeftAt log debt write old new now =
      ((place_of new.chain ≡ place_of old.chain) × (new.owed ≡ old.owed) × (now ≡ debt))
      ⊎ ((place_of new.chain ≡ place_of old.chain) × (turns old.owed old.chain ≡ true)
      × (new.owed ≡ None) × (now ≡ Nothing))
      ⊎ ((place_of new.chain ≡ place_of old.chain) × (turns old.owed old.chain ≡ true)
      × IsSome new.owed × ((file : List ℕ) × (now ≡ Last file)))
      ⊎ ((place_of new.chain ≡ begin_of old.owed old.chain) × (new.owed ≡ None)
      × MayOweGate log write (text_by log write old.chain.live.mailbox)
      old.chain.live.mailbox now)

  -- From rest to rest: behind Ok with the group, with the log's GUIDs and the message when it came,
  -- and nothing is owed; behind an error as before, with what is owed then; where nothing was
  -- written, as before. A crash at any moment leaves the mailbox from before or with the
  -- group, whole. Files that no step names stay.
  pub record CommitsQuietly (sees : SeesFolder S) (log : Log) (debt : Debt) (write : Write)
      (old new : State S C) (result : Result Receipt StoreFault) : Type 0 where
    pub group : HasSizes log.guid
        → IfOk result (λ receipt. receipt.group ≡ group_by log write old.chain.live.mailbox)
    pub received : IfOk result (λ receipt. is_append write.command ≡ true
        → 1 ≤ length receipt.group.records → receipt.received ≡ write.received)
    pub ok : IfOk result (λ receipt. 1 ≤ length receipt.group.records
        → IsAtRest sees (log_with log write old.chain.live.mailbox) Nothing new)
    pub err : OnErr result ((now : Debt) × IsLeftAt log debt write old new now
        × IsAtRest sees log now new)
    pub unwritten : IsUnwritten result → IsAtRest sees log debt new
    pub any_moment : LeavesOnly sees old.shelf new.shelf
        (MayGiveCommit log debt write old.owed old.chain)
    pub others : (n : Name)
        → (MayChange write.command old.chain.live.mailbox (turns old.owed old.chain) n → ⊥)
        → sees.files new.shelf n ≡ sees.files old.shelf n
    pub checks : OnOk result
        (Checks write.command old.owed old.chain (sees.files old.shelf) (sees.files new.shelf))
