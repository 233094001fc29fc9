-- What a purge does to a storage: to the map, file by file, and to the folder. The records take
-- what a shelf shows.
use Rattle.std.specs.Prelude.{◌≡◌, ◌≢◌, ◌⊎◌, ℕ, ◌+◌, ◌^◌, ◌<◌, ◌≤◌, List, [], ◌∷◌, ◌++◌, All, Contains, IsSome, Option, Some, None, Result, Ok, Err, OnErr, OnOk, filter, flat_map, length, map, false, true, ⊤}
use Rattle.dv_model.specs.declared.types.Mailbox.{Mailbox}
use Rattle.dv_model.specs.declared.types.Mark.{Mark}
use Rattle.dv_model.specs.declared.types.Record.{Record}
use Rattle.dv_model.specs.Effects.{applied}
use Rattle.dv_model.specs.Journals.{Damaged, mark_behind}
use Rattle.dv_model.specs.Sessions.{group_limit, is_log_full}
use Rattle.dv_model.specs.Spelling.{written}
use Rattle.dv_shelf.specs.declared.shelf.Name.TheVariants as name
use Rattle.dv_shelf.specs.Clocks.{behind}
use Rattle.dv_shelf.specs.Crashes.{LeavesOnly}
use Rattle.dv_shelf.specs.Folders.{Folder}
use Rattle.dv_shelf.specs.Sees.{SeesFolder}
use Rattle.dv_chain.specs.declared.chain.Chain.{Chain}
use Rattle.dv_chain.specs.Rest.{Nothing, Owed}
use Rattle.dv_filing.specs.declared.steps.Files.{Files}
use Rattle.dv_filing.specs.declared.steps.Files.TheVariants as kind
use Rattle.dv_filing.specs.Files.{HasRoom}
use Rattle.dv_filing.specs.Standing.{Gives, MayGive}
use Rattle.dv_filing.specs.Writes.{IsLeftOwed, KeepsThrough}
use Rattle.dv_maps.specs.declared.mapped.Mapped.{Mapped}
use Rattle.dv_maps.specs.Laws.{IsMap}
use Rattle.dv_maps.specs.Purges.{IsThinned, Rewrites, StandsIn, all_mapped, file_records, is_gone, is_kept, kept_size, texts_in}
use Rattle.dv_maps.specs.Storages.{storage_of}
use Rattle.dv_maps.specs.Texts.{Messages, text_at}
use Rattle.dv_mdbox.specs.declared.gathering.FileRows.{FileRows}
use Rattle.dv_mdbox.specs.declared.fault.StorageFault.{StorageFault}
use Rattle.dv_mdbox.specs.declared.fault.StorageFault.TheVariants as fault
use Rattle.dv_mdbox.specs.declared.tails.Tail.{Tail}
use Rattle.dv_mdbox.specs.Answers.{IsFailure}
use Rattle.dv_mdbox.specs.States.{IsAtRest, State, mark_from}
use Rattle.dv_mdbox.specs.Tails.{IsTailOf, number_behind, tail_file}
use Rattle.dv_mdbox.specs.Writes.{WritesBeside, entry_of}

-- ---- files

-- a row of the map names the file
abbrev pub IsNamed : Mailbox → ℕ → Type 0
IsNamed m file = (r : Mapped) × Contains (all_mapped m) r × (r.place.file ≡ file)

-- so it is with each message file of the folder
abbrev pub AllNamed : Folder → Mailbox → Type 0
AllNamed folder m = (file : ℕ) → IsSome (folder (name.Mail file)) → IsNamed m file

-- the number behind the highest that the map names
abbrev pub IsNextFile : Mailbox → ℕ → Type 0
IsNextFile m new =
    (tail : Option Tail) × IsTailOf m m.rows tail × (new ≡ number_behind (tail_file tail))

-- the map names the last number, so that none is left for a new file
abbrev pub NamesLast : Mailbox → Type 0
NamesLast m =
    (tail : Option Tail) × IsTailOf m m.rows tail × (tail_file tail ≡ Some 4294967295)

-- the file has a row without references
abbrev pub HasGone : Mailbox → ℕ → Type 0
HasGone m file =
    (r : Mapped) × Contains (all_mapped m) r × (r.count ≡ 0) × (r.place.file ≡ file)

-- of the files from a number on it is the first that has one
pub record IsNextGone (m : Mailbox) (from file : ℕ) : Type 0 where
  pub from_there : from ≤ file
  pub some : HasGone m file
  pub first : All (λ r. r.count ≡ 0 → (r.place.file < from) ⊎ (file ≤ r.place.file)) (all_mapped m)

-- there is none
abbrev pub NoneGoneFrom : Mailbox → ℕ → Type 0
NoneGoneFrom m from = All (λ r. r.count ≡ 0 → r.place.file < from) (all_mapped m)

-- the rows that the file keeps
abbrev pub kept_rows : Mailbox → ℕ → List Mapped
kept_rows m file = filter (is_kept file) (all_mapped m)

-- the ids of the others
abbrev pub gone_ids : Mailbox → ℕ → List ℕ
gone_ids m file = map (λ r. r.id) (filter (is_gone file) (all_mapped m))

-- a text that the file keeps is damaged in this folder, or they are too long for a new one
abbrev pub IsPassedOver : Folder → Mailbox → ℕ → Type 0
IsPassedOver folder m file =
    ((r : Mapped) × Contains (kept_rows m file) r × (text_at folder r.place ≡ Damaged))
    ⊎ (2 ^ 32 ≤ kept_size file (all_mapped m))

-- each text that the file keeps is whole in this folder, and they are short enough for a new one
pub record IsFit (folder : Folder) (m : Mailbox) (file : ℕ) : Type 0 where
  pub whole : All (λ r. text_at folder r.place ≢ Damaged) (kept_rows m file)
  pub short : kept_size file (all_mapped m) < 2 ^ 32

-- so it is by what is known of the folder, or the file is passed over
abbrev pub FitsKnown : Option Folder → Mailbox → ℕ → Type 0
FitsKnown None m file = kept_size file (all_mapped m) < 2 ^ 32
FitsKnown (Some folder) m file = IsFit folder m file

abbrev pub PassesKnown : Option Folder → Mailbox → ℕ → Type 0
PassesKnown None m file = ⊤
PassesKnown (Some folder) m file = IsPassedOver folder m file

-- its kept texts go into a file of this number, where it keeps some
pub record IsNumberFor (m : Mailbox) (file new : ℕ) : Type 0 where
  pub above : (kept_rows m file ≡ []) ⊎ IsNextFile m new
  pub low : new < 2 ^ 32

-- the file is rewritten by a group
pub record IsRewritten (m : Mailbox) (file new : ℕ) (after : Mailbox) : Type 0 where
  pub number : IsNumberFor m file new
  pub group : applied m (file_records file new (all_mapped m)) ≡ Some after
  pub map : IsMap m → Rewrites file new m after

-- ---- the map, file by file

-- By rising number each file that has a row without references is rewritten by a group, where its
-- kept texts are fit for that, and else passed over, by what is known of the folder. So it is from
-- one number to another.
abbrev pub PurgesFiles : Option Folder → ℕ → Mailbox → List ℕ → List (List Record) → ℕ → Mailbox
    → Type 0
PurgesFiles known from m [] groups to after = (groups ≡ []) × (to ≡ from) × (after ≡ m)
PurgesFiles known from m (file ∷ files) groups to after =
    IsNextGone m from file
    × ((PassesKnown known m file × PurgesFiles known (file + 1) m files groups to after)
    ⊎ (FitsKnown known m file × (new : ℕ) × (next : Mailbox) × (more : List (List Record))
    × IsRewritten m file new next
    × (groups ≡ file_records file new (all_mapped m) ∷ more)
    × PurgesFiles known (file + 1) next files more to after))

-- ---- room for its groups

-- the bytes of a group
abbrev pub group_size : List Record → ℕ
group_size records = length (flat_map written records)

-- a group of so many bytes is short enough, and has room behind this place
abbrev pub HasRoomAt : Mark → ℕ → Type 0
HasRoomAt mark size = (size ≤ group_limit) × (is_log_full true mark size ≡ false)

-- or it hasn't
abbrev pub LacksRoomAt : Mark → ℕ → Type 0
LacksRoomAt mark size = (group_limit < size) ⊎ (is_log_full true mark size ≡ true)

-- each of these groups has room behind those before it
abbrev pub HaveRoom : Mark → List (List Record) → Type 0
HaveRoom mark [] = ⊤
HaveRoom mark (records ∷ more) =
    HasRoomAt mark (group_size records)
    × HaveRoom (mark_behind true mark (record { records = records })) more

-- A group of so many bytes was put behind the place: TooLong is answered exactly where it has no
-- room there.
abbrev pub FindsRoomAt : Mark → ℕ → {A : Type 0} → Result A StorageFault → Type 0
FindsRoomAt mark size (Ok x) = HasRoomAt mark size
FindsRoomAt mark size (Err (fault.TooLong bytes)) = (bytes ≡ size) × LacksRoomAt mark size
FindsRoomAt mark size (Err (fault.Disk faults)) = HasRoomAt mark size
FindsRoomAt mark size (Err fault.NoMemory) = ⊤
FindsRoomAt mark size (Err other) = ⊥

-- A file that is fit isn't rewritten, as no number is left for the new file that it needs, or its
-- group has no room behind this place.
abbrev pub IsStuck : Option Folder → Mark → Mailbox → ℕ → StorageFault → Type 0
IsStuck known mark m file fault.Files =
    FitsKnown known m file × (kept_rows m file ≡ [] → ⊥) × NamesLast m
IsStuck known mark m file (fault.TooLong bytes) =
    FitsKnown known m file × (new : ℕ) × IsNumberFor m file new
    × (bytes ≡ group_size (file_records file new (all_mapped m))) × LacksRoomAt mark bytes
IsStuck known mark m file other = ⊥

-- what a crash leaves gives the map from before, or that with what was owed, or one without some
-- ids that have no reference
abbrev pub MayGivePurge : Messages → Owed → Chain → Folder → Type 0
MayGivePurge messages debt chain c =
    MayGive messages debt chain c
    ⊎ ((m : Mailbox) × (mark : Mark) × IsMap m
    × IsThinned (storage_of messages chain.live.mailbox) (storage_of messages m)
    × Gives messages chain.indexid m mark c)

module _ {S C : Type 0} where
  -- The groups of these files are the last entries, each had room, and the mark is the place behind
  -- them.
  pub record PurgesTo (known : Option Folder) (from : ℕ) (files : List ℕ) (to : ℕ)
      (old new : State S C) : Type 0 where
    pub groups : List (List Record)
    pub goes : PurgesFiles known from old.chain.live.mailbox files groups to
        new.chain.live.mailbox
    pub room : HaveRoom old.mark groups
    pub entries : new.entries ≡ old.entries ++ map entry_of groups
    pub mark : new.mark ≡ mark_from old.mark (map entry_of groups)
    pub start : new.start ≡ old.start
    pub indexid : new.chain.indexid ≡ old.chain.indexid

  -- the next file from a number on is stuck; or memory ran out, or the disk failed
  abbrev pub StopsAt : Option Folder → ℕ → State S C → StorageFault → Type 0
  StopsAt known to s e =
      IsFailure e
      ⊎ ((file : ℕ) × IsNextGone s.chain.live.mailbox to file
      × IsStuck known s.mark s.chain.live.mailbox file e)

  -- Behind Ok all files were taken. An error comes behind some of them, where it stops: Files and
  -- TooLong exactly where the next file is stuck so.
  abbrev pub PurgesMap : Option Folder → State S C → State S C → {T : Type 0}
      → Result T StorageFault → Type 0
  PurgesMap known old new (Ok n) =
      (files : List ℕ) × (to : ℕ) × PurgesTo known 0 files to old new
      × NoneGoneFrom new.chain.live.mailbox to
  PurgesMap known old new (Err e) =
      (files : List ℕ) × (to : ℕ) × PurgesTo known 0 files to old new × StopsAt known to new e

  -- One file: behind Ok it was taken. An error comes before its group, where the file is stuck, or
  -- memory or the disk failed; or behind the group, where one of these did.
  abbrev pub TakesFile : Option Folder → ℕ → ℕ → State S C → State S C → {T : Type 0}
      → Result T StorageFault → Type 0
  TakesFile known from file old new (Ok n) =
      PurgesTo known from (file ∷ []) (file + 1) old new
  TakesFile known from file old new (Err e) =
      (PurgesTo known from [] from old new
      × (IsFailure e ⊎ IsStuck known new.mark new.chain.live.mailbox file e))
      ⊎ (PurgesTo known from (file ∷ []) (file + 1) old new × IsFailure e)

  -- ---- what is known of the folder

  -- a message file is known as a read gives it, where anything is known
  abbrev pub KnowsFile : SeesFolder S → Option Folder → ℕ → State S C → Type 0
  KnowsFile sees None file s = ⊤
  KnowsFile sees (Some folder) file s =
      sees.tells × (sees.files s.shelf (name.Mail file) ≡ folder (name.Mail file))

  -- so is each that the map names, of a storage at rest
  abbrev pub KnowsFiles : SeesFolder S → Option Folder → State S C → Type 0
  KnowsFiles sees None s = ⊤
  KnowsFiles sees (Some folder) s =
      sees.tells × ((messages : Messages) × IsAtRest sees messages Nothing s)
      × ((file : ℕ) → IsNamed s.chain.live.mailbox file
      → sees.files s.shelf (name.Mail file) ≡ folder (name.Mail file))

  -- ---- the folder

  -- From rest to rest: the storage is without some ids that have no reference. Behind Ok nothing is
  -- owed; behind an error what was, where no id went, or the group of a further file. A crash at
  -- any moment leaves the storage from before, or without some such ids; every message with a
  -- reference is there.
  pub record PurgesQuietly (sees : SeesFolder S) (messages : Messages) (debt : Owed)
      (old new : State S C) {T E : Type 0} (result : Result T E) : Type 0 where
    pub thins : IsThinned (storage_of messages old.chain.live.mailbox)
        (storage_of messages new.chain.live.mailbox)
    pub ok : OnOk result (IsAtRest sees messages Nothing new)
    pub err : OnErr result ((now : Owed) × (text : List ℕ) × (after : Mailbox) × IsMap after
        × IsThinned (storage_of messages new.chain.live.mailbox) (storage_of messages after)
        × (((now ≡ debt) × (new.chain.live.mailbox ≡ old.chain.live.mailbox))
        ⊎ IsLeftOwed Nothing text new.chain.live.mailbox after now)
        × IsAtRest sees messages now new)
    pub any_moment : LeavesOnly sees old.shelf new.shelf (MayGivePurge messages debt old.chain)

  -- a group is written behind a file, and what the folder gives by that
  abbrev pub WritesLater : SeesFolder S → List Record → Files → State S C → State S C
      → {T E : Type 0} → Result T E → Type 0
  WritesLater sees records files old new result =
      (messages : Messages) (after : Mailbox) → IsAtRest sees messages Nothing old
      → applied old.chain.live.mailbox records ≡ Some after
      → KeepsThrough messages messages old.chain.live.mailbox after files
      → ((size : ℕ)
      × WritesBeside sees messages messages Nothing after size files old new result)

-- ---- the file of a rewritten one's texts

-- the kept texts of a file, as they stand in it, are written into the new file, where there are
-- some
abbrev pub WritesKept : Messages → Mailbox → ℕ → ℕ → List ℕ → Files → Type 0
WritesKept messages m file new bytes kind.Nothing = kept_rows m file ≡ []
WritesKept messages m file new bytes (kind.Text n at text) = ⊥
WritesKept messages m file new bytes (kind.File n text) =
    (n ≡ new) × IsNextFile m new × (text ≡ texts_in bytes (kept_rows m file))
    × All (StandsIn messages bytes) (kept_rows m file) × (kept_rows m file ≡ [] → ⊥)

-- a file is rewritten so: with these rows of it, and with this file before the group
pub record IsRewriteOf (m : Mailbox) (file new : ℕ) (rows : FileRows) (files : Files) : Type 0 where
  pub kept : rows.kept.items ≡ kept_rows m file
  pub gone : rows.gone.items ≡ gone_ids m file
  pub some : 1 ≤ length rows.gone.items
  pub short : kept_size file (all_mapped m) < 2 ^ 32
  pub above : (kept_rows m file ≡ []) ⊎ IsNextFile m new
  pub room : HasRoom files

-- ---- what is gone behind it

-- the file is rewritten: it is gone, and the other message files but the new one are as before
pub record IsTakenAway (file : ℕ) (old new : Folder) (m after : Mailbox) : Type 0 where
  pub number : ℕ
  pub map : Rewrites file number m after
  pub above : (kept_rows m file ≡ []) ⊎ IsNextFile m number
  pub gone : new (name.Mail file) ≡ None
  pub others : (n : ℕ) → n ≢ file → (n ≢ number) ⊎ (kept_rows m file ≡ [])
      → new (name.Mail n) ≡ old (name.Mail n)

-- So it is exactly where its kept texts are fit for that. Else it is passed over, and nothing is
-- changed.
abbrev pub IsTaken : ℕ → Folder → Folder → Mailbox → Mailbox → Type 0
IsTaken file old new m after =
    (IsPassedOver old m file × (after ≡ m) × (new ≡ old))
    ⊎ (IsFit old m file × IsTakenAway file old new m after)

-- each message file is named by the map, and ids without references are those of files that are
-- passed over
pub record IsCleared (folder : Folder) (m : Mailbox) : Type 0 where
  pub named : AllNamed folder m
  pub emptied : All (λ r. r.count ≡ 0 → IsPassedOver folder m r.place.file) (all_mapped m)

-- so it is of the files below a number
pub record IsClearedTo (from : ℕ) (folder : Folder) (m : Mailbox) : Type 0 where
  pub named : AllNamed folder m
  pub emptied : All (λ r. r.count ≡ 0
      → (from ≤ r.place.file) ⊎ IsPassedOver folder m r.place.file) (all_mapped m)

-- ---- which answer it is

-- readings of a clock
abbrev pub TakesSome : (ℕ → ℕ) → (ℕ → ℕ) → Type 0
TakesSome old new = (n : ℕ) × (new ≡ behind old n)

-- the number behind the highest that the map names, or none where that is the last one
abbrev pub NumbersFile : Mailbox → Result ℕ StorageFault → Type 0
NumbersFile m (Ok file) = IsNextFile m file
NumbersFile m (Err fault.Files) = NamesLast m
NumbersFile m (Err other) = ⊥
