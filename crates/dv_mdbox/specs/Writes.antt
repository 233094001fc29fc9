-- What the write of a group does to a storage. The records take what a shelf shows.
use Rattle.std.specs.Prelude.{◌≡◌, ◌⊎◌, ◌||◌, ℕ, ◌+◌, true, List, [], ◌∷◌, ◌++◌, IsSomeAnd, Option, Some, is_some, Result, Ok, Err, OnErr, OnOk}
use Rattle.dv_model.specs.declared.types.Entry.{Entry}
use Rattle.dv_model.specs.declared.types.Mailbox.{Mailbox}
use Rattle.dv_model.specs.declared.types.Mark.{Mark}
use Rattle.dv_model.specs.declared.types.Record.{Record}
use Rattle.dv_model.specs.Effects.{applied}
use Rattle.dv_model.specs.Journals.{mark_behind}
use Rattle.dv_shelf.specs.declared.shelf.Name.TheVariants as name
use Rattle.dv_shelf.specs.Crashes.{LeavesOnly}
use Rattle.dv_shelf.specs.Folders.{Folder}
use Rattle.dv_shelf.specs.Sees.{SeesFolder}
use Rattle.dv_chain.specs.declared.chain.Chain.{Chain}
use Rattle.dv_chain.specs.Rest.{Nothing, Owed, Pending, next_mark}
use Rattle.dv_plans.specs.Begins.{beginning, turns}
use Rattle.dv_plans.specs.Counts.{CountsReads}
use Rattle.dv_files.specs.declared.texts.Turn.{Turn}
use Rattle.dv_files.specs.Texts.{place_of}
use Rattle.dv_filing.specs.declared.steps.Files.{Files}
use Rattle.dv_filing.specs.Files.{IsNamed}
use Rattle.dv_filing.specs.Standing.{Fits, Gives, MayGive, Stands}
use Rattle.dv_writing.specs.Ways.{held}
use Rattle.dv_filing.specs.Ways.{IsOwedOnWay}
use Rattle.dv_filing.specs.Writes.{IsLeftOwed, StandsLeft}
use Rattle.dv_maps.specs.declared.place.Place.{Place}
use Rattle.dv_maps.specs.Groups.{save_records}
use Rattle.dv_maps.specs.Laws.{Counts, IsMap, Saves}
use Rattle.dv_maps.specs.Texts.{Messages, with_message}
use Rattle.dv_mdbox.specs.declared.tails.Tail.{Tail}
use Rattle.dv_mdbox.specs.declared.tails.Target.{Target}
use Rattle.dv_mdbox.specs.States.{IsAtRest, State}
use Rattle.dv_mdbox.specs.Tails.{FindsTarget, IsTail}

-- where a group begins: at the log's end, or at the first place of the next file
abbrev pub begin_of : Option Turn → Chain → Mark
begin_of owed chain = beginning (is_some owed || turns owed chain) chain

-- the place behind a group of so many bytes that begins there
abbrev pub mark_after : Mark → ℕ → Mark
mark_after mark size = record { file_seq = mark.file_seq; offset = mark.offset + size }

-- What a crash leaves gives the map from before, or that with what was owed, at its place or at the
-- first place of the next file; or that with the group, behind it.
abbrev pub MayGiveCall : Messages → Messages → Owed → Mailbox → ℕ → Option Turn → Chain → Folder
    → Type 0
MayGiveCall messages next debt after size owed chain c =
    MayGive messages debt chain c
    ⊎ Gives messages chain.indexid chain.live.mailbox (next_mark chain) c
    ⊎ Gives next chain.indexid after (mark_after (begin_of owed chain) size) c

-- the message files but the one that is written are as before
abbrev pub KeepsMails : Files → Folder → Folder → Type 0
KeepsMails files old new =
    (n : ℕ) → (IsNamed files (name.Mail n) → ⊥) → new (name.Mail n) ≡ old (name.Mail n)

-- a group of the storage's own
abbrev pub entry_of : List Record → Entry
entry_of records = record { author = 1; group = record { records = records } }

module _ {S C : Type 0} where
  -- Behind Ok the map has the records, the group is the last entry, and the mark is behind it. An
  -- error keeps map, entries and mark.
  pub record WritesGroup (records : List Record) (old new : State S C) {T E : Type 0}
      (result : Result T E) : Type 0 where
    pub map : OnOk result (applied old.chain.live.mailbox records ≡ Some new.chain.live.mailbox)
    pub entries : OnOk result (new.entries ≡ old.entries ++ entry_of records ∷ [])
    pub mark : OnOk result ((new.mark ≡ place_of new.chain)
        × (new.mark ≡ mark_behind true old.mark (record { records = records })))
    pub kept : OnErr result ((new.chain.live.mailbox ≡ old.chain.live.mailbox)
        × (new.entries ≡ old.entries) × (new.mark ≡ old.mark))
    pub start : new.start ≡ old.start
    pub indexid : new.chain.indexid ≡ old.chain.indexid

  -- From rest to rest: behind Ok with the group, and nothing is owed; behind an error as before,
  -- with what is owed then. A crash at any moment leaves the map from before or with the group,
  -- whole.
  pub record WritesQuietly (sees : SeesFolder S) (messages next : Messages) (debt : Owed)
      (after : Mailbox) (size : ℕ) (old new : State S C) {T E : Type 0} (result : Result T E)
      : Type 0 where
    pub ok : OnOk result (Stands sees next Nothing new.chain new.shelf
        × Fits new.owed new.chain.live.mailbox Nothing)
    pub err : OnErr result ((now : Owed) × (text : List ℕ)
        × Fits new.owed new.chain.live.mailbox now
        × StandsLeft sees messages next debt text old.chain.live.mailbox after now
        (held new.shelf new.chain new.owed))
    pub any_moment : LeavesOnly sees old.shelf new.shelf
        (MayGiveCall messages next debt after size old.owed old.chain)

  -- and the message files but the one that is written are as before
  abbrev pub WritesBeside : SeesFolder S → Messages → Messages → Owed → Mailbox → ℕ → Files
      → State S C → State S C → {T E : Type 0} → Result T E → Type 0
  WritesBeside sees messages next debt after size files old new result =
      WritesQuietly sees messages next debt after size old new result
      × KeepsMails files (sees.files old.shelf) (sees.files new.shelf)

  -- Beside its group a write reads neither the clock nor a message file. Behind Ok the end of the
  -- last file is the given one, and an error keeps the one from before.
  pub record KeepsBeside (sees : SeesFolder S) (tail : Option Tail) (old new : State S C)
      {T E : Type 0} (result : Result T E) : Type 0 where
    pub clock : new.clock ≡ old.clock
    pub mail_reads : CountsReads 0 (sees.mail_reads old.shelf) (sees.mail_reads new.shelf)
    pub ok : OnOk result (new.tail ≡ tail)
    pub err : OnErr result (new.tail ≡ old.tail)

  -- ---- the count of an id

  -- From rest to rest: behind Ok the storage has the new count, and nothing is owed; behind an
  -- error it is as before. A crash at any moment leaves the storage from before, or that with the
  -- new count.
  pub record CountsQuietly (sees : SeesFolder S) (messages : Messages) (debt : Owed) (id : ℕ)
      (change : ℕ → ℕ) (old new : State S C) {T E : Type 0} (result : Result T E) : Type 0 where
    pub after : Mailbox
    pub counts : Counts id change old.chain.live.mailbox after
    pub ok : OnOk result (IsAtRest sees messages Nothing new
        × (new.chain.live.mailbox ≡ after))
    pub err : OnErr result ((now : Owed) × (text : List ℕ)
        × IsLeftOwed debt text old.chain.live.mailbox after now × IsAtRest sees messages now new)
    pub any_moment : LeavesOnly sees old.shelf new.shelf
        (MayGiveCall messages messages debt after 48 old.owed old.chain)

  -- ---- a message that is saved

  -- the end of the last file is known, so that the next message needs no look at the map's rows
  abbrev pub KnowsEnd : State S C → Type 0
  KnowsEnd s = IsSomeAnd s.tail (IsTail s.chain.live.mailbox s.chain.live.mailbox.rows)

  -- A save goes by its message: no message file is read, and behind Ok the end of the last file is
  -- known, where the mailbox is a map. An error keeps what was known of it.
  pub record GoesByMessage (sees : SeesFolder S) (old new : State S C) {T E : Type 0}
      (result : Result T E) : Type 0 where
    pub mail_reads : CountsReads 0 (sees.mail_reads old.shelf) (sees.mail_reads new.shelf)
    pub known : OnOk result (IsMap old.chain.live.mailbox → KnowsEnd new)
    pub kept : OnErr result (new.tail ≡ old.tail)

  -- behind Ok the map has the records of a save, whose text stands at this target; an error keeps
  -- map, entries and mark
  abbrev pub SavesGroupAt : Target → State S C → State S C → {T E : Type 0} → Result T E → Type 0
  SavesGroupAt target old new result =
      (place : Place)
      × WritesGroup (save_records old.chain.live.mailbox.next_uid place) old new result
      × OnOk result ((place.file ≡ target.file) × (place.offset ≡ target.offset))

  -- so it is where the next text of the map goes
  abbrev pub SavesGroup : SeesFolder S → State S C → State S C → {T E : Type 0} → Result T E
      → Type 0
  SavesGroup sees old new result =
      (place : Place)
      × WritesGroup (save_records old.chain.live.mailbox.next_uid place) old new result
      × OnOk result (FindsTarget sees.tells (sees.files old.shelf) old.chain.live.mailbox
      (Ok (record { file = place.file; offset = place.offset })))

  -- From rest to rest: behind Ok the storage has the message, with one reference, and nothing is
  -- owed; behind an error it is as before, and what is owed may be its group, with its text. A
  -- crash at any moment leaves the storage from before, or that with the message.
  pub record SavesAt (sees : SeesFolder S) (messages : Messages) (debt : Owed) (message : List ℕ)
      (place : Place) (old new : State S C) {T E : Type 0} (result : Result T E) : Type 0 where
    pub after : Mailbox
    pub saves : Saves place old.chain.live.mailbox after
    pub ok : OnOk result
        (IsAtRest sees (with_message old.chain.live.mailbox.next_uid message messages) Nothing new
        × (new.chain.live.mailbox ≡ after))
    pub err : OnErr result ((now : Owed) × (text : List ℕ)
        × ((IsOwedOnWay debt old.chain.live.mailbox now × IsAtRest sees messages now new)
        ⊎ ((now ≡ Pending text after)
        × IsAtRest sees (with_message old.chain.live.mailbox.next_uid message messages) now new)))
    pub any_moment : LeavesOnly sees old.shelf new.shelf
        (MayGiveCall messages
        (with_message old.chain.live.mailbox.next_uid message messages) debt after 120 old.owed
        old.chain)

  -- the same, with the place where the text went; an error may come before there is one
  abbrev pub SavesQuietly : SeesFolder S → Messages → Owed → List ℕ → State S C → State S C
      → {T E : Type 0} → Result T E → Type 0
  SavesQuietly sees messages debt message old new {T = T} {E = E} (Ok x) =
      (place : Place)
      × SavesAt sees messages debt message place old new {T = T} {E = E} (Ok x)
  SavesQuietly sees messages debt message old new {T = T} {E = E} (Err e) =
      (IsAtRest sees messages debt new
      × LeavesOnly sees old.shelf new.shelf (MayGive messages debt old.chain))
      ⊎ ((place : Place)
      × SavesAt sees messages debt message place old new {T = T} {E = E} (Err e))
