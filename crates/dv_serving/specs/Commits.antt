-- The write of a line over a store that stands where a play is: what it meets, what it leaves, and
-- what a crash at any moment of it leaves. The records take what a shelf shows.
use Rattle.std.specs.Prelude.{◌≡◌, ◌⊎◌, ◌≤◌, ℕ, true, false, List, Option, Some, length, Result, Ok, Err}
use Rattle.dv_model.specs.declared.types.Mailbox.{Mailbox}
use Rattle.dv_model.specs.declared.types.Mark.{Mark}
use Rattle.dv_model.specs.Effects.{applied}
use Rattle.dv_model.specs.Transcripts.{Line}
use Rattle.dv_model.specs.Views.{View}
use Rattle.dv_shelf.specs.declared.shelf.Name.{Name}
use Rattle.dv_shelf.specs.Crashes.{LeavesOnly}
use Rattle.dv_shelf.specs.Folders.{Folder}
use Rattle.dv_shelf.specs.Sees.{SeesFolder}
use Rattle.dv_chain.specs.declared.chain.Chain.{Chain}
use Rattle.dv_files.specs.declared.texts.Turn.{Turn}
use Rattle.dv_files.specs.Texts.{place_of}
use Rattle.dv_writing.specs.Debts.{Debt, Last, Nothing, Pending}
use Rattle.dv_writing.specs.Keeping.{Gives}
use Rattle.dv_writing.specs.Opening.{mark_behind}
use Rattle.dv_writing.specs.Writes.{Write, group_by, log_with}
use Rattle.dv_plans.specs.declared.fault.StoreFault.{StoreFault}
use Rattle.dv_plans.specs.declared.fault.StoreFault.TheVariants as fault
use Rattle.dv_plans.specs.Begins.{turns}
use Rattle.dv_playing.specs.Laws.{MayWrite}
use Rattle.dv_playing.specs.Playing.{Play, Rotation, begins_file, behind_failure, group_here, is_empty, with_group_here}
use Rattle.dv_store.specs.declared.receipt.Receipt.{Receipt}
use Rattle.dv_store.specs.Commits.{MayChange, begin_of, end_with}
use Rattle.dv_store.specs.Rest.{IsAtRest}
use Rattle.dv_store.specs.States.{State}
use Rattle.dv_serving.specs.Places.{GivesPlay, GivesWith, StandsAt, begin_at, text_here}

-- ---- what is met

-- a store stands where a play is, and the line's session has this view
pub record Meets {S C : Type 0} (play : Play) (line : Line) (view : View) (store : State S C)
    : Type 0 where
  pub rotates : play.log.rotates ≡ true
  pub mailbox : play.mailbox ≡ store.chain.live.mailbox
  pub place : StandsAt play.begun play.mark (place_of store.chain) store.owed
  pub seen : (play.states line.0).view ≡ view

-- the write of a line, over a chain that is where the play stands
pub record IsWriteAt (clock : ℕ → ℕ) (play : Play) (line : Line) (write : Write)
    (owed : Option Turn) (chain : Chain) : Type 0 where
  pub mailbox : play.mailbox ≡ chain.live.mailbox
  pub turning : turns owed chain ≡ begins_file play
  pub begin : begin_of owed chain ≡ begin_at play.mark
  pub group : group_by play.log write chain.live.mailbox ≡ group_here play line
  pub log : is_empty (group_here play line) ≡ false
      → log_with play.log write chain.live.mailbox ≡ (with_group_here clock play line).log
  pub mark : is_empty (group_here play line) ≡ false
      → end_with owed chain (group_here play line).records ≡ (with_group_here clock play line).mark

-- ---- what a crash leaves

-- the log with a group that is owed
abbrev pub GivesOwed : Debt → Chain → Folder → Type 0
GivesOwed (Pending text after written) chain c = Gives written after (mark_behind text chain) c
GivesOwed debt chain c = ⊥

-- At any moment of a line's write the folder gives the play, or that with what was owed before, or
-- that with the line's group.
abbrev pub GivesDuring : (ℕ → ℕ) → Play → Line → Debt → Chain → Folder → Type 0
GivesDuring clock play line debt chain c =
    (GivesPlay play c ⊎ GivesOwed debt chain c) ⊎ GivesWith clock play line c

-- ---- what is owed

-- the group of this line stands behind the log's end
abbrev pub IsPendingHere : (ℕ → ℕ) → Play → Line → Debt → Type 0
IsPendingHere clock play line (Pending text after written) =
    (text ≡ text_here play line)
    × (applied play.mailbox (group_here play line).records ≡ Some after)
    × (written ≡ (with_group_here clock play line).log)
IsPendingHere clock play line debt = ⊥

-- nothing is owed, or the last replace of a rotation
abbrev pub IsOfRotation : Debt → Type 0
IsOfRotation debt = (debt ≡ Nothing) ⊎ ((file : List ℕ) × (debt ≡ Last file))

-- What is owed behind a failed write, with the log's end before and now: what was owed, at the same
-- place; or nothing or a rotation's last replace; or the line's group, which would begin there.
abbrev pub OwesBehind : (ℕ → ℕ) → Play → Line → Mark → Mark → Debt → Debt → Type 0
OwesBehind clock play line old new debt now =
    ((now ≡ debt) × (new ≡ old))
    ⊎ IsOfRotation now
    ⊎ (IsPendingHere clock play line now × (new ≡ begin_at play.mark))

-- ---- what it leaves

module _ {S C : Type 0} where
  -- so far the rotation came, and that is owed
  pub record IsLeftBy (clock : ℕ → ℕ) (play : Play) (line : Line) (debt : Debt)
      (old new : State S C) (now : Debt) : Type 0 where
    pub rotation : Rotation
    pub place : StandsAt (behind_failure play line rotation).begun play.mark
        (place_of new.chain) new.owed
    pub owes : OwesBehind clock play line (place_of old.chain) (place_of new.chain) debt now

  -- The group of the line is written: the store stands where the play with it is, at rest with its
  -- log, and owes nothing; its mark and the receipt's are the play's.
  pub record HasCommitted (sees : SeesFolder S) (clock : ℕ → ℕ) (play : Play) (line : Line)
      (debt : Debt) (receipt : Receipt) (old new : State S C) : Type 0 where
    pub may : MayWrite play line
    pub group : receipt.group ≡ group_here play line
    pub mailbox : (with_group_here clock play line).mailbox ≡ new.chain.live.mailbox
    pub mark : (with_group_here clock play line).mark ≡ new.mark
    pub told : receipt.mark ≡ new.mark
    pub place : StandsAt (with_group_here clock play line).begun
        (with_group_here clock play line).mark (place_of new.chain) new.owed
    pub rests : IsAtRest sees (with_group_here clock play line).log Nothing new
    pub since : LeavesOnly sees old.shelf new.shelf
        (GivesDuring clock play line debt old.chain)

  -- The disk failed it: mailbox and mark stay, and the store is at rest with what is owed then.
  pub record HasFailed (sees : SeesFolder S) (clock : ℕ → ℕ) (play : Play) (line : Line)
      (debt : Debt) (old new : State S C) : Type 0 where
    pub may : MayWrite play line
    pub mailbox : new.chain.live.mailbox ≡ old.chain.live.mailbox
    pub mark : new.mark ≡ old.mark
    pub now : Debt
    pub left : IsLeftBy clock play line debt old new now
    pub rests : IsAtRest sees play.log now new
    pub since : LeavesOnly sees old.shelf new.shelf
        (GivesDuring clock play line debt old.chain)

-- ---- other files

-- A line's write, which is allowed and has a group, may change this file: one of its own phases,
-- the log that is repaired, or one of a rotation that is due here.
pub record MayChangeHere (play : Play) (line : Line) (n : Name) : Type 0 where
  pub write : MayWrite play line
  pub changes : MayChange line.1 play.mailbox (begins_file play) n

-- files that a line's write may not change stay; behind an error but the disk's all do
abbrev pub LeavesOthers : {A : Type 0} → Play → Line → Result A StoreFault → Folder → Folder
    → Type 0
LeavesOthers play line (Ok x) old new =
    (n : Name) → (MayChangeHere play line n → ⊥) → new n ≡ old n
LeavesOthers play line (Err (fault.Disk faults)) old new =
    (n : Name) → (MayChangeHere play line n → ⊥) → new n ≡ old n
LeavesOthers play line (Err e) old new = new ≡ old
