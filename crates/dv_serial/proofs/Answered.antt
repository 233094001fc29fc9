-- A commit of the session at a place, by what its store answered.
use Rattle.std.proofs.Common.{◌≡◌, ℕ, ◌+◌, ◌<◌, ◌≤◌, Bool, true, false, List, [], ◌∷◌, length, None, Result, Ok, Err, refl, sym, ◌∙◌, ap, subst, arith}
use Rattle.std.specs.Prelude.{IsTrue}
use Rattle.dv_model.specs.declared.types.Command.{Command}
use Rattle.dv_model.specs.declared.types.Record.{Record}
use Rattle.dv_model.specs.Journals.{IsU32, Log}
use Rattle.dv_model.specs.Sessions.{State as SessionState, is_write}
use Rattle.dv_model.specs.Transcripts.{Line}
use Rattle.dv_model.specs.Views.{View}
use Rattle.dv_shelf.specs.declared.shelf.Name.{Name}
use Rattle.dv_shelf.specs.Folders.{Folder}
use Rattle.dv_logfile.specs.Settling.{StaysSettled}
use Rattle.dv_chain.specs.Openings.{OnlyLooks}
use Rattle.dv_writing.specs.Debts.{Debt}
use Rattle.dv_answer.specs.Following.{Leads, new_follower}
use Rattle.dv_answer.specs.Refusing.{own_refusal}
use Rattle.dv_plans.specs.declared.fault.StoreFault.{StoreFault}
use Rattle.dv_plans.specs.Begins.{readings_of}
use Rattle.dv_playing.specs.Laws.{IsLine}
use Rattle.dv_playing.specs.Playing.{Attempt, Play, file_readings}
use Rattle.dv_store.specs.declared.receipt.Receipt.{Receipt}
use Rattle.dv_store.specs.Commits.{Commits, CommitsQuietly, IsIdle, IsUnwritten, TakesReadings, write_at}
use Rattle.dv_store.specs.Rest.{IsAtRest}
use Rattle.dv_store.specs.States.{State}
use Rattle.dv_serial.specs.Following.{Follows, origin_of}
use Rattle.dv_serial.specs.Places.{play_of}
use Rattle.dv_serial.specs.Serves.{seat_at}
use Rattle.dv_serving.specs.Servable.{IsServable}
use Rattle.dv_serial.specs.Servings.{Serving}
use Rattle.dv_serial.specs.Writes.{IsDone}
use Rattle.dv_serial.specs.Writes as comes
use Rattle.dv_serving.specs.Commits.{LeavesOthers, MayChangeHere}
use Rattle.dv_serving.proofs.Committing.{some_there}
use Rattle.dv_serial.proofs.Committing.{done_nothing, done_written, error_others, failed, wrote_others}
use Rattle.dv_shelf.specs.Sees.{SeesFolder, SeesTime}

pub not_both : (b : Bool) → IsTrue b → b ≡ false → ⊥
not_both b is other = cc

module _ {S C : Type 0} (sees : SeesFolder S) (ticks : SeesTime C) (clock : ℕ → ℕ) (start : Log) (base faults : ℕ) (attempts : List Attempt)
    (old : Serving S C) (follows : Follows sees ticks (origin_of clock start base) faults attempts old) (at number : ℕ) (c : Command) (number_is : number ≡ at + 1) (less : at < length old.seats) (small : IsU32 number)
    (servable : IsServable c) (write : is_write c ≡ true) (own : own_refusal (seat_at old.seats at).state c ≡ None)
    (received : ℕ) (reading : received ≡ clock ((play_of clock start attempts).used + file_readings (play_of clock start attempts))) where
  abbrev x : SessionState
  x = (seat_at old.seats at).state

  abbrev line : Line
  line = (number, c)

  abbrev here : Play
  here = play_of clock start attempts

  same : here.states number ≡ x
  same = ap here.states number_is ∙ sym (follows.seats.states at new_follower less)

  good : IsLine line
  good = (small, servable.command)

  -- ---- what the store's call says

  module _ (view : View) (seen : view ≡ x.view) (new : State S C) (result : Result Receipt StoreFault) where
    abbrev GivesHere : Type 0
    GivesHere = (log : Log) (debt : Debt) (author : ℕ) → IsAtRest sees log debt old.store
        → CommitsQuietly sees log debt (write_at author c view received) old.store new result

    value_at : Commits c view old.store new result → Commits c x.view old.store new result
    value_at value = subst (λ (v : View). Commits c v old.store new result) seen value

    quiet_at : GivesHere → CommitsQuietly sees here.log follows.keeps.debt (write_at number c x.view received) old.store new result
    quiet_at gives =
        subst (λ (v : View). CommitsQuietly sees here.log follows.keeps.debt (write_at number c v received) old.store new result) seen
        (gives here.log follows.keeps.debt number follows.keeps.rests)

  module _ (view : View) (seen : view ≡ x.view) (new : State S C) where
    -- an error
    pub fails : StaysSettled sees old.store.shelf new.shelf → (e : StoreFault) → Commits c view old.store new (Err e) → (IsIdle (Err e) → (new.shelf ≡ old.store.shelf) × (new.clock ≡ old.store.clock)) → (IsUnwritten (Err e) → OnlyLooks sees old.store.shelf new.shelf)
        → GivesHere view seen new (Err e) → (ticks.tells → TakesReadings (readings_of c old.store.owed old.store.chain) (ticks.upcoming old.store.clock) (ticks.upcoming new.clock) (Err e))
        → comes.Commits sees ticks clock start attempts line old (Err e) (record old { store = new })
    fails settled e value idle looks gives taken =
        failed sees ticks clock start base faults attempts old follows line x same good write own received reading new settled e (value_at view seen new (Err e) value) (quiet_at view seen new (Err e) gives)
        (λ none. (looks none).since) (λ none. ap ticks.upcoming (idle none).1) taken

    -- which keeps other files
    pub fails_others : (A : Type 0) (e : StoreFault) → Commits c view old.store new (Err e) → GivesHere view seen new (Err e) → (IsUnwritten (Err e) → OnlyLooks sees old.store.shelf new.shelf)
        → LeavesOthers {A = A} here line (Err e) (sees.files old.store.shelf) (sees.files new.shelf)
    fails_others A e value gives looks =
        error_others sees ticks clock start base faults attempts old follows line x same good write own received reading new A e (value_at view seen new (Err e) value) (quiet_at view seen new (Err e) gives) (λ none. (looks none).same)

    module _ (receipt : Receipt) (value : Commits c view old.store new (Ok receipt)) (gives : GivesHere view seen new (Ok receipt)) (taken : ticks.tells → TakesReadings (readings_of c old.store.owed old.store.chain) (ticks.upcoming old.store.clock) (ticks.upcoming new.clock) (Ok receipt))
        (leads : Leads old.store.chain.live.mailbox new.chain.live.mailbox receipt.touched) where
      -- there is one group more
      pub writes_entry : StaysSettled sees old.store.shelf new.shelf → (receipt.group.records ≡ [] → ⊥) → (groups : ℕ) → groups ≡ old.groups + 1
          → IsDone sees ticks clock start attempts line receipt.touched old (record old { store = new; groups = groups })
      writes_entry settled some groups is =
          done_written sees ticks clock start base faults attempts old follows line x same good write own received reading receipt (record old { store = new; groups = groups })
          (value_at view seen new (Ok receipt) value) (quiet_at view seen new (Ok receipt) gives) taken (some_there receipt.group.records some) is settled receipt.touched leads

      pub entry_others : (receipt.group.records ≡ [] → ⊥) → (n : Name) → (MayChangeHere here line n → ⊥) → sees.files new.shelf n ≡ sees.files old.store.shelf n
      entry_others some =
          wrote_others sees ticks clock start base faults attempts old follows line x same good write own received reading receipt (record old { store = new; groups = old.groups + 1 })
          (value_at view seen new (Ok receipt) value) (quiet_at view seen new (Ok receipt) gives) taken (some_there receipt.group.records some) refl

      -- there is no record
      pub writes_none : StaysSettled sees old.store.shelf new.shelf → receipt.group.records ≡ [] → (IsUnwritten (Ok receipt) → OnlyLooks sees old.store.shelf new.shelf)
          → IsDone sees ticks clock start attempts line receipt.touched old (record old { store = new })
      writes_none settled none looks =
          done_nothing sees ticks clock start base faults attempts old follows line x same good write own received reading receipt (record old { store = new })
          (value_at view seen new (Ok receipt) value) (quiet_at view seen new (Ok receipt) gives) taken none (looks none).since settled refl receipt.touched leads
