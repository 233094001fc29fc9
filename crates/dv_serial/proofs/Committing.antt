-- What comes of a write that its session doesn't refuse: its group is written, or it has none, or a
-- limit refuses it, or memory ends it.
use Rattle.std.proofs.Common.{◌≡◌, ℕ, ◌+◌, ◌≤◌, Bool, true, false, List, [], ◌∷◌, length, nat_eq, Some, None, Result, Ok, Err, refl, sym, ◌∙◌, ap, subst, arith}
use Rattle.std.proofs.lemmas.List.{length_push}
use Rattle.dv_model.specs.declared.types.Group.{Group}
use Rattle.dv_model.specs.declared.types.Mark.{Mark}
use Rattle.dv_model.specs.declared.types.Record.{Record}
use Rattle.dv_model.specs.declared.types.Reply.{Reply}
use Rattle.dv_model.specs.declared.types.Reply.TheVariants as reply
use Rattle.dv_model.specs.Effects.{applied}
use Rattle.dv_model.specs.Journals.{Log}
use Rattle.dv_model.specs.Sessions.{State as SessionState, is_write}
use Rattle.dv_model.specs.Transcripts.{Line}
use Rattle.dv_shelf.specs.declared.shelf.Name.{Name}
use Rattle.dv_shelf.specs.Clocks.{behind}
use Rattle.dv_shelf.specs.Crashes.{LeavesOnly}
use Rattle.dv_shelf.specs.Folders.{Folder}
use Rattle.dv_shelf.proofs.Moments.{weaker}
use Rattle.dv_logfile.specs.Settling.{StaysSettled}
use Rattle.dv_groups.specs.Groups.{HasSizes}
use Rattle.dv_files.specs.Texts.{place_of}
use Rattle.dv_writing.specs.Debts.{Nothing}
use Rattle.dv_answer.specs.Following.{Leads}
use Rattle.dv_answer.specs.Refusing.{own_refusal}
use Rattle.dv_plans.specs.declared.fault.StoreFault.{StoreFault}
use Rattle.dv_plans.specs.declared.fault.StoreFault.TheVariants as fault
use Rattle.dv_plans.specs.Begins.{readings_of, turns}
use Rattle.dv_plans.specs.Overs.{limit_over}
use Rattle.dv_writing.specs.Writes.{Write}
use Rattle.dv_playing.specs.Laws.{IsLine}
use Rattle.dv_playing.specs.Playing.{Attempt, Play, Served, begins_file, file_readings, group_here, is_empty, refused_here, with_group_here}
use Rattle.dv_playing.proofs.Plays as plays
use Rattle.dv_store.specs.declared.receipt.Receipt.{Receipt}
use Rattle.dv_store.specs.Commits.{Commits, CommitsQuietly, IsIdle, IsUnwritten, TakesReadings, write_at}
use Rattle.dv_store.specs.Rest.{IsAtRest}
use Rattle.dv_store.specs.States.{State}
use Rattle.dv_serving.specs.Commits.{GivesDuring, HasFailed, HasCommitted, LeavesOthers, MayChangeHere, Meets}
use Rattle.dv_serving.specs.Places.{StandsAt}
use Rattle.dv_serving.proofs.Allowed.{sound_sizes}
use Rattle.dv_serving.proofs.Committing.{allowed, group_is, has_failed, has_written, refusal, takes_none, takes_some}
use Rattle.dv_serving.proofs.Others.{write_leaves}
use Rattle.dv_serving.proofs.Places.{clock_here, turns_here, used_met, with_group, without_group, written_here}
use Rattle.dv_serial.specs.Following.{Follows, IsAt, Leaves, origin_of, with_line}
use Rattle.dv_serial.specs.Places.{GivesBetween, IsOwedBehind, play_of}
use Rattle.dv_serial.specs.Servings.{Serving}
use Rattle.dv_serial.specs.Writes.{IsDone, IsFailedBy, IsRefusedBy, StandsAs}
use Rattle.dv_serial.specs.Writes as comes
use Rattle.dv_serial.proofs.Crashing.{first_between, looks_between, served_gives, served_play}
use Rattle.dv_serial.proofs.Failing.{failed_by, owed_longer}
use Rattle.dv_shelf.specs.Sees.{SeesFolder, SeesTime}

-- ---- a write over a store that is where the play stands

module _ {S C : Type 0} (sees : SeesFolder S) (ticks : SeesTime C) (clock : ℕ → ℕ) (start : Log) (base faults : ℕ) (attempts : List Attempt)
    (old : Serving S C) (follows : Follows sees ticks (origin_of clock start base) faults attempts old) (line : Line) (x : SessionState) (same : (play_of clock start attempts).states line.0 ≡ x)
    (good : IsLine line) (write : is_write line.1 ≡ true) (own : own_refusal x line.1 ≡ None)
    (received : ℕ) (reading : received ≡ clock ((play_of clock start attempts).used + file_readings (play_of clock start attempts))) where
  abbrev here : Play
  here = play_of clock start attempts

  abbrev readings : ℕ → ℕ
  readings = ticks.upcoming old.store.clock

  -- with the reading for its message
  abbrev writes : Write
  writes = write_at line.0 line.1 x.view received

  pub meets : Meets here line x.view old.store
  meets = record {
    rotates = follows.keeps.at.rotates;
    mailbox = follows.keeps.at.mailbox;
    place = follows.keeps.at.place;
    seen = ap (λ (s : SessionState). s.view) same;
  }

  pub sizes : HasSizes here.log.guid
  sizes = sound_sizes here.log (plays.stands clock start base faults attempts follows.may).sound

  turning : turns old.store.owed old.store.chain ≡ begins_file here
  turning = turns_here here old.store.owed old.store.chain follows.keeps.at.rotates follows.keeps.at.place

  pub refusal_is : refused_here here line ≡ limit_over line.1 x.view old.store.chain here.log.guid
  refusal_is = refusal sees clock here line x same old.store meets sizes good write own received reading

  -- ---- the group is written

  module _ (receipt : Receipt) (new : Serving S C) (value : Commits line.1 x.view old.store new.store (Ok receipt)) (quiet : CommitsQuietly sees here.log follows.keeps.debt writes old.store new.store (Ok receipt))
      (taken : ticks.tells → TakesReadings (readings_of line.1 old.store.owed old.store.chain) readings (ticks.upcoming new.store.clock) (Ok receipt)) where
    pub allowed_is : refused_here here line ≡ None
    allowed_is = allowed sees clock here line x same old.store meets sizes good write own received reading follows.keeps.debt follows.keeps.rests.fits new.store receipt value quiet

    group_here_is : receipt.group ≡ group_here here line
    group_here_is = group_is sees clock here line x same old.store meets sizes good write own received reading follows.keeps.debt follows.keeps.rests.fits new.store receipt value quiet

    module _ (more : 1 ≤ length receipt.group.records) (groups : new.groups ≡ old.groups + 1) where
      wrote : HasCommitted sees clock here line follows.keeps.debt receipt old.store new.store
      wrote = has_written sees clock here line x same old.store meets sizes good write own received reading follows.keeps.debt follows.keeps.rests.fits new.store receipt value quiet more

      abbrev after_it : Play
      after_it = with_group_here clock here line

      is_then : after_it ≡ written_here clock here line
      is_then = with_group clock here line wrote.may.some

      at_written : IsAt after_it new
      at_written = record {
        rotates = ap (λ (p : Play). p.log.rotates) is_then ∙ follows.keeps.at.rotates;
        groups = ap (λ (p : Play). length p.log.entries) is_then
            ∙ length_push here.log.entries (record { author = line.0; group = group_here here line })
            ∙ ap (λ (n : ℕ). n + 1) follows.keeps.at.groups
            ∙ sym groups;
        mailbox = wrote.mailbox;
        mark = wrote.mark;
        place = wrote.place;
      }

      stands_written : StaysSettled sees old.store.shelf new.store.shelf → StandsAs sees ticks clock start attempts (with_line attempts line Served) after_it old new
      stands_written settled = record {
        at = at_written;
        debt = Nothing;
        owed = tt;
        rests = wrote.rests;
        readings = λ reads.
            takes_some (readings_of line.1 old.store.owed old.store.chain) readings (ticks.upcoming new.store.clock) receipt.group.records more (taken reads)
            ∙ used_met here line x.view old.store meets clock readings (follows.readings reads) wrote.may.some;
        since = weaker sees old.store.shelf new.store.shelf (GivesDuring clock here line follows.keeps.debt old.store.chain) (GivesBetween clock start attempts (with_line attempts line Served)) wrote.since
            (λ c. served_gives clock start attempts line old.store.chain follows.keeps.debt follows.keeps.at.rotates follows.keeps.owed wrote.may c);
        settled = settled;
      }

      pub wrote_others : (n : Name) → (MayChangeHere here line n → ⊥) → sees.files new.store.shelf n ≡ sees.files old.store.shelf n
      wrote_others = write_leaves here line old.store.chain.live.mailbox (turns old.store.owed old.store.chain) (sees.files old.store.shelf) (sees.files new.store.shelf) wrote.may follows.keeps.at.mailbox turning quiet.others

      pub done_written : StaysSettled sees old.store.shelf new.store.shelf → (touched : List ℕ) → Leads old.store.chain.live.mailbox new.store.chain.live.mailbox touched → IsDone sees ticks clock start attempts line touched old new
      done_written settled touched leads = record { allowed = allowed_is; stands = stands_written settled; leads = leads }

  -- ---- nothing is written

  module _ (result : Result Receipt StoreFault) (new : Serving S C) (value : Commits line.1 x.view old.store new.store result) (quiet : CommitsQuietly sees here.log follows.keeps.debt writes old.store new.store result)
      (none : IsUnwritten result) (since : LeavesOnly sees old.store.shelf new.store.shelf (sees.may_leave old.store.shelf)) (settled : StaysSettled sees old.store.shelf new.store.shelf) (groups : new.groups ≡ old.groups) where
    place_is : place_of old.store.chain ≡ place_of new.store.chain
    place_is = let log = (value.unwritten none).chain.log in ap (λ l. record { file_seq = l.file_seq; offset = l.end }) (sym log)

    owed_is : old.store.owed ≡ new.store.owed
    owed_is = sym (value.unwritten none).owed

    at_stays : IsAt here new
    at_stays = record {
      rotates = follows.keeps.at.rotates;
      groups = follows.keeps.at.groups ∙ sym groups;
      mailbox = follows.keeps.at.mailbox ∙ sym (value.unwritten none).chain.mailbox;
      mark = follows.keeps.at.mark ∙ sym (value.unwritten none).mark;
      place = subst (λ o. StandsAt here.begun here.mark (place_of new.store.chain) o) owed_is (subst (λ (k : Mark). StandsAt here.begun here.mark k old.store.owed) place_is follows.keeps.at.place);
    }

    owed_stays : IsOwedBehind clock start attempts (place_of new.store.chain) follows.keeps.debt
    owed_stays = subst (λ (k : Mark). IsOwedBehind clock start attempts k follows.keeps.debt) place_is follows.keeps.owed

    since_stays : LeavesOnly sees old.store.shelf new.store.shelf (GivesBetween clock start attempts attempts)
    since_stays = looks_between sees clock start attempts old follows.keeps new.store.shelf since

    -- memory ended it
    pub leaves_unwritten : Leaves sees clock start attempts attempts old new
    leaves_unwritten = record {
      keeps = record { at = at_stays; debt = follows.keeps.debt; owed = owed_stays; rests = quiet.unwritten none };
      since = since_stays;
      settled = settled;
    }

    -- a limit is met
    module _ (clocks : ticks.tells → ticks.upcoming new.store.clock ≡ readings) where
      stands_stays : StandsAs sees ticks clock start attempts attempts here old new
      stands_stays = record {
        at = at_stays;
        debt = follows.keeps.debt;
        owed = owed_stays;
        rests = quiet.unwritten none;
        readings = λ reads. clocks reads ∙ follows.readings reads;
        since = since_stays;
        settled = settled;
      }

      pub refused_by : (limit : Reply) → limit_over line.1 x.view old.store.chain here.log.guid ≡ Some limit → IsRefusedBy sees ticks clock start attempts line limit old new
      refused_by limit is = record { refused = refusal_is ∙ is; mailbox = (value.unwritten none).chain.mailbox; stands = stands_stays }

      -- there is no record
      module _ (lets : refused_here here line ≡ None) (idle : (group_here here line).records ≡ []) where
        empty : is_empty (group_here here line) ≡ true
        empty = ap (λ (rs : List Record). nat_eq (length rs) 0) idle

        stays_here : with_group_here clock here line ≡ here
        stays_here = without_group clock here line empty

        play_stays : (play_of clock start (with_line attempts line Served)).log ≡ here.log
        play_stays = ap (λ (p : Play). p.log) (served_play clock start attempts line lets) ∙ ap (λ (p : Play). p.log) stays_here

        mailbox_stays : (play_of clock start (with_line attempts line Served)).mailbox ≡ here.mailbox
        mailbox_stays = ap (λ (p : Play). p.mailbox) (served_play clock start attempts line lets) ∙ ap (λ (p : Play). p.mailbox) stays_here

        mark_stays : (play_of clock start (with_line attempts line Served)).mark ≡ here.mark
        mark_stays = ap (λ (p : Play). p.mark) (served_play clock start attempts line lets) ∙ ap (λ (p : Play). p.mark) stays_here

        stands_idle : StandsAs sees ticks clock start attempts (with_line attempts line Served) here old new
        stands_idle = record {
          at = at_stays;
          debt = follows.keeps.debt;
          owed = owed_longer clock start attempts (record { line = line; outcome = Served }) (place_of new.store.chain) play_stays mailbox_stays mark_stays follows.keeps.debt owed_stays;
          rests = quiet.unwritten none;
          readings = λ reads. clocks reads ∙ follows.readings reads;
          since = first_between sees old.store.shelf new.store.shelf clock start attempts (with_line attempts line Served) since_stays;
          settled = settled;
        }

        pub done_idle : (touched : List ℕ) → Leads old.store.chain.live.mailbox new.store.chain.live.mailbox touched → IsDone sees ticks clock start attempts line touched old new
        done_idle touched leads = record {
          allowed = lets;
          stands = subst (λ (p : Play). StandsAs sees ticks clock start attempts (with_line attempts line Served) p old new) (sym stays_here) stands_idle;
          leads = leads;
        }

  -- ---- an error

  module _ (new : State S C) where
    abbrev behind_error : Serving S C
    behind_error = record old { store = new }

    -- files that it may not change stay
    pub error_others : (A : Type 0) (e : StoreFault) → Commits line.1 x.view old.store new (Err e) → CommitsQuietly sees here.log follows.keeps.debt writes old.store new (Err e) → (IsUnwritten (Err e) → sees.files new.shelf ≡ sees.files old.store.shelf)
        → LeavesOthers {A = A} here line (Err e) (sees.files old.store.shelf) (sees.files new.shelf)
    error_others A (fault.Disk faults) value quiet unwritten =
        let failed : HasFailed sees clock here line follows.keeps.debt old.store new =
        has_failed sees clock here line x same old.store meets sizes good write own received reading follows.keeps.debt follows.keeps.rests.fits new faults value quiet in
        write_leaves here line old.store.chain.live.mailbox (turns old.store.owed old.store.chain) (sees.files old.store.shelf) (sees.files new.shelf) failed.may follows.keeps.at.mailbox turning quiet.others
    error_others A fault.UidsUsedUp value quiet unwritten = unwritten tt
    error_others A (fault.TooLong bytes) value quiet unwritten = unwritten tt
    error_others A fault.NoMemory value quiet unwritten = unwritten tt

    disk_failed : StaysSettled sees old.store.shelf new.shelf → (faults : ℕ) → Commits line.1 x.view old.store new (Err (fault.Disk faults)) → CommitsQuietly sees here.log follows.keeps.debt writes old.store new (Err (fault.Disk faults))
        → (ticks.tells → TakesReadings (readings_of line.1 old.store.owed old.store.chain) readings (ticks.upcoming new.clock) (Err (fault.Disk faults))) → IsFailedBy sees ticks clock start attempts line faults old (record old { store = new })
    disk_failed settled faults value quiet taken =
        let failed : HasFailed sees clock here line follows.keeps.debt old.store new =
        has_failed sees clock here line x same old.store meets sizes good write own received reading follows.keeps.debt follows.keeps.rests.fits new faults value quiet in
        failed_by sees ticks clock start attempts line old follows.keeps.at follows.keeps.debt follows.keeps.owed new settled faults failed
        (λ reads. taken reads ∙ clock_here here old.store.owed old.store.chain follows.keeps.at.rotates follows.keeps.at.place clock readings (follows.readings reads) line failed.may.some)

    by_error : StaysSettled sees old.store.shelf new.shelf → (e : StoreFault) → Commits line.1 x.view old.store new (Err e) → CommitsQuietly sees here.log follows.keeps.debt writes old.store new (Err e)
        → (IsUnwritten (Err e) → LeavesOnly sees old.store.shelf new.shelf (sees.may_leave old.store.shelf)) → (IsIdle (Err e) → ticks.upcoming new.clock ≡ readings)
        → (ticks.tells → TakesReadings (readings_of line.1 old.store.owed old.store.chain) readings (ticks.upcoming new.clock) (Err e))
        → comes.Commits sees ticks clock start attempts line old (Err e) (record old { store = new })
    by_error settled (fault.Disk faults) value quiet looks idle taken = disk_failed settled faults value quiet taken
    by_error settled fault.UidsUsedUp value quiet looks idle taken = refused_by (Err fault.UidsUsedUp) behind_error value quiet tt (looks tt) settled refl (λ reads. idle tt) reply.UidsUsedUp (value.limit here.log.guid sizes)
    by_error settled (fault.TooLong bytes) value quiet looks idle taken =
        refused_by (Err (fault.TooLong bytes)) behind_error value quiet tt (looks tt) settled refl (λ reads. idle tt) (reply.TooLong bytes) (value.limit here.log.guid sizes)
    by_error settled fault.NoMemory value quiet looks idle taken = leaves_unwritten (Err fault.NoMemory) behind_error value quiet tt (looks tt) settled refl

    pub failed : StaysSettled sees old.store.shelf new.shelf → (e : StoreFault) → Commits line.1 x.view old.store new (Err e) → CommitsQuietly sees here.log follows.keeps.debt writes old.store new (Err e)
        → (IsUnwritten (Err e) → LeavesOnly sees old.store.shelf new.shelf (sees.may_leave old.store.shelf)) → (IsIdle (Err e) → ticks.upcoming new.clock ≡ readings)
        → (ticks.tells → TakesReadings (readings_of line.1 old.store.owed old.store.chain) readings (ticks.upcoming new.clock) (Err e))
        → comes.Commits sees ticks clock start attempts line old (Err e) behind_error
    failed settled e value quiet looks idle taken = by_error settled e value quiet looks idle taken

  -- ---- Ok without a record

  module _ (receipt : Receipt) (new : Serving S C) (value : Commits line.1 x.view old.store new.store (Ok receipt)) (quiet : CommitsQuietly sees here.log follows.keeps.debt writes old.store new.store (Ok receipt))
      (taken : ticks.tells → TakesReadings (readings_of line.1 old.store.owed old.store.chain) readings (ticks.upcoming new.store.clock) (Ok receipt)) where
    pub done_nothing : receipt.group.records ≡ [] → LeavesOnly sees old.store.shelf new.store.shelf (sees.may_leave old.store.shelf) → StaysSettled sees old.store.shelf new.store.shelf → new.groups ≡ old.groups → (touched : List ℕ)
        → Leads old.store.chain.live.mailbox new.store.chain.live.mailbox touched → IsDone sees ticks clock start attempts line touched old new
    done_nothing none since settled groups touched leads =
        done_idle (Ok receipt) new value quiet none since settled groups (λ reads. takes_none (readings_of line.1 old.store.owed old.store.chain) readings (ticks.upcoming new.store.clock) receipt.group.records none (taken reads))
        (allowed_is receipt new value quiet taken) (ap (λ (g : Group). g.records) (sym (group_here_is receipt new value quiet taken)) ∙ none) touched leads
