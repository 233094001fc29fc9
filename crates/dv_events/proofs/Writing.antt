-- Writes under the lock.
use Rattle.std.proofs.Common.{◌≡◌, ◌⊎◌, ◌∙◌, inl, inr, ℕ, ◌+◌, ◌-◌, ◌≤◌, Bool, true, false, List, [], ◌∷◌, ◌++◌, length, Option, Some, None, Result, Ok, Err, ap, append-nil, arith, refl, subst, sym}
use Rattle.std.specs.Prelude.{All, Any, IfOk, is_some, min, option_map}
use Rattle.std.proofs.lemmas.List.{length_push}
use Rattle.std.proofs.lemmas.List.Quantifiers.{Any-push}
use mathlib.Core.List.{IsPrefix}
use Rattle.dv_model.specs.declared.types.Command.{Command}
use Rattle.dv_model.specs.declared.types.Group.{Group}
use Rattle.dv_model.specs.declared.types.Mailbox.{Mailbox}
use Rattle.dv_model.specs.declared.types.Record.{Record}
use Rattle.dv_model.specs.declared.types.Reply.{Reply}
use Rattle.dv_model.specs.Journals.{Log, at}
use Rattle.dv_model.specs.Sessions.{Answer, State, group_of}
use Rattle.dv_model.specs.Transcripts.{IsTold, refused_at}
use Rattle.dv_interleavings.specs.Worlds.{World, Session, Pending, Wrote, loaded_number, stopped}
use Rattle.dv_promises.specs.Standing.{Stands}
use Rattle.dv_schedules.specs.Calls.{Answer as AnswerCall, Call, Commit as CommitCall, Done, Ending, Failed, MayCommit, Refresh, Unwritten, all_called, group_met, left_pending}
use Rattle.dv_schedules.proofs.Calls.{commit_empties, commit_fails, commit_writes}
use Rattle.dv_schedules.proofs.Prefixes.{allowed_good}
use Rattle.dv_shelf.specs.Folders.{Folder}
use Rattle.dv_shelf.specs.Sees.{SeesFolder, SeesTime}
use Rattle.dv_front.specs.declared.notes.Note.{Note}
use Rattle.dv_front.proofs.Prefixes.{prefix_self}
use Rattle.dv_notes.specs.Logs.{log_of, note_of}
use Rattle.dv_plans.specs.declared.fault.StoreFault.{StoreFault}
use Rattle.dv_plans.specs.declared.fault.StoreFault.TheVariants as fault
use Rattle.dv_tries.specs.Commits.{with_records}
use Rattle.dv_tries.specs.Tries.{Try}
use Rattle.dv_member.specs.Calls.{IsAsBefore}
use Rattle.dv_member.specs.Members.{Member}
use Rattle.dv_shared.specs.declared.written.Written.{Written}
use Rattle.dv_shared.specs.Committing.{IsWritten, given}
use Rattle.dv_shared.specs.Kept.{notes_in}
use Rattle.dv_shared.specs.Owing.{OwesBehind}
use Rattle.dv_shared.specs.Writing.{HasOutcome, IsNoted, NotesBehind, refused_behind, with_failed}
use Rattle.dv_keeper.specs.declared.fault.SessionFault.{SessionFault}
use Rattle.dv_keeper.specs.declared.fault.SessionFault.TheVariants as session_fault
use Rattle.dv_keeper.specs.Commits.{Commit, HoldsBoth}
use Rattle.dv_keeper.specs.Turns.{EndsBy, HasAnswered, HasMet, HasSeen, HasSpent, HasTold, LeavesWriter}
use Rattle.dv_keeper.proofs.Turning.{records_begin, there}
use Rattle.dv_events.specs.Debts.{DebtsLead, EndsWith, IsPendingOf, IsReading, WriteMovesDebt}
use Rattle.dv_events.specs.Worlds.{AreOthers, Conversation, History, IsAtWorld, IsOfTry, IsUnanswered, history_of}
use Rattle.dv_events.specs.Writes.{IsWrite, MayEnd, RefusedWriteLoads, SpentWriteStands, UntoldWriteStays, WriteTells}
use Rattle.dv_events.proofs.Debts.{pending_stopped, pends_read}
use Rattle.dv_events.proofs.Loading.{same_of}
use Rattle.dv_events.proofs.Stepping.{Answers, Steps, group_is, lead, may_commit, mine, none, none_more, stands_on, steps_committed, steps_empty, steps_failed, steps_loaded, steps_unwritten, steps_wrote, with, wrote_at}
use Rattle.dv_events.proofs.Telling.{is_told}

-- what a commit answers
abbrev Came : Type 0
Came = Result Written StoreFault

-- the try that it adds
abbrev added : Try → Came → List Try
added t (Err (fault.Disk faults)) = t ∷ []
added t came = []

added_is : (tries : List Try) (t : Try) (came : Came) → with_failed tries t came ≡ tries ++ added t came
added_is tries t (Ok w) = sym (append-nil tries)
added_is tries t (Err (fault.Disk faults)) = refl
added_is tries t (Err fault.NoMemory) = sym (append-nil tries)
added_is tries t (Err fault.UidsUsedUp) = sym (append-nil tries)
added_is tries t (Err (fault.TooLong bytes)) = sym (append-nil tries)

min_self : (n : ℕ) → min n n ≡ n
min_self n = omega arith

module _ {S C : Type 0} (sees : SeesFolder S) (times : SeesTime C) (start : Log) (moment : ℕ) (past : ℕ → Folder → Type 0) (honest : Type 0) (old new : Member) (c : Command) (k : Commit S C) (holds : HoldsBoth sees times start moment past honest k)
    (result : Result (Unit {0}) SessionFault) (is : IsWrite sees times start honest old new c k result) where
  abbrev notes : List Note
  notes = notes_in k.before

  abbrev now : List Note
  now = notes_in k.behind

  abbrev m : Mailbox
  m = k.before.store.chain.live.mailbox

  abbrev x : State
  x = old.follower.state

  abbrev log : Log
  log = log_of start notes

  abbrev g : Group
  g = group_of c x.view m log.guid

  abbrev t : Try
  t = given old.number c x.view k.before (times.upcoming k.before.store.clock)

  met_there : at log (length notes) ≡ Some m
  met_there = there start notes k.before.store holds.0.stands

  -- ---- what the store took

  module _ (v : Written) (came : k.came ≡ Ok v) where
    noted : IsNoted honest times.tells log t m notes now
    noted = subst (λ (r : Came). NotesBehind honest times.tells log t m notes now r) came is.commit.value.notes

    outcome : HasOutcome {A = Written} start old.number x c m notes now (Ok v)
    outcome = subst (λ (r : Came). HasOutcome start old.number x c m notes now r) came (is.commit.outcome is.told)

    tries_same : k.behind.tries ≡ k.before.tries
    tries_same = is.commit.value.tries ∙ ap (λ (r : Came). with_failed k.before.tries t r) came

    abbrev note : Note
    note = note_of log old.number c noted.received g m

    now_is : now ≡ with_records notes note g.records
    now_is = noted.is ∙ ap (λ (y : Group). with_records notes (note_of log old.number c noted.received y m) y.records) (noted.known is.told)

    begins : IsPrefix notes now
    begins = subst (λ (ns : List Note). IsPrefix notes ns) (sym now_is) (records_begin notes note g.records)

    abbrev Grew : Type 0
    Grew = ((1 ≤ length g.records) × (now ≡ notes ++ note ∷ [])) ⊎ ((g.records ≡ []) × (now ≡ notes))

    grew : Grew
    grew = by_records g.records refl
      where
        by_records : (rs : List Record) → g.records ≡ rs → Grew
        by_records [] e = inr (e, now_is ∙ ap (with_records notes note) e)
        by_records (r ∷ rs) e = inl (subst (λ (l : List Record). 1 ≤ length l) (sym e) (omega arith), now_is ∙ ap (with_records notes note) e)

    abbrev behind : History
    behind = record { notes = now; tries = k.before.tries }

    one_more : (length now ≡ length notes) ⊎ (length now ≡ length notes + 1)
    one_more = by_group grew
      where
        by_group : Grew → (length now ≡ length notes) ⊎ (length now ≡ length notes + 1)
        by_group (inl more) = inr (ap (λ (l : List Note). length l) more.1 ∙ length_push notes note)
        by_group (inr none) = inl (ap (λ (l : List Note). length l) none.1)

    -- what is pending behind it
    module _ (owed left : Option Try) (w : World) (answers : Answers) (rest : List Conversation) (others : AreOthers old rest) (is_at : IsAtWorld start (history_of k.before) (with old answers ∷ rest) w) (pends : IsPendingOf start notes owed w.pending) (received : ℕ) where
      abbrev own : Session
      own = (mine start (history_of k.before) old answers rest others w is_at).session

      may_now : MayCommit w old.number own c m
      may_now = may_commit start (history_of k.before) old answers rest others w is_at is.fresh c m is.write met_there outcome.0

      same_group : group_met w own c m ≡ g
      same_group = group_is start (history_of k.before) old answers rest others w is_at is.fresh c m is.write met_there outcome.0

      abbrev Pends : World → Type 0
      Pends u = IsPendingOf start now left u.pending

      pub pends_empty : now ≡ notes → left ≡ owed → Pends (all_called w (CommitCall old.number c received false Done ∷ []))
      pends_empty same same_debt = by_group grew
        where
          by_group : Grew → Pends (all_called w (CommitCall old.number c received false Done ∷ []))
          by_group (inl more) = absurd (omega (arith, ap (λ (l : List Note). length l) same, ap (λ (l : List Note). length l) more.1, length_push notes note))
          by_group (inr none) =
              subst Pends (sym (commit_empties w old.number own c m received false may_now (ap (λ (y : Group). y.records) same_group ∙ none.0)))
              (subst (λ (ns : List Note). IsPendingOf start ns left (option_map stopped w.pending)) (sym same)
              (subst (λ (o : Option Try). IsPendingOf start notes o (option_map stopped w.pending)) (sym same_debt) (pending_stopped start notes owed w.pending pends)))

      pub pends_done : (healed : Bool) → length now ≡ length notes + 1 → left ≡ None → Pends (all_called w (CommitCall old.number c received healed Done ∷ []))
      pends_done healed longer paid = by_group grew
        where
          by_group : Grew → Pends (all_called w (CommitCall old.number c received healed Done ∷ []))
          by_group (inl more) =
              subst Pends (sym (commit_writes w old.number own c m received healed may_now (subst (λ (y : Group). 1 ≤ length y.records) (sym same_group) more.0)))
              (subst (λ (o : Option Try). IsPendingOf start now o None) (sym paid) tt)
          by_group (inr none) = absurd (omega (arith, ap (λ (l : List Note). length l) none.1, longer))

    module _ (healed : Bool) (w : World) (answers : Answers) (rest : List Conversation) (others : AreOthers old rest) (is_at : IsAtWorld start (history_of k.before) (with old answers ∷ rest) w) where
      abbrev committed : World
      committed = all_called w (CommitCall old.number c noted.received healed Done ∷ [])

      abbrev wrote : Session
      wrote = wrote_at start (history_of k.before) old answers rest others w is_at is.fresh c m is.write met_there outcome.0 (length now) (length notes)

      steps_done : Steps start behind w committed old.number wrote
      steps_done = by_group grew
        where
          by_group : Grew → Steps start behind w committed old.number wrote
          by_group (inl more) =
              steps_committed start (history_of k.before) old answers rest others w is_at is.fresh c m is.write met_there outcome.0 noted.received healed now more.0 more.1 holds.1.stands.notes_are
          by_group (inr none) =
              subst (λ (ns : List Note). Steps start (record { notes = ns; tries = k.before.tries }) w committed old.number (wrote_at start (history_of k.before) old answers rest others w is_at is.fresh c m is.write met_there outcome.0 (length ns) (length notes))) (sym none.1)
              (steps_empty start (history_of k.before) old answers rest others w is_at is.fresh c m is.write met_there outcome.0 noted.received healed none.0)

      abbrev refreshed : World
      refreshed = all_called committed (Refresh old.number ∷ [])

      abbrev loaded : Session
      loaded = record wrote { seen = loaded_number committed.published wrote.wrote }

      loaded_all : loaded.seen ≡ length now
      loaded_all = ap (λ (n : ℕ). min n (length now)) steps_done.published ∙ min_self (length now)

      steps_seen : Steps start behind w refreshed old.number loaded
      steps_seen = steps_loaded start behind w committed old.number wrote steps_done

      at_behind : (y : Conversation) (v : World) → IsAtWorld start behind (y ∷ rest) v → IsAtWorld start (history_of k.behind) (y ∷ rest) v
      at_behind y v at_now = subst (λ (ts : List Try). IsAtWorld start (record { notes = now; tries = ts }) (y ∷ rest) v) (sym tries_same) at_now

      stands_seen : Stands refreshed
      stands_seen = stands_on committed (Refresh old.number) tt (stands_on w (CommitCall old.number c noted.received healed Done) ((mine start (history_of k.before) old answers rest others w is_at).number, is.servable.command) is_at.stands)

      -- ---- an answered write

      module _ (count : ℕ) (lines : List Reply) (sees_all : HasSeen now new) (ends : HasTold (new.seen - length notes) old new) (has : HasAnswered start count c lines old new) where
        nothing_refused : length now ≡ length notes → (n : Mailbox) → at (log_of start now) (length notes) ≡ Some n → refused_at (log_of start now) (length notes) x c n ≡ None
        nothing_refused same n there_now = by_group grew
          where
            by_group : Grew → refused_at (log_of start now) (length notes) x c n ≡ None
            by_group (inl more) = absurd (omega (arith, same, ap (λ (l : List Note). length l) more.1, length_push notes note))
            by_group (inr none) =
                let met : Some n ≡ Some m = sym there_now ∙ ap (λ (ns : List Note). at (log_of start ns) (length notes)) none.1 ∙ met_there in
                ap (λ (ns : List Note). refused_at (log_of start ns) (length notes) x c n) none.1 ∙ ap (λ (n : Mailbox). refused_at log (length notes) x c n) (cc met) ∙ outcome.0

        told : IsTold (log_of start now) old.number (length notes) (length now) x c lines new.follower.state
        told = is_told start count c old new lines has notes now sees_all holds.0.stands.notes_are.fresh one_more (ap (λ (s : Member). s.wrote) ends.now) (ap (λ (s : Member). s.refused) ends.now) nothing_refused

        write_told : IsAtWorld start (history_of k.behind) (with new (answers ++ (c, lines) ∷ []) ∷ rest) (all_called refreshed (AnswerCall old.number c ∷ []))
        write_told =
            let one = mine start (history_of k.before) old answers rest others w is_at in
            let write : Wrote = record { place = length now; met = length notes; command = c } in
            let a : Answer = record { replies = lines; next = new.follower.state } in
            let after : Session = record loaded { state = new.follower.state; wrote = None; answers = loaded.answers ++ (c, lines) ∷ [] } in
            at_behind (with new (answers ++ (c, lines) ∷ [])) (all_called refreshed (AnswerCall old.number c ∷ []))
            (lead start (history_of k.before) old answers rest others w is_at behind (all_called refreshed (AnswerCall old.number c ∷ [])) (with new (answers ++ (c, lines) ∷ [])) after begins
            (steps_wrote start behind w refreshed old.number loaded steps_seen write told.before told.mailbox x a refl is.write (allowed_good log (length notes) x c m outcome.0) one.state (omega (arith, loaded_all)) told.was_there told.is_there told.is)
            (stands_on refreshed (AnswerCall old.number c) tt stands_seen) (ap (λ (s : Member). s.number) ends.now)
            (record {
              begins = subst (λ (ns : List Note). IsPrefix ns now) (sym sees_all.are) (prefix_self now);
              state = refl;
              seen = loaded_all ∙ sym sees_all.many;
              answers = ap (λ (xs : Answers). xs ++ (c, lines) ∷ []) one.answers;
              wrote = subst (λ (b : Bool). IsUnanswered b after.seen None) (sym (ap (λ (s : Member). s.spent) ends.now ∙ is.fresh)) refl;
            }))

      -- ---- a spent session

      write_spent : v.number ≡ length notes + 1 → HasSeen now new → HasSpent old new → IsAtWorld start (history_of k.behind) (with new answers ∷ rest) refreshed
      write_spent number sees_all spent =
          let one = mine start (history_of k.before) old answers rest others w is_at in
          let counted : IsWritten start c k.before k.behind v = subst (λ (r : Came). IfOk r (IsWritten start c k.before k.behind)) came is.commit.value.told in
          let more : length now ≡ length notes + 1 = sym counted.number ∙ number in
          let write : Wrote = record { place = length now; met = length notes; command = c } in
          at_behind (with new answers) refreshed
          (lead start (history_of k.before) old answers rest others w is_at behind refreshed (with new answers) loaded begins steps_seen stands_seen (ap (λ (s : Member). s.number) spent.now)
          (record {
            begins = subst (λ (ns : List Note). IsPrefix ns now) (sym sees_all.are) (prefix_self now);
            state = one.state ∙ sym (ap (λ (s : Member). s.follower.state) spent.now);
            seen = loaded_all ∙ sym sees_all.many;
            answers = one.answers;
            wrote = subst (λ (b : Bool). IsUnanswered b loaded.seen loaded.wrote) (sym (ap (λ (s : Member). s.spent) spent.now)) (write, refl, sym loaded_all, more);
          }))

  -- ---- what it didn't take

  module _ (received : ℕ) (healed : Bool) (w : World) (answers : Answers) (rest : List Conversation) (others : AreOthers old rest) (is_at : IsAtWorld start (history_of k.before) (with old answers ∷ rest) w) where
    abbrev ended : Ending → World
    ended ending = all_called w (CommitCall old.number c received healed ending ∷ [])

    abbrev first : Session
    first = (mine start (history_of k.before) old answers rest others w is_at).session

    tried : (p : Pending) → p.author ≡ old.number → p.command ≡ c → p.group ≡ g → Any (IsOfTry start notes p) (k.before.tries ++ t ∷ [])
    tried p author command group =
        Any-push (IsOfTry start notes p) k.before.tries t (record { place = refl; author = author; command = command; met = m; was_there = met_there; group = group })

    abbrev tries_by : Came → History
    tries_by came = record { notes = notes; tries = with_failed k.before.tries t came }

    steps_refused : (came : Came) → HasOutcome start old.number x c m notes now came → (ending : Ending) → MayEnd ending came → Steps start (tries_by came) w (ended ending) old.number first
    steps_refused came by_rules Unwritten may =
        subst (λ (ts : List Try). Steps start (record { notes = notes; tries = ts }) w (ended Unwritten) old.number first) (sym (added_is k.before.tries t came))
        (steps_unwritten start (history_of k.before) old answers rest others w is_at c received healed (added t came))
    steps_refused came by_rules Done may = absurd may
    steps_refused (Err (fault.Disk faults)) by_rules Failed may =
        steps_failed start (history_of k.before) old answers rest others w is_at is.fresh c m is.write met_there by_rules.0 received healed (k.before.tries ++ t ∷ []) by_rules.1 tried
    steps_refused (Ok v) by_rules Failed may = absurd may
    steps_refused (Err fault.NoMemory) by_rules Failed may = absurd may
    steps_refused (Err fault.UidsUsedUp) by_rules Failed may = absurd may
    steps_refused (Err (fault.TooLong bytes)) by_rules Failed may = absurd may

    steps_kept : (ending : Ending) → MayEnd ending k.came → Steps start (tries_by k.came) w (ended ending) old.number first
    steps_kept ending may = steps_refused k.came (is.commit.outcome is.told) ending may

    at_kept : now ≡ notes → (y : Conversation) (v : World) → IsAtWorld start (tries_by k.came) (y ∷ rest) v → IsAtWorld start (history_of k.behind) (y ∷ rest) v
    at_kept same y v at_now =
        subst (λ (ns : List Note). IsAtWorld start (record { notes = ns; tries = k.behind.tries }) (y ∷ rest) v) (sym same)
        (subst (λ (ts : List Try). IsAtWorld start (record { notes = notes; tries = ts }) (y ∷ rest) v) (sym is.commit.value.tries) at_now)

    stands_kept : (ending : Ending) → Stands (ended ending)
    stands_kept ending = stands_on w (CommitCall old.number c received healed ending) ((mine start (history_of k.before) old answers rest others w is_at).number, is.servable.command) is_at.stands

    -- memory ran out
    write_untold : (ending : Ending) → MayEnd ending k.came → now ≡ notes → (refused : ℕ) → IsAsBefore (record old { refused = refused }) new → IsAtWorld start (history_of k.behind) (with new answers ∷ rest) (ended ending)
    write_untold ending may same refused as_before =
        at_kept same (with new answers) (ended ending)
        (lead start (history_of k.before) old answers rest others w is_at (tries_by k.came) (ended ending) (with new answers) first (prefix_self notes) (steps_kept ending may) (stands_kept ending) (ap (λ (s : Member). s.number) as_before.now)
        (same_of notes w refused old new answers (mine start (history_of k.before) old answers rest others w is_at) as_before))

    -- a limit or the disk's failure was told
    write_refused : (e : StoreFault) (ending : Ending) → MayEnd ending k.came → now ≡ notes → HasSeen now new → HasMet e old new
        → IsAtWorld start (history_of k.behind) (with new answers ∷ rest) (all_called (ended ending) (Refresh old.number ∷ []))
    write_refused e ending may same sees_all met =
        let one = mine start (history_of k.before) old answers rest others w is_at in
        let nothing = none start (history_of k.before) old answers rest others w is_at is.fresh in
        let steps = steps_kept ending may in
        let v : World = all_called (ended ending) (Refresh old.number ∷ []) in
        let after : Session = record first { seen = loaded_number (ended ending).published first.wrote } in
        let many : length notes ≡ new.seen = ap (λ (ns : List Note). length ns) (sym same) ∙ sym sees_all.many in
        at_kept same (with new answers) v
        (lead start (history_of k.before) old answers rest others w is_at (tries_by k.came) v (with new answers) after (prefix_self notes) (steps_loaded start (tries_by k.came) w (ended ending) old.number first steps) (stands_on (ended ending) (Refresh old.number) tt (stands_kept ending)) (ap (λ (s : Member). s.number) met.now)
        (record {
          begins = subst (λ (ns : List Note). IsPrefix ns notes) (sym (sees_all.are ∙ same)) (prefix_self notes);
          state = one.state ∙ sym (ap (λ (s : Member). s.follower.state) met.now);
          seen = ap (loaded_number (ended ending).published) nothing ∙ steps.published ∙ many;
          answers = one.answers;
          wrote = subst (λ (b : Bool). IsUnanswered b after.seen after.wrote) (sym (ap (λ (s : Member). s.spent) met.now ∙ is.fresh)) nothing;
        }))

  -- what is pending behind it
  module _ (same : now ≡ notes) (owed left : Option Try) (w : World) (answers : Answers) (rest : List Conversation) (others : AreOthers old rest) (is_at : IsAtWorld start (history_of k.before) (with old answers ∷ rest) w) (pends : IsPendingOf start notes owed w.pending)
      (received : ℕ) where
    abbrev PendsNow : World → Type 0
    PendsNow u = IsPendingOf start now left u.pending

    pub pends_still : left ≡ owed → PendsNow (all_called w (CommitCall old.number c received false Unwritten ∷ []))
    pends_still same_debt =
        subst (λ (ns : List Note). IsPendingOf start ns left w.pending) (sym same) (subst (λ (o : Option Try). IsPendingOf start notes o w.pending) (sym same_debt) pends)

    pub pends_healed : left ≡ None → PendsNow (all_called w (CommitCall old.number c received true Unwritten ∷ []))
    pends_healed none_left = subst (λ (o : Option Try). IsPendingOf start now o None) (sym none_left) tt

    pub pends_failed : (healed : Bool) (faults : ℕ) → HasOutcome {A = Written} start old.number x c m notes now (Err (fault.Disk faults)) → left ≡ Some t → PendsNow (all_called w (CommitCall old.number c received healed Failed ∷ []))
    pends_failed healed faults by_rules tried_now =
        let own : Session = (mine start (history_of k.before) old answers rest others w is_at).session in
        let may = may_commit start (history_of k.before) old answers rest others w is_at is.fresh c m is.write met_there by_rules.0 in
        let same_group : group_met w own c m ≡ g = group_is start (history_of k.before) old answers rest others w is_at is.fresh c m is.write met_there by_rules.0 in
        let some : 1 ≤ length (group_met w own c m).records = subst (λ (y : Group). 1 ≤ length y.records) (sym same_group) by_rules.1 in
        subst PendsNow (sym (commit_fails w old.number own c m received healed may some))
        (subst (λ (o : Option Try). IsPendingOf start now o (left_pending w old.number own c received m).pending) (sym tried_now)
        (subst (λ (ns : List Note). IsPendingOf start ns (Some t) (left_pending w old.number own c received m).pending) (sym same)
        (record { place = refl; author = refl; command = refl; met = m; was_there = met_there; group = same_group })))

  -- the events of its commit lead from the one debt to the other
  module _ (owed left : Option Try) where
    abbrev Leads : Bool → Ending → Type 0
    Leads healed ending = (received : ℕ) (calls : List Call) → All IsReading calls → DebtsLead start (CommitCall old.number c received healed ending ∷ calls) (history_of k.before) owed now left old

    abbrev Moves : Came → Result (Unit {0}) SessionFault → Type 0
    Moves came r = (healed : Bool) × (ending : Ending) × EndsWith ending came r × Leads healed ending

    read_on : (w : World) (call : Call) (calls : List Call) → All IsReading calls → IsPendingOf start now left (all_called w (call ∷ [])).pending → IsPendingOf start now left (all_called w (call ∷ calls)).pending
    read_on w call calls reads pends = pends_read start now left (all_called w (call ∷ [])) calls reads pends

    kept_from : (e : StoreFault) → k.came ≡ Err e → now ≡ notes
    kept_from e came = subst (λ (r : Came). NotesBehind honest times.tells log t m notes now r) came is.commit.value.notes

    still_moves : now ≡ notes → left ≡ owed → Leads false Unwritten
    still_moves same same_debt received calls reads w answers rest others is_at pends =
        read_on w (CommitCall old.number c received false Unwritten) calls reads (pends_still same owed left w answers rest others is_at pends received same_debt)

    fault_moves : (faults : ℕ) → k.came ≡ Err (fault.Disk faults) → (r : Result (Unit {0}) SessionFault) → OwesBehind notes now t owed left (Err (fault.Disk faults)) → Moves (Err (fault.Disk faults)) r
    fault_moves faults came r (inl same_debt) = (false, Unwritten, tt, still_moves (kept_from (fault.Disk faults) came) same_debt)
    fault_moves faults came r (inr (inl none_left)) = (
      true,
      Unwritten,
      tt,
      λ received calls reads w answers rest others is_at pends. read_on w (CommitCall old.number c received true Unwritten) calls reads
          (pends_healed (kept_from (fault.Disk faults) came) owed left w answers rest others is_at pends received none_left),
    )
    fault_moves faults came r (inr (inr tried_now)) = (
      is_some owed,
      Failed,
      tt,
      λ received calls reads w answers rest others is_at pends. read_on w (CommitCall old.number c received (is_some owed) Failed) calls reads
          (pends_failed (kept_from (fault.Disk faults) came) owed left w answers rest others is_at pends received (is_some owed) faults
          (subst (λ (r : Came). HasOutcome start old.number x c m notes now r) came (is.commit.outcome is.told)) tried_now),
    )

    done_leads : (v : Written) → k.came ≡ Ok v → OwesBehind notes now t owed left (Ok v) → (healed : Bool) × Leads healed Done
    done_leads v came (inl same) =
        (false, λ received calls reads w answers rest others is_at pends. read_on w (CommitCall old.number c received false Done) calls reads (pends_empty v came owed left w answers rest others is_at pends received same.0 same.1))
    done_leads v came (inr longer) = (
      is_some owed,
      λ received calls reads w answers rest others is_at pends. read_on w (CommitCall old.number c received (is_some owed) Done) calls reads
          (pends_done v came owed left w answers rest others is_at pends received (is_some owed) longer.0 longer.1),
    )

    -- by what came of it, and by what the call answers
    pub moves : (came : Came) → k.came ≡ came → (r : Result (Unit {0}) SessionFault) → LeavesWriter notes now came old new r → OwesBehind notes now t owed left came → Moves came r
    moves (Ok v) came (Ok done) leaves behind = let leads = done_leads v came behind in (leads.0, Done, refl, leads.1)
    moves (Ok v) came (Err (session_fault.NoMemoryAfter u)) leaves behind = let leads = done_leads v came behind in (leads.0, Done, refl, leads.1)
    moves (Ok v) came (Err session_fault.NoMemory) leaves (inl same) = (false, Unwritten, refl, still_moves leaves.0 same.1)
    moves (Ok v) came (Err session_fault.NoMemory) leaves (inr longer) = absurd (omega (arith, ap (λ (l : List Note). length l) leaves.0, longer.0))
    moves (Err (fault.Disk faults)) came r leaves behind = fault_moves faults came r behind
    moves (Err fault.NoMemory) came r leaves behind = (false, Unwritten, tt, still_moves (kept_from fault.NoMemory came) behind)
    moves (Err fault.UidsUsedUp) came r leaves behind = (false, Unwritten, tt, still_moves (kept_from fault.UidsUsedUp came) behind)
    moves (Err (fault.TooLong bytes)) came r leaves behind = (false, Unwritten, tt, still_moves (kept_from (fault.TooLong bytes) came) behind)

-- ---- the laws

module _ {S C : Type 0} (sees : SeesFolder S) (times : SeesTime C) (start : Log) (moment : ℕ) (past : ℕ → Folder → Type 0) (honest : Type 0) where
  pub write_tells : (count : ℕ) → WriteTells sees times start moment past honest count
  write_tells count old new c k v lines healed holds is came has =
      let ends : HasTold (new.seen - length (notes_in k.before)) old new = subst (λ (r : Came). EndsBy (length (notes_in k.before)) r old new) came is.leaves.1 in (
        (noted sees times start moment past honest old new c k holds (Ok tt) is v came).received,
        λ w answers rest others is_at. write_told sees times start moment past honest old new c k holds (Ok tt) is v came healed w answers rest others is_at count lines is.leaves.0 ends has,
      )

  pub refused_write_loads : RefusedWriteLoads sees times start moment past honest
  refused_write_loads old new c k e received healed ending holds is came may w answers rest others is_at =
      let same : notes_in k.behind ≡ notes_in k.before = subst (λ (r : Came). NotesBehind honest times.tells (log_of start (notes_in k.before)) (given old.number c old.follower.state.view k.before (times.upcoming k.before.store.clock)) k.before.store.chain.live.mailbox (notes_in k.before) (notes_in k.behind) r) came is.commit.value.notes in
      let met : HasMet e old new = subst (λ (r : Came). EndsBy (length (notes_in k.before)) r old new) came is.leaves.1 in
      let may_end = subst (λ (r : Came). MayEnd ending r) (sym came) may in
      none_more start (history_of k.behind) new answers rest _
      (write_refused sees times start moment past honest old new c k holds (Ok tt) is received healed w answers rest others is_at e ending may_end same is.leaves.0 met)

  pub untold_write_stays : UntoldWriteStays sees times start moment past honest
  untold_write_stays old new c k received healed ending holds is may w answers rest others is_at =
      none_more start (history_of k.behind) new answers rest _
      (write_untold sees times start moment past honest old new c k holds (Err session_fault.NoMemory) is received healed w answers rest others is_at ending may is.leaves.0 (refused_behind old.refused k.came) is.leaves.1)

  pub spent_write_stands : SpentWriteStands sees times start moment past honest
  spent_write_stands old new c k v healed holds is = (
    (noted sees times start moment past honest old new c k holds (Err (session_fault.NoMemoryAfter v)) is v is.leaves.0).received,
    λ w answers rest others is_at. none_more start (history_of k.behind) new answers rest _
        (write_spent sees times start moment past honest old new c k holds (Err (session_fault.NoMemoryAfter v)) is v is.leaves.0 healed w answers rest others is_at is.leaves.1 is.leaves.2 is.leaves.3),
  )

  pub write_moves_debt : WriteMovesDebt sees times start moment past honest
  write_moves_debt old new c k result owed holds is owes =
      let moved = is.commit.owes is.told owed owes in
      let ends = moves sees times start moment past honest old new c k holds result is owed moved.0 k.came refl result is.leaves moved.2 in
      (moved.0, moved.1, ends.0, ends.1, ends.2, ends.3)
