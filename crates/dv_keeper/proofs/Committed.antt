-- What a write leaves, from what its commit and what follows it leave.
use Rattle.std.proofs.Common.{◌≡◌, ◌∙◌, ℕ, ◌+◌, ◌-◌, ◌<◌, ◌≤◌, true, false, List, [], ◌∷◌, Result, Ok, Err, ap, arith, length, refl, subst, sym}
use Rattle.std.specs.Prelude.{IfErr, IfOk, OnOk, if◌then◌else◌}
use mathlib.Core.List.{IsPrefix}
use Rattle.dv_model.specs.declared.types.Command.{Command}
use Rattle.dv_model.specs.declared.types.Record.{Record}
use Rattle.dv_model.specs.declared.types.Reply.{Reply}
use Rattle.dv_model.specs.Journals.{Log, mark_of}
use Rattle.dv_model.specs.Sessions.{Answer, State, answer, is_write}
use Rattle.dv_model.specs.Transcripts.{HasLeft, IsTurn, unavailable_count}
use Rattle.dv_shelf.specs.Sees.{SeesFolder, SeesTime}
use Rattle.dv_logfile.specs.Settling.{StaysSettled}
use Rattle.dv_answer.specs.Answers.{IsAnswered}
use Rattle.dv_front.specs.declared.notes.Note.{Note}
use Rattle.dv_front.proofs.Prefixes.{prefix_length}
use Rattle.dv_generations.specs.Feeds.{Feed, journal}
use Rattle.dv_member.specs.Calls.{IsAsBefore, counted}
use Rattle.dv_member.specs.Members.{IsSession, Member, notes_of}
use Rattle.dv_notes.specs.Logs.{log_of}
use Rattle.dv_plans.specs.declared.fault.StoreFault.{StoreFault}
use Rattle.dv_plans.specs.declared.fault.StoreFault.TheVariants as fault
use Rattle.dv_plans.specs.Faults.{HasStoreCause}
use Rattle.dv_serving.specs.Lines.{IsFaultLine}
use Rattle.dv_serving.specs.Taking.{Takes}
use Rattle.dv_serving.proofs.Counting.{answer_available, counts_none}
use Rattle.dv_store.specs.States.{State as StoreState}
use Rattle.dv_tries.specs.Commits.{with_records}
use Rattle.dv_tries.specs.Standing.{StandsBehind}
use Rattle.dv_shared.specs.declared.written.Written.{Written}
use Rattle.dv_shared.specs.Committing.{CommitsKept, given, with_outcome}
use Rattle.dv_shared.specs.Kept.{Kept, notes_in}
use Rattle.dv_shared.specs.Owing.{MovesDebt, OwesSome}
use Rattle.dv_shared.specs.Writing.{HasOutcome, refused_behind}
use Rattle.dv_shared.proofs.Committed.{stays_same}
use Rattle.dv_keeper.specs.declared.fault.SessionFault.{SessionFault}
use Rattle.dv_keeper.specs.declared.fault.SessionFault.TheVariants as session_fault
use Rattle.dv_keeper.specs.Commits.{IsCommitOf}
use Rattle.dv_keeper.specs.Sessions.{HasJoined}
use Rattle.dv_keeper.specs.Turns.{HasAnswered, HasMet, HasSeen, HasTold, LeavesEntry, LeavesUntold, LeavesWriter, is_marked}
use Rattle.dv_keeper.proofs.Members.{Came, before_from, behind, committed_is, met_from, spent_from, told_from}
use Rattle.dv_keeper.proofs.Turning.{TellsMore, answer_marked, counts_turn, denied_turn, done_turn, left_entry, line_counts, line_turns, records_begin, records_count, records_none, takes_by}

pub both_ok : {A E P Q T : Type 0} (result : Result A E) → OnOk result P → OnOk result Q → (P → Q → T) → OnOk result T
both_ok (Ok x) p q f = f p q
both_ok (Err e) p q f = tt

-- ---- the commit

module _ {S C : Type 0} (sees : SeesFolder S) (times : SeesTime C) (start : Log) (honest : Type 0) (old f : Member) (as_before : IsAsBefore old f) (c : Command) (before : Kept S C) (begins : IsPrefix (notes_of f) (notes_in before)) where
  pub commit_of : (behind : Kept S C) (came : Came) → CommitsKept honest times.tells start (given f.number c f.follower.state.view before (times.upcoming before.store.clock)) before behind came
      → (honest → HasOutcome start f.number f.follower.state c before.store.chain.live.mailbox (notes_in before) (notes_in behind) came)
      → (honest → OwesSome sees times.tells start before) → (honest → MovesDebt sees times.tells start (given f.number c f.follower.state.view before (times.upcoming before.store.clock)) before behind came)
      → HasStoreCause (sees.fault_count before.store.shelf) (sees.fault_count behind.store.shelf) came → (sees.tells → StaysSettled sees before.store.shelf behind.store.shelf)
      → IsCommitOf sees times start honest old c (record { before = before; behind = behind; came = came })
  commit_of behind came value outcome owed owes cause settled = record {
    begins = subst (λ (ns : List Note). IsPrefix ns (notes_in before)) as_before.notes begins;
    value = subst (λ (x : Member). CommitsKept honest times.tells start (given x.number c x.follower.state.view before (times.upcoming before.store.clock)) before behind came) as_before.now value;
    outcome = λ h. subst (λ (x : Member). HasOutcome start x.number x.follower.state c before.store.chain.live.mailbox (notes_in before) (notes_in behind) came) as_before.now (outcome h);
    owed = owed;
    owes = λ h. subst (λ (x : Member). MovesDebt sees times.tells start (given x.number c x.follower.state.view before (times.upcoming before.store.clock)) before behind came) as_before.now (owes h);
    cause = cause;
    settled = settled;
  }

  -- memory ran out before it
  pub no_commit : (honest → OwesSome sees times.tells start before) → IsCommitOf sees times start honest old c (record { before = before; behind = before; came = Err fault.NoMemory })
  no_commit owed = commit_of before (Err fault.NoMemory) (record {
    notes = refl;
    tries = refl;
    told = tt;
    stays = λ none. stays_same before.store;
    words = λ is. record { parts = refl; left = refl; words = refl };
    pass = λ more. absurd (omega (arith, more));
  }) (λ h. tt) owed (λ h debt owes. (debt, owes, refl)) (record { later = omega arith; rose = tt }) (λ told stayed settled. settled)

-- ---- what the session had seen

pub low_seen : (start : Log) (count : ℕ) (s : Member) (notes : List Note) → IsSession start count s → IsPrefix (notes_of s) notes → s.seen ≤ length notes
low_seen start count s notes session begins = omega (arith, session.seen, prefix_length (notes_of s) notes begins)

pub low_told : (start : Log) (count : ℕ) (s : Member) (notes : List Note) → IsSession start count s → s.spent ≡ false → IsPrefix (notes_of s) notes → s.follower.state.told ≤ length notes
low_told start count s notes session fresh begins = omega (arith, (session.lives fresh).told, low_seen start count s notes session begins)

-- ---- a turn as its session has it

module _ (start : Log) (count : ℕ) (c : Command) (old new : Member) (notes now : List Note) (sees : HasSeen now new) (low : old.seen ≤ length notes) where
  pub answered_of : (lines : List Reply)
      → IsTurn (log_of start now) count old.number (record { before = old.follower.state; command = c; met = length notes; behind = length now; replies = lines; after = new.follower.state })
      → new.wrote ≡ old.wrote + (new.seen - length notes) → new.refused ≡ old.refused + unavailable_count (lines ∷ []) → new.turns ≡ (if is_marked lines then counted old.turns else old.turns)
      → HasAnswered start count c lines old new
  answered_of lines turn wrote refused turns = record {
    met = length notes;
    low = low;
    turn =
        subst (λ (ns : List Note). IsTurn (log_of start ns) count old.number (record { before = old.follower.state; command = c; met = length notes; behind = new.seen; replies = lines; after = new.follower.state })) (sym sees.are)
        (subst (λ (q : ℕ). IsTurn (log_of start now) count old.number (record { before = old.follower.state; command = c; met = length notes; behind = q; replies = lines; after = new.follower.state })) (sym sees.many) turn);
    wrote = wrote;
    refused = refused;
    turns = turns;
  }

-- ---- behind a commit that was taken

module _ (old f w new : Member) (as_before : IsAsBefore old f) (notes now : List Note) (note : Note) (rs : List Record) (noted : now ≡ with_records notes note rs) (v : Written) (number : v.number ≡ length now)
    (is : w ≡ with_outcome (length notes) (Ok v) f) where
  w_is : w ≡ behind (length notes) (Ok v) old f.front f.tables
  w_is = committed_is (length notes) (Ok v) old f w as_before is

  seen_same : notes_of (record old { front = f.front }) ≡ notes_of old
  seen_same = sym (ap notes_of as_before.now) ∙ as_before.notes

  longer : length notes < v.number → length now ≡ length notes + 1
  longer more =
      let less : length notes < length (with_records notes note rs) = omega (arith, more, number, ap (λ (l : List Note). length l) noted) in
      ap (λ (l : List Note). length l) noted ∙ records_count notes note rs less

  module _ (feed : Feed) (shows : journal feed ≡ now) where
    pub leaves_written : (result : Result (Unit {0}) SessionFault) → OnOk result (HasSeen now new × HasTold 0 w new) → IfErr result (LeavesUntold (length notes) v feed w new)
        → LeavesWriter notes now (Ok v) old new result
    leaves_written (Ok done) ok err = (ok.0, told_from old f.front f.tables as_before.tables (length notes) w new v new.seen (number ∙ sym ok.0.many) w_is ok.1)
    leaves_written (Err session_fault.NoMemory) ok err =
        let few : length (with_records notes note rs) ≤ length notes = omega (arith, err.0, number, ap (λ (l : List Note). length l) noted) in (
          noted ∙ records_none notes note rs few,
          before_from old f.front f.tables as_before.tables (length notes) w new (Ok v) w_is (omega (arith, err.0)) seen_same err.1,
        )
    leaves_written (Err (session_fault.NoMemoryAfter u)) ok err =
        let one : v.number ≡ length notes + 1 = number ∙ longer err.0 in (
          ap (λ (x : Written). Ok x) (sym err.1),
          ap (λ (x : Written). x.number) err.1 ∙ one,
          subst (λ (ns : List Note). HasSeen ns new) shows err.2,
          spent_from old f.front f.tables as_before.tables (length notes) w new v feed one w_is err.3,
        )

    -- its entry is left without an answer
    pub leaves_entry : (start : Log) (c : Command) (result : Result (Unit {0}) SessionFault) → IfErr result (LeavesUntold (length notes) v feed w new) → (length notes < length now → HasLeft (log_of start now) old.number (length notes) old.follower.state c)
        → IfErr result (LeavesEntry start c old new)
    leaves_entry start c (Ok done) err left = tt
    leaves_entry start c (Err session_fault.NoMemory) err left = tt
    leaves_entry start c (Err (session_fault.NoMemoryAfter u)) err left =
        let sees = subst (λ (ns : List Note). HasSeen ns new) shows err.2 in
        let one : v.number ≡ length notes + 1 = number ∙ longer err.0 in
        let place : length notes ≡ u.number - 1 = omega (arith, one, ap (λ (x : Written). x.number) err.1) in
        subst (λ (ns : List Note). HasLeft (log_of start ns) old.number (u.number - 1) old.follower.state c) (sym sees.are)
        (subst (λ (k : ℕ). HasLeft (log_of start now) old.number k old.follower.state c) place (left (omega (arith, one, number))))

  state_is : w.follower.state ≡ old.follower.state
  state_is = ap (λ (x : Member). x.follower.state) w_is

  pub written_begins : (ns : List Note) → IsPrefix (notes_of w) ns → IsPrefix (notes_of old) ns
  written_begins ns begins = subst (λ (ms : List Note). IsPrefix ms ns) (ap notes_of w_is ∙ seen_same) begins

  -- the turn, where it was answered
  module _ {S C : Type 0} (start : Log) (count : ℕ) (c : Command) (first last : StoreState S C) (stands : StandsBehind start notes first) (stands_now : StandsBehind start now last) (session : IsSession start count old) (fresh : old.spent ≡ false)
      (begins : IsPrefix (notes_of old) notes) (outcome : HasOutcome start old.number old.follower.state c first.chain.live.mailbox notes now (Ok v)) where
    abbrev log : Log
    log = log_of start now

    goes_on : IsPrefix notes now
    goes_on = subst (λ (ns : List Note). IsPrefix notes ns) (sym noted) (records_begin notes note rs)

    low : old.follower.state.told ≤ length notes
    low = low_told start count old notes session fresh begins

    -- its answer
    abbrev by_rules : State → Answer
    by_rules x = answer log.mail x c first.chain.live.mailbox (length now) last.chain.live.mailbox (mark_of log (length now))

    told_turn : {R : Type 0} (with : R → List Reply → R) (said said_now : R) → IsAnswered with said said_now new.follower.state (by_rules w.follower.state) → HasSeen now new × HasTold 0 w new
        → (said_now ≡ with said (by_rules old.follower.state).replies) × HasAnswered start count c (by_rules old.follower.state).replies old new
    told_turn with said said_now is_answered ok =
        let answered = subst (λ (x : State). IsAnswered with said said_now new.follower.state (by_rules x)) state_is is_answered in
        let a = by_rules old.follower.state in
        let told = told_from old f.front f.tables as_before.tables (length notes) w new v new.seen (number ∙ sym ok.0.many) w_is ok.1 in
        let turn = done_turn start notes now first last stands stands_now old.number old.follower.state c low goes_on count new.follower.state outcome.0 outcome.1 answered.1 in
        let none : unavailable_count (a.replies ∷ []) ≡ 0 = counts_none a.replies (answer_available log.mail old.follower.state c first.chain.live.mailbox (length now) last.chain.live.mailbox (mark_of log (length now))) in
        let marked = answer_marked log.mail old.follower.state c first.chain.live.mailbox (length now) last.chain.live.mailbox (mark_of log (length now)) in (
          answered.0,
          answered_of start count c old new notes now ok.0 (low_seen start count old notes session begins) a.replies turn (ap (λ (x : Member). x.wrote) told.now) (ap (λ (x : Member). x.refused) told.now ∙ omega (arith, none))
              (ap (λ (x : Member). x.turns) told.now ∙ counts_turn a.replies old.turns marked),
        )

    pub write_turn : {E R : Type 0} (with : R → List Reply → R) (said said_now : R) (result : Result (Unit {0}) E) → OnOk result (IsAnswered with said said_now new.follower.state (by_rules w.follower.state)) → OnOk result (HasSeen now new × HasTold 0 w new)
        → Takes with said said_now result (λ told. IfOk told (λ lines. HasAnswered start count c lines old new))
    write_turn with said said_now result answered ok =
        takes_by with said said_now (by_rules old.follower.state).replies (λ lines. HasAnswered start count c lines old new) result
        (both_ok result answered ok (told_turn with said said_now))

    pub write_left : is_write c ≡ true → length notes < length now → HasLeft log old.number (length notes) old.follower.state c
    write_left write more = left_entry start notes now first last stands stands_now old.number old.follower.state c low goes_on write outcome.0 more outcome.1

-- ---- behind a commit that was refused

module _ (old f w new : Member) (as_before : IsAsBefore old f) (n : ℕ) (e : StoreFault) (is : w ≡ with_outcome n (Err e) f) where
  e_is : w ≡ behind n (Err e) old f.front f.tables
  e_is = committed_is n (Err e) old f w as_before is

  pub leaves_met : HasJoined w new → HasMet e old new
  leaves_met joined = met_from old f.front f.tables as_before.tables n w new e e_is joined

  pub leaves_before : IsAsBefore w new → IsAsBefore (record old { refused = refused_behind {A = Written} old.refused (Err e) }) new
  leaves_before untold =
      before_from old f.front f.tables as_before.tables n w new (Err e) e_is refl (sym (ap notes_of as_before.now) ∙ as_before.notes) untold

  pub refused_begins : (ns : List Note) → IsPrefix (notes_of w) ns → IsPrefix (notes_of old) ns
  refused_begins ns begins = subst (λ (ms : List Note). IsPrefix ms ns) (ap notes_of e_is ∙ sym (ap notes_of as_before.now) ∙ as_before.notes) begins

  -- the turn, where its line was taken
  pub denied_answered : {S C : Type 0} (start : Log) (count : ℕ) (c : Command) (notes now : List Note) (store : StoreState S C) → StandsBehind start notes store → IsSession start count old → old.spent ≡ false → IsPrefix (notes_of old) notes → is_write c ≡ true
      → now ≡ notes → HasOutcome {A = Written} start old.number old.follower.state c store.chain.live.mailbox notes now (Err e) → TellsMore count e → (lines : List Reply) → HasSeen now new → HasJoined w new → IsFaultLine e lines
      → HasAnswered start count c lines old new
  denied_answered start count c notes now store stands session fresh begins write same outcome more lines sees joined line =
      let met = leaves_met joined in
      let state : new.follower.state ≡ old.follower.state = ap (λ (x : Member). x.follower.state) met.now in
      let sees_same = subst (λ (ns : List Note). HasSeen ns new) same sees in
      let outcome_same = subst (λ (ns : List Note). HasOutcome {A = Written} start old.number old.follower.state c store.chain.live.mailbox notes ns (Err e)) same outcome in
      let turn = denied_turn start notes store stands old.number old.follower.state c (low_told start count old notes session fresh begins) count e lines write outcome_same more line in
      answered_of start count c old new notes notes sees_same (low_seen start count old notes session begins) lines
      (subst (λ (y : State). IsTurn (log_of start notes) count old.number (record { before = old.follower.state; command = c; met = length notes; behind = length notes; replies = lines; after = y })) (sym state) turn)
      (ap (λ (x : Member). x.wrote) met.now ∙ omega (arith, sees_same.many))
      (ap (λ (x : Member). x.refused) met.now ∙ line_counts old.refused e lines line)
      (ap (λ (x : Member). x.turns) met.now ∙ line_turns old.turns e lines line)
