-- What the events of each call leave.
use Rattle.std.proofs.Common.{◌≡◌, ℕ, zero, suc, ◌+◌, ◌-◌, ◌≤◌, Bool, true, false, cond, ◌&&◌, List, [], ◌∷◌, ◌++◌, length, nat_eq, nat_le, Option, Some, None, refl, sym, ◌∙◌, ap, arith}
use Rattle.std.specs.Prelude.{flat_map, option_map}
use Rattle.std.proofs.lemmas.Bool.{eq-eqb, le-leb, leb-true}
use Rattle.std.proofs.lemmas.Bool.Decides.{nat_tests}
use Rattle.std.proofs.lemmas.List.{length_push}
use Rattle.dv_model.specs.declared.types.Command.{Command}
use Rattle.dv_model.specs.declared.types.Mailbox.{Mailbox}
use Rattle.dv_model.specs.Journals.{Log, at, mark_of}
use Rattle.dv_model.specs.Sessions.{answer, is_write}
use Rattle.dv_model.specs.Transcripts.{with_written}
use Rattle.dv_interleavings.specs.Worlds.{World, Session, Pending, Wrote, Event, Write, Sync, Publish, all_happen, happens, is_bad, length_of, loaded_number, may_write, only_log, opened, stopped, with_answer, with_session}
use Rattle.dv_schedules.specs.Calls.{Answer, Call, Commit, Done, Failed, Make, MayCommit, Refresh, Unwritten, all_called, committed, events_of, group_met, left_pending, made, made_session, opens, with_write}
use Rattle.dv_schedules.specs.Laws.{pending_behind}
use Rattle.dv_schedules.proofs.Equals.{own_write}

-- ---- loads

pub refresh_loads : (w : World) (s : ℕ) (session : Session) → w.sessions s ≡ Some session → all_happen w (events_of (Refresh s)) ≡ with_session w s (Some (record session { seen = loaded_number w.published session.wrote }))
refresh_loads w s session is = rw is refl

-- ---- the sessions

-- some sessions are there
abbrev with_made : World → ℕ → World
with_made w n = record w { sessions = λ s. cond (nat_le 1 s && nat_le s n) (Some (made_session w.published)) (w.sessions s) }

opened_is : (w : World) (s : ℕ) → w.sessions s ≡ None → opened w s ≡ with_session w s (Some (made_session w.published))
opened_is w s none = rw none refl

opens_all : (w : World) (n : ℕ) → ((s : ℕ) → 1 ≤ s → s ≤ n → w.sessions s ≡ None) → all_happen w (opens n) ≡ with_made w n
opens_all w zero none = λ i. record w { sessions = λ s. nobody s (nat_le 1 s) (nat_le s 0) refl refl i }
  where
    nobody : (s : ℕ) (a b : Bool) → nat_le 1 s ≡ a → nat_le s 0 ≡ b → w.sessions s ≡ cond (nat_le 1 s && nat_le s 0) (Some (made_session w.published)) (w.sessions s)
    nobody s false b one other = rw one refl
    nobody s true false one other = rw (one, other) refl
    nobody s true true one other = let high : s ≤ 0 = leb-true s 0 other in let low : 1 ≤ s = leb-true 1 s one in absurd (omega arith)
opens_all w (suc n) none =
    let one : World = with_session w (suc n) (Some (made_session w.published)) in
    ap (λ (v : World). all_happen v (opens n)) (opened_is w (suc n) (none (suc n) (omega arith) (omega arith)))
    ∙ opens_all one n (λ s low high. absent s low high (nat_eq (suc n) s) refl)
    ∙ (λ i. record w { sessions = λ s. each s (nat_eq (suc n) s) refl i })
  where
    absent : (s : ℕ) → 1 ≤ s → s ≤ n → (b : Bool) → nat_eq (suc n) s ≡ b → cond b (Some (made_session w.published)) (w.sessions s) ≡ None
    absent s low high true same = let e : suc n ≡ s = grind (arith, nat_tests) in absurd (omega arith)
    absent s low high false other = none s low (omega arith)

    each : (s : ℕ) (b : Bool) → nat_eq (suc n) s ≡ b
        → cond (nat_le 1 s && nat_le s n) (Some (made_session w.published)) (cond b (Some (made_session w.published)) (w.sessions s)) ≡ cond (nat_le 1 s && nat_le s (suc n)) (Some (made_session w.published)) (w.sessions s)
    each s true same =
        let e : suc n ≡ s = grind (arith, nat_tests) in
        let low : nat_le 1 s ≡ true = le-leb 1 s (omega arith) in
        let high : nat_le s (suc n) ≡ true = le-leb s (suc n) (omega arith) in
        rw (low, high) (twice (nat_le s n))
      where
        twice : (b : Bool) → cond b (Some (made_session w.published)) (Some (made_session w.published)) ≡ Some (made_session w.published)
        twice true = refl
        twice false = refl
    each s false other = ap (λ (b : Bool). cond (nat_le 1 s && b) (Some (made_session w.published)) (w.sessions s)) (below (nat_le s n) refl)
      where
        below : (b : Bool) → nat_le s n ≡ b → b ≡ nat_le s (suc n)
        below true is = let le : s ≤ n = leb-true s n is in sym (le-leb s (suc n) (omega arith))
        below false is = grind (arith, nat_tests)

pub make_opens : (log : Log) (n : ℕ) → all_happen (only_log log) (events_of (Make n)) ≡ made log n
make_opens log n = opens_all (only_log log) n (λ s low high. refl)

-- ---- commits

module _ (w : World) (s : ℕ) (session : Session) (c : Command) (m : Mailbox) (received : ℕ) (may : MayCommit w s session c m) where
  may_write_is : may_write w session c ≡ true
  may_write_is = rw (may.write, may.published, eq-eqb (length_of w) (length_of w) refl, may.answered) refl

  written_some : 1 ≤ length (group_met w session c m).records → happens w (Write s c received) ≡ left_pending w s session c received m
  written_some some =
      let more : nat_eq (length (group_met w session c m).records) 0 ≡ false = grind (arith, nat_tests) in
      let lives = may.lives in
      let allowed = may.allowed in
      let mailbox = may.mailbox in
      rw (lives, may_write_is, mailbox, allowed, more) refl

  written_none : (group_met w session c m).records ≡ [] → happens w (Write s c received) ≡ with_session (record w { pending = option_map stopped w.pending }) s (Some (with_write session c (length_of w) (length_of w)))
  written_none none =
      let empty : nat_eq (length (group_met w session c m).records) 0 ≡ true = rw none refl in
      rw (may.lives, may_write_is, may.mailbox, may.allowed, empty) refl

  committed_is : happens (happens (left_pending w s session c received m) Sync) Publish ≡ committed w s session c received m
  committed_is =
      let many = length_push w.log.entries (record { author = s; group = group_met w session c m }) in
      rw (may.mailbox, may.lives, many) (one (length_of w + 1 - 1) (omega arith))
    where
      one : (n : ℕ) → n ≡ length_of w
          → with_session (record w { log = with_written w.log s c received (group_met w session c m) m; pending = None; published = length_of w + 1 }) s (Some (with_write session c (length_of w + 1) n)) ≡ committed w s session c received m
      one n same = ap (λ (n : ℕ). with_session (record w { log = with_written w.log s c received (group_met w session c m) m; pending = None; published = length_of w + 1 }) s (Some (with_write session c (length_of w + 1) n))) same

  -- nothing is pending that runs, and all was published
  synced_none : (pending : Option Pending) → (◌≡◌ {A = World} (happens (happens (with_session (record w { pending = option_map stopped pending }) s (Some (with_write session c (length_of w) (length_of w)))) Sync) Publish)
      (with_session (record w { pending = option_map stopped pending; published = length_of w }) s (Some (with_write session c (length_of w) (length_of w)))))
  synced_none None = refl
  synced_none (Some p) = refl

  pub writes : 1 ≤ length (group_met w session c m).records → all_happen w (Write s c received ∷ Sync ∷ Publish ∷ []) ≡ committed w s session c received m
  writes some = ap (λ (v : World). all_happen v (Sync ∷ Publish ∷ [])) (written_some some) ∙ committed_is

  pub empties : (group_met w session c m).records ≡ []
      → all_happen w (Write s c received ∷ Sync ∷ Publish ∷ []) ≡ with_session (record w { pending = option_map stopped w.pending }) s (Some (with_write session c (length_of w) (length_of w)))
  empties none =
      ap (λ (v : World). all_happen v (Sync ∷ Publish ∷ [])) (written_none none)
      ∙ synced_none w.pending
      ∙ ap (λ (n : ℕ). with_session (record w { pending = option_map stopped w.pending; published = n }) s (Some (with_write session c (length_of w) (length_of w)))) (sym may.published)

  -- so it is where an earlier pending group was taken away
  abbrev healed_may : MayCommit (record w { pending = None }) s session c m
  healed_may = record {
    lives = may.lives;
    answered = may.answered;
    write = may.write;
    published = may.published;
    mailbox = may.mailbox;
    allowed = may.allowed;
  }

module _ (w : World) (s : ℕ) (session : Session) (c : Command) (m : Mailbox) (received : ℕ) where
  pub commit_writes : (healed : Bool) → MayCommit w s session c m → 1 ≤ length (group_met w session c m).records → all_happen w (events_of (Commit s c received healed Done)) ≡ committed w s session c received m
  commit_writes true may some = writes (record w { pending = None }) s session c m received (healed_may w s session c m received may) some
  commit_writes false may some = writes w s session c m received may some

  pub commit_empties : (healed : Bool) → MayCommit w s session c m → (group_met w session c m).records ≡ []
      → all_happen w (events_of (Commit s c received healed Done)) ≡ with_session (record w { pending = pending_behind healed w.pending }) s (Some (with_write session c (length_of w) (length_of w)))
  commit_empties true may none = empties (record w { pending = None }) s session c m received (healed_may w s session c m received may) none
  commit_empties false may none = empties w s session c m received may none

  pub commit_fails : (healed : Bool) → MayCommit w s session c m → 1 ≤ length (group_met w session c m).records → all_happen w (events_of (Commit s c received healed Failed)) ≡ left_pending w s session c received m
  commit_fails true may some = written_some (record w { pending = None }) s session c m received (healed_may w s session c m received may) some
  commit_fails false may some = written_some w s session c m received may some

pub commit_unwritten : (w : World) (s : ℕ) (c : Command) (received : ℕ) (healed : Bool) → all_happen w (events_of (Commit s c received healed Unwritten)) ≡ cond healed (record w { pending = None }) w
commit_unwritten w s c received true = refl
commit_unwritten w s c received false = refl

-- ---- answers

pub answer_reads : (w : World) (s : ℕ) (session : Session) (c : Command) (m : Mailbox) → w.sessions s ≡ Some session → session.wrote ≡ None → is_write c ≡ false → is_bad session.state c ≡ false → at w.log session.seen ≡ Some m
    → all_happen w (events_of (Answer s c)) ≡ with_answer w s session c (answer w.log.mail session.state c m session.seen m (mark_of w.log session.seen))
answer_reads w s session c m lives none reads good there = rw (lives, good, none, reads, there) refl

pub answer_writes : (w : World) (s : ℕ) (session : Session) (write : Wrote) (met m : Mailbox) → w.sessions s ≡ Some session → session.wrote ≡ Some write → is_write write.command ≡ true
    → is_bad session.state write.command ≡ false → write.place ≤ session.seen → at w.log write.met ≡ Some met → at w.log write.place ≡ Some m
    → all_happen w (events_of (Answer s write.command)) ≡ with_answer w s session write.command (answer w.log.mail session.state write.command met write.place m (mark_of w.log write.place))
answer_writes w s session write met m lives wrote writes good loaded was_there there =
    let same = own_write write.command writes in
    let seen = le-leb write.place session.seen loaded in
    rw (lives, good, wrote, same, seen, was_there, there) refl

-- ---- calls in turn

pub all_happen_append : (w : World) (one other : List Event) → all_happen w (one ++ other) ≡ all_happen (all_happen w one) other
all_happen_append w [] other = refl
all_happen_append w (e ∷ one) other = all_happen_append (happens w e) one other

pub calls_are_events : (w : World) (calls : List Call) → all_called w calls ≡ all_happen w (flat_map events_of calls)
calls_are_events w [] = refl
calls_are_events w (call ∷ calls) = calls_are_events (all_happen w (events_of call)) calls ∙ sym (all_happen_append w (events_of call) (flat_map events_of calls))

pub all_called_append : (w : World) (one other : List Call) → all_called w (one ++ other) ≡ all_called (all_called w one) other
all_called_append w [] other = refl
all_called_append w (call ∷ one) other = all_called_append (all_happen w (events_of call)) one other
