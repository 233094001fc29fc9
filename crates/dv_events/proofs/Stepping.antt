-- What a step of one session leaves of a world that a keeper is at.
use Rattle.std.proofs.Common.{◌≡◌, ◌∙◌, ℕ, ◌+◌, ◌≤◌, Bool, true, false, cond, List, [], ◌∷◌, ◌++◌, length, nat_eq, Option, Some, None, ap, append-nil, arith, refl, subst, sym}
use Rattle.std.specs.Prelude.{◌≢◌, All, Any, IfSome, option_map}
use Rattle.std.proofs.lemmas.List.{length_push}
use Rattle.std.proofs.lemmas.List.Elements.{All-cons, All-head, All-nil, All-tail}
use mathlib.Core.List.{IsPrefix}
use Rattle.dv_model.specs.declared.types.Command.{Command}
use Rattle.dv_model.specs.declared.types.Group.{Group}
use Rattle.dv_model.specs.declared.types.Mailbox.{Mailbox}
use Rattle.dv_model.specs.declared.types.Reply.{Reply}
use Rattle.dv_model.specs.Journals.{IsU32, Log, at, mark_of}
use Rattle.dv_model.specs.Sessions.{Answer, State, answer, group_of, is_write}
use Rattle.dv_model.specs.Transcripts.{refused_at, with_written}
use Rattle.dv_interleavings.specs.Worlds.{World, Session, Pending, Wrote, is_bad, length_of, loaded_number, stopped, stopped_of, with_answer, with_session}
use Rattle.dv_promises.specs.Standing.{Stands}
use Rattle.dv_schedules.specs.Calls.{Answer as AnswerCall, Call, Commit as CommitCall, Done, Failed, MayCommit, Refresh, Unwritten, all_called, committed, group_met, with_write}
use Rattle.dv_schedules.specs.Laws.{pending_behind}
use Rattle.dv_schedules.specs.Schedules.{IsGoodCall}
use Rattle.dv_schedules.proofs.Calls.{answer_reads, answer_writes, commit_empties, commit_fails, commit_unwritten, commit_writes, refresh_loads}
use Rattle.dv_schedules.proofs.Prefixes.{other_session, own_session}
use Rattle.dv_schedules.proofs.Weaving.{calls_keep}
use Rattle.dv_front.specs.declared.notes.Note.{Note}
use Rattle.dv_front.proofs.Prefixes.{prefix_trans}
use Rattle.dv_notes.specs.Logs.{AreNotesOf, log_of, note_of}
use Rattle.dv_notes.proofs.Logs.{logs_go_on}
use Rattle.dv_tries.specs.Tries.{Try}
use Rattle.dv_tries.proofs.Growing.{any_front, any_weaker}
use Rattle.dv_member.specs.Members.{Member, notes_of}
use Rattle.dv_shared.proofs.Outcomes.{many_entries}
use Rattle.dv_events.specs.Worlds.{AreOthers, Conversation, History, IsAtWorld, IsIn, IsOfTry, IsUnanswered}

abbrev pub Answers : Type 0
Answers = List (Command × List Reply)

abbrev pub with : Member → Answers → Conversation
with s answers = record { session = s; answers = answers }

-- ---- the other sessions

module _ (notes now : List Note) (on : IsPrefix notes now) (w v : World) where
  stays_in : (x : Conversation) → v.sessions x.session.number ≡ w.sessions x.session.number → IsIn notes w x → IsIn now v x
  stays_in x same is = record {
    number = is.number;
    begins = prefix_trans (notes_of x.session) notes now is.begins on;
    session = is.session;
    lives = same ∙ is.lives;
    state = is.state;
    seen = is.seen;
    answers = is.answers;
    wrote = is.wrote;
  }

  pub others_stay : (i : ℕ) → ((j : ℕ) → (i ≡ j → ⊥) → v.sessions j ≡ w.sessions j) → (rest : List Conversation) → All (λ (x : Conversation). x.session.number ≢ i) rest → All (IsIn notes w) rest → All (IsIn now v) rest
  others_stay i same [] differ are = All-nil (IsIn now v)
  others_stay i same (x ∷ rest) differ are =
      let differs = All-head (λ (y : Conversation). y.session.number ≢ i) x rest differ in
      All-cons (IsIn now v) x rest (stays_in x (same x.session.number (λ e. differs (sym e))) (All-head (IsIn notes w) x rest are))
      (others_stay i same rest (All-tail (λ (y : Conversation). y.session.number ≢ i) x rest differ) (All-tail (IsIn notes w) x rest are))

-- ---- a pending entry

-- so a pending entry is of a try
abbrev pub Pends : Log → History → Option Pending → Type 0
Pends start h pending = IfSome pending (λ p. Any (IsOfTry start h.notes p) h.tries)

module _ (start : Log) (h : History) where
  stopped_try : (p : Pending) (t : Try) → IsOfTry start h.notes p t → IsOfTry start h.notes (stopped p) t
  stopped_try p t is = record { place = is.place; author = is.author; command = is.command; met = is.met; was_there = is.was_there; group = is.group }

  stops : (p : Pending) → Any (IsOfTry start h.notes p) h.tries → Any (IsOfTry start h.notes (stopped p)) h.tries
  stops p any = any_weaker (IsOfTry start h.notes p) (IsOfTry start h.notes (stopped p)) h.tries (stopped_try p) any

  pub pends_stopped : (pending : Option Pending) → Pends start h pending → Pends start h (option_map stopped pending)
  pends_stopped None is = tt
  pends_stopped (Some p) is = stops p is

  pub pends_behind : (healed : Bool) (pending : Option Pending) → Pends start h pending → Pends start h (pending_behind healed pending)
  pends_behind true pending is = tt
  pends_behind false pending is = pends_stopped pending is

  pub pends_told : (i : ℕ) (pending : Option Pending) → Pends start h pending → Pends start h (option_map (stopped_of i) pending)
  pends_told i None is = tt
  pends_told i (Some p) is = by_author (nat_eq p.author i)
    where
      by_author : (b : Bool) → Any (IsOfTry start h.notes (cond b (stopped p) p)) h.tries
      by_author true = stops p is
      by_author false = is

  -- under more tries
  pub pends_more : (more : List Try) (pending : Option Pending) → Pends start h pending → Pends start (record h { tries = h.tries ++ more }) pending
  pends_more more None is = tt
  pends_more more (Some p) is = any_front (IsOfTry start h.notes p) h.tries more is

-- ---- steps

-- a call keeps what stands
pub stands_on : (w : World) (call : Call) → IsGoodCall call → Stands w → Stands (all_called w (call ∷ []))
stands_on w call good stands = calls_keep w (call ∷ []) stands (All-cons IsGoodCall call [] good (All-nil IsGoodCall))

-- behind steps of one session the world has these notes, and that session so
pub record Steps (start : Log) (now : History) (w v : World) (i : ℕ) (new : Session) : Type 0 where
  pub notes_are : AreNotesOf start now.notes
  pub log : v.log ≡ log_of start now.notes
  pub published : v.published ≡ length now.notes
  pub pending : Pends start now v.pending
  pub own : v.sessions i ≡ Some new
  pub others : (j : ℕ) → (i ≡ j → ⊥) → v.sessions j ≡ w.sessions j

-- the world's session is that of a conversation
pub record IsOf (notes : List Note) (x : Conversation) (new : Session) : Type 0 where
  pub begins : IsPrefix (notes_of x.session) notes
  pub state : new.state ≡ x.session.follower.state
  pub seen : new.seen ≡ x.session.seen
  pub answers : new.answers ≡ x.answers
  pub wrote : IsUnanswered x.session.spent new.seen new.wrote

module _ (start : Log) (now : History) (w v : World) (i : ℕ) (one : Session) (steps : Steps start now w v i one) where
  -- it loads
  pub steps_loaded : Steps start now w (all_called v (Refresh i ∷ [])) i (record one { seen = loaded_number v.published one.wrote })
  steps_loaded =
      let new : Session = record one { seen = loaded_number v.published one.wrote } in
      subst (λ (u : World). Steps start now w u i new) (sym (refresh_loads v i one steps.own))
      (record {
        notes_are = steps.notes_are;
        log = steps.log;
        published = steps.published;
        pending = steps.pending;
        own = own_session v i new;
        others = λ j differs. other_session v i j (Some new) differs ∙ steps.others j differs;
      })

  -- it is answered
  pub steps_told : (c : Command) (a : Answer) → all_called v (AnswerCall i c ∷ []) ≡ with_answer v i one c a
      → Steps start now w (all_called v (AnswerCall i c ∷ [])) i (record one { state = a.next; wrote = None; answers = one.answers ++ (c, a.replies) ∷ [] })
  steps_told c a is =
      let new : Session = record one { state = a.next; wrote = None; answers = one.answers ++ (c, a.replies) ∷ [] } in
      subst (λ (u : World). Steps start now w u i new) (sym is)
      (record {
        notes_are = steps.notes_are;
        log = steps.log;
        published = steps.published;
        pending = pends_told start now i v.pending steps.pending;
        own = own_session v i new;
        others = λ j differs. other_session v i j (Some new) differs ∙ steps.others j differs;
      })

  -- a reading is told at what was loaded
  pub steps_read : (c : Command) (m : Mailbox) (x : State) (a : Answer) → one.wrote ≡ None → is_write c ≡ false → is_bad x c ≡ false → one.state ≡ x
      → at (log_of start now.notes) one.seen ≡ Some m → answer (log_of start now.notes).mail x c m one.seen m (mark_of (log_of start now.notes) one.seen) ≡ a
      → Steps start now w (all_called v (AnswerCall i c ∷ [])) i (record one { state = a.next; wrote = None; answers = one.answers ++ (c, a.replies) ∷ [] })
  steps_read c m x a none reads good state there is =
      let bad : is_bad one.state c ≡ false = ap (λ (z : State). is_bad z c) state ∙ good in
      let there_now : at v.log one.seen ≡ Some m = ap (λ (l : Log). at l one.seen) steps.log ∙ there in
      let a_is : answer v.log.mail one.state c m one.seen m (mark_of v.log one.seen) ≡ a =
      ap (λ (l : Log). answer l.mail one.state c m one.seen m (mark_of l one.seen)) steps.log
      ∙ ap (λ (z : State). answer (log_of start now.notes).mail z c m one.seen m (mark_of (log_of start now.notes) one.seen)) state
      ∙ is in
      steps_told c a (answer_reads v i one c m steps.own none reads bad there_now ∙ ap (λ (b : Answer). with_answer v i one c b) a_is)

  -- a write is told at its place
  pub steps_wrote : (write : Wrote) (met m : Mailbox) (x : State) (a : Answer) → one.wrote ≡ Some write → is_write write.command ≡ true → is_bad x write.command ≡ false → one.state ≡ x → write.place ≤ one.seen
      → at (log_of start now.notes) write.met ≡ Some met → at (log_of start now.notes) write.place ≡ Some m
      → answer (log_of start now.notes).mail x write.command met write.place m (mark_of (log_of start now.notes) write.place) ≡ a
      → Steps start now w (all_called v (AnswerCall i write.command ∷ [])) i (record one { state = a.next; wrote = None; answers = one.answers ++ (write.command, a.replies) ∷ [] })
  steps_wrote write met m x a wrote writes good state seen was_there there is =
      let bad : is_bad one.state write.command ≡ false = ap (λ (z : State). is_bad z write.command) state ∙ good in
      let was_there_now : at v.log write.met ≡ Some met = ap (λ (l : Log). at l write.met) steps.log ∙ was_there in
      let there_now : at v.log write.place ≡ Some m = ap (λ (l : Log). at l write.place) steps.log ∙ there in
      let a_is : answer v.log.mail one.state write.command met write.place m (mark_of v.log write.place) ≡ a =
      ap (λ (l : Log). answer l.mail one.state write.command met write.place m (mark_of l write.place)) steps.log
      ∙ ap (λ (z : State). answer (log_of start now.notes).mail z write.command met write.place m (mark_of (log_of start now.notes) write.place)) state
      ∙ is in
      steps_told write.command a
      (answer_writes v i one write met m steps.own wrote writes bad seen was_there_now there_now ∙ ap (λ (b : Answer). with_answer v i one write.command b) a_is)

-- ---- from a world that the keeper is at

module _ (start : Log) (h : History) (old : Member) (answers : Answers) (rest : List Conversation) (others : AreOthers old rest) (w : World) (is_at : IsAtWorld start h (with old answers ∷ rest) w) where
  pub mine : IsIn h.notes w (with old answers)
  mine = All-head (IsIn h.notes w) (with old answers) rest is_at.sessions

  pub none : old.spent ≡ false → mine.session.wrote ≡ None
  none fresh = subst (λ (b : Bool). IsUnanswered b mine.session.seen mine.session.wrote) fresh mine.wrote

  pub steps_none : Steps start h w w old.number mine.session
  steps_none = record {
    notes_are = is_at.notes_are;
    log = is_at.log;
    published = is_at.published;
    pending = is_at.pending;
    own = mine.lives;
    others = λ j differs. refl;
  }

  -- so it is at the one that steps lead to
  pub lead : (now : History) (v : World) (x : Conversation) (new : Session) → IsPrefix h.notes now.notes → Steps start now w v old.number new → Stands v → x.session.number ≡ old.number → IsOf now.notes x new → IsAtWorld start now (x ∷ rest) v
  lead now v x new on steps stands number is = record {
    stands = stands;
    notes_are = steps.notes_are;
    log = steps.log;
    published = steps.published;
    pending = steps.pending;
    sessions = All-cons (IsIn now.notes v) x rest
        (record {
          number = subst IsU32 (sym number) mine.number;
          begins = is.begins;
          session = new;
          lives = ap v.sessions number ∙ steps.own;
          state = is.state;
          seen = is.seen;
          answers = is.answers;
          wrote = is.wrote;
        })
        (others_stay h.notes now.notes on w v old.number steps.others rest others (All-tail (IsIn h.notes w) (with old answers) rest is_at.sessions));
  }

  -- ---- a commit

  abbrev log : Log
  log = log_of start h.notes

  count : length_of w ≡ length h.notes
  count = ap (λ (l : Log). length l.entries) is_at.log ∙ many_entries start h.notes is_at.notes_are.fresh

  module _ (fresh : old.spent ≡ false) (c : Command) (m : Mailbox) (write : is_write c ≡ true) (there : at log (length h.notes) ≡ Some m) (allowed : refused_at log (length h.notes) old.follower.state c m ≡ None) where
    abbrev g : Group
    g = group_of c old.follower.state.view m log.guid

    pub may_commit : MayCommit w old.number mine.session c m
    may_commit = record {
      lives = mine.lives;
      answered = none fresh;
      write = write;
      published = is_at.published ∙ sym count;
      mailbox = ap (λ (l : Log). at l (length_of w)) is_at.log ∙ ap (at log) count ∙ there;
      allowed =
          ap (λ (l : Log). refused_at l (length_of w) mine.session.state c m) is_at.log
          ∙ ap (λ (k : ℕ). refused_at log k mine.session.state c m) count
          ∙ ap (λ (z : State). refused_at log (length h.notes) z c m) mine.state
          ∙ allowed;
    }

    pub group_is : group_met w mine.session c m ≡ g
    group_is = ap (λ (l : Log). group_of c mine.session.state.view m l.guid) is_at.log ∙ ap (λ (z : State). group_of c z.view m log.guid) mine.state

    -- how it wrote
    abbrev pub wrote_at : ℕ → ℕ → Session
    wrote_at place met = with_write mine.session c place met

    -- its group is one note more
    pub steps_committed : (received : ℕ) (healed : Bool) (now : List Note) → 1 ≤ length g.records → now ≡ h.notes ++ note_of log old.number c received g m ∷ [] → AreNotesOf start now
        → Steps start (record h { notes = now }) w (all_called w (CommitCall old.number c received healed Done ∷ [])) old.number (wrote_at (length now) (length h.notes))
    steps_committed received healed now some is good =
        let met : ℕ = length_of w in
        let place : length_of w + 1 ≡ length now = omega (arith, count, ap (λ (l : List Note). length l) is, length_push h.notes (note_of log old.number c received g m)) in
        let new_is : wrote_at (length_of w + 1) (length_of w) ≡ wrote_at (length now) (length h.notes) = (λ i. wrote_at (place i) (count i)) in
        let some_met : 1 ≤ length (group_met w mine.session c m).records = subst (λ (x : Group). 1 ≤ length x.records) (sym group_is) some in
        let log_is : with_written w.log old.number c received (group_met w mine.session c m) m ≡ log_of start now =
        ap (λ (l : Log). with_written l old.number c received (group_met w mine.session c m) m) is_at.log
        ∙ ap (λ (x : Group). with_written log old.number c received x m) group_is
        ∙ sym (logs_go_on start h.notes old.number c received g m)
        ∙ ap (log_of start) (sym is) in
        subst (λ (u : World). Steps start (record h { notes = now }) w u old.number (wrote_at (length now) (length h.notes))) (sym (commit_writes w old.number mine.session c m received healed may_commit some_met))
        (subst (λ (x : Session). Steps start (record h { notes = now }) w (committed w old.number mine.session c received m) old.number x) new_is
        (record {
          notes_are = good;
          log = log_is;
          published = place;
          pending = tt;
          own = own_session w old.number (wrote_at (length_of w + 1) (length_of w));
          others = λ j differs. other_session w old.number j (Some (wrote_at (length_of w + 1) (length_of w))) differs;
        }))

    -- it has none to write
    pub steps_empty : (received : ℕ) (healed : Bool) → g.records ≡ []
        → Steps start h w (all_called w (CommitCall old.number c received healed Done ∷ [])) old.number (wrote_at (length h.notes) (length h.notes))
    steps_empty received healed empty =
        let new_is : wrote_at (length_of w) (length_of w) ≡ wrote_at (length h.notes) (length h.notes) = ap (λ (n : ℕ). wrote_at n n) count in
        let empty_met : (group_met w mine.session c m).records ≡ [] = ap (λ (x : Group). x.records) group_is ∙ empty in
        let v : World = with_session (record w { pending = pending_behind healed w.pending }) old.number (Some (wrote_at (length_of w) (length_of w))) in
        subst (λ (u : World). Steps start h w u old.number (wrote_at (length h.notes) (length h.notes))) (sym (commit_empties w old.number mine.session c m received healed may_commit empty_met))
        (subst (λ (x : Session). Steps start h w v old.number x) new_is
        (record {
          notes_are = is_at.notes_are;
          log = is_at.log;
          published = is_at.published;
          pending = pends_behind start h healed w.pending is_at.pending;
          own = own_session w old.number (wrote_at (length_of w) (length_of w));
          others = λ j differs. other_session w old.number j (Some (wrote_at (length_of w) (length_of w))) differs;
        }))

    -- the disk failed it, and its group is pending
    pub steps_failed : (received : ℕ) (healed : Bool) (tries : List Try) → 1 ≤ length g.records
        → ((p : Pending) → p.author ≡ old.number → p.command ≡ c → p.group ≡ g → Any (IsOfTry start h.notes p) tries)
        → Steps start (record h { tries = tries }) w (all_called w (CommitCall old.number c received healed Failed ∷ [])) old.number mine.session
    steps_failed received healed tries some tried =
        let some_met : 1 ≤ length (group_met w mine.session c m).records = subst (λ (x : Group). 1 ≤ length x.records) (sym group_is) some in
        subst (λ (u : World). Steps start (record h { tries = tries }) w u old.number mine.session) (sym (commit_fails w old.number mine.session c m received healed may_commit some_met))
        (record {
          notes_are = is_at.notes_are;
          log = is_at.log;
          published = is_at.published;
          pending = tried _ refl refl group_is;
          own = mine.lives;
          others = λ j differs. refl;
        })

  -- nothing of it was written
  pub steps_unwritten : (c : Command) (received : ℕ) (healed : Bool) (more : List Try)
      → Steps start (record h { tries = h.tries ++ more }) w (all_called w (CommitCall old.number c received healed Unwritten ∷ [])) old.number mine.session
  steps_unwritten c received healed more =
      subst (λ (u : World). Steps start (record h { tries = h.tries ++ more }) w u old.number mine.session) (sym (commit_unwritten w old.number c received healed)) (by_heal healed)
    where
      by_heal : (b : Bool) → Steps start (record h { tries = h.tries ++ more }) w (cond b (record w { pending = None }) w) old.number mine.session
      by_heal true = record {
        notes_are = is_at.notes_are;
        log = is_at.log;
        published = is_at.published;
        pending = tt;
        own = mine.lives;
        others = λ j differs. refl;
      }
      by_heal false = record {
        notes_are = is_at.notes_are;
        log = is_at.log;
        published = is_at.published;
        pending = pends_more start h more w.pending is_at.pending;
        own = mine.lives;
        others = λ j differs. refl;
      }

-- no answer more
pub none_more : (start : Log) (h : History) (new : Member) (answers : Answers) (rest : List Conversation) (v : World) → IsAtWorld start h (with new answers ∷ rest) v → IsAtWorld start h (with new (answers ++ []) ∷ rest) v
none_more start h new answers rest v is = subst (λ (xs : Answers). IsAtWorld start h (with new xs ∷ rest) v) (sym (append-nil answers)) is
