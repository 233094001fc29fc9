-- A session's next turns as calls.
use Rattle.std.proofs.Common.{◌≡◌, ◌⊎◌, inl, inr, ℕ, ◌+◌, ◌<◌, ◌≤◌, Bool, true, false, cond, not, List, [], ◌∷◌, ◌++◌, length, nat_eq, Option, Some, None, refl, sym, ◌∙◌, ap, subst, arith}
use Rattle.std.specs.Prelude.{All, IfSome, filter, map, min, option_map, option_to_list, slice_get}
use Rattle.std.proofs.lemmas.Bool.Decides.{nat_tests}
use Rattle.std.proofs.lemmas.List.{append_assoc, length_push}
use Rattle.std.proofs.lemmas.List.Elements.{All-cons, All-head, All-nil, All-tail}
use Rattle.std.proofs.lemmas.Option.{same_Some}
use Rattle.dv_model.specs.declared.types.Command.{Command}
use Rattle.dv_model.specs.declared.types.Entry.{Entry}
use Rattle.dv_model.specs.declared.types.Group.{Group}
use Rattle.dv_model.specs.declared.types.Mailbox.{Mailbox}
use Rattle.dv_model.specs.declared.types.Reply.{Reply}
use Rattle.dv_model.specs.declared.types.Reply.TheVariants as reply
use Rattle.dv_model.specs.Journals.{IsU32, Log, at, mark_of}
use Rattle.dv_model.specs.Sessions.{Answer, IsCommand, State, answer, group_of, is_write}
use Rattle.dv_model.specs.Transcripts.{Answered, HasWritten, IsOwn, IsTold, IsTurn, LeadsTo, Turn, refused_at, with_written}
use Rattle.dv_interleavings.specs.Promises.{was_refused}
use Rattle.dv_interleavings.specs.Worlds.{World, Session, all_happen, is_bad, length_of, loaded_number, stopped, with_answer, with_session}
use Rattle.dv_promises.proofs.Refusals.{told_unrefused}
use Rattle.dv_promises.proofs.Transcripts.{is_a_write, pair_of}
use Rattle.dv_stories.specs.Stories.{NextLeft, places_of}
use Rattle.dv_stories.proofs.Counting.{has}
use Rattle.dv_clients.proofs.Refusals.{IsSilent, refusal_silent}
use Rattle.dv_stories.proofs.Written.{all_places}
use Rattle.dv_schedules.specs.Calls.{Answer as AnswerCall, Call, Commit, Done, MayCommit, Refresh, all_called, events_of, group_met, with_write}
use Rattle.dv_schedules.specs.Schedules.{IsGoodCall, write_left}
use Rattle.dv_schedules.proofs.Calls.{answer_reads, answer_writes, commit_empties, commit_writes, refresh_loads}
use Rattle.dv_schedules.proofs.Prefixes.{Changes, HasBase, allowed_good, answer_is, answered_changes, at_is, changes_then, cut, group_is, length_is, next_is, other_session, own_session, received_in, refused_is, with_written_is}

-- ---- what a session still does

-- what its story ends with
pub record Ends : Type 0 where
  pub state : State
  pub left : Option ℕ
  pub rest : List Command
  pub answers : List (Command × List Reply)

-- the answers that its turns are told
abbrev pub told_turns : List Turn → List (Command × List Reply)
told_turns turns = filter (λ a. not (was_refused a)) (map pair_of turns)

-- turns at this place and behind, and the entry that was left
abbrev pub Later : ℕ → List Turn → Option ℕ → Type 0
Later k [] None = Unit {0}
Later k [] (Some l) = k ≤ l
Later k (t ∷ turns) left = (k ≤ t.met) × Later t.behind turns left

-- its last write is done, and not answered
pub record IsOver (x : Ends) (k : ℕ) (session : Session) (turns : List Turn) : Type 0 where
  pub none : turns ≡ []
  pub place : ℕ
  pub left : x.left ≡ Some place
  pub below : place + 1 ≤ k
  pub wrote : session.wrote ≡ write_left x.left x.rest

-- the turns that it has still to do, where the log has k entries
pub record Waits (log : Log) (base i : ℕ) (x : Ends) (k : ℕ) (session : Session) (turns : List Turn) : Type 0 where
  pub each : All (IsTurn log base i) turns
  pub good : All (λ t. IsCommand t.command) turns
  pub leads : LeadsTo session.state turns x.state
  pub kept : session.answers ++ told_turns turns ≡ x.answers
  pub own : (j : ℕ) → k ≤ j → IsOwn log i 0 j → has (all_places turns x.left) j ≡ true
  pub left : IfSome x.left (NextLeft log i x.state x.rest)
  pub rest_good : All IsCommand x.rest
  pub stage : ((session.wrote ≡ None) × Later k turns x.left) ⊎ IsOver x k session turns

-- some calls of the session lead to these turns
pub record Comes (log : Log) (base i : ℕ) (x : Ends) (w : World) (done : List Entry) (turns : List Turn) : Type 0 where
  pub calls : List Call
  pub good : All IsGoodCall calls
  pub session : Session
  pub changes : Changes log w (all_called w calls) done i session
  pub waits : Waits log base i x (length done) session turns

-- one turn less
pub waits_tail : (log : Log) (base i : ℕ) (x : Ends) (k : ℕ) (session : Session) (t : Turn) (turns : List Turn) → Waits log base i x k session (t ∷ turns) → (more : ℕ) (behind : Session) → t.after ≡ behind.state
    → behind.answers ++ told_turns turns ≡ x.answers → behind.wrote ≡ None → Later more turns x.left → ((j : ℕ) → more ≤ j → IsOwn log i 0 j → has (all_places turns x.left) j ≡ true) → Waits log base i x more behind turns
waits_tail log base i x k session t turns waits more behind state kept none later own = record {
  each = All-tail (IsTurn log base i) t turns waits.each;
  good = All-tail (λ (u : Turn). IsCommand u.command) t turns waits.good;
  leads = subst (λ (z : State). LeadsTo z turns x.state) state waits.leads.1;
  kept = kept;
  own = own;
  left = waits.left;
  rest_good = waits.rest_good;
  stage = inl (none, later);
}

-- ---- commits and answers

module _ (log : Log) (w : World) (done more : List Entry) (split : log.entries ≡ done ++ more) (b : HasBase log w done) (i : ℕ) (session : Session) (lives : w.sessions i ≡ Some session) where
  abbrev here : ℕ
  here = length done

  -- a write that is allowed at the log's end is allowed in the world
  may_commit : (x : State) (c : Command) (m : Mailbox) → session.state ≡ x → session.wrote ≡ None → is_write c ≡ true → at log here ≡ Some m → refused_at log here x c m ≡ None → MayCommit w i session c m
  may_commit x c m same none write there allowed =
      let many = length_is log w done more split b in
      record {
        lives = lives;
        answered = none;
        write = write;
        published = b.published ∙ sym many;
        mailbox = ap (at w.log) many ∙ at_is log w done more split b here (omega arith) ∙ there;
        allowed =
            ap (λ (q : ℕ). refused_at w.log q session.state c m) many
            ∙ refused_is log w done more split b here session.state c m (omega arith)
            ∙ ap (λ (z : State). refused_at log here z c m) same
            ∙ allowed;
      }

  group_same : (x : State) (c : Command) (m : Mailbox) → session.state ≡ x → group_met w session c m ≡ group_of c x.view m log.guid
  group_same x c m same = group_is log w done more split b c session.state.view m ∙ ap (λ (z : State). group_of c z.view m log.guid) same

  -- a command that is read is answered
  reads : (author : ℕ) (t : Turn) (told : IsTold log author t.met t.behind t.before t.command t.replies t.after) → session.wrote ≡ None → t.before ≡ session.state → t.met ≡ t.behind → t.behind ≡ here → is_write t.command ≡ false
      → Changes log w (all_called w (Refresh i ∷ AnswerCall i t.command ∷ [])) done i
      (record session { seen = loaded_number w.published session.wrote; state = t.after; wrote = None; answers = session.answers ++ (t.command, t.replies) ∷ [] })
  reads author t told none state same place read =
      let loaded : Session = record session { seen = loaded_number w.published session.wrote } in
      let seen : loaded_number w.published session.wrote ≡ t.behind = ap (loaded_number w.published) none ∙ b.published ∙ sym place in
      let le : t.behind ≤ here = omega arith in
      let there : at w.log loaded.seen ≡ Some told.mailbox = ap (at w.log) seen ∙ at_is log w done more split b t.behind le ∙ told.is_there in
      let met : told.mailbox ≡ told.before = same_Some told.mailbox told.before (sym told.is_there ∙ ap (at log) (sym same) ∙ told.was_there) in
      let allowed : is_bad session.state t.command ≡ false = ap (λ (z : State). is_bad z t.command) (sym state) ∙ allowed_good log t.met t.before t.command told.before told.allowed in
      let a : Answer = answer w.log.mail session.state t.command told.mailbox loaded.seen told.mailbox (mark_of w.log loaded.seen) in
      let a_is : a ≡ record { replies = t.replies; next = t.after } =
      ap (λ (n : ℕ). answer w.log.mail session.state t.command told.mailbox n told.mailbox (mark_of w.log n)) seen
      ∙ ap (λ (m : Mailbox). answer w.log.mail session.state t.command m t.behind told.mailbox (mark_of w.log t.behind)) met
      ∙ answer_is log w done more split b author t.met t.behind t.before t.after session.state t.command t.replies told le (sym state) in
      let leads : all_called w (Refresh i ∷ AnswerCall i t.command ∷ []) ≡ with_answer (with_session w i (Some loaded)) i loaded t.command a =
      ap (λ (v : World). all_happen v (events_of (AnswerCall i t.command))) (refresh_loads w i session lives)
      ∙ answer_reads (with_session w i (Some loaded)) i loaded t.command told.mailbox (own_session w i loaded) none read allowed there in
      subst (λ (v : World). Changes log w v done i (record loaded { state = t.after; wrote = None; answers = session.answers ++ (t.command, t.replies) ∷ [] })) (sym leads)
      (answered_changes log w done b i loaded t.command a t.replies t.after a_is)

  -- a write that is done is answered
  pub answers : (author : ℕ) (t : Turn) (told : IsTold log author t.met t.behind t.before t.command t.replies t.after) (place met : ℕ) → session.wrote ≡ Some (record { place = place; met = met; command = t.command })
      → t.before ≡ session.state → place ≡ t.behind → met ≡ t.met → t.met ≤ t.behind → t.behind ≡ here → is_write t.command ≡ true
      → Changes log w (all_called w (Refresh i ∷ AnswerCall i t.command ∷ [])) done i
      (record session { seen = loaded_number w.published session.wrote; state = t.after; wrote = None; answers = session.answers ++ (t.command, t.replies) ∷ [] })
  answers author t told place met wrote state at_place at_met up end write =
      let loaded : Session = record session { seen = loaded_number w.published session.wrote } in
      let seen : loaded_number w.published session.wrote ≡ min w.published place = ap (loaded_number w.published) wrote in
      let published = b.published in
      let le : t.behind ≤ here = omega arith in
      let there : at w.log place ≡ Some told.mailbox = ap (at w.log) at_place ∙ at_is log w done more split b t.behind le ∙ told.is_there in
      let was_there : at w.log met ≡ Some told.before = ap (at w.log) at_met ∙ at_is log w done more split b t.met (omega arith) ∙ told.was_there in
      let allowed : is_bad session.state t.command ≡ false = ap (λ (z : State). is_bad z t.command) (sym state) ∙ allowed_good log t.met t.before t.command told.before told.allowed in
      let a : Answer = answer w.log.mail session.state t.command told.before place told.mailbox (mark_of w.log place) in
      let a_is : a ≡ record { replies = t.replies; next = t.after } =
      ap (λ (n : ℕ). answer w.log.mail session.state t.command told.before n told.mailbox (mark_of w.log n)) at_place
      ∙ answer_is log w done more split b author t.met t.behind t.before t.after session.state t.command t.replies told le (sym state) in
      let leads : all_called w (Refresh i ∷ AnswerCall i t.command ∷ []) ≡ with_answer (with_session w i (Some loaded)) i loaded t.command a =
      ap (λ (v : World). all_happen v (events_of (AnswerCall i t.command))) (refresh_loads w i session lives)
      ∙ answer_writes (with_session w i (Some loaded)) i loaded (record { place = place; met = met; command = t.command }) told.before told.mailbox (own_session w i loaded) wrote write allowed (omega arith) was_there there in
      subst (λ (v : World). Changes log w v done i (record loaded { state = t.after; wrote = None; answers = session.answers ++ (t.command, t.replies) ∷ [] })) (sym leads)
      (answered_changes log w done b i loaded t.command a t.replies t.after a_is)

  -- a write with an empty group is done
  empties : (c : Command) (m : Mailbox) → MayCommit w i session c m → (group_met w session c m).records ≡ []
      → Changes log w (all_called w (Commit i c 0 false Done ∷ [])) done i (with_write session c (length_of w) (length_of w))
  empties c m may none =
      subst (λ (v : World). Changes log w v done i (with_write session c (length_of w) (length_of w))) (sym (commit_empties w i session c m 0 false may none))
      (record {
        base = record { log_is = b.log_is; pending = ap (option_map stopped) b.pending; published = b.published };
        own = own_session w i (with_write session c (length_of w) (length_of w));
        others = λ j differs. other_session w i j (Some (with_write session c (length_of w) (length_of w))) differs;
      })

  -- the log's next entry is written
  module _ (x : State) (c : Command) (m : Mailbox) (q : ℕ) (same : session.state ≡ x) (none : session.wrote ≡ None) (has : HasWritten log i here q x.view c m) (there : at log here ≡ Some m) (allowed : refused_at log here x c m ≡ None)
      (e : Entry) (rest : List Entry) (next : more ≡ e ∷ rest) where
    abbrev received : ℕ
    received = received_in log c m has.message

    may_write : MayCommit w i session c m
    may_write = may_commit x c m same none (is_a_write log i here q x.view c m has) there allowed

    entry_is : e ≡ record { author = i; group = group_of c x.view m log.guid }
    entry_is = next_is done rest e _ (subst (λ (es : List Entry). slice_get es here ≡ Some (record { author = i; group = group_of c x.view m log.guid })) (split ∙ ap (λ es. done ++ es) next) has.entry)

    log_behind : with_written w.log i c received (group_met w session c m) m ≡ cut log (done ++ e ∷ [])
    log_behind =
        ap (λ (l : Log). with_written l i c received (group_met w session c m) m) b.log_is
        ∙ ap (λ (g : Group). with_written (cut log done) i c received g m) (group_same x c m same)
        ∙ with_written_is log done i c (group_of c x.view m log.guid) m has.message
        ∙ ap (λ (one : Entry). cut log (done ++ one ∷ [])) (sym entry_is)

    pub commits : Changes log w (all_called w (Commit i c received false Done ∷ [])) (done ++ e ∷ []) i (with_write session c (length_of w + 1) (length_of w))
    commits =
        let some : 1 ≤ length (group_met w session c m).records = subst (λ (g : Group). 1 ≤ length g.records) (sym (group_same x c m same)) has.some in
        let new : Session = with_write session c (length_of w + 1) (length_of w) in
        let many = length_is log w done more split b in
        let pushed = length_push done e in
        subst (λ (v : World). Changes log w v (done ++ e ∷ []) i new) (sym (commit_writes w i session c m received false may_write some))
        (record {
          base = record { log_is = log_behind; pending = refl; published = omega arith };
          own = own_session w i new;
          others = λ j differs. other_session w i j (Some new) differs;
        })

-- ---- the turns at one place

-- the first turn is behind this place, if there is one
abbrev pub IsPast : ℕ → List Turn → Type 0
IsPast k [] = Unit {0}
IsPast k (t ∷ turns) = k < t.behind

module _ (log : Log) (base i : ℕ) (number : IsU32 i) (x : Ends) (done more : List Entry) (split : log.entries ≡ done ++ more) where
  abbrev now : ℕ
  now = length done

  -- a place where the turn wrote nothing is none of its own
  own_later : (t : Turn) (turns : List Turn) (left : Option ℕ) (j : ℕ) → nat_eq t.behind (t.met + 1) ≡ false → has (all_places (t ∷ turns) left) j ≡ true → has (all_places turns left) j ≡ true
  own_later t turns left j nothing is = by_test (nat_eq t.behind (t.met + 1)) nothing is
    where
      by_test : (b : Bool) → b ≡ false → has (cond b (t.met ∷ places_of turns) (places_of turns) ++ option_to_list left) j ≡ true → has (all_places turns left) j ≡ true
      by_test true nothing is = absurd cc
      by_test false nothing is = is

  module _ (w : World) (b : HasBase log w done) (session : Session) (lives : w.sessions i ≡ Some session) (t : Turn) (turns : List Turn) (waits : Waits log base i x now session (t ∷ turns)) (none : session.wrote ≡ None)
      (later : Later now (t ∷ turns) x.left) (place : t.behind ≡ now) (up : t.met ≤ t.behind) where
    same_place : t.met ≡ t.behind
    same_place = let low = later.0 in omega arith

    nothing : nat_eq t.behind (t.met + 1) ≡ false
    nothing = let same = same_place in grind (arith, nat_tests)

    rest_later : Later now turns x.left
    rest_later = subst (λ n. Later n turns x.left) place later.1

    own_rest : (j : ℕ) → now ≤ j → IsOwn log i 0 j → has (all_places turns x.left) j ≡ true
    own_rest j le own = own_later t turns x.left j nothing (waits.own j le own)

    refused : (line : Reply) → IsSilent line → t.replies ≡ line ∷ [] → t.after ≡ t.before → Comes log base i x w done turns
    refused line silent one same =
        let bad : was_refused (pair_of t) ≡ true = ap (λ (replies : List Reply). was_refused (t.command, replies)) one ∙ rw silent.2 refl in
        let nothing_told : told_turns (t ∷ turns) ≡ told_turns turns = rw bad refl in
        record {
          calls = [];
          good = All-nil IsGoodCall;
          session = session;
          changes = record { base = b; own = lives; others = λ j differs. refl };
          waits = waits_tail log base i x now session t turns waits now session (same ∙ waits.leads.0) (ap (λ (list : List (Command × List Reply)). session.answers ++ list) (sym nothing_told) ∙ waits.kept) none rest_later own_rest;
        }

    kept_on : IsTold log i t.met t.behind t.before t.command t.replies t.after → (session.answers ++ (t.command, t.replies) ∷ []) ++ told_turns turns ≡ x.answers
    kept_on told =
        let good : was_refused (pair_of t) ≡ false = told_unrefused log i t.met t.behind t.before t.command t.replies t.after told in
        let more_told : told_turns (t ∷ turns) ≡ pair_of t ∷ told_turns turns = rw good refl in
        append_assoc session.answers (pair_of t ∷ []) (told_turns turns) ∙ ap (λ (list : List (Command × List Reply)). session.answers ++ list) (sym more_told) ∙ waits.kept

    told_read : IsTold log i t.met t.behind t.before t.command t.replies t.after → is_write t.command ≡ false → Comes log base i x w done turns
    told_read told read =
        let behind : Session = record session { seen = loaded_number w.published session.wrote; state = t.after; wrote = None; answers = session.answers ++ (t.command, t.replies) ∷ [] } in
        record {
          calls = Refresh i ∷ AnswerCall i t.command ∷ [];
          good = All-cons IsGoodCall (Refresh i) (AnswerCall i t.command ∷ []) tt (All-cons IsGoodCall (AnswerCall i t.command) [] tt (All-nil IsGoodCall));
          session = behind;
          changes = reads log w done more split b i session lives i t told none waits.leads.0 same_place place read;
          waits = waits_tail log base i x now session t turns waits now behind refl (kept_on told) refl rest_later own_rest;
        }

    told_empty : (told : IsTold log i t.met t.behind t.before t.command t.replies t.after) → (group_of t.command t.before.view told.before log.guid).records ≡ [] → is_write t.command ≡ true → Comes log base i x w done turns
    told_empty told none_written write =
        let c : Command = t.command in
        let at_end : t.met ≡ now = same_place ∙ place in
        let may : MayCommit w i session c told.before =
        may_commit log w done more split b i session lives t.before c told.before (sym waits.leads.0) none write (ap (at log) (sym at_end) ∙ told.was_there)
        (ap (λ (k : ℕ). refused_at log k t.before c told.before) (sym at_end) ∙ told.allowed) in
        let empty : (group_met w session c told.before).records ≡ [] = ap (λ (g : Group). g.records) (group_same log w done more split b i session lives t.before c told.before (sym waits.leads.0)) ∙ none_written in
        let first = empties log w done more split b i session lives c told.before may empty in
        let many : length_of w ≡ now = length_is log w done more split b in
        let wrote : Session = with_write session c (length_of w) (length_of w) in
        let v : World = all_called w (Commit i c 0 false Done ∷ []) in
        let behind : Session = record wrote { seen = loaded_number v.published wrote.wrote; state = t.after; wrote = None; answers = session.answers ++ (c, t.replies) ∷ [] } in
        record {
          calls = Commit i c 0 false Done ∷ Refresh i ∷ AnswerCall i c ∷ [];
          good = All-cons IsGoodCall (Commit i c 0 false Done) (Refresh i ∷ AnswerCall i c ∷ []) (number, All-head (λ (u : Turn). IsCommand u.command) t turns waits.good)
              (All-cons IsGoodCall (Refresh i) (AnswerCall i c ∷ []) tt (All-cons IsGoodCall (AnswerCall i c) [] tt (All-nil IsGoodCall)));
          session = behind;
          changes = changes_then log w v (all_called v (Refresh i ∷ AnswerCall i c ∷ [])) done done i wrote behind first
              (answers log v done more split first.base i wrote first.own i t told (length_of w) (length_of w) refl waits.leads.0 (many ∙ sym place) (many ∙ sym at_end) up place write);
          waits = waits_tail log base i x now session t turns waits now behind refl (kept_on told) refl rest_later own_rest;
        }

    pub one_turn : Comes log base i x w done turns
    one_turn = by_answer (All-head (IsTurn log base i) t turns waits.each).answered
      where
        of_some : (o : Option Reply) (line : Reply) → o ≡ Some line → IfSome o IsSilent → IsSilent line
        of_some o line e silent = subst (λ p. IfSome p IsSilent) e silent

        by_write : (told : IsTold log i t.met t.behind t.before t.command t.replies t.after) → (group_of t.command t.before.view told.before log.guid).records ≡ [] → (b : Bool) → is_write t.command ≡ b → Comes log base i x w done turns
        by_write told none true write = told_empty told none write
        by_write told none false read = told_read told read

        by_answer : Answered log base i t.met t.behind t.before t.command t.replies t.after → Comes log base i x w done turns
        by_answer (inl r) = refused r.line (of_some _ r.line r.refusal (refusal_silent t.before t.command r.before log.rotates (mark_of log t.met) log.guid)) r.one_line r.stays
        by_answer (inr (inl u)) = refused (reply.Unavailable u.faults) (refl, λ rows. refl, refl) u.one_line u.stays
        by_answer (inr (inr told)) =
            elim told.wrote [
              | inl has ↦ let e = has.behind in let f = same_place in absurd (omega arith)
              | inr none ↦ by_write told none.1 (is_write t.command) refl
            ]
