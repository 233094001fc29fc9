-- What a crash leaves.
use Rattle.std.proofs.Common.{◌≡◌, ◌⊎◌, inl, inr, ℕ, zero, suc, ◌+◌, ◌≤◌, Bool, true, false, cond, not, List, [], ◌∷◌, ◌++◌, length, get_or, nat_eq, Option, Some, None, refl, sym, ◌∙◌, ap, subst, arith, length-append}
use Rattle.std.specs.Prelude.{All, Any, IfSome, filter, map, slice_get}
use Rattle.std.specs.List.{list_any}
use Rattle.std.proofs.lemmas.Bool.{or_left}
use Rattle.std.proofs.lemmas.Bool.Decides.{nat_tests}
use Rattle.std.proofs.lemmas.List.{length_push, map-append}
use Rattle.std.proofs.lemmas.List.Elements.{All-append, All-cons, All-head, All-nil, All-tail, filter-append}
use Rattle.std.proofs.lemmas.Option.{same_Some, slice_get_within}
use Rattle.dv_model.specs.declared.types.Command.{Command}
use Rattle.dv_model.specs.declared.types.Entry.{Entry}
use Rattle.dv_model.specs.declared.types.Group.{Group}
use Rattle.dv_model.specs.declared.types.Reply.{Reply}
use Rattle.dv_model.specs.declared.types.Reply.TheVariants as reply
use Rattle.dv_model.specs.Journals.{Log, IsSound}
use Rattle.dv_model.specs.Sessions.{State, is_write, reads_mail}
use Rattle.dv_model.specs.Transcripts.{AreWrittenBut, IsFailed, IsLeft, IsOwn, IsTurn, LeadsTo, Turn, WroteEntry}
use Rattle.dv_model.proofs.Speaking.{one_or_last}
use Rattle.dv_interleavings.specs.Promises.{CrashKeeps, GoesOn, IsSpokenAfterCrash, is_refusal, pending_entries, sent_of, was_refused}
use Rattle.dv_interleavings.specs.Worlds.{World, Session, Pending, Crash, happens, length_of, only_log, with_entry}
use Rattle.dv_promises.specs.Standing.{begins_at, HasAuthor, IsLive, IsToldTurn, IsTried, Stands}
use Rattle.dv_promises.proofs.Ending.{crash_all, crash_none, crash_some, tried_of}
use Rattle.dv_validity.proofs.Going.{same_refusal}
use Rattle.dv_validity.proofs.Logs.{Extends, written_entry, written_group, written_message}
use Rattle.dv_promises.proofs.Going.{live_on, turns_on}
use Rattle.dv_promises.proofs.Logs.{last_extends, last_goes_on, same_log, with_entry_is, with_last}
use Rattle.dv_promises.proofs.Refusals.{told_unrefused}
use Rattle.dv_promises.proofs.Syncing.{own_back, sound_more, value_of}
use Rattle.dv_promises.proofs.Transcripts.{all_written, entries_live, pair_of, speaks_live, speaks_of, turns_answered}

-- ---- refused answers are passed over

all_kept : (log : Log) (s : ℕ) (turns : List Turn) → All (IsToldTurn log s) turns → filter (λ a. not (was_refused a)) (map pair_of turns) ≡ map pair_of turns
all_kept log s [] each = refl
all_kept log s (t ∷ turns) each =
    let first : IsToldTurn log s t = All-head (IsToldTurn log s) t turns each in
    let none : list_any is_refusal t.replies ≡ false = told_unrefused log s t.met t.behind t.before t.command t.replies t.after first.told in
    ap (λ (b : Bool). cond (not b) (pair_of t ∷ filter (λ a. not (was_refused a)) (map pair_of turns)) (filter (λ a. not (was_refused a)) (map pair_of turns))) none
    ∙ ap (λ (answers : List (Command × List Reply)). pair_of t ∷ answers) (all_kept log s turns (All-tail (IsToldTurn log s) t turns each))

-- ---- a session whose entries are all durable

pub spoken_after : (log : Log) (published : ℕ) (pending : Option Pending) (s : ℕ) (session : Session) → IsSound log → IsLive log published pending s session → IsSpokenAfterCrash log s session
spoken_after log published pending s session sound live = record {
  answers = session.answers;
  unanswered = sent_of session.wrote;
  kept = subst (λ answers. filter (λ a. not (was_refused a)) answers ≡ answers) live.story.answers (all_kept log s live.story.turns live.story.each);
  spoken = record {
    sound = sound;
    speaks = speaks_live log published pending s session live;
    entries = elim (entries_live log published pending s session live) [ inl written ↦ inl written | inr left ↦ inr (left.0, inl left.1, left.2) ];
  };
}

-- ---- the author of the pending entry

leads_through : (x : State) (front : List Turn) (y : State) (back : List Turn) (z : State) → LeadsTo x front y → LeadsTo y back z → LeadsTo x (front ++ back) z
leads_through x [] y back z one other = subst (λ u. LeadsTo u back z) one other
leads_through x (t ∷ front) y back z one other = (one.0, leads_through t.after front y back z one.1 other)

get_middle : {X : Type 0} (front : List X) (x d : X) (back : List X) → get_or (front ++ x ∷ back) (length front) d ≡ x
get_middle [] x d back = refl
get_middle (y ∷ front) x d back = get_middle front x d back

any_middle : {X : Type 0} (P : X → Type 0) (front : List X) (x : X) (back : List X) → P x → Any P (front ++ x ∷ back)
any_middle P front x back is = (length front, x, omega (arith, length-append front (x ∷ back)), get_middle front x x back, is)

any_first : {X : Type 0} (P : X → Type 0) (x : X) (xs : List X) → P x → Any P (x ∷ xs)
any_first P x xs is = (0, x, omega arith, refl, is)

any_later : {X : Type 0} (P : X → Type 0) (x : X) (xs : List X) → Any P xs → Any P (x ∷ xs)
any_later P x xs a = (suc a.0, a.1, omega (arith, a.2), a.3, a.4)

any_parts : {X : Type 0} (P : X → Type 0) (x : X) (xs : List X) → Any P (x ∷ xs) → P x ⊎ Any P xs
any_parts P x xs (zero, y, h, is, p) = inl (subst P (sym is) p)
any_parts P x xs (suc k, y, h, is, p) = inr (k, y, omega (arith, h), is, p)

any_inserted : {X : Type 0} (P : X → Type 0) (front : List X) (x : X) (back : List X) → Any P (front ++ back) → Any P (front ++ x ∷ back)
any_inserted P [] x back a = any_later P x back a
any_inserted P (y ∷ front) x back a =
    elim (any_parts P y (front ++ back) a) [ inl is ↦ any_first P y (front ++ x ∷ back) is | inr rest ↦ any_later P y (front ++ x ∷ back) (any_inserted P front x back rest) ]

pub all_front : {X : Type 0} (P : X → Type 0) (front back : List X) → All P (front ++ back) → All P front
all_front P [] back all = All-nil P
all_front P (x ∷ front) back all = All-cons P x front (All-head P x (front ++ back) all) (all_front P front back (All-tail P x (front ++ back) all))

pub all_back : {X : Type 0} (P : X → Type 0) (front back : List X) → All P (front ++ back) → All P back
all_back P [] back all = all
all_back P (x ∷ front) back all = all_back P front back (All-tail P x (front ++ back) all)

module _ (log : Log) (sound : IsSound log) (p : Pending) (published : ℕ) (pending : Option Pending) (session : Session) (live : IsLive log published pending p.author session)
    (tried : IsTried log live.story.start live.story.turns session.state session.wrote p) where
  abbrev more : Log
  more = with_last log p tried.attempt.mailbox

  abbrev entry : Entry
  entry = record { author = p.author; group = p.group }

  abbrev failed : Turn
  failed = record { before = tried.state; command = p.command; met = length log.entries; behind = length log.entries; replies = reply.Unavailable 1 ∷ []; after = tried.state }

  abbrev turns : List Turn
  turns = tried.front ++ failed ∷ tried.back

  many : length (log.entries ++ entry ∷ []) ≡ length log.entries + 1
  many = omega (arith, length_push log.entries entry)

  on : Extends log more
  on = last_extends log p tried.attempt.mailbox sound tried.attempt.is_there

  split_each : All (IsToldTurn log p.author) (tried.front ++ tried.back)
  split_each = subst (All (IsToldTurn log p.author)) tried.split live.story.each

  failed_turn : IsTurn more 0 p.author failed
  failed_turn = record {
    met = (tried.attempt.told, let all = many in omega arith);
    answered = inr (inl (record {
      before = tried.attempt.mailbox;
      was_there = on.same_at (length log.entries) (omega arith) ∙ tried.attempt.is_there;
      allowed = same_refusal log more on (length log.entries) tried.attempt.mailbox tried.state p.command None (omega arith) tried.attempt.is_there tried.attempt.allowed;
      touches = or_left (is_write p.command) (reads_mail p.command) tried.attempt.write;
      faults = 1;
      above = omega arith;
      one_line = refl;
      nothing_written = refl;
      stays = refl;
    }));
  }

  turns_told : All (IsTurn more 0 p.author) turns
  turns_told =
      let answered : (ts : List Turn) → All (IsToldTurn log p.author) ts → All (IsTurn more 0 p.author) ts = λ ts each. turns_answered more p.author ts (turns_on log more on p.author ts each) in
      All-append (IsTurn more 0 p.author) tried.front (failed ∷ tried.back) (answered tried.front (all_front (IsToldTurn log p.author) tried.front tried.back split_each))
      (All-cons (IsTurn more 0 p.author) failed tried.back failed_turn (answered tried.back (all_back (IsToldTurn log p.author) tried.front tried.back split_each)))

  kept_is : filter (λ a. not (was_refused a)) (map pair_of turns) ≡ session.answers
  kept_is =
      ap (filter (λ a. not (was_refused a))) (map-append pair_of tried.front (failed ∷ tried.back))
      ∙ filter-append (λ a. not (was_refused a)) (map pair_of tried.front) (map pair_of (failed ∷ tried.back))
      ∙ ap (λ answers. answers ++ filter (λ a. not (was_refused a)) (map pair_of tried.back)) (all_kept log p.author tried.front (all_front (IsToldTurn log p.author) tried.front tried.back split_each))
      ∙ ap (λ answers. map pair_of tried.front ++ answers) (all_kept log p.author tried.back (all_back (IsToldTurn log p.author) tried.front tried.back split_each))
      ∙ sym (map-append pair_of tried.front tried.back)
      ∙ ap (map pair_of) (sym tried.split)
      ∙ live.story.answers

  left : IsLeft more p.author (length log.entries) tried.state p.command
  left = record {
    left = record {
      mailbox = tried.attempt.mailbox;
      met = on.same_at (length log.entries) (omega arith) ∙ tried.attempt.is_there;
      told = tried.attempt.told;
      write = tried.attempt.write;
      allowed = same_refusal log more on (length log.entries) tried.attempt.mailbox tried.state p.command None (omega arith) tried.attempt.is_there tried.attempt.allowed;
      written = record {
        behind = refl;
        some = subst (λ (g : Group). 1 ≤ length g.records) (tried.attempt.group ∙ written_group log sound p.author p.command p.received p.group tried.attempt.mailbox tried.attempt.is_there tried.state.view) tried.attempt.some;
        entry = written_entry log sound p.author p.command p.received p.group tried.attempt.mailbox tried.attempt.is_there ∙ ap (λ (g : Group). Some (record { author = p.author; group = g })) (tried.attempt.group ∙ written_group log sound p.author p.command p.received p.group tried.attempt.mailbox tried.attempt.is_there tried.state.view);
        message = written_message log sound p.author p.command p.received p.group tried.attempt.mailbox tried.attempt.is_there;
      };
    };
    last = λ j own.
        let within = slice_get_within (log.entries ++ entry ∷ []) j own.entry own.is in
        let from = own.later in
        let all = many in
        omega arith;
  }

  written_but : AreWrittenBut more p.author live.story.start turns (length log.entries)
  written_but k own = by_place (one_or_last log.entries entry k own.entry own.is)
    where
      by_place : (slice_get log.entries k ≡ Some own.entry) ⊎ (k ≡ length log.entries) → WroteEntry turns k ⊎ (k ≡ length log.entries)
      by_place (inr last) = inr last
      by_place (inl there) =
          let old : IsOwn log p.author live.story.start k = record { later = own.later; entry = own.entry; is = there; by = own.by } in
          let wrote : WroteEntry live.story.turns k = all_written log published pending p.author session live tried.empty k old in
          inl (any_inserted (λ (t : Turn). (t.met ≡ k) × (t.behind ≡ k + 1)) tried.front failed tried.back (subst (λ ts. WroteEntry ts k) tried.split wrote))

  author_after : IsSpokenAfterCrash more p.author session
  author_after = record {
    answers = map pair_of turns;
    unanswered = [];
    kept = kept_is;
    spoken = record {
      sound = sound_more log sound p live.story.start live.story.turns session.state session.wrote tried;
      speaks = speaks_of more p.author live.story.start turns session.state (map pair_of turns) [] (let all = many in let low = live.story.there in omega arith) turns_told
          (leads_through (begins_at live.story.start) tried.front tried.state (failed ∷ tried.back) session.state tried.leads (refl, tried.rest)) refl;
      entries = inr (
        length log.entries,
        inr (any_middle (λ (t : Turn). IsFailed t × (t.met ≡ length log.entries) × IsLeft more p.author (length log.entries) t.before t.command) tried.front failed tried.back ((1, refl), refl, left)),
        written_but,
      );
    };
  }

-- ---- any crash

pub crash_keeps : (w : World) (n : ℕ) → Stands w → CrashKeeps w n
crash_keeps w n stands = by_number (nat_eq n (length_of w)) refl
  where
    after : (s : ℕ) (o : Option Session) → w.sessions s ≡ o → IfSome o (IsSpokenAfterCrash w.log s)
    after s None is = tt
    after s (Some session) is = spoken_after w.log w.published w.pending s session stands.sound (stands.each s session is)

    keeps_by : (log : Log) → (happens w (Crash n)).log ≡ log → (log.entries ≡ w.log.entries) ⊎ (log.entries ≡ w.log.entries ++ pending_entries w.pending) → GoesOn w.log log
        → ((s : ℕ) → IfSome (w.sessions s) (IsSpokenAfterCrash log s)) → CrashKeeps w n
    keeps_by log is entries goes_on each = record {
      entries = subst (λ (l : Log). (l.entries ≡ w.log.entries) ⊎ (l.entries ≡ w.log.entries ++ pending_entries w.pending)) (sym is) entries;
      goes_on = subst (GoesOn w.log) (sym is) goes_on;
      replies = λ s. subst (λ (l : Log). IfSome (w.sessions s) (IsSpokenAfterCrash l s)) (sym is) (each s);
    }

    stays : (happens w (Crash n)).log ≡ w.log → CrashKeeps w n
    stays is = keeps_by w.log is (inl refl) (same_log w.log) (λ s. after s (w.sessions s) refl)

    with_more : (p : Pending) → w.pending ≡ Some p → HasAuthor w p → (happens w (Crash n)).log ≡ with_entry w.log p → CrashKeeps w n
    with_more p is author left =
        let tried = tried_of w stands p is author in
        keeps_by (with_last w.log p tried.attempt.mailbox) (left ∙ with_entry_is w.log p tried.attempt.mailbox tried.attempt.is_there)
        (inr (ap (λ (o : Option Pending). w.log.entries ++ pending_entries o) (sym is)))
        (last_goes_on w.log p tried.attempt.mailbox stands.sound tried.attempt.is_there)
        (λ s. by_session p is author s (w.sessions s) refl (nat_eq p.author s) refl)
      where
        by_session : (p : Pending) (is : w.pending ≡ Some p) (author : HasAuthor w p) (s : ℕ) (o : Option Session) → w.sessions s ≡ o → (b : Bool) → nat_eq p.author s ≡ b
            → IfSome o (IsSpokenAfterCrash (with_last w.log p (tried_of w stands p is author).attempt.mailbox) s)
        by_session p is author s None there b same = tt
        by_session p is author s (Some session) there true same =
            let e : p.author ≡ s = grind (arith, nat_tests) in
            let live = stands.each p.author author.0 author.1 in
            let one : author.0 ≡ session = same_Some author.0 session (sym author.1 ∙ ap w.sessions e ∙ there) in
            subst (λ (t : ℕ). IsSpokenAfterCrash (with_last w.log p (tried_of w stands p is author).attempt.mailbox) t session) e
            (subst (λ (x : Session). IsSpokenAfterCrash (with_last w.log p (tried_of w stands p is author).attempt.mailbox) p.author x) one
            (author_after w.log stands.sound p w.published w.pending author.0 live (tried_of w stands p is author)))
        by_session p is author s (Some session) there false differs =
            let live = stands.each p.author author.0 author.1 in
            let tried = tried_of w stands p is author in
            let other : p.author ≡ s → ⊥ = λ e. let found : nat_eq p.author s ≡ true = grind (arith, nat_tests) in absurd cc in
            spoken_after (with_last w.log p tried.attempt.mailbox) w.published None s session
            (sound_more w.log stands.sound p live.story.start live.story.turns author.0.state author.0.wrote tried)
            (live_on w.log (with_last w.log p tried.attempt.mailbox) (last_extends w.log p tried.attempt.mailbox stands.sound tried.attempt.is_there) s
            (own_back w.log stands.sound p live.story.start live.story.turns author.0.state author.0.wrote tried s other) w.published w.pending session (stands.each s session there))

    by_more : (p : Pending) → w.pending ≡ Some p → nat_eq n (length_of w) ≡ false → (b : Bool) → nat_eq n (length_of w + 1) ≡ b → CrashKeeps w n
    by_more p is less true more =
        with_more p is (value_of (HasAuthor w) w.pending p is stands.author)
        (ap (λ (x : World). x.log) (crash_some w n p less is ∙ ap (λ (b : Bool). cond b (only_log (with_entry w.log p)) w) more))
    by_more p is less false other = stays (ap (λ (x : World). x.log) (crash_some w n p less is ∙ ap (λ (b : Bool). cond b (only_log (with_entry w.log p)) w) other))

    by_pending : nat_eq n (length_of w) ≡ false → (o : Option Pending) → w.pending ≡ o → CrashKeeps w n
    by_pending less None is = stays (ap (λ (x : World). x.log) (crash_none w n less is))
    by_pending less (Some p) is = by_more p is less (nat_eq n (length_of w + 1)) refl

    by_number : (b : Bool) → nat_eq n (length_of w) ≡ b → CrashKeeps w n
    by_number true same = stays (ap (λ (x : World). x.log) (crash_all w n same))
    by_number false less = by_pending less w.pending refl
