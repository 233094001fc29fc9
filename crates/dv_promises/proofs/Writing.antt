-- A command is written: its group is pending, or it has none.
use Rattle.std.proofs.Common.{◌≡◌, ◌⊎◌, inl, inr, ℕ, suc, ◌≤◌, Bool, true, false, not, ◌&&◌, List, [], ◌∷◌, length, nat_eq, Option, Some, None, refl, sym, ◌∙◌, ap, subst, arith}
use Rattle.std.specs.Prelude.{IfSome, is_some, option_map}
use Rattle.std.proofs.lemmas.Bool.{and_parts, eqb-true}
use Rattle.std.proofs.lemmas.Bool.Decides.{nat_tests}
use Rattle.std.proofs.lemmas.List.{append-nil}
use Rattle.std.proofs.lemmas.Option.{none-some, same_Some}
use Rattle.dv_model.specs.declared.types.Command.{Command}
use Rattle.dv_model.specs.declared.types.Mailbox.{Mailbox}
use Rattle.dv_model.specs.declared.types.Record.{Record}
use Rattle.dv_model.specs.declared.types.Reply.{Reply}
use Rattle.dv_model.specs.Journals.{Log, IsU32, at}
use Rattle.dv_model.specs.Sessions.{State, IsCommand, group_of, is_write}
use Rattle.dv_model.specs.Transcripts.{LeadsTo, Turn, WroteEntry, refused_at}
use Rattle.dv_interleavings.specs.Worlds.{World, Session, Pending, Wrote, Write, with_session, without_running, stopped, may_write, written, length_of, happens}
use Rattle.dv_promises.specs.Standing.{begins_at, HasAuthor, IsLive, IsTried, IsWaiting, Stands}
use Rattle.dv_promises.proofs.Small.{absent_with, author_with, each_with, if_some, live_by, none_past}

-- ---- the pending entry stops

pub tried_stopped : (log : Log) (start : ℕ) (turns : List Turn) (last : State) (wrote : Option Wrote) (p : Pending) → IsTried log start turns last wrote p → IsTried log start turns last wrote (stopped p)
tried_stopped log start turns last wrote p tried = record {
  front = tried.front;
  back = tried.back;
  split = tried.split;
  state = tried.state;
  leads = tried.leads;
  rest = tried.rest;
  attempt = tried.attempt;
  empty = tried.empty;
  running = λ is. absurd cc;
}

all_stopped : (log : Log) (s start : ℕ) (turns : List Turn) (last : State) (wrote : Option Wrote) (pending : Option Pending)
    → IfSome pending (λ p. p.author ≡ s → IsTried log start turns last wrote p) → IfSome (option_map stopped pending) (λ p. p.author ≡ s → IsTried log start turns last wrote p)
all_stopped log s start turns last wrote None tried = tt
all_stopped log s start turns last wrote (Some p) tried = λ same. tried_stopped log start turns last wrote p (tried same)

author_stopped : (w : World) (pending : Option Pending) → IfSome pending (HasAuthor w) → IfSome (option_map stopped pending) (HasAuthor w)
author_stopped w None author = tt
author_stopped w (Some p) author = author

-- ---- a group without records

pub none_of : (rs : List Record) → nat_eq (length rs) 0 ≡ true → rs ≡ []
none_of [] is = refl
none_of (r ∷ rs) is = let none : suc (length rs) ≡ 0 = grind (arith, nat_tests) in absurd (omega arith)

some_of : (rs : List Record) → nat_eq (length rs) 0 ≡ false → 1 ≤ length rs
some_of [] is = absurd cc
some_of (r ∷ rs) is = omega arith

-- nothing waits for an answer
pub not_waiting : (turns : List Turn) (wrote : Option Wrote) (k : ℕ) → wrote ≡ None → WroteEntry turns k ⊎ IsWaiting wrote k → WroteEntry turns k
not_waiting turns wrote k none (inl is) = is
not_waiting turns None k none (inr waits) = absurd waits
not_waiting turns (Some write) k none (inr waits) = absurd (none-some write (sym none))

module _ (w : World) (s : ℕ) (session : Session) (c : Command) (m : Mailbox) (stands : Stands w) (is : w.sessions s ≡ Some session) (author : IsU32 s) (good : IsCommand c)
    (write : is_write c ≡ true) (all : w.published ≡ length_of w) (none : session.wrote ≡ None) (is_there : at w.log (length_of w) ≡ Some m)
    (allowed : refused_at w.log (length_of w) session.state c m ≡ None) where
  told_all : session.state.told ≤ length_of w
  told_all = let live = stands.each s session is in let low = live.told in let high = live.seen in omega arith

  -- ---- an empty group is done at once

  done_live : (group_of c session.state.view m w.log.guid).records ≡ [] → IsLive w.log w.published (option_map stopped w.pending) s (record session { wrote = Some (record { place = length_of w; met = length_of w; command = c }) })
  done_live empty =
      let live = stands.each s session is in
      record {
        told = live.told;
        seen = live.seen;
        story = live.story;
        ledger = λ k own. inl (not_waiting live.story.turns session.wrote k none (live.ledger k own));
        wrote = record {
          before = m;
          was_there = is_there;
          allowed = allowed;
          wrote = inr (refl, empty);
          told = told_all;
          there = omega arith;
          last = λ j own. absurd (none_past w.log s j own);
        };
        loaded = omega (arith, live.seen, stands.published);
        pending = tried live.story.start live.story.turns w.pending live.pending;
      }
    where
      one : (start : ℕ) (turns : List Turn) (p : Pending) → IsTried w.log start turns session.state session.wrote p
          → IsTried w.log start turns session.state (Some (record { place = length_of w; met = length_of w; command = c })) (stopped p)
      one start turns p t = record {
        front = t.front;
        back = t.back;
        split = t.split;
        state = t.state;
        leads = t.leads;
        rest = t.rest;
        attempt = t.attempt;
        empty = refl;
        running = λ is. absurd cc;
      }

      tried : (start : ℕ) (turns : List Turn) (pending : Option Pending) → IfSome pending (λ p. p.author ≡ s → IsTried w.log start turns session.state session.wrote p)
          → IfSome (option_map stopped pending) (λ p. p.author ≡ s → IsTried w.log start turns session.state (Some (record { place = length_of w; met = length_of w; command = c })) p)
      tried start turns None t = tt
      tried start turns (Some p) t = λ same. one start turns p (t same)

  done : (group_of c session.state.view m w.log.guid).records ≡ []
      → Stands (with_session (without_running w) s (Some (record session { wrote = Some (record { place = length_of w; met = length_of w; command = c }) })))
  done empty = record {
    sound = stands.sound;
    published = stands.published;
    each = each_with w s _ (option_map stopped w.pending) w.log (done_live empty)
        (λ t other differs there. let live = stands.each t other there in
        live_by w.log w.published w.published w.pending (option_map stopped w.pending) t other (omega arith) live (all_stopped w.log t live.story.start live.story.turns other.state other.wrote w.pending live.pending));
    absent = λ t k gone own. stands.absent t k (absent_with w s _ t gone) own;
    author = if_some (HasAuthor w) _ (option_map stopped w.pending) (author_with w s _) (author_stopped w w.pending stands.author);
  }

  -- ---- another is pending

  tries : (received : ℕ) → nat_eq (length (group_of c session.state.view m w.log.guid).records) 0 ≡ false
      → Stands (record w { pending = Some (record { author = s; command = c; group = group_of c session.state.view m w.log.guid; received = received; running = true }) })
  tries received some = record {
    sound = stands.sound;
    published = stands.published;
    each = λ t other there. let live = stands.each t other there in
        live_by w.log w.published w.published w.pending (Some _) t other (omega arith) live
        (λ same. by_same other live.story.start live.story.turns live.story.leads (same_Some session other (sym is ∙ ap w.sessions same ∙ there)));
    absent = stands.absent;
    author = (session, is);
  }
    where
      own : (start : ℕ) (turns : List Turn) → LeadsTo (begins_at start) turns session.state
          → IsTried w.log start turns session.state session.wrote (record { author = s; command = c; group = group_of c session.state.view m w.log.guid; received = received; running = true })
      own start turns leads = record {
        front = turns;
        back = [];
        split = sym (append-nil turns);
        state = session.state;
        leads = leads;
        rest = refl;
        attempt = record {
          mailbox = m;
          is_there = is_there;
          allowed = allowed;
          group = refl;
          some = some_of (group_of c session.state.view m w.log.guid).records some;
          number = author;
          good = good;
          write = write;
          told = told_all;
        };
        empty = subst (λ (o : Option Wrote). IfSome o (λ (x : Wrote). x.place ≡ x.met)) (sym none) tt;
        running = λ runs. (refl, none);
      }

      by_same : (other : Session) (start : ℕ) (turns : List Turn) → LeadsTo (begins_at start) turns other.state → session ≡ other
          → IsTried w.log start turns other.state other.wrote (record { author = s; command = c; group = group_of c session.state.view m w.log.guid; received = received; running = true })
      by_same other start turns leads e =
          subst (λ (x : Session). IsTried w.log start turns x.state x.wrote (record { author = s; command = c; group = group_of c session.state.view m w.log.guid; received = received; running = true })) e
          (own start turns (subst (λ (x : Session). LeadsTo (begins_at start) turns x.state) (sym e) leads))

-- ---- the event

not_some : {X : Type 0} (o : Option X) → not (is_some o) ≡ true → o ≡ None
not_some None e = refl
not_some (Some x) e = absurd cc

-- where the command may be written
pub record MayWrite (w : World) (s : ℕ) (c : Command) (session : Session) (m : Mailbox) : Type 0 where
  pub is : w.sessions s ≡ Some session
  pub write : is_write c ≡ true
  pub all : w.published ≡ length_of w
  pub none : session.wrote ≡ None
  pub there : at w.log (length_of w) ≡ Some m
  pub allowed : refused_at w.log (length_of w) session.state c m ≡ None

-- what holds of the world as it was, with the empty group done and with the group pending, holds of the world behind
pub written_by : (w : World) (s : ℕ) (c : Command) (received : ℕ) (P : World → Type 0) → P w
    → ((session : Session) (m : Mailbox) → MayWrite w s c session m → (group_of c session.state.view m w.log.guid).records ≡ []
    → P (with_session (without_running w) s (Some (record session { wrote = Some (record { place = length_of w; met = length_of w; command = c }) }))))
    → ((session : Session) (m : Mailbox) → MayWrite w s c session m → nat_eq (length (group_of c session.state.view m w.log.guid).records) 0 ≡ false
    → P (record w { pending = Some (record { author = s; command = c; group = group_of c session.state.view m w.log.guid; received = received; running = true }) }))
    → P (written w s c received)
written_by w s c received P stays is_done is_tried = by_session (w.sessions s) refl
  where
    by_group : (session : Session) (m : Mailbox) → w.sessions s ≡ Some session → may_write w session c ≡ true → at w.log (length_of w) ≡ Some m
        → refused_at w.log (length_of w) session.state c m ≡ None → (b : Bool) → nat_eq (length (group_of c session.state.view m w.log.guid).records) 0 ≡ b → P (written w s c received)
    by_group session m is may there allowed b group =
        let first = and_parts (is_write c && nat_eq w.published (length_of w)) (not (is_some session.wrote)) may in
        let second = and_parts (is_write c) (nat_eq w.published (length_of w)) first.0 in
        let all : w.published ≡ length_of w = eqb-true w.published (length_of w) second.1 in
        let none : session.wrote ≡ None = not_some session.wrote first.1 in
        by_test b group all none second.0
      where
        by_test : (b : Bool) → nat_eq (length (group_of c session.state.view m w.log.guid).records) 0 ≡ b → w.published ≡ length_of w → session.wrote ≡ None → is_write c ≡ true → P (written w s c received)
        by_test true empty all none write =
            rw (is, may, there, allowed, empty) (is_done session m (record { is = is; write = write; all = all; none = none; there = there; allowed = allowed }) (none_of (group_of c session.state.view m w.log.guid).records empty))
        by_test false some all none write =
            rw (is, may, there, allowed, some) (is_tried session m (record { is = is; write = write; all = all; none = none; there = there; allowed = allowed }) some)

    by_refusal : (session : Session) (m : Mailbox) → w.sessions s ≡ Some session → may_write w session c ≡ true → at w.log (length_of w) ≡ Some m
        → (o : Option Reply) → refused_at w.log (length_of w) session.state c m ≡ o → P (written w s c received)
    by_refusal session m is may there (Some refusal) refused = rw (is, may, there, refused) stays
    by_refusal session m is may there None allowed = by_group session m is may there allowed (nat_eq (length (group_of c session.state.view m w.log.guid).records) 0) refl

    by_mailbox : (session : Session) → w.sessions s ≡ Some session → may_write w session c ≡ true → (o : Option Mailbox) → at w.log (length_of w) ≡ o → P (written w s c received)
    by_mailbox session is may None there = rw (is, may, there) stays
    by_mailbox session is may (Some m) there = by_refusal session m is may there (refused_at w.log (length_of w) session.state c m) refl

    by_may : (session : Session) → w.sessions s ≡ Some session → (b : Bool) → may_write w session c ≡ b → P (written w s c received)
    by_may session is true may = by_mailbox session is may (at w.log (length_of w)) refl
    by_may session is false may = rw (is, may) stays

    by_session : (o : Option Session) → w.sessions s ≡ o → P (written w s c received)
    by_session None is = rw is stays
    by_session (Some session) is = by_may session is (may_write w session c) refl

pub writes : (w : World) (s : ℕ) (c : Command) (received : ℕ) → Stands w → IsU32 s → IsCommand c → Stands (happens w (Write s c received))
writes w s c received stands author good =
    written_by w s c received Stands stands (λ session m may empty. done w s session c m stands may.is author good may.write may.all may.none may.there may.allowed empty)
    (λ session m may some. tries w s session c m stands may.is author good may.write may.all may.none may.there may.allowed received some)
