-- Events that leave the log as it is.
use Rattle.std.proofs.Common.{◌≡◌, inl, inr, ℕ, ◌≤◌, Bool, true, false, cond, [], length, nat_eq, Option, Some, None, refl, sym, ◌∙◌, ap, subst, arith}
use Rattle.std.specs.Prelude.{IfSome}
use Rattle.std.proofs.lemmas.Bool.Decides.{nat_tests}
use Rattle.std.proofs.lemmas.Option.{slice_get_within, same_Some, none-some}
use Rattle.std.proofs.lemmas.List.Elements.{All-nil}
use Rattle.dv_model.specs.Journals.{Log}
use Rattle.dv_model.specs.Sessions.{State, new_session}
use Rattle.dv_model.specs.Transcripts.{IsOwn}
use Rattle.dv_interleavings.specs.Worlds.{World, Session, Pending, Wrote, with_session, opened, loaded, loaded_number, length_of, happens, Open, Heal, Publish, Load}
use Rattle.dv_promises.specs.Standing.{IsLive, IsTried, IsToldTurn, IsWriting, Stands, HasAuthor}

-- no own entry lies behind the log's end
pub none_past : (log : Log) (s k : ℕ) → IsOwn log s (length log.entries) k → ⊥
none_past log s k own = let below = slice_get_within log.entries k own.entry own.is in let later = own.later in omega arith

-- ---- nothing is pending

-- what is published rises, and what is pending changes
pub live_by : (log : Log) (less more : ℕ) (pending other : Option Pending) (s : ℕ) (session : Session) → less ≤ more → (live : IsLive log less pending s session)
    → IfSome other (λ p. p.author ≡ s → IsTried log live.story.start live.story.turns session.state session.wrote p) → IsLive log more other s session
live_by log less more pending other s session le live tried = record {
  told = live.told;
  seen = omega (arith, live.seen);
  story = live.story;
  ledger = live.ledger;
  wrote = live.wrote;
  loaded = live.loaded;
  pending = tried;
}

pub healed : (w : World) → Stands w → Stands (happens w Heal)
healed w stands = record {
  sound = stands.sound;
  published = stands.published;
  each = λ s session is. live_by w.log w.published w.published w.pending None s session (omega arith) (stands.each s session is) tt;
  absent = stands.absent;
  author = tt;
}

-- ---- all is published

pub published : (w : World) → Stands w → Stands (happens w Publish)
published w stands = record {
  sound = stands.sound;
  published = omega arith;
  each = λ s session is. live_by w.log w.published (length_of w) w.pending w.pending s session stands.published (stands.each s session is) (stands.each s session is).pending;
  absent = λ s k none own. none_past w.log s k own;
  author = stands.author;
}

-- ---- one session is changed

module _ (w : World) (s : ℕ) (session : Session) where
  pub each_with : (pending : Option Pending) (log : Log)
      → IsLive log w.published pending s session
      → ((t : ℕ) (other : Session) → (s ≡ t → ⊥) → w.sessions t ≡ Some other → IsLive log w.published pending t other)
      → (t : ℕ) (other : Session) → (with_session w s (Some session)).sessions t ≡ Some other → IsLive log w.published pending t other
  each_with pending log here others t other is = by_test (nat_eq s t) refl is
    where
      by_test : (b : Bool) → nat_eq s t ≡ b → cond b (Some session) (w.sessions t) ≡ Some other → IsLive log w.published pending t other
      by_test true same is =
          let e : s ≡ t = grind (arith, nat_tests) in subst (λ n. IsLive log w.published pending n other) e (subst (λ x. IsLive log w.published pending s x) (same_Some session other is) here)
      by_test false differs is = others t other (λ e. let found : nat_eq s t ≡ true = grind (arith, nat_tests) in absurd cc) is

  pub absent_with : (t : ℕ) → (with_session w s (Some session)).sessions t ≡ None → w.sessions t ≡ None
  absent_with t none = by_test (nat_eq s t) none
    where
      by_test : (b : Bool) → cond b (Some session) (w.sessions t) ≡ None → w.sessions t ≡ None
      by_test true none = absurd (none-some session (sym none))
      by_test false none = none

  pub author_with : (p : Pending) → HasAuthor w p → HasAuthor (with_session w s (Some session)) p
  author_with p (one, is) = by_test (nat_eq s p.author)
    where
      by_test : (b : Bool) → (other : Session) × (cond b (Some session) (w.sessions p.author) ≡ Some other)
      by_test true = (session, refl)
      by_test false = (one, is)

pub if_some : {X : Type 0} (P Q : X → Type 0) (o : Option X) → ((x : X) → P x → Q x) → IfSome o P → IfSome o Q
if_some P Q None weaker is = tt
if_some P Q (Some x) weaker is = weaker x is

-- ---- a session begins

new_live : (w : World) (s : ℕ) → Stands w → w.sessions s ≡ None → (pending : Option Pending) → IfSome pending (HasAuthor w)
    → IsLive w.log w.published pending s (record { state = record new_session { told = w.published }; seen = w.published; wrote = None; answers = [] })
new_live w s stands none pending author = record {
  told = omega arith;
  seen = omega arith;
  story = record {
    start = w.published;
    there = stands.published;
    turns = [];
    each = All-nil (IsToldTurn w.log s);
    leads = refl;
    answers = refl;
  };
  ledger = λ k own. absurd (stands.absent s k none own);
  wrote = tt;
  loaded = tt;
  pending = no_one pending author;
}
  where
    no_one : (pending : Option Pending) → IfSome pending (HasAuthor w)
        → IfSome pending (λ p. p.author ≡ s → IsTried w.log w.published [] (record new_session { told = w.published }) None p)
    no_one None author = tt
    no_one (Some p) author = λ same. absurd (none-some author.0 (sym none ∙ ap w.sessions (sym same) ∙ author.1))

pub opens : (w : World) (s : ℕ) → Stands w → Stands (happens w (Open s))
opens w s stands = by_session (w.sessions s) refl
  where
    by_session : (o : Option Session) → w.sessions s ≡ o → Stands (opened w s)
    by_session (Some session) is = rw is stands
    by_session None is = rw is (record {
      sound = stands.sound;
      published = stands.published;
      each = each_with w s _ w.pending w.log (new_live w s stands is w.pending stands.author) (λ t other differs there. stands.each t other there);
      absent = λ t k none own. stands.absent t k (absent_with w s _ t none) own;
      author = if_some (HasAuthor w) _ w.pending (author_with w s _) stands.author;
    })

-- ---- a session loads

-- a write's place is no less than what its session was told
pub wrote_after : (log : Log) (s : ℕ) (x : State) (write : Wrote) → IsWriting log s x write → x.told ≤ write.place
wrote_after log s x write is = let low = is.told in elim is.wrote [ inl has ↦ let e = has.behind in omega arith | inr none ↦ let e = none.0 in omega arith ]

pub loads : (w : World) (s : ℕ) → Stands w → Stands (happens w (Load s))
loads w s stands = by_session (w.sessions s) refl
  where
    live_loaded : (session : Session) → IsLive w.log w.published w.pending s session → IsLive w.log w.published w.pending s (record session { seen = loaded_number w.published session.wrote })
    live_loaded session live = record {
      told = up session.wrote live.wrote;
      seen = most session.wrote;
      story = live.story;
      ledger = live.ledger;
      wrote = live.wrote;
      loaded = own session.wrote;
      pending = live.pending;
    }
      where
        up : (wrote : Option Wrote) → IfSome wrote (IsWriting w.log s session.state) → session.state.told ≤ loaded_number w.published wrote
        up None is = omega (arith, live.told, live.seen)
        up (Some write) is = let low = wrote_after w.log s session.state write is in omega (arith, live.told, live.seen)

        own : (wrote : Option Wrote) → IfSome wrote (λ (write : Wrote). loaded_number w.published wrote ≤ write.place)
        own None = tt
        own (Some write) = omega arith

        most : (wrote : Option Wrote) → loaded_number w.published wrote ≤ w.published
        most None = omega arith
        most (Some write) = omega arith

    by_session : (o : Option Session) → w.sessions s ≡ o → Stands (loaded w s)
    by_session None is = rw is stands
    by_session (Some session) is = rw is (record {
      sound = stands.sound;
      published = stands.published;
      each = each_with w s _ w.pending w.log (live_loaded session (stands.each s session is)) (λ t other differs there. stands.each t other there);
      absent = λ t k none own. stands.absent t k (absent_with w s _ t none) own;
      author = if_some (HasAuthor w) _ w.pending (author_with w s _) stands.author;
    })
