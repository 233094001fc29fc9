-- From one world to the next: the log goes on, and sessions see more.
use Rattle.std.proofs.Common.{◌≡◌, ◌⊎◌, inl, inr, ℕ, ◌+◌, ◌≤◌, Bool, true, false, cond, List, [], ◌∷◌, nat_eq, Option, Some, None, refl, sym, ◌∙◌, ap, subst, arith}
use Rattle.std.specs.Prelude.{All, IfSome}
use Rattle.std.proofs.lemmas.List.Elements.{All-head, All-tail}
use Rattle.std.proofs.lemmas.Bool.Decides.{nat_tests}
use Rattle.std.proofs.lemmas.Option.{none-some, same_Some}
use Rattle.dv_model.specs.declared.types.Command.{Command}
use Rattle.dv_interleavings.specs.Promises.{GoesOn}
use Rattle.dv_interleavings.specs.Worlds.{World, Session, Pending, Wrote, Event, Open, Write, Sync, Heal, Publish, Load, Tell, Crash, all_happen, crashed, happens, length_of, loaded, loaded_number, only_log, opened, with_entry, with_session, without_running, without_running_of}
use Rattle.dv_promises.specs.Standing.{HasAuthor, IsGoodEvent, IsLive, Stands}
use Rattle.dv_promises.proofs.Ending.{crash_all, crash_none, crash_some, keeps, tried_of}
use Rattle.dv_promises.proofs.Logs.{goes_on_further, last_goes_on, same_log, with_entry_is}
use Rattle.dv_promises.proofs.Syncing
use Rattle.dv_promises.proofs.Syncing.{synced_by, tried, value_of}
use Rattle.dv_promises.proofs.Telling.{told_by}
use Rattle.dv_promises.proofs.Writing.{written_by}

-- ---- the world behind a crash

crashed_by : (w : World) (n : ℕ) → Stands w → (P : World → Type 0) → P w → P (only_log w.log) → ((p : Pending) → w.pending ≡ Some p → HasAuthor w p → P (only_log (with_entry w.log p))) → P (crashed w n)
crashed_by w n stands P stays all more = by_number (nat_eq n (length_of w)) refl
  where
    by_more : (p : Pending) → w.pending ≡ Some p → (b : Bool) → P (cond b (only_log (with_entry w.log p)) w)
    by_more p is true = more p is (value_of (HasAuthor w) w.pending p is stands.author)
    by_more p is false = stays

    by_entry : nat_eq n (length_of w) ≡ false → (o : Option Pending) → w.pending ≡ o → P (crashed w n)
    by_entry less None is = subst P (sym (crash_none w n less is)) stays
    by_entry less (Some p) is = subst P (sym (crash_some w n p less is)) (by_more p is (nat_eq n (length_of w + 1)))

    by_number : (b : Bool) → nat_eq n (length_of w) ≡ b → P (crashed w n)
    by_number true same = subst P (sym (crash_all w n same)) all
    by_number false less = by_entry less w.pending refl

-- ---- the log

one_more : (w : World) (stands : Stands w) (p : Pending) → w.pending ≡ Some p → HasAuthor w p → GoesOn w.log (with_entry w.log p)
one_more w stands p is author =
    let tried = tried_of w stands p is author in
    subst (GoesOn w.log) (sym (with_entry_is w.log p tried.attempt.mailbox tried.attempt.is_there)) (last_goes_on w.log p tried.attempt.mailbox stands.sound tried.attempt.is_there)

opened_log : (w : World) (s : ℕ) → GoesOn w.log (opened w s).log
opened_log w s = by_session (w.sessions s) refl
  where
    by_session : (o : Option Session) → w.sessions s ≡ o → GoesOn w.log (opened w s).log
    by_session None is = rw is (same_log w.log)
    by_session (Some session) is = rw is (same_log w.log)

loaded_log : (w : World) (s : ℕ) → GoesOn w.log (loaded w s).log
loaded_log w s = by_session (w.sessions s) refl
  where
    by_session : (o : Option Session) → w.sessions s ≡ o → GoesOn w.log (loaded w s).log
    by_session None is = rw is (same_log w.log)
    by_session (Some session) is = rw is (same_log w.log)

pub logs_go_on : (w : World) (event : Event) → Stands w → GoesOn w.log (happens w event).log
logs_go_on w (Open s) stands = opened_log w s
logs_go_on w (Write s c received) stands = written_by w s c received (λ x. GoesOn w.log x.log) (same_log w.log) (λ session m may empty. same_log w.log) (λ session m may some. same_log w.log)
logs_go_on w Sync stands = synced_by w stands (λ x. GoesOn w.log x.log) (same_log w.log) (λ p session is runs there.
    let one = tried w stands p session is runs there in last_goes_on w.log p one.attempt.mailbox stands.sound one.attempt.is_there)
logs_go_on w Heal stands = same_log w.log
logs_go_on w Publish stands = same_log w.log
logs_go_on w (Load s) stands = loaded_log w s
logs_go_on w (Tell s c) stands = told_by w s c stands (λ x. GoesOn w.log x.log) (same_log w.log) (λ session q met before m is good may was_there is_there. same_log w.log)
logs_go_on w (Crash n) stands = crashed_by w n stands (λ x. GoesOn w.log x.log) (same_log w.log) (same_log w.log) (λ p is author. one_more w stands p is author)

pub all_go_on : (w : World) (events : List Event) → Stands w → All IsGoodEvent events → GoesOn w.log (all_happen w events).log
all_go_on w [] stands good = same_log w.log
all_go_on w (event ∷ events) stands good =
    let one : IsGoodEvent event = All-head IsGoodEvent event events good in
    goes_on_further w.log (happens w event).log (all_happen (happens w event) events).log (logs_go_on w event stands)
    (all_go_on (happens w event) events (keeps w event stands one) (All-tail IsGoodEvent event events good))

-- ---- what sessions see

-- one session is changed and sees no less
seen_with : (w : World) (s t : ℕ) (own new old after : Session) → w.sessions s ≡ Some own → own.seen ≤ new.seen → w.sessions t ≡ Some old → (with_session w s (Some new)).sessions t ≡ Some after → old.seen ≤ after.seen
seen_with w s t own new old after is le there behind = by_test (nat_eq s t) refl behind
  where
    by_test : (b : Bool) → nat_eq s t ≡ b → cond b (Some new) (w.sessions t) ≡ Some after → old.seen ≤ after.seen
    by_test true same behind =
        let e : s ≡ t = grind (arith, nat_tests) in
        let one : own ≡ old = same_Some own old (sym is ∙ ap w.sessions e ∙ there) in
        let last : new ≡ after = same_Some new after behind in
        let first : own.seen ≡ old.seen = ap (λ (x : Session). x.seen) one in
        let second : new.seen ≡ after.seen = ap (λ (x : Session). x.seen) last in
        omega arith
    by_test false differs behind = let one : old.seen ≡ after.seen = ap (λ (x : Session). x.seen) (same_Some old after (sym there ∙ behind)) in omega arith

module _ (w : World) (stands : Stands w) (t : ℕ) (old : Session) (there : w.sessions t ≡ Some old) where
  abbrev Rises : World → Type 0
  Rises x = (after : Session) → x.sessions t ≡ Some after → old.seen ≤ after.seen

  stays : Rises w
  stays after behind = let one : old.seen ≡ after.seen = ap (λ (x : Session). x.seen) (same_Some old after (sym there ∙ behind)) in omega arith

  rises_open : (s : ℕ) → Rises (opened w s)
  rises_open s = by_session (w.sessions s) refl
    where
      new_one : (new : Session) → w.sessions s ≡ None → Rises (with_session w s (Some new))
      new_one new none after behind = by_test (nat_eq s t) refl behind
        where
          by_test : (b : Bool) → nat_eq s t ≡ b → cond b (Some new) (w.sessions t) ≡ Some after → old.seen ≤ after.seen
          by_test true same behind = let e : s ≡ t = grind (arith, nat_tests) in absurd (none-some old (sym none ∙ ap w.sessions e ∙ there))
          by_test false differs behind = stays after behind

      by_session : (o : Option Session) → w.sessions s ≡ o → Rises (opened w s)
      by_session (Some session) is = rw is stays
      by_session None is = rw is (new_one _ is)

  rises_load : (s : ℕ) → Rises (loaded w s)
  rises_load s = by_session (w.sessions s) refl
    where
      up : (session : Session) → IsLive w.log w.published w.pending s session → (wrote : Option Wrote) → IfSome wrote (λ (write : Wrote). session.seen ≤ write.place) → session.seen ≤ loaded_number w.published wrote
      up session live None low = live.seen
      up session live (Some write) low = omega (arith, live.seen)

      by_session : (o : Option Session) → w.sessions s ≡ o → Rises (loaded w s)
      by_session None is = rw is stays
      by_session (Some session) is =
          let live = stands.each s session is in
          rw is (λ after behind. seen_with w s t session (record session { seen = loaded_number w.published session.wrote }) old after is (up session live session.wrote live.loaded) there behind)

  rises_crash : (n : ℕ) → Rises (crashed w n)
  rises_crash n = crashed_by w n stands Rises stays (λ after behind. absurd (none-some after behind)) (λ p is author after behind. absurd (none-some after behind))

  rises : (event : Event) → Rises (happens w event)
  rises (Open s) = rises_open s
  rises (Write s c received) =
      written_by w s c received Rises stays
      (λ session m may empty after behind. seen_with (without_running w) s t session (record session { wrote = Some (record { place = length_of w; met = length_of w; command = c }) }) old after may.is (omega arith) there behind)
      (λ session m may some. stays)
  rises Sync =
      synced_by w stands Rises stays
      (λ p session is runs is_there after behind. seen_with (Syncing.behind w stands p session is runs is_there) p.author t session (record session { wrote = Some (Syncing.write w stands p session is runs is_there) }) old after is_there (omega arith) there behind)
  rises Heal = stays
  rises Publish = stays
  rises (Load s) = rises_load s
  rises (Tell s c) =
      told_by w s c stands Rises stays
      (λ session q met before m is good may was_there is_there after behind. seen_with (without_running_of w s) s t session _ old after is (omega arith) there behind)
  rises (Crash n) = rises_crash n

pub seen_rises : (w : World) (event : Event) (s : ℕ) (session after : Session) → Stands w → w.sessions s ≡ Some session → (happens w event).sessions s ≡ Some after → session.seen ≤ after.seen
seen_rises w event s session after stands there behind = rises w stands s session there event after behind

-- ---- an answer is at what was seen

pub answers_as_seen : (w : World) (s : ℕ) (c : Command) (session after : Session) → Stands w → w.sessions s ≡ Some session → (happens w (Tell s c)).sessions s ≡ Some after
    → (after ≡ session) ⊎ ((after.seen ≡ session.seen) × (after.state.told ≡ session.seen))
answers_as_seen w s c session after stands there behind =
    told_by w s c stands (λ x. x.sessions s ≡ Some after → (after ≡ session) ⊎ ((after.seen ≡ session.seen) × (after.state.told ≡ session.seen)))
    (λ behind. inl (same_Some after session (sym behind ∙ there)))
    (λ own q met before m is good may was_there is_there behind. by_test own _ is (nat_eq s s) refl refl may.seen behind) behind
  where
    by_test : (own new : Session) → w.sessions s ≡ Some own → (b : Bool) → nat_eq s s ≡ b → new.seen ≡ own.seen → new.state.told ≡ own.seen → cond b (Some new) (w.sessions s) ≡ Some after
        → (after ≡ session) ⊎ ((after.seen ≡ session.seen) × (after.state.told ≡ session.seen))
    by_test own new is false differs seen told behind = let found : nat_eq s s ≡ true = grind (arith, nat_tests) in absurd cc
    by_test own new is true same seen told behind =
        let last : new ≡ after = same_Some new after behind in
        let one : own ≡ session = same_Some own session (sym is ∙ there) in
        let place : own.seen ≡ session.seen = ap (λ (x : Session). x.seen) one in
        inr (ap (λ (x : Session). x.seen) (sym last) ∙ seen ∙ place, ap (λ (x : Session). x.state.told) (sym last) ∙ told ∙ place)
