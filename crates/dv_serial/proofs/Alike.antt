-- What is said of lines holds over readings that are alike up to those that the lines used.
use Rattle.std.proofs.Common.{◌≡◌, inl, inr, ⊎_elim, ℕ, ◌≤◌, List, [], ◌∷◌, ◌++◌, sym, ◌∙◌, ap, subst}
use Rattle.std.proofs.Math.Path.{fun_ext}
use Rattle.dv_model.specs.declared.types.Mailbox.{Mailbox}
use Rattle.dv_model.specs.declared.types.Mark.{Mark}
use Rattle.dv_model.specs.declared.types.Reply.{Reply}
use Rattle.dv_model.specs.Counts.{RoseBy}
use Rattle.dv_model.specs.Journals.{Log}
use Rattle.dv_model.specs.Transcripts.{unavailable_count}
use Rattle.dv_shelf.specs.declared.shelf.Name.{Name}
use Rattle.dv_shelf.specs.Clocks.{behind}
use Rattle.dv_shelf.specs.Folders.{Folder}
use Rattle.dv_shelf.specs.Sees.{SeesFolder, SeesTime}
use Rattle.dv_writing.specs.Debts.{Debt, Last, Nothing, Pending}
use Rattle.dv_writing.specs.Keeping.{Gives}
use Rattle.dv_playing.specs.Laws.{MayPlay}
use Rattle.dv_playing.specs.Playing.{Attempt, Play, begin, with_group_here}
use Rattle.dv_store.specs.Rest.{IsAtRest}
use Rattle.dv_serving.specs.Commits.{MayChangeHere}
use Rattle.dv_serving.specs.Places.{GivesPlay, IsFailedWrite, begin_at}
use Rattle.dv_serving.specs.Readings.{AreAlike, AreReadings}
use Rattle.dv_serving.proofs.Alike.{failed_alike, played_alike, replies_alike, used_front}
use Rattle.dv_serving.proofs.Readings.{alike_less}
use Rattle.dv_serial.specs.Following.{AreSeated, Follows, IsAt, Keeps, origin_of}
use Rattle.dv_serial.specs.Others.{KeepsOthers, MayTouch}
use Rattle.dv_serial.specs.Places.{GivesNext, IsLastFailed, IsOwedBehind, IsPendingOf, MayGive, play_of}
use Rattle.dv_serial.specs.Servings.{Serving}

module _ (one other : ℕ → ℕ) (start : Log) where
  pub play_alike : (attempts : List Attempt) → AreAlike (play_of one start attempts).used one other → play_of one start attempts ≡ play_of other start attempts
  play_alike attempts alike = played_alike one other (begin start) attempts alike

  -- lines in front of others
  front_alike : (front back attempts : List Attempt) → attempts ≡ front ++ back → AreAlike (play_of one start attempts).used one other → AreAlike (play_of one start front).used one other
  front_alike front back attempts parts alike =
      alike_less (play_of one start front).used (play_of one start attempts).used one other
      (subst (λ (all : List Attempt). (play_of one start front).used ≤ (play_of one start all).used) (sym parts) (used_front one (begin start) front back)) alike

  module _ (attempts : List Attempt) (alike : AreAlike (play_of one start attempts).used one other) where
    same : play_of one start attempts ≡ play_of other start attempts
    same = play_alike attempts alike

    -- ---- a line that the disk failed

    with_alike : (front back : List Attempt) (a : Attempt) → attempts ≡ front ++ a ∷ back → IsFailedWrite (play_of one start front) a
        → with_group_here one (play_of one start front) a.line ≡ with_group_here other (play_of one start front) a.line
    with_alike front back a parts failed =
        failed_alike one other (begin start) front back a failed (subst (λ (all : List Attempt). AreAlike (play_of one start all).used one other) parts alike)

    last_group : (met : Play) (a : Attempt) → IsLastFailed one start attempts met a → with_group_here one met a.line ≡ with_group_here other met a.line
    last_group met a last =
        subst (λ (p : Play). with_group_here one p a.line ≡ with_group_here other p a.line) (sym last.was)
        (with_alike last.front last.back a last.lines (subst (λ (p : Play). IsFailedWrite p a) last.was last.failed))

    last_alike : (met : Play) (a : Attempt) → IsLastFailed one start attempts met a → IsLastFailed other start attempts met a
    last_alike met a last = record {
      front = last.front;
      back = last.back;
      lines = last.lines;
      was = last.was ∙ play_alike last.front (front_alike last.front (a ∷ last.back) attempts last.lines alike);
      failed = last.failed;
      log = ap (λ (p : Play). p.log) (sym same) ∙ last.log;
      mailbox = ap (λ (p : Play). p.mailbox) (sym same) ∙ last.mailbox;
      mark = ap (λ (p : Play). p.mark) (sym same) ∙ last.mark;
    }

    pending_alike : (text : List ℕ) (after : Mailbox) (written : Log) → IsPendingOf one start attempts text after written → IsPendingOf other start attempts text after written
    pending_alike text after written pending = record {
      met = pending.met;
      attempt = pending.attempt;
      failed = last_alike pending.met pending.attempt pending.failed;
      spelled = pending.spelled;
      gives = pending.gives;
      log = pending.log ∙ ap (λ (p : Play). p.log) (last_group pending.met pending.attempt pending.failed);
    }

    owed_alike : (place : Mark) (debt : Debt) → IsOwedBehind one start attempts place debt → IsOwedBehind other start attempts place debt
    owed_alike place Nothing is = tt
    owed_alike place (Last new) is = tt
    owed_alike place (Pending text after written) is = (pending_alike text after written is.0, is.1 ∙ ap (λ (p : Play). begin_at p.mark) same)

    -- ---- what a folder gives

    group_gives : (front back : List Attempt) (a : Attempt) (c : Folder) → attempts ≡ front ++ a ∷ back → IsFailedWrite (play_of one start front) a
        → Gives (with_group_here one (play_of one start front) a.line).log (with_group_here one (play_of one start front) a.line).mailbox (with_group_here one (play_of one start front) a.line).mark c
        → Gives (with_group_here other (play_of other start front) a.line).log (with_group_here other (play_of other start front) a.line).mailbox (with_group_here other (play_of other start front) a.line).mark c
    group_gives front back a c parts failed gives =
        subst (λ (p : Play). Gives (with_group_here other p a.line).log (with_group_here other p a.line).mailbox (with_group_here other p a.line).mark c)
        (play_alike front (front_alike front (a ∷ back) attempts parts alike))
        (subst (λ (p : Play). Gives p.log p.mailbox p.mark c) (with_alike front back a parts failed) gives)

    next_alike : (front back : List Attempt) (c : Folder) → attempts ≡ front ++ back → GivesNext one (play_of one start front) back c → GivesNext other (play_of other start front) back c
    next_alike front [] c parts gives = subst (λ (p : Play). GivesPlay p c) (play_alike front (front_alike front [] attempts parts alike)) gives
    next_alike front (a ∷ back) c parts gives =
        let is : play_of one start front ≡ play_of other start front = play_alike front (front_alike front (a ∷ back) attempts parts alike) in
        ⊎_elim (λ first. inl (subst (λ (p : Play). GivesPlay p c) is first))
        (λ with. inr (subst (λ (p : Play). IsFailedWrite p a) is with.0, group_gives front back a c parts with.0 with.1)) gives

    pub may_alike : (c : Folder) → MayGive one start attempts c → MayGive other start attempts c
    may_alike c may = record { front = may.front; back = may.back; lines = may.lines; gives = next_alike may.front may.back c may.lines may.gives }

    -- ---- other files

    touch_alike : (n : Name) → MayTouch one start attempts n → MayTouch other start attempts n
    touch_alike n touch = record {
      front = touch.front;
      back = touch.back;
      attempt = touch.attempt;
      parts = touch.parts;
      changes = subst (λ (p : Play). MayChangeHere p touch.attempt.line n) (play_alike touch.front (front_alike touch.front (touch.attempt ∷ touch.back) attempts touch.parts alike)) touch.changes;
    }

    pub others_alike : (old new : Folder) → KeepsOthers one start attempts old new → KeepsOthers other start attempts old new
    others_alike old new keeps = λ n none. keeps n (λ touch. none (touch_alike n touch))

    -- ---- sessions

    pub lines_may_alike : (base faults : ℕ) → MayPlay one start base faults attempts → MayPlay other start base faults attempts
    lines_may_alike base faults may = record {
      sound = may.sound;
      new = may.new;
      each = may.each;
      few = subst (λ (rs : List (List Reply)). RoseBy (unavailable_count rs) base faults) (replies_alike one other (begin start) attempts alike) may.few;
    }

    module _ {S C : Type 0} (sees : SeesFolder S) (serving : Serving S C) where
      pub keeps_alike : Keeps sees one start attempts serving → Keeps sees other start attempts serving
      keeps_alike keeps = record {
        at = subst (λ (p : Play). IsAt p serving) same keeps.at;
        debt = keeps.debt;
        owed = owed_alike _ keeps.debt keeps.owed;
        rests = subst (λ (p : Play). IsAtRest sees p.log keeps.debt serving.store) same keeps.rests;
      }

      -- they are the same wherever the clock tells them
      pub follows_alike : (ticks : SeesTime C) (base faults : ℕ) → AreReadings other → (ticks.tells → (n : ℕ) → other n ≡ one n)
          → Follows sees ticks (origin_of one start base) faults attempts serving → Follows sees ticks (origin_of other start base) faults attempts serving
      follows_alike ticks base faults small told follows = record {
        may = lines_may_alike base faults follows.may;
        failures = follows.failures;
        keeps = keeps_alike follows.keeps;
        small = small;
        readings = λ reads.
            follows.readings reads
            ∙ ap (λ (clock : ℕ → ℕ). behind clock (play_of one start attempts).used) (sym (fun_ext (told reads)))
            ∙ ap (λ (p : Play). behind other p.used) same;
        seats = subst (λ (p : Play). AreSeated serving.store.chain.live.mailbox p.states serving.seats) same follows.seats;
      }
