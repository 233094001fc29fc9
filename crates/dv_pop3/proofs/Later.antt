-- What a session that has seen more has in common with what it was.
use Rattle.std.proofs.Common.{◌≡◌, ◌≢◌, ◌⊎◌, inl, inr, ℕ, ◌<◌, ◌≤◌, Bool, true, false, ◌&&◌, List, Some, None, take, drop, nat_eq, refl, sym, ap, subst, ◌∙◌, arith}
use Rattle.std.proofs.lemmas.Bool.{ne_eqb}
use Rattle.std.proofs.lemmas.List.{take-append-drop}
use Rattle.std.proofs.lemmas.List.Elements.{All-weaker}
use Rattle.std.proofs.lemmas.List.Folds.{list_any_none}
use mathlib.Core.List.{IsPrefix}
use Rattle.dv_model.specs.declared.types.Command.{Command}
use Rattle.dv_model.specs.declared.types.Mailbox.{Mailbox}
use Rattle.dv_model.specs.declared.types.Row.{Row}
use Rattle.dv_model.specs.Journals.{IsSound, Log, at}
use Rattle.dv_model.specs.Sessions.{State, has_uid, missing_number}
use Rattle.dv_model.specs.Views.{View, shows_uid}
use Rattle.dv_validity.proofs.Logs.{Extends, leads_at, next_uid_at}
use Rattle.dv_validity.proofs.Numbers.{records_keep}
use Rattle.dv_validity.proofs.Rows.{Lacks}
use Rattle.dv_answer.specs.Following.{Tracks}
use Rattle.dv_answer.specs.Refusing.{own_refusal}
use Rattle.dv_front.specs.declared.notes.Note.{Note}
use Rattle.dv_front.specs.Notes.{AreNotes}
use Rattle.dv_front.proofs.Prefixes.{prefix_length}
use Rattle.dv_keeper.proofs.Turning.{log_goes_on}
use Rattle.dv_member.specs.Members.{IsSession, Lives, Member, known_in, log_seen, notes_of}
use Rattle.dv_member.proofs.Turns.{log_long}
use Rattle.dv_notes.specs.Logs.{AreNotesOf}
use Rattle.dv_notes.proofs.Logs.{logs_are_sound}
use Rattle.dv_notes.proofs.Notes.{fronts_are_good}

-- a session that has selected the mailbox refuses no command by UIDs
pub none_refused : (x : State) (c : Command) → x.selected ≡ true → missing_number c x.view ≡ None → own_refusal x c ≡ None
none_refused x c selected none = rw (selected, none) refl

-- the notes that it has seen are good
pub seen_notes : (start : Log) (count : ℕ) (s : Member) → IsSession start count s → AreNotesOf start (notes_of s)
seen_notes start count s session =
    let known : List Note = known_in s.front in
    record {
      sound = session.good.sound;
      fresh = session.good.fresh;
      good = fronts_are_good start.start start.start_mark (take s.seen known) (drop s.seen known)
          (subst (AreNotes start.start start.start_mark) (sym (take-append-drop s.seen known)) session.good.good);
    }

module _ (start : Log) (count : ℕ) (old new : Member) (session : IsSession start count old) (session_new : IsSession start count new) (fresh : old.spent ≡ false) (fresh_new : new.spent ≡ false) (begins : IsPrefix (notes_of old) (notes_of new))
    (selected : old.follower.state.selected ≡ true) where
  abbrev log : Log
  log = log_seen start new

  abbrev view : View
  view = old.follower.state.view

  lives : Lives start old
  lives = session.lives fresh

  pub lives_new : Lives start new
  lives_new = session_new.lives fresh_new

  pub tracks : Tracks old.live view old.follower.touched
  tracks = lives.abreast selected

  on : Extends (log_seen start old) log
  on = log_goes_on start (notes_of old) (notes_of new) begins (seen_notes start count new session_new)

  pub sound : IsSound log
  sound = logs_are_sound start (notes_of new) (seen_notes start count new session_new)

  pub seen_up : old.seen ≤ new.seen
  seen_up = omega (arith, session.seen, session_new.seen, prefix_length (notes_of old) (notes_of new) begins)

  pub was : at log old.seen ≡ Some old.live
  was = on.same_at old.seen (omega (arith, log_long start old session.start_is.fresh session.seen)) ∙ lives.live

  pub next_up : old.live.next_uid ≤ new.live.next_uid
  next_up = next_uid_at log sound old.seen new.seen old.live new.live seen_up was lives_new.live

  -- a mailbox that was met on the way
  module _ (k : ℕ) (m : Mailbox) (low : old.seen ≤ k) (is : at log k ≡ Some m) (uid : ℕ) (given : uid < view.next_uid) where
    lacks_by : shows_uid view uid ≡ false → (row : Row) → (shows_uid view row.uid ≡ true) ⊎ (view.next_uid ≤ row.uid) → row.uid ≢ uid
    lacks_by hidden row (inl shown) same =
        let both : shows_uid view uid ≡ true = ap (shows_uid view) (sym same) ∙ shown in absurd cc
    lacks_by hidden row (inr high) same = omega (arith, high, same, given)

    lacked : shows_uid view uid ≡ false → Lacks uid old.live.rows
    lacked hidden = All-weaker (λ (row : Row). (shows_uid view row.uid ≡ true) ⊎ (view.next_uid ≤ row.uid)) (λ (row : Row). row.uid ≢ uid) (lacks_by hidden) old.live.rows tracks.known

    -- a message that was given out, and that the view doesn't show, isn't there
    pub gone_stays : shows_uid view uid ≡ false → has_uid m uid ≡ false
    gone_stays hidden =
        let leads = leads_at log sound old.seen k old.live m low was is in
        let lacks : Lacks uid m.rows = (records_keep old.live m leads.records leads.is).gone uid (omega (arith, given, tracks.next_uid)) (lacked hidden) in
        list_any_none (λ (row : Row). nat_eq row.uid uid && true) m.rows
        (All-weaker (λ (row : Row). row.uid ≢ uid) (λ (row : Row). (nat_eq row.uid uid && true) ≡ false) (λ row other. ap (λ (b : Bool). b && true) (ne_eqb row.uid uid other)) m.rows lacks)
