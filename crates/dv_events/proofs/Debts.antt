-- The pending entry of a world is that of the store's debt.
use Rattle.std.proofs.Common.{◌≡◌, ℕ, Bool, true, false, cond, List, [], ◌∷◌, nat_eq, Option, Some, None, refl, subst, sym}
use Rattle.std.specs.Prelude.{All, option_map}
use Rattle.std.proofs.lemmas.List.Elements.{All-head, All-tail}
use Rattle.dv_model.specs.declared.types.Command.{Command}
use Rattle.dv_model.specs.declared.types.Mailbox.{Mailbox}
use Rattle.dv_model.specs.Journals.{Log, at}
use Rattle.dv_interleavings.specs.Worlds.{World, Session, Pending, all_happen, is_bad, loaded, stopped, stopped_of, told, told_numbers}
use Rattle.dv_schedules.specs.Calls.{Answer as AnswerCall, Call, Commit as CommitCall, Gather, Make, Refresh, all_called, events_of}
use Rattle.dv_schedules.proofs.Calls.{make_opens}
use Rattle.dv_front.specs.declared.notes.Note.{Note}
use Rattle.dv_shared.specs.Kept.{notes_in}
use Rattle.dv_shared.proofs.Owing.{owes_some}
use Rattle.dv_shelf.specs.Folders.{Folder}
use Rattle.dv_shelf.specs.Sees.{SeesFolder, SeesTime}
use Rattle.dv_tries.specs.Tries.{Try}
use Rattle.dv_events.specs.Debts.{IsPendingOf, IsReading, KeptOwes, NothingPends, ReadingsKeepDebt}
use Rattle.dv_events.specs.Worlds.{IsOfTry}

-- ---- loads and answers

module _ (start : Log) (notes : List Note) where
  stopped_try : (p : Pending) (t : Try) → IsOfTry start notes p t → IsOfTry start notes (stopped p) t
  stopped_try p t is = record { place = is.place; author = is.author; command = is.command; met = is.met; was_there = is.was_there; group = is.group }

  pub pending_stopped : (owed : Option Try) (pending : Option Pending) → IsPendingOf start notes owed pending → IsPendingOf start notes owed (option_map stopped pending)
  pending_stopped (Some t) (Some p) is = stopped_try p t is
  pending_stopped (Some t) None is = is
  pending_stopped None (Some p) is = is
  pending_stopped None None is = is

  pending_of : (i : ℕ) (owed : Option Try) (pending : Option Pending) → IsPendingOf start notes owed pending → IsPendingOf start notes owed (option_map (stopped_of i) pending)
  pending_of i (Some t) (Some p) is = by_author (nat_eq p.author i)
    where
      by_author : (b : Bool) → IsOfTry start notes (cond b (stopped p) p) t
      by_author true = stopped_try p t is
      by_author false = is
  pending_of i (Some t) None is = is
  pending_of i None (Some p) is = is
  pending_of i None None is = is

  module _ (owed : Option Try) where
    abbrev Pends : World → Type 0
    Pends w = IsPendingOf start notes owed w.pending

    pends_loaded : (w : World) (s : ℕ) → Pends w → Pends (loaded w s)
    pends_loaded w s is = by_session (w.sessions s) refl
      where
        by_session : (o : Option Session) → w.sessions s ≡ o → Pends (loaded w s)
        by_session None none = rw none is
        by_session (Some session) lives = rw lives is

    pends_told : (w : World) (s : ℕ) (c : Command) → Pends w → Pends (told w s c)
    pends_told w s c is = by_session (w.sessions s) refl
      where
        by_session : (o : Option Session) → w.sessions s ≡ o → Pends (told w s c)
        by_session None none = rw none is
        by_session (Some session) lives = by_bad (is_bad session.state c) refl
          where
            by_bad : (b : Bool) → is_bad session.state c ≡ b → Pends (told w s c)
            by_bad true bad = rw (lives, bad) is
            by_bad false good = by_numbers (told_numbers session c) refl
              where
                by_numbers : (o : Option (ℕ × ℕ)) → told_numbers session c ≡ o → Pends (told w s c)
                by_numbers None none = rw (lives, good, none) is
                by_numbers (Some numbers) are = by_mailboxes (at w.log numbers.1) (at w.log numbers.0) refl refl
                  where
                    by_mailboxes : (met m : Option Mailbox) → at w.log numbers.1 ≡ met → at w.log numbers.0 ≡ m → Pends (told w s c)
                    by_mailboxes None m was there = rw (lives, good, are, was) is
                    by_mailboxes (Some met) None was there = rw (lives, good, are, was, there) is
                    by_mailboxes (Some met) (Some m) was there = rw (lives, good, are, was, there) (pending_of s owed w.pending is)

    pends_called : (w : World) (call : Call) → IsReading call → Pends w → Pends (all_happen w (events_of call))
    pends_called w (Refresh s) reads is = pends_loaded w s is
    pends_called w (Gather s t) reads is = pends_loaded (loaded w s) t (pends_loaded w s is)
    pends_called w (AnswerCall s c) reads is = pends_told w s c is
    pends_called w (Make n) reads is = absurd reads
    pends_called w (CommitCall s c received healed ending) reads is = absurd reads

    pub pends_read : (w : World) (calls : List Call) → All IsReading calls → Pends w → Pends (all_called w calls)
    pends_read w [] reads is = is
    pends_read w (call ∷ calls) reads is =
        pends_read (all_happen w (events_of call)) calls (All-tail IsReading call calls reads) (pends_called w call (All-head IsReading call calls reads) is)

-- ---- the laws

pub readings_keep_debt : ReadingsKeepDebt
readings_keep_debt start notes owed w calls reads is = pends_read start notes owed w calls reads is

pub nothing_pends : NothingPends
nothing_pends start n = subst (λ (w : World). IsPendingOf start [] None w.pending) (sym (make_opens start n)) tt

pub kept_owes : {S C : Type 0} (sees : SeesFolder S) (times : SeesTime C) (start : Log) (moment : ℕ) (past : ℕ → Folder → Type 0) (honest : Type 0) → KeptOwes sees times start moment past honest
kept_owes sees times start moment past honest k h holds = owes_some sees times.tells start (notes_in k) k.store holds.stands k.tries (holds.folder h).rests
