-- What sessions leave of a run that began with opening or making a mailbox.
use Rattle.std.proofs.Common.{◌≡◌, ⊎_elim, inl, inr, ℕ, List, [], ◌∷◌, ◌++◌, length, sym, ap, subst, arith}
use Rattle.dv_model.specs.Journals.{Log}
use Rattle.dv_interleavings.specs.Promises.{GoesOn}
use Rattle.dv_shelf.specs.Clocks.{behind}
use Rattle.dv_shelf.specs.Crashes.{LeavesOnly}
use Rattle.dv_shelf.specs.Folders.{Folder, IsNew}
use Rattle.dv_shelf.specs.Sees.{SeesFolder, SeesTime}
use Rattle.dv_shelf.proofs.Moments.{joined, weaker}
use Rattle.dv_formats.specs.Scripts.{NamedLine}
use Rattle.dv_playing.specs.Playing.{Attempt, begin}
use Rattle.dv_front.specs.declared.notes.Note.{Note}
use Rattle.dv_notes.specs.Logs.{AreNotesOf, log_of}
use Rattle.dv_store.specs.States.{State}
use Rattle.dv_serving.specs.Faults.{Faults}
use Rattle.dv_serving.specs.NextRuns.{IsTrueFolder, LeavesTrue}
use Rattle.dv_serving.specs.Outputs.{Output}
use Rattle.dv_serving.specs.Places.{GivesPlay}
use Rattle.dv_serving.proofs.NextRuns.{gives_true}
use Rattle.dv_serial.specs.Places.{GivesNext, play_of}
use Rattle.dv_serial.specs.Places as serial
use Rattle.dv_beginning.specs.Begins.{IsBegun}
use Rattle.dv_beginning.specs.Leaving as beginning
use Rattle.dv_beginning.proofs.TrueFolders.{new_true}
use Rattle.dv_tries.specs.Images.{LeavesSince}
use Rattle.dv_tries.specs.Tries.{GivesGroup, GivesLast, GivesLog, MayGive, Try}
use Rattle.dv_shared.proofs.Beginnings.{log_none}
use Rattle.dv_threads.specs.declared.ending.ThreadsEnd.{ThreadsEnd}
use Rattle.dv_threads.specs.Serves.{GivesNotes, MayLeave, OpensFirst, ServesSessions, ServesThreads}
use Rattle.dv_threads.proofs.Beginnings.{bare, gives_start, start_given, turned_given}
use Rattle.dv_threads.proofs.Sessions.{notes_on}

-- ---- a next run may begin from what is given

log_true : (log : Log) (c : Folder) → GivesLog log c → IsTrueFolder c
log_true log c = ⊎_elim (λ here. gives_true _ _ _ c here.gives) (λ turned. gives_true _ _ _ c turned.1.gives)

group_true : (tells : Type 0) (log : Log) (t : Try) (c : Folder) → GivesGroup tells log t c → IsTrueFolder c
group_true tells log t c gives = gives_true _ _ _ c gives.dated.is.gives

pub last_true : (tells : Type 0) (start : Log) (notes : List Note) (tries : List Try) (c : Folder) → GivesLast tells start notes tries c → IsTrueFolder c
last_true tells start notes tries c = ⊎_elim (log_true (log_of start notes) c) (λ any. group_true tells (log_of start notes) any.1 c any.4.1)

may_true : (tells : Type 0) (start : Log) (notes : List Note) (tries : List Try) (c : Folder) → MayGive tells start notes tries c → IsTrueFolder c
may_true tells start notes tries c = ⊎_elim (λ front. log_true _ c front.2) (λ any. group_true tells _ any.1 c any.4.1)

leave_true : (tells : Type 0) (start : Log) (notes : List Note) (tries : List Try) (old c : Folder) → MayLeave tells start notes tries old c → IsTrueFolder c
leave_true tells start notes tries old c = ⊎_elim (λ new. new_true c (subst IsNew (sym new.1) new.0)) (may_true tells start notes tries c)

-- ---- before the first command

-- a folder that gives the start may be left
start_may : (tells : Type 0) (start : Log) (notes : List Note) (tries : List Try) (c : Folder) → GivesLog start c → MayGive tells start notes tries c
start_may tells start notes tries c gives = inl (0, omega arith, subst (λ (l : Log). GivesLog l c) (sym (log_none start)) gives)

module _ (start : Log) (fresh : start.entries ≡ []) (clock : ℕ → ℕ) (c : Folder) where
  play_given : GivesPlay (begin start) c → GivesLog start c
  play_given = ⊎_elim (start_given start fresh c) (λ turned. turned_given start fresh c turned.0 turned.1)

  serial_given : serial.MayGive clock start [] c → GivesLog start c
  serial_given may = by_parts may.front may.back may.lines may.gives
    where
      by_parts : (front back : List Attempt) → [] ≡ front ++ back → GivesNext clock (play_of clock start front) back c → GivesLog start c
      by_parts [] [] is gives = play_given gives
      by_parts [] (a ∷ back) is gives = absurd (omega (arith, ap length is))
      by_parts (a ∷ front) back is gives = absurd (omega (arith, ap length is))

-- ---- a run

module _ {S C : Type 0} (sees : SeesFolder S) (ticks : SeesTime C) (clock : ℕ → ℕ) (old : S) (store : State S C) (begun : IsBegun sees ticks clock old store) (tells : Type 0) where
  abbrev start : Log
  start = begun.start

  fresh : start.entries ≡ []
  fresh = (bare sees ticks clock old store begun).entries

  -- what opening the folder leaves
  begun_may : (notes : List Note) (tries : List Try) (c : Folder) → beginning.MayLeave (behind clock begun.used) start [] (sees.files old) c → MayLeave tells start notes tries (sees.files old) c
  begun_may notes tries c = ⊎_elim inl (λ may. inr (start_may tells start notes tries c (serial_given start fresh (behind clock begun.used) c may)))

  -- what sessions wrote behind that
  module _ (new : S) (notes : List Note) (tries : List Try) (are : AreNotesOf begun.start notes) (gives : GivesNotes sees tells begun.start notes tries new) (left : LeavesSince sees (sees.moment store.shelf) (sees.left_since store.shelf) new (MayGive tells begun.start notes tries)) where
    pub run_goes_on : GoesOn start (log_of start notes)
    run_goes_on = subst (λ (l : Log). GoesOn l (log_of start notes)) (log_none start) (notes_on start [] notes are)

    since : LeavesOnly sees store.shelf new (MayGive tells start notes tries)
    since = record { later = left.later; each = left.each; before = left.before }

    pub run_crash : LeavesOnly sees old new (MayLeave tells start notes tries (sees.files old))
    run_crash =
        joined sees old store.shelf new (MayLeave tells start notes tries (sees.files old))
        (weaker sees old store.shelf (beginning.MayLeave (behind clock begun.used) start [] (sees.files old)) (MayLeave tells start notes tries (sees.files old)) begun.since (begun_may notes tries))
        (weaker sees store.shelf new (MayGive tells start notes tries) (MayLeave tells start notes tries (sees.files old)) since (λ c may. inr may))

    pub run_opens : OpensFirst sees tells start notes tries old new
    run_opens = record {
      opened = store.shelf;
      before = weaker sees old store.shelf (beginning.MayLeave (behind clock begun.used) start [] (sees.files old)) (MayLeave tells start [] [] (sees.files old)) begun.since (begun_may [] []);
      there = gives_start sees ticks clock old store begun;
      since = since;
    }

    pub run_next : LeavesTrue sees old new
    run_next = record {
      seen = last_true tells start notes tries (sees.files new) gives.folder;
      after = λ c last. last_true tells start notes tries c (gives.after c last);
      crash = weaker sees old new (MayLeave tells start notes tries (sees.files old)) IsTrueFolder run_crash (leave_true tells start notes tries (sees.files old));
    }

  pub serves_threads : (new : S) (faults : Faults) (lines : List NamedLine) (e : ThreadsEnd) (out : Output) → ServesSessions sees tells begun.start (sees.moment store.shelf) (sees.left_since store.shelf) faults lines e out new → ServesThreads sees clock tells faults lines e out old new
  serves_threads new faults lines e out serves = record {
    start = start;
    used = begun.used;
    starts = begun.starts;
    notes = serves.notes;
    tries = serves.tries;
    goes_on = run_goes_on new serves.notes serves.tries serves.answers.are serves.gives serves.since;
    answers = serves.answers;
    gives = serves.gives;
    crash = run_crash new serves.notes serves.tries serves.answers.are serves.gives serves.since;
    opens = run_opens new serves.notes serves.tries serves.answers.are serves.gives serves.since;
    next = run_next new serves.notes serves.tries serves.answers.are serves.gives serves.since;
    settled = serves.settled;
  }
