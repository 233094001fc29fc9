-- A run begins over readings that are alike up to the one that it took.
use Rattle.std.proofs.Common.{◌≡◌, inl, inr, ⊎_elim, ℕ, ◌<◌, [], sym, ◌∙◌, ap, arith}
use Rattle.std.proofs.Math.Path.{fun_ext}
use Rattle.dv_model.specs.Journals.{Log}
use Rattle.dv_shelf.specs.Clocks.{behind}
use Rattle.dv_shelf.specs.Folders.{Folder}
use Rattle.dv_shelf.specs.Sees.{SeesFolder, SeesTime}
use Rattle.dv_shelf.proofs.Moments.{weaker}
use Rattle.dv_serving.specs.Readings.{AreAlike}
use Rattle.dv_serial.proofs.Alike.{may_alike}
use Rattle.dv_store.specs.States.{State}
use Rattle.dv_beginning.specs.Begins.{IsBegun}
use Rattle.dv_beginning.specs.Leaving.{MayLeave}
use Rattle.dv_beginning.specs.Starts.{Starts, new_log}

module _ (one other : ℕ → ℕ) (used : ℕ) (alike : AreAlike used one other) where
  pub starts_alike : (folder : Folder) (start : Log) → Starts one folder start used → Starts other folder start used
  starts_alike folder start =
      ⊎_elim inl
      (λ new. let first : one 0 ≡ other 0 = alike 0 (omega (arith, new.2)) in inr (new.0, new.1 ∙ ap (λ (n : ℕ). new_log n folder) first, new.2))

  -- before the first line no reading counts
  pub may_leave_alike : (start : Log) (old c : Folder) → MayLeave (behind one used) start [] old c → MayLeave (behind other used) start [] old c
  may_leave_alike start old c =
      ⊎_elim inl (λ may. inr (may_alike (behind one used) (behind other used) start [] (λ n less. absurd (omega (arith, less))) c may))

-- so a run begins over them
abbrev pub begun_alike : {S C : Type 0} (sees : SeesFolder S) (ticks : SeesTime C) (one other : ℕ → ℕ) (old : S) (store : State S C) (begun : IsBegun sees ticks one old store) → AreAlike begun.used one other
    → (ticks.tells → (n : ℕ) → other n ≡ one n) → IsBegun sees ticks other old store
begun_alike sees ticks one other old store begun alike told = record {
  start = begun.start;
  used = begun.used;
  starts = starts_alike one other begun.used alike (sees.files old) begun.start begun.starts;
  sound = begun.sound;
  rests = begun.rests;
  mailbox = begun.mailbox;
  place = begun.place;
  mark = begun.mark;
  owed = begun.owed;
  readings = λ reads. begun.readings reads ∙ ap (λ (clock : ℕ → ℕ). behind clock begun.used) (sym (fun_ext (told reads)));
  others = begun.others;
  since = weaker sees old store.shelf (MayLeave (behind one begun.used) begun.start [] (sees.files old)) (MayLeave (behind other begun.used) begun.start [] (sees.files old)) begun.since
      (may_leave_alike one other begun.used alike begun.start (sees.files old));
  settled = begun.settled;
}
