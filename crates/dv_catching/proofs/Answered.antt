-- A client is answered from a store from which a run begins.
use Rattle.std.proofs.Common.{◌≡◌, ⊎_elim, ℕ, List, [], Ok, sym, subst}
use Rattle.dv_model.specs.declared.types.Mailbox.{Mailbox}
use Rattle.dv_model.specs.declared.types.Mark.{Mark}
use Rattle.dv_model.specs.Journals.{Log}
use Rattle.dv_shelf.specs.Clocks.{behind}
use Rattle.dv_shelf.specs.Folders.{Folder, IsNew}
use Rattle.dv_shelf.specs.Sees.{SeesFolder, SeesTime}
use Rattle.dv_shelf.proofs.Moments.{weaker}
use Rattle.dv_files.specs.Texts.{place_of}
use Rattle.dv_writing.specs.Debts.{Nothing}
use Rattle.dv_writing.specs.Keeping.{Gives}
use Rattle.dv_writing.proofs.Resting.{rests_give}
use Rattle.dv_serving.specs.NextRuns.{IsTrueFolder, LeavesTrue}
use Rattle.dv_serving.specs.Outputs.{Output, output_with}
use Rattle.dv_serving.proofs.NextRuns.{gives_true}
use Rattle.dv_serial.proofs.NextRuns.{may_true}
use Rattle.dv_store.specs.States.{State}
use Rattle.dv_beginning.specs.Begins.{IsBegun}
use Rattle.dv_beginning.specs.Leaving.{MayLeave}
use Rattle.dv_beginning.proofs.TrueFolders.{new_true}
use Rattle.dv_qresync.specs.declared.types.Old.{Old}
use Rattle.dv_qresync.specs.Answers.{resynced}
use Rattle.dv_qresync.specs.Texts.{answers_text}
use Rattle.dv_catching.specs.declared.catching.CatchEnd.{CatchEnd}
use Rattle.dv_catching.specs.declared.catching.CatchEnd.TheVariants as end
use Rattle.dv_catching.specs.Catching.{Catches, CatchesOver, EndsBehind, opened}
use Rattle.dv_catching.specs.Texts.{WritesText}

-- a next run may begin from what a crash leaves
leave_true : (clock : ℕ → ℕ) (start : Log) (old c : Folder) → MayLeave clock start [] old c → IsTrueFolder c
leave_true clock start old c = ⊎_elim (λ new. new_true c (subst IsNew (sym new.1) new.0)) (may_true clock start [] c)

module _ {S C : Type 0} (sees : SeesFolder S) (ticks : SeesTime C) (clock : ℕ → ℕ) (old : S) (store : State S C)
    (begun : IsBegun sees ticks clock old store) where
  abbrev start : Log
  start = begun.start

  -- each folder that a crash now may leave gives the mailbox
  gives : (c : Folder) → sees.may_leave store.shelf c → Gives start start.start start.start_mark c
  gives c left =
      subst (λ (m : Mailbox). Gives start m start.start_mark c) (sym begun.mailbox)
      (subst (λ (mark : Mark). Gives start store.chain.live.mailbox mark c) (sym begun.place)
      (rests_give sees start Nothing store.chain store.shelf c begun.rests.stands left))

  next : sees.may_leave store.shelf (sees.files store.shelf) → LeavesTrue sees old store.shelf
  next there = record {
    seen = gives_true _ _ _ _ (gives (sees.files store.shelf) there);
    after = λ c left. gives_true _ _ _ c (gives c left);
    crash = weaker sees old store.shelf (MayLeave (behind clock begun.used) start [] (sees.files old)) IsTrueFolder begun.since
        (λ c may. leave_true (behind clock begun.used) start (sees.files old) c may);
  }

  pub catches : (client : Old) (e : CatchEnd) (told : Type 0) (taken taken_now : List ℕ)
      → sees.may_leave store.shelf (sees.files store.shelf) → EndsBehind (place_of store.chain) e
      → (told → WritesText e (answers_text (resynced store.chain.live.mailbox client)) taken taken_now)
      → Catches sees clock client e (output_with told taken taken_now) old store.shelf
  catches client e told taken taken_now there ends writes = record {
    start = start;
    used = begun.used;
    starts = begun.starts;
    sound = begun.sound;
    ends = subst (λ (mark : Mark). EndsBehind mark e) (sym begun.place) ends;
    output = λ tells. subst (λ (m : Mailbox). WritesText e (answers_text (resynced m client)) taken taken_now) (sym begun.mailbox) (writes tells);
    others = begun.others;
    folder = gives (sees.files store.shelf) there;
    after = gives;
    crash = begun.since;
    next = next there;
    settled = begun.settled;
  }

-- it is so of either end of an opened folder
pub catches_over : {S : Type 0} (sees : SeesFolder S) (clock : ℕ → ℕ) (client : Old) (e : CatchEnd) (out : Output) (old new : S)
    → opened e ≡ Ok tt → Catches sees clock client e out old new → CatchesOver sees clock client e out old new
catches_over sees clock client (end.Answered mark) out old new is catches = catches
catches_over sees clock client (end.Unopened f) out old new is catches = absurd cc
catches_over sees clock client end.NoMemory out old new is catches = catches
catches_over sees clock client end.Sink out old new is catches = catches
