-- What the removal of message files leaves of a storage.
use Rattle.std.proofs.Common.{◌≡◌, ℕ, ◌<◌, ◌≤◌, List, Contains, length, get_or, take, Option, Some, Result, Ok, Err, OnErr, refl, sym, ◌∙◌, ap, subst, arith}
use Rattle.std.proofs.lemmas.List.{get_or_default, take_all}
use Rattle.std.specs.Prelude.{All}
use Rattle.dv_model.specs.Counts.{Rose}
use Rattle.dv_model.specs.declared.types.Mailbox.{Mailbox}
use Rattle.dv_model.specs.declared.types.Row.{Row}
use Rattle.dv_shelf.specs.declared.shelf.Name.TheVariants as name
use Rattle.dv_shelf.specs.Crashes.{Follows, LeavesOnly}
use Rattle.dv_shelf.specs.Folders.{Folder}
use Rattle.dv_shelf.specs.Sees.{SeesFolder}
use Rattle.dv_logfile.specs.Gates.{FromOneOf}
use Rattle.dv_logfile.specs.Settling.{StaysSettled}
use Rattle.dv_logfile.proofs.Settling.{rose_settled, stepped_settled}
use Rattle.dv_chain.specs.declared.chain.Chain.{Chain}
use Rattle.dv_chain.specs.Rest.{IsResting, Nothing, Rests}
use Rattle.dv_files.specs.Resting.{KeepsRest}
use Rattle.dv_files.specs.Writing.{IsSweeping, IsSwept, Sweeps, swept}
use Rattle.dv_files.proofs.Removing.{sweep_stays}
use Rattle.dv_files.specs.Leavings.{Leaves}
use Rattle.dv_writing.proofs.Opened.{may_open}
use Rattle.dv_writing.proofs.Resting.{both_only}
use Rattle.dv_maps.specs.Maps.{row_count, row_place}
use Rattle.dv_maps.specs.Texts.{HasText, KeepsTexts, Messages, text_in}
use Rattle.dv_filing.specs.Clearing.{ClearsQuietly, Needs}
use Rattle.dv_filing.specs.Standing.{MayGive, Stands}
use Rattle.dv_filing.proofs.Resting.{gives_so}

pub sweeping : {T E : Type 0} (files : List ℕ) (result : Result T E) (d c : Folder) → Sweeps files result d c → IsSweeping files d c
sweeping files (Ok x) d c is = (length files, is ∙ ap (λ (l : List ℕ). swept l d) (sym (take_all (length files) files (omega arith))))
sweeping files (Err e) d c is = is

-- the texts of rows with references stay
pub texts_stay : (messages : Messages) (m : Mailbox) (files : List ℕ) → (Needs m files → ⊥) → (d c : Folder) → IsSweeping files d c → KeepsTexts messages m d → KeepsTexts messages m c
texts_stay messages m files free d c is keeps = λ k row inside some message known.
    let r : Row = get_or m.rows k row in
    let away : Contains files (row_place m r).file → ⊥ = λ named. free (r, (k, inside, get_or_default m.rows k r row inside), some, named) in
    ap (λ (o : Option (List ℕ)). text_in o (row_place m r)) (sweep_stays (row_place m r).file files d c away is) ∙ keeps k row inside some message known

module _ {S : Type 0} (sees : SeesFolder S) (files : List ℕ) (old new : S) {T E : Type 0} (result : Result T E) (leaves : Leaves sees (Sweeps files result) (IsSweeping files) old new) where
  pub cleared_quiet : (messages : Messages) (chain : Chain) → (Needs chain.live.mailbox files → ⊥) → Stands sees messages Nothing chain old → KeepsRest sees Nothing chain old new → ClearsQuietly sees messages chain old new
  cleared_quiet messages chain free stands rest = record {
    since = both_only sees old new (FromOneOf (sees.may_leave old) (IsSweeping files)) (IsResting Nothing chain) (MayGive messages Nothing chain) leaves.since rest.since
        (λ c from resting. gives_so messages Nothing chain c (may_open Nothing chain c stands.rests.owes resting) (texts_stay messages chain.live.mailbox files free from.0 c from.2 (stands.keeps from.0 from.1)) tt);
    stands = record {
      rests = rest.rests;
      keeps = λ c left.
          let from = leaves.crash c left in
          texts_stay messages chain.live.mailbox files free from.0 c (sweeping files result from.0 c from.2) (stands.keeps from.0 from.1);
      pending = λ c left. tt;
    };
  }

  pub cleared_settled : OnErr result (Rose (sees.fault_count old) (sees.fault_count new)) → StaysSettled sees old new
  cleared_settled rose = by_result result leaves rose
    where
      by_result : (r : Result T E) → Leaves sees (Sweeps files r) (IsSweeping files) old new → OnErr r (Rose (sees.fault_count old) (sees.fault_count new)) → StaysSettled sees old new
      by_result (Ok x) is rose = stepped_settled sees old new (IsSwept files) is.crash (λ c one. one ∙ sym is.seen)
      by_result (Err e) is rose = rose_settled sees old new rose
