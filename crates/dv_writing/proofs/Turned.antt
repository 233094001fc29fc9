-- What a rotation leaves of a store at rest.
use Rattle.std.proofs.Common.{◌≡◌, ℕ, Option, Some, None, Result, Ok, Err, subst}
use Rattle.dv_model.specs.Journals.{Log}
use Rattle.dv_shelf.specs.Folders.{Folder}
use Rattle.dv_chain.specs.declared.chain.Chain.{Chain}
use Rattle.dv_chain.specs.Rest.{Rests}
use Rattle.dv_files.specs.declared.fault.TurnEnd.{TurnEnd}
use Rattle.dv_files.specs.declared.fault.TurnEnd.TheVariants as end
use Rattle.dv_files.specs.declared.texts.Turn.{Turn}
use Rattle.dv_files.specs.Leavings.{IsTurning, Leaves, Turns}
use Rattle.dv_files.specs.Quiet.{TurnsQuietly}
use Rattle.dv_writing.specs.Debts.{IsOwedOf, KeepsOwed, Last, Nothing, Stands, debt_of, owed_of}
use Rattle.dv_writing.specs.Turning.{TurnsOverQuietly}
use Rattle.dv_writing.proofs.Kept.{beside_turn}
use Rattle.dv_writing.proofs.Resting.{follows_since, gives_since, leaves_messages, stands_then}
use Rattle.dv_shelf.specs.Sees.{SeesFolder}

module _ {S : Type 0} (sees : SeesFolder S)
    (log : Log) (turn : Turn) (chain next : Chain) (old new : S) (live : next.live ≡ chain.live) (indexid : next.indexid ≡ chain.indexid)
    (stands : Stands sees log Nothing chain old) (now : (c : Folder) → sees.may_leave new c → sees.left_since new (sees.moment old) c) where
  -- which turn is kept, so that what rests owes it
  turned_over : {T : Type 0} (result : Result T TurnEnd) (left : Option Turn) → Leaves sees (Turns turn result) (IsTurning turn) old new → TurnsQuietly sees turn chain next result old new
      → Rests sees (owed_of next.live.mailbox (debt_of left)) next new → TurnsOverQuietly sees log turn left chain next old new
  turned_over result left leaves quiet rests =
      let kept = leaves_messages chain.live.mailbox Nothing (IsTurning turn) (λ d c step. beside_turn turn d c step) in
      let follows = follows_since sees old new (IsTurning turn) now leaves.since in
      record {
        since = gives_since sees log Nothing chain old stands (IsTurning turn) kept (Last turn.new) (λ is. tt) (λ c is. tt) new leaves.since quiet.since;
        stands = stands_then sees log Nothing chain old stands (IsTurning turn) kept (debt_of left) (λ is. of_left left) (by_left left) next new (λ i. (live i).mailbox) indexid rests follows;
      }
    where
      of_left : (t : Option Turn) → IsOwedOf log (debt_of t)
      of_left None = tt
      of_left (Some t) = tt

      by_left : (t : Option Turn) (c : Folder) → KeepsOwed Nothing c → KeepsOwed (debt_of t) c
      by_left None c is = tt
      by_left (Some t) c is = tt

  abbrev OverQuietly : Option Turn → Type 0
  OverQuietly left = TurnsOverQuietly sees log turn left chain next old new

  module _ {T : Type 0} where
    abbrev LeavesAt : Result T TurnEnd → Type 0
    LeavesAt result = Leaves sees (Turns turn result) (IsTurning turn) old new

    abbrev QuietAt : Result T TurnEnd → Type 0
    QuietAt result = TurnsQuietly sees turn chain next result old new

    pub over_done : (x : T) → LeavesAt (Ok x) → QuietAt (Ok x) → OverQuietly None
    over_done x leaves quiet = turned_over (Ok x) None leaves quiet quiet.rests

    pub over_before : (fault : TurnEnd) → fault ≡ end.Before → LeavesAt (Err fault) → QuietAt (Err fault) → OverQuietly None
    over_before fault is leaves quiet =
        let so = subst (λ (f : TurnEnd). QuietAt (Err f)) is quiet in
        turned_over (Err end.Before) None (subst (λ (f : TurnEnd). LeavesAt (Err f)) is leaves) so so.rests

    pub over_last : (fault : TurnEnd) → fault ≡ end.Last → LeavesAt (Err fault) → QuietAt (Err fault) → OverQuietly (Some turn)
    over_last fault is leaves quiet =
        let so = subst (λ (f : TurnEnd). QuietAt (Err f)) is quiet in
        turned_over (Err end.Last) (Some turn) (subst (λ (f : TurnEnd). LeavesAt (Err f)) is leaves) so so.rests
