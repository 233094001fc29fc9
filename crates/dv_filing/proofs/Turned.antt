-- What a rotation leaves of a storage at rest.
use Rattle.std.proofs.Common.{◌≡◌, ℕ, Option, Some, None, Result, Ok, Err, ap, subst}
use Rattle.dv_model.specs.declared.types.Mailbox.{Mailbox}
use Rattle.dv_shelf.specs.Folders.{Folder}
use Rattle.dv_shelf.specs.Sees.{SeesFolder}
use Rattle.dv_chain.specs.declared.chain.Chain.{Chain}
use Rattle.dv_chain.specs.Rest.{Last, Nothing, Owed, Rests}
use Rattle.dv_files.specs.declared.fault.TurnEnd.{TurnEnd}
use Rattle.dv_files.specs.declared.fault.TurnEnd.TheVariants as end
use Rattle.dv_files.specs.declared.texts.Turn.{Turn}
use Rattle.dv_files.specs.Leavings.{IsTurning, Leaves, Turns}
use Rattle.dv_files.specs.Quiet as rotation
use Rattle.dv_writing.proofs.Kept.{beside_turn}
use Rattle.dv_writing.proofs.Resting.{follows_since}
use Rattle.dv_filing.specs.Standing.{KeepsOwed, Stands, TurnsQuietly, owed_of}
use Rattle.dv_filing.proofs.Resting.{gives_since, stands_then}
use Rattle.dv_maps.specs.Texts.{KeepsTexts, Messages}

module _ {S : Type 0} (sees : SeesFolder S) (messages : Messages) (turn : Turn) (chain next : Chain) (old new : S) (live : next.live ≡ chain.live)
    (stands : Stands sees messages Nothing chain old) (now : (c : Folder) → sees.may_leave new c → sees.left_since new (sees.moment old) c) where
  abbrev m : Mailbox
  m = chain.live.mailbox

  mailbox : next.live.mailbox ≡ m
  mailbox = λ i. (live i).mailbox

  -- which turn is kept, so that what rests owes it
  turned_over : {T : Type 0} (result : Result T TurnEnd) (left : Option Turn) → Leaves sees (Turns turn result) (IsTurning turn) old new → rotation.TurnsQuietly sees turn chain next result old new
      → Rests sees (owed_of left m) next new → TurnsQuietly sees messages turn left chain next old new
  turned_over result left leaves quiet rests =
      let follows = follows_since sees old new (IsTurning turn) now leaves.since in
      record {
        since = gives_since sees messages Nothing chain old stands (IsTurning turn) (λ d c step. beside_turn turn d c step) (Last turn.new m) (λ c keeps owes. keeps) new leaves.since quiet.since;
        stands = stands_then sees messages Nothing chain old stands (IsTurning turn) (λ d c step. beside_turn turn d c step) (owed_of left m) (by_left left) next new mailbox rests follows;
      }
    where
      by_left : (t : Option Turn) (c : Folder) → KeepsTexts messages m c → KeepsOwed messages Nothing c → KeepsOwed messages (owed_of t m) c
      by_left None c keeps is = tt
      by_left (Some t) c keeps is = keeps

  abbrev OverQuietly : Option Turn → Type 0
  OverQuietly left = TurnsQuietly sees messages turn left chain next old new

  module _ {T : Type 0} where
    abbrev LeavesAt : Result T TurnEnd → Type 0
    LeavesAt result = Leaves sees (Turns turn result) (IsTurning turn) old new

    abbrev QuietAt : Result T TurnEnd → Type 0
    QuietAt result = rotation.TurnsQuietly sees turn chain next result old new

    pub over_done : (x : T) → LeavesAt (Ok x) → QuietAt (Ok x) → OverQuietly None
    over_done x leaves quiet = turned_over (Ok x) None leaves quiet quiet.rests

    pub over_before : (fault : TurnEnd) → fault ≡ end.Before → LeavesAt (Err fault) → QuietAt (Err fault) → OverQuietly None
    over_before fault is leaves quiet =
        let so = subst (λ (f : TurnEnd). QuietAt (Err f)) is quiet in
        turned_over (Err end.Before) None (subst (λ (f : TurnEnd). LeavesAt (Err f)) is leaves) so so.rests

    pub over_last : (fault : TurnEnd) → fault ≡ end.Last → LeavesAt (Err fault) → QuietAt (Err fault) → OverQuietly (Some turn)
    over_last fault is leaves quiet =
        let so = subst (λ (f : TurnEnd). QuietAt (Err f)) is quiet in
        turned_over (Err end.Last) (Some turn) (subst (λ (f : TurnEnd). LeavesAt (Err f)) is leaves) so (subst (λ (k : Mailbox). Rests sees (Last turn.new k) next new) mailbox so.rests)
