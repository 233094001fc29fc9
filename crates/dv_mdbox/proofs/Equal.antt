-- What is said of a chain is said of one that is equal but for spare rows and hidden names.
use Rattle.std.proofs.Common.{◌≡◌, inl, inr, ⊎_elim, ℕ, List, Option, Some, None, sym, subst}
use Rattle.dv_model.specs.declared.types.Mailbox.{Mailbox}
use Rattle.dv_shelf.specs.Folders.{Folder}
use Rattle.dv_shelf.specs.Sees.{SeesFolder}
use Rattle.dv_chain.specs.declared.chain.Chain.{Chain}
use Rattle.dv_chain.specs.Openings.{HasBounds, OnlyLooks}
use Rattle.dv_chain.specs.Rest.{Holds, IsPending, IsResting, Last, Nothing, Owed, Owes, Pending}
use Rattle.dv_files.specs.declared.texts.Turn.{Turn}
use Rattle.dv_files.specs.Texts.{IsTurnOf}
use Rattle.dv_writing.specs.Opening.{AreEqual}
use Rattle.dv_writing.specs.Repairing.{IsOwing}
use Rattle.dv_filing.specs.Standing.{Stands}
use Rattle.dv_maps.specs.Texts.{Messages}

-- with other spare rows and hidden names
abbrev pub roomy : Chain → ℕ → List (List ℕ) → Chain
roomy chain spare hidden = record chain { live = record { mailbox = chain.live.mailbox; spare = spare; hidden = hidden } }

pub equal_path : (one other : Chain) → AreEqual one other → roomy one other.live.spare other.live.hidden ≡ other
equal_path one other same = λ i. record {
  live = record { mailbox = same.mailbox i; spare = other.live.spare; hidden = other.live.hidden };
  log = same.log i;
  indexid = same.indexid i;
  records = same.records i;
}

module _ (chain : Chain) (spare : ℕ) (hidden : List (List ℕ)) where
  abbrev other : Chain
  other = roomy chain spare hidden

  bounds_of : HasBounds other → HasBounds chain
  bounds_of has = record { end = has.end; count = has.count; named = has.named }

  turn_of : (turn : Turn) → IsTurnOf other turn → IsTurnOf chain turn
  turn_of turn is = record { index = is.index; now = is.now; small = is.small; new = is.new }

  owing_of : (turn : Option Turn) → IsOwing other turn → IsOwing chain turn
  owing_of None owing = record { bounds = bounds_of owing.bounds; owed = tt }
  owing_of (Some turn) owing = record { bounds = bounds_of owing.bounds; owed = record { is = turn_of turn owing.owed.is; room = owing.owed.room; debt = owing.owed.debt } }

  pending_of : (text : List ℕ) (after : Mailbox) → IsPending text after other → IsPending text after chain
  pending_of text after is = record { records = is.records; some = is.some; spelled = is.spelled; gives = is.gives; room = is.room }

  holds_of : (c : Folder) → Holds other c → Holds chain c
  holds_of c holds =
      let on = holds.stands in
      record {
        stands = record { header = on.header; records = on.records; begins = on.begins; seq = on.seq; count = on.count; indexid = on.indexid; number = on.number };
        opens = holds.opens;
      }

  resting_of : (owed : Owed) (c : Folder) → IsResting owed other c → IsResting owed chain c
  resting_of Nothing c is = (holds_of c is.0, is.1)
  resting_of (Pending text after) c is = (holds_of c is.0, is.1)
  resting_of (Last log after) c is = (⊎_elim (λ alone. inl (holds_of c alone.0, alone.1)) inr is.0, is.1)

  owes_of : (owed : Owed) → Owes other owed → Owes chain owed
  owes_of Nothing owes = owes
  owes_of (Pending text after) owes = (owes.0, pending_of text after owes.1)
  owes_of (Last log after) owes = owes

  stands_of : {S : Type 0} (sees : SeesFolder S) (messages : Messages) (debt : Owed) (shelf : S) → Stands sees messages debt other shelf → Stands sees messages debt chain shelf
  stands_of sees messages debt shelf stands = record {
    rests = record {
      bounds = bounds_of stands.rests.bounds;
      owes = owes_of debt stands.rests.owes;
      each = λ c left. resting_of debt c (stands.rests.each c left);
    };
    keeps = stands.keeps;
    pending = stands.pending;
  }

pub owing_equal : (one other : Chain) (turn : Option Turn) → AreEqual one other → IsOwing other turn → IsOwing one turn
owing_equal one other turn same owing =
    owing_of one other.live.spare other.live.hidden turn (subst (λ (k : Chain). IsOwing k turn) (sym (equal_path one other same)) owing)

pub stands_equal : {S : Type 0} (sees : SeesFolder S) (messages : Messages) (debt : Owed) (one other : Chain) (shelf : S) → AreEqual one other → Stands sees messages debt other shelf → Stands sees messages debt one shelf
stands_equal sees messages debt one other shelf same stands =
    stands_of one other.live.spare other.live.hidden sees messages debt shelf (subst (λ (k : Chain). Stands sees messages debt k shelf) (sym (equal_path one other same)) stands)

-- a look leaves a storage at rest
pub stands_looked : {S : Type 0} (sees : SeesFolder S) (messages : Messages) (debt : Owed) (chain : Chain) (old new : S) → OnlyLooks sees old new → Stands sees messages debt chain old → Stands sees messages debt chain new
stands_looked sees messages debt chain old new looks stands = record {
  rests = record { bounds = stands.rests.bounds; owes = stands.rests.owes; each = λ c left. stands.rests.each c (looks.crash c left) };
  keeps = λ c left. stands.keeps c (looks.crash c left);
  pending = λ c left. stands.pending c (looks.crash c left);
}
