-- What is said of a chain is said of one that is equal but for spare rows and hidden names.
use Rattle.std.proofs.Common.{◌≡◌, inl, inr, ⊎_elim, ℕ, List, Option, Some, None, sym, subst}
use Rattle.dv_model.specs.declared.types.Mailbox.{Mailbox}
use Rattle.dv_model.specs.Journals.{Log}
use Rattle.dv_shelf.specs.Folders.{Folder}
use Rattle.dv_chain.specs.declared.chain.Chain.{Chain}
use Rattle.dv_chain.specs.Openings.{HasBounds}
use Rattle.dv_chain.specs.Rest.{Holds, IsPending, IsResting, Owed, Owes, Rests, StandsOn}
use Rattle.dv_chain.specs.Rest as rest
use Rattle.dv_writing.specs.Opening.{AreEqual}
use Rattle.dv_files.specs.declared.texts.Turn.{Turn}
use Rattle.dv_files.specs.Texts.{IsTurnOf}
use Rattle.dv_writing.specs.Debts.{Debt, Stands, owed_of}
use Rattle.dv_writing.specs.Repairing.{IsOwing}
use Rattle.dv_shelf.specs.Sees.{SeesFolder}

-- with other spare rows and hidden names
abbrev roomy : Chain → ℕ → List (List ℕ) → Chain
roomy chain spare hidden = record chain { live = record { mailbox = chain.live.mailbox; spare = spare; hidden = hidden } }

pub equal_path : (one other : Chain) → AreEqual one other → roomy one other.live.spare other.live.hidden ≡ other
equal_path one other same = λ i. record {
  live = record { mailbox = same.mailbox i; spare = other.live.spare; hidden = other.live.hidden };
  log = same.log i;
  indexid = same.indexid i;
  records = same.records i;
}

module _ (chain : Chain) (spare : ℕ) (hidden : List (List ℕ)) where
  abbrev other : Chain
  other = roomy chain spare hidden

  bounds_of : HasBounds other → HasBounds chain
  bounds_of has = record { end = has.end; count = has.count; named = has.named }

  turn_of : (turn : Turn) → IsTurnOf other turn → IsTurnOf chain turn
  turn_of turn is = record { index = is.index; now = is.now; small = is.small; new = is.new }

  owing_of : (turn : Option Turn) → IsOwing other turn → IsOwing chain turn
  owing_of None owing = record { bounds = bounds_of owing.bounds; owed = tt }
  owing_of (Some turn) owing = record { bounds = bounds_of owing.bounds; owed = record { is = turn_of turn owing.owed.is; room = owing.owed.room; debt = owing.owed.debt } }

  pending_of : (text : List ℕ) (after : Mailbox) → IsPending text after other → IsPending text after chain
  pending_of text after is = record { records = is.records; some = is.some; spelled = is.spelled; gives = is.gives; room = is.room }

  holds_of : (c : Folder) → Holds other c → Holds chain c
  holds_of c holds =
      let on = holds.stands in
      record {
        stands = record { header = on.header; records = on.records; begins = on.begins; seq = on.seq; count = on.count; indexid = on.indexid; number = on.number };
        opens = holds.opens;
      }

  resting_of : (owed : Owed) (c : Folder) → IsResting owed other c → IsResting owed chain c
  resting_of rest.Nothing c is = (holds_of c is.0, is.1)
  resting_of (rest.Pending text after) c is = (holds_of c is.0, is.1)
  resting_of (rest.Last log after) c is = (⊎_elim (λ alone. inl (holds_of c alone.0, alone.1)) inr is.0, is.1)

  owes_of : (owed : Owed) → Owes other owed → Owes chain owed
  owes_of rest.Nothing owes = owes
  owes_of (rest.Pending text after) owes = (owes.0, pending_of text after owes.1)
  owes_of (rest.Last log after) owes = owes

  stands_of : {S : Type 0} (sees : SeesFolder S) (log : Log) (debt : Debt) (shelf : S) → Stands sees log debt other shelf → Stands sees log debt chain shelf
  stands_of sees log debt shelf stands =
      let owed = owed_of chain.live.mailbox debt in
      record {
        named = stands.named;
        written = stands.written;
        rests = record {
          bounds = bounds_of stands.rests.bounds;
          owes = owes_of owed stands.rests.owes;
          each = λ c left. resting_of owed c (stands.rests.each c left);
        };
        keeps = stands.keeps;
        owed = stands.owed;
      }

pub owing_equal : (one other : Chain) (turn : Option Turn) → AreEqual one other → IsOwing other turn → IsOwing one turn
owing_equal one other turn same owing =
    owing_of one other.live.spare other.live.hidden turn (subst (λ (k : Chain). IsOwing k turn) (sym (equal_path one other same)) owing)

pub stands_equal : {S : Type 0} (sees : SeesFolder S) (log : Log) (debt : Debt) (one other : Chain) (shelf : S) → AreEqual one other → Stands sees log debt other shelf → Stands sees log debt one shelf
stands_equal sees log debt one other shelf same stands =
    stands_of one other.live.spare other.live.hidden sees log debt shelf (subst (λ (k : Chain). Stands sees log debt k shelf) (sym (equal_path one other same)) stands)
