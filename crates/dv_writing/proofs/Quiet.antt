-- A call whose steps keep what a folder has of a store at rest is quiet.
use Rattle.std.proofs.Common.{◌≡◌, ℕ}
use Rattle.dv_model.specs.Journals.{Log}
use Rattle.dv_shelf.specs.Folders.{Folder}
use Rattle.dv_shelf.proofs.Moments.{joined, weaker}
use Rattle.dv_logfile.specs.Gates.{FromOneOf}
use Rattle.dv_chain.specs.declared.chain.Chain.{Chain}
use Rattle.dv_chain.specs.Rest as rest
use Rattle.dv_chain.specs.Rest.{IsResting, Owes}
use Rattle.dv_writing.proofs.Opened.{may_open}
use Rattle.dv_files.specs.Leavings.{Leaves}
use Rattle.dv_files.specs.Texts.{place_of}
use Rattle.dv_writing.specs.Debts.{MayGive, Nothing, Stands}
use Rattle.dv_writing.specs.Keeping.{Keeps}
use Rattle.dv_writing.proofs.Resting.{gives_as}
use Rattle.dv_writing.specs.Quiet.{IsQuiet}
use Rattle.dv_shelf.specs.Sees.{SeesFolder}

-- what each folder has that a crash may leave of a store that owes nothing
pub record HasAll (log : Log) (chain : Chain) (c : Folder) : Type 0 where
  pub rest : IsResting rest.Nothing chain c
  pub keeps : Keeps log chain.live.mailbox c

pub all_gives : (log : Log) (chain : Chain) (c : Folder) → log.indexid ≡ chain.indexid → Owes chain rest.Nothing → HasAll log chain c → MayGive log Nothing chain c
all_gives log chain c named owes has = gives_as log chain.live.mailbox (place_of chain) chain c named (may_open rest.Nothing chain c owes has.rest) has.keeps

module _ {S : Type 0} (sees : SeesFolder S) (log : Log) (chain : Chain) where
  pub stands_all : (old : S) → Stands sees log Nothing chain old → (c : Folder) → sees.may_leave old c → HasAll log chain c
  stands_all old stands c left = record { rest = stands.rests.each c left; keeps = stands.keeps c left }

  pub quiet_steps : (old new : S) (behind at_any : Folder → Folder → Type 0) → ((d c : Folder) → behind d c → HasAll log chain d → HasAll log chain c) → ((d c : Folder) → at_any d c → HasAll log chain d → HasAll log chain c)
      → Leaves sees behind at_any old new → Stands sees log Nothing chain old → IsQuiet sees log chain old new
  quiet_steps old new behind at_any late early leaves stands = record {
    any_moment = weaker sees old new (FromOneOf (sees.may_leave old) at_any) (MayGive log Nothing chain) leaves.since
        (λ c from. all_gives log chain c stands.named stands.rests.owes (early from.0 c from.2 (stands_all old stands from.0 from.1)));
    stands = record {
      named = stands.named;
      written = tt {0};
      rests = record { bounds = stands.rests.bounds; owes = stands.rests.owes; each = λ c left. (has c left).rest };
      keeps = λ c left. (has c left).keeps;
      owed = λ c left. tt {0};
    };
  }
    where
      has : (c : Folder) → sees.may_leave new c → HasAll log chain c
      has c left =
          let from = leaves.crash c left in
          late from.0 c from.2 (stands_all old stands from.0 from.1)

  -- one call behind another
  pub quiet_both : (old mid new : S) → IsQuiet sees log chain old mid → IsQuiet sees log chain mid new → IsQuiet sees log chain old new
  quiet_both old mid new first second = record { any_moment = joined sees old mid new (MayGive log Nothing chain) first.any_moment second.any_moment; stands = second.stands }
