-- What is kept still holds where the store was only looked at.
use Rattle.std.proofs.Common.{inr, ⊎_elim, ℕ, Result, Ok, Err, sym, ap, subst, arith}
use Rattle.dv_model.specs.declared.types.Mark.{Mark}
use Rattle.dv_model.specs.Journals.{Log}
use Rattle.dv_shelf.specs.Crashes.{LeavesOnly}
use Rattle.dv_shelf.specs.Folders.{Folder}
use Rattle.dv_shelf.specs.Sees.{SeesFolder}
use Rattle.dv_chain.specs.declared.chain.Chain.{Chain}
use Rattle.dv_files.specs.Texts.{place_of}
use Rattle.dv_plans.specs.declared.fault.StoreFault.{StoreFault}
use Rattle.dv_plans.specs.declared.fault.StoreFault.TheVariants as fault
use Rattle.dv_plans.specs.Faults.{HasStoreCause}
use Rattle.dv_serving.proofs.Counting.{rose_more, rose_sum}
use Rattle.dv_store.specs.Commits.{StaysAs}
use Rattle.dv_store.specs.Rest.{IsLookedAt, OnlyReads}
use Rattle.dv_store.specs.States.{State}
use Rattle.dv_tries.specs.Durable.{IsDurable}
use Rattle.dv_tries.specs.Images.{LeavesSince}
use Rattle.dv_tries.specs.Standing.{IsOwedOf}
use Rattle.dv_tries.specs.Tries.{GivesLast, MayGive}
use Rattle.dv_tries.proofs.Durable.{last_is_durable}
use Rattle.dv_tries.proofs.Growing.{last_gives}
use Rattle.dv_tries.proofs.Keeping.{rest_gives_last}
use Rattle.dv_tries.proofs.Standing.{stands_idle}
use Rattle.dv_shared.specs.Holding.{Balances, Holds, HoldsFolder}
use Rattle.dv_shared.specs.Kept.{Kept, notes_in}
use Rattle.dv_shared.specs.Writing.{refused_behind}

-- a look leaves no more of a folder than what it might have left anyway
looked_since : {S : Type 0} (sees : SeesFolder S) (moment : ℕ) (past : ℕ → Folder → Type 0) (P : Folder → Type 0) (old new : S) → LeavesSince sees moment past old P → LeavesOnly sees old new (sees.may_leave old)
    → ((c : Folder) → sees.may_leave old c → P c) → LeavesSince sees moment past new P
looked_since sees moment past P old new so_far step here = record {
  later = omega (arith, so_far.later, step.later);
  each = λ c left. ⊎_elim (so_far.each c) (here c) (step.before moment c so_far.later left);
  before = λ t c le left. ⊎_elim (λ earlier. so_far.before t c le earlier) (λ now. inr (here c now)) (step.before t c (omega (arith, le, so_far.later)) left);
}

module _ {S C : Type 0} (sees : SeesFolder S) (tells : Type 0) (start : Log) (moment : ℕ) (past : ℕ → Folder → Type 0) (honest : Type 0) (k : Kept S C) (holds : Holds sees tells start moment past honest k) where
  -- what a crash now may leave gives the end of the notes
  now_gives : honest → (c : Folder) → sees.may_leave k.store.shelf c → GivesLast tells start (notes_in k) k.tries c
  now_gives h c left = rest_gives_last C sees tells start (notes_in k) k.tries k.store c holds.stands (holds.folder h).rests left

  pub durable_now : honest → (c : Folder) → sees.may_leave k.store.shelf c → IsDurable start (notes_in k) c
  durable_now h c left = last_is_durable tells start (notes_in k) k.tries c holds.stands.notes_are (now_gives h c left)

  module _ (store : State S C) (look : IsLookedAt k.store store) (reads : sees.tells → OnlyReads sees k.store store) where
    stays : StaysAs k.store store
    stays = record {
      chain = record { mailbox = ap (λ (x : Chain). x.live.mailbox) look.chain; log = ap (λ (x : Chain). x.log) look.chain; indexid = ap (λ (x : Chain). x.indexid) look.chain; records = ap (λ (x : Chain). x.records) look.chain };
      owed = look.owed;
      mark = look.mark;
    }

    looked_folder : honest → HoldsFolder sees tells start moment past (record k { store = store })
    looked_folder h =
        let folder = holds.folder h in
        let read = reads folder.told in
        record {
          told = folder.told;
          rests = record {
            debt = folder.rests.debt;
            owed = subst (λ (p : Mark). IsOwedOf tells start (notes_in k) k.tries p folder.rests.debt) (ap (λ (x : Chain). place_of x) (sym look.chain)) folder.rests.owed;
            rests = read.rests _ folder.rests.debt folder.rests.rests;
          };
          since = looked_since sees moment past (MayGive tells start (notes_in k) k.tries) k.store.shelf store.shelf folder.since read.looks.since (λ c left. last_gives tells start (notes_in k) k.tries c (now_gives h c left));
        }

    pub looked_holds : Holds sees tells start moment past honest (record k { store = store })
    looked_holds = record { stands = stands_idle start (notes_in k) k.store holds.stands store stays; counted = holds.counted; folder = looked_folder }

    pub looked_balances : {A : Type 0} (count wrote refused : ℕ) (result : Result A StoreFault) → HasStoreCause (sees.fault_count k.store.shelf) (sees.fault_count store.shelf) result
        → Balances sees count wrote (record { kept = k; refused = refused }) → Balances sees count wrote (record { kept = record k { store = store }; refused = refused_behind refused result })
    looked_balances count wrote refused (Ok x) cause balances =
        record { wrote_all = balances.wrote_all; few = rose_more refused count (sees.fault_count k.store.shelf) (sees.fault_count store.shelf) balances.few cause.later; tries = balances.tries }
    looked_balances count wrote refused (Err (fault.Disk faults)) cause balances =
        record { wrote_all = balances.wrote_all; few = rose_sum refused 1 count (sees.fault_count k.store.shelf) (sees.fault_count store.shelf) balances.few cause.rose.1; tries = omega (arith, balances.tries) }
    looked_balances count wrote refused (Err fault.UidsUsedUp) cause balances =
        record { wrote_all = balances.wrote_all; few = rose_more refused count (sees.fault_count k.store.shelf) (sees.fault_count store.shelf) balances.few cause.later; tries = balances.tries }
    looked_balances count wrote refused (Err (fault.TooLong bytes)) cause balances =
        record { wrote_all = balances.wrote_all; few = rose_more refused count (sees.fault_count k.store.shelf) (sees.fault_count store.shelf) balances.few cause.later; tries = balances.tries }
    looked_balances count wrote refused (Err fault.NoMemory) cause balances =
        record { wrote_all = balances.wrote_all; few = rose_more refused count (sees.fault_count k.store.shelf) (sees.fault_count store.shelf) balances.few cause.later; tries = balances.tries }
