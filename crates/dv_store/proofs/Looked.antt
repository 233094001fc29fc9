-- A store that was only looked at stays at rest.
use Rattle.std.proofs.Common.{◌≡◌, ℕ, Result, Ok, Err, ◌∙◌, ap, sym}
use Rattle.dv_model.specs.Journals.{Log}
use Rattle.dv_shelf.specs.declared.shelf.Name.TheVariants as name
use Rattle.dv_shelf.specs.declared.shelf.ShelfFault.{ShelfFault}
use Rattle.dv_shelf.specs.declared.shelf.ShelfFault.TheVariants as shelf_fault
use Rattle.dv_shelf.specs.Folders.{Folder}
use Rattle.dv_chain.specs.declared.chain.Chain.{Chain}
use Rattle.dv_chain.specs.Openings.{OnlyLooks}
use Rattle.dv_writing.specs.Debts.{Debt, Stands}
use Rattle.dv_lookups.specs.declared.cache_file.CacheFile.{CacheFile}
use Rattle.dv_lookups.specs.declared.cache_file.CacheFile.TheVariants as cache
use Rattle.dv_lookups.specs.Kept.{IsFileOf}
use Rattle.dv_plans.specs.declared.fault.StoreFault.{StoreFault}
use Rattle.dv_plans.specs.declared.fault.StoreFault.TheVariants as fault
use Rattle.dv_store.specs.Faults.{shelf_told}
use Rattle.dv_store.specs.Rest.{OnlyReads}
use Rattle.dv_store.specs.States.{State}
use Rattle.dv_shelf.specs.Sees.{SeesFolder}

-- what was read of a cache file is that of each folder that has the same
pub file_stays : (file : CacheFile) (d c : Folder) → c name.Cache ≡ d name.Cache → IsFileOf d file → IsFileOf c file
file_stays cache.Unread d c same is = is
file_stays (cache.Read bytes) d c same is = is ∙ sym same

module _ {S : Type 0} (sees : SeesFolder S) where
  pub stands_seen : (log : Log) (debt : Debt) (chain : Chain) (old new : S) → OnlyLooks sees old new → Stands sees log debt chain old → Stands sees log debt chain new
  stands_seen log debt chain old new looks stands = record {
    named = stands.named;
    written = stands.written;
    rests = record { bounds = stands.rests.bounds; owes = stands.rests.owes; each = λ c left. stands.rests.each c (looks.crash c left) };
    keeps = λ c left. stands.keeps c (looks.crash c left);
    owed = λ c left. stands.owed c (looks.crash c left);
  }

  pub only_reads : {C : Type 0} (store : State S C) (shelf : S) (file : CacheFile) → OnlyLooks sees store.shelf shelf → (IsFileOf (sees.files store.shelf) store.cache → IsFileOf (sees.files store.shelf) file) → OnlyReads sees store (record store { shelf = shelf; cache = file })
  only_reads store shelf file looks kept = record {
    looks = looks;
    file = here;
    rests = λ log debt rest. record {
      stands = stands_seen log debt store.chain store.shelf shelf looks rest.stands;
      fits = rest.fits;
      cache = here rest.cache;
    };
  }
    where
      here : IsFileOf (sees.files store.shelf) store.cache → IsFileOf (sees.files shelf) file
      here is = file_stays file (sees.files store.shelf) (sees.files shelf) (ap (λ (f : Folder). f name.Cache) looks.same) (kept is)

-- ---- where the disk failed

pub done_failed : {B : Type 0} (x : B) (e : StoreFault) (result : Result B StoreFault) → result ≡ Ok x → result ≡ Err e → ⊥
done_failed {B} x e result done failed = let both : ◌≡◌ {A = Result B StoreFault} (Ok x) (Err e) = sym done ∙ failed in absurd cc
