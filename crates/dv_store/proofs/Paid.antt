-- What is owed is repaired, and then a call keeps what the folder gives.
use Rattle.std.proofs.Common.{◌≡◌, inl, inr, ℕ, Option, Some, None, Ok, Err, refl, ◌∙◌, sym, subst, arith}
use Rattle.dv_model.specs.Journals.{Log}
use Rattle.dv_shelf.specs.declared.shelf.Name.TheVariants as name
use Rattle.dv_shelf.specs.Crashes.{LeavesOnly}
use Rattle.dv_shelf.specs.Folders.{Folder}
use Rattle.dv_shelf.proofs.Moments.{joined, weaker}
use Rattle.dv_chain.specs.declared.chain.Chain.{Chain}
use Rattle.dv_files.specs.declared.texts.Turn.{Turn}
use Rattle.dv_writing.specs.Debts.{Debt, Fits, Last, MayGive, Nothing, Pending}
use Rattle.dv_writing.specs.Repairing.{IsOwing, Repairs, RepairsQuietly}
use Rattle.dv_writing.proofs.Resting.{rests_give}
use Rattle.dv_writing.specs.Quiet.{IsQuiet}
use Rattle.dv_writing.specs.Ways.{KeepsMails, repaired}
use Rattle.dv_writing.proofs.Ready.{repaired_is}
use Rattle.dv_store.specs.Paying.{PaysDebts, PaysQuietly}
use Rattle.dv_store.specs.Rest.{IsAtRest}
use Rattle.dv_store.specs.States.{State}
use Rattle.dv_store.proofs.Looked.{file_stays}
use Rattle.dv_shelf.specs.Sees.{SeesFolder}

-- the mailbox behind a repair is one of those that may be given
pub gives_repaired : (log : Log) (debt : Debt) (owed : Option Turn) (chain : Chain) (c : Folder) → Fits owed debt → MayGive log Nothing (repaired owed chain) c → MayGive log debt chain c
gives_repaired log Nothing None chain c fits gives = gives
gives_repaired log (Pending text after written) None chain c fits gives = inl gives
gives_repaired log (Last new) None chain c fits gives = absurd fits
gives_repaired log Nothing (Some turn) chain c fits gives = absurd fits
gives_repaired log (Pending text after written) (Some turn) chain c fits gives = absurd fits
gives_repaired log (Last new) (Some turn) chain c fits gives = inr gives

-- nothing was done
pub pays_nothing : {S C T E : Type 0} (sees : SeesFolder S) (log : Log) (debt : Debt) (store : State S C) (e : E) → ((c : Folder) → sees.left_since store.shelf (sees.moment store.shelf) c → sees.may_leave store.shelf c)
    → IsAtRest sees log debt store → PaysQuietly sees log debt store store {T = T} {E = E} (Err e)
pays_nothing sees log debt store e only rest = record {
  any_moment = record {
    later = omega arith;
    each = λ c left. rests_give sees log debt store.chain store.shelf c rest.stands (only c left);
    before = λ t c le left. inl left;
  };
  ok = tt;
  err = inl rest;
}

module _ {S C : Type 0} (store : State S C) (left : Option Turn) (mid : Chain) where
  abbrev behind : S → State S C
  behind shelf = record { shelf = shelf; clock = store.clock; chain = mid; owed = left; cache = store.cache; mark = store.mark }

  -- the repair failed, or what comes behind it did, or neither
  pub debts_stay : {T U E F : Type 0} (e : E) (f : F) (new : S) → Repairs store.owed left store.chain mid {T = T} {E = E} (Err e) → PaysDebts store (behind new) {T = U} {E = F} (Err f)
  debts_stay e f new repairs = record { ok = tt; err = inl repairs.failed; clock = refl; cache = refl; mark = refl }

  pub debts_paid : {T U E F : Type 0} (x : T) (f : F) (new : S) → IsOwing store.chain store.owed → Repairs store.owed left store.chain mid {T = T} {E = E} (Ok x) → PaysDebts store (behind new) {T = U} {E = F} (Err f)
  debts_paid x f new owing repairs = record { ok = tt; err = inr (repaired_is x store.owed left store.chain mid owing repairs, repairs.paid.1); clock = refl; cache = refl; mark = refl }

  pub debts_done : {T U E F : Type 0} (x : T) (y : U) (new : S) → IsOwing store.chain store.owed → Repairs store.owed left store.chain mid {T = T} {E = E} (Ok x) → PaysDebts store (behind new) {T = U} {E = F} (Ok y)
  debts_done x y new owing repairs = record { ok = (repaired_is x store.owed left store.chain mid owing repairs, repairs.paid.1); err = tt; clock = refl; cache = refl; mark = refl }

  module _ (sees : SeesFolder S) (log : Log) (debt : Debt) (rest : IsAtRest sees log debt store) (between : S) (mails : KeepsMails (sees.files store.shelf) (sees.files between)) where
    pub pays_failed : {T U E F : Type 0} (e : E) (f : F) → Repairs store.owed left store.chain mid {T = T} {E = E} (Err e) → RepairsQuietly sees log debt store.chain mid {T = T} {E = E} (Err e) store.shelf between → PaysQuietly sees log debt store (behind between) {T = U} {E = F} (Err f)
    pays_failed e f repairs quiet = record {
      any_moment = quiet.since;
      ok = tt;
      err = inl (record {
        stands = quiet.err;
        fits = subst (λ (o : Option Turn). Fits o debt) (sym repairs.failed.1) rest.fits;
        cache = file_stays store.cache (sees.files store.shelf) (sees.files between) mails.cache rest.cache;
      });
    }

    module _ {T E : Type 0} (x : T) (owing : IsOwing store.chain store.owed) (repairs : Repairs store.owed left store.chain mid {T = T} {E = E} (Ok x)) (quiet : RepairsQuietly sees log debt store.chain mid {T = T} {E = E} (Ok x) store.shelf between)
        (new : S) (second : IsQuiet sees log mid between new) (cache : sees.files new name.Cache ≡ sees.files between name.Cache) where
      since : LeavesOnly sees store.shelf new (MayGive log debt store.chain)
      since =
          joined sees store.shelf between new (MayGive log debt store.chain) quiet.since
          (weaker sees between new (MayGive log Nothing mid) (MayGive log debt store.chain) second.any_moment
          (λ c gives. gives_repaired log debt store.owed store.chain c rest.fits (subst (λ (k : Chain). MayGive log Nothing k c) (repaired_is x store.owed left store.chain mid owing repairs) gives)))

      rests : IsAtRest sees log Nothing (behind new)
      rests = record {
        stands = second.stands;
        fits = subst (λ (o : Option Turn). Fits o Nothing) (sym repairs.paid.1) tt;
        cache = file_stays store.cache (sees.files store.shelf) (sees.files new) (cache ∙ mails.cache) rest.cache;
      }

      pub pays_halted : {U F : Type 0} (f : F) → PaysQuietly sees log debt store (behind new) {T = U} {E = F} (Err f)
      pays_halted f = record { any_moment = since; ok = tt; err = inr rests }

      pub pays_done : {U F : Type 0} (y : U) → PaysQuietly sees log debt store (behind new) {T = U} {E = F} (Ok y)
      pays_done y = record { any_moment = since; ok = rests; err = tt }
