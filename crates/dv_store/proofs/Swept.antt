-- What a sweep behind a repair leaves of the files.
use Rattle.std.proofs.Common.{◌≡◌, ℕ, List, None, Result, Ok, Err, Contains, ◌∙◌, ap, cond}
use Rattle.dv_shelf.specs.declared.shelf.Name.TheVariants as name
use Rattle.dv_shelf.specs.Folders.{Folder}
use Rattle.dv_files.specs.Writing.{IsSweeping, IsSwept, Sweeps}
use Rattle.dv_files.proofs.Removing.{sweep_stays}
use Rattle.dv_writing.proofs.Beside.{sweeps_some}
use Rattle.dv_writing.specs.Ways.{KeepsMails}
use Rattle.dv_writing.proofs.Filing.{named_true, swept_else}
use Rattle.dv_store.specs.Paying.{KeepsLog, SweepsMails}

-- nothing was swept yet
pub mails_unswept : {T E : Type 0} (uids : List ℕ) (e : E) (old new : Folder) → KeepsMails old new → SweepsMails uids {T = T} {E = E} (Err e) old new
mails_unswept uids e old new keeps = record { gone = tt; others = λ uid lacks. keeps.mails uid; cache = keeps.cache }

-- the cache file, and the files of the log
pub swept_cache : {T E : Type 0} (uids : List ℕ) (result : Result T E) (mid new : Folder) → Sweeps uids result mid new → new name.Cache ≡ mid name.Cache
swept_cache uids result mid new sweeps = swept_else uids mid new name.Cache (λ uid q. cc) (sweeps_some uids result mid new sweeps)

pub swept_log : {T E : Type 0} (uids : List ℕ) (result : Result T E) (mid new : Folder) → Sweeps uids result mid new → KeepsLog mid new
swept_log uids result mid new sweeps =
    let some = sweeps_some uids result mid new sweeps in
    record {
      log = swept_else uids mid new name.Log (λ uid q. cc) some;
      log2 = swept_else uids mid new name.Log2 (λ uid q. cc) some;
      index = swept_else uids mid new name.Index (λ uid q. cc) some;
    }

module _ (uids : List ℕ) (old mid new : Folder) (keeps : KeepsMails old mid) where
  others_stay : IsSweeping uids mid new → (uid : ℕ) → (Contains uids uid → ⊥) → new (name.Mail uid) ≡ old (name.Mail uid)
  others_stay some uid lacks = sweep_stays uid uids mid new lacks some ∙ keeps.mails uid

  cache_stays : IsSweeping uids mid new → new name.Cache ≡ old name.Cache
  cache_stays some = swept_else uids mid new name.Cache (λ uid q. cc) some ∙ keeps.cache

  pub mails_halted : {U F : Type 0} (f : F) → IsSweeping uids mid new → SweepsMails uids {T = U} {E = F} (Err f) old new
  mails_halted f some = record { gone = tt; others = others_stay some; cache = cache_stays some }

  pub mails_swept : {U F : Type 0} (y : U) → IsSwept uids mid new → SweepsMails uids {T = U} {E = F} (Ok y) old new
  mails_swept y swept =
      let some : IsSweeping uids mid new = sweeps_some {T = ℕ} {E = ℕ} uids (Ok 0) mid new swept in
      record {
        gone = λ uid has. ap (λ (f : Folder). f (name.Mail uid)) swept ∙ ap (λ b. cond b None (mid (name.Mail uid))) (named_true uids uid has);
        others = others_stay some;
        cache = cache_stays some;
      }
