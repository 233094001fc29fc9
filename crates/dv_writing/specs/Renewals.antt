-- The index and the cache file, as they are replaced one behind the other.
use Rattle.std.specs.Prelude.{◌≡◌, ◌⊎◌, ◌^◌, ◌<◌, ℕ, List, Some, Result, Ok, Err}
use Rattle.dv_model.specs.declared.types.Mailbox.{Mailbox}
use Rattle.dv_model.specs.Journals.{Log}
use Rattle.dv_shelf.specs.declared.shelf.Name.TheVariants as name
use Rattle.dv_shelf.specs.Folders.{Folder, with_file}
use Rattle.dv_cache.specs.Caches.{cache_text}
use Rattle.dv_cache.specs.Written.{AreWritable}
use Rattle.dv_openings.specs.TrueCaches.{cached_rows}

-- the cache file of the mailbox's messages, under some number and sequence
pub record IsCacheOf (log : Log) (m : Mailbox) (text : List ℕ) : Type 0 where
  pub indexid : ℕ
  pub seq : ℕ
  pub wide : (indexid < 2 ^ 32) × (seq < 2 ^ 32)
  pub writable : AreWritable (cached_rows log.mail m)
  pub is : text ≡ cache_text indexid seq (cached_rows log.mail m)

-- the folder with that index
abbrev pub with_index : List ℕ → Folder → Folder
with_index index folder = with_file folder name.Index (Some index)

-- and with that cache file
abbrev pub renewed : List ℕ → List ℕ → Folder → Folder
renewed index cache folder = with_file (with_index index folder) name.Cache (Some cache)

-- none, the first or both are made
abbrev pub IsRenewing : List ℕ → List ℕ → Folder → Folder → Type 0
IsRenewing index cache old new =
    (new ≡ old) ⊎ (new ≡ with_index index old) ⊎ (new ≡ renewed index cache old)

-- behind Ok both; an error leaves none, the first or both
abbrev pub Renews : List ℕ → List ℕ → {T E : Type 0} → Result T E → Folder → Folder → Type 0
Renews index cache (Ok x) old new = new ≡ renewed index cache old
Renews index cache (Err e) old new = IsRenewing index cache old new
