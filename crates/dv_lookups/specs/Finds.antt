-- What the bytes of a cache file have at a place.
use Rattle.std.specs.Prelude.{◌≡◌, ℕ, List, Option, Some, None}
use Rattle.dv_cache.specs.declared.row.CacheRow.{CacheRow}
use Rattle.dv_cache.specs.declared.row.Known.{Known}
use Rattle.dv_cache.specs.Finding.{IsRowAt}
use Rattle.dv_openings.specs.TrueCaches.{Look}
use Rattle.dv_lookups.specs.declared.cache_file.CacheFile.{CacheFile}
use Rattle.dv_lookups.specs.declared.cache_file.CacheFile.TheVariants as cache

-- the bytes that were read
abbrev pub bytes_of : CacheFile → Option (List ℕ)
bytes_of cache.Unread = None
bytes_of (cache.Read file) = file

-- a row that stands at the place, or that there is none
abbrev pub IsFoundIn : Option (List ℕ) → ℕ → Look → ℕ → Option Known → Type 0
IsFoundIn None indexid look uid known = known ≡ None
IsFoundIn (Some bytes) indexid look uid None =
    (row : CacheRow) → IsRowAt bytes indexid look.seq uid look.offset row → ⊥
IsFoundIn (Some bytes) indexid look uid (Some known) =
    IsRowAt bytes indexid look.seq uid look.offset (record { uid = uid; known = Some known })
