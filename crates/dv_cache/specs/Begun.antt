-- What stands of a cache file's text while its rows are added.
use Rattle.std.specs.Prelude.{ℕ, List}
use Rattle.dv_cache.specs.declared.row.CacheRow.{CacheRow}
use Rattle.dv_cache.specs.Caches.{entries_from, texts_from}

-- where the fields of the first row begin, and the entries and the fields so far
pub record Begun : Type 0 where
  pub first : ℕ
  pub entries : List ℕ
  pub texts : List ℕ

-- what stands of a file of which these rows were added
abbrev pub begun : ℕ → List CacheRow → Begun
begun first rows =
    record { first = first; entries = entries_from first rows; texts = texts_from first rows }
