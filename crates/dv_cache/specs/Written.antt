-- Which rows of a written cache file are found again.
use Rattle.std.specs.Prelude.{ℕ, ◌^◌, ◌<◌, ◌≤◌, List, length, take, All}
use Rattle.dv_cache.specs.declared.row.CacheRow.{CacheRow}
use Rattle.dv_cache.specs.Caches.{first_place, HasFive, place_behind}

-- rows that may be written: UIDs of 32 bits, five fields each, and at most 8,388,608 rows
pub record AreWritable (rows : List CacheRow) : Type 0 where
  pub uids : All (λ row. row.uid < 2 ^ 32) rows
  pub five : All (λ row. HasFive row.known) rows
  pub few : length rows ≤ 8388608

-- where the fields of row i stand, if they are kept
abbrev pub place_of : List CacheRow → ℕ → ℕ
place_of rows i = place_behind (first_place rows) (take i rows)
