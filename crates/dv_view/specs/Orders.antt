-- The order in which a view has its rows.
use Rattle.std.specs.Prelude.{◌-◌, ◌^◌, ◌<◌, List, map, All}
use Rattle.std.specs.List.Sorted.{IsStrictlyIncreasing}
use Rattle.dv_model.specs.declared.types.Shown.{Shown}
use Rattle.dv_model.specs.Views.{View}

-- UIDs are assigned in a strictly ascending fashion (RFC 3501, section 2.3.1.1)
pub record AreRising (rows : List Shown) : Type 0 where
  pub uids : IsStrictlyIncreasing (map (λ s. s.uid) rows)
  pub below : All (λ s. s.uid < 2 ^ 32 - 1) rows

-- the rows rise, and each UID was given out
pub record IsOrdered (view : View) : Type 0 where
  pub rising : IsStrictlyIncreasing (map (λ s. s.uid) view.rows)
  pub below : All (λ s. s.uid < view.next_uid) view.rows
  pub next_uid : view.next_uid < 2 ^ 32
