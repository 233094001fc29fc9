-- A search key that was made ready for the rows of a view.
use Rattle.std.specs.Prelude.{◌≡◌}
use Rattle.dv_model.specs.declared.types.Key.{Key}
use Rattle.dv_model.specs.Searches.{needs_mail}
use Rattle.dv_model.specs.Sets.{largest_uid}
use Rattle.dv_model.specs.Views.{View}
use Rattle.dv_search.specs.Prepared.{IsPrepared}
use Rattle.dv_search.specs.declared.sought.Sought.{Sought}

-- it was made of this key for the rows of this view
pub record IsSought (k : Key) (view : View) (sought : Sought) : Type 0 where
  pub ready : IsPrepared (largest_uid view) k sought.key
  pub reads : sought.reads ≡ needs_mail k

-- it was made of this key for any rows: where no `*` stands in the key, their largest UID doesn't matter
pub record IsReady (k : Key) (sought : Sought) : Type 0 where
  pub ready : IsPrepared 0 k sought.key
  pub reads : sought.reads ≡ needs_mail k
