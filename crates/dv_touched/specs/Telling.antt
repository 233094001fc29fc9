-- What is shown of rows by their UIDs, and where it differs.
use Rattle.std.specs.Prelude.{◌≢◌, ℕ, List, Option, find, nat_eq, option_map}
use Rattle.dv_model.specs.declared.types.Row.{Row}
use Rattle.dv_model.specs.declared.types.Shown.{Shown}
use Rattle.dv_model.specs.Views.{shown}

-- what is shown of the row of this UID
abbrev pub shown_in : List Row → ℕ → Option Shown
shown_in rows uid = option_map shown (find (λ row. nat_eq row.uid uid) rows)

-- it differs, or only one of the lists has the row
abbrev pub Differs : List Row → List Row → ℕ → Type 0
Differs old new uid = shown_in old uid ≢ shown_in new uid
