-- What holds of clients without names.
use Rattle.std.specs.Prelude.{◌≡◌, ◌++◌, ℕ, List, fold, length, map}
use Rattle.dv_model.specs.declared.types.Fresh.{Fresh}
use Rattle.dv_model.specs.declared.types.Mailbox.{Mailbox}
use Rattle.dv_model.specs.declared.types.Step.{Step}
use Rattle.dv_model.specs.Fresh.{AreFresh}
use Rattle.dv_model.specs.Laws.{Follows, IsReadIn}
use Rattle.dv_model.specs.Views.{View, moved, said}
use Rattle.dv_view.specs.Clients.{heard_bare, known_bare}
use Rattle.dv_view.specs.Following.{IsPatched}
use Rattle.dv_view.specs.Orders.{IsOrdered}

-- a client that has the UIDs and flags of the old view has those of the new one after hearing what is said
abbrev pub BareClientHasView : Type 0
BareClientHasView = (step : Step) (before m : Mailbox) (view : View) → IsReadIn before view → Follows before view m
    → fold heard_bare (map known_bare view.rows) (said m view (moved step view m)) ≡ map known_bare (moved step view m).rows

-- a mailbox to which changes lead that a view can follow may follow the view, where its table goes on from the older one
abbrev pub ChangesFollow : Type 0
ChangesFollow = (before m : Mailbox) (view : View) (uid_next : ℕ) (table more : List (List ℕ)) (fresh : List Fresh)
    → AreFresh view uid_next (length table) fresh → IsPatched view uid_next table fresh m → table ≡ before.keywords ++ more
    → IsOrdered view
    → Follows before view m
