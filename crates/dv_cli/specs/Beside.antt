-- A run over a mailbox folder, by what stands beside its lines. The records take what a shelf shows.
use Rattle.std.specs.Prelude.{List, Option, Some, None, ⊤}
use Rattle.dv_model.specs.declared.types.Key.{Key}
use Rattle.dv_shelf.specs.Sees.{SeesFolder}
use Rattle.dv_formats.specs.Scripts.{NamedLine}
use Rattle.dv_serving.specs.Faults.{Faults}
use Rattle.dv_serving.specs.Outputs.{Output}
use Rattle.dv_cli.specs.declared.beside.Beside.{Beside}
use Rattle.dv_cli.specs.declared.beside.Beside.TheVariants as beside
use Rattle.dv_cli.specs.declared.ending.End.{End}
use Rattle.dv_cli.specs.Runs.{ServesLines, UnlessUnopened}
use Rattle.dv_cli.specs.Spans.{Times}
use Rattle.dv_cli.specs.Watching.{ServesBeside}
use Rattle.dv_cli.specs.Words.{IsKept}

-- a search with this key, or nothing
abbrev pub beside_of : Option Key → Beside
beside_of None = beside.Nothing
beside_of (Some key) = beside.Search key

-- a search can be kept
abbrev pub MayStand : Beside → Type 0
MayStand beside.Nothing = ⊤
MayStand (beside.Load load) = ⊤
MayStand (beside.Search key) = IsKept key

-- the lines are answered, and the load is told at the end, or what the search finds behind each
-- that wrote an entry
abbrev pub ServesWith : {S : Type 0} → Beside → SeesFolder S → Times → Faults → List NamedLine
    → End → Output → S → S → Type 0
ServesWith beside.Nothing sees times faults lines e out old new =
    ServesLines sees times faults None lines e out old new
ServesWith (beside.Load load) sees times faults lines e out old new =
    ServesLines sees times faults (Some load) lines e out old new
ServesWith (beside.Search key) sees times faults lines e out old new =
    ServesBeside sees times faults key lines e out old new

-- so it is, or the folder isn't opened
abbrev pub RunsWith : {S : Type 0} → Beside → SeesFolder S → Times → Faults → List NamedLine → End
    → Output → S → S → Type 0
RunsWith with_this sees times faults lines e out old new =
    UnlessUnopened sees times
    (λ how. ServesWith with_this sees times faults lines how out old new) e out old new
