-- The writes that the disk failed, as they are remembered.
use Rattle.std.specs.Prelude.{List, [], ◌∷◌, ◌++◌, Option, Some, None}
use Rattle.dv_shelf.specs.Sees.{SeesTime}
use Rattle.dv_tries.specs.Commits.{try_of}
use Rattle.dv_tries.specs.Tries.{Try}
use Rattle.dv_shared.specs.declared.tries.Attempt.{Attempt}

-- those before the last, and the last
abbrev pub tries_of : {S C : Type 0} → SeesTime C → Option (Attempt S C) → List Try
tries_of sees None = []
tries_of sees (Some a) = a.before.value
    ++ try_of a.place.value a.author.value a.command.value a.view.value a.store.value
    (sees.upcoming a.store.value.clock) ∷ []
