-- The commands of a script may be served.
use Rattle.std.specs.Prelude.{◌≡◌, ℕ, ◌+◌, List, All, length}
use Rattle.dv_formats.specs.Generators.{generated}
use Rattle.dv_formats.specs.Scripts.{IsScript, NamedLine}
use Rattle.dv_serving.specs.Servable.{IsServable}

-- each one that the grammar finds in a script
abbrev pub CommandsAreServable : Type 0
CommandsAreServable = (lines : List NamedLine) (script : List ℕ) → IsScript lines script
    → All (λ (line : NamedLine). IsServable line.1) lines

-- each one of a generated script
abbrev pub GeneratedAreServable : Type 0
GeneratedAreServable = (seed count sessions : ℕ)
    → All (λ (line : NamedLine). IsServable line.1) (generated seed count sessions)

-- which has as many as sessions and commands together
abbrev pub GeneratedAreCounted : Type 0
GeneratedAreCounted = (seed count sessions : ℕ)
    → length (generated seed count sessions) ≡ sessions + count
