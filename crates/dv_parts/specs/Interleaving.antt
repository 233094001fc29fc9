-- The lines of a script are an interleaving of its parts.
use Rattle.std.specs.Prelude.{◌≡◌, ℕ, ◌+◌, ◌<◌, ◌≤◌, List, [], ◌∷◌, All, Some, length, map, slice_get, slice_index_or, slice_set}
use Rattle.std.specs.List.{sum_by}
use Rattle.dv_model.specs.declared.types.Command.{Command}
use Rattle.dv_model.specs.Transcripts.{Line, commands_of}
use Rattle.dv_formats.specs.Scripts.{NamedLine, sessions_of}
use Rattle.dv_serving.specs.Scripts.{numbered}
use Rattle.dv_parts.specs.declared.parts.Part.{Part}
use Rattle.dv_parts.specs.Parts.{AreParts}

-- each line takes the first command that is left of the part of its number, and none is left behind
-- the last line
abbrev pub Interleaves : List Line → List (List Command) → Type 0
Interleaves [] parts = All (λ part. part ≡ []) parts
Interleaves (line ∷ lines) parts =
    (k : ℕ) × (left : List Command) × (line.0 ≡ k + 1) × (slice_get parts k ≡ Some (line.1 ∷ left))
    × Interleaves lines (slice_set parts k left)

-- the commands of each part
abbrev pub commands_by_part : List Part → List (List Command)
commands_by_part parts = map (λ (p : Part). p.commands) parts

-- ---- laws

-- each line of a script is of a session, numbered from 1 on
abbrev pub LinesAreNumbered : Type 0
LinesAreNumbered = (lines : List NamedLine)
    → All (λ line. (1 ≤ line.0) × (line.0 ≤ length (sessions_of lines))) (numbered lines)

-- the lines of a script are an interleaving of its parts
abbrev pub PartsInterleave : Type 0
PartsInterleave = (lines : List NamedLine) (parts : List Part)
    → AreParts lines parts → Interleaves (numbered lines) (commands_by_part parts)

-- which have as many commands as there are lines
abbrev pub PartsAddUp : Type 0
PartsAddUp = (lines : List NamedLine) (parts : List Part)
    → AreParts lines parts → sum_by (λ (p : Part). length p.commands) parts ≡ length lines

-- lines are an interleaving of no other lists than those of each session's commands
abbrev pub OneParting : Type 0
OneParting = (lines : List Line) (parts : List (List Command)) (k : ℕ) (d : List Command)
    → Interleaves lines parts → k < length parts
    → slice_index_or parts k d ≡ commands_of (k + 1) lines
