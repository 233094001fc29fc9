-- The lines of a script parted by session.
use Rattle.std.specs.Prelude.{◌≡◌, ℕ, ◌+◌, ◌<◌, List, [], ◌∷◌, bytes_eq, filter, if◌then◌else◌, length, map, slice_index_or}
use Rattle.dv_model.specs.declared.types.Command.{Command}
use Rattle.dv_model.specs.Transcripts.{commands_of}
use Rattle.dv_formats.specs.Scripts.{NamedLine, sessions_of}
use Rattle.dv_serving.specs.Scripts.{numbered}
use Rattle.dv_parts.specs.declared.parts.Part.{Part}

-- one part for each session, in the order of first lines, each with the commands of its session's
-- lines in their order; sessions are numbered from 1 on
pub record AreParts (lines : List NamedLine) (parts : List Part) : Type 0 where
  pub names : map (λ (p : Part). p.name) parts ≡ sessions_of lines
  pub commands : (k : ℕ) (d : Part) → k < length parts
      → (slice_index_or parts k d).commands ≡ commands_of (k + 1) (numbered lines)

-- ---- while lines are given

-- the commands of the session of this name among the lines
abbrev pub commands_named : List ℕ → List NamedLine → List Command
commands_named name lines =
    map (λ (l : NamedLine). l.1) (filter (λ (l : NamedLine). bytes_eq l.0 name) lines)

-- the commands of the part of this name
abbrev pub commands_in : List Part → List ℕ → List Command
commands_in [] name = []
commands_in (p ∷ parts) name = if bytes_eq name p.name then p.commands else commands_in parts name

-- these lines gave these parts
pub record AreGiven (lines : List NamedLine) (parts : List Part) : Type 0 where
  pub names : map (λ (p : Part). p.name) parts ≡ sessions_of lines
  pub commands : (name : List ℕ) → commands_in parts name ≡ commands_named name lines
