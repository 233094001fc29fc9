-- How deep the keys of a command may nest.
use Rattle.std.specs.Prelude.{◌≤◌}
use Rattle.dv_model.specs.declared.types.Command.{Command}
use Rattle.dv_model.specs.declared.types.Command.TheVariants as command
use Rattle.dv_search.specs.Nesting.{levels_of, most_levels}

-- the key of a SEARCH nests as deep as its grammar lets it (RFC 3501, section 6.4.4)
abbrev pub IsShallow : Command → Type 0
IsShallow (command.Search by_uid key) = levels_of key ≤ most_levels
IsShallow c = Unit {0}
