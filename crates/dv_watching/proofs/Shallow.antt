-- A key that is read nests no deeper than it may.
use Rattle.std.proofs.Common.{◌≡◌, inl, ◌≤◌, List, ℕ, Some}
use Rattle.dv_model.specs.declared.types.Key.{Key}
use Rattle.dv_commands.specs.Keys.{key_of}
use Rattle.dv_grammar.proofs.Keys.{whole_key_sound}
use Rattle.dv_search.proofs.Depths.{sought_levels}
use Rattle.dv_search.specs.Nesting.{levels_of, most_levels}

pub read_shallow : (b : List ℕ) (key : Key) → key_of b ≡ Some key → levels_of key ≤ most_levels
read_shallow b key read = sought_levels key b (inl (whole_key_sound b key read))
