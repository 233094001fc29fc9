-- One search key that is the whole of a text.
use Rattle.std.specs.Prelude.{ℕ, List, Option}
use Rattle.dv_model.specs.declared.types.Key.{Key}
use Rattle.dv_formats.specs.Scripts.{key_levels}
use Rattle.dv_formats.specs.Parsing.{◌>>=◌, ended, key_at}

-- the key of a text that is one key, nested no deeper than a SEARCH lets it
abbrev pub key_of : List ℕ → Option Key
key_of b = key_at key_levels b >>= λ read. ended read.1 read.0
