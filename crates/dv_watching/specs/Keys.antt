-- The key of a text whose result can be kept.
use Rattle.std.specs.Prelude.{List, ℕ, Option, Some, None, if◌then◌else◌}
use Rattle.dv_model.specs.declared.types.Key.{Key}
use Rattle.dv_formats.specs.Parsing.{◌>>=◌}
use Rattle.dv_commands.specs.Keys.{key_of}
use Rattle.dv_live.specs.Steadiness.{steady}

-- a key whose result can follow a mailbox
abbrev pub kept_where : Key → Option Key
kept_where key = if steady key then Some key else None

-- the text is one key, and that one such
abbrev pub steady_key : List ℕ → Option Key
steady_key text = key_of text >>= kept_where
