-- Where the program looks in the cache file.
use Rattle.std.specs.Prelude.{Bool, bytes_eq, codes}
use Rattle.dv_model.specs.declared.types.Extension.{Extension}
use Rattle.dv_openings.specs.TrueCaches.{Look as Looked}
use Rattle.dv_lookups.specs.declared.looks.Look.{Look}

-- the same place
abbrev pub look_seen : Look → Looked
look_seen look = record { seq = look.seq; offset = look.offset }

-- the extension that has the cache file
abbrev pub is_cache : Extension → Bool
is_cache extension = bytes_eq extension.name (codes "cache")
