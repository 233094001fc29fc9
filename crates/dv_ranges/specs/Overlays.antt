-- What is done to flags at one UID.
use Rattle.std.specs.Prelude.{ℕ, Option, Some, None}
use Rattle.dv_model.specs.Effects.{with_bits}
use Rattle.dv_ranges.specs.declared.overlays.Bits.{Bits}

-- bits are removed and added, or nothing is done
abbrev pub bits_after : Option Bits → ℕ → ℕ
bits_after None flags = flags
bits_after (Some bits) flags = with_bits bits.add bits.remove flags
