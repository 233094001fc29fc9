-- What a clock in memory will read.
use Rattle.std.proofs.Common.{ℕ, ◌+◌, ◌-◌, ◌^◌, ◌<◌, length, arith}
use Rattle.std.specs.Prelude.{min}
use Rattle.std.proofs.lemmas.List.Elements.{All-get_or}
use Rattle.dv_shelf.specs.declared.mem_clock.MemClock.{MemClock}
use Rattle.dv_shelf.specs.Clocks.{reading, behind}

-- the readings behind those that were taken
abbrev pub readings_to_come : MemClock → ℕ → ℕ
readings_to_come clock = behind (reading clock.readings.items) clock.at

-- each of them is a number of 32 bits
pub readings_small : (clock : MemClock) (k : ℕ) → readings_to_come clock k < 2 ^ 32
readings_small clock k =
    All-get_or (λ (n : ℕ). n < 2 ^ 32) clock.readings.items (min (clock.at + k) (length clock.readings.items - 1)) 0 (omega (arith, clock.some)) clock.small
