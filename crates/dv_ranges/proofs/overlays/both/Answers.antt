use Rattle.std.proofs.Common.{Option, Some, sym, ◌∙◌, ap}
use Rattle.dv_ranges.specs.declared.overlays.Bits.{Bits}
use Rattle.dv_ranges.specs.Overlays.{bits_after}
use Rattle.dv_ranges.proofs.Flags.{twice}
use Rattle.dv_ranges.proofs.overlays.both.Goals as goal

pub returns : goal.returns
returns c = λ flags.
    let one = c.in-Some.first in
    let two = c.in-Some-two.second in
    twice flags one.add one.remove two.add two.remove
    ∙ ap (λ (o : Option Bits). bits_after (Some two) (bits_after o flags)) (sym c.in-Some.is)
    ∙ ap (λ (o : Option Bits). bits_after o (bits_after c.args.one flags)) (sym c.in-Some-two.is)
