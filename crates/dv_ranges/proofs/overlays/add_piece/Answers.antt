use Rattle.std.proofs.Common.{◌-◌, cond, Option, sym, ◌∙◌, ap, subst, arith}
use Rattle.std.specs.Prelude.{◌&&◌, nat_le, nat_lt}
use Rattle.dv_model.specs.declared.types.Change.{Change}
use Rattle.dv_ranges.specs.declared.overlays.Bits.{Bits}
use Rattle.dv_ranges.specs.Overlays.{bits_after}
use Rattle.dv_ranges.specs.Ranges.{AreChangesApart, flags_after}
use Rattle.dv_ranges.proofs.Apart.{put}
use Rattle.dv_ranges.proofs.Flags.{none, piece}
use Rattle.dv_ranges.proofs.overlays.add_piece.Goals as goal

pub returns-in_default-clause-is : goal.returns-in_default-clause-is
returns-in_default-clause-is c = λ uid flags.
    none c.args.made.now.items c.args.from c.args.until uid flags c.requires.before
    ∙ ap (λ (o : Option Bits). cond (nat_le c.args.from uid && nat_lt uid c.args.until) (bits_after o flags) (flags_after uid flags c.args.made.now.items)) (sym c.in_default.is)

pub returns-clause-is : goal.returns-clause-is
returns-clause-is c = λ uid flags.
    let old = c.args.made.now.items in
    let bits = c.in-Some.bits in
    ap (flags_after uid flags) c.in_ok-push.ensures.items
    ∙ piece old c.args.from c.args.until bits.add bits.remove uid flags c.requires.some c.requires.before
    ∙ ap (λ (o : Option Bits). cond (nat_le c.args.from uid && nat_lt uid c.args.until) (bits_after o flags) (flags_after uid flags old)) (sym c.in-Some.is)

pub returns-clause-apart : goal.returns-clause-apart
returns-clause-apart c =
    let bits = c.in-Some.bits in
    subst AreChangesApart (sym c.in_ok-push.ensures.items)
    (put (λ (x : Change). x.first) (λ (x : Change). x.last) 0 c.args.made.now.items (record { first = c.args.from; last = c.args.until - 1; add = bits.add; remove = bits.remove }) c.requires.apart c.requires.before (omega arith) (omega (arith, c.requires.some)))
