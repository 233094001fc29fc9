use Rattle.std.proofs.Common.{List, Err, sym, ◌∙◌, ap, subst}
use Rattle.std.specs.Prelude.{IsSome}
use Rattle.dv_model.specs.declared.types.Record.{Record}
use Rattle.dv_model.specs.Effects.{applied}
use Rattle.dv_plans.proofs.Applied.{never_bad}
use Rattle.dv_mdbox.proofs.readying.prepare.Goals as goal

pub unreachable-requires : goal.unreachable-requires
unreachable-requires c =
    let m = c.args.live.now.mailbox in
    never_bad c.prepare.result m c.as_slice.result.now c.in-Err-BadAppend.field-0-0 c.in-Err-BadAppend.field-0-1 (c.in-Err-BadAppend.is ∙ ap Err c.in-Err-BadAppend.field-0-is) c.prepare.ensures.bad
    (subst (λ (rs : List Record). IsSome (applied m rs)) (sym c.as_slice.ensures) c.requires.applies)
