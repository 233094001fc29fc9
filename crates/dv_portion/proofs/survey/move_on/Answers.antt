use Rattle.std.proofs.Common.{refl, true, ap, sym, ◌∙◌}
use Rattle.dv_model.specs.declared.types.Body.TheVariants.{ExtHeaderUpdate, ExtIntro, ExtReset}
use Rattle.dv_model.specs.Effects.{on_current, with_header_parts, with_reset}
use Rattle.dv_ext.specs.declared.change.PartsChange.TheVariants.{Same}
use Rattle.dv_portion.proofs.Surveying.{effect_moves, intros_move, leaves_by_intros, leaves_other, moves_by, on_ok, others_leave}
use Rattle.dv_portion.proofs.survey.move_on.Goals as goal

pub returns-in-ExtIntro-clause-moves : goal.returns-in-ExtIntro-clause-moves
returns-in-ExtIntro-clause-moves c =
    on_ok c.intro_all.result c.intro_all.ensures.has (λ has.
    moves_by c.args.extensions.now c.intro_all.new.self c.args.body.now (ExtIntro c.as_slice.result.now) (c.in-ExtIntro.is ∙ ap ExtIntro (sym c.as_slice.ensures)) (intros_move c.args.extensions.now c.intro_all.new.self c.as_slice.result.now has))

pub returns-in-ExtIntro-clause-parts : goal.returns-in-ExtIntro-clause-parts
returns-in-ExtIntro-clause-parts c =
    leaves_by_intros c.intro_all.result c.args.extensions.now c.args.body.now c.as_slice.result.now (c.in-ExtIntro.is ∙ ap ExtIntro (sym c.as_slice.ensures)) c.intro_all.ensures.parts

pub returns-in-ExtReset-clause-moves : goal.returns-in-ExtReset-clause-moves
returns-in-ExtReset-clause-moves c =
    moves_by c.args.extensions.now c.reset.new.self c.args.body.now (ExtReset c.in-ExtReset.reset_id c.in-ExtReset.preserve) c.in-ExtReset.is
    (effect_moves c.args.extensions.now c.reset.new.self (ExtReset c.in-ExtReset.reset_id c.in-ExtReset.preserve) (λ m. on_current m (with_reset c.in-ExtReset.reset_id c.in-ExtReset.preserve m)) (λ m. refl) _ c.reset.ensures.does)

pub returns-in-ExtReset-clause-parts : goal.returns-in-ExtReset-clause-parts
returns-in-ExtReset-clause-parts c = leaves_other true c.args.extensions.now c.args.body.now (λ intros e. let never = sym c.in-ExtReset.is ∙ e in absurd cc)

pub returns-in-ExtHeaderUpdate-clause-moves : goal.returns-in-ExtHeaderUpdate-clause-moves
returns-in-ExtHeaderUpdate-clause-moves c =
    moves_by c.args.extensions.now c.header.new.self c.args.body.now (ExtHeaderUpdate c.in-ExtHeaderUpdate.parts) c.in-ExtHeaderUpdate.is
    (effect_moves c.args.extensions.now c.header.new.self (ExtHeaderUpdate c.in-ExtHeaderUpdate.parts) (λ m. on_current m (with_header_parts c.in-ExtHeaderUpdate.parts m)) (λ m. refl) Same c.header.ensures.does)

pub returns-in-ExtHeaderUpdate-clause-parts : goal.returns-in-ExtHeaderUpdate-clause-parts
returns-in-ExtHeaderUpdate-clause-parts c = leaves_other true c.args.extensions.now c.args.body.now (λ intros e. let never = sym c.in-ExtHeaderUpdate.is ∙ e in absurd cc)

pub returns-in_default-clause-moves : goal.returns-in_default-clause-moves
returns-in_default-clause-moves c = others_leave c.args.extensions.now c.args.body.now c.in_default.not-ExtIntro c.in_default.not-ExtReset c.in_default.not-ExtHeaderUpdate

pub returns-in_default-clause-parts : goal.returns-in_default-clause-parts
returns-in_default-clause-parts c = leaves_other true c.args.extensions.now c.args.body.now c.in_default.not-ExtIntro
