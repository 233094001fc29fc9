use Rattle.std.proofs.Common.{refl, arith}
use Rattle.dv_model.specs.declared.types.Body.TheVariants.{KeywordReset}
use Rattle.dv_apply.specs.States.{mailbox_of}
use Rattle.dv_apply.proofs.Becoming.{rows_become}
use Rattle.dv_apply.proofs.Changing.{keywords_cleared}
use Rattle.dv_apply.proofs.keywords.clear_keywords.Goals as goal

pub returns : goal.returns
returns c =
    let s = c.args.state.now in
    rows_become s (KeywordReset c.args.pairs.now) _ c.clear_keywords.new.rows c.higher-state.result c.requires tt (keywords_cleared (mailbox_of s) c.args.pairs.now c.higher-state.result c.requires.valid c.higher-state.ensures) c.clear_keywords.ensures.rows c.higher-state.ensures refl (omega (arith, c.clear_keywords.ensures.room))
