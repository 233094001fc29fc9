use Rattle.std.proofs.Common.{refl, arith}
use Rattle.dv_model.specs.declared.types.Body.TheVariants.{KeywordUpdate}
use Rattle.dv_apply.specs.States.{mailbox_of}
use Rattle.dv_apply.proofs.Becoming.{rows_become}
use Rattle.dv_apply.proofs.Changing.{known_changed}
use Rattle.dv_apply.proofs.keywords.change_known.Goals as goal

pub returns-clause-ok : goal.returns-clause-ok
returns-clause-ok c =
    let s = c.args.state.now in
    rows_become s (KeywordUpdate c.args.how c.args.name.now c.args.pairs.now) _ c.change_keywords.new.rows c.higher-modseq.result c.requires.kept c.requires.name (known_changed (mailbox_of s) c.args.how c.args.name.now c.args.pairs.now c.args.place c.higher-modseq.result c.requires.kept.valid c.requires.known c.higher-modseq.ensures) c.in_ok-change_keywords.ensures.ok c.higher-modseq.ensures refl (omega (arith, c.change_keywords.ensures.room))
