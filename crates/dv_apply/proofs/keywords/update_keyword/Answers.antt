use Rattle.std.proofs.Common.{refl, arith, ap, sym, ◌∙◌}
use Rattle.dv_model.specs.declared.types.Body.TheVariants.{KeywordUpdate}
use Rattle.dv_apply.specs.Bodies.{after_body}
use Rattle.dv_apply.specs.States.{mailbox_of}
use Rattle.dv_apply.proofs.Becoming.{rows_become}
use Rattle.dv_apply.proofs.Changing.{keyword_unknown}
use Rattle.dv_apply.proofs.keywords.update_keyword.Goals as goal

pub returns-in-Remove-clause-ok : goal.returns-in-Remove-clause-ok
returns-in-Remove-clause-ok c =
    let s = c.args.state.now in
    let none = sym c.index_of.ensures ∙ c.in_default.is in
    rows_become s (KeywordUpdate c.args.how c.args.name.now c.args.pairs.now) s.rows.rows s.rows c.higher-state.result c.requires.kept c.requires.name
    (ap (λ how. after_body (mailbox_of s) (KeywordUpdate how c.args.name.now c.args.pairs.now)) c.in-Remove.is ∙ keyword_unknown (mailbox_of s) c.args.name.now c.args.pairs.now none)
    refl c.higher-state.ensures refl (omega arith)
