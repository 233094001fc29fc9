use Rattle.std.proofs.Common.{◌∙◌, subst, sym}
use Rattle.dv_model.specs.declared.types.Row.{Row}
use Rattle.dv_model.specs.Effects.{keywords_after}
use Rattle.dv_validity.specs.Laws.{restamped}
use Rattle.dv_rows.specs.Changed.{changed_keywords}
use Rattle.dv_rows.specs.Plans.{IsPlan}
use Rattle.dv_rows.proofs.PutBack.{written_back}
use Rattle.dv_rows.proofs.keywords.change_keywords.Goals as goal

pub returns-clause-ok : goal.returns-clause-ok
returns-clause-ok c =
    let plan : IsPlan c.args.pairs.now c.args.how c.args.place c.as_mut_slice.result.now c.in_ok-others.others.items =
    subst (λ l. IsPlan c.args.pairs.now c.args.how c.args.place l c.in_ok-others.others.items) (c.deref.ensures.value ∙ sym c.as_mut_slice.ensures.value) c.in_ok-others.ensures in
    written_back (λ (row : Row). restamped c.args.modseq row (changed_keywords c.args.pairs.now (keywords_after c.args.how c.args.place) row)) c.args.rows.now.items c.as_mut_slice.result.now c.put_others.new.rows c.args.rows.now.len
    c.as_mut_slice.ensures.value c.as_mut_slice.ensures.len (c.put_others.ensures c.args.pairs.now c.args.how c.args.place plan)
