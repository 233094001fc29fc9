use Rattle.std.proofs.Common.{◌∙◌, ap, sym}
use Rattle.dv_model.specs.declared.types.Row.{Row}
use Rattle.dv_rows.proofs.Rising.{all_below, is_missing, is_there}
use Rattle.dv_rows.proofs.places.place_of.Goals as goal

pub returns-then-at-rows-clause-is : goal.returns-then-at-rows-clause-is
returns-then-at-rows-clause-is c =
    sym (all_below c.args.rows.now c.args.uid c.place_from-at.result c.place_from-at.ensures.is c.place_from-at.ensures.inside c.if-at-rows.true)

pub returns-then-rows-at-clause-is : goal.returns-then-rows-at-clause-is
returns-then-rows-at-clause-is c =
    sym
    (is_missing c.args.rows.now c.args.uid c.place_from-at.result c.index-rows-at.result c.requires c.place_from-at.ensures.is c.if-at-rows.false c.index-rows-at.is
    (λ e. c.if-rows-at.true (ap (λ (row : Row). row.uid) (sym c.index-rows-at.is) ∙ e)))

pub returns-clause-is : goal.returns-clause-is
returns-clause-is c =
    sym (is_there c.args.rows.now c.args.uid c.place_from-at.result c.index-rows-at.result c.place_from-at.ensures.is c.if-at-rows.false c.index-rows-at.is (ap (λ (row : Row). row.uid) c.index-rows-at.is ∙ c.if-rows-at.false))
