use Rattle.std.proofs.Common.{◌≡◌, [], ◌∷◌, ◌++◌, ◌<◌, arith, get_or, length, refl, rules, subst, sym}
use Rattle.std.specs.Prelude.{All}
use Rattle.std.proofs.Math.ListN.{set}
use Rattle.std.proofs.lemmas.List.{get_or_append_left, get_or_default, get_or_push, length_push}
use Rattle.dv_model.specs.declared.types.Row.{Row}
use Rattle.dv_rows.specs.declared.keywords.Other.{Other}
use Rattle.dv_rows.proofs.Putting.{IsPutTo, put_ends, put_more}
use Rattle.dv_rows.proofs.keywords.put_others.Goals as goal

pub loop-other-preserved : goal.loop-other-preserved
loop-other-preserved c =
    let rows = c.loop-other.rows in
    let other : Other = c.in-Some.other in
    let left = c.pop.new.self.items in
    let row : Row = get_or rows other.at c.index-rows-other.result in
    let popped : c.loop-other.others.items ≡ left ++ other ∷ [] = c.in-Some.ensures.items in
    let many = length_push left other in
    let within : other.at < length c.args.rows.now =
    subst (λ (o : Other). o.at < length c.args.rows.now) (get_or_push left other other (length left) refl) (subst (All (λ (o : Other). o.at < length c.args.rows.now)) popped c.loop-other.invariant.inside (length left) other (omega (arith, many))) in
    let long : length rows ≡ length c.args.rows.now = c.loop-other.auto.rows in
    record {
      inside = λ k d h. subst (λ (o : Other). o.at < length c.args.rows.now) (get_or_append_left left (other ∷ []) d k h) (subst (All (λ (o : Other). o.at < length c.args.rows.now)) popped c.loop-other.invariant.inside k d (omega (arith, many, h)));
      put = λ pairs how place plan.
          let so_far = c.loop-other.invariant.put pairs how place plan in
          subst (λ r. IsPutTo pairs how place c.args.modseq c.args.rows.now (set rows other.at r) left) (sym c.put.ensures)
          (put_more pairs how place c.args.modseq c.args.rows.now rows c.loop-other.others.items left other row so_far popped
          (get_or_default rows other.at c.index-rows-other.result row (omega (arith, within, long))));
    }

pub returns : goal.returns
returns c =
    let none : c.loop-other.others.items ≡ [] = search rules in
    λ pairs how place plan. put_ends pairs how place c.args.modseq c.args.rows.now c.loop-other.rows c.loop-other.others.items (c.loop-other.invariant.put pairs how place plan) none
