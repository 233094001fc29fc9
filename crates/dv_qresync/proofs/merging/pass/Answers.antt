use Rattle.std.proofs.Common.{◌<◌, ◌++◌, List, ◌∙◌, ap, arith, refl, subst, sym}
use Rattle.std.specs.Prelude.{All, reverse}
use Rattle.std.proofs.lemmas.List.Elements.{All-push}
use Rattle.dv_qresync.specs.declared.types.Cached.{Cached}
use Rattle.dv_qresync.specs.Merging.{rows_in}
use Rattle.dv_qresync.specs.Replicas.{with_cached}
use Rattle.dv_qresync.proofs.Merged.{passed_on, put_behind}
use Rattle.dv_qresync.proofs.merging.pass.Goals as goal

pub loop-row-init : goal.loop-row-init
loop-row-init c = record {
  at = c.requires;
  rows = λ row same. put_behind row c.args.merge.now.before.items (reverse c.args.merge.now.after.items) (subst (λ u. All (λ (r : Cached). r.uid < u) c.args.merge.now.before.items) (sym same) c.requires);
  validity = refl;
  highest = refl;
}

pub loop-row-preserved : goal.loop-row-preserved
loop-row-preserved c =
    let x : Cached = c.in-Some.row in
    let less : x.uid < c.args.uid = omega arith in
    record {
      at = subst (All (λ (r : Cached). r.uid < c.args.uid)) (sym c.in_ok-push-2.ensures.items) (All-push (λ (r : Cached). r.uid < c.args.uid) c.loop-row.merge.before.items x c.loop-row.invariant.at less);
      rows = λ row same.
          passed_on row (rows_in c.args.merge.now) c.loop-row.merge.before.items c.loop-row.merge.after.items c.pop.new.self.items x (c.loop-row.invariant.rows row same) c.in-Some.ensures.items (omega arith)
          ∙ ap (λ (cs : List Cached). cs ++ with_cached row (reverse c.pop.new.self.items)) (sym c.in_ok-push-2.ensures.items);
      validity = c.loop-row.invariant.validity;
      highest = c.loop-row.invariant.highest;
    }
