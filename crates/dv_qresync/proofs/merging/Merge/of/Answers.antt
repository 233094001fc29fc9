use Rattle.std.proofs.Common.{◌∷◌, [], List, ◌∙◌, ap, arith, length, sym}
use Rattle.std.specs.Prelude.{reverse}
use Rattle.std.proofs.lemmas.List.{drop_all, reverse-append}
use Rattle.dv_qresync.specs.declared.types.Cached.{Cached}
use Rattle.dv_qresync.proofs.Rows.{taken_back}
use Rattle.dv_qresync.proofs.merging.Merge.of.Goals as goal

pub loop-left-init : goal.loop-left-init
loop-left-init c =
    let rows : List Cached = c.as_slice-rows.result.now in
    record { inside = omega arith; after = ap reverse c.in_ok-after.ensures.items ∙ sym (drop_all (length rows) rows (omega arith)) }

pub loop-left-preserved : goal.loop-left-preserved
loop-left-preserved c =
    let rows : List Cached = c.as_slice-rows.result.now in
    let x : Cached = c.index-rows-left.result in
    record {
      inside = omega (arith, c.loop-left.invariant.inside);
      after =
          ap reverse c.in_ok-push.ensures.items
          ∙ reverse-append c.loop-left.after.items (c.in_ok-copy_of.field-0 ∷ [])
          ∙ ap (λ (y : Cached). y ∷ reverse c.loop-left.after.items) c.in_ok-copy_of.ensures
          ∙ taken_back rows c.loop-left.left x (reverse c.loop-left.after.items) (omega (arith, c.loop-left-test.true)) c.loop-left.invariant.inside c.index-rows-left.is c.loop-left.invariant.after;
    }
