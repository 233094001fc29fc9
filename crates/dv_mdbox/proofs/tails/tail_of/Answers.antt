use Rattle.std.proofs.Common.{◌≡◌, ◌∙◌, List, ap, subst, arith}
use Rattle.dv_model.specs.declared.types.Extension.{Extension}
use Rattle.dv_maps.specs.declared.place.Place.{Place}
use Rattle.dv_maps.specs.Maps.{place_of, row_place}
use Rattle.dv_mdbox.specs.Tails.{Extends}
use Rattle.dv_mdbox.proofs.Tailing.{tail_more}
use Rattle.dv_mdbox.proofs.tails.tail_of.Goals as goal

pub loop-k-preserved : goal.loop-k-preserved
loop-k-preserved c =
    let m = c.args.live.now.mailbox in
    let row = c.row-row.result.now in
    let old = c.loop-k.tail in
    let new = c.extended.result in
    let same : c.place_of-place.result ≡ row_place m row =
    c.place_of-place.ensures ∙ ap (λ (e : List Extension). place_of e c.as_slice.result.now) c.loop-k.invariant.extensions ∙ ap (place_of m.extensions) c.as_slice.ensures in
    record {
      tail = tail_more m c.loop-k.k row old new (omega (arith, c.loop-k-test.true, c.count-k-end.ensures)) c.row-row.ensures c.loop-k.invariant.tail (subst (λ (p : Place). Extends old p new) same c.extended.ensures);
      extensions = c.loop-k.invariant.extensions;
    }
