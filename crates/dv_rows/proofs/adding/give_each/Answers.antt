use Rattle.std.proofs.Common.{get_or, map, refl, subst, sym, take, ◌∙◌, ap}
use Rattle.std.specs.Prelude.{nat_eq}
use Rattle.std.proofs.lemmas.List.{take_all}
use Rattle.std.proofs.lemmas.List.Folds.{map_fixed}
use Rattle.dv_rows.proofs.GivenPlaces.{among_next, some_added, some_rise, some_uid}
use Rattle.dv_rows.proofs.Rising.{mapped_rows}
use Rattle.dv_rows.specs.Adding.{AreInOrder}
use Rattle.dv_rows.specs.Kept.{AreRows}
use Rattle.dv_rows.specs.Parted.{is_among}
use Rattle.dv_rows.proofs.adding.give_each.Goals as goal

pub loop-uid-init : goal.loop-uid-init
loop-uid-init c = record {
  are = c.requires.rows;
  order = c.requires.order;
  given = λ before so_far. so_far;
  is = sym (map_fixed (some_added c.args.modseq c.args.place (is_among (take 0 c.args.uids.now))) c.args.rows.now (λ k d h. refl));
}

pub loop-uid-preserved : goal.loop-uid-preserved
loop-uid-preserved c =
    let rows = c.loop-uid.rows in
    let n = c.args.modseq in
    let k = c.args.place in
    let uid = get_or c.args.uids.now c.loop-uid.uid-index 0 in
    let is = c.in_ok-give_one.ensures.ok in
    record {
      are = subst AreRows (sym is) (mapped_rows (some_added n k (nat_eq uid)) (some_uid n k (nat_eq uid)) rows c.loop-uid.invariant.are);
      order = subst AreInOrder (sym is) (some_rise n k (nat_eq uid) rows c.loop-uid.invariant.order);
      given = λ before so_far. c.in_ok-give_one.ensures.given before (c.loop-uid.invariant.given before so_far);
      is = among_next n k c.args.uids.now c.loop-uid.uid-index uid c.args.rows.now rows c.give_one.new.rows c.loop-uid-test.true refl c.loop-uid.invariant.is is;
    }

pub returns-clause-ok : goal.returns-clause-ok
returns-clause-ok c =
    c.loop-uid.invariant.is
    ∙ ap (λ xs. map (some_added c.args.modseq c.args.place (is_among xs)) c.args.rows.now) (take_all c.loop-uid.uid-index c.args.uids.now c.loop-uid-test.false)
