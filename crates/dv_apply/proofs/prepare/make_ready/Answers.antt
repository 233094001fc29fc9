use Rattle.std.proofs.Common.{refl, subst, sym}
use Rattle.dv_apply.proofs.Lightness.{changeable}
use Rattle.dv_apply.specs.Preparing.{AreChangeable}
use Rattle.dv_apply.specs.States.{mailbox_of}
use Rattle.dv_apply.proofs.prepare.make_ready.Goals as goal

pub make_light-requires-clause-uids : goal.make_light-requires-clause-uids
make_light-requires-clause-uids c =
    let m = mailbox_of c.args.state.now in
    subst (AreChangeable m c.args.records.now) (sym c.shrink_to_fit.ensures.items)
    (changeable m c.args.records.now c.in_ok-uids.uids.items c.sort_uids.new.uids.items (λ range. c.in_ok-uids.ensures.named m c.requires.kept.valid range refl) c.in_ok-uids.ensures.only c.sort_uids.ensures.rising c.sort_uids.ensures.same)

pub make_share-requires-clause-uids : goal.make_share-requires-clause-uids
make_share-requires-clause-uids c =
    let m = mailbox_of c.args.state.now in
    subst (AreChangeable m c.args.records.now) (sym c.shrink_to_fit.ensures.items)
    (changeable m c.args.records.now c.in_ok-uids.uids.items c.sort_uids.new.uids.items (λ range. c.in_ok-uids.ensures.named m c.requires.kept.valid range refl) c.in_ok-uids.ensures.only c.sort_uids.ensures.rising c.sort_uids.ensures.same)
