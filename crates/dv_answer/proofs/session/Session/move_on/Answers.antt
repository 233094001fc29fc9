use Rattle.std.proofs.Common.{◌≡◌, ◌∙◌, ap, length, subst, sym}
use Rattle.std.specs.List.Sorted.{IsStrictlyIncreasing}
use Rattle.std.proofs.lemmas.List.Kept.{IsStrictlyIncreasing-filter}
use Rattle.dv_model.specs.Views.{View, moved}
use Rattle.dv_answer.specs.Following.{Follower, Tracks, is_untold, untold}
use Rattle.dv_answer.proofs.Keeping.{fresh_here, move_tracks, patched_here}
use Rattle.dv_answer.proofs.session.Session.move_on.Goals as goal

pub add_said_by-requires : goal.add_said_by-requires
add_said_by-requires g c =
    let m = c.args.live.now.mailbox in
    let inside = c.self.inside in
    let number = c.next_uid-next_uid.ensures in
    fresh_here m inside.view inside.touched c.uids.result.now c.next_uid-next_uid.result c.names.result.now.names c.in_ok-fresh.fresh c.in_ok-fresh.ensures c.uids.ensures.is number.is c.names.ensures number.valid
    (subst (λ (f : Follower). Tracks m f.state.view f.touched) (sym c.self.view_is) c.requires)

pub follow-requires : goal.follow-requires
follow-requires g c =
    let m = c.args.live.now.mailbox in
    let inside = c.self.inside in
    let number = c.next_uid-next_uid.ensures in (
      length c.names.result.now.names,
      fresh_here m inside.view inside.touched c.uids.result.now c.next_uid-next_uid.result c.names.result.now.names c.in_ok-fresh.fresh c.in_ok-fresh.ensures c.uids.ensures.is number.is c.names.ensures number.valid
          (subst (λ (f : Follower). Tracks m f.state.view f.touched) (sym c.self.view_is) c.requires),
    )

pub of-requires : goal.of-requires
of-requires g c =
    subst IsStrictlyIncreasing (sym c.retain_untold.ensures)
    (IsStrictlyIncreasing-filter (is_untold c.args.live.now.mailbox c.follow.new.self) c.into_uids-uids.result.items (subst IsStrictlyIncreasing (sym c.into_uids-uids.ensures.is) c.into_uids-uids.ensures.rising))

pub returns-clause-abreast : goal.returns-clause-abreast
returns-clause-abreast g c =
    let m = c.args.live.now.mailbox in
    let inside = c.self.inside in
    let number = c.next_uid-next_uid.ensures in
    let tracks : Tracks m inside.view inside.touched = subst (λ (f : Follower). Tracks m f.state.view f.touched) (sym c.self.view_is) c.requires in
    let patched = patched_here m inside.view inside.touched c.uids.result.now c.next_uid-next_uid.result c.names.result.now.names c.in_ok-fresh.fresh c.in_ok-fresh.ensures c.uids.ensures.is number.is c.names.ensures number.valid tracks in
    let view : c.follow.new.self ≡ moved c.args.step inside.view m = c.in_ok-follow.ensures.view c.names.result.now.names m patched in
    let touched : c.of.result ≡ untold m c.follow.new.self inside.touched =
    c.of.ensures ∙ c.retain_untold.ensures ∙ ap (untold m c.follow.new.self) (c.into_uids-uids.ensures.is ∙ c.replace.ensures.value) in
    λ same. subst (Tracks m c.follow.new.self) (sym touched) (subst (λ (v : View). Tracks m v (untold m v inside.touched)) (sym view) (move_tracks c.args.step m inside.view inside.touched number.valid tracks))
