use Rattle.std.proofs.Common.{◌≡◌, ◌∙◌, Some, ap, sym}
use Rattle.std.specs.Prelude.{option_map, position, slice_get}
use Rattle.dv_interleavings.specs.Worlds.{Session}
use Rattle.dv_world.specs.Shapes.{Plain, session_at}
use Rattle.dv_world.proofs.Found.{found, is_of, none, there_is}
use Rattle.dv_world.proofs.world.World.answers.Goals as goal

pub returns-in-Some : goal.returns-in-Some
returns-in-Some c =
    let seats = c.self.inside.kept.seats.items in
    let s = c.args.session in
    let at = c.in-Some.at in
    let place : position (is_of s) seats ≡ Some at = ap (position (is_of s)) (sym c.deref.ensures.value) ∙ sym c.place_of.ensures ∙ c.in-Some.is in
    let seat = c.index.result.now in
    let there : slice_get seats at ≡ Some seat = there_is seats s at seat place c.index.ensures in
    ap Some c.deref-in-Some.ensures.value
    ∙ sym (ap (λ (p : Plain). option_map (λ (x : Session). x.answers) (session_at p.sessions s)) (sym c.self.view_is) ∙ ap (option_map (λ (x : Session). x.answers)) (found seats s at seat place there))

pub returns-in-None : goal.returns-in-None
returns-in-None c =
    let seats = c.self.inside.kept.seats.items in
    let s = c.args.session in
    sym (ap (λ (p : Plain). option_map (λ (x : Session). x.answers) (session_at p.sessions s)) (sym c.self.view_is)
    ∙ ap (option_map (λ (x : Session). x.answers)) (none seats s (ap (position (is_of s)) (sym c.deref.ensures.value) ∙ sym c.place_of.ensures ∙ c.in-None.is)))
