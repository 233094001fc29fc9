use Rattle.std.proofs.Common.{nat_eq, ◌∙◌, sym}
use Rattle.dv_model.specs.declared.types.Shown.{Shown}
use Rattle.dv_view.proofs.Finding.{any_by_place}
use Rattle.dv_view.proofs.places.shows.Goals as goal

pub returns : goal.returns
returns c = c.is_some.ensures ∙ sym (any_by_place (λ (s : Shown). nat_eq s.uid c.args.uid) c.args.rows.now c.place_of.result (sym c.place_of.ensures.is))
