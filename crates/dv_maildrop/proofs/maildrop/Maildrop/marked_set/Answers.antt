use Rattle.std.proofs.Common.{◌≡◌, Bool, List, map, ◌∙◌, ap}
use Rattle.std.proofs.lemmas.Result.{IfOk-weaker}
use Rattle.dv_model.specs.declared.types.Span.{Span}
use Rattle.dv_maildrop.specs.declared.types.Listed.{Listed}
use Rattle.dv_maildrop.specs.Counts.{chosen}
use Rattle.dv_maildrop.specs.Maildrops.{Transaction, marked_set, uid_span}
use Rattle.dv_maildrop.proofs.Kept.{marked_are}
use Rattle.dv_maildrop.proofs.maildrop.Maildrop.marked_set.Goals as goal

abbrev spans_of : List Listed → List Bool → List Span
spans_of rows flags = map (λ row. uid_span row.1.uid) (chosen (λ flag. flag) 1 rows flags)

pub returns : goal.returns
returns c =
    let m : Transaction = record { uid_validity = c.self.inside.uid_validity; rows = c.self.inside.rows; marked = c.self.inside.marked.items; ended = c.self.inside.ended } in
    let rows : List Listed = c.as_slice.result.now in
    let flags : List Bool = c.self.inside.flags.items in
    let is : spans_of rows c.deref.result.now ≡ marked_set c.args.self.now =
    ap (λ (fs : List Bool). spans_of rows fs) c.deref.ensures.value
    ∙ ap (λ (rs : List Listed). spans_of rs flags) c.as_slice.ensures
    ∙ marked_are m flags c.self.inside.count c.self.inside.octets c.self.inside.whole c.self.invariant
    ∙ ap marked_set c.self.view_is in
    IfOk-weaker c.set_of.result _ _ (λ set h. h ∙ is) c.set_of.ensures
