use Rattle.std.proofs.Common.{◌≡◌, ◌∙◌, ap, arith, length}
use Rattle.std.proofs.lemmas.List.{length-map}
use Rattle.dv_model.specs.declared.types.Row.{Row}
use Rattle.dv_rows.proofs.Rising.{few}
use Rattle.dv_rows.proofs.rows.Rows.of.Goals as goal

pub tally-counts-requires : goal.tally-counts-requires
tally-counts-requires c =
    let many = few c.args.rows c.requires in
    let same : length c.deref-2.result.now ≡ length c.deref.result.now = ap length (c.deref-2.ensures.value ∙ c.in_ok-notes.ensures) ∙ length-map c.deref.result.now (λ (row : Row). row.flags) in
    let all : length c.deref.result.now ≡ length c.args.rows = ap length (c.deref.ensures.value ∙ c.into_vec-rows.ensures) in
    omega arith
