use Rattle.std.proofs.Common.{◌≡◌, ◌∙◌, ℕ, ap, subst}
use Rattle.std.specs.Prelude.{IfOk}
use Rattle.dv_openings.specs.Openings.{with_numbers}
use Rattle.dv_openings.specs.Salvages.{Salvaged, from_snapshot, with_file_from}
use Rattle.dv_chain.specs.Files.{good_file, snapshot_of}
use Rattle.dv_chain.proofs.Joins.{number_is}
use Rattle.dv_rebuild.specs.declared.salvage.Salvage.{Salvage}
use Rattle.dv_rebuild.specs.Walks.{salvaged_of}
use Rattle.dv_rebuild.proofs.joining.resume.Goals as goal

pub returns : goal.returns
returns c = λ spots left has there before.
    let file = good_file c.args.file.now spots in
    let s = snapshot_of c.args.index in
    let start = c.in_ok-salvage.ensures ∙ ap (λ (n : ℕ). from_snapshot (with_numbers s n)) (c.number_behind.ensures.is ∙ number_is file left c.args.before before) in
    subst (λ (x : Salvaged). IfOk c.with_file_from.result (λ (made : Salvage). salvaged_of made ≡ with_file_from file c.args.index.mark.offset left x)) start (c.with_file_from.ensures spots left has there)
