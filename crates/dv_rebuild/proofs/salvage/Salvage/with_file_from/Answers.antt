use Rattle.std.proofs.Common.{◌≡◌, ◌∙◌, List, ℕ, refl, sym, subst}
use Rattle.std.specs.Prelude.{IfOk}
use Rattle.dv_openings.specs.Salvages.{Salvaged}
use Rattle.dv_chain.specs.Files.{good_file}
use Rattle.dv_chain.specs.Walks.{IsLeft}
use Rattle.dv_chain.proofs.Files.{left_at}
use Rattle.dv_rebuild.specs.declared.salvage.Salvage.{Salvage}
use Rattle.dv_rebuild.specs.Walks.{salvaged_of}
use Rattle.dv_rebuild.proofs.Walks.{from_first, from_later}
use Rattle.dv_rebuild.proofs.salvage.Salvage.with_file_from.Goals as goal

pub returns-then-place-from : goal.returns-then-place-from
returns-then-place-from c = λ spots left has there.
    let file = good_file c.args.file.now spots in
    subst (λ (x : Salvaged). IfOk c.with_file.result (λ (made : Salvage). salvaged_of made ≡ x)) (from_first file c.args.place left (salvaged_of c.args.self) _ (c.if-place-from.true ∙ c.from.ensures) refl) (c.with_file.ensures spots has)

pub returns : goal.returns
returns c = λ spots left has there.
    let file = c.args.file.now in
    subst (λ (x : Salvaged). IfOk c.with_rest.result (λ (made : Salvage). salvaged_of made ≡ x)) (from_later (good_file file spots) c.args.place left (salvaged_of c.args.self) _ (λ e. c.if-place-from.false (e ∙ sym c.from.ensures)) refl)
    (c.with_rest.ensures left file.end (subst (λ (b : List ℕ). IsLeft b c.args.place left file.end) (sym c.as_slice.ensures) (left_at spots left file c.args.place has there)))
