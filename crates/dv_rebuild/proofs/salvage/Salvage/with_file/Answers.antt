use Rattle.std.proofs.Common.{◌≡◌, ◌∙◌, List, ℕ, ap, max, refl, subst, sym}
use Rattle.std.specs.Prelude.{IfOk}
use Rattle.dv_model.specs.declared.types.Mailbox.{Mailbox}
use Rattle.dv_openings.specs.Salvages.{Salvaged}
use Rattle.dv_chain.specs.Files.{good_file}
use Rattle.dv_chain.specs.Walks.{IsLeft}
use Rattle.dv_chain.proofs.Files.{has_left}
use Rattle.dv_rebuild.specs.declared.salvage.Salvage.{Salvage}
use Rattle.dv_rebuild.specs.Walks.{salvaged_of}
use Rattle.dv_rebuild.proofs.Walks.{all_salvaged}
use Rattle.dv_rebuild.proofs.salvage.Salvage.with_file.Goals as goal

pub returns : goal.returns
returns c = λ spots has.
    let file = c.args.file.now in
    let s = c.args.self in
    let m = s.live.mailbox in
    let raised = c.raise.ensures.mailbox ∙ ap (λ (n : ℕ). record m { highest = max m.highest n }) c.number.ensures.is in
    let raise = ap (λ (x : Mailbox). record { mailbox = x; given = s.given; going = s.going }) raised in
    let left = subst (λ (b : List ℕ). IsLeft b file.header.hdr_size spots file.end) (sym c.as_slice.ensures) (has_left spots file has) in
    subst (λ (x : Salvaged). IfOk c.with_rest.result (λ (made : Salvage). salvaged_of made ≡ x)) (all_salvaged (good_file file spots) (salvaged_of s) _ _ c.if-not-salvage.false raise refl)
    (c.with_rest.ensures spots file.end (subst (λ (n : ℕ). IsLeft c.as_slice.result.now n spots file.end) (sym c.from-from.ensures) left))
