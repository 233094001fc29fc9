use Rattle.std.proofs.Common.{◌≡◌, ◌⊎◌, ◌∙◌, ℕ, List, Some, ap, arith, subst}
use Rattle.dv_shelf.specs.Crashes.{LeavesOnly}
use Rattle.dv_shelf.specs.Folders.{with_file}
use Rattle.dv_shelf.specs.declared.shelf.Name.TheVariants.{Log}
use Rattle.dv_openings.specs.Rebuilds.{stamp_of}
use Rattle.dv_chain.specs.Creations.{IsFirst, first_log}
use Rattle.dv_chain.proofs.Created.{created_alone, created_chain, created_found, created_rests, first_bounds}
use Rattle.dv_chain.proofs.Shelves.{replaced_settled, replaced_since}
use Rattle.dv_chain.proofs.creating.create.Goals as goal

pub returns-in-Ok-clause-first : goal.returns-in-Ok-clause-first
returns-in-Ok-clause-first g c =
    let chain = c.first_chain.result in
    let is = c.first_chain.ensures in (
      subst (λ (n : ℕ). IsFirst n chain) c.max-indexid.ensures is,
      first_bounds c.max-indexid.result chain (omega (arith, c.max-indexid.ensures)) is,
    )

pub returns-in-Ok-clause-found : goal.returns-in-Ok-clause-found
returns-in-Ok-clause-found g c = λ tells none.
    let S = g.S.Shelf in
    let n = c.max-indexid.result in
    let text : c.as_slice.result.now ≡ first_log n = c.as_slice.ensures ∙ c.in_ok-text.ensures in
    let put = c.in-Ok.ensures.ok tells ∙ ap (λ (t : List ℕ). with_file (S.sees.files c.args.shelf.now) Log (Some t)) text in
    created_found n (omega (arith, c.max-indexid.ensures)) (omega (arith, c.max-indexid.ensures, c.ranges.now.fits)) (S.sees.files c.args.shelf.now) (S.sees.files c.replace.new.self) put none c.first_chain.result c.first_chain.ensures

pub returns-in-Ok-clause-chain : goal.returns-in-Ok-clause-chain
returns-in-Ok-clause-chain g c = λ tells.
    let S = g.S.Shelf in
    let n = c.max-indexid.result in
    let text : c.as_slice.result.now ≡ first_log n = c.as_slice.ensures ∙ c.in_ok-text.ensures in
    let put = c.in-Ok.ensures.ok tells ∙ ap (λ (t : List ℕ). with_file (S.sees.files c.args.shelf.now) Log (Some t)) text in
    created_chain n (omega (arith, c.max-indexid.ensures)) (omega (arith, c.max-indexid.ensures, c.ranges.now.fits)) (S.sees.files c.args.shelf.now) (S.sees.files c.replace.new.self) put c.first_chain.result c.first_chain.ensures

pub returns-in-Ok-clause-since : goal.returns-in-Ok-clause-since
returns-in-Ok-clause-since g c = λ tells settled.
    let S = g.S.Shelf in
    let old = S.sees.files c.args.shelf.now in
    let text : c.as_slice.result.now ≡ first_log c.max-indexid.result = c.as_slice.ensures ∙ c.in_ok-text.ensures in
    let stamped : c.as_slice.result.now ≡ first_log (stamp_of c.args.now) = text ∙ ap first_log c.max-indexid.ensures in
    subst (λ (t : List ℕ). LeavesOnly S.sees c.args.shelf.now c.replace.new.self (λ f. (f ≡ old) ⊎ (f ≡ with_file old Log (Some t)))) stamped
    (replaced_since S.sees c.args.shelf.now c.replace.new.self (Some c.as_slice.result.now) (λ f left. g.met.S.Shelf.only_now c.args.shelf.now f tells left) settled (c.replace.ensures.time tells) (c.replace.ensures.crash tells))

pub returns-in-Ok-clause-rests : goal.returns-in-Ok-clause-rests
returns-in-Ok-clause-rests g c = λ tells none settled.
    let S = g.S.Shelf in
    let n = c.max-indexid.result in
    let chain = c.first_chain.result in
    let is = c.first_chain.ensures in
    let text : c.as_slice.result.now ≡ first_log n = c.as_slice.ensures ∙ c.in_ok-text.ensures in
    let done = c.in-Ok.ensures.ok tells in
    let put = done ∙ ap (λ (t : List ℕ). with_file (S.sees.files c.args.shelf.now) Log (Some t)) text in
    let alone = created_alone n (omega (arith, c.max-indexid.ensures)) (omega (arith, c.max-indexid.ensures, c.ranges.now.fits)) (S.sees.files c.args.shelf.now) (S.sees.files c.replace.new.self) put none chain is in
    created_rests S.sees c.replace.new.self n chain (omega (arith, c.max-indexid.ensures)) is alone
    (replaced_settled S.sees c.args.shelf.now c.replace.new.self (Some c.as_slice.result.now) settled done (c.in-Ok.ensures.crash tells) (c.in-Ok.ensures.durable tells))

pub returns-clause-since : goal.returns-clause-since
returns-clause-since g c = λ tells settled.
    let S = g.S.Shelf in
    let old = S.sees.files c.args.shelf.now in
    let text : c.as_slice.result.now ≡ first_log c.max-indexid.result = c.as_slice.ensures ∙ c.in_ok-text.ensures in
    let stamped : c.as_slice.result.now ≡ first_log (stamp_of c.args.now) = text ∙ ap first_log c.max-indexid.ensures in
    subst (λ (t : List ℕ). LeavesOnly S.sees c.args.shelf.now c.replace.new.self (λ f. (f ≡ old) ⊎ (f ≡ with_file old Log (Some t)))) stamped
    (replaced_since S.sees c.args.shelf.now c.replace.new.self (Some c.as_slice.result.now) (λ f left. g.met.S.Shelf.only_now c.args.shelf.now f tells left) settled (c.replace.ensures.time tells) (c.replace.ensures.crash tells))
