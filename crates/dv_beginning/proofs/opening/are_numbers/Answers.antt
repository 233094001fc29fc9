use Rattle.std.proofs.Common.{◌≡◌, take, sym, subst, arith}
use Rattle.std.proofs.lemmas.List.{take_all}
use Rattle.std.proofs.lemmas.List.Elements.{All-more, All-same}
use Rattle.dv_model.specs.declared.types.Extension.{Extension}
use Rattle.dv_model.specs.Journals.{IsU32}
use Rattle.dv_beginning.proofs.opening.are_numbers.Goals as goal

pub loop-extension-preserved : goal.loop-extension-preserved
loop-extension-preserved c =
    let item = c.extension-item.result in
    All-more (λ (e : Extension). IsU32 e.reset_id) c.args.extensions.now c.loop-extension.extension-index item c.loop-extension-test.true c.loop-extension.invariant
    (subst (λ (e : Extension). IsU32 e.reset_id) c.extension-item.is c.is_number.ensures)

pub returns : goal.returns
returns c =
    let xs = c.args.extensions.now in
    let all : take c.loop-extension.extension-index xs ≡ xs = take_all c.loop-extension.extension-index xs (omega arith) in
    All-same (λ (e : Extension). IsU32 e.reset_id) xs (take c.loop-extension.extension-index xs) (sym all) c.loop-extension.invariant
