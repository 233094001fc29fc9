use Rattle.std.proofs.Common.{◌≡◌, take, sym, ◌∙◌, ap, subst, arith}
use Rattle.std.proofs.lemmas.List.{take_all}
use Rattle.std.proofs.lemmas.List.Elements.{All-more, All-same}
use Rattle.dv_model.specs.declared.types.Extension.{Extension}
use Rattle.dv_model.specs.Journals.{IsU32}
use Rattle.dv_ext.specs.Tables.{Table}
use Rattle.dv_plans.proofs.bounds.have_bounds.Goals as goal

pub loop-extension-preserved : goal.loop-extension-preserved
loop-extension-preserved c =
    let item = c.extension-item.result in
    All-more (λ (e : Extension). IsU32 e.reset_id) c.as_slice-extension-items.result.now c.loop-extension.extension-index item c.loop-extension-test.true c.loop-extension.invariant
    (subst (λ (e : Extension). IsU32 e.reset_id) c.extension-item.is c.is_number.ensures)

pub returns-clause-resets : goal.returns-clause-resets
returns-clause-resets c =
    let xs = c.as_slice-extension-items.result.now in
    let all : take c.loop-extension.extension-index xs ≡ xs = take_all c.loop-extension.extension-index xs (omega arith) in
    let whole : xs ≡ c.args.live.now.mailbox.extensions = c.as_slice-extension-items.ensures ∙ c.list.ensures.list ∙ ap (λ (t : Table). t.extensions) c.extensions.ensures in
    All-same (λ (e : Extension). IsU32 e.reset_id) c.args.live.now.mailbox.extensions (take c.loop-extension.extension-index xs) (sym (all ∙ whole)) c.loop-extension.invariant
