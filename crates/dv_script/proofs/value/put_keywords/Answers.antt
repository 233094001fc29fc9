use Rattle.std.proofs.Common.{◌≡◌, ◌∙◌, List, ℕ, take, subst}
use Rattle.std.proofs.lemmas.List.{take_all}
use Rattle.dv_script.specs.Spaced.{AddsWords}
use Rattle.dv_script.proofs.SpacedLemmas.{no_words, one_more_word}
use Rattle.dv_script.proofs.value.put_keywords.Goals as goal

pub loop-keyword-init : goal.loop-keyword-init
loop-keyword-init c = no_words c.args.first c.args.text.now

pub loop-keyword-preserved : goal.loop-keyword-preserved
loop-keyword-preserved c =
    let word = rw c.as_slice.ensures at c.in_ok-put_word.ensures.ok in
    one_more_word c.as_slice-keyword-items.result.now c.loop-keyword.keyword-index c.keyword-item.result c.loop-keyword-test.true c.keyword-item.is c.loop-keyword.invariant word

pub returns-clause-ok : goal.returns-clause-ok
returns-clause-ok c =
    let whole : take c.loop-keyword.keyword-index c.as_slice-keyword-items.result.now ≡ c.args.keywords.now = take_all _ _ c.loop-keyword-test.false ∙ c.as_slice-keyword-items.ensures in
    let P : List (List ℕ) → Type 0 = λ words. AddsWords c.args.first words c.args.text.now c.loop-keyword.text c.loop-keyword.next in
    subst P whole c.loop-keyword.invariant
