use Rattle.std.proofs.Common.{◌≡◌, ◌∙◌, [], None, Some, false, refl, sym}
use Rattle.std.proofs.lemmas.Result.{IfOk-weaker}
use Rattle.dv_model.specs.Searches.{meets}
use Rattle.dv_model.proofs.Clients.{false_is_not_true}
use Rattle.dv_search.specs.Facts.{AreKnown}
use Rattle.dv_search.specs.Stars.{row_in}
use Rattle.dv_search.proofs.Largest.{largest_for_stars}
use Rattle.dv_search.proofs.sought.Sought.is_met_by.Goals as goal

pub returns : goal.returns
returns c = λ k ready reads star largest.
    let names = c.args.names.now in
    let s = c.args.shown.now in
    let made = c.args.self.now.key in
    let known : AreKnown made (Some []) None = λ needed. false_is_not_true (sym reads ∙ sym ready.ready.reads ∙ needed) in
    IfOk-weaker c.meets.result (λ met. met ≡ meets made (row_in names 0 s)) (λ met. met ≡ meets k (row_in names largest s))
    (λ met e. e ∙ ready.ready.meets (row_in names 0 s) 0 refl ∙ largest_for_stars k (row_in names largest s) 0 star)
    (c.meets.ensures ready.ready.apart [] known)
