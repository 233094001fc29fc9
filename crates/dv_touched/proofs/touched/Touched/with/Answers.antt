use Rattle.std.proofs.Common.{◌≡◌, ◌∙◌, ◌⊎◌, List, subst, ℕ}
use Rattle.std.specs.Prelude.{◌↔◌, Contains}
use Rattle.dv_touched.proofs.touched.Touched.with.Goals as goal

pub returns-clause-all : goal.returns-clause-all
returns-clause-all c =
    let made = c.in_ok-uids.uids.items in
    let one : c.deref.result.now ≡ c.args.self.now = c.deref.ensures.value ∙ c.self.view_is in
    let two : c.deref-2.result.now ≡ c.args.more.now = c.deref-2.ensures.value ∙ c.more.view_is in
    subst (λ (l : List ℕ). (uid : ℕ) → Contains made uid ↔ (Contains c.args.self.now uid ⊎ Contains l uid)) two
    (subst (λ (l : List ℕ). (uid : ℕ) → Contains made uid ↔ (Contains l uid ⊎ Contains c.deref-2.result.now uid)) one c.in_ok-uids.ensures.is)
