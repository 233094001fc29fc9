use Rattle.std.proofs.Common.{◌≡◌, ◌∙◌, ◌∷◌, ◌++◌, List, [], ℕ, ap, arith, subst, sym}
use Rattle.dv_rebuild.specs.Keywords.{AreEmpty}
use Rattle.dv_rebuild.proofs.Noted.{empty_more, none_empty}
use Rattle.dv_rebuild.proofs.keywords.empty_lists.Goals as goal

pub loop-k-init : goal.loop-k-init
loop-k-init c = subst (AreEmpty 0) (sym c.new-lists.ensures.items) none_empty

pub loop-k-preserved : goal.loop-k-preserved
loop-k-preserved c =
    empty_more c.loop-k._k c.loop-k.lists.items c.push.new.self.items c.loop-k.invariant
    (c.in_ok-push.ensures.items ∙ ap (λ (l : List ℕ). c.loop-k.lists.items ++ l ∷ []) c.new.ensures)

pub returns : goal.returns
returns c =
    let all : c.loop-k._k ≡ c.args.count = omega (arith, c.loop-k-test.false, c.loop-k.auto._k-end) in
    subst (λ (n : ℕ). AreEmpty n c.loop-k.lists.items) all c.loop-k.invariant
