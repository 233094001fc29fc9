use Rattle.std.proofs.Common.{◌≡◌, ◌++◌, ◌∷◌, [], rules, subst, sym}
use Rattle.dv_search.specs.Facts.{AreRising}
use Rattle.dv_search.proofs.Looking.{rising_more}
use Rattle.dv_search.proofs.known.Mail.push.Goals as goal

pub invariant_of-self-2 : goal.invariant_of-self-2
invariant_of-self-2 c =
    let before : AreRising c.args.self.now = subst AreRising c.self.view_is c.self.invariant in
    let is : c.push.new.self ≡ c.args.self.now ++ c.args.facts ∷ [] = search rules in
    subst AreRising (sym is) (rising_more c.args.self.now c.args.facts before c.requires)
