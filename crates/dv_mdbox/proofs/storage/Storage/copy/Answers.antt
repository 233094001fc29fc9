use Rattle.std.proofs.Common.{◌≡◌, ◌+◌, Some, refl, subst, sym}
use Rattle.dv_mdbox.specs.Looks.{reference_of}
use Rattle.dv_mdbox.specs.States.{State}
use Rattle.dv_mdbox.proofs.storage.Storage.copy.Goals as goal

pub returns-clause-gives : goal.returns-clause-gives
returns-clause-gives g c = λ tells messages debt there rest.
    let reference = c.in-Some.reference in
    let is = subst (λ (s : State g.row.S.Denot g.row.C.Denot). reference_of s.chain.live.mailbox c.args.id ≡ Some reference) c.self.view_is (sym c.in-Some.ensures.is) in
    c.put_count.ensures.gives tells messages debt reference.count (λ n. n + 1) (reference, is, refl) refl rest
