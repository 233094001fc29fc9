use Rattle.std.proofs.Common.{List, arith, subst}
use Rattle.std.proofs.lemmas.List.{take_all}
use Rattle.dv_shelf.specs.declared.shelf.Name.{Name}
use Rattle.dv_mdbox.specs.Tails.{IsHighest}
use Rattle.dv_mdbox.proofs.Tailing.{highest_more}
use Rattle.dv_mdbox.proofs.tails.highest_of.Goals as goal

pub loop-name-preserved : goal.loop-name-preserved
loop-name-preserved c =
    highest_more c.args.names.now c.loop-name.name-index _ c.loop-name.highest c.larger-highest.result c.number_of.result c.loop-name-test.true c.number_of.ensures c.larger-highest.ensures c.loop-name.invariant

pub returns : goal.returns
returns c =
    let names = c.args.names.now in
    subst (λ (all : List Name). IsHighest all c.loop-name.highest) (take_all c.loop-name.name-index names (omega (arith, c.loop-name-test.false))) c.loop-name.invariant
