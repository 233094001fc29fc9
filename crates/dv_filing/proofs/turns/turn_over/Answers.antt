use Rattle.std.proofs.Common.{Option, sym, ap, subst}
use Rattle.dv_chain.specs.declared.chain.Chain.{Chain}
use Rattle.dv_files.specs.declared.texts.Turn.{Turn}
use Rattle.dv_filing.specs.Standing.{TurnsQuietly}
use Rattle.dv_filing.proofs.Turned.{over_before, over_done, over_last}
use Rattle.dv_filing.proofs.turns.turn_over.Goals as goal

pub returns-in-Ok-clause-quiet : goal.returns-in-Ok-clause-quiet
returns-in-Ok-clause-quiet g c = λ tells messages stands closes.
    let S = g.S.Shelf in
    let old = c.args.shelf.now in
    let new = c.rotate.new.shelf in
    let chain = c.args.chain.now in
    let next = c.rotate.new.chain in
    let value = c.in-Ok.ensures.value in
    let leaves = c.in-Ok.ensures.leaves tells in
    subst (λ (t : Option Turn). TurnsQuietly S.sees messages c.args.turn t chain next old new) (sym c.requires.none)
    (over_done S.sees messages c.args.turn chain next old new (ap (λ (x : Chain). x.live) value) stands
    (λ f left. g.met.S.Shelf.counts_now new (S.sees.moment old) f leaves.since.later left) c.in-Ok.field-0 leaves (c.in-Ok.ensures.quiet tells stands.rests closes))

pub returns-in-Err-Before-clause-quiet : goal.returns-in-Err-Before-clause-quiet
returns-in-Err-Before-clause-quiet g c = λ tells messages stands closes.
    let S = g.S.Shelf in
    let old = c.args.shelf.now in
    let new = c.rotate.new.shelf in
    let chain = c.args.chain.now in
    let next = c.rotate.new.chain in
    let value = c.in-Err-Before.ensures.value in
    let leaves = c.in-Err-Before.ensures.leaves tells in
    subst (λ (t : Option Turn). TurnsQuietly S.sees messages c.args.turn t chain next old new) (sym c.requires.none)
    (over_before S.sees messages c.args.turn chain next old new (ap (λ (x : Chain). x.live) value) stands
    (λ f left. g.met.S.Shelf.counts_now new (S.sees.moment old) f leaves.since.later left) c.in-Err-Before.field-0 c.in-Err-Before.field-0-is leaves (c.in-Err-Before.ensures.quiet tells stands.rests closes))

pub returns-in-Err-Last-clause-quiet : goal.returns-in-Err-Last-clause-quiet
returns-in-Err-Last-clause-quiet g c = λ tells messages stands closes.
    let S = g.S.Shelf in
    let old = c.args.shelf.now in
    let new = c.rotate.new.shelf in
    let chain = c.args.chain.now in
    let next = c.rotate.new.chain in
    let value = c.in-Err-Last.ensures.value in
    let leaves = c.in-Err-Last.ensures.leaves tells in
    over_last S.sees messages c.args.turn chain next old new (ap (λ (x : Chain). x.live) value) stands
    (λ f left. g.met.S.Shelf.counts_now new (S.sees.moment old) f leaves.since.later left) c.in-Err-Last.field-0 c.in-Err-Last.field-0-is leaves (c.in-Err-Last.ensures.quiet tells stands.rests closes)
