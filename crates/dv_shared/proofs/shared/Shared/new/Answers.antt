use Rattle.std.proofs.Common.{◌≡◌, List, ap, ◌∙◌}
use Rattle.dv_generations.specs.Feeds.{Feed}
use Rattle.dv_tries.specs.Tries.{Try}
use Rattle.dv_shared.specs.Beginning.{first_kept}
use Rattle.dv_shared.specs.Kept.{Kept}
use Rattle.dv_shared.proofs.Beginnings.{balances_first, holds_first, owes_first, settled_first}
use Rattle.dv_shared.proofs.shared.Shared.new.Goals as goal

pub invariant_of-shared : goal.invariant_of-shared
invariant_of-shared g c =
    let k = g.K.Keeping in
    let store = c.args.store in
    let kept : Kept g.row.S.Denot g.row.C.Denot = record { store = store; feed = c.in-Ok.feed; count = 0; tries = c.new.result } in
    let is : kept ≡ first_kept store =
    ap (λ (f : Feed). record { store = store; feed = f; count = 0; tries = c.new.result }) c.in-Ok.ensures ∙ ap (λ (ts : List Try). record (first_kept store) { tries = ts }) c.new.ensures in (
      holds_first g.S.Shelf.sees g.C.Clock.sees.tells k.start k.moment k.past k.honest store c.requires.begins kept is,
      balances_first g.S.Shelf.sees k.count c.open-writes.result.0.total c.open-refusals.result.0.total store kept is c.requires.count.1 c.open-writes.ensures.total c.open-refusals.ensures.total,
      settled_first g.S.Shelf.sees g.C.Clock.sees.tells k.start k.moment k.past k.honest store c.requires.begins k.count kept is,
    )

pub returns-clause-owes : goal.returns-clause-owes
returns-clause-owes g c h =
    let k = g.K.Keeping in
    owes_first g.S.Shelf.sees g.C.Clock.sees.tells k.start k.moment k.past k.honest c.args.store c.requires.begins h

pub returns-in-Err-clause-owes : goal.returns-in-Err-clause-owes
returns-in-Err-clause-owes g c h =
    let k = g.K.Keeping in
    owes_first g.S.Shelf.sees g.C.Clock.sees.tells k.start k.moment k.past k.honest c.args.store c.requires.begins h
