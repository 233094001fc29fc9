use Rattle.std.proofs.Common.{take}
use Rattle.std.specs.Prelude.{All, IsSome}
use Rattle.dv_maps.specs.declared.tables.Listed.{Listed}
use Rattle.dv_mdbox.specs.Looks.{reference_of}
use Rattle.dv_mdbox.proofs.listing.next_listed.Given as goal

abbrev pub invariant-loop-row : goal.invariant-loop-row
invariant-loop-row l = All (λ (e : Listed). IsSome (reference_of l.live.mailbox e.id)) (take l.row-index l.rows)
