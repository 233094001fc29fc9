use Rattle.std.proofs.Common.{◌≤◌, ◌-◌, ◌^◌, ℕ, List, Option, Ok}
use Rattle.std.specs.Prelude.{IfSome}
use Rattle.dv_logfile.specs.Settling.{StaysSettled}
use Rattle.dv_shelf.specs.Folders.{Folder}
use Rattle.dv_chain.specs.Rest.{Nothing}
use Rattle.dv_maps.specs.Laws.{IsMap}
use Rattle.dv_maps.specs.Purges.{all_mapped}
use Rattle.dv_maps.specs.Tables.{IsTableFrom}
use Rattle.dv_maps.specs.Texts.{Messages}
use Rattle.dv_mdbox.specs.declared.fault.StorageFault.{StorageFault}
use Rattle.dv_mdbox.specs.Purging.{AllNamed, IsClearedTo, KnowsFiles, PurgesQuietly, PurgesTo, TakesSome}
use Rattle.dv_mdbox.specs.States.{IsAtRest}
use Rattle.dv_mdbox.proofs.Purged.{KnowsStill}
use Rattle.dv_mdbox.proofs.storage.Storage.take_files.Given as goal

abbrev pub invariant-loop-file : goal.invariant-loop-file
invariant-loop-file g l = record {
  from : l.from ≤ 2 ^ 32;
  table : IfSome l.table (λ t. IsMap l.self.chain.live.mailbox × IsTableFrom l.from (all_mapped l.self.chain.live.mailbox) t);
  value : (known : Option Folder) → KnowsFiles g.S.Shelf.sees known l.initial.self → ((files : List ℕ) × PurgesTo known 0 files l.from l.initial.self l.self) × KnowsStill g.S.Shelf.sees known l.initial.self l.from l.self;
  gives : g.S.Shelf.sees.tells → (messages : Messages) → IsAtRest g.S.Shelf.sees messages Nothing l.initial.self → PurgesQuietly g.S.Shelf.sees messages Nothing l.initial.self l.self {T = Unit {0}} {E = StorageFault} (Ok tt);
  clears : g.S.Shelf.sees.tells → (messages : Messages) → IsAtRest g.S.Shelf.sees messages Nothing l.initial.self → AllNamed (g.S.Shelf.sees.files l.initial.self.shelf) l.initial.self.chain.live.mailbox
      → IsClearedTo l.from (g.S.Shelf.sees.files l.self.shelf) l.self.chain.live.mailbox;
  settled : g.S.Shelf.sees.tells → StaysSettled g.S.Shelf.sees l.initial.self.shelf l.self.shelf;
  later : g.S.Shelf.sees.fault_count l.initial.self.shelf ≤ g.S.Shelf.sees.fault_count l.self.shelf;
  clock : g.C.Clock.sees.tells → TakesSome (g.C.Clock.sees.upcoming l.initial.self.clock) (g.C.Clock.sees.upcoming l.self.clock);
}

abbrev pub decreases-loop-file : goal.decreases-loop-file
decreases-loop-file g l = 2 ^ 32 - l.from
