use Rattle.std.proofs.Common.{◌≡◌, ◌<◌, ◌++◌, take}
use Rattle.std.specs.List.{All, flat_map}
use Rattle.dv_formats.specs.Snapshots.{AreBytes, row_text}
use Rattle.dv_files.proofs.snapshots.snapshot_at.Given as goal

abbrev pub invariant-loop-k : goal.invariant-loop-k
invariant-loop-k l = record {
  text : l.text ≡ l.initial.text ++ flat_map (row_text 2 l.head) (take l.k l.live.mailbox.rows);
  flags : All (λ row. row.flags < 256) (take l.k l.live.mailbox.rows);
  parts : All (λ row. All AreBytes row.parts) (take l.k l.live.mailbox.rows);
}
