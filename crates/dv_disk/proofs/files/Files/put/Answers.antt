use Rattle.std.proofs.Common.{refl}
use Rattle.dv_shelf.specs.Disks.{settled_version}
use Rattle.dv_system.specs.Entries.{put_at}
use Rattle.dv_disk.proofs.Putting.{put_failed, put_swept}
use Rattle.dv_disk.proofs.Calls.{puts_cleared, rename_failed, renamed_at, renamed_names, same_place, swept_there, unsure_there}
use Rattle.dv_disk.proofs.files.Files.put.Goals as goal

pub returns-in-Err : goal.returns-in-Err
returns-in-Err g c = record {
  puts = λ tells that durable.
      let Y = g.Y.System in
      let old = c.args.self.now.system in
      let mid = c.rename.new.self in
      let held = c.args.self.now.held c.requires.locked in
      puts_cleared Y.disk Y.moment Y.left_since c.args.name that old mid c.clear_behind.new.self.system _ refl
      (put_failed Y.disk Y.moment Y.left_since g.met.Y.System.counts_now c.args.name that old (c.args.self.now.ready c.requires.ready tells) (g.met.Y.System.readable old tells)
      _ mid (Y.disk old).temporary.is_doubted refl
      (rename_failed (Y.disk old) _ c.args.name that durable (c.in-Err.ensures.err tells held)) (c.rename.ensures.time tells held))
      (c.clear_behind.ensures.names tells) (c.clear_behind.ensures.time tells);
}

pub returns-in-Ok : goal.returns-in-Ok
returns-in-Ok g c = record {
  puts = λ tells that durable.
      let Y = g.Y.System in
      let old = c.args.self.now.system in
      let held = c.args.self.now.held c.requires.locked in
      let mid = c.rename.new.self in
      let new = c.sweep.new.self.system in
      let n = c.args.name in
      let b = (Y.disk old).temporary.is_doubted in
      let at = put_at (settled_version that) b ((Y.disk old).named n) in
      let is = c.in-Ok.ensures.ok tells held in
      let place = same_place (Y.disk old) (Y.disk mid) _ is refl in
      let names = renamed_names (Y.disk old) (Y.disk mid) n that durable is in
      let all = c.args.self.now.swept c.requires.swept tells in
      put_swept Y.disk Y.moment Y.left_since g.met.Y.System.counts_now n that old (c.args.self.now.ready c.requires.ready tells) (g.met.Y.System.readable old tells)
      c.sweep.result mid new b (renamed_at (Y.disk old) (Y.disk mid) n that durable is)
      (swept_there (Y.disk old) (Y.disk mid) (Y.disk new) n at place names all c.sweep.result (c.sweep.ensures.ok tells))
      (unsure_there (Y.disk old) (Y.disk mid) (Y.disk new) n at place names all c.sweep.result (c.sweep.ensures.err tells))
      (c.rename.ensures.time tells held) (c.sweep.ensures.time tells);
}
