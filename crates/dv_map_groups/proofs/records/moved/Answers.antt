use Rattle.std.proofs.Common.{arith}
use Rattle.dv_maps.specs.declared.mapped.Mapped.{Mapped}
use Rattle.dv_map_groups.proofs.Recorded.{moved_all, moved_more, room_fits, room_more}
use Rattle.dv_map_groups.proofs.records.moved.Goals as goal

pub loop-row-preserved : goal.loop-row-preserved
loop-row-preserved c =
    let rows = c.args.rows.now in
    let i = c.loop-row.row-index in
    let less = c.loop-row-test.true in
    record {
      so = rw c.in_ok-push.ensures.items (moved_more c.args.new rows i _ less c.loop-row.placed.items c.loop-row.offset c.loop-row.invariant.so);
      room = room_more c.args.new rows i _ less c.loop-row.offset c.loop-row.invariant.room;
    }

pub returns : goal.returns
returns c = moved_all c.args.new c.args.rows.now c.loop-row.row-index c.loop-row.placed.items c.loop-row.offset (omega (arith, c.loop-row-test.false)) c.loop-row.invariant.so

pub overflow_add-offset : goal.overflow_add-offset
overflow_add-offset c =
    let blank : Mapped = record { id = 0; count = 0; place = record { file = 0; offset = 0; size = 0 } } in
    let room = room_fits c.args.new c.args.rows.now c.loop-row.row-index blank c.loop-row-test.true c.loop-row.offset c.loop-row.invariant.room c.requires in
    omega (arith, room)
