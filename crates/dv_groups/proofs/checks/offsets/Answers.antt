use Rattle.std.proofs.Common.{◌≡◌, ◌+◌, ◌*◌, ◌<◌, ◌∙◌, ◌++◌, length, sym, ap, arith, append_assoc}
use Rattle.std.specs.Int.{w32, to_le_bytes}
use Rattle.dv_model.specs.Sessions.{offset_row}
use Rattle.dv_groups.proofs.Placed.{offsets-more}
use Rattle.dv_groups.proofs.checks.offsets.Goals as goal

pub loop-at-preserved : goal.loop-at-preserved
loop-at-preserved c =
    let rows = c.args.live.now.mailbox.rows in
    let at = c.loop-at.at in
    let row = c.row.result.now in
    let bytes = c.loop-at.bytes in
    let less : at < length rows = omega (arith, c.loop-at-test.true, c.requires.inside) in
    let first : c.extend.new.self ≡ bytes ++ to_le_bytes w32 row.uid = c.in_ok-extend.ensures.ok ∙ ap (λ t. bytes ++ t) c.to_le_bytes.ensures in
    let second : c.extend-in-loop-at.new.self ≡ c.extend.new.self ++ to_le_bytes w32 (32 + 16 * at) = c.in_ok-extend-2.ensures.ok ∙ ap (λ t. c.extend.new.self ++ t) c.offset_of.ensures in
    second ∙ ap (λ t. t ++ to_le_bytes w32 (32 + 16 * at)) first ∙ append_assoc bytes (to_le_bytes w32 row.uid) (to_le_bytes w32 (32 + 16 * at))
    ∙ ap (λ t. t ++ offset_row (at, row)) c.loop-at.invariant ∙ sym (offsets-more rows c.args.from at row c.loop-at.auto.at less c.row.ensures)
