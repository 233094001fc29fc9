use Rattle.std.proofs.Common.{◌≡◌, ◌<◌, true, length, rules}
use Rattle.dv_script.specs.Rests.{is_passed}
use Rattle.dv_script.proofs.Rests.{leaves_out}
use Rattle.dv_script.proofs.script.skip.Goals as goal

pub skipped-preserved : goal.skipped-preserved
skipped-preserved c =
    let some : 0 < length c.skipped.rest.now = search rules in
    let passed : is_passed c.first_line.result.0.now ≡ true = search rules in
    leaves_out c.args.b.now c.skipped.rest.now c.first_line.result.0.now c.first_line.result.1.now c.first_line.ensures.text c.first_line.ensures.rest some passed c.skipped.invariant
