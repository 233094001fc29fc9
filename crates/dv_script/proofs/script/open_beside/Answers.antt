use Rattle.std.proofs.Common.{◌≡◌, ◌+◌, ◌-◌, ◌≤◌, ◌<◌, List, ℕ, length, Ok, sym, ◌∙◌, ap, arith}
use Rattle.dv_script.specs.Beside.{unnamed}
use Rattle.dv_script.proofs.Beside.{opened}
use Rattle.dv_script.proofs.script.open_beside.Goals as goal

pub overflow_sub-result : goal.overflow_sub-result
overflow_sub-result c =
    let did = c.in_ok-count.ensures in
    let is = opened c.in_ok-unnamed.field-0 c.in_ok-unnamed-2.field-0 c.args.b.now c.in_ok-count.count c.in_ok-unnamed.ensures c.in_ok-unnamed-2.ensures did.lines did.sessions.0 did.named in
    omega (arith, is.count_is)

pub returns-clause-lines : goal.returns-clause-lines
returns-clause-lines c =
    let did = c.in_ok-count.ensures in
    (opened c.in_ok-unnamed.field-0 c.in_ok-unnamed-2.field-0 c.args.b.now c.in_ok-count.count c.in_ok-unnamed.ensures c.in_ok-unnamed-2.ensures did.lines did.sessions.0 did.named).lines

pub returns-clause-sessions : goal.returns-clause-sessions
returns-clause-sessions c =
    let did = c.in_ok-count.ensures in
    let is = opened c.in_ok-unnamed.field-0 c.in_ok-unnamed-2.field-0 c.args.b.now c.in_ok-count.count c.in_ok-unnamed.ensures c.in_ok-unnamed-2.ensures did.lines did.sessions.0 did.named in
    omega (arith, is.count_is)
