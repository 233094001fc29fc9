use Rattle.dv_script.proofs.Beside.{found_beside, opens_beside}
use Rattle.dv_script.proofs.script.open_script_beside.Goals as goal

pub returns-clause-found : goal.returns-clause-found
returns-clause-found c = found_beside c.args.b.now c.open_beside.result c.open_beside.ensures.lines

pub returns-clause-only : goal.returns-clause-only
returns-clause-only c = λ lines is few. opens_beside c.args.b.now c.open_beside.result lines c.open_beside.ensures.lines is few
