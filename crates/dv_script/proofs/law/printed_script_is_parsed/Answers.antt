use Rattle.dv_script.proofs.Printed.{printed_is_read}
use Rattle.dv_script.proofs.law.printed_script_is_parsed.Goals as goal

pub returns : goal.returns
returns c = printed_is_read
