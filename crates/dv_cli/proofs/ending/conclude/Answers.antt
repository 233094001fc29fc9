use Rattle.std.proofs.Common.{ap, sym}
use Rattle.dv_cli.specs.Endings.{status_of, text_of}
use Rattle.dv_cli.specs.Running.{usage_text}
use Rattle.dv_cli.proofs.Concluding.{concluded}
use Rattle.dv_cli.proofs.ending.conclude.Goals as goal

pub returns-in-Usage-clause-text : goal.returns-in-Usage-clause-text
returns-in-Usage-clause-text g c = λ tells.
    concluded c.args.end.now 1 c.write_text.result usage_text _ _ (sym (ap status_of c.in-Usage.is)) (sym (ap text_of c.in-Usage.is)) (c.write_text.ensures.text tells)
