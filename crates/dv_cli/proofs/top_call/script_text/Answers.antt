use Rattle.std.proofs.Common.{List, ℕ, sym, subst}
use Rattle.dv_cli.specs.Scripts.{AreAlike}
use Rattle.dv_cli.proofs.Parsed.{alike_front}
use Rattle.dv_cli.proofs.top_call.script_text.Goals as goal

pub returns-in-Ok-clause-text : goal.returns-in-Ok-clause-text
returns-in-Ok-clause-text g c = λ tells.
    let script = g.I.Source.sees.left c.args.script.now in
    subst (λ (text : List ℕ). AreAlike text script) (sym (c.in-Ok.ensures.text tells)) (alike_front script)
