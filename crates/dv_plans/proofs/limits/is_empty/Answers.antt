use Rattle.std.proofs.Common.{sym, ◌∙◌}
use Rattle.std.proofs.lemmas.Bool.{eq-eqb, eqb-true}
use Rattle.dv_model.specs.Sessions.{group_of}
use Rattle.dv_plans.proofs.Passed.{no_record, no_text}
use Rattle.dv_plans.proofs.limits.is_empty.Goals as goal

pub returns : goal.returns
returns c = λ view guid ordered sizes valid are.
    let size = c.size_of.ensures view guid ordered sizes valid are in (
      λ is. no_record (group_of c.args.c.now view c.args.live.now.mailbox guid).records (sym size ∙ eqb-true c.size_of.result 0 is),
      λ none. eq-eqb c.size_of.result 0 (size ∙ no_text (group_of c.args.c.now view c.args.live.now.mailbox guid).records none),
    )
