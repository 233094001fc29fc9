use Rattle.std.proofs.Common.{◌∙◌, List, ℕ, Option, None, subst, sym}
use Rattle.dv_mdbox.specs.Gathering.{Gathers}
use Rattle.dv_mdbox.proofs.Gathered.{no_file}
use Rattle.dv_mdbox.proofs.gathering.read_kept.Goals as goal

pub returns-clause-found : goal.returns-clause-found
returns-clause-found g c = λ tells.
    subst (λ (o : Option (List ℕ)). Gathers o c.args.rows.now None) (sym c.in-None.is ∙ c.in_ok-bytes.ensures.found tells) (no_file c.args.rows.now c.requires)
