use Rattle.std.proofs.Common.{◌≢◌, ◌∙◌, sym, rules}
use Rattle.dv_folder.proofs.NameLemmas.{none_read, other_read}
use Rattle.dv_folder.proofs.names.number_of.Goals as goal

pub returns-in_err-n : goal.returns-in_err-n
returns-in_err-n c =
    rw c.from_residual.ensures (none_read c.args.digits.now c.parse.result c.parse.ensures.value.0 (sym c.ok.ensures.value ∙ c.in_err-n.was))

pub returns-then-ne : goal.returns-then-ne
returns-then-ne c =
    let differs : c.format.result.now ≢ c.args.digits.now = search rules in
    other_read c.args.digits.now c.parse.result c.in_ok-n.n c.parse.ensures.value.0 (sym c.ok.ensures.value ∙ c.in_ok-n.was) (λ e. differs (c.format.ensures.text ∙ e))
