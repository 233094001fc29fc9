use Rattle.std.proofs.Common.{sym, subst, rules}
use Rattle.dv_model.specs.Mailboxes.{IsValid}
use Rattle.dv_apply.proofs.Keeping.{empty_valid}
use Rattle.dv_apply.proofs.state.empty_state.Goals as goal

pub returns-clause-kept : goal.returns-clause-kept
returns-clause-kept c = record {
  valid = subst IsValid (sym (search rules)) (empty_valid c.args.uid_validity);
  spare = search rules;
}
