use Rattle.std.proofs.Common.{◌≡◌, ℕ, List, sym, subst, rules}
use Rattle.dv_logfile.specs.Layout.{IsLog, log_end, log_text}
use Rattle.dv_logfile.proofs.Logs.{written_log}
use Rattle.dv_logfile.proofs.texts.create.Goals as goal

pub returns-clause-log : goal.returns-clause-log
returns-clause-log c = λ good fits.
    let h = c.args.header.now in
    let rs = c.args.records.now in
    let is : c.extend.new.self ≡ log_text h rs = search rules in
    subst (λ (text : List ℕ). IsLog h rs (log_end rs) text) (sym is) (written_log h rs good c.requires.valid fits)
