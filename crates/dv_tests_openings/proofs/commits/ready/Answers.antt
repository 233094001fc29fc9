use Rattle.std.proofs.Common.{◌≡◌, ◌+◌, ◌≤◌, ◌∙◌, All, List, ap, arith, length, subst, sym}
use Rattle.std.specs.Prelude.{IsSomeAnd}
use Rattle.dv_model.specs.declared.types.Mailbox.{Mailbox}
use Rattle.dv_model.specs.declared.types.Record.{Record}
use Rattle.dv_model.specs.Effects.{applied}
use Rattle.dv_logfile.specs.Layout.{longest_log}
use Rattle.dv_apply.specs.Preparing.{Makes}
use Rattle.dv_writing.proofs.ReadyGroups.{made_ready}
use Rattle.dv_tests_openings.proofs.commits.ready.Goals as goal

pub returns-clause-ready : goal.returns-clause-ready
returns-clause-ready c =
    let rs = c.in_ok-records.records in
    let room : c.args.chain.now.log.end + length c.in_ok-text.text ≤ longest_log = omega (arith, c.if-len-chain.false, c.len.ensures, c.requires.end) in
    let made = subst (λ (m : Mailbox). IsSomeAnd (applied m rs) (Makes c.prepare.new.self c.in-Ok.prepared)) (sym c.in-Ok.ensures.mailbox)
    (subst (λ (l : List Record). IsSomeAnd (applied c.args.chain.now.live.mailbox l) (Makes c.prepare.new.self c.in-Ok.prepared)) c.as_slice.ensures c.in-Ok.ensures.ok) in
    made_ready c.in_ok-text.text c.in-Ok.prepared _ rs c.in_ok-text.ensures.group c.in_ok-records.ensures c.in_ok-text.ensures.text room made
