use Rattle.std.proofs.Common.{◌≡◌, ℕ, length, sym, ap, subst}
use Rattle.dv_model.specs.declared.types.Command.{Command}
use Rattle.dv_model.specs.declared.types.Command.TheVariants as command
use Rattle.dv_plans.specs.Befores.{reads_of}
use Rattle.dv_plans.specs.Counts.{CountsMails, CountsUpTo}
use Rattle.dv_plans.specs.Guids.{removed_of}
use Rattle.dv_plans.proofs.Counts.{most_counted, reads_other}
use Rattle.dv_plans.proofs.before.read_before.Goals as goal

pub returns-in-Check-clause-mail_reads : goal.returns-in-Check-clause-mail_reads
returns-in-Check-clause-mail_reads g c =
    let reads = g.S.Shelf.sees.mail_reads in
    let m = c.args.chain.now.live.mailbox in
    let uids = c.args.uids.now in
    record {
      most = subst (λ (k : Command). CountsUpTo (reads_of k m uids) (reads c.args.shelf.now) (reads c.before_check.new.shelf)) (sym c.in-Check.is) c.before_check.ensures.most;
      spares = λ told is. c.before_check.ensures.spares told;
      other = λ no. absurd (no c.in-Check.is);
    }

pub returns-in_default-clause-mail_reads : goal.returns-in_default-clause-mail_reads
returns-in_default-clause-mail_reads g c =
    let reads = g.S.Shelf.sees.mail_reads in
    let m = c.args.chain.now.live.mailbox in
    let uids = c.args.uids.now in
    let command = c.args.c.now in
    let same : reads_of command m uids ≡ length (removed_of command uids) = reads_other command m uids c.in_default.not-Check in
    record {
      most = subst (λ (n : ℕ). CountsUpTo n (reads c.args.shelf.now) (reads c.before_change.new.shelf)) (sym same) (most_counted (length (removed_of command uids)) (reads c.args.shelf.now) (reads c.before_change.new.shelf) c.before_change.result c.before_change.ensures.mail_reads);
      spares = λ told is. absurd (c.in_default.not-Check is);
      other = λ no. subst (λ (n : ℕ). CountsMails n (reads c.args.shelf.now) (reads c.before_change.new.shelf) c.before_change.result) (sym same) c.before_change.ensures.mail_reads;
    }
