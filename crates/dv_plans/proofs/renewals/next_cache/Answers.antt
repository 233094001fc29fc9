use Rattle.std.proofs.Common.{ℕ, refl, subst}
use Rattle.dv_lookups.specs.Checks.{IsCacheText}
use Rattle.dv_files.specs.Reading.{mail_at}
use Rattle.dv_plans.proofs.renewals.next_cache.Goals as goal

pub returns-in-Ok-clause-text : goal.returns-in-Ok-clause-text
returns-in-Ok-clause-text g c = λ tells true_cache.
    let m = c.args.chain.now.live.mailbox in
    let mail = mail_at (g.S.Shelf.sees.files c.args.shelf.now) in
    subst (λ (seq : ℕ). IsCacheText c.args.chain.now.indexid seq mail m c.in-Ok.text) c.next_cache_number.ensures (c.in-Ok.ensures.text tells true_cache mail (λ row here. refl))
