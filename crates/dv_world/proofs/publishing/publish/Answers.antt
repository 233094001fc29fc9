use Rattle.std.proofs.Common.{◌≡◌, ◌∙◌, List, Option, Some, ap, arith, drop, length, refl, subst, sym}
use Rattle.std.specs.Prelude.{All, IsSomeAnd}
use Rattle.dv_model.specs.declared.types.Mailbox.{Mailbox}
use Rattle.dv_model.specs.declared.types.Record.{Record}
use Rattle.dv_model.specs.Effects.{applied}
use Rattle.dv_model.specs.Spelling.{IsRecord}
use Rattle.dv_apply.specs.Preparing.{Makes}
use Rattle.dv_world.proofs.Entries.{records_of}
use Rattle.dv_world.proofs.Publishes.{kept_published, unpublished_good, unpublished_lead}
use Rattle.dv_world.proofs.publishing.publish.Goals as goal

pub ready-requires : goal.ready-requires
ready-requires c =
    let k = c.args.kept.now in
    let behind : c.split_at.result.1.now ≡ drop k.published k.logged.items = c.split_at.ensures.back ∙ ap (drop k.published) c.deref.ensures.value in
    let records : c.deref-2.result.now ≡ records_of (drop k.published k.logged.items) = c.deref-2.ensures.value ∙ c.in_ok-records.ensures ∙ ap records_of behind in
    subst (All IsRecord) (sym records) (unpublished_good k c.requires)

pub returns-clause-kept : goal.returns-clause-kept
returns-clause-kept c =
    let k = c.args.kept.now in
    let behind : c.split_at.result.1.now ≡ drop k.published k.logged.items = c.split_at.ensures.back ∙ ap (drop k.published) c.deref.ensures.value in
    let records : c.deref-2.result.now ≡ records_of (drop k.published k.logged.items) = c.deref-2.ensures.value ∙ c.in_ok-records.ensures ∙ ap records_of behind in
    let made = subst (λ (o : Option Mailbox). IsSomeAnd o (Makes c.ready.new.live c.in_ok-prepared.prepared)) (ap (applied k.front.mailbox) records ∙ unpublished_lead k c.requires) c.in_ok-prepared.ensures.ok in
    let front : c.complete.new.self.mailbox ≡ k.end.mailbox = c.complete.ensures.is k.end.mailbox made in
    let number : c.len-kept.result ≡ length k.logged.items = omega (arith, c.len-kept.ensures, k.logged.ok.0) in
    kept_published k c.requires (record k { published = c.len-kept.result; front = c.complete.new.self }) refl refl refl refl refl number (c.requires.end ∙ ap Some (sym front))
