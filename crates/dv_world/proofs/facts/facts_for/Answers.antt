use Rattle.std.proofs.Common.{rules, ◌≡◌, ◌∙◌, ℕ, ◌+◌, List, None, Option, Some, ap, arith, get_or, length, map, subst, sym}
use Rattle.std.specs.Prelude.{All}
use Rattle.std.specs.Option.{option_copied}
use Rattle.std.proofs.lemmas.Option.{slice_get-get_or}
use Rattle.dv_model.specs.Sessions.{message_in, uids_looked_at}
use Rattle.dv_interleavings.specs.Worlds.{mail_of}
use Rattle.dv_responses.specs.Supplied.{DescribesAsked, Supplies}
use Rattle.dv_search.specs.Facts.{facts_of}
use Rattle.dv_search.specs.declared.facts.MailFacts.{MailFacts}
use Rattle.dv_world.specs.Shapes.{stored_of}
use Rattle.dv_world.proofs.Supplying.{AreFirst, Rises, all_below, all_supplied, looked_rise, none_first, one_with, one_without}
use Rattle.dv_world.proofs.facts.facts_for.Goals.{in-Some+in_ok-message+in_ok-facts_from+in_ok-push, in_default}
use Rattle.dv_world.proofs.facts.facts_for.Goals as goal

pub loop-uid-init : goal.loop-uid-init
loop-uid-init c =
    none_first (DescribesAsked c.args.c.now) (message_in (mail_of (map stored_of c.args.stored.now)) c.args.live.now.mailbox) c.as_slice-uid-items.result.now c.new-mail.result c.new-mail.ensures

pub push-requires : goal.push-requires
push-requires c = λ k d less.
    let uids = c.as_slice-uid-items.result.now in
    let uid = get_or uids c.loop-uid.uid-index 0 in
    let rises : Rises 0 uids = subst (Rises 0) (sym (c.as_slice-uid-items.ensures ∙ c.in_ok-uids.ensures)) (looked_rise c.args.c.now c.args.view.now c.rows-rows.ensures.ordered) in
    let below = all_below (DescribesAsked c.args.c.now) (message_in (mail_of (map stored_of c.args.stored.now)) c.args.live.now.mailbox) uids rises c.loop-uid.uid-index c.loop-uid.mail c.loop-uid.invariant uid
    (slice_get-get_or uids c.loop-uid.uid-index 0 c.loop-uid-test.true) k d less in
    let same : c.in_ok-facts_from.field-0.uid ≡ uid = ap (λ (f : MailFacts). f.uid) c.in_ok-facts_from.ensures.is in
    omega (arith, below, same)

pub loop-uid-preserved : goal.loop-uid-preserved
loop-uid-preserved c =
    let cmd = c.args.c.now in
    let describes = DescribesAsked cmd in
    let message = message_in (mail_of (map stored_of c.args.stored.now)) c.args.live.now.mailbox in
    let uids = c.as_slice-uid-items.result.now in
    let i = c.loop-uid.uid-index in
    let uid = get_or uids i 0 in
    let there = slice_get-get_or uids i 0 c.loop-uid-test.true in
    let rises : Rises 0 uids = subst (Rises 0) (sym (c.as_slice-uid-items.ensures ∙ c.in_ok-uids.ensures)) (looked_rise cmd c.args.view.now c.rows-rows.ensures.ordered) in
    elim c.match-message_in.branch [
      | in-Some+in_ok-message+in_ok-facts_from+in_ok-push w ↦
          subst (AreFirst describes message uids (i + 1)) (sym (w.mail-is ∙ w.in_ok-push.ensures.ok))
          (one_with describes message uids rises i c.loop-uid.mail c.loop-uid.invariant uid there w.in_ok-message.message w.in_ok-facts_from.field-0
          (sym c.message_in.ensures ∙ ap option_copied w.in-Some.is ∙ ap Some (sym w.in_ok-message.ensures)) (ap (λ (f : MailFacts). f.uid) w.in_ok-facts_from.ensures.is)
          (w.in_ok-facts_from.ensures.describes cmd c.in_ok-asked.ensures))
      | in_default w ↦
          let none : c.message_in.result ≡ None = search rules in
          subst (AreFirst describes message uids (i + 1)) (sym w.mail-is)
          (one_without describes message uids rises i c.loop-uid.mail c.loop-uid.invariant uid there (sym c.message_in.ensures ∙ ap option_copied none))
    ]

pub returns : goal.returns
returns c = λ reads.
    let describes = DescribesAsked c.args.c.now in
    let message = message_in (mail_of (map stored_of c.args.stored.now)) c.args.live.now.mailbox in
    let uids = c.as_slice-uid-items.result.now in
    let looked : uids ≡ uids_looked_at c.args.c.now c.args.view.now = c.as_slice-uid-items.ensures ∙ c.in_ok-uids.ensures in
    let end : c.loop-uid.uid-index ≡ length uids = omega (arith, c.loop-uid-test.false, c.loop-uid.auto.uid-index-end) in
    subst (λ (us : List ℕ). All (λ uid. Supplies describes (message uid) (facts_of c.loop-uid.mail uid)) us) looked
    (all_supplied describes message uids c.loop-uid.mail (subst (λ (n : ℕ). AreFirst describes message uids n c.loop-uid.mail) end c.loop-uid.invariant))
