use Rattle.std.proofs.Common.{◌≡◌, ◌∙◌, List, Option, Some, ap, subst, sym, ◌+◌, length}
use Rattle.std.specs.Prelude.{All, IsSomeAnd}
use Rattle.dv_model.specs.declared.types.Mailbox.{Mailbox}
use Rattle.dv_model.specs.declared.types.Record.{Record}
use Rattle.dv_model.specs.Effects.{applied}
use Rattle.dv_model.specs.Spelling.{IsRecord}
use Rattle.dv_apply.specs.Preparing.{Makes}
use Rattle.dv_apply.specs.States.{Held}
use Rattle.dv_world.proofs.Adds.{added_applies, added_of, records_good}
use Rattle.dv_world.proofs.Crashes.{crashed_more, not_so_many, one_more}
use Rattle.dv_world.proofs.crashing.crash_with_pending.Goals as goal

pub ready-requires : goal.ready-requires
ready-requires c = subst (All IsRecord) (sym c.as_slice.ensures) (records_good c.args.kept.now c.requires c.in-Some.p c.in-Some.is)

pub complete-requires : goal.complete-requires
complete-requires c =
    let k = c.args.kept.now in
    let p = c.in-Some.p in
    let mid = c.add_entry.new.kept in
    let wrote = c.in_ok-add_entry.field-0 in
    let added = added_of k p mid wrote c.in-Some.is c.in_ok-add_entry.ensures.ok in
    let same : c.in_ok-front.front.mailbox ≡ k.end.mailbox = ap (λ (h : Held). h.mailbox) c.in_ok-front.ensures in
    let behind : applied c.in_ok-front.front.mailbox c.as_slice.result.now ≡ Some mid.end.mailbox =
    ap (λ (m : Mailbox). applied m c.as_slice.result.now) same ∙ ap (applied k.end.mailbox) c.as_slice.ensures ∙ added_applies k c.requires p c.in-Some.is mid wrote added in
    (mid.end.mailbox, subst (λ (o : Option Mailbox). IsSomeAnd o (Makes c.ready.new.live c.in_ok-prepared.prepared)) behind c.in_ok-prepared.ensures.ok)

pub returns-clause-ok : goal.returns-clause-ok
returns-clause-ok c =
    let k = c.args.kept.now in
    let p = c.in-Some.p in
    let mid = c.add_entry.new.kept in
    let wrote = c.in_ok-add_entry.field-0 in
    let added = added_of k p mid wrote c.in-Some.is c.in_ok-add_entry.ensures.ok in
    let same : c.in_ok-front.front.mailbox ≡ k.end.mailbox = ap (λ (h : Held). h.mailbox) c.in_ok-front.ensures in
    let behind : applied c.in_ok-front.front.mailbox c.as_slice.result.now ≡ Some mid.end.mailbox =
    ap (λ (m : Mailbox). applied m c.as_slice.result.now) same ∙ ap (applied k.end.mailbox) c.as_slice.ensures ∙ added_applies k c.requires p c.in-Some.is mid wrote added in
    let made = subst (λ (o : Option Mailbox). IsSomeAnd o (Makes c.ready.new.live c.in_ok-prepared.prepared)) behind c.in_ok-prepared.ensures.ok in
    let front : c.complete.new.self.mailbox ≡ mid.end.mailbox = c.complete.ensures.is mid.end.mailbox made in
    (crashed_more k c.requires (length k.logged.items + 1) p c.in-Some.is mid c.leave_log.new.kept wrote c.complete.new.self added c.leave_log.ensures front (not_so_many k.logged.items) (one_more k.logged.items)).0

pub returns-clause-kept : goal.returns-clause-kept
returns-clause-kept c =
    let k = c.args.kept.now in
    let p = c.in-Some.p in
    let mid = c.add_entry.new.kept in
    let wrote = c.in_ok-add_entry.field-0 in
    let added = added_of k p mid wrote c.in-Some.is c.in_ok-add_entry.ensures.ok in
    let same : c.in_ok-front.front.mailbox ≡ k.end.mailbox = ap (λ (h : Held). h.mailbox) c.in_ok-front.ensures in
    let behind : applied c.in_ok-front.front.mailbox c.as_slice.result.now ≡ Some mid.end.mailbox =
    ap (λ (m : Mailbox). applied m c.as_slice.result.now) same ∙ ap (applied k.end.mailbox) c.as_slice.ensures ∙ added_applies k c.requires p c.in-Some.is mid wrote added in
    let made = subst (λ (o : Option Mailbox). IsSomeAnd o (Makes c.ready.new.live c.in_ok-prepared.prepared)) behind c.in_ok-prepared.ensures.ok in
    let front : c.complete.new.self.mailbox ≡ mid.end.mailbox = c.complete.ensures.is mid.end.mailbox made in
    (crashed_more k c.requires (length k.logged.items + 1) p c.in-Some.is mid c.leave_log.new.kept wrote c.complete.new.self added c.leave_log.ensures front (not_so_many k.logged.items) (one_more k.logged.items)).1
