use Rattle.std.proofs.Common.{◌∙◌, ◌+◌, ℕ, List, ap, arith, length, subst, sym}
use Rattle.std.proofs.lemmas.List.{length_push}
use Rattle.dv_member.specs.Members.{Member}
use Rattle.dv_keeper.specs.Sessions.{AreNewSessions, IsNewSession}
use Rattle.dv_keeper.proofs.Settles.{new_more}
use Rattle.dv_keeper.proofs.making.make_sessions.Goals as goal

pub loop-before-preserved : goal.loop-before-preserved
loop-before-preserved g c =
    let inv = c.loop-before.invariant in
    let e = c.in_ok-session.ensures in
    let s = c.in_ok-session.field-0 in
    let items = c.in_ok-push.ensures.items in
    let start = g.K.Keeping.start in
    let is : IsNewSession start (c.loop-before.before + 1) s = record { is = e.new; nothing = e.nothing } in (
      c.session.ensures.same ∙ inv.0,
      e.writes.1,
      e.refusals.1,
      omega (arith, e.writes.0, inv.3),
      omega (arith, e.refusals.0, inv.4),
      ap (λ (l : List Member). length l) items ∙ length_push c.loop-before.sessions.items s ∙ ap (λ (n : ℕ). n + 1) inv.5,
      subst (λ (l : List Member). AreNewSessions start 1 l) (sym items) (new_more start 1 c.loop-before.sessions.items s inv.6 (subst (λ (n : ℕ). IsNewSession start n s) (omega (arith, inv.5)) is)),
    )
