use Rattle.std.proofs.Common.{◌≡◌, ◌∙◌, ◌⊎◌, inl, inr, ◌<◌, ◌≤◌, ap, arith, subst, sym, take}
use Rattle.std.proofs.lemmas.Option.{same_Some}
use mathlib.Core.List.{IsPrefix}
use Rattle.dv_model.specs.declared.types.Step.TheVariants.{Full}
use Rattle.dv_model.specs.Views.{empty_view, moved}
use Rattle.dv_front.proofs.Prefixes.{prefix_both}
use Rattle.dv_notes.specs.Logs.{mailbox_behind}
use Rattle.dv_member.specs.Inside.{all_of}
use Rattle.dv_member.specs.Members.{Member, notes_of}
use Rattle.dv_member.proofs.Seen.{seen_meets}
use Rattle.dv_member.proofs.meeting.meet.Goals as goal
use Rattle.dv_member.proofs.meeting.meet.Goals.{then-a-b-2, else-a-b-2+then-b-a, else-a-b-2+else-b-a}

turned : {A B : Type 0} → A ⊎ B → B ⊎ A
turned (inl a) = inr a
turned (inr b) = inl b

pub returns-clause-first : goal.returns-clause-first
returns-clause-first g c = λ is.
    let a = c.a.inside in
    let b = c.b.inside in
    let lt : a.mirror.seen < b.mirror.seen = elim c.if-a-b-2.branch [
      | then-a-b-2 w ↦ w.if-a-b-2.true
      | else-a-b-2+then-b-a w ↦ absurd (cc (is, w.result-is))
      | else-a-b-2+else-b-a w ↦ absurd (cc (is, w.result-is))
    ] in
    let begins = seen_meets a.reader.pass b.reader.pass a.mirror.seen b.mirror.seen c.a.invariant.0.within c.b.invariant.0.within c.agree.ensures.one c.agree.ensures.either (omega (arith, lt)) in
    subst (λ (s : Member). IsPrefix (notes_of s) (notes_of c.args.b.now) × (s.seen < c.args.b.now.seen)) c.a.view_is
    (subst (λ (s : Member). IsPrefix (take a.mirror.seen (all_of a.reader.pass)) (notes_of s) × (a.mirror.seen < s.seen)) c.b.view_is (begins, lt))

pub returns-clause-second : goal.returns-clause-second
returns-clause-second g c = λ is.
    let a = c.a.inside in
    let b = c.b.inside in
    let lt : b.mirror.seen < a.mirror.seen = elim c.if-a-b-2.branch [
      | then-a-b-2 w ↦ absurd (cc (is, w.result-is))
      | else-a-b-2+then-b-a w ↦ w.if-b-a.true
      | else-a-b-2+else-b-a w ↦ absurd (cc (is, w.result-is))
    ] in
    let begins = seen_meets b.reader.pass a.reader.pass b.mirror.seen a.mirror.seen c.b.invariant.0.within c.a.invariant.0.within (sym c.agree.ensures.one) (turned c.agree.ensures.either) (omega (arith, lt)) in
    subst (λ (s : Member). IsPrefix (notes_of s) (notes_of c.args.a.now) × (s.seen < c.args.a.now.seen)) c.b.view_is
    (subst (λ (s : Member). IsPrefix (take b.mirror.seen (all_of b.reader.pass)) (notes_of s) × (b.mirror.seen < s.seen)) c.a.view_is (begins, lt))

pub returns-clause-views : goal.returns-clause-views
returns-clause-views g c = λ is a_told b_told.
    let start = g.K.Keeping.start in
    let a = c.a.inside in
    let b = c.b.inside in
    let both : (a.mirror.seen ≤ b.mirror.seen) × (b.mirror.seen ≤ a.mirror.seen) = elim c.if-a-b-2.branch [
      | then-a-b-2 w ↦ absurd (cc (is, w.result-is))
      | else-a-b-2+then-b-a w ↦ absurd (cc (is, w.result-is))
      | else-a-b-2+else-b-a w ↦ (w.if-b-a.false, w.if-a-b-2.false)
    ] in
    let same : take a.mirror.seen (all_of a.reader.pass) ≡ take b.mirror.seen (all_of b.reader.pass) =
    prefix_both (take a.mirror.seen (all_of a.reader.pass)) (take b.mirror.seen (all_of b.reader.pass))
    (seen_meets a.reader.pass b.reader.pass a.mirror.seen b.mirror.seen c.a.invariant.0.within c.b.invariant.0.within c.agree.ensures.one c.agree.ensures.either both.0)
    (seen_meets b.reader.pass a.reader.pass b.mirror.seen a.mirror.seen c.b.invariant.0.within c.a.invariant.0.within (sym c.agree.ensures.one) (turned c.agree.ensures.either) both.1) in
    let a_fresh = ap (λ (s : Member). s.spent) c.a.view_is ∙ c.requires.fresh.0 in
    let b_fresh = ap (λ (s : Member). s.spent) c.b.view_is ∙ c.requires.fresh.1 in
    let live : a.mirror.live.mailbox ≡ b.mirror.live.mailbox =
    same_Some a.mirror.live.mailbox b.mirror.live.mailbox
    (sym (c.a.invariant.0.follows a_fresh).mirror.live ∙ ap (mailbox_behind start.start) same ∙ (c.b.invariant.0.follows b_fresh).mirror.live) in
    a_told.view ∙ ap (moved Full empty_view) (sym (ap (λ (s : Member). s.live) c.a.view_is) ∙ live ∙ ap (λ (s : Member). s.live) c.b.view_is) ∙ sym b_told.view
