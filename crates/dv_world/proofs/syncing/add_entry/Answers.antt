use Rattle.std.proofs.Common.{◌≡◌, ◌∙◌, ℕ, ◌+◌, List, [], ◌∷◌, ◌++◌, Option, Some, ap, arith, length, refl, subst, sym}
use Rattle.std.specs.Prelude.{◌↔◌, All, Contains, IsSomeAnd}
use Rattle.std.proofs.lemmas.Option.{same_Some}
use Rattle.dv_model.specs.declared.types.Mailbox.{Mailbox}
use Rattle.dv_model.specs.declared.types.Record.{Record}
use Rattle.dv_model.specs.Effects.{applied}
use Rattle.dv_model.specs.Fresh.{IsTouched}
use Rattle.dv_model.specs.Spelling.{IsRecord}
use Rattle.dv_apply.specs.Preparing.{Makes}
use Rattle.dv_world.specs.Adding.{stored_by, stored_with}
use Rattle.dv_world.specs.declared.kept.Kept.{Kept}
use Rattle.dv_world.specs.declared.kept.Logged.{Logged}
use Rattle.dv_world.specs.declared.kept.Pending.{Pending}
use Rattle.dv_world.specs.declared.kept.Wrote.{Wrote}
use Rattle.dv_world.proofs.Adds.{added_is, added_some, adds_some, records_good}
use Rattle.dv_world.proofs.syncing.add_entry.Goals as goal

pub ready-requires : goal.ready-requires
ready-requires c = subst (All IsRecord) (sym c.as_slice.ensures) (records_good c.args.kept.now c.requires c.in-Some.p c.in-Some.is)

pub returns-clause-ok : goal.returns-clause-ok
returns-clause-ok c =
    let k = c.args.kept.now in
    let p = c.in-Some-take.p in
    let is : k.pending ≡ Some p = sym c.take.ensures.value ∙ c.in-Some-take.is in
    let same : c.in-Some.p ≡ p = same_Some c.in-Some.p p (sym c.in-Some.is ∙ is) in
    let behind = added_some k c.requires p is in
    let applies : applied k.end.mailbox c.as_slice.result.now ≡ Some behind.0 =
    ap (applied k.end.mailbox) (c.as_slice.ensures ∙ ap (λ (x : Pending). x.group.records) same) ∙ behind.1 in
    let made = subst (λ (o : Option Mailbox). IsSomeAnd o (Makes c.ready.new.live c.in_ok-prepared.prepared)) applies c.in_ok-prepared.ensures.ok in
    let end : c.complete-touched.new.self.mailbox ≡ behind.0 = c.complete-touched.ensures.is behind.0 made in
    let l : Logged = record { entry = record { author = p.author; group = p.group }; behind = p.behind; touched = c.complete-touched.result } in
    let touched : (uid : ℕ) → Contains c.complete-touched.result uid ↔ IsTouched k.end.mailbox behind.0 uid =
    λ uid. subst (λ (m : Mailbox). Contains c.complete-touched.result uid ↔ IsTouched k.end.mailbox m uid) end
    (subst (λ (m : Mailbox). Contains c.complete-touched.result uid ↔ IsTouched m c.complete-touched.new.self.mailbox uid) c.in_ok-prepared.ensures.mailbox (c.complete-touched.ensures.touched uid)) in
    let number : c.len-met.result ≡ length k.logged.items = omega (arith, c.len-met.ensures, c.reserve-2.new.self.ok.0, ap length c.in_ok-reserve-2.ensures.items) in
    let done = λ (n : ℕ). let w : Wrote = record { place = n + 1; met = n; command = p.command; taken = p.taken } in Some w in
    let new : Kept = record k { stored = c.keep.new.stored; logged = c.push.new.self; pending = c.take.new.self; end = c.complete-touched.new.self } in
    let wrote : Option Wrote = Some (record { place = c.len-met.result + 1; met = c.len-met.result; command = p.command; taken = p.taken }) in
    adds_some k p new wrote is (added_is k c.requires p is new l behind.0 refl
    (c.in_ok-push.ensures.items ∙ ap (λ (xs : List Logged). xs ++ l ∷ []) c.in_ok-reserve-2.ensures.items) refl refl
    (c.in_ok-keep.ensures.ok ∙ ap (stored_with c.in_ok-message.message) c.in_ok-reserve.ensures.items
    ∙ ap (λ (o : Option (ℕ × Option (List ℕ) × List ℕ)). stored_with o k.stored.items) (c.in_ok-message.ensures ∙ ap (stored_by k.indexid k.end.mailbox) same))
    behind.1 end touched c.take.ensures.after refl refl refl wrote
    (ap done number))
