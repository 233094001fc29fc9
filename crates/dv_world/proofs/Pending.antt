-- What is pending while one session is changed.
use Rattle.std.proofs.Common.{◌≡◌, ℕ, Bool, true, false, cond, List, map, nat_eq, Option, Some, None, refl, sym, ◌∙◌, ap, subst, arith}
use Rattle.std.proofs.lemmas.Bool.Decides.{nat_tests}
use Rattle.std.proofs.lemmas.Option.{same_Some}
use Rattle.dv_model.specs.declared.types.Mailbox.{Mailbox}
use Rattle.dv_model.specs.Journals.{Log}
use Rattle.dv_model.specs.Views.{View}
use Rattle.dv_responses.specs.Met.{met_of}
use Rattle.dv_interleavings.specs.Worlds.{Session}
use Rattle.dv_world.specs.declared.kept.Pending.{Pending}
use Rattle.dv_world.specs.Keeping.{IsPending}
use Rattle.dv_world.specs.Shapes.{session_at}

module _ (log : Log) (end : Mailbox) (before after : List (ℕ × Session)) (s : ℕ) (x : Session) (are : session_at after ≡ (λ t. cond (nat_eq s t) (Some x) (session_at before t))) (p : Pending) (was : IsPending log end before p) where
  -- the entry of another session, or of one whose view stays
  pub pending_changed : (p.author ≡ s → (old : Session) × (session_at before s ≡ Some old) × (x.state.view ≡ old.state.view)) → IsPending log end after p
  pending_changed view = record {
    behind = was.behind;
    taken = λ runs session there. by_test (nat_eq s p.author) refl runs session (sym (ap (λ (f : ℕ → Option Session). f p.author) are) ∙ there);
  }
    where
      by_test : (b : Bool) → nat_eq s p.author ≡ b → p.running ≡ true → (session : Session) → cond b (Some x) (session_at before p.author) ≡ Some session
          → p.taken ≡ met_of p.command session.state.view end
      by_test true same runs session there =
          let author : p.author ≡ s = grind (arith, nat_tests) in
          let old = view author in
          was.taken runs old.0 (ap (session_at before) author ∙ old.1)
          ∙ ap (λ (v : View). met_of p.command v end) (sym old.2)
          ∙ ap (λ (y : Session). met_of p.command y.state.view end) (same_Some x session there)
      by_test false other runs session there = was.taken runs session there

-- one that no longer runs
pub pending_stopped : (log : Log) (end : Mailbox) (before after : List (ℕ × Session)) (p : Pending) → IsPending log end before p → IsPending log end after (record p { running = false })
pending_stopped log end before after p was = record {
  behind = was.behind;
  taken = λ runs session there. absurd cc;
}
