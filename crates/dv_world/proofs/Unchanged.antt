-- A session is as before, but for memory that was taken.
use Rattle.std.proofs.Common.{◌≡◌, ℕ, ◌≤◌, zero, suc, length, List, [], ◌∷◌, map, Option, Some, refl, sym, ◌∙◌, ap, subst}
use Rattle.std.specs.Prelude.{All, IfSome, option_map, slice_get, slice_set}
use Rattle.std.proofs.lemmas.List.{map-set}
use Rattle.std.proofs.lemmas.List.Elements.{All-set}
use Rattle.std.proofs.lemmas.Option.{same_Some, slice_get-map}
use Rattle.dv_model.specs.Journals.{at}
use Rattle.dv_model.specs.declared.types.Mailbox.{Mailbox}
use Rattle.dv_model.proofs.Speaking.{one_of}
use Rattle.dv_answer.specs.Following.{Follower, IsAbreast}
use Rattle.dv_interleavings.specs.Worlds.{Session}
use Rattle.dv_promises.specs.Standing.{Stands}
use Rattle.dv_world.specs.declared.kept.Kept.{Kept}
use Rattle.dv_world.specs.declared.kept.Pending.{Pending}
use Rattle.dv_world.specs.declared.kept.Seat.{Seat}
use Rattle.dv_world.specs.declared.kept.Wrote.{Wrote}
use Rattle.dv_world.specs.Keeping.{HasTaken, IsKept, IsPending, IsSeat, Stays, kept_log}
use Rattle.dv_world.specs.Shapes.{kept_world, pending_of, seated, session_at}
use Rattle.dv_world.proofs.Stays.{kept_same, world_by}

set_here : {X : Type 0} (xs : List X) (i : ℕ) (x : X) → slice_get xs i ≡ Some x → slice_set xs i x ≡ xs
set_here [] i x e = absurd cc
set_here (y ∷ xs) zero x e = ap (λ z. z ∷ xs) (sym (same_Some y x e))
set_here (y ∷ xs) (suc i) x e = ap (λ zs. y ∷ zs) (set_here xs i x e)

module _ (k : Kept) (kept : IsKept k) (place : ℕ) (seat : Seat) (there : slice_get k.seats.items place ≡ Some seat) (after : Seat) (same : seated after ≡ seated seat) where
  pub same_seats : (items : List Seat) → items ≡ slice_set k.seats.items place after → map seated items ≡ map seated k.seats.items
  same_seats items seats =
      ap (map seated) seats ∙ map-set seated k.seats.items place after ∙ ap (slice_set (map seated k.seats.items) place) same
      ∙ set_here (map seated k.seats.items) place (seated seat) (slice_get-map seated k.seats.items place ∙ ap (option_map seated) there)

  pub kept_unchanged : (mailbox : after.live.mailbox ≡ seat.live.mailbox) → (session : after.session ≡ seat.session) → (wrote : after.wrote ≡ seat.wrote)
      → (new : Kept) → Stays k new → new.pending ≡ k.pending → new.seats.items ≡ slice_set k.seats.items place after → IsKept new
  kept_unchanged mailbox session wrote new stays pending seats =
      let sessions = same_seats new.seats.items seats in
      let world = world_by k new stays (option_map pending_of k.pending) (ap (option_map pending_of) pending) (session_at (map seated k.seats.items)) (ap session_at sessions) in
      let here : IsSeat (kept_log k) seat = one_of (IsSeat (kept_log k)) k.seats.items place seat kept.seats there in
      kept_same k new kept stays (subst Stands (sym world) kept.stands)
      (subst (λ (o : Option Pending). IfSome o (IsPending (kept_log k) k.end.mailbox (map seated new.seats.items))) (sym pending)
      (subst (λ (xs : List (ℕ × Session)). IfSome k.pending (IsPending (kept_log k) k.end.mailbox xs)) (sym sessions) kept.pending))
      (subst (All (IsSeat (kept_log k))) (sym seats) (All-set (IsSeat (kept_log k)) k.seats.items place after (record {
        inside = subst (λ (n : ℕ). n ≤ length (kept_log k).entries) (sym (ap (λ (one : ℕ × Session). one.1.seen) same)) here.inside;
        live = ap (λ (one : ℕ × Session). at (kept_log k) one.1.seen) same ∙ here.live ∙ ap Some (sym mailbox);
        abreast = subst (λ (m : Mailbox). IsAbreast m after.session) (sym mailbox) (subst (λ (f : Follower). IsAbreast seat.live.mailbox f) (sym session) here.abreast);
        taken = subst (λ (f : Follower). IfSome after.wrote (HasTaken (kept_log k) f.state.view)) (sym session) (subst (λ (o : Option Wrote). IfSome o (HasTaken (kept_log k) seat.session.state.view)) (sym wrote) here.taken);
      }) kept.seats))
