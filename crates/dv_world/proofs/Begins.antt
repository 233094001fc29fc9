-- A log without entries is kept.
use Rattle.std.proofs.Common.{◌≡◌, ℕ, List, [], length, map, Option, Some, None, sym, ◌∙◌, ap, subst}
use Rattle.std.specs.Prelude.{All, IfSome, slice_get}
use Rattle.std.proofs.lemmas.List.Elements.{All-nil}
use Rattle.std.proofs.lemmas.Option.{none-some}
use Rattle.dv_model.specs.declared.types.Mailbox.{Mailbox}
use Rattle.dv_model.specs.declared.types.Mark.{Mark}
use Rattle.dv_model.specs.Journals.{at}
use Rattle.dv_interleavings.specs.Worlds.{World, Stored, new_world}
use Rattle.dv_promises.specs.Standing.{IsStart, Stands}
use Rattle.dv_promises.proofs.Ending.{begins}
use Rattle.dv_world.specs.declared.kept.Kept.{Kept}
use Rattle.dv_world.specs.declared.kept.Logged.{Logged}
use Rattle.dv_world.specs.declared.kept.Pending.{Pending}
use Rattle.dv_world.specs.declared.kept.Seat.{Seat}
use Rattle.dv_world.specs.Keeping.{IsKept, IsLogged, IsPending, IsSeat, kept_log}
use Rattle.dv_world.specs.Shapes.{kept_world, seated, stored_of, world_of}

-- a world of lists
abbrev listed : Mailbox → ℕ → Mark → List (ℕ × Option (List ℕ) × List ℕ) → List Logged → List Seat → World
listed start indexid mark stored logged seats = world_of (record {
  start = start;
  start_mark = mark;
  indexid = indexid;
  stored = map stored_of stored;
  entries = map (λ (l : Logged). l.entry) logged;
  pending = None;
  published = 0;
  sessions = map seated seats;
})

pub world_begun : (start : Mailbox) (indexid : ℕ) (mark : Mark) (mail stored : List (ℕ × Option (List ℕ) × List ℕ)) (logged : List Logged) (seats : List Seat) → stored ≡ mail → logged ≡ [] → seats ≡ []
    → listed start indexid mark stored logged seats ≡ new_world start indexid mark (map stored_of mail)
world_begun start indexid mark mail stored logged seats same none nobody =
    ap (λ (xs : List (ℕ × Option (List ℕ) × List ℕ)). listed start indexid mark xs logged seats) same
    ∙ ap (λ (xs : List Logged). listed start indexid mark mail xs seats) none
    ∙ ap (λ (xs : List Seat). listed start indexid mark mail [] xs) nobody

module _ (start : Mailbox) (indexid : ℕ) (mark : Mark) (stored : List Stored) (is : IsStart start indexid mark stored) (made : Kept) (world : kept_world made ≡ new_world start indexid mark stored)
    (logged : made.logged.items ≡ []) (number : made.published ≡ 0) (front : made.front.mailbox ≡ start) (end : made.end.mailbox ≡ start) (pending : made.pending ≡ None) (seats : made.seats.items ≡ []) where
  pub begins_kept : IsKept made
  begins_kept = record {
    stands = subst Stands (sym world) (begins start indexid mark stored is);
    front = ap (at (kept_log made)) number ∙ ap (λ (w : World). at w.log 0) world ∙ ap Some (sym front);
    end = ap (λ (xs : List Logged). at (kept_log made) (length xs)) logged ∙ ap (λ (w : World). at w.log 0) world ∙ ap Some (sym end);
    logged = λ j l there. absurd (none-some l (ap (λ (xs : List Logged). slice_get xs j) (sym logged) ∙ there));
    pending = subst (λ (o : Option Pending). IfSome o (IsPending (kept_log made) made.end.mailbox (map seated made.seats.items))) (sym pending) tt;
    seats = subst (All (IsSeat (kept_log made))) (sym seats) (All-nil (IsSeat (kept_log made)));
  }
