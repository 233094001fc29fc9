-- All entries are published.
use Rattle.std.proofs.Common.{◌≡◌, ℕ, ◌+◌, List, length, map, drop, Option, Some, refl, sym, ◌∙◌, ap, subst, arith, length-drop}
use Rattle.std.specs.Global.{Vec}
use Rattle.std.specs.Prelude.{All, IfSome, option_map, slice_get}
use Rattle.std.proofs.lemmas.List.{length-map}
use Rattle.dv_model.specs.Effects.{applied}
use Rattle.dv_model.specs.Journals.{Log, at}
use Rattle.dv_model.specs.Spelling.{IsRecord}
use Rattle.dv_apply.specs.States.{Held}
use Rattle.dv_interleavings.specs.Worlds.{Publish, happens}
use Rattle.dv_promises.specs.Standing.{Stands}
use Rattle.dv_promises.proofs.Ending.{keeps}
use Rattle.dv_world.specs.declared.kept.Kept.{Kept}
use Rattle.dv_world.specs.declared.kept.Logged.{Logged}
use Rattle.dv_world.specs.declared.kept.Pending.{Pending}
use Rattle.dv_world.specs.declared.kept.Seat.{Seat}
use Rattle.dv_world.specs.Keeping.{IsKept, IsLogged, IsPending, IsSeat, kept_log}
use Rattle.dv_world.specs.Shapes.{kept_world, pending_of, seated, session_at}
use Rattle.dv_world.proofs.Entries.{goes, kept_behind, records_good, records_of}
use Rattle.dv_world.proofs.Stays.{world_parts}

-- the records that aren't published lead to the log's end
module _ (k : Kept) (kept : IsKept k) where
  pub unpublished_good : All IsRecord (records_of (drop k.published k.logged.items))
  unpublished_good = records_good (kept_log k) kept.stands.sound k.published (drop k.published k.logged.items) (kept_behind k kept k.published)

  pub unpublished_lead : applied k.front.mailbox (records_of (drop k.published k.logged.items)) ≡ Some k.end.mailbox
  unpublished_lead =
      let number : k.published + length (drop k.published k.logged.items) ≡ length k.logged.items =
      omega (arith, kept.stands.published, length-map k.logged.items (λ (l : Logged). l.entry), length-drop k.published k.logged.items) in
      goes (kept_log k) kept.stands.sound k.published (drop k.published k.logged.items) k.front.mailbox k.end.mailbox (kept_behind k kept k.published) kept.front (ap (at (kept_log k)) number ∙ kept.end)

module _ (k : Kept) (kept : IsKept k) (new : Kept) (log : kept_log new ≡ kept_log k) (logged : new.logged ≡ k.logged) (end : new.end ≡ k.end) (pending : new.pending ≡ k.pending) (seats : new.seats ≡ k.seats)
    (number : new.published ≡ length k.logged.items) (front : at (kept_log k) (length k.logged.items) ≡ Some new.front.mailbox) where
  pub world_published : kept_world new ≡ happens (kept_world k) Publish
  world_published =
      world_parts new (kept_log k) (option_map pending_of k.pending) (length (map (λ (l : Logged). l.entry) k.logged.items)) (session_at (map seated k.seats.items))
      log (ap (option_map pending_of) pending) (number ∙ sym (length-map k.logged.items (λ (l : Logged). l.entry))) (ap (λ (v : Vec Seat). session_at (map seated v.items)) seats)

  pub kept_published : IsKept new
  kept_published = record {
    stands = subst Stands (sym world_published) (keeps (kept_world k) Publish kept.stands tt);
    front = ap (λ (l : Log). at l new.published) log ∙ ap (at (kept_log k)) number ∙ front;
    end = ap (λ (l : Log). at l (length new.logged.items)) log ∙ ap (λ (v : Vec Logged). at (kept_log k) (length v.items)) logged ∙ kept.end ∙ ap (λ (l : Held). Some l.mailbox) (sym end);
    logged = λ j l there. subst (λ (log : Log). IsLogged log j l) (sym log) (kept.logged j l (sym (ap (λ (v : Vec Logged). slice_get v.items j) logged) ∙ there));
    pending = subst (λ (l : Log). IfSome new.pending (IsPending l new.end.mailbox (map seated new.seats.items))) (sym log)
        (subst (λ (h : Held). IfSome new.pending (IsPending (kept_log k) h.mailbox (map seated new.seats.items))) (sym end)
        (subst (λ (v : Vec Seat). IfSome new.pending (IsPending (kept_log k) k.end.mailbox (map seated v.items))) (sym seats)
        (subst (λ (o : Option Pending). IfSome o (IsPending (kept_log k) k.end.mailbox (map seated k.seats.items))) (sym pending) kept.pending)));
    seats = subst (λ (l : Log). All (IsSeat l) new.seats.items) (sym log) (subst (λ (v : Vec Seat). All (IsSeat (kept_log k)) v.items) (sym seats) kept.seats);
  }
