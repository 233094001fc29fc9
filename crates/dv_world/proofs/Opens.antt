-- A session begins.
use Rattle.std.proofs.Common.{◌≡◌, ℕ, Bool, true, false, cond, List, [], ◌∷◌, ◌++◌, map, nat_eq, Option, Some, None, refl, sym, ◌∙◌, ap, subst, arith}
use Rattle.std.specs.Prelude.{All, IfSome, option_map, position}
use Rattle.std.proofs.lemmas.Bool.Decides.{nat_tests}
use Rattle.std.proofs.lemmas.List.Elements.{All-push}
use Rattle.std.proofs.lemmas.Option.{none-some, same_Some}
use Rattle.dv_model.specs.declared.types.Command.{Command}
use Rattle.dv_model.specs.declared.types.Mailbox.{Mailbox}
use Rattle.dv_model.specs.declared.types.Reply.{Reply}
use Rattle.dv_model.specs.Journals.{at}
use Rattle.dv_model.specs.Sessions.{new_session}
use Rattle.dv_answer.specs.Following.{Follower, IsAbreast, new_follower}
use Rattle.dv_promises.proofs.Ending.{keeps}
use Rattle.dv_interleavings.specs.Worlds.{World, Session, Open, happens, opened, with_session}
use Rattle.dv_promises.specs.Standing.{HasAuthor, Stands}
use Rattle.dv_world.specs.declared.kept.Kept.{Kept}
use Rattle.dv_world.specs.declared.kept.Pending.{Pending}
use Rattle.dv_world.specs.declared.kept.Seat.{Seat}
use Rattle.dv_world.specs.declared.kept.Wrote.{Wrote}
use Rattle.dv_world.specs.Keeping.{HasTaken, IsKept, IsPending, IsSeat, Stays, kept_log}
use Rattle.dv_world.specs.Shapes.{kept_world, pending_of, seated, session_at, session_of, wrote_of}
use Rattle.dv_world.proofs.Found.{added, is_of, none}
use Rattle.dv_world.proofs.Stays.{kept_same, world_by}

-- one that begins where so many are published
abbrev pub begun : ℕ → Session
begun published = record { state = record new_session { told = published }; seen = published; wrote = None; answers = [] }

opened_none : (w : World) (s : ℕ) → w.sessions s ≡ None → opened w s ≡ with_session w s (Some (begun w.published))
opened_none w s is = rw is refl

pub opened_some : (w : World) (s : ℕ) (session : Session) → w.sessions s ≡ Some session → opened w s ≡ w
opened_some w s session is = rw is refl

module _ (k : Kept) (seat : Seat) (items : List Seat) (e : items ≡ k.seats.items ++ seat ∷ []) (is : session_of seat ≡ begun k.published) (absent : session_at (map seated k.seats.items) seat.number ≡ None) where
  sessions_are : session_at (map seated items) ≡ (λ t. cond (nat_eq seat.number t) (Some (begun k.published)) (session_at (map seated k.seats.items) t))
  sessions_are =
      ap (λ (xs : List Seat). session_at (map seated xs)) e ∙ added k.seats.items seat absent
      ∙ ap (λ (x : Session). λ t. cond (nat_eq seat.number t) (Some x) (session_at (map seated k.seats.items) t)) is

  pub world_opened : ◌≡◌ {A = World} (record (kept_world k) { sessions = session_at (map seated items) }) (happens (kept_world k) (Open seat.number))
  world_opened = ap (λ (f : ℕ → Option Session). record (kept_world k) { sessions = f }) sessions_are ∙ sym (opened_none (kept_world k) seat.number absent)

  -- whose entry is pending is as before
  pub pending_opened : IfSome k.pending (IsPending (kept_log k) k.end.mailbox (map seated k.seats.items)) → IfSome (option_map pending_of k.pending) (HasAuthor (kept_world k))
      → IfSome k.pending (IsPending (kept_log k) k.end.mailbox (map seated items))
  pending_opened = by_pending k.pending
    where
      by_pending : (o : Option Pending) → IfSome o (IsPending (kept_log k) k.end.mailbox (map seated k.seats.items)) → IfSome (option_map pending_of o) (HasAuthor (kept_world k))
          → IfSome o (IsPending (kept_log k) k.end.mailbox (map seated items))
      by_pending None was author = tt
      by_pending (Some p) was author = record {
        behind = was.behind;
        taken = λ runs session there. was.taken runs session (by_test (nat_eq seat.number p.author) refl session (sym (ap (λ (f : ℕ → Option Session). f p.author) sessions_are) ∙ there));
      }
        where
          by_test : (b : Bool) → nat_eq seat.number p.author ≡ b → (session : Session) → cond b (Some (begun k.published)) (session_at (map seated k.seats.items) p.author) ≡ Some session
              → session_at (map seated k.seats.items) p.author ≡ Some session
          by_test true same session there =
              let one : seat.number ≡ p.author = grind (arith, nat_tests) in
              absurd (none-some author.0 (sym absent ∙ ap (session_at (map seated k.seats.items)) one ∙ author.1))
          by_test false differs session there = there

-- the new session stands where the log was published
module _ (k : Kept) (kept : IsKept k) (seat : Seat) (follows : seat.session ≡ new_follower) (told : seat.told ≡ k.published) (seen : seat.seen ≡ k.published) (mailbox : seat.live.mailbox ≡ k.front.mailbox)
    (nothing : seat.wrote ≡ None) (unanswered : seat.answers.items ≡ []) (absent : position (is_of seat.number) k.seats.items ≡ None)
    (new : Kept) (stays : Stays k new) (pending : new.pending ≡ k.pending) (seats : new.seats.items ≡ k.seats.items ++ seat ∷ []) where
  session_is : session_of seat ≡ begun k.published
  session_is =
      ap (λ (f : Follower). record { state = record { selected = f.state.selected; view = f.state.view; told = seat.told }; seen = seat.seen; wrote = option_map wrote_of seat.wrote; answers = seat.answers.items }) follows
      ∙ ap (λ (n : ℕ). record { state = record new_session { told = n }; seen = seat.seen; wrote = option_map wrote_of seat.wrote; answers = seat.answers.items }) told
      ∙ ap (λ (n : ℕ). record { state = record new_session { told = k.published }; seen = n; wrote = option_map wrote_of seat.wrote; answers = seat.answers.items }) seen
      ∙ ap (λ (o : Option Wrote). record { state = record new_session { told = k.published }; seen = k.published; wrote = option_map wrote_of o; answers = seat.answers.items }) nothing
      ∙ ap (λ (xs : List (Command × List Reply)). record { state = record new_session { told = k.published }; seen = k.published; wrote = None; answers = xs }) unanswered

  nobody : session_at (map seated k.seats.items) seat.number ≡ None
  nobody = none k.seats.items seat.number absent

  world_is : kept_world new ≡ happens (kept_world k) (Open seat.number)
  world_is =
      world_by k new stays (option_map pending_of k.pending) (ap (option_map pending_of) pending) (session_at (map seated new.seats.items)) refl
      ∙ world_opened k seat new.seats.items seats session_is nobody

  seat_is : IsSeat (kept_log k) seat
  seat_is = record {
    inside = omega (arith, seen, kept.stands.published);
    live = ap (at (kept_log k)) seen ∙ kept.front ∙ ap Some (sym mailbox);
    abreast = subst (IsAbreast seat.live.mailbox) (sym follows) (λ selected. absurd cc);
    taken = subst (λ (o : Option Wrote). IfSome o (HasTaken (kept_log k) seat.session.state.view)) (sym nothing) tt;
  }

  pub opened_kept : (kept_world new ≡ happens (kept_world k) (Open seat.number)) × IsKept new
  opened_kept = (
    world_is,
    kept_same k new kept stays (subst Stands (sym world_is) (keeps (kept_world k) (Open seat.number) kept.stands tt))
        (subst (λ (o : Option Pending). IfSome o (IsPending (kept_log k) k.end.mailbox (map seated new.seats.items))) (sym pending)
        (pending_opened k seat new.seats.items seats session_is nobody kept.pending kept.stands.author))
        (subst (All (IsSeat (kept_log k))) (sym seats) (All-push (IsSeat (kept_log k)) k.seats.items seat kept.seats seat_is)),
  )
