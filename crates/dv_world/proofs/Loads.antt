-- A session sees more of the log.
use Rattle.std.proofs.Common.{◌≡◌, ℕ, ◌+◌, ◌-◌, ◌≤◌, cond, List, length, map, drop, take, nat_eq, Option, Some, None, refl, sym, ◌∙◌, ap, subst, arith, Result, Ok, Err}
use Rattle.std.specs.Prelude.{OnErr, All, IfSome, option_map, position, slice_get, slice_set}
use Rattle.std.specs.Vec.{with_item}
use Rattle.std.proofs.lemmas.List.Elements.{All-set}
use Rattle.std.proofs.lemmas.List.{length-drop, length-map, length-take-le}
use Rattle.dv_model.specs.Journals.{at}
use Rattle.dv_model.specs.Views.{View}
use Rattle.dv_model.proofs.Speaking.{one_of}
use Rattle.dv_answer.specs.Following.{IsAbreast}
use Rattle.dv_interleavings.specs.Worlds.{World, Session, Wrote as ModelWrote, Load, happens, loaded, loaded_number, with_session}
use Rattle.dv_promises.specs.Standing.{IsLive, Stands}
use Rattle.dv_promises.proofs.Ending.{keeps}
use Rattle.dv_world.specs.declared.kept.Kept.{Kept}
use Rattle.dv_world.specs.declared.kept.Logged.{Logged}
use Rattle.dv_world.specs.declared.kept.Pending.{Pending}
use Rattle.dv_world.specs.declared.kept.Seat.{Seat}
use Rattle.dv_world.specs.declared.kept.Wrote.{Wrote}
use Rattle.dv_world.specs.Keeping.{HasTaken, IsKept, IsPending, IsSeat, Stays, kept_log}
use Rattle.dv_world.specs.Shapes.{kept_world, pending_of, plain_of, seated, session_at, session_of, wrote_of}
use Rattle.dv_world.proofs.Pending.{pending_changed}
use Rattle.dv_world.proofs.Stays.{kept_same, world_by}
use Rattle.dv_world.proofs.Found.{found, is_of, none, number_is, replaced}
use Rattle.dv_world.proofs.Unchanged.{kept_unchanged, same_seats}

loaded_absent : (w : World) (s : ℕ) → w.sessions s ≡ None → loaded w s ≡ w
loaded_absent w s is = rw is refl

loaded_is : (w : World) (s : ℕ) (session : Session) → w.sessions s ≡ Some session → loaded w s ≡ with_session w s (Some (record session { seen = loaded_number w.published session.wrote }))
loaded_is w s session is = rw is refl

pub loads_nobody : (k : Kept) (s : ℕ) → position (is_of s) k.seats.items ≡ None → kept_world k ≡ happens (kept_world k) (Load s)
loads_nobody k s place = sym (loaded_absent (kept_world k) s (none k.seats.items s place))

module _ (k : Kept) (kept : IsKept k) (s place : ℕ) (seat : Seat) (found_there : position (is_of s) k.seats.items ≡ Some place) (there : slice_get k.seats.items place ≡ Some seat) where
  is : (kept_world k).sessions s ≡ Some (session_of seat)
  is = found k.seats.items s place seat found_there there

  lives : IsLive (kept_log k) k.published (option_map pending_of k.pending) s (session_of seat)
  lives = kept.stands.each s (session_of seat) is

  pub here : IsSeat (kept_log k) seat
  here = one_of (IsSeat (kept_log k)) k.seats.items place seat kept.seats there

  -- how far it loads
  abbrev pub number : ℕ
  number = loaded_number k.published (option_map wrote_of seat.wrote)

  no_less : (o : Option ModelWrote) → IfSome o (λ w. seat.seen ≤ w.place) → seat.seen ≤ k.published → seat.seen ≤ loaded_number k.published o
  no_less None own seen = seen
  no_less (Some w) own seen = omega arith

  no_more : (o : Option ModelWrote) → loaded_number k.published o ≤ k.published
  no_more None = omega arith
  no_more (Some w) = omega arith

  pub from_seen : seat.seen ≤ number
  from_seen = no_less (option_map wrote_of seat.wrote) lives.loaded lives.seen

  pub to_end : number ≤ length k.logged.items
  to_end = omega (arith, no_more (option_map wrote_of seat.wrote), kept.stands.published, length-map k.logged.items (λ (l : Logged). l.entry))

  module _ (after : Seat) (seated_is : seated after ≡ (seat.number, record (session_of seat) { seen = number })) (new : Kept) (stays : Stays k new) (pending : new.pending ≡ k.pending)
      (seats : new.seats.items ≡ slice_set k.seats.items place after) where
    session_is : session_of after ≡ record (session_of seat) { seen = number }
    session_is = ap (λ (one : ℕ × Session). one.1) seated_is

    sessions_are : session_at (map seated new.seats.items) ≡ (λ t. cond (nat_eq s t) (Some (record (session_of seat) { seen = number })) (session_at (map seated k.seats.items) t))
    sessions_are =
        ap (λ (xs : List Seat). session_at (map seated xs)) seats
        ∙ replaced k.seats.items s place seat after found_there (ap (λ (one : ℕ × Session). one.0) seated_is ∙ number_is k.seats.items s place seat found_there there)
        ∙ ap (λ (x : Session). λ t. cond (nat_eq s t) (Some x) (session_at (map seated k.seats.items) t)) session_is

    pub world_loaded : kept_world new ≡ happens (kept_world k) (Load s)
    world_loaded = world_by k new stays (option_map pending_of k.pending) (ap (option_map pending_of) pending) _ sessions_are ∙ sym (loaded_is (kept_world k) s (session_of seat) is)

    pending_loaded : IfSome new.pending (IsPending (kept_log k) k.end.mailbox (map seated new.seats.items))
    pending_loaded = subst (λ (o : Option Pending). IfSome o (IsPending (kept_log k) k.end.mailbox (map seated new.seats.items))) (sym pending) (by_pending k.pending kept.pending)
      where
        by_pending : (o : Option Pending) → IfSome o (IsPending (kept_log k) k.end.mailbox (map seated k.seats.items)) → IfSome o (IsPending (kept_log k) k.end.mailbox (map seated new.seats.items))
        by_pending None was = tt
        by_pending (Some p) was =
            pending_changed (kept_log k) k.end.mailbox (map seated k.seats.items) (map seated new.seats.items) s (record (session_of seat) { seen = number }) sessions_are p was (λ e. (session_of seat, is, refl))

    pub kept_loaded : at (kept_log k) number ≡ Some after.live.mailbox → IsAbreast after.live.mailbox after.session → after.wrote ≡ seat.wrote → IsKept new
    kept_loaded live abreast wrote =
        kept_same k new kept stays (subst Stands (sym world_loaded) (keeps (kept_world k) (Load s) kept.stands tt)) pending_loaded
        (subst (All (IsSeat (kept_log k))) (sym seats) (All-set (IsSeat (kept_log k)) k.seats.items place after (record {
          inside = let seen : after.seen ≡ number = ap (λ (x : Session). x.seen) session_is in omega (arith, to_end, length-map k.logged.items (λ (l : Logged). l.entry));
          live = ap (at (kept_log k)) (ap (λ (x : Session). x.seen) session_is) ∙ live;
          abreast = abreast;
          taken = subst (λ (v : View). IfSome after.wrote (HasTaken (kept_log k) v)) (sym (ap (λ (x : Session). x.state.view) session_is))
              (subst (λ (o : Option Wrote). IfSome o (HasTaken (kept_log k) seat.session.state.view)) (sym wrote) here.taken);
        }) kept.seats))

  -- behind what it sees then
  abbrev pub loaded_seat : ℕ → Seat → Seat
  loaded_seat seen mid = record mid { seen = seen }

  abbrev pub loaded_kept : ℕ → Seat → Kept
  loaded_kept seen mid = record k { seats = with_item k.seats place (record mid { seen = seen }) }

  loaded_stays : (seen : ℕ) (mid : Seat) → Stays k (loaded_kept seen mid)
  loaded_stays seen mid = record { log = refl; logged = refl; published = refl; front = refl; end = refl }

  loaded_seated : (seen : ℕ) → seen ≡ number → (mid : Seat) → seated mid ≡ seated seat → seated (loaded_seat seen mid) ≡ (seat.number, record (session_of seat) { seen = number })
  loaded_seated seen so mid same =
      ap (λ (one : ℕ × Session). (one.0, record one.1 { seen = seen })) same
      ∙ ap (λ (n : ℕ). (seat.number, record (session_of seat) { seen = n })) so

  loaded_place : (seen : ℕ) → seen ≡ number → (between : List Logged) → between ≡ drop seat.seen (take seen k.logged.items) → number ≡ seat.seen + length between
  loaded_place seen so between between_is =
      let size : length between ≡ seen - seat.seen = ap length between_is ∙ length-drop seat.seen (take seen k.logged.items) ∙ ap (λ (n : ℕ). n - seat.seen) (length-take-le seen k.logged.items (omega (arith, so, to_end))) in
      omega (arith, size, so, from_seen)

  pub loaded_so : (seen : ℕ) → seen ≡ number → (between : List Logged) → between ≡ drop seat.seen (take seen k.logged.items) → (mid : Seat) → seated mid ≡ seated seat → mid.wrote ≡ seat.wrote
      → (at (kept_log k) (seat.seen + length between) ≡ Some mid.live.mailbox) × IsAbreast mid.live.mailbox mid.session
      → (kept_world (loaded_kept seen mid) ≡ happens (kept_world k) (Load s)) × IsKept (loaded_kept seen mid)
  loaded_so seen so between between_is mid same wrote live = (
    world_loaded (loaded_seat seen mid) (loaded_seated seen so mid same) (loaded_kept seen mid) (loaded_stays seen mid) refl refl,
    kept_loaded (loaded_seat seen mid) (loaded_seated seen so mid same) (loaded_kept seen mid) (loaded_stays seen mid) refl refl (ap (at (kept_log k)) (loaded_place seen so between between_is) ∙ live.0) live.1 wrote,
  )

-- ---- a session that is as before

module _ (k : Kept) (kept : IsKept k) (place : ℕ) (seat : Seat) (there : slice_get k.seats.items place ≡ Some seat) (after : Seat) (same : seated after ≡ seated seat) where
  pub plain_so : plain_of (record k { seats = with_item k.seats place after }) ≡ plain_of k
  plain_so = ap (λ (xs : List (ℕ × Session)). record (plain_of k) { sessions = xs }) (same_seats k kept place seat there after same (slice_set k.seats.items place after) refl)

  pub kept_so : after.live.mailbox ≡ seat.live.mailbox → after.session ≡ seat.session → after.wrote ≡ seat.wrote → IsKept (record k { seats = with_item k.seats place after })
  kept_so mailbox session wrote =
      kept_unchanged k kept place seat there after same mailbox session wrote (record k { seats = with_item k.seats place after })
      (record { log = refl; logged = refl; published = refl; front = refl; end = refl }) refl refl

-- so it is also where an error is given
pub on_err : {A E P : Type 0} (r : Result A E) → P → OnErr r P
on_err (Ok x) p = tt
on_err (Err e) p = p
