-- A session is answered.
use Rattle.std.proofs.Common.{◌≡◌, ℕ, ◌≤◌, Bool, true, false, cond, List, [], ◌∷◌, ◌++◌, map, nat_eq, Option, Some, None, refl, sym, ◌∙◌, ap, subst, arith}
use Rattle.std.specs.Prelude.{◌&&◌, ◌||◌, not, All, IfSome, is_some, nat_le, option_map, position, slice_get, slice_set}
use Rattle.std.specs.Vec.{with_item}
use Rattle.std.proofs.lemmas.Bool.{and_parts}
use Rattle.std.proofs.lemmas.Bool.Decides.{nat_tests}
use Rattle.std.proofs.lemmas.List.Elements.{All-set}
use Rattle.std.proofs.lemmas.Option.{none-some, same_Some}
use Rattle.dv_model.specs.declared.types.Command.{Command}
use Rattle.dv_model.specs.declared.types.Mailbox.{Mailbox}
use Rattle.dv_model.specs.declared.types.Reply.{Reply}
use Rattle.dv_model.specs.declared.types.Reply.TheVariants as reply
use Rattle.dv_model.specs.Journals.{Log, at, mark_of}
use Rattle.dv_model.specs.declared.types.Mark.{Mark}
use Rattle.dv_model.specs.Sessions.{Answer, State, answer, is_select, is_write, missing_number}
use Rattle.dv_model.proofs.Speaking.{one_of}
use Rattle.dv_apply.specs.States.{Held}
use Rattle.dv_answer.specs.Following.{IsAbreast}
use Rattle.dv_responses.specs.Met.{met_of}
use Rattle.dv_responses.specs.declared.meeting.Met.{Met}
use Rattle.dv_answer.specs.Refusing.{own_refusal}
use Rattle.dv_interleavings.specs.Worlds.{World, Session, Pending as ModelPending, Wrote as ModelWrote, Tell, happens, is_bad, same_write, stopped_of, told, told_numbers, with_answer}
use Rattle.dv_promises.specs.Standing.{IsLive, IsWriting, Stands}
use Rattle.dv_promises.proofs.Ending.{keeps}
use Rattle.dv_promises.proofs.Equals.{one_write}
use Rattle.dv_promises.proofs.Small.{if_some}
use Rattle.dv_world.specs.declared.kept.Kept.{Kept}
use Rattle.dv_world.specs.declared.kept.Pending.{Pending}
use Rattle.dv_world.specs.declared.kept.Seat.{Seat}
use Rattle.dv_world.specs.declared.kept.Wrote.{Wrote}
use Rattle.dv_world.specs.Keeping.{HasTaken, IsKept, IsPending, IsSeat, Stays, kept_log}
use Rattle.dv_world.specs.Shapes.{kept_world, pending_of, seated, session_at, session_of, state_of, wrote_of}
use Rattle.dv_world.specs.Telling.{answered, own_stopped, taken_by, taken_of}
use Rattle.dv_world.proofs.Pending.{pending_changed, pending_stopped}
use Rattle.dv_world.proofs.Stays.{kept_same, world_by}
use Rattle.dv_world.proofs.Found.{found, is_of, none, number_is, replaced}

-- ---- whether it may be answered

-- the session refuses the command by itself
pub bad_is : (x : State) (c : Command) → is_bad x c ≡ is_some (own_refusal x c)
bad_is x c = by_first (not x.selected && not (is_select c)) (missing_number c x.view)
  where
    by_first : (b : Bool) (o : Option ℕ) → (b || is_some o) ≡ is_some (cond b (Some reply.NotSelected) (option_map (λ n. reply.NoMessage n) o))
    by_first true o = refl
    by_first false None = refl
    by_first false (Some n) = refl

-- the numbers by what the session wrote
abbrev numbers_of : ℕ → Command → Option ModelWrote → Option (ℕ × ℕ)
numbers_of seen c None = cond (is_write c) None (Some (seen, seen))
numbers_of seen c (Some w) = cond (same_write w.command c && nat_le w.place seen) (Some (w.place, w.met)) None

numbers_are : (session : Session) (c : Command) → told_numbers session c ≡ numbers_of session.seen c session.wrote
numbers_are session c = by_wrote session.wrote refl
  where
    by_wrote : (o : Option ModelWrote) → session.wrote ≡ o → told_numbers session c ≡ numbers_of session.seen c session.wrote
    by_wrote None is = rw is refl
    by_wrote (Some w) is = rw is refl

module _ (seat : Seat) (c : Command) where
  early_of : (o : Option Wrote) → taken_of seat c o ≡ None → numbers_of seat.seen c (option_map wrote_of o) ≡ None
  early_of None e = by_test (is_write c) e
    where
      by_test : (b : Bool) → cond b None (Some (met_of c seat.session.state.view seat.live.mailbox)) ≡ None → cond {A = Option (ℕ × ℕ)} b None (Some (seat.seen, seat.seen)) ≡ None
      by_test true e = refl
      by_test false e = absurd cc
  early_of (Some w) e = by_test (same_write w.command c && nat_le w.place seat.seen) e
    where
      by_test : (b : Bool) → cond b (Some w.taken) None ≡ None → cond {A = Option (ℕ × ℕ)} b (Some (w.place, w.met)) None ≡ None
      by_test true e = absurd cc
      by_test false e = refl

  pub early : taken_by seat c ≡ None → told_numbers (session_of seat) c ≡ None
  early e = numbers_are (session_of seat) c ∙ early_of seat.wrote e

  module _ (log : Log) (live : at log seat.seen ≡ Some seat.live.mailbox) (taken : Met) where
    -- by what the session wrote
    taken_parts : (o : Option Wrote) → IfSome o (HasTaken log seat.session.state.view) → IfSome (option_map wrote_of o) (λ w. (before : Mailbox) × (at log w.met ≡ Some before))
        → IfSome (option_map wrote_of o) (λ w. seat.seen ≤ w.place) → taken_of seat c o ≡ Some taken
        → (met : ℕ) × (before : Mailbox) × (numbers_of seat.seen c (option_map wrote_of o) ≡ Some (seat.seen, met)) × (at log met ≡ Some before) × (taken ≡ met_of c seat.session.state.view before)
    taken_parts None has writing loaded e = by_test (is_write c) e
      where
        by_test : (b : Bool) → cond b None (Some (met_of c seat.session.state.view seat.live.mailbox)) ≡ Some taken
            → (met : ℕ) × (before : Mailbox) × (cond {A = Option (ℕ × ℕ)} b None (Some (seat.seen, seat.seen)) ≡ Some (seat.seen, met)) × (at log met ≡ Some before) × (taken ≡ met_of c seat.session.state.view before)
        by_test true e = absurd (none-some taken e)
        by_test false e = (seat.seen, seat.live.mailbox, refl, live, sym (same_Some (met_of c seat.session.state.view seat.live.mailbox) taken e))
    taken_parts (Some w) has writing loaded e = by_test (same_write w.command c && nat_le w.place seat.seen) refl e
      where
        by_test : (b : Bool) → (same_write w.command c && nat_le w.place seat.seen) ≡ b → cond b (Some w.taken) None ≡ Some taken
            → (met : ℕ) × (before : Mailbox) × (cond {A = Option (ℕ × ℕ)} b (Some (w.place, w.met)) None ≡ Some (seat.seen, met)) × (at log met ≡ Some before) × (taken ≡ met_of c seat.session.state.view before)
        by_test true may e =
            let parts = and_parts (same_write w.command c) (nat_le w.place seat.seen) may in
            let one : w.command ≡ c = one_write w.command c parts.0 in
            let place : w.place ≡ seat.seen = grind (arith, nat_tests, parts.1, loaded) in (
              w.met,
              writing.0,
              ap (λ (n : ℕ). Some (n, w.met)) place,
              writing.1,
              sym (same_Some w.taken taken e) ∙ has.1 writing.0 writing.1 ∙ ap (λ (d : Command). met_of d seat.session.state.view writing.0) one,
            )
        by_test false may e = absurd (none-some taken e)

-- ---- the world behind

stopped_is : (s : ℕ) (o : Option Pending) → option_map pending_of (option_map (own_stopped s) o) ≡ option_map (stopped_of s) (option_map pending_of o)
stopped_is s None = refl
stopped_is s (Some p) = by_test (nat_eq p.author s)
  where
    by_test : (b : Bool) → Some (pending_of (cond b (record p { running = false }) p)) ≡ Some (cond b (record (pending_of p) { running = false }) (pending_of p))
    by_test true = refl
    by_test false = refl

told_absent : (w : World) (s : ℕ) (c : Command) → w.sessions s ≡ None → told w s c ≡ w
told_absent w s c is = rw is refl

told_bad : (w : World) (s : ℕ) (c : Command) (session : Session) → w.sessions s ≡ Some session → is_bad session.state c ≡ true → told w s c ≡ w
told_bad w s c session is bad = rw (is, bad) refl

told_early : (w : World) (s : ℕ) (c : Command) (session : Session) → w.sessions s ≡ Some session → is_bad session.state c ≡ false → told_numbers session c ≡ None → told w s c ≡ w
told_early w s c session is good may = rw (is, good, may) refl

told_is : (w : World) (s : ℕ) (c : Command) (session : Session) → w.sessions s ≡ Some session → is_bad session.state c ≡ false
    → (q met : ℕ) → told_numbers session c ≡ Some (q, met) → (before m : Mailbox) → at w.log met ≡ Some before → at w.log q ≡ Some m
    → told w s c ≡ with_answer w s session c (answer w.log.mail session.state c before q m (mark_of w.log q))
told_is w s c session is good q met may before m was_there is_there = rw (is, good, may, was_there, is_there) refl

-- no such session
pub tells_nobody : (k : Kept) (s : ℕ) (c : Command) → position (is_of s) k.seats.items ≡ None → kept_world k ≡ happens (kept_world k) (Tell s c)
tells_nobody k s c place = sym (told_absent (kept_world k) s c (none k.seats.items s place))

module _ (k : Kept) (kept : IsKept k) (s : ℕ) (c : Command) (place : ℕ) (seat : Seat) (found_there : position (is_of s) k.seats.items ≡ Some place) (there : slice_get k.seats.items place ≡ Some seat) where
  pub is : (kept_world k).sessions s ≡ Some (session_of seat)
  is = found k.seats.items s place seat found_there there

  pub tells_bad : is_some (own_refusal seat.session.state c) ≡ true → kept_world k ≡ happens (kept_world k) (Tell s c)
  tells_bad bad = sym (told_bad (kept_world k) s c (session_of seat) is (bad_is (state_of seat) c ∙ bad))

  pub tells_early : is_some (own_refusal seat.session.state c) ≡ false → taken_by seat c ≡ None → kept_world k ≡ happens (kept_world k) (Tell s c)
  tells_early good e = sym (told_early (kept_world k) s c (session_of seat) is (bad_is (state_of seat) c ∙ good) (early seat c e))

  here : IsSeat (kept_log k) seat
  here = one_of (IsSeat (kept_log k)) k.seats.items place seat kept.seats there

  lives : IsLive (kept_log k) k.published (option_map pending_of k.pending) s (session_of seat)
  lives = kept.stands.each s (session_of seat) is

  number : seat.number ≡ s
  number = number_is k.seats.items s place seat found_there there

  module _ (good : is_some (own_refusal seat.session.state c) ≡ false) (taken : Met) (may : taken_by seat c ≡ Some taken) (mark : Mark) (mark_is : mark ≡ mark_of (kept_log k) seat.seen) (after : Seat)
      (answers : (met : Mailbox) → taken ≡ met_of c seat.session.state.view met
      → seated after ≡ (seat.number, answered (session_of seat) c (answer (kept_log k).mail (state_of seat) c met seat.seen seat.live.mailbox mark))) where
    parts : (met : ℕ) × (before : Mailbox) × (numbers_of seat.seen c (option_map wrote_of seat.wrote) ≡ Some (seat.seen, met)) × (at (kept_log k) met ≡ Some before) × (taken ≡ met_of c seat.session.state.view before)
    parts = taken_parts seat c (kept_log k) here.live taken seat.wrote here.taken
        (if_some (IsWriting (kept_log k) s (state_of seat)) (λ w. (before : Mailbox) × (at (kept_log k) w.met ≡ Some before)) (option_map wrote_of seat.wrote) (λ w writes. (writes.before, writes.was_there)) lives.wrote)
        lives.loaded may

    abbrev told_answer : Answer
    told_answer = answer (kept_log k).mail (state_of seat) c parts.1 seat.seen seat.live.mailbox (mark_of (kept_log k) seat.seen)

    seated_is : seated after ≡ (seat.number, answered (session_of seat) c told_answer)
    seated_is = answers parts.1 parts.4 ∙ ap (λ (m : Mark). (seat.number, answered (session_of seat) c (answer (kept_log k).mail (state_of seat) c parts.1 seat.seen seat.live.mailbox m))) mark_is

    session_is : session_of after ≡ answered (session_of seat) c told_answer
    session_is = ap (λ (one : ℕ × Session). one.1) seated_is

    module _ (new : Kept) (stays : Stays k new) (pending : new.pending ≡ option_map (own_stopped s) k.pending) (seats : new.seats.items ≡ slice_set k.seats.items place after) where
      sessions_are : session_at (map seated new.seats.items) ≡ (λ t. cond (nat_eq s t) (Some (answered (session_of seat) c told_answer)) (session_at (map seated k.seats.items) t))
      sessions_are =
          ap (λ (xs : List Seat). session_at (map seated xs)) seats
          ∙ replaced k.seats.items s place seat after found_there (ap (λ (one : ℕ × Session). one.0) seated_is ∙ number)
          ∙ ap (λ (x : Session). λ t. cond (nat_eq s t) (Some x) (session_at (map seated k.seats.items) t)) session_is

      pub world_told : kept_world new ≡ happens (kept_world k) (Tell s c)
      world_told =
          world_by k new stays (option_map (stopped_of s) (option_map pending_of k.pending)) (ap (option_map pending_of) pending ∙ stopped_is s k.pending) _ sessions_are
          ∙ sym (told_is (kept_world k) s c (session_of seat) is (bad_is (state_of seat) c ∙ good) seat.seen parts.0 (numbers_are (session_of seat) c ∙ parts.2) parts.1 seat.live.mailbox parts.3 here.live)

      pending_told : IfSome new.pending (IsPending (kept_log k) k.end.mailbox (map seated new.seats.items))
      pending_told = subst (λ (o : Option Pending). IfSome o (IsPending (kept_log k) k.end.mailbox (map seated new.seats.items))) (sym pending) (by_pending k.pending kept.pending)
        where
          by_pending : (o : Option Pending) → IfSome o (IsPending (kept_log k) k.end.mailbox (map seated k.seats.items))
              → IfSome (option_map (own_stopped s) o) (IsPending (kept_log k) k.end.mailbox (map seated new.seats.items))
          by_pending None was = tt
          by_pending (Some p) was = by_test (nat_eq p.author s) refl
            where
              by_test : (b : Bool) → nat_eq p.author s ≡ b → IsPending (kept_log k) k.end.mailbox (map seated new.seats.items) (cond b (record p { running = false }) p)
              by_test true same = pending_stopped (kept_log k) k.end.mailbox (map seated k.seats.items) (map seated new.seats.items) p was
              by_test false other =
                  pending_changed (kept_log k) k.end.mailbox (map seated k.seats.items) (map seated new.seats.items) s (answered (session_of seat) c told_answer) sessions_are p was
                  (λ e. let never : nat_eq p.author s ≡ true = grind (arith, nat_tests) in absurd cc)

      pub kept_told : after.live ≡ seat.live → IsAbreast after.live.mailbox after.session → after.wrote ≡ None → IsKept new
      kept_told live abreast wrote =
          kept_same k new kept stays (subst Stands (sym world_told) (keeps (kept_world k) (Tell s c) kept.stands tt)) pending_told
          (subst (All (IsSeat (kept_log k))) (sym seats) (All-set (IsSeat (kept_log k)) k.seats.items place after (record {
            inside = let seen : after.seen ≡ seat.seen = ap (λ (x : Session). x.seen) session_is in omega (arith, here.inside);
            live = ap (at (kept_log k)) (ap (λ (x : Session). x.seen) session_is) ∙ here.live ∙ ap (λ (l : Held). Some l.mailbox) (sym live);
            abreast = abreast;
            taken = subst (λ (o : Option Wrote). IfSome o (HasTaken (kept_log k) after.session.state.view)) (sym wrote) tt;
          }) kept.seats))

    -- the session and what is pending are changed
    abbrev pub told_kept : Option Pending → Kept
    told_kept pending = record k { pending = pending; seats = with_item k.seats place after }

    told_stays : (pending : Option Pending) → Stays k (told_kept pending)
    told_stays pending = record { log = refl; logged = refl; published = refl; front = refl; end = refl }

    pub told_so : (pending : Option Pending) → pending ≡ option_map (own_stopped s) k.pending → after.live ≡ seat.live → IsAbreast after.live.mailbox after.session → after.wrote ≡ None
        → (kept_world (told_kept pending) ≡ happens (kept_world k) (Tell s c)) × IsKept (told_kept pending)
    told_so pending so live abreast wrote = (world_told (told_kept pending) (told_stays pending) so refl, kept_told (told_kept pending) (told_stays pending) so refl live abreast wrote)
