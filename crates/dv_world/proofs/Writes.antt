-- A session writes.
use Rattle.std.proofs.Common.{◌≡◌, ℕ, ◌+◌, ◌-◌, ◌^◌, ◌≤◌, ◌<◌, Bool, true, false, cond, List, [], length, map, min, nat_eq, Option, Some, None, refl, sym, ◌∙◌, ap, subst, arith}
use Rattle.std.specs.Global.{Vec}
use Rattle.std.specs.Prelude.{◌&&◌, not, All, IfSome, IsSome, is_some, nat_lt, option_map, position, slice_get, slice_set}
use Rattle.std.specs.Option.{option_or}
use Rattle.std.proofs.lemmas.Bool.Decides.{nat_tests}
use Rattle.std.proofs.lemmas.List.Elements.{All-set}
use Rattle.std.proofs.lemmas.Option.{none-some, same_Some}
use Rattle.std.proofs.lemmas.List.{length-map}
use Rattle.dv_model.specs.declared.types.Command.{Command}
use Rattle.dv_model.specs.declared.types.Group.{Group}
use Rattle.dv_model.specs.declared.types.Mailbox.{Mailbox}
use Rattle.dv_model.specs.declared.types.Mark.{Mark}
use Rattle.dv_model.specs.declared.types.Reply.{Reply}
use Rattle.dv_model.specs.declared.types.Reply.TheVariants as reply
use Rattle.dv_model.specs.Journals.{IsU32, Log, at, last_file_seq, mark_of, mark_behind}
use Rattle.dv_model.specs.Sessions.{IsCommand, State, end_of_uids, group_limit, group_of, is_append, is_log_full, is_write, limit_of, log_limit, message_limit, message_of}
use Rattle.dv_model.specs.Spelling.{group_text}
use Rattle.dv_model.specs.Transcripts.{refused_at}
use Rattle.dv_model.specs.Views.{View}
use Rattle.dv_model.proofs.Speaking.{one_of}
use Rattle.dv_responses.specs.Met.{met_of}
use Rattle.dv_answer.proofs.Limits.{refusal_goes_on}
use Rattle.dv_answer.specs.Refusing.{own_refusal}
use Rattle.dv_groups.specs.Limits.{reply_of}
use Rattle.dv_groups.specs.declared.limits.Limit.{Limit}
use Rattle.dv_interleavings.specs.Worlds.{World, Session, Pending as ModelPending, Wrote as ModelWrote, Write, happens, length_of, may_write, stopped, with_group, with_session, without_running, written}
use Rattle.dv_promises.specs.Standing.{IsLive, Stands}
use Rattle.dv_promises.proofs.Ending.{keeps}
use Rattle.dv_world.specs.declared.kept.Kept.{Kept}
use Rattle.dv_world.specs.declared.kept.Logged.{Logged}
use Rattle.dv_world.specs.declared.kept.Pending.{Pending}
use Rattle.dv_world.specs.declared.kept.Seat.{Seat}
use Rattle.dv_world.specs.declared.kept.Wrote.{Wrote}
use Rattle.dv_world.specs.declared.writing.Made.{Made}
use Rattle.dv_world.specs.Keeping.{HasTaken, IsKept, IsPending, IsSeat, Stays, kept_log}
use Rattle.dv_world.specs.Shapes.{kept_world, pending_of, seated, session_at, session_of, state_of, wrote_of}
use Rattle.dv_world.specs.Writing.{IsMade, done_at, halted, tried_by}
use Rattle.dv_world.proofs.Pending.{pending_stopped}
use Rattle.dv_world.proofs.Stays.{kept_same, world_by}
use Rattle.dv_world.proofs.Found.{found, is_of, none, number_is, replaced}

-- ---- the event

written_absent : (w : World) (s : ℕ) (c : Command) (received : ℕ) → w.sessions s ≡ None → written w s c received ≡ w
written_absent w s c received is = rw is refl

written_later : (w : World) (s : ℕ) (c : Command) (received : ℕ) (session : Session) → w.sessions s ≡ Some session → may_write w session c ≡ false → written w s c received ≡ w
written_later w s c received session is may = rw (is, may) refl

written_refused : (w : World) (s : ℕ) (c : Command) (received : ℕ) (session : Session) (m : Mailbox) (line : Reply) → w.sessions s ≡ Some session → may_write w session c ≡ true
    → at w.log (length_of w) ≡ Some m → refused_at w.log (length_of w) session.state c m ≡ Some line → written w s c received ≡ w
written_refused w s c received session m line is may there refused = rw (is, may, there, refused) refl

written_is : (w : World) (s : ℕ) (c : Command) (received : ℕ) (session : Session) (m : Mailbox) → w.sessions s ≡ Some session → may_write w session c ≡ true
    → at w.log (length_of w) ≡ Some m → refused_at w.log (length_of w) session.state c m ≡ None
    → written w s c received ≡ with_group w s session c received (group_of c session.state.view m w.log.guid)
written_is w s c received session m is may there allowed = rw (is, may, there, allowed) refl

pub writes_nobody : (k : Kept) (s : ℕ) (c : Command) (received : ℕ) → position (is_of s) k.seats.items ≡ None → kept_world k ≡ happens (kept_world k) (Write s c received)
writes_nobody k s c received place = sym (written_absent (kept_world k) s c received (none k.seats.items s place))

halted_is : (o : Option Pending) → option_map pending_of (option_map halted o) ≡ option_map stopped (option_map pending_of o)
halted_is None = refl
halted_is (Some p) = refl

module _ (k : Kept) (kept : IsKept k) (s : ℕ) (c : Command) (received place : ℕ) (seat : Seat) (found_there : position (is_of s) k.seats.items ≡ Some place) (there : slice_get k.seats.items place ≡ Some seat) where
  is : (kept_world k).sessions s ≡ Some (session_of seat)
  is = found k.seats.items s place seat found_there there

  -- the mailbox at the log's end
  ends : length (kept_log k).entries ≡ length k.logged.items
  ends = length-map k.logged.items (λ (l : Logged). l.entry)

  pub end_is : at (kept_log k) (length (kept_log k).entries) ≡ Some k.end.mailbox
  end_is = ap (at (kept_log k)) ends ∙ kept.end

  pub writes_later : may_write (kept_world k) (session_of seat) c ≡ false → kept_world k ≡ happens (kept_world k) (Write s c received)
  writes_later may = sym (written_later (kept_world k) s c received (session_of seat) is may)

  pub writes_refused : may_write (kept_world k) (session_of seat) c ≡ true → IsSome (refused_at (kept_log k) (length (kept_log k).entries) (state_of seat) c k.end.mailbox)
      → kept_world k ≡ happens (kept_world k) (Write s c received)
  writes_refused may refused = by_line (refused_at (kept_log k) (length (kept_log k).entries) (state_of seat) c k.end.mailbox) refl refused
    where
      by_line : (o : Option Reply) → refused_at (kept_log k) (length (kept_log k).entries) (state_of seat) c k.end.mailbox ≡ o → IsSome o → kept_world k ≡ happens (kept_world k) (Write s c received)
      by_line None e some = absurd cc
      by_line (Some line) e some = sym (written_refused (kept_world k) s c received (session_of seat) k.end.mailbox line is may end_is e)

  module _ (may : may_write (kept_world k) (session_of seat) c ≡ true) (made : Made) (is_made : IsMade (kept_log k) (state_of seat) c k.end.mailbox made) (new : Kept) (stays : Stays k new) where
    written_so : happens (kept_world k) (Write s c received) ≡ with_group (kept_world k) s (session_of seat) c received made.group
    written_so =
        written_is (kept_world k) s c received (session_of seat) k.end.mailbox is may end_is is_made.allowed
        ∙ ap (with_group (kept_world k) s (session_of seat) c received) (sym is_made.group)

    -- a group is pending
    module _ (some : nat_eq (length made.group.records) 0 ≡ false) (pending : new.pending ≡ Some (tried_by s received made)) (seats : new.seats ≡ k.seats) where
      abbrev attempt : ModelPending
      attempt = record { author = s; command = c; group = made.group; received = received; running = true }

      same_seats : new.seats.items ≡ k.seats.items
      same_seats = ap (λ (v : Vec Seat). v.items) seats

      pub world_tried : kept_world new ≡ happens (kept_world k) (Write s c received)
      world_tried =
          world_by k new stays (Some attempt)
          (ap (option_map pending_of) pending ∙ ap (λ (d : Command). Some (record { author = s; command = d; group = made.group; received = received; running = true })) is_made.command)
          (session_at (map seated k.seats.items)) (ap (λ (xs : List Seat). session_at (map seated xs)) same_seats)
          ∙ sym (written_so ∙ ap (λ (b : Bool). cond b (with_session (without_running (kept_world k)) s (Some (record (session_of seat) { wrote = Some (record { place = length_of (kept_world k); met = length_of (kept_world k); command = c }) })))
          (record (kept_world k) { pending = Some attempt })) some)

      pub kept_tried : IsU32 s → IsCommand c → IsKept new
      kept_tried small named =
          kept_same k new kept stays (subst Stands (sym world_tried) (keeps (kept_world k) (Write s c received) kept.stands (small, named)))
          (subst (λ (o : Option Pending). IfSome o (IsPending (kept_log k) k.end.mailbox (map seated new.seats.items))) (sym pending) (record {
            behind = is_made.behind;
            taken = λ runs session here.
                is_made.taken
                ∙ ap (λ (d : Command). met_of d seat.session.state.view k.end.mailbox) (sym is_made.command)
                ∙ ap (λ (x : Session). met_of made.command x.state.view k.end.mailbox)
                (same_Some (session_of seat) session (sym is ∙ sym (ap (λ (xs : List Seat). session_at (map seated xs) s) same_seats) ∙ here));
          }))
          (subst (All (IsSeat (kept_log k))) (sym same_seats) kept.seats)

    -- an empty group is done at once
    module _ (none : nat_eq (length made.group.records) 0 ≡ true) (pending : new.pending ≡ option_map halted k.pending)
        (seats : new.seats.items ≡ slice_set k.seats.items place (record seat { wrote = Some (done_at (length k.logged.items) made) })) where
      abbrev after : Seat
      after = record seat { wrote = Some (done_at (length k.logged.items) made) }

      abbrev done : Session
      done = record (session_of seat) { wrote = Some (record { place = length_of (kept_world k); met = length_of (kept_world k); command = c }) }

      session_is : session_of after ≡ done
      session_is =
          ap (λ (d : Command). record (session_of seat) { wrote = Some (record { place = length k.logged.items; met = length k.logged.items; command = d }) }) is_made.command
          ∙ ap (λ (n : ℕ). record (session_of seat) { wrote = Some (record { place = n; met = n; command = c }) }) (sym ends)

      sessions_are : session_at (map seated new.seats.items) ≡ (λ t. cond (nat_eq s t) (Some done) (session_at (map seated k.seats.items) t))
      sessions_are =
          ap (λ (xs : List Seat). session_at (map seated xs)) seats
          ∙ replaced k.seats.items s place seat after found_there (number_is k.seats.items s place seat found_there there)
          ∙ ap (λ (x : Session). λ t. cond (nat_eq s t) (Some x) (session_at (map seated k.seats.items) t)) session_is

      pub world_done : kept_world new ≡ happens (kept_world k) (Write s c received)
      world_done =
          world_by k new stays (option_map stopped (option_map pending_of k.pending)) (ap (option_map pending_of) pending ∙ halted_is k.pending) _ sessions_are
          ∙ sym (written_so ∙ ap (λ (b : Bool). cond b (with_session (without_running (kept_world k)) s (Some done))
          (record (kept_world k) { pending = Some (record { author = s; command = c; group = made.group; received = received; running = true }) })) none)

      pending_done : IfSome new.pending (IsPending (kept_log k) k.end.mailbox (map seated new.seats.items))
      pending_done = subst (λ (o : Option Pending). IfSome o (IsPending (kept_log k) k.end.mailbox (map seated new.seats.items))) (sym pending) (by_pending k.pending kept.pending)
        where
          by_pending : (o : Option Pending) → IfSome o (IsPending (kept_log k) k.end.mailbox (map seated k.seats.items))
              → IfSome (option_map halted o) (IsPending (kept_log k) k.end.mailbox (map seated new.seats.items))
          by_pending None was = tt
          by_pending (Some p) was = pending_stopped (kept_log k) k.end.mailbox (map seated k.seats.items) (map seated new.seats.items) p was

      pub kept_done : IsU32 s → IsCommand c → IsKept new
      kept_done small named =
          let here : IsSeat (kept_log k) seat = one_of (IsSeat (kept_log k)) k.seats.items place seat kept.seats there in
          kept_same k new kept stays (subst Stands (sym world_done) (keeps (kept_world k) (Write s c received) kept.stands (small, named))) pending_done
          (subst (All (IsSeat (kept_log k))) (sym seats) (All-set (IsSeat (kept_log k)) k.seats.items place after (record {
            inside = here.inside;
            live = here.live;
            abreast = here.abreast;
            taken = (
              omega (arith, ends),
              λ m was.
                  is_made.taken
                  ∙ ap (λ (d : Command). met_of d seat.session.state.view k.end.mailbox) (sym is_made.command)
                  ∙ ap (met_of made.command seat.session.state.view) (same_Some k.end.mailbox m (sym kept.end ∙ was)),
            );
          }) kept.seats))

    -- by whether there is something to write
    pub taken_so : (nat_eq (length made.group.records) 0 ≡ false → (new.pending ≡ Some (tried_by s received made)) × (new.seats ≡ k.seats))
        → (nat_eq (length made.group.records) 0 ≡ true → (new.pending ≡ option_map halted k.pending)
        × ((one : Seat) → slice_get k.seats.items place ≡ Some one → new.seats.items ≡ slice_set k.seats.items place (record one { wrote = Some (done_at (length k.logged.items) made) })))
        → IsU32 s → IsCommand c → (kept_world new ≡ happens (kept_world k) (Write s c received)) × IsKept new
    taken_so tried done small named = by_group (nat_eq (length made.group.records) 0) refl
      where
        by_group : (b : Bool) → nat_eq (length made.group.records) 0 ≡ b → (kept_world new ≡ happens (kept_world k) (Write s c received)) × IsKept new
        by_group false some = let are = tried some in (world_tried some are.0 are.1, kept_tried some are.0 are.1 small named)
        by_group true none = let are = done none in (world_done none are.0 (are.1 seat there), kept_done none are.0 (are.1 seat there) small named)

-- the session's own refusal is one
pub refused_own : (log : Log) (n : ℕ) (x : State) (c : Command) (m : Mailbox) → is_some (own_refusal x c) ≡ true → IsSome (refused_at log n x c m)
refused_own log n x c m own =
    subst IsSome (sym (refusal_goes_on x c m log.rotates (mark_of log n) log.guid))
    (by_own (own_refusal x c) (cond (is_write c) (limit_of c m log.rotates (mark_of log n) (group_of c x.view m log.guid)) None) own)
  where
    by_own : (o other : Option Reply) → is_some o ≡ true → IsSome (option_or o other)
    by_own None other e = absurd cc
    by_own (Some line) other e = refl

-- ---- the limits

-- what the session doesn't refuse by itself is refused by a limit alone
module _ (log : Log) (n : ℕ) (x : State) (c : Command) (m : Mailbox) (allowed : own_refusal x c ≡ None) (write : is_write c ≡ true) where
  abbrev limit : Option Reply
  limit = limit_of c m log.rotates (mark_of log n) (group_of c x.view m log.guid)

  refused_is : refused_at log n x c m ≡ limit
  refused_is =
      refusal_goes_on x c m log.rotates (mark_of log n) log.guid
      ∙ ap (λ (o : Option Reply). option_or o (cond (is_write c) limit None)) allowed ∙ ap (λ (b : Bool). cond b limit None) write

  pub refused_limit : (o : Option Limit) → option_map reply_of o ≡ limit → is_some o ≡ true → IsSome (refused_at log n x c m)
  refused_limit None is some = absurd cc
  refused_limit (Some l) is some = subst IsSome (is ∙ sym refused_is) refl

  pub allowed_limit : (o : Option Limit) → option_map reply_of o ≡ limit → is_some o ≡ false → refused_at log n x c m ≡ None
  allowed_limit None is none = refused_is ∙ sym is
  allowed_limit (Some l) is none = absurd cc
