-- What a call of the keeper, or of a session, leaves of the session.
use Rattle.std.proofs.Common.{◌≡◌, ◌∙◌, inl, inr, ◌⊎◌, ◌+◌, ◌-◌, ◌≤◌, ◌<◌, ℕ, Bool, true, false, cond, not, ◌&&◌, ◌||◌, List, [], ◌∷◌, None, Option, Some, Result, Ok, Err, ap, arith, length, min, refl, subst, sym}
use Rattle.std.specs.Prelude.{IfErr, IfOk, OnErr, OnOk, option_map, if◌then◌else◌}
use Rattle.std.specs.Option.{option_or}
use mathlib.Core.List.{IsPrefix}
use Rattle.dv_model.specs.declared.types.Command.{Command}
use Rattle.dv_model.specs.declared.types.Reply.{Reply}
use Rattle.dv_model.specs.declared.types.Reply.TheVariants as reply
use Rattle.dv_model.specs.Counts.{last_count}
use Rattle.dv_model.specs.Journals.{Log, mark_of}
use Rattle.dv_model.specs.Sessions.{State, answer, group_of, is_select, is_write, limit_of, missing_number, reads_mail}
use Rattle.dv_model.specs.Transcripts.{HasLeft, IsTurn, Turn, refused_at, touches_disk, unavailable_count}
use Rattle.dv_answer.specs.Refusing.{own_refusal}
use Rattle.dv_answer.proofs.Limits.{refusal_goes_on}
use Rattle.dv_feed.specs.declared.taking.Taken.{Taken}
use Rattle.dv_feed.specs.declared.taking.Taken.TheVariants as taken
use Rattle.dv_front.specs.declared.notes.Note.{Note}
use Rattle.dv_front.specs.Rolls.{ListingView}
use Rattle.dv_front.proofs.Prefixes.{prefix_self}
use Rattle.dv_notes.specs.Logs.{log_of}
use Rattle.dv_plans.specs.declared.fault.StoreFault.{StoreFault}
use Rattle.dv_plans.specs.declared.fault.StoreFault.TheVariants as fault
use Rattle.dv_serving.specs.Taking.{Takes}
use Rattle.dv_serving.proofs.Counting.{answer_available, counts_none, one_available}
use Rattle.dv_serving.proofs.Refusals.{own_available}
use Rattle.dv_member.specs.Calls.{IsAsBefore, counted, is_fresh, refreshed, seeing, turn_of, turned}
use Rattle.dv_member.specs.Members.{IsSession, Member, log_seen, notes_of}
use Rattle.dv_shared.specs.declared.written.Written.{Written}
use Rattle.dv_shared.specs.Writing.{refused_behind}
use Rattle.dv_keeper.specs.declared.fault.SessionFault.{SessionFault}
use Rattle.dv_keeper.specs.declared.fault.SessionFault.TheVariants as session_fault
use Rattle.dv_keeper.specs.Sessions.{HasRejoined}
use Rattle.dv_keeper.specs.Turns.{EndsBy, HasAnswered, HasMet, HasSeen, HasTold, IsAsBeforeBut, LeavesEntry, LeavesReader, LeavesWriter, is_marked, turn_between}
use Rattle.dv_keeper.proofs.Committed.{low_seen}
use Rattle.dv_keeper.proofs.Turning.{answer_marked, counts_turn}
use Rattle.dv_runner.specs.Serving.{IsCutShort, IsLeft, IsSeeing, IsServed, IsUnserved, lock_count}
use Rattle.dv_runner.proofs.Members.{seen_long, seen_up}

-- ---- a refusal by the session itself

owns_none : (b : Bool) (o : Option ℕ) (r : Reply) → cond b (Some reply.NotSelected) (option_map (λ n. reply.NoMessage n) o) ≡ Some r → is_marked (r ∷ []) ≡ false
owns_none true o r e = let same : reply.NotSelected ≡ r = cc in ap (λ (x : Reply). is_marked (x ∷ [])) (sym same)
owns_none false (Some n) r e = let same : reply.NoMessage n ≡ r = cc in ap (λ (x : Reply). is_marked (x ∷ [])) (sym same)
owns_none false None r e = absurd cc

own_unmarked : (x : State) (c : Command) (r : Reply) → own_refusal x c ≡ Some r → is_marked (r ∷ []) ≡ false
own_unmarked x c r is = owns_none (not x.selected && not (is_select c)) (missing_number c x.view) r is

pub refused_answered : (start : Log) (count : ℕ) (c : Command) (s : Member) (line : Reply) → IsSession start count s → s.spent ≡ false → own_refusal s.follower.state c ≡ Some line → HasAnswered start count c (line ∷ []) s s
refused_answered start count c s line session fresh own =
    let lives = session.lives fresh in
    let log = log_seen start s in
    let x = s.follower.state in
    let none : unavailable_count ((line ∷ []) ∷ []) ≡ 0 = counts_none (line ∷ []) (one_available line (own_available x c line own)) in
    record {
      met = s.seen;
      low = omega arith;
      turn = record {
        met = (lives.told, omega (arith, seen_long start count s session));
        answered = inl record {
          before = s.live;
          was_there = lives.live;
          line = line;
          refusal =
              refusal_goes_on x c s.live log.rotates (mark_of log s.seen) log.guid
              ∙ ap (λ (o : Option Reply). option_or o (cond (is_write c) (limit_of c s.live log.rotates (mark_of log s.seen) (group_of c x.view s.live log.guid)) None)) own;
          one_line = refl;
          nothing_written = refl;
          stays = refl;
        };
      };
      wrote = omega arith;
      refused = omega (arith, none);
      turns = ap (λ (b : Bool). if b then counted s.turns else s.turns) (sym (own_unmarked x c line own));
    }

pub stays_served : (c : Command) (s : Member) → s.spent ≡ false → IsServed c s s
stays_served c s fresh = record { number = refl; fresh = fresh; holds = omega arith }

-- ---- it may have seen more

pub unserved_of : (old new : Member) → IsSeeing old new → IsUnserved old new
unserved_of old new is =
    let same : new.refused ≡ old.refused = ap (λ (s : Member). s.refused) is in
    subst (λ (x : Member). IsUnserved old x) (sym is) (record { now = refl; refused = omega arith })

pub stays_seeing : (s : Member) → IsSeeing s s
stays_seeing s = refl

pub refreshed_seeing : (taken : Taken) (old new : Member) → new ≡ refreshed taken old new → IsSeeing old new
refreshed_seeing t old new is = subst (λ (x : Member). IsSeeing old x) (sym is) refl

pub fronts_seeing : (old new : Member) → new ≡ record old { front = new.front } → IsSeeing old new
fronts_seeing old new is = subst (λ (x : Member). IsSeeing old x) (sym is) refl

pub rejoined_seeing : (old mid new : Member) → IsSeeing old mid → HasRejoined mid new → IsSeeing old new
rejoined_seeing old mid new seen r =
    subst (λ (x : Member). IsSeeing old x) (sym (subst (λ (x : Member). new ≡ record (seeing x new) { caught_up = true; knows_seal = false }) seen r.now)) refl

pub before_seeing : (old mid new : Member) → IsSeeing old mid → IsAsBefore mid new → IsSeeing old new
before_seeing old mid new seen b =
    subst (λ (x : Member). IsSeeing old x) (sym (subst (λ (x : Member). new ≡ record x { front = new.front; tables = new.tables }) seen b.now)) refl

-- ---- a command that takes no lock

module _ (start : Log) (count : ℕ) (c : Command) (old mid new : Member) (session : IsSession start count old) (session_mid : IsSession start count mid) (begins : IsPrefix (notes_of old) (notes_of mid)) (seen : IsSeeing old mid) where
  abbrev turn : Turn
  turn = turn_of (log_seen start mid) mid c

  module _ (is : new ≡ turned mid (record new.follower { state = turn.after })) where
    abbrev turn_at : State → ℕ → State → Turn
    turn_at x q y = record { before = x; command = c; met = mid.seen; behind = q; replies = turn.replies; after = y }

    pub read_answered : IsTurn (log_seen start mid) count mid.number turn → HasAnswered start count c turn.replies old new
    read_answered told =
        let log = log_seen start mid in
        let x = mid.follower.state in
        let mark = mark_of log mid.seen in
        let none : unavailable_count (turn.replies ∷ []) ≡ 0 = counts_none turn.replies (answer_available log.mail x c mid.live mid.seen mid.live mark) in
        let many : new.seen ≡ mid.seen = ap (λ (s : Member). s.seen) is in
        let wrote : new.wrote ≡ old.wrote = ap (λ (s : Member). s.wrote) is ∙ ap (λ (s : Member). s.wrote) seen in
        let refused : new.refused ≡ old.refused = ap (λ (s : Member). s.refused) is ∙ ap (λ (s : Member). s.refused) seen in
        let state : x ≡ old.follower.state = ap (λ (s : Member). s.follower.state) seen in
        let same : turn ≡ turn_at old.follower.state new.seen new.follower.state =
        ap (λ (y : State). turn_at y mid.seen turn.after) state
        ∙ ap (λ (q : ℕ). turn_at old.follower.state q turn.after) (sym many)
        ∙ ap (λ (y : State). turn_at old.follower.state new.seen y) (sym (ap (λ (s : Member). s.follower.state) is)) in
        let told_number = subst (λ (n : ℕ). IsTurn log count n turn) (ap (λ (s : Member). s.number) seen) told in
        let told_turn = subst (λ (t : Turn). IsTurn log count old.number t) same told_number in
        record {
          met = mid.seen;
          low = seen_up start count old mid session session_mid begins;
          turn = subst (λ (ns : List Note). IsTurn (log_of start ns) count old.number (turn_between c mid.seen turn.replies old new)) (sym (ap notes_of is)) told_turn;
          wrote = omega (arith, wrote, many);
          refused = omega (arith, refused, none);
          turns = ap (λ (s : Member). s.turns) is ∙ ap (λ (s : Member). counted s.turns) seen ∙ counts_turn turn.replies old.turns (answer_marked log.mail x c mid.live mid.seen mid.live mark);
        }

    pub read_served : old.spent ≡ false → IsServed c old new
    read_served fresh = record {
      number = ap (λ (s : Member). s.number) is ∙ ap (λ (s : Member). s.number) seen;
      fresh = ap (λ (s : Member). s.spent) is ∙ ap (λ (s : Member). s.spent) seen ∙ fresh;
      holds = omega (arith, ap (λ (s : Member). s.holds) is, ap (λ (s : Member). s.holds) seen);
    }

-- what took the lines of an answer
pub takes_lines : {R E : Type 0} (with : R → List Reply → R) (said said_now : R) (lines : List Reply) (P : List Reply → Type 0) (result : Result (Unit {0}) E) → OnOk result (said_now ≡ with said lines) → OnOk result (P lines)
    → Takes with said said_now result (λ told. IfOk told P)
takes_lines with said said_now lines P (Ok done) taken holds = record { replies = lines; taken = taken; holds = holds }
takes_lines with said said_now lines P (Err e) taken holds = record { replies = []; taken = tt; holds = tt }

pub ok_always : {A E P : Type 0} (result : Result A E) → P → OnOk result P
ok_always (Ok x) p = p
ok_always (Err e) p = tt

pub err_always : {A E P : Type 0} (result : Result A E) → P → OnErr result P
err_always (Ok x) p = tt
err_always (Err e) p = p

pub read_told : {E : Type 0} (start : Log) (count : ℕ) (c : Command) (old mid new : Member) → IsSession start count old → IsSession start count mid → IsPrefix (notes_of old) (notes_of mid) → IsSeeing old mid
    → IsTurn (log_seen start mid) count mid.number (turn_of (log_seen start mid) mid c) → (result : Result (Unit {0}) E) → OnOk result (new ≡ turned mid (record new.follower { state = (turn_of (log_seen start mid) mid c).after }))
    → OnOk result (HasAnswered start count c (turn_of (log_seen start mid) mid c).replies old new)
read_told start count c old mid new session session_mid begins seen told (Ok done) is = read_answered start count c old mid new session session_mid begins seen is told
read_told start count c old mid new session session_mid begins seen told (Err e) is = tt

-- ---- under the lock

lock_one : (c : Command) → touches_disk c ≡ true → lock_count (c ∷ []) ≡ 1
lock_one c touches = ap (λ (b : Bool). 0 + cond b 1 0) touches

pub write_touches : (c : Command) → is_write c ≡ true → touches_disk c ≡ true
write_touches c write = ap (λ (b : Bool). b || reads_mail c) write

pub mail_touches : (c : Command) → reads_mail c ≡ true → touches_disk c ≡ true
mail_touches c mails = ap (λ (b : Bool). is_write c || b) mails ∙ or_true (is_write c)
  where
    or_true : (b : Bool) → (b || true) ≡ true
    or_true true = refl
    or_true false = refl

counted_once : (holds now locks : ℕ) → now ≡ counted holds → locks ≡ 1 → now ≤ holds + locks
counted_once holds now locks is one = by last_count is
  where
    by : (last : ℕ) → now ≡ min (holds + 1) last → now ≤ holds + locks
    by last is = omega (arith, is, one)

module _ (c : Command) (touches : touches_disk c ≡ true) (old new : Member) (fresh : old.spent ≡ false) where
  told_served : (wrote : ℕ) → HasTold wrote old new → IsServed c old new
  told_served wrote told = record {
    number = ap (λ (s : Member). s.number) told.now;
    fresh = ap (λ (s : Member). s.spent) told.now ∙ fresh;
    holds = counted_once old.holds new.holds (lock_count (c ∷ [])) (ap (λ (s : Member). s.holds) told.now) (lock_one c touches);
  }

  pub ends_served : (met : ℕ) (came : Result Written StoreFault) → EndsBy met came old new → IsServed c old new
  ends_served met (Ok w) ends = told_served (new.seen - met) ends
  ends_served met (Err e) ends = record {
    number = ap (λ (s : Member). s.number) ends.now;
    fresh = ap (λ (s : Member). s.spent) ends.now ∙ fresh;
    holds = counted_once old.holds new.holds (lock_count (c ∷ [])) (ap (λ (s : Member). s.holds) ends.now) (lock_one c touches);
  }

-- a failure that is counted
refused_up : {A : Type 0} (refused : ℕ) (came : Result A StoreFault) → refused ≤ refused_behind refused came
refused_up refused (Ok x) = omega arith
refused_up refused (Err (fault.Disk faults)) = omega arith
refused_up refused (Err fault.NoMemory) = omega arith
refused_up refused (Err fault.UidsUsedUp) = omega arith
refused_up refused (Err (fault.TooLong bytes)) = omega arith

pub before_unserved : {A : Type 0} (came : Result A StoreFault) (old new : Member) → IsAsBeforeBut came old new → IsUnserved old new
before_unserved came old new b = subst (λ (x : Member). IsUnserved old x) (sym b.now) (record { now = refl; refused = refused_up old.refused came })

before_served : {A : Type 0} (came : Result A StoreFault) (c : Command) (old new : Member) → old.spent ≡ false → IsAsBeforeBut came old new → IsServed c old new
before_served came c old new fresh b = record {
  number = ap (λ (s : Member). s.number) b.now;
  fresh = ap (λ (s : Member). s.spent) b.now ∙ fresh;
  holds = omega (arith, ap (λ (s : Member). s.holds) b.now);
}

-- a write that memory cut short
pub write_cut : (start : Log) (count : ℕ) (honest : Type 0) (c : Command) (old new : Member) (notes now : List Note) (came : Result Written StoreFault) → IsSession start count old → IsPrefix (notes_of old) notes
    → IfOk came (λ w. w.number ≡ length now) → (e : SessionFault) → LeavesWriter notes now came old new (Err e) → (honest → LeavesEntry start c old new e) → IsCutShort start honest c old new
write_cut start count honest c old new notes now came session begins number session_fault.NoMemory leaves entry = inl (before_unserved came old new leaves.1)
write_cut start count honest c old new notes now came session begins number (session_fault.NoMemoryAfter w) leaves entry =
    let low = low_seen start count old notes session begins in
    let is : w.number ≡ length now = subst (λ (r : Result Written StoreFault). IfOk r (λ v. v.number ≡ length now)) leaves.0 number in
    let many = leaves.2.many in
    inr (record {
      now = leaves.3.now;
      behind = omega (arith, low, is, many, leaves.1);
      entry = λ h. subst (λ (k : ℕ). HasLeft (log_seen start new) old.number k old.follower.state c) (omega (arith, is, many)) (entry h);
    })

-- a reading of messages
module _ {A : Type 0} (notes : List Note) (c : Command) (touches : touches_disk c ≡ true) (old new : Member) (fresh : old.spent ≡ false) where
  pub mail_served : {E : Type 0} (came : Result A StoreFault) (result : Result (Unit {0}) E) → LeavesReader notes came old new result → OnOk result (IsServed c old new)
  mail_served (Ok x) (Ok done) leaves = told_served c touches old new fresh 0 leaves.1
  mail_served (Err (fault.Disk faults)) (Ok done) leaves = before_served {A = A} (Err (fault.Disk faults)) c old new fresh leaves
  mail_served (Err fault.NoMemory) (Ok done) leaves = absurd leaves
  mail_served (Err fault.UidsUsedUp) (Ok done) leaves = absurd leaves
  mail_served (Err (fault.TooLong bytes)) (Ok done) leaves = absurd leaves
  mail_served came (Err e) leaves = tt

  pub mail_unserved : {E : Type 0} (came : Result A StoreFault) (result : Result (Unit {0}) E) → LeavesReader notes came old new result → OnErr result (IsUnserved old new)
  mail_unserved came (Ok done) leaves = tt
  mail_unserved (Ok x) (Err e) leaves = before_unserved (Ok x) old new leaves
  mail_unserved (Err (fault.Disk faults)) (Err e) leaves = before_unserved {A = A} (Err (fault.Disk faults)) old new leaves
  mail_unserved (Err fault.NoMemory) (Err e) leaves = before_unserved {A = A} (Err fault.NoMemory) old new leaves
  mail_unserved (Err fault.UidsUsedUp) (Err e) leaves = before_unserved {A = A} (Err fault.UidsUsedUp) old new leaves
  mail_unserved (Err (fault.TooLong bytes)) (Err e) leaves = before_unserved {A = A} (Err (fault.TooLong bytes)) old new leaves
