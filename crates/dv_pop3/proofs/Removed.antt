-- What a session's answered removal leaves.
use Rattle.std.proofs.Common.{◌≡◌, ◌⊎◌, inl, inr, ℕ, ◌+◌, ◌-◌, ◌≤◌, Bool, true, false, List, [], ◌∷◌, ◌++◌, Some, None, Option, cond, length, refl, sym, ap, subst, ◌∙◌, arith}
use Rattle.std.specs.Prelude.{Err, IfOk, Ok, Result, ◌&&◌, nat_lt, slice_get}
use Rattle.std.specs.Option.{option_or}
use Rattle.std.proofs.lemmas.List.{length_push}
use Rattle.std.proofs.lemmas.Option.{same_Some}
use mathlib.Core.List.{IsPrefix}
use Rattle.dv_model.specs.declared.types.Command.{Command}
use Rattle.dv_model.specs.declared.types.Mailbox.{Mailbox}
use Rattle.dv_model.specs.declared.types.Reply.{Reply}
use Rattle.dv_model.specs.declared.types.Reply.TheVariants as reply
use Rattle.dv_model.specs.Journals.{Log, at, mark_of}
use Rattle.dv_model.specs.Sessions.{Answer, State, answer, data_of, ending_of, group_limit, group_of, has_uid, is_log_full, limit_of, removed_uids, told_of}
use Rattle.dv_model.specs.Spelling.{group_text}
use Rattle.dv_model.specs.Transcripts.{Answered, IsRefused, IsTold, IsUnavailable, refused_at, unavailable_count}
use Rattle.dv_model.specs.Views.{shows_uid}
use Rattle.dv_answer.proofs.Limits.{refusal_goes_on}
use Rattle.dv_maildrop.specs.declared.types.Removal.{Removal}
use Rattle.dv_maildrop.specs.declared.types.Removal.TheVariants as removal
use Rattle.dv_maildrop.specs.Maildrops.{Transaction, marked_set, marked_uids}
use Rattle.dv_front.specs.declared.notes.Note.{Note}
use Rattle.dv_keeper.specs.declared.fault.SessionFault.{SessionFault}
use Rattle.dv_keeper.specs.declared.fault.SessionFault.TheVariants as session_fault
use Rattle.dv_keeper.specs.Turns.{HasAnswered, HasSpent, LeavesEntry, LeavesWriter}
use Rattle.dv_plans.specs.declared.fault.StoreFault.{StoreFault}
use Rattle.dv_serving.specs.Taking.{Takes}
use Rattle.dv_shared.specs.declared.written.Written.{Written}
use Rattle.dv_member.specs.Members.{IsSession, Member, log_seen, notes_of}
use Rattle.dv_serving.proofs.Counting.{AreAvailable, answer_available, counts_none}
use Rattle.dv_pop3.specs.Clients.{IsListing, KeepsOn}
use Rattle.dv_pop3.specs.Findings.{IsCut, IsHeld, Removes, is_among, removal_by, removal_of}
use Rattle.dv_pop3.proofs.Keeping.{held_but, held_follower}
use Rattle.dv_pop3.proofs.Later.{gone_stays, lives_new, next_up, none_refused, tracks}
use Rattle.dv_pop3.proofs.Removals.{both_are, marked_given, removed_are}

-- what came of it, by its last line
abbrev pub came_of : List Reply → Removal
came_of lines = removal_by (slice_get lines (length lines - 1))

pub record Removed (start : Log) (count : ℕ) (m : Transaction) (lines : List Reply) (old new : Member) : Type 0 where
  pub removes : Removes start count m (came_of lines) old new
  pub later : KeepsOn old.follower.state new.follower.state

last_at : {X : Type 0} (front : List X) (x : X) → slice_get (front ++ x ∷ []) (length front) ≡ Some x
last_at [] x = refl
last_at (y ∷ front) x = last_at front x

pub last_got : (front : List Reply) (last : Reply) → slice_get (front ++ last ∷ []) (length (front ++ last ∷ []) - 1) ≡ Some last
last_got front last =
    let place : length (front ++ last ∷ []) - 1 ≡ length front = omega (arith, length_push front last) in
    ap (slice_get (front ++ last ∷ [])) place ∙ last_at front last

last_is : (front : List Reply) (last : Reply) → came_of (front ++ last ∷ []) ≡ removal_by (Some last)
last_is front last = ap removal_by (last_got front last)

over_limit : (a b : Bool) (n : ℕ) (line : Reply) → cond a (Some (reply.TooLong n)) (cond b (Some (reply.TooLong n)) None) ≡ Some line → line ≡ reply.TooLong n
over_limit true b n line e = sym (same_Some (reply.TooLong n) line e)
over_limit false true n line e = sym (same_Some (reply.TooLong n) line e)
over_limit false false n line e = absurd cc

module _ (start : Log) (count : ℕ) (t : Transaction) (old new : Member) (session : IsSession start count old) (session_new : IsSession start count new) (fresh : old.spent ≡ false) (fresh_new : new.spent ≡ false)
    (begins : IsPrefix (notes_of old) (notes_of new)) (listing : IsListing t.rows old.follower.state) (lines : List Reply) (has : HasAnswered start count (removal_of t) lines old new) where
  abbrev log : Log
  log = log_seen start new

  abbrev x : State
  x = old.follower.state

  abbrev c : Command
  c = removal_of t

  stays : new.follower.state ≡ x → KeepsOn x new.follower.state
  stays same = subst (KeepsOn x) (sym same) (record { selected = listing.selected; next_uid = omega arith })

  by_came : (r : Removal) → came_of lines ≡ r → Removes start count t r old new → KeepsOn x new.follower.state → Removed start count t lines old new
  by_came r came removes later = record { removes = subst (λ (r : Removal). Removes start count t r old new) (sym came) removes; later = later }

  module _ (refused : IsRefused log has.met new.seen x c lines new.follower.state) where
    abbrev size : ℕ
    size = length (group_text (group_of c x.view refused.before log.guid))

    abbrev limit : Option Reply
    limit = limit_of c refused.before log.rotates (mark_of log has.met) (group_of c x.view refused.before log.guid)

    refusal_is : refused_at log has.met x c refused.before ≡ limit
    refusal_is = refusal_goes_on x c refused.before log.rotates (mark_of log has.met) log.guid ∙ ap (λ (o : Option Reply). option_or o limit) (none_refused x c listing.selected refl)

    line_is : refused.line ≡ reply.TooLong size
    line_is = over_limit (nat_lt group_limit size) (is_log_full log.rotates (mark_of log has.met) size) size refused.line (sym refusal_is ∙ refused.refusal)

    lines_are : lines ≡ reply.TooLong size ∷ []
    lines_are = refused.one_line ∙ ap (λ (r : Reply). r ∷ []) line_is

    there : refused.before ≡ new.live
    there =
        same_Some refused.before new.live
        (sym refused.was_there ∙ ap (at log) (sym refused.nothing_written) ∙ (lives_new start count old new session session_new fresh fresh_new begins listing.selected).live)

    refused_there : refused_at log new.seen x c new.live ≡ Some (reply.TooLong size)
    refused_there =
        ap (λ (m : Mailbox). refused_at log new.seen x c m) (sym there)
        ∙ ap (λ (k : ℕ). refused_at log k x c refused.before) refused.nothing_written
        ∙ refused.refusal ∙ ap (λ (r : Reply). Some r) line_is

    none_counted : new.refused ≡ old.refused
    none_counted = has.refused ∙ ap (λ (l : List Reply). old.refused + unavailable_count (l ∷ [])) lines_are ∙ omega arith

    by_refusal : Removed start count t lines old new
    by_refusal =
        by_came (removal.TooLong size) (ap came_of lines_are)
        (record { refusal = refused_there; counted = (has.wrote ∙ omega (arith, refused.nothing_written), none_counted) })
        (stays refused.stays)

  by_failure : IsUnavailable log count has.met new.seen x c lines new.follower.state → Removed start count t lines old new
  by_failure un =
      let counted : new.refused ≡ old.refused + 1 = has.refused ∙ ap (λ (l : List Reply). old.refused + unavailable_count (l ∷ [])) un.one_line in
      by_came (removal.Disk un.faults) (ap came_of un.one_line)
      (record { above = un.above; counted = counted }, has.wrote ∙ omega (arith, un.nothing_written))
      (stays un.stays)

  module _ (told : IsTold log old.number has.met new.seen x c lines new.follower.state) where
    abbrev rules : Answer
    rules = answer log.mail x c told.before new.seen told.mailbox (mark_of log new.seen)

    abbrev front : List Reply
    front = data_of log.mail c x.view told.mailbox ++ told_of c told.mailbox x.view rules.next.view

    abbrev last : Reply
    last = ending_of log.mail c x.view told.before told.mailbox (mark_of log new.seen)

    lines_told : rules.replies ≡ lines
    lines_told = ap (λ (a : Answer). a.replies) told.is

    done : came_of lines ≡ removal.Done
    done = ap came_of (sym lines_told) ∙ last_is front last

    none_failed : new.refused ≡ old.refused
    none_failed =
        let available : AreAvailable lines = subst AreAvailable lines_told (answer_available log.mail x c told.before new.seen told.mailbox (mark_of log new.seen)) in
        let none : unavailable_count (lines ∷ []) ≡ 0 = counts_none lines available in
        has.refused ∙ omega (arith, none)

    exactly : (uid : ℕ) → is_among (removed_uids (marked_set t) x.view told.before) uid ≡ (is_among (marked_uids t) uid && has_uid told.before uid)
    exactly uid =
        removed_are (marked_uids t) x.view told.before uid
        ∙ both_are (shows_uid x.view uid) (is_among (marked_uids t) uid) (has_uid told.before uid)
        (λ hidden marked. gone_stays start count old new session session_new fresh fresh_new begins listing.selected has.met told.before has.low told.was_there uid (marked_given t x.view.next_uid uid listing.given marked) hidden)

    mailbox_is : told.mailbox ≡ new.live
    mailbox_is = same_Some told.mailbox new.live (sym told.is_there ∙ (lives_new start count old new session session_new fresh fresh_new begins listing.selected).live)

    later : KeepsOn x new.follower.state
    later =
        let up : x.view.next_uid ≤ told.mailbox.next_uid = omega (arith, next_up start count old new session session_new fresh fresh_new begins listing.selected, (tracks start count old new session session_new fresh fresh_new begins listing.selected).next_uid, ap (λ (m : Mailbox). m.next_uid) mailbox_is) in
        subst (KeepsOn x) (ap (λ (a : Answer). a.next) told.is) (record { selected = refl; next_uid = up })

    by_told : Removed start count t lines old new
    by_told =
        by_came removal.Done done
        (record {
          met = has.met;
          low = has.low;
          mailbox = told.before;
          was_there = told.was_there;
          allowed = told.allowed;
          wrote = told.wrote;
          exactly = exactly;
          counted = (has.wrote, none_failed);
        })
        later

  by_answer : Answered log count old.number has.met new.seen x c lines new.follower.state → Removed start count t lines old new
  by_answer (inl refused) = by_refusal refused
  by_answer (inr (inl un)) = by_failure un
  by_answer (inr (inr told)) = by_told told

  pub removed : Removed start count t lines old new
  removed = by_answer has.turn.answered

-- ---- where it isn't answered

pub cut_of : (start : Log) (t : Transaction) (old new : Member) (w : Written) → HasSpent old new → LeavesEntry start (removal_of t) old new (session_fault.NoMemoryAfter w) → IsCut start t old new
cut_of start t old new w spent left =
    record { met = w.number - 1; left = left; spent = ap (λ (s : Member). s.spent) spent.now; counted = ap (λ (s : Member). s.wrote) spent.now }

pub unanswered : (start : Log) (t : Transaction) (notes now : List Note) (came : Result Written StoreFault) (old new : Member) (e : SessionFault)
    → LeavesWriter notes now came old new (Err e) → LeavesEntry start (removal_of t) old new e → IsHeld old new ⊎ IsCut start t old new
unanswered start t notes now came old new session_fault.NoMemory leaves left = inl (held_but came old new leaves.1)
unanswered start t notes now came old new (session_fault.NoMemoryAfter w) leaves left = inr (cut_of start t old new w leaves.3 left)

pub unanswered_follower : (notes now : List Note) (came : Result Written StoreFault) (old new : Member) (e : SessionFault) → LeavesWriter notes now came old new (Err e) → new.follower ≡ old.follower
unanswered_follower notes now came old new session_fault.NoMemory leaves = held_follower old new (held_but came old new leaves.1)
unanswered_follower notes now came old new (session_fault.NoMemoryAfter w) leaves = ap (λ (s : Member). s.follower) leaves.3.now

-- ---- as the call has it

pub taken_removes : {E : Type 0} (start : Log) (count : ℕ) (t : Transaction) (old new : Member) → IsSession start count old → IsSession start count new → old.spent ≡ false → new.spent ≡ false → IsPrefix (notes_of old) (notes_of new)
    → IsListing t.rows old.follower.state → (c : Command) → c ≡ removal_of t → (none lines : List Reply) → none ≡ [] → (done : Unit {0})
    → Takes {E = E} (λ replies more. replies ++ more) none lines (Ok done) (λ told. IfOk told (λ lines. HasAnswered start count c lines old new)) → Removed start count t lines old new
taken_removes start count t old new session session_new fresh fresh_new begins listing c is none lines empty done took =
    let all : lines ≡ took.replies = took.taken ∙ ap (λ (l : List Reply). l ++ took.replies) empty in
    subst (λ (l : List Reply). Removed start count t l old new) (sym all)
    (removed start count t old new session session_new fresh fresh_new begins listing took.replies (subst (λ (c : Command). HasAnswered start count c took.replies old new) is took.holds))
