-- What a session is told under the lock.
use Rattle.std.proofs.Common.{◌≡◌, ◌∙◌, inr, ℕ, ◌+◌, Bool, true, false, List, [], ◌∷◌, ◌++◌, None, Result, Ok, Err, ap, arith, length, refl, subst, sym}
use Rattle.std.specs.Prelude.{OnErr, OnOk, ◌&&◌, filter, if◌then◌else◌}
use mathlib.Core.List.{IsPrefix}
use Rattle.dv_model.specs.declared.types.Command.{Command}
use Rattle.dv_model.specs.declared.types.Command.TheVariants as command
use Rattle.dv_model.specs.declared.types.Mailbox.{Mailbox}
use Rattle.dv_model.specs.declared.types.Reply.{Reply}
use Rattle.dv_model.specs.Counts.{Rose, RoseBy}
use Rattle.dv_model.specs.Journals.{Log, Mail, mark_of}
use Rattle.dv_model.specs.Sessions.{Answer, State, answer, data_of, has_uid, is_damaged, is_write, reads_mail, uids_looked_at}
use Rattle.dv_model.specs.Transcripts.{unavailable_count}
use Rattle.dv_model.specs.Views.{View}
use Rattle.dv_promises.proofs.Telling.{reads_nothing}
use Rattle.dv_answer.specs.Answers.{IsAnswered}
use Rattle.dv_answer.specs.Refusing.{own_refusal}
use Rattle.dv_chain.specs.declared.chain.Chain.{Chain}
use Rattle.dv_front.specs.declared.notes.Note.{Note}
use Rattle.dv_front.proofs.Prefixes.{prefix_self}
use Rattle.dv_generations.specs.Feeds.{Feed, journal}
use Rattle.dv_member.specs.Calls.{HasCaughtUp, HasTurned, IsAsBefore, SeesAll, counted, seeing, turned}
use Rattle.dv_member.specs.Members.{IsSession, Member, notes_of}
use Rattle.dv_notes.specs.Logs.{log_of}
use Rattle.dv_responses.specs.Damaged.{IsRead, damaged_uids}
use Rattle.dv_plans.specs.declared.fault.StoreFault.{StoreFault}
use Rattle.dv_plans.specs.declared.fault.StoreFault.TheVariants as fault
use Rattle.dv_plans.specs.Faults.{HasStoreCause}
use Rattle.dv_serving.specs.Lines.{IsFaultLine, fault_lines}
use Rattle.dv_serving.proofs.Counting.{answer_available, counts_none}
use Rattle.dv_serving.proofs.Looking.{writes_unread}
use Rattle.dv_store.specs.Faults.{IsFailure}
use Rattle.dv_store.specs.States.{State as StoreState}
use Rattle.dv_tries.specs.Standing.{StandsBehind}
use Rattle.dv_shared.specs.Kept.{Kept, notes_in}
use Rattle.dv_shared.specs.Reading.{IsReadFrom, read_refused}
use Rattle.dv_shared.specs.Writing.{refused_behind}
use Rattle.dv_view.specs.Taken.{HasTaken}
use Rattle.dv_keeper.specs.Sessions.{HasJoined, IsAtNewest}
use Rattle.dv_keeper.specs.Turns.{HasAnswered, HasSeen, HasTold, IsAsBeforeBut, LeavesReader}
use Rattle.dv_keeper.proofs.Committed.{answered_of, low_seen, low_told}
use Rattle.dv_keeper.proofs.Turning.{answer_marked, counts_turn, done_turn, read_allowed, tells_more, unread_turn}

-- a write has no data lines
pub write_data : (mail : ℕ → Mail) (c : Command) (v : View) (m : Mailbox) → is_write c ≡ true → data_of mail c v m ≡ []
write_data mail (command.Fetch by_uid set items) v m write = absurd cc
write_data mail (command.Search by_uid key) v m write = absurd cc
write_data mail c v m write = refl

-- what reads messages writes nothing
pub mails_read : (c : Command) → reads_mail c ≡ true → is_write c ≡ false
mails_read (command.Fetch by_uid set items) mails = refl
mails_read (command.Search by_uid key) mails = refl
mails_read c mails = absurd cc

-- and none that are damaged
pub none_damaged : (mail : ℕ → Mail) (c : Command) (v : View) (m : Mailbox) (damaged : List ℕ) → is_write c ≡ true → damaged ≡ [] → damaged ≡ damaged_uids mail c v m
none_damaged mail c v m damaged write none =
    none ∙ sym (ap (λ (b : Bool). if b then filter (λ uid. has_uid m uid && is_damaged (mail uid)) (uids_looked_at c v) else []) (writes_unread c write))

-- ---- a hold of the lock

pub hold_begins : (new end : Member) → end ≡ record new { holds = counted new.holds } → (ns : List Note) → IsPrefix ns (notes_of new) → IsPrefix ns (notes_of end)
hold_begins new end held ns begins = subst (λ (ms : List Note). IsPrefix ns ms) (sym (ap notes_of held)) begins

module _ (f : Feed) (old new end : Member) (held : end ≡ record new { holds = counted new.holds }) where
  newest_end : SeesAll f old new → IsAtNewest old end
  newest_end all =
      subst (λ (x : Member). IsAtNewest old x) (sym held) (record { unsealed = all.unsealed; newest = all.tables.0 ∙ sym all.newest; tables = all.tables.1 })

  pub seen_end : (start : Log) (count : ℕ) → SeesAll f old new → IsSession start count end → HasSeen (journal f) end
  seen_end start count all session =
      let are : notes_of end ≡ journal f = ap notes_of held ∙ all.notes in
      record { are = are; many = sym session.seen ∙ ap (λ (ns : List Note). length ns) are }

  pub told_end : HasTurned f old new → HasTold 0 old end
  told_end has =
      let wrote : old.wrote ≡ old.wrote + 0 = omega arith in
      record {
        newest = newest_end has.all;
        now =
            held
            ∙ subst (λ (x : Member). record new { holds = counted new.holds } ≡ turned (record (seeing old x) { knows_seal = false; holds = counted old.holds; wrote = old.wrote + 0 }) x.follower) (sym held)
            (ap (λ (x : Member). record x { holds = counted x.holds }) has.now
            ∙ ap (λ (k : ℕ). turned (record (seeing old new) { knows_seal = false; holds = counted old.holds; wrote = k }) new.follower) wrote);
      }

  pub joined_end : HasCaughtUp f old new → HasJoined old end
  joined_end has = record {
    newest = newest_end has.all;
    now =
        held
        ∙ subst (λ (x : Member). record new { holds = counted new.holds } ≡ record (seeing old x) { caught_up = true; knows_seal = false; holds = counted old.holds }) (sym held)
        (ap (λ (x : Member). record x { holds = counted x.holds }) has.now);
  }

-- ---- a reading of messages

-- it publishes nothing
pub notes_stay : {S C : Type 0} (before behind : Kept S C) → IsReadFrom before behind → notes_in behind ≡ notes_in before
notes_stay {S} {C} before behind stays = ap (λ (k : Kept S C). notes_in k) stays.now

-- what was read of the end of the log is of that end
pub read_found : {S C R : Type 0} (start : Log) (with : R → List Reply → R) (said said_now : R) (c : Command) (v : View) (before behind : Kept S C) → IsReadFrom before behind → (damaged : List ℕ)
    → IsRead with said said_now (log_of start (notes_in before)).mail c v before.store.chain.live.mailbox damaged → IsRead with said said_now (log_of start (notes_in behind)).mail c v behind.store.chain.live.mailbox damaged
read_found {S} {C} start with said said_now c v before behind stays damaged read =
    subst (λ (m : Mailbox). IsRead with said said_now (log_of start (notes_in behind)).mail c v m damaged) (sym (ap (λ (x : Chain). x.live.mailbox) stays.store.chain))
    (subst (λ (ns : List Note). IsRead with said said_now (log_of start ns).mail c v before.store.chain.live.mailbox damaged) (sym (notes_stay before behind stays)) read)

module _ {S C : Type 0} (start : Log) (count : ℕ) (c : Command) (old new : Member) (notes : List Note) (store : StoreState S C) (stands : StandsBehind start notes store) (session : IsSession start count old) (fresh : old.spent ≡ false) (mails : reads_mail c ≡ true)
    (own : own_refusal old.follower.state c ≡ None) where
  pub mail_answered : {R : Type 0} (with : R → List Reply → R) (said said_now : R) → IsPrefix (notes_of old) notes
      → IsAnswered with said said_now new.follower.state (answer (log_of start notes).mail old.follower.state c store.chain.live.mailbox (length notes) store.chain.live.mailbox (mark_of (log_of start notes) (length notes)))
      → HasSeen notes new × HasTold 0 old new
      → (said_now ≡ with said (answer (log_of start notes).mail old.follower.state c store.chain.live.mailbox (length notes) store.chain.live.mailbox (mark_of (log_of start notes) (length notes))).replies)
      × HasAnswered start count c (answer (log_of start notes).mail old.follower.state c store.chain.live.mailbox (length notes) store.chain.live.mailbox (mark_of (log_of start notes) (length notes))).replies old new
  mail_answered with said said_now begins answered ok =
      let log : Log = log_of start notes in
      let m : Mailbox = store.chain.live.mailbox in
      let x : State = old.follower.state in
      let a : Answer = answer log.mail x c m (length notes) m (mark_of log (length notes)) in
      let reads = mails_read c mails in
      let turn = done_turn start notes notes store store stands stands old.number x c (low_told start count old notes session fresh begins) (prefix_self notes) count new.follower.state (read_allowed log (length notes) x c m reads own)
      (inr (refl, reads_nothing c x.view m log.guid reads)) answered.1 in
      let none : unavailable_count (a.replies ∷ []) ≡ 0 = counts_none a.replies (answer_available log.mail x c m (length notes) m (mark_of log (length notes))) in
      let marked = answer_marked log.mail x c m (length notes) m (mark_of log (length notes)) in (
        answered.0,
        answered_of start count c old new notes notes ok.0 (low_seen start count old notes session begins) a.replies turn (ap (λ (s : Member). s.wrote) ok.1.now ∙ omega (arith, ok.0.many)) (ap (λ (s : Member). s.refused) ok.1.now ∙ omega (arith, none))
            (ap (λ (s : Member). s.turns) ok.1.now ∙ counts_turn a.replies old.turns marked),
      )

-- the disk failed it
refused_is : {A : Type 0} (came : Result A StoreFault) (s : Member) → read_refused came s ≡ record s { refused = refused_behind s.refused came }
refused_is (Ok x) s = refl
refused_is (Err (fault.Disk faults)) s = refl
refused_is (Err fault.NoMemory) s = refl
refused_is (Err fault.UidsUsedUp) s = refl
refused_is (Err (fault.TooLong bytes)) s = refl

pub unread_before : {A : Type 0} (came : Result A StoreFault) (old new : Member) → new ≡ read_refused came old → IsAsBeforeBut came old new
unread_before came old new is =
    subst (λ (s : Member). IsAsBeforeBut came old s) (sym (is ∙ refused_is came old)) (record { now = refl; notes = refl; tables = prefix_self old.tables.items })

pub unread_begins : (A : Type 0) (old new : Member) (e : StoreFault) → new ≡ read_refused {A = A} (Err e) old → IsPrefix (notes_of old) (notes_of new)
unread_begins A old new e is = subst (λ (s : Member). IsPrefix (notes_of old) (notes_of s)) (sym (is ∙ refused_is {A = A} (Err e) old)) (prefix_self (notes_of old))

pub leaves_unread : (A : Type 0) {E : Type 0} (notes : List Note) (e : StoreFault) (old new : Member) (result : Result (Unit {0}) E) → new ≡ read_refused {A = A} (Err e) old → IsFailure e → OnOk result (IsFaultLine e (fault_lines e)) → LeavesReader {A = A} notes (Err e) old new result
leaves_unread A notes (fault.Disk faults) old new (Ok done) is failure line = unread_before {A = A} (Err (fault.Disk faults)) old new is
leaves_unread A notes fault.NoMemory old new (Ok done) is failure line = absurd line
leaves_unread A notes fault.UidsUsedUp old new (Ok done) is failure line = absurd failure
leaves_unread A notes (fault.TooLong bytes) old new (Ok done) is failure line = absurd failure
leaves_unread A notes (fault.Disk faults) old new (Err e) is failure line = unread_before {A = A} (Err (fault.Disk faults)) old new is
leaves_unread A notes fault.NoMemory old new (Err e) is failure line = unread_before {A = A} (Err fault.NoMemory) old new is
leaves_unread A notes fault.UidsUsedUp old new (Err e) is failure line = absurd failure
leaves_unread A notes (fault.TooLong bytes) old new (Err e) is failure line = absurd failure

-- its one line is a turn over what the session had seen
pub unread_answered : {A R : Type 0} (start : Log) (count : ℕ) (c : Command) (old new : Member) (e : StoreFault) (with : R → List Reply → R) (said said_now : R) → IsSession start count old → old.spent ≡ false → reads_mail c ≡ true → own_refusal old.follower.state c ≡ None
    → new ≡ read_refused {A = A} (Err e) old → IsFailure e → (refused before now : ℕ) → RoseBy refused count before → HasStoreCause {A = A} before now (Err e)
    → (said_now ≡ with said (fault_lines e)) × IsFaultLine e (fault_lines e) → (said_now ≡ with said (fault_lines e)) × HasAnswered start count c (fault_lines e) old new
unread_answered start count c old new (fault.Disk faults) with said said_now session fresh mails own is failure refused before now few cause line =
    let lives = session.lives fresh in
    let more : Rose count faults = tells_more refused count before now (fault.Disk faults) few cause in (
      line.0,
      subst (λ (s : Member). HasAnswered start count c (fault_lines (fault.Disk faults)) old s) (sym is) (record {
        met = old.seen;
        low = omega arith;
        turn = unread_turn start (notes_of old) session.start_is.fresh old.number old.follower.state c count old.seen faults old.live (omega (arith, session.seen)) lives.told lives.live (mails_read c mails) mails own more;
        wrote = omega arith;
        refused = refl;
        turns = refl;
      }),
    )
unread_answered start count c old new fault.NoMemory with said said_now session fresh mails own is failure refused before now few cause line = absurd line.1
unread_answered start count c old new fault.UidsUsedUp with said said_now session fresh mails own is failure refused before now few cause line = absurd failure
unread_answered start count c old new (fault.TooLong bytes) with said said_now session fresh mails own is failure refused before now few cause line = absurd failure

-- ---- lines that were taken before memory ran out

pub taken_same : {R : Type 0} (with : R → List Reply → R) (none : (x : R) → with x [] ≡ x) (old new : R) → new ≡ old → HasTaken with old new
taken_same with none old new same = record { told = []; is = same ∙ sym (none old) }

pub taken_more : {R : Type 0} (with : R → List Reply → R) (more : (x : R) (a b : List Reply) → with (with x a) b ≡ with x (a ++ b)) (old mid new : R) → HasTaken with old mid → HasTaken with mid new → HasTaken with old new
taken_more with more old mid new first second =
    record { told = first.told ++ second.told; is = second.is ∙ ap (λ x. with x second.told) first.is ∙ more old first.told second.told }

pub err_taken : {A E P Q : Type 0} (result : Result A E) → (P → Q) → OnErr result P → OnErr result Q
err_taken (Ok x) f p = tt
err_taken (Err e) f p = f p

pub before_self : (s : Member) → IsAsBefore s s
before_self s = record { now = refl; notes = refl; tables = prefix_self s.tables.items }
