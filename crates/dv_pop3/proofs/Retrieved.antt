-- What a session's answered FETCH of a message says.
use Rattle.std.proofs.Common.{◌≡◌, ◌⊎◌, inl, inr, ℕ, ◌<◌, Bool, true, false, List, [], ◌∷◌, refl, sym, ap, subst, ◌∙◌, arith, append-nil}
use Rattle.std.specs.Prelude.{Err, IfOk, Ok, OnErr, Result, flat_map, if◌then◌else◌}
use mathlib.Core.List.{IsPrefix}
use Rattle.dv_model.specs.declared.types.Command.{Command}
use Rattle.dv_model.specs.declared.types.Item.TheVariants as item
use Rattle.dv_model.specs.declared.types.Mailbox.{Mailbox}
use Rattle.dv_model.specs.declared.types.Reply.{Reply}
use Rattle.dv_model.specs.Journals.{Log, Mail, Held, Damaged, mark_of}
use Rattle.dv_model.specs.Sessions.{Answer, State, answer, has_uid}
use Rattle.dv_maildrop.specs.declared.types.Found.{Found}
use Rattle.dv_maildrop.specs.declared.types.Found.TheVariants as found
use Rattle.dv_maildrop.specs.declared.types.Listed.{Listed}
use Rattle.dv_maildrop.specs.Answers.{found_answer}
use Rattle.dv_maildrop.specs.Maildrops.{uid_span}
use Rattle.dv_keeper.specs.Turns.{HasAnswered}
use Rattle.dv_member.specs.Members.{IsSession, Member, log_seen, notes_of}
use Rattle.dv_serving.specs.Taking.{Takes}
use Rattle.dv_pop3.specs.Clients.{IsGiven, KeepsOn}
use Rattle.dv_pop3.specs.Findings.{Finds, IsFound, IsHeld, found_in, found_of}
use Rattle.dv_pop3.specs.Retrievals.{Retrieving, fetch_of, said_by, with_replies}
use Rattle.dv_pop3.proofs.Finding.{IsTextOf, lines_text}
use Rattle.dv_pop3.proofs.Reading.{HasFailed, HasRead, reads}
use Rattle.dv_pop3.proofs.Later.{gone_stays, lives_new, next_up, seen_up, tracks}

-- the text of the replies: none, of a message that has left, or what was found
pub record Retrieves (start : Log) (count : ℕ) (row : Listed) (text : List ℕ) (old new : Member) : Type 0 where
  pub is : ((text ≡ []) × IsFound start count row.uid found.Gone old new)
      ⊎ ((f : Found) × (text ≡ found_answer row f) × IsFound start count row.uid f old new)
  pub later : KeepsOn old.follower.state new.follower.state

never_disk : (b : Bool) (o : Mail) (n : ℕ) → found.Disk n ≡ (if b then found_of o else found.Gone) → ⊥
never_disk true (Held message) n e = absurd cc
never_disk true Damaged n e = absurd cc
never_disk false o n e = absurd cc

finds_of : (start : Log) (count uid : ℕ) (f : Found) (old new : Member) → f ≡ found_in (log_seen start new).mail new.live uid → new.refused ≡ old.refused → Finds start count uid f old new
finds_of start count uid (found.Held message) old new is same = (is, same)
finds_of start count uid found.Gone old new is same = (is, same)
finds_of start count uid found.Damaged old new is same = (is, same)
finds_of start count uid (found.Disk n) old new is same = absurd (never_disk (has_uid new.live uid) ((log_seen start new).mail uid) n is)

module _ (start : Log) (count : ℕ) (row : Listed) (old new : Member) (session : IsSession start count old) (session_new : IsSession start count new) (fresh : old.spent ≡ false) (fresh_new : new.spent ≡ false)
    (begins : IsPrefix (notes_of old) (notes_of new)) (selected : old.follower.state.selected ≡ true) (given : row.uid < old.follower.state.view.next_uid) (lines : List Reply) (has : HasAnswered start count (fetch_of row.uid) lines old new) where
  abbrev log : Log
  log = log_seen start new

  abbrev x : State
  x = old.follower.state

  abbrev text : List ℕ
  text = flat_map (said_by row) lines

  by_failure : HasFailed count lines old new → Retrieves start count row text old new
  by_failure failed = record {
    is = inr (
      found.Disk failed.faults,
      ap (flat_map (said_by row)) failed.line ∙ append-nil (found_answer row (found.Disk failed.faults)),
      record { finds = failed.failure; wrote = failed.wrote },
    );
    later = subst (KeepsOn x) (sym failed.stays) (record { selected = selected; next_uid = omega arith });
  }

  module _ (read : HasRead start (fetch_of row.uid) lines old new) where
    abbrev m : Mailbox
    m = new.live

    abbrev rules : Answer
    rules = answer log.mail x (fetch_of row.uid) read.before new.seen m (mark_of log new.seen)

    found_is : (f : Found) → f ≡ found_in log.mail m row.uid → IsFound start count row.uid f old new
    found_is f is = record { finds = finds_of start count row.uid f old new is read.refused; wrote = read.wrote }

    view_ordered : IsTextOf row log.mail m text
    view_ordered =
        subst (λ (l : List Reply). IsTextOf row log.mail m (flat_map (said_by row) l)) read.lines_are
        (lines_text row log.mail x read.before m (mark_of log new.seen) new.seen (tracks start count old new session session_new fresh fresh_new begins selected).ordered.rising
        (gone_stays start count old new session session_new fresh fresh_new begins selected new.seen m (seen_up start count old new session session_new fresh fresh_new begins selected) (lives_new start count old new session session_new fresh fresh_new begins selected).live row.uid given))

    by_text : IsTextOf row log.mail m text → Retrieves start count row text old new
    by_text of = record { is = by of.is; later = subst (KeepsOn x) read.next_is (record { selected = refl; next_uid = omega (arith, next_up start count old new session session_new fresh fresh_new begins selected, (tracks start count old new session session_new fresh fresh_new begins selected).next_uid) }) }
      where
        by : ((text ≡ []) × (found_in log.mail m row.uid ≡ found.Gone)) ⊎ (text ≡ found_answer row (found_in log.mail m row.uid))
            → ((text ≡ []) × IsFound start count row.uid found.Gone old new) ⊎ ((f : Found) × (text ≡ found_answer row f) × IsFound start count row.uid f old new)
        by (inl none) = inl (none.0, found_is found.Gone (sym none.1))
        by (inr is) = inr (found_in log.mail m row.uid, is, found_is (found_in log.mail m row.uid) refl)

  by_reading : HasFailed count lines old new ⊎ HasRead start (fetch_of row.uid) lines old new → Retrieves start count row text old new
  by_reading (inl failed) = by_failure failed
  by_reading (inr read) = by_text read (view_ordered read)

  pub retrieves : Retrieves start count row text old new
  retrieves = by_reading (reads (uid_span row.uid ∷ []) (item.Body ∷ []) start count old new session session_new fresh fresh_new begins selected lines has)

-- ---- as the call has it

-- the replies were taken
pub taken_says : {E : Type 0} (start : Log) (count : ℕ) (row : Listed) (old new : Member) → IsSession start count old → IsSession start count new → old.spent ≡ false → new.spent ≡ false → IsPrefix (notes_of old) (notes_of new)
    → IsGiven row old.follower.state → (c : Command) → c ≡ fetch_of row.uid → (none after : Retrieving) → none ≡ record { row = row; text = [] } → (done : Unit {0})
    → Takes {E = E} with_replies none after (Ok done) (λ told. IfOk told (λ lines. HasAnswered start count c lines old new)) → Retrieves start count row after.text old new
taken_says start count row old new session session_new fresh fresh_new begins given c is none after empty done took =
    let lines : List Reply = took.replies in
    let text : after.text ≡ flat_map (said_by row) lines = ap (λ (r : Retrieving). r.text) (took.taken ∙ ap (λ (r : Retrieving). with_replies r lines) empty) in
    subst (λ (t : List ℕ). Retrieves start count row t old new) (sym text)
    (retrieves start count row old new session session_new fresh fresh_new begins given.0 given.1 lines (subst (λ (c : Command). HasAnswered start count c lines old new) is took.holds))

-- so what was found is answered
pub found_answered : {E : Type 0} (start : Log) (count : ℕ) (row : Listed) (text : List ℕ) (old new : Member) → Retrieves start count row text old new → (result : Result (List ℕ) E)
    → (text ≡ [] → IfOk result (λ t. t ≡ found_answer row found.Gone)) → ((f : Found) → text ≡ found_answer row f → IfOk result (λ t. t ≡ found_answer row f))
    → IfOk result (λ t. (f : Found) × (t ≡ found_answer row f) × IsFound start count row.uid f old new)
found_answered start count row text old new says (Ok t) none some = by says.is
  where
    by : ((text ≡ []) × IsFound start count row.uid found.Gone old new) ⊎ ((f : Found) × (text ≡ found_answer row f) × IsFound start count row.uid f old new)
        → (f : Found) × (t ≡ found_answer row f) × IsFound start count row.uid f old new
    by (inl x) = (found.Gone, none x.0, x.1)
    by (inr (f, is, one)) = (f, some f is, one)
found_answered start count row text old new says (Err e) none some = tt

-- or left without an answer
pub found_left : {A E : Type 0} (start : Log) (count : ℕ) (row : Listed) (text : List ℕ) (old new : Member) → Retrieves start count row text old new → (result : Result A E)
    → OnErr result (IsHeld old new ⊎ ((f : Found) × IsFound start count row.uid f old new))
found_left start count row text old new says (Ok t) = tt
found_left start count row text old new says (Err e) = by says.is
  where
    by : ((text ≡ []) × IsFound start count row.uid found.Gone old new) ⊎ ((f : Found) × (text ≡ found_answer row f) × IsFound start count row.uid f old new)
        → IsHeld old new ⊎ ((f : Found) × IsFound start count row.uid f old new)
    by (inl x) = inr (found.Gone, x.1)
    by (inr (f, is, one)) = inr (f, one)
