-- The turn of a write that was committed, over what its session has seen then.
use Rattle.std.proofs.Common.{◌≡◌, ◌∙◌, inl, inr, ℕ, ◌+◌, ◌<◌, ◌≤◌, Bool, true, false, List, [], ◌∷◌, ◌++◌, None, Option, Some, Result, Ok, Err, ap, append-nil, arith, length, refl, subst, sym}
use Rattle.std.specs.Prelude.{IfOk, OnOk, ◌||◌, cond, if◌then◌else◌}
use Rattle.std.specs.List.{list_any}
use Rattle.std.specs.Option.{option_or}
use Rattle.std.proofs.lemmas.List.{length_push}
use Rattle.std.proofs.lemmas.List.Folds.{list_any-append}
use mathlib.Core.List.{IsPrefix}
use Rattle.dv_model.specs.declared.types.Command.{Command}
use Rattle.dv_model.specs.declared.types.Mailbox.{Mailbox}
use Rattle.dv_model.specs.declared.types.Mark.{Mark}
use Rattle.dv_model.specs.declared.types.Record.{Record}
use Rattle.dv_model.specs.declared.types.Reply.{Reply}
use Rattle.dv_model.specs.declared.types.Reply.TheVariants as reply
use Rattle.dv_model.specs.Counts.{Rose, RoseBy}
use Rattle.dv_model.specs.Journals.{Log, Mail, at, mark_of}
use Rattle.dv_model.specs.Sessions.{Answer, State, answer, damaged_uid, data_of, ending_of, gone_uid, group_of, is_write, limit_of, reads_mail, step_of, told_of, view_before}
use Rattle.dv_model.specs.Transcripts.{Answered, HasLeft, HasWritten, IsTurn, Wrote, refused_at, unavailable_count}
use Rattle.dv_model.specs.Views.{View, moved}
use Rattle.dv_validity.proofs.Logs.{Extends}
use Rattle.dv_answer.proofs.Limits.{refusal_goes_on}
use Rattle.dv_answer.specs.Refusing.{own_refusal}
use Rattle.dv_front.specs.declared.notes.Note.{Note}
use Rattle.dv_member.specs.Calls.{counted}
use Rattle.dv_notes.specs.Logs.{AreNotesOf, log_of}
use Rattle.dv_notes.proofs.Logs.{logs_extend}
use Rattle.dv_plans.specs.declared.fault.StoreFault.{StoreFault}
use Rattle.dv_plans.specs.declared.fault.StoreFault.TheVariants as fault
use Rattle.dv_plans.specs.Faults.{HasStoreCause}
use Rattle.dv_serving.specs.Lines.{IsFaultLine}
use Rattle.dv_serving.specs.Taking.{Takes}
use Rattle.dv_serving.proofs.Counting.{rose_since}
use Rattle.dv_tries.specs.Commits.{with_records}
use Rattle.dv_tries.specs.Standing.{StandsBehind}
use Rattle.dv_store.specs.States.{State as StoreState}
use Rattle.dv_shared.specs.declared.written.Written.{Written}
use Rattle.dv_shared.specs.Writing.{HasOutcome, refused_behind}
use Rattle.dv_shared.proofs.Outcomes.{many_entries}
use Rattle.dv_keeper.specs.Turns.{has_mark, is_marked}

-- ---- what took replies

pub takes_by : {R E : Type 0} (with : R → List Reply → R) (old new : R) (lines : List Reply) (P : List Reply → Type 0) (result : Result (Unit {0}) E) → OnOk result ((new ≡ with old lines) × P lines)
    → Takes with old new result (λ told. IfOk told P)
takes_by with old new lines P (Ok done) h = record { replies = lines; taken = h.0; holds = h.1 }
takes_by with old new lines P (Err e) h = record { replies = []; taken = tt; holds = tt }

-- ---- notes

pub records_begin : (notes : List Note) (note : Note) (rs : List Record) → IsPrefix notes (with_records notes note rs)
records_begin notes note [] = ([], append-nil notes)
records_begin notes note (r ∷ rs) = (note ∷ [], refl)

-- the notes have one more, or are as they were
pub records_count : (notes : List Note) (note : Note) (rs : List Record) → length notes < length (with_records notes note rs) → length (with_records notes note rs) ≡ length notes + 1
records_count notes note [] less = absurd (omega (arith, less))
records_count notes note (r ∷ rs) less = length_push notes note

pub records_none : (notes : List Note) (note : Note) (rs : List Record) → length (with_records notes note rs) ≤ length notes → with_records notes note rs ≡ notes
records_none notes note [] le = refl
records_none notes note (r ∷ rs) le = absurd (omega (arith, le, length_push notes note))

-- ---- logs

pub log_goes_on : (start : Log) (notes now : List Note) → IsPrefix notes now → AreNotesOf start now → Extends (log_of start notes) (log_of start now)
log_goes_on start notes now begins are =
    subst (λ (l : List Note). Extends (log_of start notes) (log_of start l)) begins.1 (logs_extend start notes begins.0 (subst (AreNotesOf start) (sym begins.1) are))

module _ {S C : Type 0} (start : Log) (notes : List Note) (store : StoreState S C) (stands : StandsBehind start notes store) where
  pub many : length (log_of start notes).entries ≡ length notes
  many = many_entries start notes stands.notes_are.fresh

  pub there : at (log_of start notes) (length notes) ≡ Some store.chain.live.mailbox
  there = subst (λ (k : ℕ). at (log_of start notes) k ≡ Some store.chain.live.mailbox) many stands.mailbox

or_true : (b : Bool) → (b || true) ≡ true
or_true true = refl
or_true false = refl

-- nothing refuses a command that writes nothing, where its session doesn't
pub read_allowed : (log : Log) (k : ℕ) (x : State) (c : Command) (m : Mailbox) → is_write c ≡ false → own_refusal x c ≡ None → refused_at log k x c m ≡ None
read_allowed log k x c m reads own =
    refusal_goes_on x c m log.rotates (mark_of log k) log.guid
    ∙ ap (λ (o : Option Reply). option_or o (cond (is_write c) (limit_of c m log.rotates (mark_of log k) (group_of c x.view m log.guid)) None)) own
    ∙ ap (λ (b : Bool). cond b (limit_of c m log.rotates (mark_of log k) (group_of c x.view m log.guid)) None) reads

-- ---- the turn

module _ {S C : Type 0} (start : Log) (notes now : List Note) (old new : StoreState S C) (stands : StandsBehind start notes old) (stands_now : StandsBehind start now new) (author : ℕ) (x : State) (c : Command) (low : x.told ≤ length notes) where
  abbrev m : Mailbox
  m = old.chain.live.mailbox

  abbrev log : Log
  log = log_of start now

  module _ (begins : IsPrefix notes now) where
    on : Extends (log_of start notes) log
    on = log_goes_on start notes now begins stands_now.notes_are

    within : length notes ≤ length (log_of start notes).entries
    within = omega (arith, many start notes old stands)

    met_there : at log (length notes) ≡ Some m
    met_there = on.same_at (length notes) within ∙ there start notes old stands

    up : length notes ≤ length now
    up = omega (arith, on.longer, many start notes old stands, many start now new stands_now)

    pub done_turn : (base : ℕ) (y : State) → refused_at (log_of start notes) (length notes) x c m ≡ None → Wrote log author (length notes) (length now) x.view c m
        → y ≡ (answer log.mail x c m (length now) new.chain.live.mailbox (mark_of log (length now))).next
        → IsTurn log base author (record {
          before = x;
          command = c;
          met = length notes;
          behind = length now;
          replies = (answer log.mail x c m (length now) new.chain.live.mailbox (mark_of log (length now))).replies;
          after = y;
        })
    done_turn base y allowed wrote next =
        let a = answer log.mail x c m (length now) new.chain.live.mailbox (mark_of log (length now)) in
        let whole : length now ≤ length log.entries = omega (arith, many start now new stands_now) in
        let with_state : State → Answer = λ y. record { replies = a.replies; next = y } in
        record {
          met = (low, omega (arith, up, whole));
          answered = inr (inr record {
            before = m;
            was_there = met_there;
            allowed = on.refusal (length notes) m x c within (there start notes old stands) ∙ allowed;
            wrote = wrote;
            mailbox = new.chain.live.mailbox;
            is_there = there start now new stands_now;
            seen = (omega (arith, low, up), whole);
            is = ap with_state (sym next);
          });
        }

    -- the entry that a write left without an answer
    pub left_entry : is_write c ≡ true → refused_at (log_of start notes) (length notes) x c m ≡ None → length notes < length now → Wrote log author (length notes) (length now) x.view c m → HasLeft log author (length notes) x c
    left_entry write allowed more (inl has) = record {
      mailbox = m;
      met = met_there;
      told = low;
      write = write;
      allowed = on.refusal (length notes) m x c within (there start notes old stands) ∙ allowed;
      written = subst (λ (q : ℕ). HasWritten log author (length notes) q x.view c m) has.behind has;
    }
    left_entry write allowed more (inr none) = absurd (omega (arith, more, none.0))

-- ---- a limit, or the disk's failure

-- the disk's failure told more than there was at first
abbrev pub TellsMore : ℕ → StoreFault → Type 0
TellsMore base (fault.Disk faults) = Rose base faults
TellsMore base e = Unit {0}

pub tells_more : {A : Type 0} (refused base before now : ℕ) (e : StoreFault) → RoseBy refused base before → HasStoreCause {A = A} before now (Err e) → TellsMore base e
tells_more refused base before now (fault.Disk faults) few cause = subst (Rose base) (sym cause.rose.0) (rose_since refused base before now few cause.rose.1)
tells_more refused base before now fault.NoMemory few cause = tt
tells_more refused base before now fault.UidsUsedUp few cause = tt
tells_more refused base before now (fault.TooLong bytes) few cause = tt

module _ {S C : Type 0} (start : Log) (notes : List Note) (store : StoreState S C) (stands : StandsBehind start notes store) (author : ℕ) (x : State) (c : Command) (low : x.told ≤ length notes) where
  abbrev here : Log
  here = log_of start notes

  whole : length notes ≤ length here.entries
  whole = omega (arith, many start notes store stands)

  denied : (base : ℕ) (e : StoreFault) (lines : List Reply) → is_write c ≡ true → HasOutcome {A = Written} start author x c store.chain.live.mailbox notes notes (Err e) → TellsMore base e → IsFaultLine e lines
      → Answered here base author (length notes) (length notes) x c lines x
  denied base (fault.Disk faults) lines write allowed more is = inr (inl record {
    before = store.chain.live.mailbox;
    was_there = there start notes store stands;
    allowed = allowed.0;
    touches = ap (λ (b : Bool). b || reads_mail c) write;
    faults = faults;
    above = more;
    one_line = is;
    nothing_written = refl;
    stays = refl;
  })
  denied base fault.UidsUsedUp lines write limit more is = inl record {
    before = store.chain.live.mailbox;
    was_there = there start notes store stands;
    line = reply.UidsUsedUp;
    refusal = limit;
    one_line = is;
    nothing_written = refl;
    stays = refl;
  }
  denied base (fault.TooLong bytes) lines write limit more is = inl record {
    before = store.chain.live.mailbox;
    was_there = there start notes store stands;
    line = reply.TooLong bytes;
    refusal = limit;
    one_line = is;
    nothing_written = refl;
    stays = refl;
  }
  denied base fault.NoMemory lines write limit more is = absurd is

  pub denied_turn : (base : ℕ) (e : StoreFault) (lines : List Reply) → is_write c ≡ true → HasOutcome {A = Written} start author x c store.chain.live.mailbox notes notes (Err e) → TellsMore base e → IsFaultLine e lines
      → IsTurn here base author (record { before = x; command = c; met = length notes; behind = length notes; replies = lines; after = x })
  denied_turn base e lines write outcome more is = record { met = (low, whole); answered = denied base e lines write outcome more is }

-- a reading that the disk failed, over any mailbox that is there
pub unread_turn : (start : Log) (notes : List Note) → start.entries ≡ [] → (author : ℕ) (x : State) (c : Command) (base k faults : ℕ) (m : Mailbox) → k ≤ length notes → x.told ≤ k → at (log_of start notes) k ≡ Some m → is_write c ≡ false
    → reads_mail c ≡ true → own_refusal x c ≡ None → Rose base faults
    → IsTurn (log_of start notes) base author (record { before = x; command = c; met = k; behind = k; replies = reply.Unavailable faults ∷ []; after = x })
unread_turn start notes fresh author x c base k faults m le told is reads mails own more = record {
  met = (told, omega (arith, le, many_entries start notes fresh));
  answered = inr (inl record {
    before = m;
    was_there = is;
    allowed = read_allowed (log_of start notes) k x c m reads own;
    touches = ap (λ (b : Bool). is_write c || b) mails ∙ or_true (is_write c);
    faults = faults;
    above = more;
    one_line = refl;
    nothing_written = refl;
    stays = refl;
  });
}

one_none : (n : ℕ) → n ≡ n + 0
one_none n = omega arith

-- the one line counts as one failure where it is one
pub line_counts : (refused : ℕ) (e : StoreFault) (lines : List Reply) → IsFaultLine e lines → refused_behind {A = Written} refused (Err e) ≡ refused + unavailable_count (lines ∷ [])
line_counts refused (fault.Disk faults) lines is = ap (λ (l : List Reply). refused + unavailable_count (l ∷ [])) (sym is)
line_counts refused fault.UidsUsedUp lines is = one_none refused ∙ ap (λ (l : List Reply). refused + unavailable_count (l ∷ [])) (sym is)
line_counts refused (fault.TooLong bytes) lines is = one_none refused ∙ ap (λ (l : List Reply). refused + unavailable_count (l ∷ [])) (sym is)
line_counts refused fault.NoMemory lines is = absurd is

-- ---- lines with a mark

ending_marked : (mail : ℕ → Mail) (c : Command) (view : View) (met m : Mailbox) (mark : Mark) → is_marked (ending_of mail c view met m mark ∷ []) ≡ true
ending_marked mail c view met m mark = by (gone_uid c view m) refl (damaged_uid mail c view m) refl
  where
    by : (gone : Option ℕ) → gone_uid c view m ≡ gone → (damaged : Option ℕ) → damaged_uid mail c view m ≡ damaged → is_marked (ending_of mail c view met m mark ∷ []) ≡ true
    by (Some uid) e damaged f = rw e refl
    by None e (Some uid) f = rw (e, f) refl
    by None e None f = rw (e, f) refl

-- an answer ends with one
pub answer_marked : (mail : ℕ → Mail) (x : State) (c : Command) (met : Mailbox) (q : ℕ) (m : Mailbox) (mark : Mark) → is_marked (answer mail x c met q m mark).replies ≡ true
answer_marked mail x c met q m mark =
    let old = view_before c x.view in
    let new = moved (step_of c) old m in
    let lines = data_of mail c old m ++ told_of c m old new in
    let last = ending_of mail c old met m mark in
    list_any-append has_mark lines (last ∷ [])
    ∙ ap (λ (b : Bool). list_any has_mark lines || b) (ending_marked mail c old met m mark)
    ∙ or_true (list_any has_mark lines)

-- so it is a turn
pub counts_turn : (lines : List Reply) (turns : ℕ) → is_marked lines ≡ true → counted turns ≡ (if is_marked lines then counted turns else turns)
counts_turn lines turns marked = ap (λ (b : Bool). if b then counted turns else turns) (sym marked)

-- the one line of a limit, or of the disk's failure, has none
pub line_turns : (turns : ℕ) (e : StoreFault) (lines : List Reply) → IsFaultLine e lines → turns ≡ (if is_marked lines then counted turns else turns)
line_turns turns (fault.Disk faults) lines is = ap (λ (l : List Reply). if is_marked l then counted turns else turns) (sym is)
line_turns turns fault.UidsUsedUp lines is = ap (λ (l : List Reply). if is_marked l then counted turns else turns) (sym is)
line_turns turns (fault.TooLong bytes) lines is = ap (λ (l : List Reply). if is_marked l then counted turns else turns) (sym is)
line_turns turns fault.NoMemory lines is = absurd is
