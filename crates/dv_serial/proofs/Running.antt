-- Lines of a script are served one after another.
use Rattle.std.proofs.Common.{◌≡◌, ◌⊎◌, inl, inr, ℕ, suc, ◌+◌, ◌<◌, ◌≤◌, Bool, true, false, List, [], ◌∷◌, ◌++◌, length, get_or, take, drop, map, Option, Some, None, Ok, Err, Result, refl, sym, ◌∙◌, ap, subst, arith, append_assoc}
use Rattle.std.specs.Prelude.{◌||◌, All, if◌then◌else◌}
use Rattle.std.proofs.Math.Path.{fun_ext}
use Rattle.std.specs.Result.{IsErr, IsErrAnd}
use Rattle.std.proofs.lemmas.List.{append-nil, drop_more, length-map, length-take-le, map-append, take_all}
use Rattle.std.proofs.lemmas.List.Elements.{All-head, All-tail}
use Rattle.dv_model.specs.declared.types.Reply.{Reply}
use Rattle.dv_model.specs.Journals.{Log}
use Rattle.dv_model.specs.Sessions.{is_write, reads_mail}
use Rattle.dv_model.specs.Transcripts as transcripts
use Rattle.dv_model.specs.Transcripts.{touches_disk, unavailable_count}
use Rattle.dv_shelf.specs.declared.shelf.Name.{Name}
use Rattle.dv_shelf.specs.Crashes.{LeavesOnly}
use Rattle.dv_shelf.specs.Folders.{Folder}
use Rattle.dv_shelf.specs.Streams.{Appends, AppendsFront}
use Rattle.dv_shelf.proofs.Moments.{joined, weaker}
use Rattle.dv_logfile.specs.Settling.{StaysSettled}
use Rattle.dv_logfile.proofs.Settling.{settled_then}
use Rattle.dv_formats.specs.Scripts.{NamedLine, sessions_of}
use Rattle.dv_playing.specs.Laws.{IsAttempt, MayPlay, MayWrite, RiseFrom, failures_of, lines_of}
use Rattle.dv_playing.proofs.Failures.{rise_more}
use Rattle.dv_playing.specs.Playing.{Attempt, Failed, Outcome, Play, Served, begin, fared, group_here, is_empty, refused_here, replies_to, step, stepped_by, with_group_here}
use Rattle.dv_playing.proofs.Plays.{replies_go_on}
use Rattle.dv_serial.specs.declared.lines.LineEnd.{LineEnd}
use Rattle.dv_serial.specs.declared.lines.LineEnd.TheVariants as line_end
use Rattle.dv_serving.specs.Faults.{Faults, faults_between}
use Rattle.dv_serial.specs.Following.{EndsAt, Follows, Keeps, MayBeLeft, origin_of}
use Rattle.dv_serial.specs.Others.{KeepsOthers, MayTouch}
use Rattle.dv_serial.specs.Places.{GivesBetween, MayGive, play_of}
use Rattle.dv_serial.specs.Runs.{IsTried, Runs, RunsLine}
use Rattle.dv_serving.specs.Scripts.{answer_text, numbered, numbered_by, replies_text}
use Rattle.dv_serial.specs.Serves.{IsServed}
use Rattle.dv_serving.specs.Readings.{TakesUpTo}
use Rattle.dv_serial.specs.Servings.{Serving}
use Rattle.dv_serving.proofs.Counting.{failures_on, rose_more}
use Rattle.dv_serial.proofs.Crashing.{between_may, more_may}
use Rattle.dv_serving.proofs.Places.{without_group}
use Rattle.dv_serial.proofs.Stepping.{reads_none}
use Rattle.dv_serial.proofs.Turns.{IsNext, numbers_more, numbers_parts}
use Rattle.dv_shelf.specs.Sees.{SeesFolder, SeesTime}
use Rattle.dv_serving.specs.Outputs.{output_with}

-- ---- a line that was served and isn't answered

neither : (a b : Bool) → (a || b) ≡ false → a ≡ false
neither true b e = e
neither false b e = refl

module _ (clock : ℕ → ℕ) (base : ℕ) (play : Play) (a : Attempt) (is : IsAttempt base a) where
  -- it left the log as it was, or its group
  abbrev Left : Play → Type 0
  Left behind = (behind.log ≡ play.log) ⊎ ((a.outcome ≡ Served) × MayWrite play a.line)

  left_none : is_empty (group_here play a.line) ≡ true → Left (fared clock play a.line Served).play
  left_none e = inl (ap (λ (p : Play). p.log) (without_group clock play a.line e))

  left_group : (g w : Bool) → is_empty (group_here play a.line) ≡ g → is_write a.line.1 ≡ w
      → refused_here play a.line ≡ None → a.outcome ≡ Served → Left (fared clock play a.line Served).play
  left_group true w e f allowed served = left_none e
  left_group false true e f allowed served = inr (served, record { good = is.line; write = f; allowed = allowed; some = e })
  left_group false false e f allowed served =
      left_none (reads_none a.line.1 (play.states a.line.0).view play.mailbox play.log.guid f)

  left_outcome : (o : Outcome) → a.outcome ≡ o → refused_here play a.line ≡ None → Left (fared clock play a.line o).play
  left_outcome (Failed faults rotation) same allowed = inl refl
  left_outcome Served same allowed = left_group (is_empty (group_here play a.line)) (is_write a.line.1) refl refl allowed same

  left_touch : (t : Bool) → touches_disk a.line.1 ≡ t → refused_here play a.line ≡ None → Left (fared clock play a.line (if t then a.outcome else Served)).play
  left_touch true same allowed = left_outcome a.outcome refl allowed
  left_touch false same allowed =
      left_none (reads_none a.line.1 (play.states a.line.0).view play.mailbox play.log.guid (neither (is_write a.line.1) (reads_mail a.line.1) same))

  left_refusal : (r : Option Reply) → refused_here play a.line ≡ r → Left (stepped_by clock play a r).play
  left_refusal (Some refusal) same = inl refl
  left_refusal None same = left_touch (touches_disk a.line.1) refl same

  pub may_be_left : MayBeLeft clock base play a
  may_be_left = record { attempt = is; log = left_refusal (refused_here play a.line) refl }

-- where it was served its group is in the log
pub served_log : (clock : ℕ → ℕ) (play : Play) (a : Attempt) → a.outcome ≡ Served → MayWrite play a.line → (step clock play a).play.log ≡ (with_group_here clock play a.line).log
served_log clock play a served write =
    ap (λ (o : Option Reply). (stepped_by clock play a o).play.log) write.allowed ∙ ap (λ (o : Outcome). (fared clock play a.line o).play.log) (by_test (touches_disk a.line.1))
  where
    by_test : (b : Bool) → (if b then a.outcome else Served) ≡ Served
    by_test true = served
    by_test false = refl

-- ---- texts

pub no_texts : (lines : List NamedLine) → replies_text lines [] ≡ []
no_texts [] = refl
no_texts (line ∷ lines) = refl

-- the text of one line more
pub texts_more : (lines : List NamedLine) (all : List (List Reply)) (replies : List Reply) (line : NamedLine)
    → length all < length lines → line ≡ get_or lines (length all) line
    → replies_text lines (all ++ replies ∷ []) ≡ replies_text lines all ++ answer_text line replies
texts_more [] all replies line less is = absurd (omega (arith, less))
texts_more (first ∷ lines) [] replies line less is =
    ap (λ t. answer_text first replies ++ t) (no_texts lines) ∙ append-nil (answer_text first replies) ∙ ap (λ (l : NamedLine). answer_text l replies) (sym is)
texts_more (first ∷ lines) (one ∷ all) replies line less is =
    ap (λ t. answer_text first one ++ t) (texts_more lines all replies line (omega (arith, less)) is)
    ∙ sym (append_assoc (answer_text first one) (replies_text lines all) (answer_text line replies))

pub replies_length : (clock : ℕ → ℕ) (play : Play) (attempts : List Attempt) → length (replies_to clock play attempts) ≡ length attempts
replies_length clock play [] = refl
replies_length clock play (a ∷ attempts) = ap suc (replies_length clock (step clock play a).play attempts)

last_of : {X : Type 0} (P : X → Type 0) (xs : List X) (x : X) → All P (xs ++ x ∷ []) → P x
last_of P [] x all = All-head P x [] all
last_of P (y ∷ xs) x all = last_of P xs x (All-tail P y (xs ++ x ∷ []) all)

-- ---- a line that is served, and not answered

module _ {S C : Type 0} (sees : SeesFolder S)
    (ticks : SeesTime C) (clock : ℕ → ℕ) (start : Log) (base : ℕ) (faults : Faults) (attempts : List Attempt) (line : transcripts.Line) (replies : List Reply)
    (old new : Serving S C) (served : IsServed sees ticks (origin_of clock start base) faults attempts line replies old new) where
  abbrev attempt : Attempt
  attempt = record { line = line; outcome = served.outcome }

  pub served_attempt : MayBeLeft clock base (play_of clock start attempts) attempt
  served_attempt = may_be_left clock base (play_of clock start attempts) attempt (last_of (IsAttempt base) attempts attempt served.follows.may.each)

-- what holds of an error holds of the result that is it
pub of_error : (P : Result (Unit {0}) LineEnd → Type 0) (result : Result (Unit {0}) LineEnd) (e : LineEnd) → IsErr result → IsErrAnd result (λ x. x ≡ e) → P (Err e) → P result
of_error P (Ok done) e err same p = absurd cc
of_error P (Err x) e err same p = subst (λ (y : LineEnd). P (Err y)) (sym same) p

-- ---- files that stay

touch_longer : (clock : ℕ → ℕ) (start : Log) (attempts more : List Attempt) (n : Name) → MayTouch clock start attempts n → MayTouch clock start (attempts ++ more) n
touch_longer clock start attempts more n touch = record {
  front = touch.front;
  back = touch.back ++ more;
  attempt = touch.attempt;
  parts = ap (λ l. l ++ more) touch.parts ∙ append_assoc touch.front (touch.attempt ∷ touch.back) more;
  changes = touch.changes;
}

-- over some lines, and then over more
keep_both : (clock : ℕ → ℕ) (start : Log) (attempts more : List Attempt) (old mid new : Folder) → KeepsOthers clock start attempts old mid → KeepsOthers clock start (attempts ++ more) mid new
    → KeepsOthers clock start (attempts ++ more) old new
keep_both clock start attempts more old mid new first second n none =
    second n none ∙ first n (λ touch. none (touch_longer clock start attempts more n touch))

-- ---- up to a line

module _ {S C : Type 0} (sees : SeesFolder S)
    (ticks : SeesTime C) (clock : ℕ → ℕ) (start : Log) (base : ℕ) (lines : List NamedLine) (told : Type 0) (taken : List ℕ) (old : Serving S C) where
  -- so many of the lines are answered
  pub record RunsTo (faults count : ℕ) (taken_now : List ℕ) (new : Serving S C) : Type 0 where
    pub answered : List Attempt
    pub numbers : lines_of answered ≡ map (numbered_by (sessions_of lines)) (take count lines)
    pub follows : Follows sees ticks (origin_of clock start base) faults answered new
    pub since : LeavesOnly sees old.store.shelf new.store.shelf (MayGive clock start answered)
    pub settled : StaysSettled sees old.store.shelf new.store.shelf
    pub others : KeepsOthers clock start answered (sees.files old.store.shelf) (sees.files new.store.shelf)
    pub output : told → Appends taken taken_now (replies_text lines (replies_to clock (begin start) answered))

  -- the count of faults doesn't fall
  abbrev pub Counted : Serving S C → Serving S C → Type 0
  Counted mid new = (sees.fault_count old.store.shelf ≤ sees.fault_count mid.store.shelf) × (sees.fault_count mid.store.shelf ≤ sees.fault_count new.store.shelf)

  -- none is yet
  abbrev pub to_none : (faults : ℕ) → Follows sees ticks (origin_of clock start base) faults [] old
      → LeavesOnly sees old.store.shelf old.store.shelf (MayGive clock start []) → RunsTo faults 0 taken old
  to_none faults follows since = record {
    answered = [];
    numbers = refl;
    follows = follows;
    since = since;
    settled = λ stayed settled. settled;
    others = λ n none. refl;
    output = λ tells. sym (ap (λ t. taken ++ t) (no_texts lines) ∙ append-nil taken);
  }

  -- behind the last one
  abbrev pub to_done : (faults count : ℕ) (taken_now : List ℕ) (new : Serving S C) (done : Unit {0}) → length lines ≤ count → RunsTo faults count taken_now new
      → Runs sees ticks (origin_of clock start base) faults lines (Ok done) (output_with told taken taken_now) old new
  to_done faults count taken_now new done all so_far = record {
    answered = so_far.answered;
    left = [];
    rest = [];
    parts = sym (append-nil (lines_of so_far.answered) ∙ so_far.numbers ∙ ap (map (numbered_by (sessions_of lines))) (take_all count lines all));
    may = so_far.follows.may;
    ends = (refl, refl);
    failures = subst (λ (all : List Attempt). RiseFrom base (failures_of all) faults) (sym (append-nil so_far.answered)) so_far.follows.failures;
    keeps = subst (λ (all : List Attempt). Keeps sees clock start all new) (sym (append-nil so_far.answered)) so_far.follows.keeps;
    since = subst (λ (all : List Attempt). LeavesOnly sees old.store.shelf new.store.shelf (MayGive clock start all)) (sym (append-nil so_far.answered)) so_far.since;
    settled = so_far.settled;
    others = subst (λ (all : List Attempt). KeepsOthers clock start all (sees.files old.store.shelf) (sees.files new.store.shelf)) (sym (append-nil so_far.answered)) so_far.others;
    readings = so_far.follows.readings;
    output = so_far.output;
  }

  -- ---- one line more

  module _ (before faults count session : ℕ) (line : NamedLine) (taken_then taken_now : List ℕ) (mid new : Serving S C)
      (next : IsNext lines count session line) (so_far : RunsTo before count taken_then mid) where
    abbrev pub answered : List Attempt
    answered = so_far.answered

    abbrev pub behind_lines : List transcripts.Line
    behind_lines = (session, line.1) ∷ map (numbered_by (sessions_of lines)) (drop (count + 1) lines)

    pub all_lines : numbered lines ≡ lines_of answered ++ behind_lines
    all_lines = numbers_parts lines count session line next ∙ ap (λ ls. ls ++ behind_lines) (sym so_far.numbers)

    pub answered_length : length answered ≡ count
    answered_length =
        sym (length-map answered (λ (a : Attempt). a.line)) ∙ ap length so_far.numbers
        ∙ length-map (take count lines) (numbered_by (sessions_of lines)) ∙ length-take-le count lines (omega (arith, next.less))

    pub replied : length (replies_to clock (begin start) answered) ≡ count
    replied = replies_length clock (begin start) answered ∙ answered_length

    pub may_later : before ≤ faults → MayPlay clock start base faults answered
    may_later later = record {
      sound = so_far.follows.may.sound;
      new = so_far.follows.may.new;
      each = so_far.follows.may.each;
      few = rose_more (unavailable_count (replies_to clock (begin start) answered)) base before faults so_far.follows.may.few later;
    }

    pub since_both : (more : List Attempt) → LeavesOnly sees mid.store.shelf new.store.shelf (GivesBetween clock start answered (answered ++ more))
        → LeavesOnly sees old.store.shelf new.store.shelf (MayGive clock start (answered ++ more))
    since_both more since =
        joined sees old.store.shelf mid.store.shelf new.store.shelf (MayGive clock start (answered ++ more))
        (more_may sees old.store.shelf mid.store.shelf clock start answered more so_far.since)
        (weaker sees mid.store.shelf new.store.shelf (GivesBetween clock start answered (answered ++ more)) (MayGive clock start (answered ++ more)) since (λ c. between_may clock start answered more c))

    pub settled_both : Counted mid new → StaysSettled sees mid.store.shelf new.store.shelf → StaysSettled sees old.store.shelf new.store.shelf
    settled_both counted one = settled_then sees old.store.shelf mid.store.shelf new.store.shelf counted.0 counted.1 so_far.settled one

    pub others_both : (more : List Attempt) → KeepsOthers clock start (answered ++ more) (sees.files mid.store.shelf) (sees.files new.store.shelf) → KeepsOthers clock start (answered ++ more) (sees.files old.store.shelf) (sees.files new.store.shelf)
    others_both more others = keep_both clock start answered more (sees.files old.store.shelf) (sees.files mid.store.shelf) (sees.files new.store.shelf) so_far.others others

    -- memory ended it
    abbrev pub to_ended : EndsAt sees (origin_of clock start base) (faults_between before faults) answered (session, line.1) mid new → (told → taken_now ≡ taken_then) → before ≤ faults → Counted mid new
        → Runs sees ticks (origin_of clock start base) faults lines (Err line_end.NoMemory) (output_with told taken taken_now) old new
    to_ended ends none later counted = record {
      answered = answered;
      left = ends.left;
      rest = behind_lines;
      parts = all_lines;
      may = may_later later;
      ends = ends.is;
      failures = failures_on base answered ends.left (faults_between before faults) so_far.follows.failures ends.failures;
      keeps = ends.leaves.keeps;
      since = since_both ends.left ends.leaves.since;
      settled = settled_both counted ends.leaves.settled;
      others = others_both ends.left ends.others;
      readings = λ reads. tt;
      output = λ tells. none tells ∙ so_far.output tells;
    }

    -- memory ended the run before it was begun
    abbrev pub to_unbegun : before ≤ faults → Runs sees ticks (origin_of clock start base) faults lines (Err line_end.NoMemory) (output_with told taken taken_then) old mid
    to_unbegun later = record {
      answered = answered;
      left = [];
      rest = behind_lines;
      parts = all_lines;
      may = may_later later;
      ends = tt;
      failures = subst (λ (all : List Attempt). RiseFrom base (failures_of all) faults) (sym (append-nil answered)) (rise_more base before faults (failures_of answered) so_far.follows.failures later);
      keeps = subst (λ (all : List Attempt). Keeps sees clock start all mid) (sym (append-nil answered)) so_far.follows.keeps;
      since = subst (λ (all : List Attempt). LeavesOnly sees old.store.shelf mid.store.shelf (MayGive clock start all)) (sym (append-nil answered)) so_far.since;
      settled = so_far.settled;
      others = subst (λ (all : List Attempt). KeepsOthers clock start all (sees.files old.store.shelf) (sees.files mid.store.shelf)) (sym (append-nil answered)) so_far.others;
      readings = λ reads. tt;
      output = so_far.output;
    }

    -- it was served
    module _ (replies : List Reply) (served : IsServed sees ticks (origin_of clock start base) (faults_between before faults) answered (session, line.1) replies mid new) where
      abbrev pub one : Attempt
      one = record { line = (session, line.1); outcome = served.outcome }

      -- and answered
      abbrev pub to_more : (told → Appends taken_then taken_now (answer_text line replies)) → Counted mid new → RunsTo faults (count + 1) taken_now new
      to_more output counted = record {
        answered = answered ++ one ∷ [];
        numbers = map-append (λ (a : Attempt). a.line) answered (one ∷ []) ∙ ap (λ ls. ls ++ (session, line.1) ∷ []) so_far.numbers ∙ sym (numbers_more lines count session line next);
        follows = served.follows;
        since = since_both (one ∷ []) served.since;
        settled = settled_both counted served.settled;
        others = others_both (one ∷ []) served.others;
        output = λ tells. output tells ∙ ap (λ t. t ++ answer_text line replies) (so_far.output tells) ∙ append_assoc taken (replies_text lines (replies_to clock (begin start) answered)) (answer_text line replies) ∙ ap (λ t. taken ++ t) (sym text);
      }
        where
          text : replies_text lines (replies_to clock (begin start) (answered ++ one ∷ [])) ≡ replies_text lines (replies_to clock (begin start) answered) ++ answer_text line replies
          text =
              ap (replies_text lines) (replies_go_on clock (begin start) answered one)
              ∙ texts_more lines (replies_to clock (begin start) answered) (step clock (play_of clock start answered) one).replies line (omega (arith, replied, next.less)) (next.is ∙ ap (λ n. get_or lines n line) (sym replied))
              ∙ ap (λ (rs : List Reply). replies_text lines (replies_to clock (begin start) answered) ++ answer_text line rs) served.answers

      -- or the output failed
      abbrev pub to_failed : (n : ℕ) → (told → AppendsFront taken_then taken_now (answer_text line replies)) → before ≤ faults → Counted mid new
          → Runs sees ticks (origin_of clock start base) faults lines (Err (line_end.Sink n)) (output_with told taken taken_now) old new
      to_failed n output later counted = record {
        answered = answered;
        left = one ∷ [];
        rest = behind_lines;
        parts = all_lines;
        may = may_later later;
        ends = (refl, served_attempt sees ticks clock start base (faults_between before faults) answered (session, line.1) replies mid new served);
        failures = served.follows.failures;
        keeps = served.follows.keeps;
        since = since_both (one ∷ []) served.since;
        settled = settled_both counted served.settled;
        others = others_both (one ∷ []) served.others;
        readings = λ reads. tt;
        output = λ tells. (answer_text line (step clock (play_of clock start answered) one).replies, tried, front tells);
      }
        where
          dropped : drop (length answered) lines ≡ line ∷ drop (count + 1) lines
          dropped = ap (λ n. drop n lines) answered_length ∙ drop_more lines count line next.less ∙ ap (λ (l : NamedLine). l ∷ drop (count + 1) lines) (sym next.is)

          tried : IsTried clock start answered (one ∷ []) (drop (length answered) lines) (answer_text line (step clock (play_of clock start answered) one).replies)
          tried = subst (λ ls. IsTried clock start answered (one ∷ []) ls (answer_text line (step clock (play_of clock start answered) one).replies)) (sym dropped) refl

          front : told → AppendsFront (taken ++ replies_text lines (replies_to clock (begin start) answered)) taken_now (answer_text line (step clock (play_of clock start answered) one).replies)
          front tells =
              subst (λ (rs : List Reply). AppendsFront (taken ++ replies_text lines (replies_to clock (begin start) answered)) taken_now (answer_text line rs)) (sym served.answers)
              (subst (λ t. AppendsFront t taken_now (answer_text line replies)) (so_far.output tells) (output tells))

  -- what becomes of the next line

  module _ (before faults count session : ℕ) (line : NamedLine) (taken_then taken_now : List ℕ) (mid new : Serving S C)
      (next : IsNext lines count session line) (so_far : RunsTo before count taken_then mid) (later : before ≤ faults) (counted : Counted mid new) where
    -- the run goes on
    abbrev pub goes_on : (done : Unit {0}) → RunsLine sees ticks (origin_of clock start base) (faults_between before faults) so_far.answered (record { session = session; line = line }) (Ok done) (output_with told taken_then taken_now) mid new
        → RunsTo faults (count + 1) taken_now new
    goes_on done one = to_more before faults count session line taken_then taken_now mid new next so_far one.replies one.served one.output counted

    -- or ends
    abbrev pub stops : (e : LineEnd) → RunsLine sees ticks (origin_of clock start base) (faults_between before faults) so_far.answered (record { session = session; line = line }) (Err e) (output_with told taken_then taken_now) mid new
        → Runs sees ticks (origin_of clock start base) faults lines (Err e) (output_with told taken taken_now) old new
    stops line_end.NoMemory one = to_ended before faults count session line taken_then taken_now mid new next so_far one.0 one.1 later counted
    stops (line_end.Sink n) one = to_failed before faults count session line taken_then taken_now mid new next so_far one.replies one.served n one.output later counted
