-- Lines are served from where a run begins.
use Rattle.std.proofs.Common.{◌≡◌, ◌⊎◌, ⊎_elim, inl, inr, ℕ, ◌+◌, ◌≤◌, ◌<◌, List, [], ◌∷◌, ◌++◌, append-nil, length, Option, Result, Ok, Err, refl, sym, ◌∙◌, ap, subst, arith}
use Rattle.std.specs.Prelude.{replicate}
use Rattle.std.proofs.lemmas.List.{get_or-replicate, length-replicate}
use Rattle.std.proofs.lemmas.List.Elements.{All-nil, All-replicate}
use Rattle.dv_model.specs.declared.types.Mailbox.{Mailbox}
use Rattle.dv_model.specs.declared.types.Mark.{Mark}
use Rattle.dv_model.specs.declared.types.Reply.{Reply}
use Rattle.dv_model.specs.Journals.{Log}
use Rattle.dv_model.specs.Sessions.{new_session}
use Rattle.dv_model.specs.Transcripts.{Line, Serial}
use Rattle.dv_shelf.specs.Causes.{Stayed}
use Rattle.dv_shelf.specs.Clocks.{behind}
use Rattle.dv_shelf.specs.Crashes.{LeavesOnly}
use Rattle.dv_shelf.specs.Folders.{Folder}
use Rattle.dv_shelf.proofs.Moments.{joined, weaker}
use Rattle.dv_formats.specs.Scripts.{NamedLine}
use Rattle.dv_writing.specs.Debts.{Nothing}
use Rattle.dv_answer.specs.Following.{Follower, IsAbreast, new_follower}
use Rattle.dv_playing.specs.Laws.{IsAttempt, MayPlay, MayWrite, RiseFrom, failure_of, failures_of, lines_of}
use Rattle.dv_playing.proofs.Failures.{failures_append, rose_over}
use Rattle.dv_playing.specs.Playing.{Attempt, Outcome, Play, Served, begin, replies_to, step, with_group_here}
use Rattle.dv_playing.proofs.Plays.{goes_on, leaves, serial}
use Rattle.dv_store.specs.States.{State}
use Rattle.dv_serial.specs.declared.lines.LineEnd.{LineEnd}
use Rattle.dv_serial.specs.declared.lines.LineEnd.TheVariants as line_end
use Rattle.dv_serial.specs.Following.{AreSeated, Follows, IsLeft, Keeps, MayBeLeft, origin_of}
use Rattle.dv_cli.proofs.Leaving.{leaves_next}
use Rattle.dv_serial.specs.Places.{GivesBehind, MayGive, play_of}
use Rattle.dv_serving.specs.Places.{GivesPlay}
use Rattle.dv_serial.specs.Runs.{EndsWith, HasRead, IsCaused, Runs, Writes}
use Rattle.dv_serving.specs.Scripts.{numbered}
use Rattle.dv_serial.specs.Servings.{Serving, serving_over}
use Rattle.dv_serial.proofs.Crashing.{keeps_behind, longer_may, stays_may}
use Rattle.dv_serial.proofs.Running.{served_log}
use Rattle.dv_clients.proofs.Clients.{serial_alike, serial_numbers}
use Rattle.dv_cli.specs.declared.ending.End.{End}
use Rattle.dv_cli.specs.declared.ending.End.TheVariants as end
use Rattle.dv_beginning.specs.Begins.{IsBegun}
use Rattle.dv_cli.specs.declared.words.Load.{Load}
use Rattle.dv_cli.specs.declared.ending.Loaded.{Loaded}
use Rattle.dv_cli.specs.Behind.{end_behind, loaded_by}
use Rattle.dv_cli.specs.Causes.{EndCause, EndsServing}
use Rattle.dv_cli.specs.Runs.{ClientsKnow, EndsAt, IsAnswered, NoneFailed, OpensFirst, ServesLines, UnlessUnopened, WritesLines}
use Rattle.dv_beginning.specs.Leaving.{MayLeave}
use Rattle.dv_cli.specs.Spans.{Times, times_with}
use Rattle.dv_serving.specs.Faults.{Faults}
use Rattle.dv_serving.specs.Readings.{AreReadings, AtReadings}
use Rattle.dv_serving.proofs.Readings.{alike_back, readings_then, then_alike, then_behind, then_small, then_told}
use Rattle.dv_beginning.proofs.Alike.{begun_alike}
use Rattle.dv_beginning.proofs.Starting.{IsBare, behind_both, behind_none, start_bare}
use Rattle.dv_shelf.specs.Sees.{SeesFolder, SeesTime}
use Rattle.dv_serving.specs.Outputs.{Output, output_with}

-- ---- the first line that wasn't answered

-- what holds of the log from before, and of that with its group, holds behind it
left_log : (clock : ℕ → ℕ) (base : ℕ) (play : Play) (a : Attempt) (P : Log → Type 0) (whole : Play) → MayBeLeft clock base play a → whole ≡ (step clock play a).play → P play.log → (MayWrite play a.line → P (with_group_here clock play a.line).log) → P whole.log
left_log clock base play a P whole left last stays written = subst (λ (p : Play). P p.log) (sym last) (by_way left.log)
  where
    by_way : ((step clock play a).play.log ≡ play.log) ⊎ ((a.outcome ≡ Served) × MayWrite play a.line) → P (step clock play a).play.log
    by_way (inl same) = subst P (sym same) stays
    by_way (inr wrote) = subst P (sym (served_log clock play a wrote.0 wrote.1)) (written wrote.1)

-- none, or the first of the rest
abbrev IsFirst : (ℕ → ℕ) → ℕ → Play → List Attempt → List Line → Type 0
IsFirst clock base play left rest = (left ≡ []) ⊎ ((line : Line) × (behind : List Line) × (rest ≡ line ∷ behind) × IsLeft clock base play line left)

module _ (clock : ℕ → ℕ) (start : Log) (base faults : ℕ) (answered : List Attempt) (may : MayPlay clock start base faults answered) where
  abbrev here : Play
  here = play_of clock start answered

  abbrev replies : List (List Reply)
  replies = replies_to clock (begin start) answered

  abbrev IsRun : Log → List Line → Type 0
  IsRun log rest = Serial log base faults (lines_of answered ++ rest) replies

  none_left : (rest : List Line) → IsRun (play_of clock start (answered ++ [])).log rest
  none_left rest = subst (λ (these : List Attempt). IsRun (play_of clock start these).log rest) (sym (append-nil answered)) (serial clock start base faults answered may rest)

  one_left : (a : Attempt) (line : Line) (behind : List Line) → a.line ≡ line → MayBeLeft clock base here a → IsRun (play_of clock start (answered ++ a ∷ [])).log (line ∷ behind)
  one_left a line behind is left =
      left_log clock base here a (λ log. IsRun log (line ∷ behind)) (play_of clock start (answered ++ a ∷ [])) left (goes_on clock (begin start) answered a) (serial clock start base faults answered may (line ∷ behind))
      (λ write. subst (λ (l : Line). IsRun (with_group_here clock here a.line).log (l ∷ behind)) is (leaves clock start base faults answered may a.line behind write))

  first_left : (left : List Attempt) (line : Line) (behind : List Line) → IsLeft clock base here line left → IsRun (play_of clock start (answered ++ left)).log (line ∷ behind)
  first_left [] line behind is = none_left (line ∷ behind)
  first_left (a ∷ []) line behind is = one_left a line behind is.0 is.1
  first_left (a ∷ b ∷ more) line behind is = absurd is

  pub serial_left : (left : List Attempt) (rest : List Line) → IsFirst clock base here left rest → IsRun (play_of clock start (answered ++ left)).log rest
  serial_left left rest =
      ⊎_elim (λ none. subst (λ (these : List Attempt). IsRun (play_of clock start (answered ++ these)).log rest) (sym none) (none_left rest))
      (λ first. subst (IsRun (play_of clock start (answered ++ left)).log) (sym first.2) (first_left left first.0 first.1 first.3))

-- ---- what clients know

clients_know : (log : Log) (base faults : ℕ) (lines : List Line) (replies : List (List Reply)) → Serial log base faults lines replies → ClientsKnow lines replies
clients_know log base faults lines replies serial = record {
  alike = λ one other. serial_alike log base faults lines replies one other serial;
  numbers = λ session. serial_numbers log base faults lines replies session serial;
}

-- ---- where no count rose

-- none failed
pub no_failures : (base faults : ℕ) (ns : List ℕ) → RiseFrom base ns faults → Stayed base faults → ns ≡ []
no_failures base faults [] rise stayed = refl
no_failures base faults (n ∷ ns) rise stayed = absurd (stayed (rose_over base faults n ns rise))

-- so no group is one that the disk failed
given_whole : (clock : ℕ → ℕ) (start : Log) (attempts : List Attempt) (c : Folder) → failures_of attempts ≡ [] → GivesBehind clock start attempts c → GivesPlay (play_of clock start attempts) c
given_whole clock start attempts c none (inl gives) = gives
given_whole clock start attempts c none (inr with) =
    let last = with.2 in
    let parts : failures_of last.front ++ (failure_of with.1.outcome ++ failures_of last.back) ≡ [] =
    sym (failures_append last.front (with.1 ∷ last.back)) ∙ ap failures_of (sym last.lines) ∙ none in
    absurd (none_there (failures_of last.front) last.failed.faults (failures_of last.back)
    (ap (λ (o : Outcome). failures_of last.front ++ (failure_of o ++ failures_of last.back)) (sym last.failed.outcome) ∙ parts))
  where
    none_there : (ns : List ℕ) (n : ℕ) (ms : List ℕ) → ns ++ (n ∷ ms) ≡ [] → ⊥
    none_there [] n ms is = absurd cc
    none_there (m ∷ ns) n ms is = absurd cc

none_failed : {S : Type 0} (sees : SeesFolder S) (clock : ℕ → ℕ) (start : Log) (attempts : List Attempt) (base faults : ℕ) (new : S) → RiseFrom base (failures_of attempts) faults → Stayed base faults
    → sees.may_leave new (sees.files new) → ((c : Folder) → sees.may_leave new c → GivesBehind clock start attempts c) → NoneFailed sees clock start attempts new
none_failed sees clock start attempts base faults new rise stayed there kept =
    let none = no_failures base faults (failures_of attempts) rise stayed in
    record {
      failures = none;
      folder = given_whole clock start attempts (sees.files new) none (kept (sees.files new) there);
      after = λ c left. given_whole clock start attempts c none (kept c left);
    }

-- ---- ends

first_of : (clock : ℕ → ℕ) (base : ℕ) (start : Log) (answered left : List Attempt) (rest : List Line) (result : Result (Unit {0}) LineEnd) → EndsWith clock base start answered left rest result → IsFirst clock base (play_of clock start answered) left rest
first_of clock base start answered left rest (Ok done) ends = inl ends.1
first_of clock base start answered left [] (Err e) ends = absurd ends
first_of clock base start answered left (line ∷ behind) (Err e) ends = inr (line, behind, refl, ends)

ends_at : (clock : ℕ → ℕ) (base : ℕ) (start : Log) (load : Option Load) (answered left : List Attempt) (rest : List Line) (result : Result (Unit {0}) LineEnd) (mark : Mark) (groups : ℕ) (m : Mailbox) → (play_of clock start (answered ++ left)).mark ≡ mark → length (play_of clock start (answered ++ left)).log.entries ≡ groups
    → (play_of clock start (answered ++ left)).mailbox ≡ m → EndsWith clock base start answered left rest result → EndsAt load (end_behind result mark groups (loaded_by load m)) clock base start answered left rest
ends_at clock base start load answered left rest (Ok done) mark groups m at count same ends =
    let all : answered ++ left ≡ answered = ap (λ (these : List Attempt). answered ++ these) ends.1 ∙ append-nil answered in (
      ends.0,
      ends.1,
      sym at ∙ ap (λ (these : List Attempt). (play_of clock start these).mark) all,
      sym count ∙ ap (λ (these : List Attempt). length (play_of clock start these).log.entries) all,
      ap (loaded_by load) (sym same ∙ ap (λ (these : List Attempt). (play_of clock start these).mailbox) all),
    )
ends_at clock base start load answered left [] (Err e) mark groups m at count same ends = absurd ends
ends_at clock base start load answered left (line ∷ behind) (Err line_end.NoMemory) mark groups m at count same ends = ends
ends_at clock base start load answered left (line ∷ behind) (Err (line_end.Sink faults)) mark groups m at count same ends = ends

writes_lines : (clock : ℕ → ℕ) (start : Log) (answered left : List Attempt) (lines : List NamedLine) (result : Result (Unit {0}) LineEnd) (mark : Mark) (groups : ℕ) (loaded : Option Loaded) (old new : List ℕ) → Writes clock start answered left lines result old new
    → WritesLines (end_behind result mark groups loaded) clock start answered left lines old new
writes_lines clock start answered left lines (Ok done) mark groups loaded old new writes = writes
writes_lines clock start answered left lines (Err line_end.NoMemory) mark groups loaded old new writes = writes
writes_lines clock start answered left lines (Err (line_end.Sink faults)) mark groups loaded old new writes = writes

has_read : (clock : ℕ → ℕ) (used more : ℕ) (upcoming : ℕ → ℕ) (result : Result (Unit {0}) LineEnd) (mark : Mark) (groups : ℕ) (loaded : Option Loaded) → HasRead (behind clock used) more upcoming result → IsAnswered (end_behind result mark groups loaded) → upcoming ≡ behind clock (used + more)
has_read clock used more upcoming (Ok done) mark groups loaded read answered = read ∙ behind_both clock used more
has_read clock used more upcoming (Err line_end.NoMemory) mark groups loaded read answered = absurd answered
has_read clock used more upcoming (Err (line_end.Sink faults)) mark groups loaded read answered = absurd answered

pub ends_serving : (result : Result (Unit {0}) LineEnd) (mark : Mark) (groups : ℕ) (loaded : Option Loaded) → EndsServing (end_behind result mark groups loaded)
ends_serving (Ok done) mark groups loaded = tt
ends_serving (Err line_end.NoMemory) mark groups loaded = tt
ends_serving (Err (line_end.Sink faults)) mark groups loaded = tt

pub end_cause : (result : Result (Unit {0}) LineEnd) (mark : Mark) (groups : ℕ) (loaded : Option Loaded) (shelf shelf_now out out_now : ℕ) → (shelf ≤ shelf_now) × (out ≤ out_now) → IsCaused out out_now result → EndCause shelf shelf_now out out_now (end_behind result mark groups loaded)
end_cause (Ok done) mark groups loaded shelf shelf_now out out_now later cause = record { later = later; cause = tt }
end_cause (Err line_end.NoMemory) mark groups loaded shelf shelf_now out out_now later cause = record { later = later; cause = tt }
end_cause (Err (line_end.Sink faults)) mark groups loaded shelf shelf_now out out_now later cause = record { later = later; cause = cause.0 }

-- ---- from a store from which a run begins

module _ {S C : Type 0} (sees : SeesFolder S) (ticks : SeesTime C) (clock : ℕ → ℕ) (old : S) (store : State S C)
    (begun : IsBegun sees ticks clock old store) (base : ℕ) (load : Option Load) where
  abbrev start : Log
  start = begun.start

  abbrev time : ℕ → ℕ
  time = behind clock begun.used

  bare : IsBare start
  bare = start_bare clock (sees.files old) start begun.used begun.starts

  keeps_start : (seats : List Follower) → Keeps sees time start [] (serving_over store seats)
  keeps_start seats = record {
    at = record { rotates = bare.rotates; groups = ap length bare.entries; mailbox = begun.mailbox; mark = begun.place ∙ sym begun.mark; place = (sym begun.place, begun.owed) };
    debt = Nothing;
    owed = tt;
    rests = begun.rests;
  }

  may_start : (faults : ℕ) → base ≤ faults → MayPlay time start base faults []
  may_start faults later = record { sound = begun.sound; new = bare.entries; each = All-nil (IsAttempt base); few = omega (arith, later) }

  seated : (n : ℕ) (seats : List Follower) → seats ≡ replicate n new_follower → AreSeated store.chain.live.mailbox (λ s. new_session) seats
  seated n seats is = subst (AreSeated store.chain.live.mailbox (λ s. new_session)) (sym is) (record {
    abreast = All-replicate (IsAbreast store.chain.live.mailbox) n new_follower (λ selected. absurd cc);
    states = λ k f lt. ap (λ (g : Follower). g.state) (get_or-replicate n k new_follower f (fewer k lt));
  })
    where
      fewer : (k : ℕ) → k < length (replicate n new_follower) → k < n
      fewer k lt = subst (λ (m : ℕ). k < m) (length-replicate n new_follower) lt

  -- new sessions follow the play that is to come
  pub follows_start : AreReadings clock → (n : ℕ) (seats : List Follower) (faults : ℕ) → base ≤ faults → seats ≡ replicate n new_follower → Follows sees ticks (origin_of time start base) faults [] (serving_over store seats)
  follows_start small n seats faults later is = record {
    may = may_start faults later;
    failures = later;
    keeps = keeps_start seats;
    small = λ k. small (begun.used + k);
    readings = λ reads. begun.readings reads ∙ behind_none time;
    seats = seated n seats is;
  }

  -- what a crash leaves before the first line
  start_kept : (c : Folder) → sees.may_leave store.shelf c → GivesBehind time start [] c
  start_kept c left = keeps_behind sees time start [] (serving_over store []) (keeps_start []) c left

  -- it may leave among them
  longer_leave : (attempts : List Attempt) (c : Folder) → MayLeave time start [] (sees.files old) c → MayLeave time start attempts (sees.files old) c
  longer_leave attempts c = ⊎_elim inl (λ may. inr (longer_may time start [] c attempts may))

  -- ---- the lines were served

  module _ (faults : ℕ) (lines : List NamedLine) (told : Type 0) (taken taken_now : List ℕ) (seats : List Follower) (result : Result (Unit {0}) LineEnd) (new : Serving S C)
      (runs : Runs sees ticks (origin_of time start base) faults lines result (output_with told taken taken_now) (serving_over store seats) new)
      (there : sees.may_leave new.store.shelf (sees.files new.store.shelf)) (stays : Stayed base faults → Stayed (sees.fault_count store.shelf) (sees.fault_count new.store.shelf)) where
    abbrev all : List Attempt
    all = runs.answered ++ runs.left

    abbrev how : End
    how = end_behind result new.store.mark new.groups (loaded_by load new.store.chain.live.mailbox)

    kept : (c : Folder) → sees.may_leave new.store.shelf c → GivesBehind time start all c
    kept c left = keeps_behind sees time start all new runs.keeps c left

    opens : OpensFirst sees time start all old new.store.shelf
    opens = record { opened = store.shelf; before = begun.since; there = start_kept; since = runs.since }

    whole_serial : Serial (play_of time start all).log base faults (numbered lines) (replies_to time (begin start) runs.answered)
    whole_serial = subst (λ (ls : List Line). Serial (play_of time start all).log base faults ls (replies_to time (begin start) runs.answered)) (sym runs.parts)
        (serial_left time start base faults runs.answered runs.may runs.left runs.rest (first_of time base start runs.answered runs.left runs.rest result runs.ends))

    pub serves_lines : ServesLines sees (times_with ticks.tells clock (ticks.upcoming new.store.clock)) (record { before = base; now = faults }) load lines how (output_with told taken taken_now) old new.store.shelf
    serves_lines =
        let crash : LeavesOnly sees old new.store.shelf (MayLeave time start all (sees.files old)) =
        joined sees old store.shelf new.store.shelf (MayLeave time start all (sees.files old))
        (weaker sees old store.shelf (MayLeave time start [] (sees.files old)) (MayLeave time start all (sees.files old)) begun.since (longer_leave all))
        (weaker sees store.shelf new.store.shelf (MayGive time start all) (MayLeave time start all (sees.files old)) runs.since (λ c may. inr may)) in
        record {
          start = start;
          used = begun.used;
          starts = begun.starts;
          answered = runs.answered;
          left = runs.left;
          rest = runs.rest;
          parts = runs.parts;
          ends = ends_at time base start load runs.answered runs.left runs.rest result new.store.mark new.groups new.store.chain.live.mailbox runs.keeps.at.mark runs.keeps.at.groups runs.keeps.at.mailbox runs.ends;
          serial = whole_serial;
          clients = clients_know (play_of time start all).log base faults (numbered lines) (replies_to time (begin start) runs.answered) whole_serial;
          may = runs.may;
          failures = runs.failures;
          whole = λ stayed. none_failed sees time start all base faults new.store.shelf runs.failures stayed there kept;
          output = λ tells. writes_lines time start runs.answered runs.left lines result new.store.mark new.groups (loaded_by load new.store.chain.live.mailbox) taken taken_now (runs.output tells);
          readings = λ timed. has_read clock begun.used (play_of time start runs.answered).used (ticks.upcoming new.store.clock) result new.store.mark new.groups (loaded_by load new.store.chain.live.mailbox) (runs.readings timed);
          others = λ n other none. runs.others n none ∙ begun.others n other;
          folder = kept (sees.files new.store.shelf) there;
          after = kept;
          crash = crash;
          opens = opens;
          next = leaves_next sees time start all old new.store.shelf there kept crash;
          settled = λ stayed. runs.settled (stays stayed) begun.settled;
        }

    -- what holds of these lines holds of those that it tells
    pub serves_with : (P : ℕ → Log → List Attempt → List Attempt → Type 0) → P begun.used start runs.answered runs.left
        → P serves_lines.used serves_lines.start serves_lines.answered serves_lines.left
    unfolding serves_lines
    serves_with P holds = holds

  -- ---- no line was

  module _ (faults : ℕ) (later : base ≤ faults) (lines : List NamedLine) (told : Type 0) (taken : List ℕ) (there : sees.may_leave store.shelf (sees.files store.shelf))
      (now : (c : Folder) → sees.left_since store.shelf (sees.moment store.shelf) c → sees.may_leave store.shelf c) where
    none_serial : Serial start base faults (numbered lines) []
    none_serial = serial time start base faults [] (may_start faults later) (numbered lines)

    none_ends : (rest : List Line) → EndsAt load end.NoMemory time base start [] [] rest
    none_ends [] = refl
    none_ends (line ∷ rest) = tt

    pub serves_none : ServesLines sees (times_with ticks.tells clock (ticks.upcoming store.clock)) (record { before = base; now = faults }) load lines end.NoMemory (output_with told taken taken) old store.shelf
    serves_none = record {
      start = start;
      used = begun.used;
      starts = begun.starts;
      answered = [];
      left = [];
      rest = numbered lines;
      parts = refl;
      ends = none_ends (numbered lines);
      serial = none_serial;
      clients = clients_know start base faults (numbered lines) [] none_serial;
      may = may_start faults later;
      failures = later;
      whole = λ stayed. none_failed sees time start [] base faults store.shelf later stayed there start_kept;
      output = λ tells. sym (append-nil taken);
      readings = λ timed answered. absurd answered;
      others = λ n other none. begun.others n other;
      folder = start_kept (sees.files store.shelf) there;
      after = start_kept;
      crash = begun.since;
      opens = record {
        opened = store.shelf;
        before = begun.since;
        there = start_kept;
        since = stays_may sees time start [] (serving_over store []) (keeps_start []) now;
      };
      next = leaves_next sees time start [] old store.shelf there start_kept begun.since;
      settled = λ stayed. begun.settled;
    }

    -- what holds of none holds of those that it tells
    pub none_with : (P : ℕ → Log → List Attempt → List Attempt → Type 0) → P begun.used start [] []
        → P serves_none.used serves_none.start serves_none.answered serves_none.left
    unfolding serves_none
    none_with P holds = holds

-- ---- the play begins with new sessions

module _ {S C : Type 0} (sees : SeesFolder S) (ticks : SeesTime C) (clock : ℕ → ℕ) (old : S) (store : State S C)
    (begun : IsBegun sees ticks clock old store) (base : ℕ) (load : Option Load) (small : AreReadings clock) (counts : S → ℕ) (later : base ≤ counts store.shelf) (faults : ℕ) (lines : List NamedLine) (told : Type 0)
    (taken taken_now : List ℕ) (n : ℕ) (seats : List Follower) (result : Result (Unit {0}) LineEnd) (serial new : Serving S C) where
  abbrev lines_clock : ℕ → ℕ
  lines_clock = behind clock begun.used

  -- a run of the lines at these readings
  abbrev RunsAt : Serving S C → (ℕ → ℕ) → Type 0
  RunsAt from now = Runs sees ticks (origin_of now begun.start base) faults lines result (output_with told taken taken_now) from new

  -- the readings until the first line, and then those of the lines
  pub serves_all : seats ≡ replicate n new_follower → serial ≡ serving_over store seats
      → (Follows sees ticks (origin_of lines_clock begun.start base) (counts serial.store.shelf) [] serial → AtReadings ticks.tells lines_clock (RunsAt serial))
      → sees.may_leave new.store.shelf (sees.files new.store.shelf) → (Stayed base faults → Stayed (sees.fault_count store.shelf) (sees.fault_count new.store.shelf))
      → AtReadings ticks.tells clock (λ (readings : ℕ → ℕ).
      ServesLines sees (times_with ticks.tells readings (ticks.upcoming new.store.clock)) (record { before = base; now = faults }) load lines (end_behind result new.store.mark new.groups (loaded_by load new.store.chain.live.mailbox))
      (output_with told taken taken_now) old new.store.shelf)
  serves_all is over run there stays =
      let follows : Follows sees ticks (origin_of lines_clock begun.start base) (counts serial.store.shelf) [] serial =
      subst (λ (s : Serving S C). Follows sees ticks (origin_of lines_clock begun.start base) (counts s.store.shelf) [] s) (sym over)
      (follows_start sees ticks clock old store begun base load small n seats (counts store.shelf) later is) in
      let dated = run follows in
      let all : ℕ → ℕ = readings_then clock begun.used dated.clock in
      let known : ticks.tells → (k : ℕ) → all k ≡ clock k = λ reads. then_told clock begun.used dated.clock (dated.told reads) in
      record {
        clock = all;
        small = then_small clock begun.used dated.clock small dated.small;
        told = known;
        holds = serves_lines sees ticks all old store
            (begun_alike sees ticks clock all old store begun (alike_back begun.used all clock (then_alike clock begun.used dated.clock)) known)
            base load faults lines told taken taken_now seats result new
            (subst (RunsAt (serving_over store seats)) (sym (then_behind clock begun.used dated.clock)) (subst (λ (s : Serving S C). RunsAt s dated.clock) over dated.holds))
            there stays;
      }

-- ---- a run over a folder

module _ {S : Type 0} (sees : SeesFolder S) (times : Times) (Serves : End → Type 0) (output : Output) (old new : S) where
  pub runs_serving : (e : End) → EndsServing e → Serves e → UnlessUnopened sees times Serves e output old new
  runs_serving (end.Answered mark groups loaded) serving serves = serves
  runs_serving (end.Rebuilt kept skipped) serving serves = absurd serving
  runs_serving end.Usage serving serves = absurd serving
  runs_serving (end.Unopened f) serving serves = absurd serving
  runs_serving end.NoMemory serving serves = serves
  runs_serving (end.Script fault) serving serves = absurd serving
  runs_serving (end.Source faulted) serving serves = absurd serving
  runs_serving end.Sink serving serves = serves
