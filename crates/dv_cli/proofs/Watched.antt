-- Lines are served beside a kept search from where a run begins.
use Rattle.std.proofs.Common.{◌≡◌, ℕ, ◌+◌, ◌≤◌, true, List, [], ◌∷◌, ◌++◌, append-nil, length, take, Result, Ok, Err, refl, sym, ◌∙◌, ap, subst, arith}
use Rattle.std.specs.Prelude.{All, None, replicate}
use Rattle.std.proofs.lemmas.List.{take_at}
use Rattle.std.proofs.lemmas.List.Elements.{All-take}
use Rattle.dv_model.specs.declared.types.Key.{Key}
use Rattle.dv_model.specs.declared.types.Mark.{Mark}
use Rattle.dv_model.specs.Counts.{RoseBy}
use Rattle.dv_model.specs.Journals.{Log}
use Rattle.dv_model.specs.Transcripts.{unavailable_count}
use Rattle.dv_shelf.specs.Causes.{Stayed}
use Rattle.dv_shelf.specs.Clocks.{behind}
use Rattle.dv_shelf.specs.Folders.{Folder}
use Rattle.dv_shelf.specs.Sees.{SeesFolder, SeesTime}
use Rattle.dv_formats.specs.Scripts.{NamedLine}
use Rattle.dv_answer.specs.Following.{new_follower}
use Rattle.dv_playing.specs.Laws.{IsAttempt, MayPlay}
use Rattle.dv_playing.specs.Playing.{Attempt, Play, begin, replies_to}
use Rattle.dv_store.specs.States.{State}
use Rattle.dv_serving.specs.Faults.{Faults}
use Rattle.dv_serving.specs.Outputs.{Output, output_with}
use Rattle.dv_serving.specs.Readings.{AreReadings, AtReadings}
use Rattle.dv_serving.proofs.Readings.{alike_back, readings_then, then_alike, then_behind, then_small, then_told}
use Rattle.dv_serial.specs.declared.lines.LineEnd.{LineEnd}
use Rattle.dv_serial.specs.declared.lines.LineEnd.TheVariants as line_end
use Rattle.dv_serial.specs.Following.{Follows, origin_of}
use Rattle.dv_serial.specs.Servings.{Serving, serving_over}
use Rattle.dv_beginning.specs.Begins.{IsBegun}
use Rattle.dv_beginning.proofs.Alike.{begun_alike}
use Rattle.dv_live.specs.Steadiness.{steady}
use Rattle.dv_watching.specs.Laws.{ToldIsSearched}
use Rattle.dv_watching.specs.Texts.{lines_text}
use Rattle.dv_watching.specs.Watching.{Watches, Writes, unsaid}
use Rattle.dv_cli.specs.declared.ending.End.{End}
use Rattle.dv_cli.specs.declared.ending.End.TheVariants as end
use Rattle.dv_cli.specs.Behind.{end_behind}
use Rattle.dv_cli.specs.Runs.{RunsOver, ServesLines}
use Rattle.dv_cli.specs.Spans.{Times, times_with}
use Rattle.dv_cli.specs.Watching.{IsFoundBehind, RunsBeside, ServesBeside, WritesBeside}
use Rattle.dv_cli.proofs.Served.{follows_start, none_with, serves_lines, serves_none, serves_with}

-- ---- what is found

-- no lines have no text
pub no_text : (clock : ℕ → ℕ) (key : Key) (play : Play) (lines : List NamedLine) → lines_text clock key play lines [] ≡ []
no_text clock key play [] = refl
no_text clock key play (line ∷ lines) = refl

-- a count that rose by just so much
rose_so : (n before : ℕ) → RoseBy n before (before + n)
rose_so n before = omega arith

-- behind each of the answered lines it is what a search gives
found_behind : (clock : ℕ → ℕ) (start : Log) (base faults : ℕ) (answered : List Attempt) (key : Key) → steady key ≡ true → ToldIsSearched → MayPlay clock start base faults answered
    → (front back : List Attempt) → answered ≡ front ++ back → IsFoundBehind clock start key front
found_behind clock start base faults answered key follows searched may front back is =
    let count : ℕ = unavailable_count (replies_to clock (begin start) front) in
    let first : take (length front) answered ≡ front = ap (λ (l : List Attempt). take (length front) l) is ∙ take_at front back (length front) refl in
    let front_may : MayPlay clock start base (base + count) front = record {
      sound = may.sound;
      new = may.new;
      each = subst (All (IsAttempt base)) first (All-take (IsAttempt base) (length front) answered may.each);
      few = rose_so count base;
    } in
    let there = searched clock start base (base + count) front key follows front_may in
    record { mailbox = there.0; found = there.1 }

module _ {S : Type 0} (sees : SeesFolder S) (times : Times) (faults : Faults) (key : Key) (lines : List NamedLine) (out : Output) (old new : S) where
  -- so it is beside lines that are served
  beside_of : steady key ≡ true → ToldIsSearched → (e : End) (serves : ServesLines sees times faults None lines e (unsaid out) old new)
      → (out.told → WritesBeside e (behind times.clock serves.used) serves.start key serves.answered serves.left lines out.taken out.taken_now)
      → ServesBeside sees times faults key lines e out old new
  beside_of follows searched e serves writes = record {
    serves = serves;
    output = writes;
    finds = found_behind (behind times.clock serves.used) serves.start faults.before faults.now serves.answered key follows searched serves.may;
  }

  -- ---- a run over a folder

  -- but for what is written it is a run over the lines
  pub beside_runs : (e : End) → RunsBeside sees times faults key lines e out old new → RunsOver sees times faults None lines e (unsaid out) old new
  beside_runs (end.Unopened f) runs = (λ told. absurd told, runs.1)
  beside_runs (end.Answered mark groups loaded) runs = runs.serves
  beside_runs (end.Rebuilt kept skipped) runs = runs.serves
  beside_runs end.Usage runs = runs.serves
  beside_runs end.NoMemory runs = runs.serves
  beside_runs (end.Script fault) runs = runs.serves
  beside_runs (end.Source faulted) runs = runs.serves
  beside_runs end.Sink runs = runs.serves

-- ---- from a store from which a run begins

writes_beside : (clock : ℕ → ℕ) (start : Log) (key : Key) (answered left : List Attempt) (lines : List NamedLine) (result : Result (Unit {0}) LineEnd) (mark : Mark) (groups : ℕ) (old new : List ℕ) → Writes clock start key answered left lines result old new
    → WritesBeside (end_behind result mark groups None) clock start key answered left lines old new
writes_beside clock start key answered left lines (Ok done) mark groups old new writes = writes
writes_beside clock start key answered left lines (Err line_end.NoMemory) mark groups old new writes = writes
writes_beside clock start key answered left lines (Err (line_end.Sink faults)) mark groups old new writes = writes

module _ {S C : Type 0} (sees : SeesFolder S) (ticks : SeesTime C) (clock : ℕ → ℕ) (old : S) (store : State S C)
    (begun : IsBegun sees ticks clock old store) (base : ℕ) (key : Key) (follows : steady key ≡ true) (searched : ToldIsSearched)
    (lines : List NamedLine) (told : Type 0) (taken : List ℕ) (faults : ℕ) where
  -- the lines were served
  serves_beside : (taken_now : List ℕ) (n : ℕ) (result : Result (Unit {0}) LineEnd) (new : Serving S C)
      → Watches sees ticks (origin_of (behind clock begun.used) begun.start base) faults key lines result (output_with told taken taken_now) (serving_over store (replicate n new_follower)) new
      → sees.may_leave new.store.shelf (sees.files new.store.shelf) → (Stayed base faults → Stayed (sees.fault_count store.shelf) (sees.fault_count new.store.shelf))
      → ServesBeside sees (times_with ticks.tells clock (ticks.upcoming new.store.clock)) (record { before = base; now = faults }) key lines (end_behind result new.store.mark new.groups None)
      (output_with told taken taken_now) old new.store.shelf
  serves_beside taken_now n result new watches there stays =
      let how : End = end_behind result new.store.mark new.groups None in
      let seats = replicate n new_follower in
      beside_of sees (times_with ticks.tells clock (ticks.upcoming new.store.clock)) (record { before = base; now = faults }) key lines (output_with told taken taken_now) old new.store.shelf follows searched how
      (serves_lines sees ticks clock old store begun base None faults lines ⊥ taken taken_now seats result new watches.runs there stays)
      (λ tells.
      serves_with sees ticks clock old store begun base None faults lines ⊥ taken taken_now seats result new watches.runs there stays
      (λ (used : ℕ) (start : Log) (answered left : List Attempt). WritesBeside how (behind clock used) start key answered left lines taken taken_now)
      (writes_beside (behind clock begun.used) begun.start key watches.runs.answered watches.runs.left lines result new.store.mark new.groups taken taken_now (watches.output tells)))

  -- no line was
  pub none_beside : base ≤ faults → sees.may_leave store.shelf (sees.files store.shelf) → ((c : Folder) → sees.left_since store.shelf (sees.moment store.shelf) c → sees.may_leave store.shelf c)
      → ServesBeside sees (times_with ticks.tells clock (ticks.upcoming store.clock)) (record { before = base; now = faults }) key lines end.NoMemory (output_with told taken taken) old store.shelf
  none_beside later there now =
      beside_of sees (times_with ticks.tells clock (ticks.upcoming store.clock)) (record { before = base; now = faults }) key lines (output_with told taken taken) old store.shelf follows searched end.NoMemory
      (serves_none sees ticks clock old store begun base None faults later lines ⊥ taken there now)
      (λ tells.
      none_with sees ticks clock old store begun base None faults later lines ⊥ taken there now
      (λ (used : ℕ) (start : Log) (answered left : List Attempt). WritesBeside end.NoMemory (behind clock used) start key answered left lines taken taken)
      (sym (ap (λ (t : List ℕ). taken ++ t) (no_text (behind clock begun.used) key (begin begun.start) lines) ∙ append-nil taken)))

-- ---- the play begins with new sessions

module _ {S C : Type 0} (sees : SeesFolder S) (ticks : SeesTime C) (clock : ℕ → ℕ) (old : S) (store : State S C)
    (begun : IsBegun sees ticks clock old store) (base : ℕ) (key : Key) (follows : steady key ≡ true) (searched : ToldIsSearched) (small : AreReadings clock) (counts : S → ℕ) (later : base ≤ counts store.shelf)
    (faults : ℕ) (lines : List NamedLine) (told : Type 0) (taken taken_now : List ℕ) (n : ℕ) (result : Result (Unit {0}) LineEnd) (serial new : Serving S C) where
  abbrev lines_clock : ℕ → ℕ
  lines_clock = behind clock begun.used

  -- a run of the lines beside the search at these readings
  abbrev WatchesAt : Serving S C → (ℕ → ℕ) → Type 0
  WatchesAt from now = Watches sees ticks (origin_of now begun.start base) faults key lines result (output_with told taken taken_now) from new

  -- the readings until the first line, and then those of the lines
  pub watches_all : serial ≡ serving_over store (replicate n new_follower)
      → (Follows sees ticks (origin_of lines_clock begun.start base) (counts serial.store.shelf) [] serial → AtReadings ticks.tells lines_clock (WatchesAt serial))
      → sees.may_leave new.store.shelf (sees.files new.store.shelf) → (Stayed base faults → Stayed (sees.fault_count store.shelf) (sees.fault_count new.store.shelf))
      → AtReadings ticks.tells clock (λ (readings : ℕ → ℕ).
      ServesBeside sees (times_with ticks.tells readings (ticks.upcoming new.store.clock)) (record { before = base; now = faults }) key lines (end_behind result new.store.mark new.groups None)
      (output_with told taken taken_now) old new.store.shelf)
  watches_all over run there stays =
      let from_start : Follows sees ticks (origin_of lines_clock begun.start base) (counts serial.store.shelf) [] serial =
      subst (λ (s : Serving S C). Follows sees ticks (origin_of lines_clock begun.start base) (counts s.store.shelf) [] s) (sym over)
      (follows_start sees ticks clock old store begun base None small n (replicate n new_follower) (counts store.shelf) later refl) in
      let dated = run from_start in
      let all : ℕ → ℕ = readings_then clock begun.used dated.clock in
      let known : ticks.tells → (k : ℕ) → all k ≡ clock k = λ reads. then_told clock begun.used dated.clock (dated.told reads) in
      record {
        clock = all;
        small = then_small clock begun.used dated.clock small dated.small;
        told = known;
        holds = serves_beside sees ticks all old store
            (begun_alike sees ticks clock all old store begun (alike_back begun.used all clock (then_alike clock begun.used dated.clock)) known)
            base key follows searched lines told taken faults taken_now n result new
            (subst (WatchesAt (serving_over store (replicate n new_follower))) (sym (then_behind clock begun.used dated.clock)) (subst (λ (s : Serving S C). WatchesAt s dated.clock) over dated.holds))
            there stays;
      }
