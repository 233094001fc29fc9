-- Lines are served beside a kept search, one after another.
use Rattle.std.proofs.Common.{◌≡◌, ℕ, ◌+◌, ◌≤◌, List, [], ◌∷◌, ◌++◌, length, get_or, drop, Ok, Err, Result, refl, sym, ◌∙◌, ap, subst, arith, append_assoc}
use Rattle.std.specs.Result.{IsErr, IsErrAnd}
use Rattle.std.proofs.lemmas.List.{append-nil, drop_more}
use Rattle.dv_model.specs.declared.types.Key.{Key}
use Rattle.dv_model.specs.Journals.{Log}
use Rattle.dv_shelf.specs.Crashes.{LeavesOnly}
use Rattle.dv_shelf.specs.Sees.{SeesFolder, SeesTime}
use Rattle.dv_shelf.specs.Streams.{Appends, AppendsFront}
use Rattle.dv_formats.specs.Scripts.{NamedLine}
use Rattle.dv_playing.specs.Playing.{Attempt, begin}
use Rattle.dv_serving.specs.Faults.{Faults, faults_between}
use Rattle.dv_serving.specs.Outputs.{Output, output_with}
use Rattle.dv_serving.specs.Readings.{AreAlike, AreReadings, AtReadings}
use Rattle.dv_serial.specs.declared.lines.LineEnd.{LineEnd}
use Rattle.dv_serial.specs.declared.lines.LineEnd.TheVariants as line_end
use Rattle.dv_serial.specs.Following.{Follows, Origin, ReadsOn, origin_of}
use Rattle.dv_serial.specs.Places.{MayGive, play_of}
use Rattle.dv_serial.specs.Runs.{SessionLine}
use Rattle.dv_serial.specs.Servings.{Serving}
use Rattle.dv_serial.proofs.Further.{runs_alike}
use Rattle.dv_serial.proofs.Running.{RunsTo, answered_length, goes_on, stops, to_done, to_none, to_unbegun}
use Rattle.dv_serial.proofs.Turns.{IsNext}
use Rattle.dv_watching.specs.Texts.{line_text, lines_text}
use Rattle.dv_watching.specs.Watching.{IsTried, Watches, WatchesLine}
use Rattle.dv_watching.proofs.Texts.{lines_alike, lines_more, no_lines}

-- what holds of an error holds of the result that is it
pub of_error : (P : Result (Unit {0}) LineEnd → Type 0) (result : Result (Unit {0}) LineEnd) (e : LineEnd) → IsErr result → IsErrAnd result (λ x. x ≡ e) → P (Err e) → P result
of_error P (Ok done) e err same p = absurd cc
of_error P (Err x) e err same p = subst (λ (y : LineEnd). P (Err y)) (sym same) p

-- a line beside a search of this key
pub reads_with_key : {S C : Type 0} (sees : SeesFolder S) (ticks : SeesTime C) (origin : Origin) (faults : Faults) (attempts : List Attempt) (key other : Key) → key ≡ other → (by : SessionLine) (result : Result (Unit {0}) LineEnd) (out : Output) (old new : Serving S C)
    → ReadsOn ticks.tells origin attempts (λ (from : Origin). WatchesLine sees ticks from faults attempts key by result out old new)
    → ReadsOn ticks.tells origin attempts (λ (from : Origin). WatchesLine sees ticks from faults attempts other by result out old new)
reads_with_key sees ticks origin faults attempts key other same by result out old new is =
    subst (λ k. ReadsOn ticks.tells origin attempts (λ (from : Origin). WatchesLine sees ticks from faults attempts k by result out old new)) same is

module _ {S C : Type 0} (sees : SeesFolder S) (ticks : SeesTime C) (clock : ℕ → ℕ) (start : Log) (base : ℕ) (key : Key) (lines : List NamedLine) (told : Type 0) (taken : List ℕ) (old : Serving S C) where
  -- so many of the lines are answered
  pub record WatchesTo (faults count : ℕ) (taken_now : List ℕ) (new : Serving S C) : Type 0 where
    pub runs : RunsTo sees ticks clock start base lines ⊥ taken old faults count taken_now new
    pub output : told → Appends taken taken_now (lines_text clock key (begin start) lines runs.answered)

  -- none is yet
  pub watches_none : (faults : ℕ) → Follows sees ticks (origin_of clock start base) faults [] old → LeavesOnly sees old.store.shelf old.store.shelf (MayGive clock start []) → WatchesTo faults 0 taken old
  watches_none faults follows since = record {
    runs = to_none sees ticks clock start base lines ⊥ taken old faults follows since;
    output = λ tells. sym (ap (λ t. taken ++ t) (no_lines clock key (begin start) lines) ∙ append-nil taken);
  }

  -- behind the last one
  pub watches_all : (faults count : ℕ) (taken_now : List ℕ) (new : Serving S C) (done : Unit {0}) → length lines ≤ count → WatchesTo faults count taken_now new
      → Watches sees ticks (origin_of clock start base) faults key lines (Ok done) (output_with told taken taken_now) old new
  watches_all faults count taken_now new done all so_far = record {
    runs = to_done sees ticks clock start base lines ⊥ taken old faults count taken_now new done all so_far.runs;
    output = so_far.output;
  }

  -- the count of faults doesn't fall
  abbrev pub Counted : Serving S C → Serving S C → Type 0
  Counted mid new = (sees.fault_count old.store.shelf ≤ sees.fault_count mid.store.shelf) × (sees.fault_count mid.store.shelf ≤ sees.fault_count new.store.shelf)

  module _ (before faults count session : ℕ) (line : NamedLine) (taken_then taken_now : List ℕ) (mid new : Serving S C) (next : IsNext lines count session line) (so_far : WatchesTo before count taken_then mid) where
    abbrev answered : List Attempt
    answered = so_far.runs.answered

    many : length answered ≡ count
    many = answered_length sees ticks clock start base lines ⊥ taken old before faults count session line taken_then taken_now mid new next so_far.runs

    -- memory ended the run before the line was begun
    pub watches_unbegun : before ≤ faults → Watches sees ticks (origin_of clock start base) faults key lines (Err line_end.NoMemory) (output_with told taken taken_then) old mid
    watches_unbegun later = record {
      runs = to_unbegun sees ticks clock start base lines ⊥ taken old before faults count session line taken_then taken_now mid new next so_far.runs later;
      output = so_far.output;
    }

    -- the run goes on
    pub watches_on : before ≤ faults → Counted mid new → (done : Unit {0})
        → WatchesLine sees ticks (origin_of clock start base) (faults_between before faults) answered key (record { session = session; line = line }) (Ok done) (output_with told taken_then taken_now) mid new
        → WatchesTo faults (count + 1) taken_now new
    watches_on later counted done one = record {
      runs = goes_on sees ticks clock start base lines ⊥ taken old before faults count session line taken_then taken_now mid new next so_far.runs later counted done
          (record { replies = one.replies; served = one.served; output = λ none. absurd none });
      output = λ tells. one.output tells ∙ ap (λ t. t ++ text) (so_far.output tells) ∙ append_assoc taken (lines_text clock key (begin start) lines answered) text ∙ ap (λ t. taken ++ t) (sym more);
    }
      where
        text : List ℕ
        text = line_text clock key (play_of clock start answered) line (record { line = (session, line.1); outcome = one.served.outcome })

        more : lines_text clock key (begin start) lines (answered ++ record { line = (session, line.1); outcome = one.served.outcome } ∷ [])
            ≡ lines_text clock key (begin start) lines answered ++ line_text clock key (play_of clock start answered) line (record { line = (session, line.1); outcome = one.served.outcome })
        more = lines_more clock key (begin start) lines answered (record { line = (session, line.1); outcome = one.served.outcome }) line (omega (arith, many, next.less)) (next.is ∙ ap (λ n. get_or lines n line) (sym many))

    -- or ends
    pub watches_end : before ≤ faults → Counted mid new → (e : LineEnd)
        → WatchesLine sees ticks (origin_of clock start base) (faults_between before faults) answered key (record { session = session; line = line }) (Err e) (output_with told taken_then taken_now) mid new
        → Watches sees ticks (origin_of clock start base) faults key lines (Err e) (output_with told taken taken_now) old new
    watches_end later counted line_end.NoMemory one = record {
      runs = stops sees ticks clock start base lines ⊥ taken old before faults count session line taken_then taken_now mid new next so_far.runs later counted line_end.NoMemory (one.0, λ none. absurd none);
      output = λ tells. one.1 tells ∙ so_far.output tells;
    }
    watches_end later counted (line_end.Sink n) one = record {
      runs = stops sees ticks clock start base lines ⊥ taken old before faults count session line taken_then taken_now mid new next so_far.runs later counted (line_end.Sink n)
          (record { replies = one.replies; served = one.served; output = λ none. absurd none });
      output = λ tells. (line_text clock key (play_of clock start answered) line (record { line = (session, line.1); outcome = one.served.outcome }), tried, front tells);
    }
      where
        dropped : drop (length answered) lines ≡ line ∷ drop (count + 1) lines
        dropped = ap (λ n. drop n lines) many ∙ drop_more lines count line next.less ∙ ap (λ (l : NamedLine). l ∷ drop (count + 1) lines) (sym next.is)

        tried : IsTried clock start key answered (record { line = (session, line.1); outcome = one.served.outcome } ∷ []) (drop (length answered) lines)
            (line_text clock key (play_of clock start answered) line (record { line = (session, line.1); outcome = one.served.outcome }))
        tried = subst (λ ls. IsTried clock start key answered (record { line = (session, line.1); outcome = one.served.outcome } ∷ []) ls
            (line_text clock key (play_of clock start answered) line (record { line = (session, line.1); outcome = one.served.outcome }))) (sym dropped) refl

        front : told → AppendsFront (taken ++ lines_text clock key (begin start) lines answered) taken_now (line_text clock key (play_of clock start answered) line (record { line = (session, line.1); outcome = one.served.outcome }))
        front tells = subst (λ t. AppendsFront t taken_now (line_text clock key (play_of clock start answered) line (record { line = (session, line.1); outcome = one.served.outcome }))) (so_far.output tells) (one.output tells)

-- ---- readings

module _ {S C : Type 0} (sees : SeesFolder S) (ticks : SeesTime C) (start : Log) (base : ℕ) (key : Key) (lines : List NamedLine) (told : Type 0) (taken : List ℕ) (old : Serving S C) where
  -- so many of the lines are answered, over other readings
  watches_alike : (one other : ℕ → ℕ) (faults count : ℕ) (taken_now : List ℕ) (new : Serving S C) (so_far : WatchesTo sees ticks one start base key lines told taken old faults count taken_now new)
      → AreAlike (play_of one start so_far.runs.answered).used one other → AreReadings other → (ticks.tells → (n : ℕ) → other n ≡ one n)
      → (now : WatchesTo sees ticks other start base key lines told taken old faults count taken_now new) × (so_far.runs.answered ≡ now.runs.answered)
  watches_alike one other faults count taken_now new so_far alike small known = (
    record {
      runs = runs_alike sees ticks start base lines ⊥ taken old one other faults count taken_now new so_far.runs alike small known;
      output = λ tells. so_far.output tells ∙ ap (λ t. taken ++ t) (lines_alike one other key (begin start) lines so_far.runs.answered alike);
    },
    refl,
  )

  module _ (upcoming : ℕ → ℕ) (before faults count session : ℕ) (line : NamedLine) (taken_then taken_now : List ℕ) (mid new : Serving S C) (next : IsNext lines count session line)
      (dated : AtReadings ticks.tells upcoming (λ (clock : ℕ → ℕ). WatchesTo sees ticks clock start base key lines told taken old before count taken_then mid)) (later : before ≤ faults) (counted : Counted sees ticks upcoming start base key lines told taken old mid new) where
    abbrev WatchedFrom : Result (Unit {0}) LineEnd → List Attempt → Origin → Type 0
    WatchedFrom result answered from = WatchesLine sees ticks from (faults_between before faults) answered key (record { session = session; line = line }) result (output_with told taken_then taken_now) mid new

    -- the run goes on
    pub line_goes_on : (done : Unit {0}) → ReadsOn ticks.tells (origin_of dated.clock start base) dated.holds.runs.answered (WatchedFrom (Ok done) dated.holds.runs.answered)
        → AtReadings ticks.tells upcoming (λ (clock : ℕ → ℕ). WatchesTo sees ticks clock start base key lines told taken old faults (count + 1) taken_now new)
    line_goes_on done more =
        let now = watches_alike dated.clock more.clock before count taken_then mid dated.holds more.alike more.small more.told in
        record {
          clock = more.clock;
          small = more.small;
          told = λ reads n. more.told reads n ∙ dated.told reads n;
          holds = watches_on sees ticks more.clock start base key lines told taken old before faults count session line taken_then taken_now mid new next now.0 later counted done
              (subst (λ answered. WatchedFrom (Ok done) answered (origin_of more.clock start base)) now.1 more.holds);
        }

    -- or ends
    pub line_ends : (e : LineEnd) → ReadsOn ticks.tells (origin_of dated.clock start base) dated.holds.runs.answered (WatchedFrom (Err e) dated.holds.runs.answered)
        → AtReadings ticks.tells upcoming (λ (clock : ℕ → ℕ). Watches sees ticks (origin_of clock start base) faults key lines (Err e) (output_with told taken taken_now) old new)
    line_ends e more =
        let now = watches_alike dated.clock more.clock before count taken_then mid dated.holds more.alike more.small more.told in
        record {
          clock = more.clock;
          small = more.small;
          told = λ reads n. more.told reads n ∙ dated.told reads n;
          holds = watches_end sees ticks more.clock start base key lines told taken old before faults count session line taken_then taken_now mid new next now.0 later counted e
              (subst (λ answered. WatchedFrom (Err e) answered (origin_of more.clock start base)) now.1 more.holds);
        }
