-- Lines are served with the readings that the lines before used, and further ones.
use Rattle.std.proofs.Common.{◌≡◌, ℕ, ◌+◌, ◌≤◌, List, ◌++◌, Err, Ok, refl, sym, ◌∙◌, ap, arith}
use Rattle.dv_model.specs.declared.types.Reply.{Reply}
use Rattle.dv_model.specs.Journals.{IsU32, Log}
use Rattle.dv_shelf.proofs.Moments.{weaker}
use Rattle.dv_shelf.specs.Sees.{SeesFolder, SeesTime}
use Rattle.dv_formats.specs.Scripts.{NamedLine}
use Rattle.dv_plans.specs.Begins.{received_at, turns}
use Rattle.dv_playing.specs.Playing.{Attempt, Play, begin, file_readings}
use Rattle.dv_serving.specs.Faults.{faults_between}
use Rattle.dv_serving.specs.Outputs.{output_with}
use Rattle.dv_serving.specs.Readings.{AreAlike, AreReadings, AtReadings}
use Rattle.dv_serving.specs.Scripts.{replies_text}
use Rattle.dv_serving.proofs.Alike.{replies_alike}
use Rattle.dv_serving.proofs.Places.{received_here}
use Rattle.dv_serving.proofs.Readings.{alike_back, reading_alike, reading_small, reading_there, reading_told, with_reading}
use Rattle.dv_serial.specs.declared.lines.LineEnd.{LineEnd}
use Rattle.dv_serial.specs.Following.{Follows, Origin, ReadsOn, origin_of}
use Rattle.dv_serial.specs.Places.{MayGive, play_of}
use Rattle.dv_serial.specs.Runs.{Runs, RunsLine}
use Rattle.dv_serial.specs.Servings.{Serving}
use Rattle.dv_serial.proofs.Alike.{follows_alike, may_alike, others_alike, play_alike}
use Rattle.dv_serial.proofs.Running.{Counted, RunsTo, goes_on, stops}
use Rattle.dv_serial.proofs.Turns.{IsNext}

-- ---- one line

module _ {S C : Type 0} (sees : SeesFolder S) (ticks : SeesTime C) (clock : ℕ → ℕ) (start : Log) (base faults : ℕ) (attempts : List Attempt) (serving : Serving S C)
    (follows : Follows sees ticks (origin_of clock start base) faults attempts serving) where
  abbrev here : Play
  here = play_of clock start attempts

  -- it takes no reading
  pub reads_still : {Holds : Origin → Type 0} → Holds (origin_of clock start base) → ReadsOn ticks.tells (origin_of clock start base) attempts Holds
  reads_still is = record { clock = clock; small = follows.small; told = λ reads n. refl; alike = λ n less. refl; holds = is }

  -- something else follows
  pub reads_give : {Holds Gives : Origin → Type 0} → ReadsOn ticks.tells (origin_of clock start base) attempts Holds
      → ((now : ℕ → ℕ) → Follows sees ticks (origin_of now start base) faults attempts serving → Holds (origin_of now start base) → Gives (origin_of now start base))
      → ReadsOn ticks.tells (origin_of clock start base) attempts Gives
  reads_give dated give = record {
    clock = dated.clock;
    small = dated.small;
    told = dated.told;
    alike = dated.alike;
    holds = give dated.clock (follows_alike clock dated.clock start attempts dated.alike sees serving ticks base faults dated.small dated.told follows) dated.holds;
  }

  -- it takes this one for its message
  module _ (at : ℕ) (small : IsU32 at) (known : ticks.tells → at ≡ received_at (turns serving.store.owed serving.store.chain) (ticks.upcoming serving.store.clock)) where
    abbrev place : ℕ
    place = here.used + file_readings here

    abbrev now : ℕ → ℕ
    now = with_reading clock place at

    alike_now : AreAlike here.used clock now
    alike_now = alike_back here.used now clock (reading_alike clock place at here.used (omega arith))

    small_now : AreReadings now
    small_now = reading_small clock place at follows.small small

    told_now : ticks.tells → (n : ℕ) → now n ≡ clock n
    told_now reads =
        reading_told clock place at
        (known reads ∙ received_here here serving.store.owed serving.store.chain follows.keeps.at.rotates follows.keeps.at.place clock (ticks.upcoming serving.store.clock) (follows.readings reads))

    reading_now : at ≡ now ((play_of now start attempts).used + file_readings (play_of now start attempts))
    reading_now = sym (reading_there clock place at) ∙ ap (λ (p : Play). now (p.used + file_readings p)) (play_alike clock now start attempts alike_now)

    pub reads_one : {Holds : Origin → Type 0}
        → ((next : ℕ → ℕ) → Follows sees ticks (origin_of next start base) faults attempts serving → at ≡ next ((play_of next start attempts).used + file_readings (play_of next start attempts)) → Holds (origin_of next start base))
        → ReadsOn ticks.tells (origin_of clock start base) attempts Holds
    reads_one give = record {
      clock = now;
      small = small_now;
      told = told_now;
      alike = alike_now;
      holds = give now (follows_alike clock now start attempts alike_now sees serving ticks base faults small_now told_now follows) reading_now;
    }

-- ---- one line after another

module _ {S C : Type 0} (sees : SeesFolder S) (ticks : SeesTime C) (start : Log) (base : ℕ) (lines : List NamedLine) (told : Type 0) (taken : List ℕ) (old : Serving S C) where
  -- so many of the lines are answered, over other readings
  abbrev pub runs_alike : (one other : ℕ → ℕ) (faults count : ℕ) (taken_now : List ℕ) (new : Serving S C) (so_far : RunsTo sees ticks one start base lines told taken old faults count taken_now new)
      → AreAlike (play_of one start so_far.answered).used one other → AreReadings other → (ticks.tells → (n : ℕ) → other n ≡ one n) → RunsTo sees ticks other start base lines told taken old faults count taken_now new
  runs_alike one other faults count taken_now new so_far alike small known = record {
    answered = so_far.answered;
    numbers = so_far.numbers;
    follows = follows_alike one other start so_far.answered alike sees new ticks base faults small known so_far.follows;
    since = weaker sees old.store.shelf new.store.shelf (MayGive one start so_far.answered) (MayGive other start so_far.answered) so_far.since (may_alike one other start so_far.answered alike);
    settled = so_far.settled;
    others = others_alike one other start so_far.answered alike (sees.files old.store.shelf) (sees.files new.store.shelf) so_far.others;
    output = λ tells. so_far.output tells ∙ ap (λ (rs : List (List Reply)). taken ++ replies_text lines rs) (replies_alike one other (begin start) so_far.answered alike);
  }

  module _ (upcoming : ℕ → ℕ) (before faults count session : ℕ) (line : NamedLine) (taken_then taken_now : List ℕ) (mid new : Serving S C) (next : IsNext lines count session line)
      (dated : AtReadings ticks.tells upcoming (λ (clock : ℕ → ℕ). RunsTo sees ticks clock start base lines told taken old before count taken_then mid)) (later : before ≤ faults) (counted : Counted sees ticks upcoming start base lines told taken old mid new) where
    -- the run goes on
    pub line_goes_on : (done : Unit {0})
        → ReadsOn ticks.tells (origin_of dated.clock start base) dated.holds.answered
        (λ (from : Origin). RunsLine sees ticks from (faults_between before faults) dated.holds.answered (record { session = session; line = line }) (Ok done) (output_with told taken_then taken_now) mid new)
        → AtReadings ticks.tells upcoming (λ (clock : ℕ → ℕ). RunsTo sees ticks clock start base lines told taken old faults (count + 1) taken_now new)
    line_goes_on done more = record {
      clock = more.clock;
      small = more.small;
      told = λ reads n. more.told reads n ∙ dated.told reads n;
      holds = goes_on sees ticks more.clock start base lines told taken old before faults count session line taken_then taken_now mid new next
          (runs_alike dated.clock more.clock before count taken_then mid dated.holds more.alike more.small more.told) later counted done more.holds;
    }

    -- or ends
    pub line_stops : (e : LineEnd)
        → ReadsOn ticks.tells (origin_of dated.clock start base) dated.holds.answered
        (λ (from : Origin). RunsLine sees ticks from (faults_between before faults) dated.holds.answered (record { session = session; line = line }) (Err e) (output_with told taken_then taken_now) mid new)
        → AtReadings ticks.tells upcoming (λ (clock : ℕ → ℕ). Runs sees ticks (origin_of clock start base) faults lines (Err e) (output_with told taken taken_now) old new)
    line_stops e more = record {
      clock = more.clock;
      small = more.small;
      told = λ reads n. more.told reads n ∙ dated.told reads n;
      holds = stops sees ticks more.clock start base lines told taken old before faults count session line taken_then taken_now mid new next
          (runs_alike dated.clock more.clock before count taken_then mid dated.holds more.alike more.small more.told) later counted e more.holds;
    }
