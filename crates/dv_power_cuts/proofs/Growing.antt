-- The log that lines make goes on from its start.
use Rattle.std.proofs.Common.{◌≡◌, ◌⊎◌, inl, inr, ℕ, ◌+◌, ◌≤◌, false, List, [], ◌∷◌, ◌++◌, length, refl, sym, ◌∙◌, ap, subst, arith}
use Rattle.std.specs.Prelude.{All}
use Rattle.std.proofs.lemmas.List.{length-append}
use Rattle.std.proofs.lemmas.List.Elements.{All-cons, All-head, All-nil, All-tail}
use Rattle.dv_model.specs.declared.types.Reply.{Reply}
use Rattle.dv_model.specs.Journals.{IsSound, Log}
use Rattle.dv_model.specs.Transcripts.{Line, with_written}
use Rattle.dv_interleavings.specs.Promises.{GoesOn}
use Rattle.dv_promises.proofs.Logs.{goes_on_further, last_goes_on, same_log}
use Rattle.dv_playing.specs.Laws.{IsAttempt, MayWrite, lines_of}
use Rattle.dv_playing.specs.Playing.{Attempt, Play, Served, Step, begin, file_readings, group_here, played, replies_to, step, with_group_here}
use Rattle.dv_playing.proofs.Plays.{all_played}
use Rattle.dv_playing.proofs.Steps.{IsPlayed, begins, step_played}
use Rattle.dv_serving.proofs.Places.{with_group}
use Rattle.dv_serial.proofs.Running.{may_be_left, served_log}

-- ---- one line

module _ (clock : ℕ → ℕ) (base : ℕ) (play : Play) (lines : List Line) (replies : List (List Reply)) (is : IsPlayed base play lines replies) where
  -- the log with a line's group
  abbrev pub log_with_line : Line → Log
  log_with_line line = with_written play.log line.0 line.1 (clock (play.used + file_readings play)) (group_here play line) play.mailbox

  pub with_line_is : (line : Line) → MayWrite play line → (with_group_here clock play line).log ≡ log_with_line line
  with_line_is line may = ap (λ (p : Play). p.log) (with_group clock play line may.some)

  pub goes_with : (line : Line) → MayWrite play line → GoesOn play.log (log_with_line line)
  goes_with line may =
      last_goes_on play.log (record { author = line.0; command = line.1; group = group_here play line; received = clock (play.used + file_readings play); running = false })
      play.mailbox is.end.sound is.end.mailbox

  goes_step : (a : Attempt) → IsAttempt base a → GoesOn play.log (step clock play a).play.log
  goes_step a good = by (may_be_left clock base play a good).log
    where
      by : ((step clock play a).play.log ≡ play.log) ⊎ ((a.outcome ≡ Served) × MayWrite play a.line) → GoesOn play.log (step clock play a).play.log
      by (inl same) = subst (GoesOn play.log) (sym same) (same_log play.log)
      by (inr wrote) = subst (GoesOn play.log) (sym (served_log clock play a wrote.0 wrote.1 ∙ with_line_is a.line wrote.1)) (goes_with a.line wrote.1)

-- ---- all lines

pub goes_all : (clock : ℕ → ℕ) (base : ℕ) (play : Play) (lines : List Line) (replies : List (List Reply)) (attempts : List Attempt) → IsPlayed base play lines replies → All (IsAttempt base) attempts
    → GoesOn play.log (played clock play attempts).log
goes_all clock base play lines replies [] is each = same_log play.log
goes_all clock base play lines replies (a ∷ attempts) is each =
    let s : Step = step clock play a in
    let good = All-head (IsAttempt base) a attempts each in
    goes_on_further play.log s.play.log (played clock s.play attempts).log (goes_step clock base play lines replies is a good)
    (goes_all clock base s.play (lines ++ a.line ∷ []) (replies ++ s.replies ∷ []) attempts (step_played clock base play lines replies is a good) (All-tail (IsAttempt base) a attempts each))

pub played_append : (clock : ℕ → ℕ) (play : Play) (front back : List Attempt) → played clock play (front ++ back) ≡ played clock (played clock play front) back
played_append clock play [] back = refl
played_append clock play (a ∷ front) back = played_append clock (step clock play a).play front back

pub all_front : (P : Attempt → Type 0) (front back : List Attempt) → All P (front ++ back) → All P front
all_front P [] back all = All-nil P
all_front P (a ∷ front) back all = All-cons P a front (All-head P a (front ++ back) all) (all_front P front back (All-tail P a (front ++ back) all))

pub all_back : (P : Attempt → Type 0) (front back : List Attempt) → All P (front ++ back) → All P back
all_back P [] back all = all
all_back P (a ∷ front) back all = all_back P front back (All-tail P a (front ++ back) all)

-- ---- from a start

module _ (clock : ℕ → ℕ) (start : Log) (base : ℕ) (sound : IsSound start) (new : start.entries ≡ []) where
  pub played_from : (attempts : List Attempt) → All (IsAttempt base) attempts → IsPlayed base (played clock (begin start) attempts) (lines_of attempts) (replies_to clock (begin start) attempts)
  played_from attempts each = all_played clock base (begin start) [] [] attempts (begins base start sound new) each

  pub goes_from : (attempts : List Attempt) → All (IsAttempt base) attempts → GoesOn start (played clock (begin start) attempts).log
  goes_from attempts each = goes_all clock base (begin start) [] [] attempts (begins base start sound new) each

  -- a front has no more entries
  pub front_shorter : (front back : List Attempt) → All (IsAttempt base) (front ++ back)
      → length (played clock (begin start) front).log.entries ≤ length (played clock (begin start) (front ++ back)).log.entries
  front_shorter front back each =
      let met : Play = played clock (begin start) front in
      let goes : GoesOn met.log (played clock met back).log =
      goes_all clock base met (lines_of front) (replies_to clock (begin start) front) back (played_from front (all_front (IsAttempt base) front back each)) (all_back (IsAttempt base) front back each) in
      let long : length (played clock met back).log.entries ≡ length met.log.entries + length goes.more = ap length goes.entries ∙ length-append met.log.entries goes.more in
      subst (λ (p : Play). length met.log.entries ≤ length p.log.entries) (sym (played_append clock (begin start) front back)) (omega (arith, long))
