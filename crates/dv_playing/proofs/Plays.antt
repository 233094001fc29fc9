-- What is played is a run by the rules.
use Rattle.std.proofs.Common.{◌≡◌, inl, inr, ℕ, ◌+◌, List, [], ◌∷◌, ◌++◌, length, refl, sym, ap, subst, arith, append_assoc}
use Rattle.std.specs.Prelude.{All, drop, take}
use Rattle.std.proofs.lemmas.List.{append-nil, drop_at, take_at}
use Rattle.std.proofs.lemmas.List.Elements.{All-head, All-tail}
use Rattle.dv_model.specs.declared.types.Reply.{Reply}
use Rattle.dv_model.specs.Journals.{Log}
use Rattle.dv_model.specs.Sessions.{new_session}
use Rattle.dv_model.specs.Transcripts.{EndsAt, HasLeft, Line, Runs, Serial}
use Rattle.dv_playing.specs.Laws.{IsAtEnd, IsAttempt, MayPlay, MayWrite, lines_of}
use Rattle.dv_playing.specs.Playing.{Attempt, Play, begin, file_readings, played, replies_to, step, with_group_here}
use Rattle.dv_playing.proofs.Steps.{IsPlayed, allowed_later, begins, has_written, longer, longer_sound, many_entries, runs_longer, step_played, was_there}

-- ---- all lines

pub all_played : (clock : ℕ → ℕ) (base : ℕ) (play : Play) (lines : List Line) (replies : List (List Reply)) (attempts : List Attempt) → IsPlayed base play lines replies → All (IsAttempt base) attempts
    → IsPlayed base (played clock play attempts) (lines ++ lines_of attempts) (replies ++ replies_to clock play attempts)
all_played clock base play lines replies [] is each =
    subst (λ (ls : List Line). IsPlayed base play ls (replies ++ [])) (sym (append-nil lines)) (subst (IsPlayed base play lines) (sym (append-nil replies)) is)
all_played clock base play lines replies (a ∷ attempts) is each =
    let s = step clock play a in
    let rest : List (List Reply) = replies_to clock s.play attempts in
    let behind = played clock s.play attempts in
    let all : IsPlayed base behind ((lines ++ a.line ∷ []) ++ lines_of attempts) ((replies ++ s.replies ∷ []) ++ rest) =
    all_played clock base s.play (lines ++ a.line ∷ []) (replies ++ s.replies ∷ []) attempts
    (step_played clock base play lines replies is a (All-head (IsAttempt base) a attempts each)) (All-tail (IsAttempt base) a attempts each) in
    subst (λ (ls : List Line). IsPlayed base behind ls (replies ++ s.replies ∷ rest)) (append_assoc lines (a.line ∷ []) (lines_of attempts))
    (subst (IsPlayed base behind ((lines ++ a.line ∷ []) ++ lines_of attempts)) (append_assoc replies (s.replies ∷ []) rest) all)

pub length_replies : (clock : ℕ → ℕ) (play : Play) (attempts : List Attempt) → length (lines_of attempts) ≡ length (replies_to clock play attempts)
length_replies clock play [] = refl
length_replies clock play (a ∷ attempts) = let e = length_replies clock (step clock play a).play attempts in omega (arith, e)

module _ (clock : ℕ → ℕ) (start : Log) (base faults : ℕ) (attempts : List Attempt) (may : MayPlay clock start base faults attempts) where
  abbrev end : Play
  end = played clock (begin start) attempts

  abbrev replies : List (List Reply)
  replies = replies_to clock (begin start) attempts

  is_played : IsPlayed base end (lines_of attempts) replies
  is_played = all_played clock base (begin start) [] [] attempts (begins base start may.sound may.new) may.each

  pub stands : IsAtEnd end
  stands = is_played.end

  pub answered : Runs end.log base (λ s. new_session) 0 (lines_of attempts) replies end.states (length end.log.entries)
  answered = is_played.runs

  many : length (lines_of attempts) ≡ length replies
  many = length_replies clock (begin start) attempts

  first_lines : (rest : List Line) → take (length replies) (lines_of attempts ++ rest) ≡ lines_of attempts
  first_lines rest = take_at (lines_of attempts) rest (length replies) many

  rest_is : (rest : List Line) → drop (length replies) (lines_of attempts ++ rest) ≡ rest
  rest_is rest = drop_at (lines_of attempts) rest (length replies) many

  serial_of : (log : Log) (written : ℕ) (rest : List Line) → Runs log base (λ s. new_session) 0 (lines_of attempts) replies end.states written
      → Runs log base (λ s. new_session) 0 (take (length replies) (lines_of attempts ++ rest)) replies end.states written
  serial_of log written rest runs = subst (λ (ls : List Line). Runs log base (λ s. new_session) 0 ls replies end.states written) (sym (first_lines rest)) runs

  ends : (rest : List Line) → EndsAt end.log end.states (length end.log.entries) rest
  ends [] = refl
  ends (line ∷ rest) = inl refl

  pub serial : (rest : List Line) → Serial end.log base faults (lines_of attempts ++ rest) replies
  serial rest = record {
    sound = is_played.end.sound;
    states = end.states;
    written = length end.log.entries;
    answered = serial_of end.log (length end.log.entries) rest is_played.runs;
    ends = subst (EndsAt end.log end.states (length end.log.entries)) (sym (rest_is rest)) (ends rest);
    few = may.few;
  }

  -- the first line that isn't answered left its group
  module _ (line : Line) (rest : List Line) (write : MayWrite end line) where
    abbrev received : ℕ
    received = clock (end.used + file_readings end)

    left : HasLeft (longer base end (lines_of attempts) replies is_played line write.good write.allowed write.some received) line.0 (length end.log.entries) (end.states line.0) line.1
    left = record {
      mailbox = end.mailbox;
      met = was_there base end (lines_of attempts) replies is_played line write.good write.allowed write.some received;
      told = is_played.told line.0;
      write = write.write;
      allowed = allowed_later base end (lines_of attempts) replies is_played line write.good write.allowed write.some received;
      written = has_written base end (lines_of attempts) replies is_played line write.good write.allowed write.some received (length end.log.entries + 1) refl;
    }

    pub leaves : Serial (with_group_here clock end line).log base faults (lines_of attempts ++ line ∷ rest) replies
    leaves = rw write.some (record {
      sound = longer_sound base end (lines_of attempts) replies is_played line write.good write.allowed write.some received;
      states = end.states;
      written = length end.log.entries;
      answered = serial_of _ (length end.log.entries) (line ∷ rest) (runs_longer base end (lines_of attempts) replies is_played line write.good write.allowed write.some received);
      ends = subst (EndsAt _ end.states (length end.log.entries)) (sym (rest_is (line ∷ rest)))
          (inr (many_entries base end (lines_of attempts) replies is_played line write.good write.allowed write.some received, left));
      few = may.few;
    })

-- ---- one line more

pub goes_on : (clock : ℕ → ℕ) (play : Play) (attempts : List Attempt) (a : Attempt) → played clock play (attempts ++ a ∷ []) ≡ (step clock (played clock play attempts) a).play
goes_on clock play [] a = refl
goes_on clock play (b ∷ attempts) a = goes_on clock (step clock play b).play attempts a

pub replies_go_on : (clock : ℕ → ℕ) (play : Play) (attempts : List Attempt) (a : Attempt)
    → replies_to clock play (attempts ++ a ∷ []) ≡ replies_to clock play attempts ++ (step clock (played clock play attempts) a).replies ∷ []
replies_go_on clock play [] a = refl
replies_go_on clock play (b ∷ attempts) a = ap (λ (rs : List (List Reply)). (step clock play b).replies ∷ rs) (replies_go_on clock (step clock play b).play attempts a)
