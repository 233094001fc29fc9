-- What a crash leaves behind lines keeps those that were answered.
use Rattle.std.proofs.Common.{◌≡◌, ◌⊎◌, inl, inr, ⊎_elim, ℕ, ◌+◌, ◌≤◌, List, [], ◌∷◌, ◌++◌, append-nil, length, take, drop, Some, refl, sym, ◌∙◌, ap, subst, arith}
use Rattle.std.specs.Prelude.{All}
use Rattle.std.proofs.lemmas.List.{take_at}
use Rattle.std.proofs.lemmas.List.Elements.{All-push}
use Rattle.dv_model.specs.declared.types.Mailbox.{Mailbox}
use Rattle.dv_model.specs.declared.types.Mark.{Mark}
use Rattle.dv_model.specs.declared.types.Reply.{Reply}
use Rattle.dv_model.specs.Journals.{IsSound, Log, at}
use Rattle.dv_model.specs.Sessions.{State, new_session}
use Rattle.dv_model.specs.Transcripts.{Line, Runs}
use Rattle.dv_shelf.specs.Folders.{Folder}
use Rattle.dv_validity.proofs.Going.{runs_stay_on}
use Rattle.dv_interleavings.specs.Promises.{GoesOn}
use Rattle.dv_promises.proofs.Logs.{goes_on_further}
use Rattle.dv_writing.specs.Keeping.{Gives}
use Rattle.dv_playing.specs.Laws.{IsAttempt, MayPlay, MayWrite, lines_of}
use Rattle.dv_playing.specs.Playing.{Attempt, Failed, Play, Served, begin, file_readings, replies_to, step, with_group_here}
use Rattle.dv_playing.proofs.Plays.{goes_on, length_replies}
use Rattle.dv_playing.proofs.Steps.{IsPlayed, end_is, longer_sound, many_entries, on}
use Rattle.dv_serial.specs.Following.{IsLeft, MayBeLeft}
use Rattle.dv_serial.specs.Places.{GivesBehind, IsLastFailed, play_of}
use Rattle.dv_serving.specs.Places.{GivesPlay, GivesWith, next_file}
use Rattle.dv_serving.proofs.Places.{with_group}
use Rattle.dv_serial.proofs.Running.{served_log}
use Rattle.dv_power_cuts.specs.Acknowledging.{KeepsAnswered}
use Rattle.dv_power_cuts.proofs.Growing.{all_front, front_shorter, goes_from, goes_with, log_with_line, played_from, with_line_is}

-- ---- which line failed

-- it is the last one, or among those before
last_or_front : (front : List Attempt) (b : Attempt) (back answered : List Attempt) (a : Attempt) → answered ++ a ∷ [] ≡ front ++ b ∷ back
    → (b ≡ a) ⊎ ((rest : List Attempt) × (answered ≡ front ++ rest))
last_or_front [] b back [] a e = let same : a ≡ b = cc in inl (sym same)
last_or_front [] b back (x ∷ answered) a e = inr (x ∷ answered, refl)
last_or_front (f ∷ front) b back [] a e = absurd (none_left front (ap (drop 1) e))
  where
    none_left : (fs : List Attempt) → [] ≡ fs ++ b ∷ back → ⊥
    none_left [] e = absurd cc
    none_left (g ∷ fs) e = absurd cc
last_or_front (f ∷ front) b back (x ∷ answered) a e =
    let first : x ≡ f = cc in
    ⊎_elim inl (λ rest. inr (rest.0, ap (λ (these : List Attempt). x ∷ these) rest.1 ∙ ap (λ (y : Attempt). y ∷ (front ++ rest.0)) first))
    (last_or_front front b back answered a (ap (drop 1) e))

-- ---- a log that has the answered lines' groups, and one more at most

pub record Covers (base : ℕ) (start : Log) (lines : List Line) (replies : List (List Reply))
    (states : ℕ → State) (entries : ℕ) (log : Log) : Type 0 where
  pub goes : GoesOn start log
  pub sound : IsSound log
  pub runs : Runs log base (λ s. new_session) 0 lines replies states entries
  pub most : (entries ≤ length log.entries) × (length log.entries ≤ entries + 1)

module _ (clock : ℕ → ℕ) (start : Log) (base faults : ℕ) (answered : List Attempt) (may : MayPlay clock start base faults answered) where
  abbrev here : Play
  here = play_of clock start answered

  abbrev replies : List (List Reply)
  replies = replies_to clock (begin start) answered

  played_here : IsPlayed base here (lines_of answered) replies
  played_here = played_from clock start base may.sound may.new answered may.each

  abbrev CoversAll : Log → Type 0
  CoversAll log = Covers base start (lines_of answered) replies here.states (length here.log.entries) log

  covers_here : CoversAll here.log
  covers_here = record {
    goes = goes_from clock start base may.sound may.new answered may.each;
    sound = played_here.end.sound;
    runs = played_here.runs;
    most = (omega arith, omega arith);
  }

  -- with the group of a line that met a play with that log
  module _ (met : Play) (lines : List Line) (told : List (List Reply)) (is : IsPlayed base met lines told) (same : met.log ≡ here.log) (line : Line) (write : MayWrite met line) where
    abbrev received : ℕ
    received = clock (met.used + file_readings met)

    abbrev more : Log
    more = log_with_line clock base met lines told is line

    one_more : length more.entries ≡ length met.log.entries + 1
    one_more = many_entries base met lines told is line write.good write.allowed write.some received

    as_many : length met.log.entries ≡ length here.log.entries
    as_many = ap (λ (log : Log). length log.entries) same

    covers_longer : CoversAll more
    covers_longer = record {
      goes = goes_on_further start met.log more (subst (GoesOn start) (sym same) covers_here.goes) (goes_with clock base met lines told is line write);
      sound = longer_sound base met lines told is line write.good write.allowed write.some received;
      runs = runs_stay_on met.log more (on base met lines told is line write.good write.allowed write.some received) base (λ s. new_session) 0 (lines_of answered) replies here.states (length here.log.entries) (omega (arith, as_many))
          (subst (λ (log : Log). Runs log base (λ s. new_session) 0 (lines_of answered) replies here.states (length here.log.entries)) (sym same) played_here.runs);
      most = (omega (arith, one_more, as_many), omega (arith, one_more, as_many));
    }

    pub covers_with : CoversAll (with_group_here clock met line).log
    covers_with = subst CoversAll (sym (with_line_is clock base met lines told is line write)) covers_longer

    pub end_with : at (with_group_here clock met line).log (length (with_group_here clock met line).log.entries) ≡ Some (with_group_here clock met line).mailbox
    end_with =
        let behind = with_group clock met line write.some in
        subst (λ (p : Play). at p.log (length p.log.entries) ≡ Some p.mailbox) (sym behind) (end_is base met lines told is line write.good write.allowed write.some received)

  -- ---- a folder that gives such a log

  module _ (rest : List Line) (c : Folder) where
    first_lines : take (length replies) (lines_of answered ++ rest) ≡ lines_of answered
    first_lines = take_at (lines_of answered) rest (length replies) (length_replies clock (begin start) answered)

    kept : (log : Log) (m : Mailbox) (mark : Mark) → CoversAll log → at log (length log.entries) ≡ Some m → Gives log m mark c → KeepsAnswered base start (lines_of answered ++ rest) replies c
    kept log m mark covers end gives = record {
      log = log;
      goes_on = covers.goes;
      sound = covers.sound;
      states = here.states;
      entries = length here.log.entries;
      answered = subst (λ (ls : List Line). Runs log base (λ s. new_session) 0 ls replies here.states (length here.log.entries)) (sym first_lines) covers.runs;
      most = covers.most;
      mailbox = m;
      is = end;
      mark = mark;
      gives = gives;
    }

    kept_play : (play : Play) → CoversAll play.log → at play.log (length play.log.entries) ≡ Some play.mailbox → GivesPlay play c → KeepsAnswered base start (lines_of answered ++ rest) replies c
    kept_play play covers end =
        ⊎_elim (kept play.log play.mailbox play.mark covers end) (λ next. kept play.log play.mailbox (next_file play.mark) covers end next.1)

    -- with the group of a line that the disk failed
    kept_failed : (attempts : List Attempt) → All (IsAttempt base) attempts → (met : Play) (b : Attempt) → IsLastFailed clock start attempts met b → met.log ≡ here.log → GivesWith clock met b.line c
        → KeepsAnswered base start (lines_of answered ++ rest) replies c
    kept_failed attempts each met b last same gives =
        let front = last.front in
        let good = all_front (IsAttempt base) front (b ∷ last.back) (subst (All (IsAttempt base)) last.lines each) in
        let is : IsPlayed base met (lines_of front) (replies_to clock (begin start) front) =
        subst (λ (p : Play). IsPlayed base p (lines_of front) (replies_to clock (begin start) front)) (sym last.was) (played_from clock start base may.sound may.new front good) in
        let behind : Play = with_group_here clock met b.line in
        kept behind.log behind.mailbox behind.mark (covers_with met (lines_of front) (replies_to clock (begin start) front) is same b.line last.failed.write)
        (end_with met (lines_of front) (replies_to clock (begin start) front) is same b.line last.failed.write) gives

    -- behind the answered lines
    pub kept_none : GivesBehind clock start answered c → KeepsAnswered base start (lines_of answered ++ rest) replies c
    kept_none = ⊎_elim (kept_play here covers_here played_here.end.mailbox)
        (λ with. kept_failed answered may.each with.0 with.1 with.2 (sym with.2.log) with.3)

    -- ---- or behind one that was left

    module _ (a : Attempt) (left : MayBeLeft clock base here a) where
      abbrev all : List Attempt
      all = answered ++ a ∷ []

      abbrev whole : Play
      whole = play_of clock start all

      each : All (IsAttempt base) all
      each = All-push (IsAttempt base) answered a may.each left.attempt

      whole_is : whole ≡ (step clock here a).play
      whole_is = goes_on clock (begin start) answered a

      played_whole : IsPlayed base whole (lines_of all) (replies_to clock (begin start) all)
      played_whole = played_from clock start base may.sound may.new all each

      -- the log is as it was, or has the line's group
      whole_log : (whole.log ≡ here.log) ⊎ ((a.outcome ≡ Served) × MayWrite here a.line × (whole.log ≡ (with_group_here clock here a.line).log))
      whole_log = by left.log
        where
          by : ((step clock here a).play.log ≡ here.log) ⊎ ((a.outcome ≡ Served) × MayWrite here a.line)
              → (whole.log ≡ here.log) ⊎ ((a.outcome ≡ Served) × MayWrite here a.line × (whole.log ≡ (with_group_here clock here a.line).log))
          by (inl same) = inl (ap (λ (p : Play). p.log) whole_is ∙ same)
          by (inr wrote) = inr (wrote.0, wrote.1, ap (λ (p : Play). p.log) whole_is ∙ served_log clock here a wrote.0 wrote.1)

      covers_whole : CoversAll whole.log
      covers_whole = ⊎_elim (λ same. subst CoversAll (sym same) covers_here)
          (λ wrote. subst CoversAll (sym wrote.2) (covers_with here (lines_of answered) replies played_here refl a.line wrote.1)) whole_log

      -- where its group was written no line that failed was the last
      no_longer : (met : Play) (b : Attempt) → IsLastFailed clock start all met b → a.outcome ≡ Served → MayWrite here a.line → whole.log ≡ (with_group_here clock here a.line).log → ⊥
      no_longer met b last served write is = by (last_or_front last.front b last.back answered a last.lines)
        where
          longer : length whole.log.entries ≡ length here.log.entries + 1
          longer = ap (λ (log : Log). length log.entries) (is ∙ with_line_is clock base here (lines_of answered) replies played_here a.line write)
              ∙ many_entries base here (lines_of answered) replies played_here a.line write.good write.allowed write.some (clock (here.used + file_readings here))

          by : (b ≡ a) ⊎ ((more : List Attempt) × (answered ≡ last.front ++ more)) → ⊥
          by (inl same) = not_both (sym last.failed.outcome ∙ ap (λ (x : Attempt). x.outcome) same ∙ served)
            where
              not_both : Failed last.failed.faults last.failed.rotation ≡ Served → ⊥
              not_both e = absurd cc
          by (inr front) =
              let few : length (play_of clock start last.front).log.entries ≤ length (play_of clock start (last.front ++ front.0)).log.entries =
              front_shorter clock start base may.sound may.new last.front front.0 (subst (All (IsAttempt base)) front.1 may.each) in
              let met_is : length met.log.entries ≡ length (play_of clock start last.front).log.entries = ap (λ (p : Play). length p.log.entries) last.was in
              let here_is : length here.log.entries ≡ length (play_of clock start (last.front ++ front.0)).log.entries = ap (λ (these : List Attempt). length (play_of clock start these).log.entries) front.1 in
              let same : length whole.log.entries ≡ length met.log.entries = ap (λ (log : Log). length log.entries) last.log in
              absurd (omega (arith, few, met_is, here_is, same, longer))

      met_log : (met : Play) (b : Attempt) → IsLastFailed clock start all met b → met.log ≡ here.log
      met_log met b last = by whole_log
        where
          back : met.log ≡ whole.log
          back = sym last.log

          by : (whole.log ≡ here.log) ⊎ ((a.outcome ≡ Served) × MayWrite here a.line × (whole.log ≡ (with_group_here clock here a.line).log)) → met.log ≡ here.log
          by (inl same) = back ∙ same
          by (inr wrote) = absurd (no_longer met b last wrote.0 wrote.1 wrote.2)

      pub kept_left : GivesBehind clock start all c → KeepsAnswered base start (lines_of answered ++ rest) replies c
      kept_left = ⊎_elim (kept_play whole covers_whole played_whole.end.mailbox)
          (λ with. kept_failed all each with.0 with.1 with.2 (met_log with.0 with.1 with.2) with.3)

    -- ---- whatever was left

    pub kept_behind : (left : List Attempt) (line : Line) → IsLeft clock base here line left → GivesBehind clock start (answered ++ left) c → KeepsAnswered base start (lines_of answered ++ rest) replies c
    kept_behind [] line is gives = kept_none (subst (λ (these : List Attempt). GivesBehind clock start these c) (append-nil answered) gives)
    kept_behind (a ∷ []) line is gives = kept_left a is.1 gives
    kept_behind (a ∷ b ∷ others) line is gives = absurd is
