-- Each line that is played is answered by the rules, over a log that stays sound.
use Rattle.std.proofs.Common.{◌≡◌, inl, inr, ℕ, ◌+◌, ◌≤◌, Bool, true, false, cond, List, [], ◌∷◌, ◌++◌, length, nat_eq, Option, Some, None, refl, sym, ◌∙◌, ap, subst, arith}
use Rattle.std.specs.Prelude.{IsSome, flat_map, fold, unwrap_or}
use Rattle.std.proofs.lemmas.Bool.Decides.{nat_tests}
use Rattle.std.proofs.lemmas.List.Sums.{fold-append}
use Rattle.dv_model.specs.declared.types.Entry.{Entry}
use Rattle.dv_model.specs.declared.types.Group.{Group}
use Rattle.dv_model.specs.declared.types.Mailbox.{Mailbox}
use Rattle.dv_model.specs.declared.types.Mark.{Mark}
use Rattle.dv_model.specs.declared.types.Record.{Record}
use Rattle.dv_model.specs.declared.types.Reply.{Reply}
use Rattle.dv_model.specs.declared.types.Reply.TheVariants as reply
use Rattle.dv_model.specs.Effects.{applied}
use Rattle.dv_model.specs.Journals.{IsEntry, IsSound, Log, at, mark_behind, mark_of}
use Rattle.dv_model.specs.Sessions.{Answer, State, answer, group_of, new_session, refusal_of}
use Rattle.dv_model.specs.Transcripts.{Answered, HasWritten, IsTold, Line, Runs, refused_at, touches_disk, with_state, with_written}
use Rattle.dv_model.proofs.Transcripts.{at_all, mark_all, runs_on}
use Rattle.dv_validity.proofs.Entries.{group_is_entry}
use Rattle.dv_validity.proofs.Going.{runs_stay_on}
use Rattle.dv_validity.proofs.Groups.{group_applies, uid_left}
use Rattle.dv_validity.proofs.Logs.{Extends, resets_at, valid_at, written_at, written_entry, written_extends, written_group, written_length, written_message, written_sound}
use Rattle.dv_playing.specs.Laws.{IsAbove, IsAtEnd, IsAttempt, IsLine}
use Rattle.dv_playing.specs.Playing.{Attempt, Failed, Outcome, Play, Rotation, Served, Step, begin, behind_failure, fared, file_readings, group_here, is_empty, refused_here, step, stepped_by, told, with_group_here}

-- the lines so far were answered over the log so far
pub record IsPlayed (base : ℕ) (play : Play) (lines : List Line) (replies : List (List Reply)) : Type 0 where
  pub end : IsAtEnd play
  pub runs : Runs play.log base (λ s. new_session) 0 lines replies play.states (length play.log.entries)
  pub told : (s : ℕ) → (play.states s).told ≤ length play.log.entries

-- ---- states

same_states : (states : ℕ → State) (s : ℕ) → with_state states s (states s) ≡ states
same_states states s = λ i t. at_each t i
  where
    at_each : (t : ℕ) → with_state states s (states s) t ≡ states t
    at_each t = by_test (nat_eq s t) refl
      where
        by_test : (b : Bool) → nat_eq s t ≡ b → cond b (states s) (states t) ≡ states t
        by_test true is = let e : s ≡ t = grind (arith, nat_tests) in ap states e
        by_test false is = refl

told_with : (states : ℕ → State) (s n : ℕ) (y : State) → y.told ≤ n → ((t : ℕ) → (states t).told ≤ n) → (t : ℕ) → (with_state states s y t).told ≤ n
told_with states s n y here others t = by_test (nat_eq s t)
  where
    by_test : (b : Bool) → (cond b y (states t)).told ≤ n
    by_test true = here
    by_test false = others t

-- ---- the beginning

pub begins : (base : ℕ) (start : Log) → IsSound start → start.entries ≡ [] → IsPlayed base (begin start) [] []
begins base start sound new = record {
  end = record {
    sound = sound;
    mailbox = at_all start ∙ ap (λ (es : List Entry). applied start.start (flat_map (λ e. e.group.records) es)) new;
    mark = sym (mark_all start ∙ ap (λ (es : List Entry). fold (λ mark e. mark_behind start.rotates mark e.group) start.start_mark es) new);
  };
  runs = (refl, ap length new);
  told = λ s. omega arith;
}

-- ---- a line that leaves the log as it is

module _ (base : ℕ) (play : Play) (lines : List Line) (replies : List (List Reply)) (is : IsPlayed base play lines replies) (line : Line) where
  abbrev x : State
  x = play.states line.0

  abbrev k : ℕ
  k = length play.log.entries

  -- the refusal at the place where the play stands
  refused_is : (o : Option Reply) → refused_here play line ≡ o → refused_at play.log k x line.1 play.mailbox ≡ o
  refused_is o e = ap (λ (mark : Mark). refusal_of x line.1 play.mailbox play.log.rotates mark play.log.guid) (sym is.end.mark) ∙ e

  unchanged : (last : List Reply) → Answered play.log base line.0 k k x line.1 last x
      → Runs play.log base (λ s. new_session) 0 (lines ++ line ∷ []) (replies ++ last ∷ []) play.states k
  unchanged last answered =
      subst (λ (states : ℕ → State). Runs play.log base (λ s. new_session) 0 (lines ++ line ∷ []) (replies ++ last ∷ []) states k) (same_states play.states line.0)
      (runs_on play.log base (λ s. new_session) 0 lines replies play.states k line last x k is.runs answered)

  refused_played : (r : Reply) → refused_here play line ≡ Some r → IsPlayed base play (lines ++ line ∷ []) (replies ++ (r ∷ []) ∷ [])
  refused_played r e = record {
    end = is.end;
    runs = unchanged (r ∷ [])
        (inl (record { before = play.mailbox; was_there = is.end.mailbox; line = r; refusal = refused_is (Some r) e; one_line = refl; nothing_written = refl; stays = refl }));
    told = is.told;
  }

  failed_played : (faults : ℕ) (rotation : Rotation) → refused_here play line ≡ None → touches_disk line.1 ≡ true → IsAbove base (Failed faults rotation)
      → IsPlayed base (behind_failure play line rotation) (lines ++ line ∷ []) (replies ++ (reply.Unavailable faults ∷ []) ∷ [])
  failed_played faults rotation allowed touches above = record {
    end = record { sound = is.end.sound; mailbox = is.end.mailbox; mark = is.end.mark };
    runs = unchanged (reply.Unavailable faults ∷ [])
        (inr (inl (record {
          before = play.mailbox;
          was_there = is.end.mailbox;
          allowed = refused_is None allowed;
          touches = touches;
          faults = faults;
          above = above;
          one_line = refl;
          nothing_written = refl;
          stays = refl;
        })));
    told = is.told;
  }

  empty_is : (rs : List Record) → nat_eq (length rs) 0 ≡ true → rs ≡ []
  empty_is [] e = refl
  empty_is (r ∷ rs) e = let none : length (r ∷ rs) ≡ 0 = grind (arith, nat_tests) in absurd (omega (arith, none))

  -- nothing to write
  abbrev plain : Answer
  plain = answer play.log.mail x line.1 play.mailbox k play.mailbox play.mark

  plain_told : refused_here play line ≡ None → is_empty (group_here play line) ≡ true → IsTold play.log line.0 k k x line.1 plain.replies plain.next
  plain_told allowed empty = record {
    before = play.mailbox;
    was_there = is.end.mailbox;
    allowed = refused_is None allowed;
    wrote = inr (refl, empty_is (group_here play line).records empty);
    mailbox = play.mailbox;
    is_there = is.end.mailbox;
    seen = (is.told line.0, omega arith);
    is = ap (λ (mark : Mark). answer play.log.mail x line.1 play.mailbox k play.mailbox mark) (sym is.end.mark);
  }

  plain_played : refused_here play line ≡ None → is_empty (group_here play line) ≡ true
      → IsPlayed base (told play line play).play (lines ++ line ∷ []) (replies ++ (told play line play).replies ∷ [])
  plain_played allowed empty = record {
    end = record { sound = is.end.sound; mailbox = is.end.mailbox; mark = is.end.mark };
    runs = runs_on play.log base (λ s. new_session) 0 lines replies play.states k line plain.replies plain.next k is.runs (inr (inr (plain_told allowed empty)));
    told = told_with play.states line.0 k plain.next (omega arith) is.told;
  }

-- ---- a line that writes its group

some_is : (o : Option Mailbox) (m : Mailbox) → IsSome o → o ≡ Some (unwrap_or o m)
some_is None m some = absurd cc
some_is (Some n) m some = refl

module _ (base : ℕ) (play : Play) (lines : List Line) (replies : List (List Reply)) (is : IsPlayed base play lines replies) (line : Line) (good : IsLine line)
    (allowed : refused_here play line ≡ None) (some : is_empty (group_here play line) ≡ false) (received : ℕ) where
  abbrev y : State
  y = play.states line.0

  abbrev met : ℕ
  met = length play.log.entries

  abbrev g : Group
  g = group_here play line

  abbrev pub longer : Log
  longer = with_written play.log line.0 line.1 received g play.mailbox

  abbrev pub after : Mailbox
  after = unwrap_or (applied play.mailbox g.records) play.mailbox

  allowed_is : refused_at play.log met y line.1 play.mailbox ≡ None
  allowed_is = refused_is base play lines replies is line None allowed

  applies : applied play.mailbox g.records ≡ Some after
  applies = some_is (applied play.mailbox g.records) play.mailbox (group_applies line.1 y.view play.mailbox play.log.guid good.1)

  has_some : (rs : List Record) → nat_eq (length rs) 0 ≡ false → 1 ≤ length rs
  has_some rs e = grind (arith, nat_tests)

  pub is_entry : IsEntry (record { author = line.0; group = g })
  is_entry =
      let valid = valid_at play.log is.end.sound met play.mailbox is.end.mailbox in
      group_is_entry line.1 y.view play.mailbox play.log.guid line.0 good.1 valid (resets_at play.log is.end.sound met play.mailbox is.end.mailbox) is.end.sound.guids good.0
      (uid_left y line.1 play.mailbox play.log.rotates play.mark play.log.guid valid allowed) (has_some g.records some)

  pub on : Extends play.log longer
  on = written_extends play.log is.end.sound line.0 line.1 received g play.mailbox is.end.mailbox

  pub many_entries : length longer.entries ≡ met + 1
  many_entries = written_length play.log is.end.sound line.0 line.1 received g play.mailbox is.end.mailbox

  pub was_there : at longer met ≡ Some play.mailbox
  was_there = on.same_at met (omega arith) ∙ is.end.mailbox

  pub allowed_later : refused_at longer met y line.1 play.mailbox ≡ None
  allowed_later = on.refusal met play.mailbox y line.1 (omega arith) is.end.mailbox ∙ allowed_is

  pub has_written : (q : ℕ) → q ≡ met + 1 → HasWritten longer line.0 met q y.view line.1 play.mailbox
  has_written q behind =
      let same : g ≡ group_of line.1 y.view play.mailbox longer.guid = written_group play.log is.end.sound line.0 line.1 received g play.mailbox is.end.mailbox y.view in
      record {
        behind = behind;
        some = subst (λ (h : Group). 1 ≤ length h.records) same (has_some g.records some);
        entry = written_entry play.log is.end.sound line.0 line.1 received g play.mailbox is.end.mailbox ∙ ap (λ (h : Group). Some (record { author = line.0; group = h })) same;
        message = written_message play.log is.end.sound line.0 line.1 received g play.mailbox is.end.mailbox;
      }

  abbrev behind : Mark
  behind = mark_behind play.log.rotates play.mark g

  mark_is : behind ≡ mark_of longer (length longer.entries)
  mark_is =
      let next : Mark → Entry → Mark = λ mark e. mark_behind play.log.rotates mark e.group in
      ap (λ (mark : Mark). mark_behind play.log.rotates mark g) (is.end.mark ∙ mark_all play.log)
      ∙ sym (fold-append next play.log.start_mark play.log.entries (record { author = line.0; group = g } ∷ []))
      ∙ sym (mark_all longer)

  pub longer_sound : IsSound longer
  longer_sound =
      written_sound play.log is.end.sound line.0 line.1 received g play.mailbox is.end.mailbox is_entry (group_applies line.1 y.view play.mailbox play.log.guid good.1)

  pub end_is : at longer (length longer.entries) ≡ Some after
  end_is = written_at play.log is.end.sound line.0 line.1 received g play.mailbox is.end.mailbox ∙ applies

  pub runs_longer : Runs longer base (λ s. new_session) 0 lines replies play.states met
  runs_longer = runs_stay_on play.log longer on base (λ s. new_session) 0 lines replies play.states met (omega arith) is.runs

  abbrev a : Answer
  a = answer longer.mail y line.1 play.mailbox (length longer.entries) after behind

  longer_told : IsTold longer line.0 met (length longer.entries) y line.1 a.replies a.next
  longer_told = record {
    before = play.mailbox;
    was_there = was_there;
    allowed = allowed_later;
    wrote = inl (has_written (length longer.entries) many_entries);
    mailbox = after;
    is_there = end_is;
    seen = (omega (arith, is.told line.0, many_entries), omega arith);
    is = ap (λ (mark : Mark). answer longer.mail y line.1 play.mailbox (length longer.entries) after mark) (sym mark_is);
  }

  abbrev written : ℕ → Play
  written used = record play { log = longer; mailbox = after; mark = behind; begun = false; used = used }

  written_played : (used : ℕ) → IsPlayed base (told play line (written used)).play (lines ++ line ∷ []) (replies ++ (told play line (written used)).replies ∷ [])
  written_played used = record {
    end = record { sound = longer_sound; mailbox = end_is; mark = mark_is };
    runs = runs_on longer base (λ s. new_session) 0 lines replies play.states met line a.replies a.next (length longer.entries) runs_longer (inr (inr longer_told));
    told = told_with play.states line.0 (length longer.entries) a.next (omega arith) (λ t. omega (arith, is.told t, many_entries));
  }

-- ---- any line

module _ (clock : ℕ → ℕ) (base : ℕ) (play : Play) (lines : List Line) (replies : List (List Reply)) (is : IsPlayed base play lines replies) where
  served_played : (line : Line) → IsLine line → refused_here play line ≡ None
      → IsPlayed base (told play line (with_group_here clock play line)).play (lines ++ line ∷ []) (replies ++ (told play line (with_group_here clock play line)).replies ∷ [])
  served_played line good allowed = by_group (is_empty (group_here play line)) refl
    where
      by_group : (b : Bool) → is_empty (group_here play line) ≡ b
          → IsPlayed base (told play line (with_group_here clock play line)).play (lines ++ line ∷ []) (replies ++ (told play line (with_group_here clock play line)).replies ∷ [])
      by_group true e = rw e (plain_played base play lines replies is line allowed e)
      by_group false e = rw e (written_played base play lines replies is line good allowed e (clock (play.used + file_readings play)) _)

  fared_played : (line : Line) (outcome : Outcome) → IsLine line → refused_here play line ≡ None → IsAbove base outcome → (b : Bool) → touches_disk line.1 ≡ b
      → let s : Step = fared clock play line (cond b outcome Served) in IsPlayed base s.play (lines ++ line ∷ []) (replies ++ s.replies ∷ [])
  fared_played line outcome good allowed above false touches = served_played line good allowed
  fared_played line Served good allowed above true touches = served_played line good allowed
  fared_played line (Failed faults rotation) good allowed above true touches = failed_played base play lines replies is line faults rotation allowed touches above

  stepped_played : (a : Attempt) → IsAttempt base a → (o : Option Reply) → refused_here play a.line ≡ o
      → IsPlayed base (stepped_by clock play a o).play (lines ++ a.line ∷ []) (replies ++ (stepped_by clock play a o).replies ∷ [])
  stepped_played a may (Some r) e = refused_played base play lines replies is a.line r e
  stepped_played a may None e = fared_played a.line a.outcome may.line e may.count (touches_disk a.line.1) refl

  pub step_played : (a : Attempt) → IsAttempt base a → IsPlayed base (step clock play a).play (lines ++ a.line ∷ []) (replies ++ (step clock play a).replies ∷ [])
  step_played a may = stepped_played a may (refused_here play a.line) refl
