-- A play goes the same way over readings that are alike up to those that it used.
use Rattle.std.proofs.Common.{◌≡◌, ℕ, ◌+◌, ◌<◌, ◌≤◌, Bool, true, false, List, [], ◌∷◌, ◌++◌, Option, Some, None, refl, sym, ◌∙◌, ap, subst, arith}
use Rattle.std.specs.Prelude.{if◌then◌else◌}
use Rattle.dv_model.specs.declared.types.Command.{Command}
use Rattle.dv_model.specs.declared.types.Command.TheVariants as command
use Rattle.dv_model.specs.declared.types.Group.{Group}
use Rattle.dv_model.specs.declared.types.Mailbox.{Mailbox}
use Rattle.dv_model.specs.declared.types.Reply.{Reply}
use Rattle.dv_model.specs.Journals.{Log}
use Rattle.dv_model.specs.Sessions.{is_append}
use Rattle.dv_model.specs.Transcripts.{Line, touches_disk, with_written}
use Rattle.dv_playing.specs.Playing.{Attempt, Failed, Outcome, Play, Served, fared, file_readings, group_here, is_empty, message_readings, played, refused_here, replies_to, step, stepped_by, told, used_by, with_group_here}
use Rattle.dv_serving.specs.Places.{IsFailedWrite}
use Rattle.dv_serving.specs.Readings.{AreAlike}
use Rattle.dv_serving.proofs.Places.{with_group, without_group, written_here}
use Rattle.dv_serving.proofs.Readings.{alike_less}

-- ---- a group

-- when a message came counts for an append alone
pub dated_same : (log : Log) (author : ℕ) (c : Command) (r s : ℕ) (g : Group) (m : Mailbox) → (is_append c ≡ true → r ≡ s) → with_written log author c r g m ≡ with_written log author c s g m
dated_same log author (command.Append flags keywords message) r s g m same = ap (λ (n : ℕ). with_written log author (command.Append flags keywords message) n g m) (same refl)
dated_same log author c r s g m same = refl

module _ (play : Play) (line : Line) where
  -- where a message is read for, that reading is used
  used_message : is_empty (group_here play line) ≡ false → is_append line.1 ≡ true → play.used + file_readings play < used_by play line
  used_message some append =
      let is : used_by play line ≡ play.used + file_readings play + 1 =
      ap (λ (b : Bool). if b then play.used else play.used + file_readings play + message_readings line) some
      ∙ ap (λ (b : Bool). play.used + file_readings play + (if b then 1 else 0)) append in
      omega (arith, is)

  used_on : (b : Bool) → is_empty (group_here play line) ≡ b → play.used ≤ used_by play line
  used_on true none =
      let is : used_by play line ≡ play.used = ap (λ (b : Bool). if b then play.used else play.used + file_readings play + message_readings line) none in
      omega (arith, is)
  used_on false some =
      let is : used_by play line ≡ play.used + file_readings play + message_readings line =
      ap (λ (b : Bool). if b then play.used else play.used + file_readings play + message_readings line) some in
      omega (arith, is)

  pub used_grows : play.used ≤ used_by play line
  used_grows = used_on (is_empty (group_here play line)) refl

  module _ (one other : ℕ → ℕ) (alike : AreAlike (used_by play line) one other) where
    group_so : (b : Bool) → is_empty (group_here play line) ≡ b → with_group_here one play line ≡ with_group_here other play line
    group_so true none = without_group one play line none ∙ sym (without_group other play line none)
    group_so false some =
        with_group one play line some
        ∙ ap (λ (log : Log). record (written_here other play line) { log = log })
        (dated_same play.log line.0 line.1 (one (play.used + file_readings play)) (other (play.used + file_readings play)) (group_here play line) play.mailbox
        (λ append. alike (play.used + file_readings play) (used_message some append)))
        ∙ sym (with_group other play line some)

    pub group_alike : with_group_here one play line ≡ with_group_here other play line
    group_alike = group_so (is_empty (group_here play line)) refl

-- ---- one line

module _ (clock : ℕ → ℕ) (play : Play) (line : Line) where
  used_served : (b : Bool) → is_empty (group_here play line) ≡ b → (with_group_here clock play line).used ≡ used_by play line
  used_served true none =
      ap (λ (p : Play). p.used) (without_group clock play line none)
      ∙ sym (ap (λ (b : Bool). if b then play.used else play.used + file_readings play + message_readings line) none)
  used_served false some = ap (λ (p : Play). p.used) (with_group clock play line some)

  pub fared_used : (o : Outcome) → (fared clock play line o).play.used ≡ used_by play line
  fared_used Served = used_served (is_empty (group_here play line)) refl
  fared_used (Failed faults rotation) = refl

module _ (one other : ℕ → ℕ) (play : Play) (a : Attempt) where
  abbrev outcome : Outcome
  outcome = if touches_disk a.line.1 then a.outcome else Served

  used_stepped : (o : Option Reply) → play.used ≤ (stepped_by one play a o).play.used
  used_stepped (Some refusal) = omega arith
  used_stepped None =
      let grows = used_grows play a.line in
      let is = fared_used one play a.line outcome in
      omega (arith, grows, is)

  pub used_step : play.used ≤ (step one play a).play.used
  used_step = used_stepped (refused_here play a.line)

  fared_alike : (o : Outcome) → AreAlike (used_by play a.line) one other → fared one play a.line o ≡ fared other play a.line o
  fared_alike Served alike = ap (told play a.line) (group_alike play a.line one other alike)
  fared_alike (Failed faults rotation) alike = refl

  stepped_alike : (o : Option Reply) → AreAlike (stepped_by one play a o).play.used one other → stepped_by one play a o ≡ stepped_by other play a o
  stepped_alike (Some refusal) alike = refl
  stepped_alike None alike = fared_alike outcome (subst (λ (n : ℕ). AreAlike n one other) (fared_used one play a.line outcome) alike)

  pub step_alike : AreAlike (step one play a).play.used one other → step one play a ≡ step other play a
  step_alike = stepped_alike (refused_here play a.line)

-- ---- lines in turn

pub used_more : (clock : ℕ → ℕ) (play : Play) (attempts : List Attempt) → play.used ≤ (played clock play attempts).used
used_more clock play [] = omega arith
used_more clock play (a ∷ attempts) =
    let first = used_step clock clock play a in
    let rest = used_more clock (step clock play a).play attempts in
    omega (arith, first, rest)

-- lines in front use no more than all
pub used_front : (clock : ℕ → ℕ) (play : Play) (front back : List Attempt) → (played clock play front).used ≤ (played clock play (front ++ back)).used
used_front clock play [] back = used_more clock play back
used_front clock play (a ∷ front) back = used_front clock (step clock play a).play front back

module _ (one other : ℕ → ℕ) where
  first_alike : (play : Play) (a : Attempt) (attempts : List Attempt) → AreAlike (played one play (a ∷ attempts)).used one other → step one play a ≡ step other play a
  first_alike play a attempts alike =
      step_alike one other play a (alike_less (step one play a).play.used (played one play (a ∷ attempts)).used one other (used_more one (step one play a).play attempts) alike)

  pub played_alike : (play : Play) (attempts : List Attempt) → AreAlike (played one play attempts).used one other → played one play attempts ≡ played other play attempts
  played_alike play [] alike = refl
  played_alike play (a ∷ attempts) alike =
      played_alike (step one play a).play attempts alike ∙ ap (λ s. played other s.play attempts) (first_alike play a attempts alike)

  pub replies_alike : (play : Play) (attempts : List Attempt) → AreAlike (played one play attempts).used one other → replies_to one play attempts ≡ replies_to other play attempts
  replies_alike play [] alike = refl
  replies_alike play (a ∷ attempts) alike =
      ap (λ rs. (step one play a).replies ∷ rs) (replies_alike (step one play a).play attempts alike)
      ∙ ap (λ s. s.replies ∷ replies_to other s.play attempts) (first_alike play a attempts alike)

  -- ---- a line that the disk failed

  module _ (play : Play) (front back : List Attempt) (a : Attempt) (failed : IsFailedWrite (played one play front) a) where
    abbrev met : Play
    met = played one play front

    -- its readings were used
    used_failed : (step one met a).play.used ≡ used_by met a.line
    used_failed =
        ap (λ (o : Option Reply). (stepped_by one met a o).play.used) failed.write.allowed
        ∙ fared_used one met a.line (if touches_disk a.line.1 then a.outcome else Served)

    used_by_all : used_by met a.line ≤ (played one play (front ++ a ∷ back)).used
    used_by_all = let is = used_failed in let more = steps_on play front in omega (arith, is, more)
      where
        steps_on : (p : Play) (fs : List Attempt) → (step one (played one p fs) a).play.used ≤ (played one p (fs ++ a ∷ back)).used
        steps_on p [] = used_more one (step one p a).play back
        steps_on p (f ∷ fs) = steps_on (step one p f).play fs

    module _ (alike : AreAlike (played one play (front ++ a ∷ back)).used one other) where
      -- the log with its group is the same
      pub failed_alike : with_group_here one met a.line ≡ with_group_here other met a.line
      failed_alike = group_alike met a.line one other (alike_less (used_by met a.line) (played one play (front ++ a ∷ back)).used one other used_by_all alike)
