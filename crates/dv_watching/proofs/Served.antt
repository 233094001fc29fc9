-- A line that is served beside a kept search.
use Rattle.std.proofs.Common.{◌≡◌, ⊎_elim, ℕ, Bool, true, false, List, [], ◌∷◌, ◌++◌, length, nat_lt, Result, Ok, Err, refl, sym, ◌∙◌, ap, subst, arith}
use Rattle.std.specs.Prelude.{IfErr, OnOk, if◌then◌else◌}
use Rattle.std.proofs.lemmas.Bool.{ltb-false, ltb-true}
use Rattle.dv_model.specs.declared.types.Key.{Key}
use Rattle.dv_model.specs.declared.types.Mailbox.{Mailbox}
use Rattle.dv_model.specs.declared.types.Reply.{Reply}
use Rattle.dv_model.specs.Counts.{Rose}
use Rattle.dv_model.specs.Journals.{Log}
use Rattle.dv_model.specs.Mailboxes.{IsValid}
use Rattle.dv_shelf.specs.Sees.{SeesFolder, SeesTime}
use Rattle.dv_shelf.specs.Streams.{Appends, AppendsFront}
use Rattle.dv_playing.specs.Laws.{RiseFrom, failures_of}
use Rattle.dv_playing.specs.Playing.{Attempt, Failed, Outcome, Play, Served, begin, step}
use Rattle.dv_playing.proofs.Plays.{goes_on}
use Rattle.dv_serving.specs.Faults.{Faults, TellsFailure}
use Rattle.dv_serving.specs.Outputs.{output_with}
use Rattle.dv_serving.specs.Scripts.{answer_text}
use Rattle.dv_serial.specs.declared.lines.LineEnd.{LineEnd}
use Rattle.dv_serial.specs.declared.lines.LineEnd.TheVariants as line_end
use Rattle.dv_serial.specs.Following.{EndsAt, IsAt, origin_of}
use Rattle.dv_serial.specs.Places.{play_of}
use Rattle.dv_serial.specs.Runs.{SessionLine, in_transcript}
use Rattle.dv_serial.specs.Serves.{IsServed}
use Rattle.dv_serial.specs.Servings.{Serving}
use Rattle.dv_serial.proofs.Growing.{MayGrow}
use Rattle.dv_serial.proofs.Running.{served_attempt}
use Rattle.dv_live.specs.Keeping.{KeptSearch}
use Rattle.dv_live.specs.Laws.{Became, GroupsBecome, IsOf}
use Rattle.dv_watching.specs.Texts.{found_in, told_behind, watch_text}
use Rattle.dv_watching.specs.Watching.{IsSinkEnd, IsWatched, WatchesLine}

-- what is told where a count rose
abbrev pub told_at : Key → ℕ → ℕ → Mailbox → List ℕ
told_at key before now m = if nat_lt before now then watch_text (found_in key m) else []

-- ---- a line that was served

module _ {S C : Type 0} (sees : SeesFolder S) (ticks : SeesTime C) (clock : ℕ → ℕ) (start : Log) (base : ℕ) (faults : Faults) (attempts : List Attempt) (by : SessionLine) (replies : List Reply)
    (old new : Serving S C) (served : IsServed sees ticks (origin_of clock start base) faults attempts (in_transcript by) replies old new) where
  abbrev one : Attempt
  one = record { line = in_transcript by; outcome = served.outcome }

  abbrev here : Play
  here = play_of clock start attempts

  abbrev behind : Play
  behind = (step clock here one).play

  at_end : IsAt behind new
  at_end = subst (λ (p : Play). IsAt p new) (goes_on clock (begin start) attempts one) served.follows.keeps.at

  told_is : (key : Key) → length here.log.entries ≡ old.groups → told_at key old.groups new.groups new.store.chain.live.mailbox ≡ told_behind key here behind
  told_is key groups =
      ap (λ n. told_at key n new.groups new.store.chain.live.mailbox) (sym groups)
      ∙ ap (λ n. told_at key (length here.log.entries) n new.store.chain.live.mailbox) (sym at_end.groups)
      ∙ ap (λ (m : Mailbox). told_at key (length here.log.entries) (length behind.log.entries) m) (sym at_end.mailbox)

  -- its text is written, or a front of it
  pub watched : (key : Key) (written : List ℕ → Type 0) → length here.log.entries ≡ old.groups → written (answer_text by.line replies ++ told_at key old.groups new.groups new.store.chain.live.mailbox)
      → IsWatched sees ticks (origin_of clock start base) faults attempts key by written old new
  watched key written groups output = record {
    replies = replies;
    served = served;
    output = subst written
        (ap (λ t. answer_text by.line replies ++ t) (told_is key groups) ∙ ap (λ (rs : List Reply). answer_text by.line rs ++ told_behind key here behind) (sym served.answers)) output;
  }

  pub watches : (key : Key) (told : Type 0) (taken taken_now text : List ℕ) (result : Result (Unit {0}) LineEnd) → length here.log.entries ≡ old.groups
      → text ≡ answer_text by.line replies ++ told_at key old.groups new.groups new.store.chain.live.mailbox → IfErr result IsSinkEnd
      → (told → OnOk result (Appends taken taken_now text)) → (told → AppendsFront taken taken_now text)
      → WatchesLine sees ticks (origin_of clock start base) faults attempts key by result (output_with told taken taken_now) old new
  watches key told taken taken_now text (Ok done) groups is sink ok err = watched key (λ t. told → Appends taken taken_now t) groups (λ tells. subst (Appends taken taken_now) is (ok tells))
  watches key told taken taken_now text (Err line_end.NoMemory) groups is sink ok err = absurd sink
  watches key told taken taken_now text (Err (line_end.Sink n)) groups is sink ok err = watched key (λ t. told → AppendsFront taken taken_now t) groups (λ tells. subst (AppendsFront taken taken_now) is (err tells))

  failures_rise : (o : Outcome) → TellsFailure faults o → RiseFrom faults.before (failures_of (record { line = in_transcript by; outcome = o } ∷ [])) faults.now
  failures_rise Served tells = tells
  failures_rise (Failed count rotation) tells = (subst (λ n. Rose faults.before n) (sym tells.1) tells.0, omega (arith, tells.1))

  -- memory ended the run behind it
  pub ends_behind : EndsAt sees (origin_of clock start base) faults attempts (in_transcript by) old new
  ends_behind = record {
    left = one ∷ [];
    is = (refl, served_attempt sees ticks clock start base faults attempts (in_transcript by) replies old new served);
    failures = failures_rise served.outcome served.count;
    leaves = record { keeps = served.follows.keeps; since = served.since; settled = served.settled };
    others = served.others;
  }

-- ---- what it wrote

module _ {S C : Type 0} (old new : Serving S C) (touched : List ℕ) (grows : MayGrow old new touched) (wrote : Bool) (is : wrote ≡ nat_lt old.groups new.groups) where
  -- a group, by which the search may follow
  pub became : (become : GroupsBecome) (kept : KeptSearch) → IsOf kept old.store.chain.live.mailbox → IsValid old.store.chain.live.mailbox → wrote ≡ true → Became kept new.store.chain.live.mailbox touched
  became become kept of valid rose = ⊎_elim
      (λ none. let less = ltb-true old.groups new.groups (sym is ∙ rose) in absurd (omega (arith, less, none.groups)))
      (λ one. become kept old.store.chain.live.mailbox new.store.chain.live.mailbox one.records touched of valid one.gives one.leads) grows

  -- or none
  pub stayed : wrote ≡ false → new.store.chain.live.mailbox ≡ old.store.chain.live.mailbox
  stayed still = ⊎_elim (λ none. none.mailbox)
      (λ one. let few = ltb-false old.groups new.groups (sym is ∙ still) in absurd (omega (arith, few, one.groups))) grows

  -- the search is kept of the mailbox as it is then
  pub kept_then : (before now : KeptSearch) → IsOf before old.store.chain.live.mailbox → (wrote ≡ true → IsOf now new.store.chain.live.mailbox) → (wrote ≡ false → now ≡ before) → IsOf now new.store.chain.live.mailbox
  kept_then before now of follows stays = by_test wrote refl
    where
      by_test : (t : Bool) → wrote ≡ t → IsOf now new.store.chain.live.mailbox
      by_test true rose = follows rose
      by_test false still = subst (λ (k : KeptSearch). IsOf k new.store.chain.live.mailbox) (sym (stays still)) (subst (IsOf before) (sym (stayed still)) of)
