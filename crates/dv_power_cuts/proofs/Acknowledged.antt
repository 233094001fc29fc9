-- What a crash behind a run leaves has each line whose answer was written.
use Rattle.std.proofs.Common.{◌≡◌, ◌⊎◌, inl, inr, ⊎_elim, ℕ, List, [], ◌∷◌, ◌++◌, append-nil, Option, Some, None, sym, ◌∙◌, ap, subst}
use Rattle.dv_model.specs.Journals.{Log}
use Rattle.dv_model.specs.Transcripts.{Line}
use Rattle.dv_shelf.specs.Clocks.{behind}
use Rattle.dv_shelf.specs.Crashes.{IsSettled}
use Rattle.dv_shelf.specs.Folders.{Folder}
use Rattle.dv_shelf.specs.Sees.{SeesFolder}
use Rattle.dv_formats.specs.Scripts.{NamedLine}
use Rattle.dv_playing.specs.Laws.{lines_of}
use Rattle.dv_playing.specs.Playing.{Attempt, begin, replies_to}
use Rattle.dv_serving.specs.Faults.{Faults}
use Rattle.dv_serial.specs.Following.{IsLeft}
use Rattle.dv_serving.specs.Outputs.{Output}
use Rattle.dv_serial.specs.Places.{GivesBehind, play_of}
use Rattle.dv_cli.specs.declared.ending.End.{End}
use Rattle.dv_cli.specs.declared.ending.End.TheVariants as end
use Rattle.dv_cli.specs.declared.words.Load.{Load}
use Rattle.dv_cli.specs.declared.words.Task.{Task}
use Rattle.dv_cli.specs.declared.words.Task.TheVariants as task
use Rattle.dv_cli.specs.Causes.{Counts}
use Rattle.dv_cli.specs.Endings.{Concludes}
use Rattle.dv_cli.specs.Runs.{EndsAt, RunsOver, ServesLines}
use Rattle.dv_beginning.specs.Leaving.{IsUnopened}
use Rattle.dv_cli.specs.Spans.{Times}
use Rattle.dv_cli.specs.Tasks.{RepliesTold, load_in, replies_of}
use Rattle.dv_cli.specs.Wholes.{IsRun, IsUnread, shelf_faults}
use Rattle.dv_beginning.proofs.Starting.{quiet_same}
use Rattle.dv_power_cuts.specs.Acknowledging.{Acknowledges, KeepsAnswered, WritesBehind}
use Rattle.dv_power_cuts.proofs.Kept.{kept_behind, kept_none}
use Rattle.dv_power_cuts.proofs.Written.{concluded, writes_behind}

-- the replies are told only where the output tells
told_of : (t : Option Task) (told : Type 0) → RepliesTold t told → told
told_of None told is = absurd is
told_of (Some task.Run) told is = is
told_of (Some task.Rebuild) told is = absurd is
told_of (Some (task.Generate load)) told is = absurd is
told_of (Some (task.Resync client)) told is = absurd is
told_of (Some (task.Watch key)) told is = absurd is
told_of (Some task.Storage) told is = absurd is

-- no line is left, or the first of the rest
left_of : (load : Option Load) (e : End) (clock : ℕ → ℕ) (base : ℕ) (start : Log) (answered left : List Attempt) (rest : List Line) → EndsAt load e clock base start answered left rest
    → (left ≡ []) ⊎ ((line : Line) × IsLeft clock base (play_of clock start answered) line left)
left_of load (end.Answered mark groups loaded) clock base start answered left rest ends = inl ends.1
left_of load (end.Rebuilt kept skipped) clock base start answered left rest ends = absurd ends
left_of load end.Usage clock base start answered left rest ends = absurd ends
left_of load (end.Unopened f) clock base start answered left rest ends = absurd ends
left_of load end.NoMemory clock base start answered left [] ends = inl ends
left_of load end.NoMemory clock base start answered left (line ∷ rest) ends = inr (line, ends)
left_of load (end.Script s) clock base start answered left rest ends = absurd ends
left_of load (end.Source n) clock base start answered left rest ends = absurd ends
left_of load end.Sink clock base start answered left [] ends = absurd ends
left_of load end.Sink clock base start answered left (line ∷ rest) ends = inr (line, ends)

module _ {S : Type 0} (sees : SeesFolder S) (times : Times) (faults : Faults) (load : Option Load) (lines : List NamedLine) (status : ℕ) (told : Type 0) (taken between taken_now : List ℕ) (old new : S) where
  abbrev then : Output
  then = record { told = told; taken = taken; taken_now = between }

  abbrev output : Output
  output = record { told = told; taken = taken; taken_now = taken_now }

  abbrev Answers : Type 0
  Answers = Acknowledges times.clock (sees.files old) faults.before lines status output (sees.may_leave new)

  served : (e : End) → ServesLines sees times faults load lines e then old new → (told → Concludes e status between taken_now) → Answers
  served e serves ends =
      let time : ℕ → ℕ = behind times.clock serves.used in
      let replies = replies_to time (begin serves.start) serves.answered in
      inl (record {
        start = serves.start;
        used = serves.used;
        starts = serves.starts;
        replies = replies;
        written = λ tells. writes_behind time serves.start serves.answered serves.left lines status taken between taken_now e (serves.output tells) (ends tells);
        kept = λ c left. subst (λ (ls : List Line). KeepsAnswered faults.before serves.start ls replies c) (sym serves.parts) (by c left);
      })
    where
      by : (c : Folder) → sees.may_leave new c
          → KeepsAnswered faults.before serves.start (lines_of serves.answered ++ serves.rest) (replies_to (behind times.clock serves.used) (begin serves.start) serves.answered) c
      by c left =
          let time : ℕ → ℕ = behind times.clock serves.used in
          ⊎_elim
          (λ none. kept_none time serves.start faults.before faults.now serves.answered serves.may serves.rest c
          (subst (λ (these : List Attempt). GivesBehind time serves.start these c) (ap (λ (l : List Attempt). serves.answered ++ l) none ∙ append-nil serves.answered) (serves.after c left)))
          (λ first. kept_behind time serves.start faults.before faults.now serves.answered serves.may serves.rest c serves.left first.0 first.1 (serves.after c left))
          (left_of load e time faults.before serves.start serves.answered serves.left serves.rest serves.ends)

  -- no line was answered
  none_answered : (e : End) → ((c : Folder) → sees.may_leave new c → IsUnopened times.clock (sees.files old) c) → (told → between ≡ taken) → (told → Concludes e status between taken_now) → Answers
  none_answered e kept silent ends = inr (record {
    written = λ tells. subst (λ (t : List ℕ). WritesBehind [] status t taken_now) (silent tells) (concluded [] e status between taken_now (ends tells));
    kept = kept;
  })

  ran_over : (e : End) → RunsOver sees times faults load lines e then old new → (told → Concludes e status between taken_now) → Answers
  ran_over (end.Unopened f) runs ends = none_answered (end.Unopened f) runs.1.after runs.0 ends
  ran_over (end.Answered mark groups loaded) runs ends = served (end.Answered mark groups loaded) runs ends
  ran_over (end.Rebuilt kept skipped) runs ends = served (end.Rebuilt kept skipped) runs ends
  ran_over end.Usage runs ends = served end.Usage runs ends
  ran_over end.NoMemory runs ends = served end.NoMemory runs ends
  ran_over (end.Script s) runs ends = served (end.Script s) runs ends
  ran_over (end.Source n) runs ends = served (end.Source n) runs ends
  ran_over end.Sink runs ends = served end.Sink runs ends

  -- the script couldn't be read
  unread : (e : End) → IsSettled sees old → between ≡ taken → new ≡ old → (told → Concludes e status between taken_now) → Answers
  unread e settled silent same ends =
      none_answered e (λ c left. inl (quiet_same (sees.files old) c (settled c (subst (λ (s : S). sees.may_leave s c) same left)))) (λ tells. silent) ends

  pub answers_kept : (e : End) → IsSettled sees old → IsUnread e taken between old new ⊎ RunsOver sees times faults load lines e then old new → (told → Concludes e status between taken_now) → Answers
  answers_kept e settled runs ends = ⊎_elim (λ none. unread e settled none.1 none.2 ends) (λ over. ran_over e over ends) runs

pub acknowledged : {S : Type 0} (sees : SeesFolder S) (times : Times) (before now : Counts) (t : Option Task) (lines : List NamedLine) (status : ℕ) (output : Output) (old new : S) → IsSettled sees old
    → IsRun sees times before now t lines status output old new → Acknowledges times.clock (sees.files old) before.shelf lines status (replies_of t output) (sees.may_leave new)
acknowledged sees times before now t lines status output old new settled run =
    answers_kept sees times (shelf_faults before now) (load_in t) lines status (RepliesTold t output.told) output.taken run.between output.taken_now old new run.how settled run.runs.runs
    (λ tells. run.concludes (told_of t output.told tells))
