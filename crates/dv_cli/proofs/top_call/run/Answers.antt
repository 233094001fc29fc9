use Rattle.std.proofs.Common.{◌≡◌, inl, inr, ap, sym, subst, refl, List, ℕ, map}
use Rattle.std.specs.Prelude.{Err, Option, Some, string_bytes}
use Rattle.dv_model.specs.Counts.{Rose}
use Rattle.dv_shelf.specs.Folders.{Folder}
use Rattle.dv_formats.specs.Parsing.{ScriptFault, parsed}
use Rattle.dv_formats.specs.Scripts.{NamedLine}
use Rattle.dv_script.specs.Beside.{parsed_beside}
use Rattle.dv_serving.proofs.Readings.{readings_give, told_readings}
use Rattle.dv_cli.specs.declared.ending.End.{End}
use Rattle.dv_cli.specs.declared.words.Task.{Task}
use Rattle.dv_cli.specs.Causes.{ComesFrom, Counts, counts_of}
use Rattle.dv_cli.specs.Endings.{Concludes}
use Rattle.dv_cli.specs.Outputs.{IsFolderOf, IsOutputBy, IsOutputOver}
use Rattle.dv_mdbox_lines.specs.Scripts as storage
use Rattle.dv_cli.specs.declared.scripts.Reader.TheVariants as reader
use Rattle.dv_cli.specs.Tasks.{Answers, HasReplies, HasScript, Reaches, generated_by, load_in, parsed_for, without_lines}
use Rattle.dv_cli.specs.Words.{task_of}
use Rattle.dv_cli.proofs.Statuses.{causes_of, comes_later, sink_cause}
use Rattle.dv_cli.proofs.Takes.{status_takes}
use Rattle.dv_cli.proofs.ClientRuns.{client_output}
use Rattle.dv_cli.proofs.Tasked.{answers_reach}
use Rattle.dv_cli.proofs.StorageRuns.{storage_output, storage_script}
use Rattle.dv_cli.proofs.WatchRuns.{watch_output, watched_script}
use Rattle.dv_cli.proofs.WholeRuns.{WellOr, Writes, ends_well, fault_is_told, lines_output, rebuilt_output, refused_output, script_output, start_is_served, task_output}
use Rattle.dv_cli.proofs.WrongWords.{usage_ends, usage_output, usage_told}
use Rattle.dv_cli.proofs.Told.{fault_told, told_by}
use Rattle.dv_cli.proofs.top_call.run.Given as given
use Rattle.dv_cli.proofs.top_call.run.Goals as goal

-- ---- behind the last line

module _ (g : given.Over) (c : goal.After-conclude-status g) where
  abbrev t : Option Task
  t = task_of (map string_bytes c.args.words.now)

  abbrev before : Counts
  before = counts_of (g.S.Shelf.sees.fault_count c.args.shelf) (g.I.Source.sees.fault_count c.args.script.now) (g.O.Sink.sees.fault_count c.args.out.now)

  abbrev now : Counts
  now = counts_of (g.S.Shelf.sees.fault_count c.perform-end.result.shelf) (g.I.Source.sees.fault_count c.perform-end.new.script) (g.O.Sink.sees.fault_count c.conclude-status.new.out)

  comes : ComesFrom before now c.perform-end.result.end
  comes =
      comes_later before _ _ (g.O.Sink.sees.fault_count c.perform-end.new.out) _ c.perform-end.result.end
      c.conclude-status.ensures.later c.perform-end.ensures.cause.1.cause

  sinks : c.conclude-status.result ≡ 7 → Rose before.output now.output
  sinks seven =
      sink_cause before
      (counts_of (g.S.Shelf.sees.fault_count c.perform-end.result.shelf) (g.I.Source.sees.fault_count c.perform-end.new.script) (g.O.Sink.sees.fault_count c.perform-end.new.out))
      now.output c.perform-end.result.end c.perform-end.ensures.cause.1.cause c.perform-end.ensures.cause.1.later.2
      c.conclude-status.ensures.later (c.conclude-status.ensures.cause seven)

  well : Reaches t g.I.Source.sees.tells (parsed_for t (g.I.Source.sees.left c.args.script.now))
      → WellOr c.conclude-status.result c.perform-end.result.end before now
  well reaches =
      ends_well c.conclude-status.result before now t g.I.Source.sees.tells (parsed_for t (g.I.Source.sees.left c.args.script.now))
      c.perform-end.result.end reaches c.perform-end.ensures.cause.0 (λ run tells. (c.perform-end.ensures.found.1 run tells).0) comes c.conclude-status.ensures.status sinks

-- ---- what is answered, written and left

pub returns-clause-runs : goal.returns-clause-runs
returns-clause-runs g c = λ tells settled true_folder lines answers.
    readings_give (c.perform-end.ensures.runs tells settled true_folder lines answers) (λ clock small known runs. record {
      how = c.perform-end.result.end;
      between = g.O.Sink.sees.taken c.perform-end.new.out;
      runs = runs;
      cause = comes g c;
      ended = c.conclude-status.ensures.status;
      concludes = λ told. c.conclude-status.ensures.text told;
    })

pub returns-clause-rebuilds : goal.returns-clause-rebuilds
returns-clause-rebuilds g c = λ is tells settled.
    let rebuilds = c.perform-end.ensures.rebuilds is tells settled in record {
      how = c.perform-end.result.end;
      rebuilds = rebuilds.1;
      cause = comes g c;
      ended = c.conclude-status.ensures.status;
      concludes = λ told.
          subst (λ (taken : List ℕ). Concludes c.perform-end.result.end c.conclude-status.result taken (g.O.Sink.sees.taken c.conclude-status.new.out))
          (ap g.O.Sink.sees.taken rebuilds.0) (c.conclude-status.ensures.text told);
    }

pub returns-clause-resyncs : goal.returns-clause-resyncs
returns-clause-resyncs g c = λ client is tells settled true_folder.
    readings_give (c.perform-end.ensures.resyncs client is tells settled true_folder) (λ clock small known runs. record {
      how = c.perform-end.result.end;
      between = g.O.Sink.sees.taken c.perform-end.new.out;
      runs = runs;
      cause = comes g c;
      ended = c.conclude-status.ensures.status;
      concludes = λ told. c.conclude-status.ensures.text told;
    })

pub returns-clause-watches : goal.returns-clause-watches
returns-clause-watches g c = λ key is tells script_tells settled true_folder lines good.
    readings_give (c.perform-end.ensures.scripts (reader.Sessions (Some key)) is tells script_tells settled true_folder) (λ clock small known runs. record {
      how = c.perform-end.result.end;
      between = g.O.Sink.sees.taken c.perform-end.new.out;
      runs = runs lines good;
      cause = comes g c;
      ended = c.conclude-status.ensures.status;
      concludes = λ told. c.conclude-status.ensures.text told;
    })

pub returns-clause-stores : goal.returns-clause-stores
returns-clause-stores g c = λ is tells script_tells settled calls good. record {
  how = c.perform-end.result.end;
  between = g.O.Sink.sees.taken c.perform-end.new.out;
  runs = (c.perform-end.ensures.scripts reader.Storage is tells script_tells settled tt).holds calls good;
  cause = comes g c;
  ended = c.conclude-status.ensures.status;
  concludes = λ told. c.conclude-status.ensures.text told;
}

pub returns-clause-usage : goal.returns-clause-usage
returns-clause-usage g c = λ none.
    let usage = c.perform-end.ensures.usage none in
    let words = map string_bytes c.args.words.now in
    let e = c.perform-end.result.end in
    let status = c.conclude-status.result in
    let new = g.O.Sink.sees.taken c.conclude-status.new.out in (
      usage.2,
      usage_ends words e status usage.1 c.conclude-status.ensures.status,
      λ told.
          usage_told words e status (g.O.Sink.sees.taken c.args.out.now) new usage.1
          (subst (λ (taken : List ℕ). Concludes e status taken new) (ap g.O.Sink.sees.taken usage.0) (c.conclude-status.ensures.text told)),
    )

pub returns-clause-refused : goal.returns-clause-refused
returns-clause-refused g c = λ has script_tells fault bad.
    let refused = c.perform-end.ensures.refused has script_tells fault bad in (
      refused.1,
      record {
        how = c.perform-end.result.end;
        ends = refused.0;
        cause = comes g c;
        ended = c.conclude-status.ensures.status;
        concludes = λ told.
            subst (λ (taken : List ℕ). Concludes c.perform-end.result.end c.conclude-status.result taken (g.O.Sink.sees.taken c.conclude-status.new.out))
            (ap g.O.Sink.sees.taken refused.2) (c.conclude-status.ensures.text told);
      },
      fault_told fault c.perform-end.result.end _ c.perform-end.result.told refused.0 (c.perform-end.ensures.found.1 has script_tells).1,
    )

-- ---- what it comes from

pub returns-clause-causes : goal.returns-clause-causes
returns-clause-causes g c = (
  told_by (t g c) c.perform-end.result.end c.conclude-status.result c.perform-end.result.told c.perform-end.ensures.cause.0 c.conclude-status.ensures.status c.perform-end.ensures.cause.2,
  causes_of c.conclude-status.result (t g c) (before g c) (now g c)
      (g.S.Shelf.sees.files c.args.shelf) (parsed_for (t g c) (g.I.Source.sees.left c.args.script.now)) g.S.Shelf.sees.tells g.I.Source.sees.tells
      c.perform-end.result.end c.conclude-status.ensures.status c.perform-end.ensures.cause.0 (comes g c) (sinks g c)
      c.perform-end.ensures.found.0 (λ run tells. (c.perform-end.ensures.found.1 run tells).0),
)

pub returns-clause-complete : goal.returns-clause-complete
returns-clause-complete g c = λ tells reaches.
    let folder = g.S.Shelf.sees.files c.args.shelf in
    let e = c.perform-end.result.end in
    let status = c.conclude-status.result in
    let found = c.perform-end.ensures.found.0 tells in
    record {
      fault = λ has. fault_is_told status (before g c) (now g c) folder e found has (well g c reaches);
      served = λ start used starts.
          start_is_served status (before g c) (now g c) (g.C.Clock.sees.upcoming c.args.clock) folder start used e found starts (well g c reaches);
    }

pub returns-clause-readings : goal.returns-clause-readings
returns-clause-readings g c = λ clock_tells.
    let reads = c.perform-end.ensures.readings clock_tells in record {
      lines = reads.lines;
      client = reads.client;
      statuses = status_takes _ _ c.conclude-status.result c.perform-end.result.end c.conclude-status.ensures.status reads.ends;
    }

-- ---- what it is a function of

module _ (g : given.Over) (c : goal.After-conclude-status g) (out_tells : g.O.Sink.sees.tells) (not-four : c.conclude-status.result ≡ 4 → ⊥)
    (still : Rattle.dv_cli.specs.Causes.AnyRose (before g c) (now g c) → ⊥) where
  abbrev e : End
  e = c.perform-end.result.end

  abbrev status : ℕ
  status = c.conclude-status.result

  abbrev old : List ℕ
  old = g.O.Sink.sees.taken c.args.out.now

  abbrev mid : List ℕ
  mid = g.O.Sink.sees.taken c.perform-end.new.out

  abbrev new : List ℕ
  new = g.O.Sink.sees.taken c.conclude-status.new.out

  not-seven : status ≡ 7 → ⊥
  not-seven seven = still (inr (inr (sinks g c seven)))

  last : Concludes e status mid new
  last = c.conclude-status.ensures.text out_tells

  -- nothing was written before it
  only : c.perform-end.new.out ≡ c.args.out.now → Concludes e status old new
  only same = subst (λ (taken : List ℕ). Concludes e status taken new) (ap g.O.Sink.sees.taken same) last

  lines_told : g.S.Shelf.sees.tells → g.C.Clock.sees.tells
      → Rattle.dv_shelf.specs.Crashes.IsSettled g.S.Shelf.sees c.args.shelf
      → Rattle.dv_serving.specs.NextRuns.IsTrueFolder (g.S.Shelf.sees.files c.args.shelf) → (lines : List NamedLine)
      → Answers (t g c) g.I.Source.sees.tells (parsed_for (t g c) (g.I.Source.sees.left c.args.script.now)) lines → HasReplies (t g c)
      → Writes old new (IsOutputOver (load_in (t g c)) lines (g.C.Clock.sees.upcoming c.args.clock) (g.S.Shelf.sees.files c.args.shelf))
  lines_told tells clock_tells settled true_folder lines answers opens =
      let S = g.S.Shelf in
      let runs = told_readings (c.perform-end.ensures.runs tells settled true_folder lines answers) clock_tells in
      lines_output S.sees g.C.Clock.sees.tells (g.C.Clock.sees.upcoming c.args.clock) (g.C.Clock.sees.upcoming c.perform-end.result.clock)
      (S.sees.fault_count c.args.shelf) (S.sees.fault_count c.perform-end.result.shelf) (t g c) lines g.O.Sink.sees.tells old mid new
      c.args.shelf c.perform-end.result.shelf (λ rose. still (inl rose)) out_tells opens runs.silent
      e status (before g c) (now g c) (well g c (answers_reach (t g c) g.I.Source.sees.tells (parsed_for (t g c) (g.I.Source.sees.left c.args.script.now)) lines answers)) still not-four not-seven last runs.runs

  -- of a script that is refused its fault
  script_refused : g.I.Source.sees.tells → (clock : ℕ → ℕ) (folder : Folder) (fault : ScriptFault) → HasScript (t g c)
      → parsed_for (t g c) (g.I.Source.sees.left c.args.script.now) ≡ Err fault → Writes old new (IsOutputBy (Err fault) clock folder)
  script_refused script_tells clock folder fault has bad =
      let refused = c.perform-end.ensures.refused has script_tells fault bad in
      refused_output fault (before g c) (now g c) status e clock folder old new refused.0 (comes g c) not-four not-seven still (only refused.2)

pub returns-clause-output : goal.returns-clause-output
returns-clause-output g c = λ tells clock_tells script_tells out_tells settled true_folder of_folder not-four still.
    let S = g.S.Shelf in
    let script = g.I.Source.sees.left c.args.script.now in
    let clock = g.C.Clock.sees.upcoming c.args.clock in
    let folder = S.sees.files c.args.shelf in
    let old = old g c out_tells not-four still in
    let new = new g c out_tells not-four still in
    task_output (t g c) script clock folder old new
    (λ none.
    let usage = c.perform-end.ensures.usage none in
    usage_output (map string_bytes c.args.words.now) c.perform-end.result.end c.conclude-status.result old new usage.1 (only g c out_tells not-four still usage.0) not-four
    (not-seven g c out_tells not-four still))
    (λ run.
    script_output (parsed script) clock folder old new
    (λ lines is.
    subst (λ (x : Option Task). Writes old new (IsOutputOver (load_in x) lines clock folder)) run
    (lines_told g c out_tells not-four still tells clock_tells settled true_folder lines
    (subst (λ (x : Option Task). Answers x g.I.Source.sees.tells (parsed_for x script) lines) (sym run) (script_tells, is))
    (subst HasReplies (sym run) tt)))
    (λ fault bad.
    script_refused g c out_tells not-four still script_tells clock folder fault (subst HasScript (sym run) tt)
    (subst (λ (x : Option Task). parsed_for x script ≡ Err fault) (sym run) bad)))
    (λ is.
    let rebuilds = c.perform-end.ensures.rebuilds is tells settled in
    rebuilt_output S.sees g.C.Clock.sees.tells clock (g.C.Clock.sees.upcoming c.perform-end.result.clock) c.perform-end.result.end c.perform-end.result.told
    c.args.shelf c.perform-end.result.shelf c.conclude-status.result (before g c) (now g c) old new clock_tells rebuilds.1 (comes g c) still not-four (not-seven g c out_tells not-four still)
    (only g c out_tells not-four still rebuilds.0))
    (λ load is.
    subst (λ (x : Option Task). Writes old new (IsOutputOver (load_in x) (generated_by load) clock folder)) is
    (lines_told g c out_tells not-four still tells clock_tells settled true_folder (generated_by load)
    (subst (λ (x : Option Task). Answers x g.I.Source.sees.tells (parsed_for x script) (generated_by load)) (sym is) refl)
    (subst HasReplies (sym is) tt)))
    (λ client is.
    let runs = told_readings (c.perform-end.ensures.resyncs client is tells settled true_folder) clock_tells in
    client_output S.sees g.C.Clock.sees.tells clock (g.C.Clock.sees.upcoming c.perform-end.result.clock) client g.O.Sink.sees.tells
    old (mid g c out_tells not-four still) new c.args.shelf c.perform-end.result.shelf c.conclude-status.result (before g c) (now g c) out_tells still not-four
    c.perform-end.result.end runs (comes g c) (last g c out_tells not-four still) (not-seven g c out_tells not-four still))
    (λ key is.
    watched_script key (parsed_beside script) clock folder old new
    (λ lines good.
    let runs = told_readings (c.perform-end.ensures.scripts (reader.Sessions (Some key)) is tells script_tells settled true_folder) clock_tells lines good in
    watch_output S.sees g.C.Clock.sees.tells clock (g.C.Clock.sees.upcoming c.perform-end.result.clock) (S.sees.fault_count c.args.shelf) (S.sees.fault_count c.perform-end.result.shelf)
    key lines g.O.Sink.sees.tells old (mid g c out_tells not-four still) new c.args.shelf c.perform-end.result.shelf out_tells (λ rose. still (inl rose))
    c.perform-end.result.end c.conclude-status.result (before g c) (now g c)
    (well g c (subst (λ (x : Option Task). Reaches x g.I.Source.sees.tells (parsed_for x script)) (sym is) (script_tells, lines, good)))
    still not-four (not-seven g c out_tells not-four still) (last g c out_tells not-four still) runs)
    (λ fault bad.
    script_refused g c out_tells not-four still script_tells clock folder fault (subst HasScript (sym is) tt)
    (subst (λ (x : Option Task). parsed_for x script ≡ Err fault) (sym is) bad)))
    (λ is.
    storage_script (storage.parsed script) folder old new
    (λ calls good.
    let runs = (c.perform-end.ensures.scripts reader.Storage is tells script_tells settled tt).holds calls good in
    storage_output S.sees (S.sees.fault_count c.args.shelf) (S.sees.fault_count c.perform-end.result.shelf) calls g.O.Sink.sees.tells old (mid g c out_tells not-four still) new
    c.args.shelf c.perform-end.result.shelf out_tells (λ rose. still (inl rose)) c.conclude-status.result (before g c) (now g c) still not-four
    (subst (λ (x : Option Task). IsFolderOf x folder) is of_folder) c.perform-end.result.end (c.perform-end.ensures.found.0 tells)
    (well g c (subst (λ (x : Option Task). Reaches x g.I.Source.sees.tells (parsed_for x script)) (sym is) (script_tells, Rattle.std.proofs.Common.[], ap without_lines good)))
    runs (comes g c) (last g c out_tells not-four still) (not-seven g c out_tells not-four still))
    (λ fault bad.
    script_refused g c out_tells not-four still script_tells clock folder fault (subst HasScript (sym is) tt)
    (subst (λ (x : Option Task). parsed_for x script ≡ Err fault) (sym is) (ap without_lines bad))))
