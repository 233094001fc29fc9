-- A line is served, the search follows what it wrote, and both are told.
use Rattle.std.proofs.Common.{◌∙◌, ◌++◌, List, [], ℕ, Bool, nat_lt, refl, ap, subst}
use Rattle.std.specs.Prelude.{if◌then◌else◌}
use Rattle.dv_apply.specs.States.{Held}
use Rattle.dv_script.specs.Sources.{named}
use Rattle.dv_texts.specs.Lines.{Lines, with_replies}
use Rattle.dv_serving.specs.Faults.{faults_of}
use Rattle.dv_serving.specs.Outputs.{output_of}
use Rattle.dv_serving.specs.Scripts.{answer_text}
use Rattle.dv_serving.proofs.Looking.{on_ok}
use Rattle.dv_serial.specs.declared.lines.LineEnd.TheVariants as line_end
use Rattle.dv_serial.specs.Following.{origin_of}
use Rattle.dv_serial.proofs.Further.{reads_give}
use Rattle.dv_live.specs.Laws.{IsOf}
use Rattle.dv_watching.specs.Texts.{found_in, watch_text}
use Rattle.dv_watching.specs.Watching.{IsBeside, WatchesLine}
use Rattle.dv_watching.proofs.Served.{ends_behind, kept_then, told_at, watches}
use Rattle.dv_watching.proofs.Running.{of_error}
use Rattle.dv_watching.proofs.lines.watch_line.Goals as goal

-- memory ended it behind the line
pub returns-in_err-told-clause-runs : goal.returns-in_err-told-clause-runs
returns-in_err-told-clause-runs g c = λ tells origin attempts follows.
    let S = g.S.Shelf in
    let old = c.args.serial.now in
    let new = c.serve.new.self in
    let line = named c.args.line in
    reads_give S.sees g.C.Clock.sees origin.clock origin.start origin.base (S.sees.fault_count old.store.shelf) attempts old follows (c.in_ok-serve.ensures.serves tells origin attempts follows) (λ now behind serves.
    of_error (λ r. WatchesLine S.sees g.C.Clock.sees (origin_of now origin.start origin.base) (faults_of S.sees old.store.shelf new.store.shelf) attempts c.args.saved.now.key (record { session = c.args.session; line = line }) r (output_of g.O.Sink.sees c.args.out.now c.args.out.now) old new)
    c.from_residual-in_err-told.result line_end.NoMemory c.from_residual-in_err-told.ensures.0 c.from_residual-in_err-told.ensures.1
    (ends_behind S.sees g.C.Clock.sees now origin.start origin.base (faults_of S.sees old.store.shelf new.store.shelf) attempts (record { session = c.args.session; line = line }) serves.replies old new serves.holds, λ told. refl))

pub returns-clause-runs : goal.returns-clause-runs
returns-clause-runs g c = λ tells origin attempts follows.
    let S = g.S.Shelf in
    let O = g.O.Sink in
    let old = c.args.serial.now in
    let new = c.serve.new.self in
    let line = named c.args.line in
    let key = c.args.saved.now.key in
    let rose = c.rose-wrote.ensures ∙ ap (λ n. nat_lt n c.count.result) c.count-groups.ensures ∙ ap (λ n. nat_lt old.groups n) c.count.ensures in
    let told = c.as_slice.ensures ∙ c.in_ok-told.ensures.text
    ∙ ap (λ (b : Bool). if b then watch_text (found_in key c.live-2.result.now.mailbox) else []) rose
    ∙ ap (λ (l : Held). told_at key old.groups new.groups l.mailbox) c.live-2.ensures in
    reads_give S.sees g.C.Clock.sees origin.clock origin.start origin.base (S.sees.fault_count old.store.shelf) attempts old follows (c.in_ok-serve.ensures.serves tells origin attempts follows) (λ now behind serves.
    let replied = ap (λ (t : Lines). t.text) (serves.taken ∙ ap (λ (t : Lines). with_replies t serves.replies) c.new-text.ensures) in
    watches S.sees g.C.Clock.sees now origin.start origin.base (faults_of S.sees old.store.shelf new.store.shelf) attempts (record { session = c.args.session; line = line }) serves.replies old new serves.holds key O.sees.tells
    (O.sees.taken c.args.out.now) (O.sees.taken c.write_line.new.out) (c.serve.new.replies.text ++ c.as_slice.result.now) c.write_line.result behind.keeps.at.groups
    (ap (λ (t : List ℕ). t ++ c.as_slice.result.now) replied ∙ ap (λ (t : List ℕ). answer_text line serves.replies ++ t) told)
    c.write_line.ensures.sink c.write_line.ensures.ok c.write_line.ensures.err)

pub returns-clause-beside : goal.returns-clause-beside
returns-clause-beside g c =
    let old = c.args.serial.now in
    let new = c.serve.new.self in
    let saved = c.told_behind.new.saved in
    let told = c.in_ok-told.ensures in
    let rose = c.rose-wrote.ensures ∙ ap (λ n. nat_lt n c.count.result) c.count-groups.ensures ∙ ap (λ n. nat_lt old.groups n) c.count.ensures in
    on_ok c.write_line.result (IsBeside c.args.saved.now.key new saved) (record {
      key = told.key;
      abreast = c.in_ok-serve.ensures.abreast;
      kept = kept_then old new c.serve.new.changed c.in_ok-serve.ensures.groups c.rose-wrote.result rose c.args.saved.now saved c.requires.beside.kept
          (λ wrote. subst (λ (l : Held). IsOf saved l.mailbox) c.live-2.ensures (told.kept wrote)) told.stays;
    })
