use Rattle.std.proofs.Common.{List, refl, subst, sym}
use Rattle.std.specs.Prelude.{All}
use Rattle.dv_model.specs.Journals.{Log}
use Rattle.dv_parts.specs.declared.parts.Part.{Part}
use Rattle.dv_parts.specs.Parts.{AreParts}
use Rattle.dv_serving.specs.Faults.{faults_between}
use Rattle.dv_serving.specs.Outputs.{output_of}
use Rattle.dv_serving.specs.Servable.{IsServable}
use Rattle.dv_shared.specs.Beginning.{BeginsFolder}
use Rattle.dv_threads.specs.declared.ending.ThreadsEnd.TheVariants as ending
use Rattle.dv_threads.specs.Serves.{ServesSessions}
use Rattle.dv_threads.proofs.Beginnings.{begins_folder, start_is}
use Rattle.dv_threads.proofs.Closing.{lacks_memory, parts_servable, unserved_serves}
use Rattle.dv_threads.proofs.Serves.{serves_threads}
use Rattle.dv_threads.proofs.threads.serve_threads.Goals as goal

pub serve_parts-requires-clause-servable : goal.serve_parts-requires-clause-servable
serve_parts-requires-clause-servable g c = λ κs bounds.
    subst (λ (ps : List Part). All (λ (p : Part). All IsServable p.commands) ps) (sym c.into_vec.ensures) (parts_servable (g.L.Lines.left c.args.lines.now) c.in-Ok.parts c.in-Ok.ensures c.requires.servable)

pub returns-in-Ok-clause-runs : goal.returns-in-Ok-clause-runs
returns-in-Ok-clause-runs g c = λ tells clock old begun.
    let S = g.S.Shelf in
    let C = g.C.Clock in
    let store = c.args.store in
    let lines = g.L.Lines.left c.args.lines.now in
    let behind = c.serve_parts.result in
    let is = start_is S.sees C.sees clock old store begun in
    let folder = begins_folder S.sees C.sees clock old store begun tells (λ f left. c.folder_laws.ensures.only store.shelf f tells left) in
    let are : AreParts lines c.into_vec.result.items = subst (AreParts lines) (sym c.into_vec.ensures) c.in-Ok.ensures in
    let out = output_of g.O.Sink.sees c.args.out.now c.serve_parts.new.out in
    let faults = faults_between c.args.start_count (S.sees.fault_count behind.shelf) in
    serves_threads S.sees C.sees clock old store begun C.sees.tells behind.shelf faults lines behind.end out
    (subst (λ (l : Log). ServesSessions S.sees C.sees.tells l (S.sees.moment store.shelf) (S.sees.left_since store.shelf) faults lines behind.end out behind.shelf) (sym is)
    (c.serve_parts.ensures.serves (subst (λ (l : Log). BeginsFolder S.sees l (S.sees.moment store.shelf) (S.sees.left_since store.shelf) store) is folder) lines are c.requires.servable))

pub returns-in-Err-clause-runs : goal.returns-in-Err-clause-runs
returns-in-Err-clause-runs g c = λ tells clock old begun.
    let S = g.S.Shelf in
    let C = g.C.Clock in
    let store = c.args.store in
    let lines = g.L.Lines.left c.args.lines.now in
    let is = start_is S.sees C.sees clock old store begun in
    let folder = begins_folder S.sees C.sees clock old store begun tells (λ f left. c.folder_laws.ensures.only store.shelf f tells left) in
    let out = output_of g.O.Sink.sees c.args.out.now c.args.out.now in
    let faults = faults_between c.args.start_count (S.sees.fault_count store.shelf) in
    rw c.unserved.ensures
    (serves_threads S.sees C.sees clock old store begun C.sees.tells store.shelf faults lines ending.NoMemory out
    (subst (λ (l : Log). ServesSessions S.sees C.sees.tells l (S.sees.moment store.shelf) (S.sees.left_since store.shelf) faults lines ending.NoMemory out store.shelf) (sym is)
    (unserved_serves S.sees store c.requires.fresh c.requires.sound C.sees.tells (subst (λ (l : Log). BeginsFolder S.sees l (S.sees.moment store.shelf) (S.sees.left_since store.shelf) store) is folder) (λ told. c.folder_laws.ensures.files store.shelf told) c.args.start_count c.requires.count lines
    c.requires.servable c.requires.sessions out refl ending.NoMemory lacks_memory)))
