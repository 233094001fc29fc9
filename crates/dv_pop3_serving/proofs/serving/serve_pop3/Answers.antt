use Rattle.std.proofs.Common.{refl, subst, sym}
use Rattle.dv_model.specs.Journals.{Log}
use Rattle.dv_serving.specs.Faults.{faults_between}
use Rattle.dv_serving.specs.Outputs.{output_of}
use Rattle.dv_shared.specs.Beginning.{BeginsFolder}
use Rattle.dv_beginning.specs.Begins.{start_of}
use Rattle.dv_threads.proofs.Beginnings.{begins_folder, start_is}
use Rattle.dv_threads.proofs.Closing.{fresh_begins}
use Rattle.dv_pop3_serving.specs.declared.ending.PopEnd.TheVariants as ending
use Rattle.dv_pop3_serving.specs.Serves.{ServesSession}
use Rattle.dv_pop3_serving.proofs.Closing.{none_serves}
use Rattle.dv_pop3_serving.proofs.Runs.{serves_pop}
use Rattle.dv_pop3_serving.proofs.serving.serve_pop3.Goals as goal

pub returns-in-Ok-clause-runs : goal.returns-in-Ok-clause-runs
returns-in-Ok-clause-runs g c = λ tells clock old begun.
    let S = g.S.Shelf in
    let C = g.C.Clock in
    let store = c.args.store in
    let behind = c.serve_named.result in
    let is = start_is S.sees C.sees clock old store begun in
    let folder = begins_folder S.sees C.sees clock old store begun tells (λ f left. c.folder_laws.ensures.only store.shelf f tells left) in
    let out = output_of g.O.Sink.sees c.args.out.now c.serve_named.new.out in
    let faults = faults_between c.args.start_count (S.sees.fault_count behind.shelf) in
    serves_pop S.sees C.sees clock old store begun C.sees.tells behind.shelf faults c.args.lines behind.end out
    (subst (λ (l : Log). ServesSession S.sees C.sees.tells l (S.sees.moment store.shelf) (S.sees.left_since store.shelf) faults c.args.lines behind.end out behind.shelf) (sym is)
    (c.serve_named.ensures.serves (subst (λ (l : Log). BeginsFolder S.sees l (S.sees.moment store.shelf) (S.sees.left_since store.shelf) store) is folder)))

pub returns-in-Err-clause-runs : goal.returns-in-Err-clause-runs
returns-in-Err-clause-runs g c = λ tells clock old begun.
    let S = g.S.Shelf in
    let C = g.C.Clock in
    let store = c.args.store in
    let is = start_is S.sees C.sees clock old store begun in
    let folder = subst (λ (l : Log). BeginsFolder S.sees l (S.sees.moment store.shelf) (S.sees.left_since store.shelf) store) is (begins_folder S.sees C.sees clock old store begun tells (λ f left. c.folder_laws.ensures.only store.shelf f tells left)) in
    let out = output_of g.O.Sink.sees c.args.out.now c.args.out.now in
    let faults = faults_between c.args.start_count (S.sees.fault_count store.shelf) in
    rw c.ended.ensures
    (serves_pop S.sees C.sees clock old store begun C.sees.tells store.shelf faults c.args.lines ending.NoMemory out
    (subst (λ (l : Log). ServesSession S.sees C.sees.tells l (S.sees.moment store.shelf) (S.sees.left_since store.shelf) faults c.args.lines ending.NoMemory out store.shelf) (sym is)
    (none_serves S.sees C.sees.tells (start_of S.sees store) (S.sees.moment store.shelf) (S.sees.left_since store.shelf) (BeginsFolder S.sees (start_of S.sees store) (S.sees.moment store.shelf) (S.sees.left_since store.shelf) store) store (fresh_begins S.sees store c.requires.fresh c.requires.sound) folder (λ told. c.folder_laws.ensures.files store.shelf told) c.args.start_count c.requires.count c.args.lines out refl)))
