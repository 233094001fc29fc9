use Rattle.std.proofs.Common.{◌≡◌, ◌∙◌, ℕ, List, ap, arith, drop, length, subst, sym}
use Rattle.std.specs.Prelude.{All}
use Rattle.dv_keeper.specs.Closing.{Settles}
use Rattle.dv_runner.specs.Runs.{HaveRun}
use Rattle.dv_runner.specs.Works.{IsReady, Work}
use Rattle.dv_serving.specs.Outputs.{output_of}
use Rattle.dv_threads.specs.Jobs.{HaveServed}
use Rattle.dv_threads.proofs.Closing.{concluded, conclude_cause, count_later}
use Rattle.dv_threads.proofs.Handing.{have_served, jobs_many, jobs_ready, run_many, written_back}
use Rattle.dv_threads.proofs.serving.serve_sessions.Goals as goal

pub run_threads-requires-after_bounds : goal.run_threads-requires-after_bounds
run_threads-requires-after_bounds g c = λ κs bounds.
    subst (λ (js : List Work). All (IsReady g.K.Keeping.start) js) (sym c.as_mut_slice.ensures.value) (jobs_ready g.K.Keeping.start 1 c.args.parts.items c.make_jobs.new.jobs.items c.make_jobs.ensures)

pub hand_in-sessions-requires-clause-room : goal.hand_in-sessions-requires-clause-room
hand_in-sessions-requires-clause-room g c =
    let olds : List Work = c.make_jobs.new.jobs.items in
    let news : List Work = c.run_threads.new.jobs in
    let ran : HaveRun g.K.Keeping.start g.K.Keeping.count g.K.Keeping.honest olds news = subst (λ (js : List Work). HaveRun g.K.Keeping.start g.K.Keeping.count g.K.Keeping.honest js news) c.as_mut_slice.ensures.value c.run_threads.ensures in
    let many : length news ≡ length olds = run_many g.K.Keeping.start g.K.Keeping.count g.K.Keeping.honest olds news ran in
    let len : c.make_jobs.new.jobs.len ≡ length news = sym c.as_mut_slice.ensures.len ∙ ap length c.as_mut_slice.ensures.value ∙ sym many in
    let back = written_back c.make_jobs.new.jobs.len news (drop (length news) olds) len in
    omega (arith, ap length back, many, jobs_many g.K.Keeping.start 1 c.args.parts.items olds c.make_jobs.ensures, c.requires.room.1)

pub returns-clause-serves : goal.returns-clause-serves
returns-clause-serves g c = λ h lines are servable.
    let S = g.S.Shelf in
    let O = g.O.Sink in
    let start = g.K.Keeping.start in
    let count = g.K.Keeping.count in
    let honest = g.K.Keeping.honest in
    let parts = c.args.parts.items in
    let olds : List Work = c.make_jobs.new.jobs.items in
    let news : List Work = c.run_threads.new.jobs in
    let ran : HaveRun start count honest olds news = subst (λ (js : List Work). HaveRun start count honest js news) c.as_mut_slice.ensures.value c.run_threads.ensures in
    let len : c.make_jobs.new.jobs.len ≡ length news = sym c.as_mut_slice.ensures.len ∙ ap length c.as_mut_slice.ensures.value ∙ sym (run_many start count honest olds news ran) in
    let back = written_back c.make_jobs.new.jobs.len news (drop (length news) olds) len in
    let served = subst (λ (js : List Work). HaveServed start count honest 1 parts js) (sym back) (have_served start count honest 1 parts olds news c.make_jobs.ensures ran) in
    let handed = c.hand_in-sessions.result in
    let hands = c.hand_in-sessions.ensures.hands parts served in
    let closed = c.close-store.ensures in
    let k = closed.0 in
    let settles : Settles S.sees count (length parts) (length parts) handed.sessions.items k =
    subst (λ (n : ℕ). Settles S.sees count (length parts) n handed.sessions.items k) c.requires.ledgers.1
    (subst (λ (n : ℕ). Settles S.sees count n g.M.Ledger.parts handed.sessions.items k) c.requires.ledgers.0 closed.4) in
    let mark : c.close-store.result.0.mark ≡ k.store.mark = ap (λ s. s.mark) closed.1 in
    concluded S.sees g.C.Clock.sees.tells start g.K.Keeping.moment g.K.Keeping.past honest k closed.3 h (λ tells. c.folder_laws.ensures.files k.store.shelf tells) count closed.6 lines servable parts are (omega (arith, c.requires.ledgers.2)) handed.sessions.items settles handed.whole handed.failed
    (output_of O.sees c.args.out.now c.hand_in-sessions.new.out) hands c.close-store.result.0.mark mark c.close-store.result.1 (O.sees.fault_count c.hand_in-sessions.new.out) closed.2 c.conclude.result.end c.conclude.result.shelf c.conclude.ensures.end
    (c.conclude.ensures.shelf ∙ ap (λ s. s.shelf) closed.1)

pub returns-clause-cause : goal.returns-clause-cause
returns-clause-cause g c = rw c.conclude.ensures.end (conclude_cause c.hand_in-sessions.result.whole c.hand_in-sessions.result.failed c.close-store.result.0.mark c.close-store.result.1 (g.O.Sink.sees.fault_count c.args.out.now) (g.O.Sink.sees.fault_count c.hand_in-sessions.new.out) c.hand_in-sessions.ensures.rose)

pub returns-clause-later : goal.returns-clause-later
returns-clause-later g c =
    let closed = c.close-store.ensures in
    let k = closed.0 in
    let now : c.conclude.result.shelf ≡ k.store.shelf = c.conclude.ensures.shelf ∙ ap (λ s. s.shelf) closed.1 in
    (rw now (count_later (length k.tries) g.K.Keeping.count (g.S.Shelf.sees.fault_count k.store.shelf) c.requires.ledgers.3 closed.4.tries), c.hand_in-sessions.ensures.later)
