use Rattle.std.proofs.Common.{◌≡◌, ◌∙◌, ◌+◌, ◌<◌, ◌∷◌, List, ap, drop, false, length, slice_index_or}
use Rattle.std.proofs.lemmas.List.{drop_more}
use Rattle.dv_model.specs.declared.types.Command.{Command}
use Rattle.dv_runner.specs.Works.{work_of}
use Rattle.dv_runner.proofs.Runs.{goes_first, goes_more, goes_short}
use Rattle.dv_runner.proofs.running.run_commands.Goals as goal

pub loop-at-init : goal.loop-at-init
loop-at-init g c =
    let k = g.K.Keeping in
    goes_first k.start k.count k.honest (work_of c.args.session.now c.args.commands.now c.args.replies.now false) c.requires c.number-number.ensures.session

pub returns-in-Err : goal.returns-in-Err
returns-in-Err g c =
    let k = g.K.Keeping in
    let commands : List Command = c.args.commands.now in
    let j = work_of c.args.session.now commands c.args.replies.now false in
    let at = c.loop-at.at in
    let less : at < length commands = c.loop-at-test.true in
    let one : Command = c.index-commands-at.result in
    let is = c.index-commands-at.is in
    let same : slice_index_or commands at one ≡ one = cc in
    let next : drop at commands ≡ one ∷ drop (at + 1) commands = drop_more commands at one less ∙ ap (λ (x : Command). x ∷ drop (at + 1) commands) same in
    goes_short k.start k.count k.honest j at less one (drop (at + 1) commands) next c.loop-at.replies c.cut.new.self c.loop-at.session c.serve_one.new.s c.loop-at.invariant c.number-in-Err.ensures.session c.serve_one.ensures.begins
    c.in-Err.ensures.err (λ h. let t = c.in-Err.ensures.replies h in c.cut.ensures c.loop-at.replies t.told t.is c.length-length.ensures)

pub loop-at-preserved : goal.loop-at-preserved
loop-at-preserved g c =
    let k = g.K.Keeping in
    let commands : List Command = c.args.commands.now in
    let j = work_of c.args.session.now commands c.args.replies.now false in
    let at = c.loop-at.at in
    let less : at < length commands = c.loop-at-test.true in
    let one : Command = c.index-commands-at.result in
    let is = c.index-commands-at.is in
    let same : slice_index_or commands at one ≡ one = cc in
    let next : drop at commands ≡ one ∷ drop (at + 1) commands = drop_more commands at one less ∙ ap (λ (x : Command). x ∷ drop (at + 1) commands) same in
    goes_more k.start k.count k.honest j at less one (drop (at + 1) commands) next c.loop-at.replies c.serve_one.new.replies c.loop-at.session c.serve_one.new.s c.loop-at.invariant c.number.ensures.session c.serve_one.ensures.begins
    c.serve_one.result c.in-Ok.field-0 c.in-Ok.is c.in-Ok.ensures.ok c.serve_one.ensures.turn
