use Rattle.std.proofs.Common.{Option, sym, subst}
use Rattle.dv_mdbox_lines.specs.declared.answers.Answer.{Answer}
use Rattle.dv_mdbox_serving.specs.Calls.{IsCalled}
use Rattle.dv_mdbox_lines.specs.Scripts.{Purge}
use Rattle.dv_mdbox_serving.specs.Groups.{LogsCall}
use Rattle.dv_mdbox_serving.specs.Purges.{PurgesSo}
use Rattle.dv_mdbox_serving.proofs.Purged.{purged_called, purged_so}
use Rattle.dv_mdbox_serving.proofs.Logged.{purge_logs}
use Rattle.dv_mdbox_serving.proofs.calls.purge.Goals as goal

pub returns-clause-called : goal.returns-clause-called
returns-clause-called g c = λ tells start base calls follows.
    let S = g.S.Shelf in
    let done = c.purge.ensures in
    let old = c.args.storage.now in
    let k = follows.keeps in
    subst (λ (told : Option Answer). IsCalled S.sees start base calls Purge told old c.purge.new.self) (sym c.purged_answer.ensures)
    (purged_called S.sees start base calls old c.purge.new.self follows c.has_valid_map.ensures c.purge.result done.count (done.gives tells k.messages k.debt k.rests) done.value done.cause)

pub returns-clause-purges : goal.returns-clause-purges
returns-clause-purges g c = λ tells messages debt rest.
    let S = g.S.Shelf in
    let old = c.args.storage.now in
    let new = c.purge.new.self in
    let m = old.chain.live.mailbox in
    let after = new.chain.live.mailbox in
    let done = c.purge.ensures in
    subst (λ (told : Option Answer). PurgesSo Purge told (S.sees.files old.shelf) m (S.sees.files new.shelf) after) (sym c.purged_answer.ensures)
    (purged_so (S.sees.files old.shelf) m (S.sees.files new.shelf) after c.purge.result (done.purged tells messages debt rest) (done.clears tells messages debt rest))

pub returns-clause-logs : goal.returns-clause-logs
returns-clause-logs g c =
    let old = c.args.storage.now in
    subst (λ (told : Option Answer). LogsCall Purge told old c.purge.new.self) (sym c.purged_answer.ensures) (purge_logs old c.purge.new.self c.purge.result c.purge.ensures.value)
