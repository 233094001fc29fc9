use Rattle.std.proofs.Common.{Err, Ok, Option, ap, subst}
use Rattle.std.proofs.lemmas.Result.{err_from_is_err_and}
use Rattle.dv_shelf.specs.declared.shelf.Name.TheVariants.{Log}
use Rattle.dv_logfile.proofs.Settling.{rose_settled}
use Rattle.dv_chain.specs.declared.chain.Chain.{Chain}
use Rattle.dv_files.specs.declared.texts.Turn.{Turn}
use Rattle.dv_writing.specs.Debts.{Fits, owed_of}
use Rattle.dv_writing.proofs.Repaired.{finished_quiet, healed_quiet, heals_log, turn_stays}
use Rattle.dv_writing.proofs.Settling.{put_settled}
use Rattle.dv_writing.proofs.repairs.repair.Goals as goal

pub returns-in_err-finish-in-Some-clause-quiet : goal.returns-in_err-finish-in-Some-clause-quiet
returns-in_err-finish-in-Some-clause-quiet g c = λ tells log due fits stands.
    let S = g.S.Shelf in
    let value = c.in_err-finish-in-Some.ensures.value in
    let p = err_from_is_err_and c.from_residual.result c.from_residual.ensures.1 in
    rw p.1
    (finished_quiet S.sees log c.in-Some.made c.args.chain.now c.finish.new.chain c.args.shelf.now c.finish.new.shelf (ap (λ (x : Chain). x.live) value) (ap (λ (x : Chain). x.indexid) value)
    (Err p.0) due (subst (λ (t : Option Turn). Fits t due) c.in-Some.is fits) stands (c.in_err-finish-in-Some.ensures.leaves tells) (λ rests. c.in_err-finish-in-Some.ensures.quiet tells rests))

pub returns-in_ok-finish-in-Some-clause-quiet : goal.returns-in_ok-finish-in-Some-clause-quiet
returns-in_ok-finish-in-Some-clause-quiet g c = λ tells log due fits stands.
    let S = g.S.Shelf in
    let value = c.in_ok-finish-in-Some.ensures.value in
    finished_quiet S.sees log c.in-Some.made c.args.chain.now c.finish.new.chain c.args.shelf.now c.finish.new.shelf (ap (λ (x : Chain). x.live) value) (ap (λ (x : Chain). x.indexid) value)
    (Ok tt) due (subst (λ (t : Option Turn). Fits t due) c.in-Some.is fits) stands (c.in_ok-finish-in-Some.ensures.leaves tells) (λ rests. c.in_ok-finish-in-Some.ensures.quiet tells rests)

pub returns-in-None-clause-quiet : goal.returns-in-None-clause-quiet
returns-in-None-clause-quiet g c = λ tells log due fits stands.
    let S = g.S.Shelf in
    let old = c.args.shelf.now in
    let new = c.heal.new.shelf in
    let chain = c.args.chain.now in
    let value = c.heal.ensures.value in
    let heals = c.heal.ensures.opens tells (owed_of chain.live.mailbox due) stands.rests in
    healed_quiet S.sees log due chain c.heal.new.chain old new stands value.live value.file.0 c.heal.result (subst (λ (t : Option Turn). Fits t due) c.in-None.is fits) heals
    (λ f left. g.met.S.Shelf.counts_now new (S.sees.moment old) f heals.any_moment.later left)

pub returns-in-None-clause-turns : goal.returns-in-None-clause-turns
returns-in-None-clause-turns g c = λ tells none made.
    let S = g.S.Shelf in
    let old = S.sees.files c.args.shelf.now in
    let new = S.sees.files c.heal.new.shelf in
    let bytes = heals_log c.args.chain.now.log old new c.heal.result (c.heal.ensures.bytes tells) (λ due. ap S.sees.files (c.heal.ensures.nothing due).1) in
    turn_stays made c.args.chain.now c.heal.new.chain c.heal.result old new c.heal.ensures.value bytes

pub returns-in_err-finish-in-Some-clause-settled : goal.returns-in_err-finish-in-Some-clause-settled
returns-in_err-finish-in-Some-clause-settled g c = λ tells.
    rose_settled g.S.Shelf.sees c.args.shelf.now c.finish.new.shelf c.in_err-finish-in-Some.ensures.cause.rose

pub returns-in_ok-finish-in-Some-clause-settled : goal.returns-in_ok-finish-in-Some-clause-settled
returns-in_ok-finish-in-Some-clause-settled g c = λ tells.
    put_settled g.S.Shelf.sees c.args.shelf.now c.finish.new.shelf Log c.in-Some.made.new _ c.in_ok-finish-in-Some.ensures.cause (c.in_ok-finish-in-Some.ensures.leaves tells)
