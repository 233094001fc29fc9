use Rattle.std.proofs.Common.{◌∙◌, Err, inr, refl, sym, ap, subst, arith}
use Rattle.std.proofs.lemmas.Result.{err_from_is_err_and}
use Rattle.dv_model.specs.Effects.{applied}
use Rattle.dv_mdbox.specs.Answers.{IsFailure}
use Rattle.dv_mdbox.proofs.Counted.{count_group, counts_done, counts_stayed, failure_refused, finds_room, group_counted, is_counted, through_count}
use Rattle.dv_mdbox.proofs.Ending.{end_counted, tail_stays}
use Rattle.dv_mdbox.proofs.storage.Storage.put_count.Goals as goal

pub write-requires-clause-group : goal.write-requires-clause-group
write-requires-clause-group g c = count_group c.self.inside.chain c.args.id c.args.count c.records_are_written.ensures.counts c.in_ok-records.records c.in_ok-records.ensures (sym c.is_full.ensures ∙ c.if-is_full.false)

pub write-requires-clause-tail : goal.write-requires-clause-tail
write-requires-clause-tail g c =
    end_counted c.places_are.ensures c.self.inside.chain.live.mailbox c.is_valid.ensures c.in_ok-records.records c.args.id c.args.count c.in_ok-records.ensures c.self.inside.tail c.self.invariant.2

-- ---- nothing was written

pub returns-then-is_full-clause-gives : goal.returns-then-is_full-clause-gives
returns-then-is_full-clause-gives g c = rw (← c.self.view_is) (λ tells messages debt n change there to rest.
    let S = g.S.Shelf in
    let old = c.self.inside in
    let m = old.chain.live.mailbox in
    let is = is_counted c.counts_are.ensures c.records_are_written.ensures.counts m c.args.id n c.args.count change rest.map c.is_valid.ensures (omega (arith, c.ranges.id.fits)) (omega (arith, c.ranges.count.fits)) there to in
    counts_stayed S.sees messages debt c.args.id c.args.count change _ rest is _ _ refl refl refl (λ f left. g.met.S.Shelf.only_now old.shelf f tells left))

pub returns-in_err-records-clause-gives : goal.returns-in_err-records-clause-gives
returns-in_err-records-clause-gives g c = rw (← c.self.view_is) (λ tells messages debt n change there to rest.
    let S = g.S.Shelf in
    let old = c.self.inside in
    let m = old.chain.live.mailbox in
    let p = err_from_is_err_and c.from_residual.result c.from_residual.ensures.1 in
    let is = is_counted c.counts_are.ensures c.records_are_written.ensures.counts m c.args.id n c.args.count change rest.map c.is_valid.ensures (omega (arith, c.ranges.id.fits)) (omega (arith, c.ranges.count.fits)) there to in
    rw p.1 (counts_stayed S.sees messages debt c.args.id c.args.count change _ rest is _ p.0 refl refl refl (λ f left. g.met.S.Shelf.only_now old.shelf f tells left)))

pub returns-in_err-records-clause-room : goal.returns-in_err-records-clause-room
returns-in_err-records-clause-room g c = rw (← c.self.view_is) (
    let p = err_from_is_err_and c.from_residual.result c.from_residual.ensures.1 in
    rw p.1 (finds_room {A = Unit {0}} c.self.inside.chain 48 (Err p.0) (sym c.is_full.ensures ∙ c.if-is_full.false) (subst IsFailure (sym p.2) tt)))

pub returns-in_err-records-clause-refused : goal.returns-in_err-records-clause-refused
returns-in_err-records-clause-refused g c =
    let p = err_from_is_err_and c.from_residual.result c.from_residual.ensures.1 in
    rw p.1 (failure_refused {A = Unit {0}} _ (Err p.0) (subst IsFailure (sym p.2) tt))

-- ---- the group

pub returns-clause-room : goal.returns-clause-room
returns-clause-room g c = rw (← c.self.view_is) (finds_room c.self.inside.chain 48 c.write.result (sym c.is_full.ensures ∙ c.if-is_full.false) c.write.ensures.err)

pub returns-clause-refused : goal.returns-clause-refused
returns-clause-refused g c = failure_refused _ c.write.result c.write.ensures.err

pub returns-clause-value : goal.returns-clause-value
returns-clause-value g c = rw (← c.self.view_is) (group_counted c.args.id c.args.count c.in_ok-records.records c.in_ok-records.ensures _ c.write.new.self c.turn_time-time.new.clock c.write.result c.write.ensures.value)

pub returns-clause-gives : goal.returns-clause-gives
returns-clause-gives g c = rw (← c.self.view_is) (λ tells messages debt n change there to rest.
    let S = g.S.Shelf in
    let old = c.self.inside in
    let m = old.chain.live.mailbox in
    let law = c.records_are_written.ensures.counts in
    let records = c.in_ok-records.records in
    let is = is_counted c.counts_are.ensures law m c.args.id n c.args.count change rest.map c.is_valid.ensures (omega (arith, c.ranges.id.fits)) (omega (arith, c.ranges.count.fits)) there to in
    counts_done S.sees messages debt c.args.id c.args.count change _ rest is law records c.in_ok-records.ensures c.write.new.self c.turn_time-time.new.clock c.write.result c.write.ensures.value
    (c.write.ensures.gives tells messages messages debt is.after rest.fits rest.stands (ap (applied m) c.in_ok-records.ensures ∙ is.gives) (through_count messages m is.after c.args.id change is.counts)).0)

pub returns-clause-clock : goal.returns-clause-clock
returns-clause-clock g c = rw (← c.self.view_is) (λ tells. inr (ap g.C.Clock.sees.upcoming c.write.ensures.beside.clock ∙ c.turn_time-time.ensures.clock tells))

pub returns-clause-tail : goal.returns-clause-tail
returns-clause-tail g c = rw (← c.self.view_is) (tail_stays c.self.inside.tail c.write.new.self.tail c.self.inside.tail c.write.result refl c.write.ensures.beside.ok c.write.ensures.beside.err)

pub returns-clause-mail_reads : goal.returns-clause-mail_reads
returns-clause-mail_reads g c = rw (← c.self.view_is) c.write.ensures.beside.mail_reads
