use Rattle.std.proofs.Common.{rules, List, ◌∙◌, ◌++◌, ◌∷◌, [], refl, sym, ap, subst}
use Rattle.std.proofs.lemmas.Result.{err_from_is_err_and}
use Rattle.dv_model.specs.declared.types.Entry.{Entry}
use Rattle.dv_model.specs.declared.types.Mailbox.{Mailbox}
use Rattle.dv_filing.specs.Standing.{Fits}
use Rattle.dv_mdbox.specs.Tails.{KeepsEnd}
use Rattle.dv_mdbox.specs.Writes.{entry_of}
use Rattle.dv_mdbox.proofs.Equal.{owing_equal, stands_equal, stands_looked}
use Rattle.dv_mdbox.proofs.Written.{group_written, mails_looked, mails_written, map_written, marked_equal, quiet_entries, quiet_failed, quiet_unwritten, quiet_written, write_of}
use Rattle.dv_mdbox.proofs.storage.Storage.write.Goals as goal

pub invariant_of-self : goal.invariant_of-self
invariant_of-self g c =
    let chain = c.make_ready.new.chain in
    let old = c.self.inside in
    let same = c.in_err-text.ensures.chain in
    (owing_equal chain old.chain old.owed same c.self.invariant.0, marked_equal old.mark chain old.chain old.owed same c.self.invariant.1, subst (λ (m : Mailbox). KeepsEnd m old.tail) (sym same.mailbox) c.self.invariant.2)

pub invariant_of-self-in_err-reserve : goal.invariant_of-self-in_err-reserve
invariant_of-self-in_err-reserve g c =
    let chain = c.make_ready.new.chain in
    let old = c.self.inside in
    let same = c.in_ok-text.ensures.chain in
    (owing_equal chain old.chain old.owed same c.self.invariant.0, marked_equal old.mark chain old.chain old.owed same c.self.invariant.1, subst (λ (m : Mailbox). KeepsEnd m old.tail) (sym same.mailbox) c.self.invariant.2)

pub carry_out-requires-clause-owing : goal.carry_out-requires-clause-owing
carry_out-requires-clause-owing g c = owing_equal c.make_ready.new.chain c.self.inside.chain c.self.inside.owed c.in_ok-text.ensures.chain c.self.invariant.0

-- ---- nothing was written

pub returns-in_err-text-clause-gives : goal.returns-in_err-text-clause-gives
returns-in_err-text-clause-gives g c = rw (← c.self.view_is) (λ tells messages next debt after fits stands gives keeps.
    let S = g.S.Shelf in
    let old = c.self.inside in
    let chain = c.make_ready.new.chain in
    let mid = c.make_ready.new.shelf in
    let same = c.in_err-text.ensures.chain in
    let looks = c.in_err-text.ensures.looks.changes tells in
    let p = err_from_is_err_and c.from_residual.result c.from_residual.ensures.1 in
    rw p.1 (
      quiet_unwritten S.sees messages next debt after c.args.records _ chain same mid looks stands p.0 fits (stands_equal S.sees messages debt chain old.chain mid same (stands_looked S.sees messages debt old.chain old.shelf mid looks stands)),
      mails_looked S.sees c.args.files old.shelf mid looks,
    ))

pub returns-in_err-reserve-clause-gives : goal.returns-in_err-reserve-clause-gives
returns-in_err-reserve-clause-gives g c = rw (← c.self.view_is) (λ tells messages next debt after fits stands gives keeps.
    let S = g.S.Shelf in
    let old = c.self.inside in
    let chain = c.make_ready.new.chain in
    let mid = c.make_ready.new.shelf in
    let same = c.in_ok-text.ensures.chain in
    let looks = c.in_ok-text.ensures.looks.changes tells in
    let p = err_from_is_err_and c.from_residual-in_err-reserve.result c.from_residual-in_err-reserve.ensures.1 in
    rw p.1 (
      quiet_entries S.sees messages next debt after _ _ _ _ _
          (quiet_unwritten S.sees messages next debt after c.args.records _ chain same mid looks stands p.0 fits (stands_equal S.sees messages debt chain old.chain mid same (stands_looked S.sees messages debt old.chain old.shelf mid looks stands))),
      mails_looked S.sees c.args.files old.shelf mid looks,
    ))

-- ---- the group was written

pub returns-in-Ok-clause-value : goal.returns-in-Ok-clause-value
returns-in-Ok-clause-value g c = rw (← c.self.view_is) (
    let made = c.in_ok-text.field-0 in
    let group = rw (← c.self.view_is) at c.requires.group in
    group_written c.args.records _ c.make_ready.new.chain c.in_ok-text.ensures.chain c.args.files made.text made.steps c.in_ok-text.ensures.ready
    group.are.applies c.carry_out.new.owed c.carry_out.new.chain c.carry_out.new.shelf c.in-Ok.committed _ _ c.self.invariant.1
    (c.push_reserved.ensures.items ∙ ap (λ (es : List Entry). es ++ entry_of c.args.records ∷ []) c.in_ok-reserve.ensures.items) c.in-Ok.ensures.value)

pub returns-in-Ok-clause-gives : goal.returns-in-Ok-clause-gives
returns-in-Ok-clause-gives g c = rw (← c.self.view_is) (λ tells messages next debt after fits stands gives keeps.
    let S = g.S.Shelf in
    let old = c.self.inside in
    let chain = c.make_ready.new.chain in
    let mid = c.make_ready.new.shelf in
    let ready = c.in_ok-text in
    let same = ready.ensures.chain in
    let looks = ready.ensures.looks.changes tells in
    let here = stands_equal S.sees messages debt chain old.chain mid same (stands_looked S.sees messages debt old.chain old.shelf mid looks stands) in
    let new = c.carry_out.new in
    let made = ready.field-0 in
    let steps = ready.ensures.ready in
    let closes = ready.ensures.closes tells in
    let is = write_of S.sees messages next after c.args.records old.owed old.chain chain same old.shelf mid looks c.args.files made.text made.steps steps closes gives keeps in
    let done = c.in-Ok.ensures.gives tells messages next debt after (subst (λ (m : Mailbox). Fits old.owed m debt) (sym same.mailbox) fits) here is in (
      quiet_written S.sees messages next debt after c.args.records _ chain same mid looks stands c.args.files made.text made.steps steps new.owed new.chain new.shelf c.in-Ok.committed _ refl refl refl c.in-Ok.ensures.value.paid.1 done,
      mails_written S.sees c.args.files made.steps steps.file old.shelf mid new.shelf looks done.others,
    ))

pub invariant_of-self-in-Ok-1 : goal.invariant_of-self-in-Ok-1
invariant_of-self-in-Ok-1 g c =
    let made = c.in_ok-text.field-0 in
    let group = rw (← c.self.view_is) at c.requires.group in
    let value = c.in-Ok.ensures.value in
    let map = map_written c.args.records c.self.inside.owed c.carry_out.new.owed c.self.inside.chain c.make_ready.new.chain c.in_ok-text.ensures.chain c.args.files made.text made.steps c.in_ok-text.ensures.ready
    group.are.applies c.carry_out.new.chain c.in-Ok.committed value in (
      value.owing,
      search rules,
      (rw (← c.self.view_is) at c.requires.tail) c.carry_out.new.chain.live.mailbox map,
    )

-- ---- or that failed

pub returns-in-Err-clause-gives : goal.returns-in-Err-clause-gives
returns-in-Err-clause-gives g c = rw (← c.self.view_is) (λ tells messages next debt after fits stands gives keeps.
    let S = g.S.Shelf in
    let old = c.self.inside in
    let chain = c.make_ready.new.chain in
    let mid = c.make_ready.new.shelf in
    let ready = c.in_ok-text in
    let same = ready.ensures.chain in
    let looks = ready.ensures.looks.changes tells in
    let here = stands_equal S.sees messages debt chain old.chain mid same (stands_looked S.sees messages debt old.chain old.shelf mid looks stands) in
    let new = c.carry_out.new in
    let made = ready.field-0 in
    let steps = ready.ensures.ready in
    let closes = ready.ensures.closes tells in
    let is = write_of S.sees messages next after c.args.records old.owed old.chain chain same old.shelf mid looks c.args.files made.text made.steps steps closes gives keeps in
    let done = c.in-Err.ensures.gives tells messages next debt after (subst (λ (m : Mailbox). Fits old.owed m debt) (sym same.mailbox) fits) here is in (
      quiet_entries S.sees messages next debt after _ _ _ _ _
          (quiet_failed S.sees messages next debt after c.args.records _ chain same mid looks stands c.args.files made.text made.steps steps new.owed new.chain new.shelf c.in-Err.field-0 _ done),
      mails_written S.sees c.args.files made.steps steps.file old.shelf mid new.shelf looks done.others,
    ))
