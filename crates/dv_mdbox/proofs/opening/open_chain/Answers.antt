use Rattle.std.proofs.Common.{Bool, Err, inl, inr, sym, subst}
use Rattle.std.proofs.lemmas.Bool.{MatchBool-at_false, MatchBool-at_true}
use Rattle.dv_shelf.specs.Folders.{Folder, IsNew}
use Rattle.dv_chain.specs.declared.chain.Chain.{Chain}
use Rattle.dv_openings.specs.Openings.{IsFound}
use Rattle.dv_chain.specs.Openings.{Answers, found_of}
use Rattle.dv_chain.proofs.Shelves.{cause_then}
use Rattle.dv_plans.proofs.Dated.{cut, cut_same, cut_small}
use Rattle.dv_mdbox.proofs.Opened.{cause_passed, makes_behind, makes_unlooked, opens_behind, opens_unlooked, settled_mid, takes_made, takes_nothing, tells_found, tells_made, tells_outside}
use Rattle.dv_mdbox.proofs.opening.open_chain.Goals as goal

pub returns-in-Ok-true-clause-opens : goal.returns-in-Ok-true-clause-opens
returns-in-Ok-true-clause-opens g c = λ tells settled some.
    let S = g.S.Shelf in
    let old = c.args.shelf.now in
    let mid = c.has_storage.new.shelf in
    let looks = c.has_storage.ensures.looks tells in
    opens_behind S.sees old mid settled looks c.open_found.new.shelf c.open_found.result (c.open_found.ensures.opens tells (settled_mid S.sees old mid settled looks))

pub returns-in-Ok-false-clause-opens : goal.returns-in-Ok-false-clause-opens
returns-in-Ok-false-clause-opens g c = λ tells settled some.
    let S = g.S.Shelf in
    let files = S.sees.files c.args.shelf.now in
    absurd (some (MatchBool-at_false (IsNew files → ⊥) (IsNew files) c.in-Ok-false.field-0-test (c.in-Ok-false.ensures.is tells)))

pub returns-in-Err-clause-opens : goal.returns-in-Err-clause-opens
returns-in-Err-clause-opens g c = λ tells settled some.
    let S = g.S.Shelf in
    opens_unlooked S.sees c.args.shelf.now c.has_storage.new.shelf settled (c.has_storage.ensures.looks tells) c.in-Err.fault c.in-Err.ensures.err

pub returns-in-Ok-true-clause-makes : goal.returns-in-Ok-true-clause-makes
returns-in-Ok-true-clause-makes g c = λ tells settled new.
    let S = g.S.Shelf in
    let files = S.sees.files c.args.shelf.now in
    absurd (MatchBool-at_true (IsNew files → ⊥) (IsNew files) c.in-Ok-true.field-0-test (c.in-Ok-true.ensures.is tells) new)

pub returns-in-Ok-false-clause-makes : goal.returns-in-Ok-false-clause-makes
returns-in-Ok-false-clause-makes g c = λ tells settled new.
    let S = g.S.Shelf in
    let old = c.args.shelf.now in
    let mid = c.has_storage.new.shelf in
    let looks = c.has_storage.ensures.looks tells in
    record {
      at = c.now-now.result;
      small = c.is_number.ensures;
      clock = c.now-now.ensures.reading;
      is = makes_behind S.sees old mid settled looks c.make_new.new.shelf c.make_new.result c.now-now.result
          (c.make_new.ensures.makes tells (settled_mid S.sees old mid settled looks) (subst IsNew (sym looks.same) new));
    }

pub returns-in-Err-clause-makes : goal.returns-in-Err-clause-makes
returns-in-Err-clause-makes g c = λ tells settled new.
    let S = g.S.Shelf in
    let reading = g.C.Clock.sees.upcoming c.args.clock.now 0 in
    record {
      at = cut reading;
      small = cut_small reading;
      clock = λ reads. cut_same reading (g.met.C.Clock.readings_small c.args.clock.now 0 reads);
      is = makes_unlooked S.sees c.args.shelf.now c.has_storage.new.shelf settled (c.has_storage.ensures.looks tells) c.in-Err.fault (cut reading) c.in-Err.ensures.err;
    }

pub returns-in-Ok-true-clause-clock : goal.returns-in-Ok-true-clause-clock
returns-in-Ok-true-clause-clock g c = λ reads. takes_nothing (g.C.Clock.sees.upcoming c.args.clock.now) c.open_found.result

pub returns-in-Ok-false-clause-clock : goal.returns-in-Ok-false-clause-clock
returns-in-Ok-false-clause-clock g c = λ reads. takes_made (g.C.Clock.sees.upcoming c.args.clock.now) (g.C.Clock.sees.upcoming c.now-now.new.self) c.make_new.result c.make_new.ensures.err (inr (c.now-now.ensures.later reads))

pub returns-in-Err-clause-clock : goal.returns-in-Err-clause-clock
returns-in-Err-clause-clock g c = λ reads. takes_nothing {A = Chain} (g.C.Clock.sees.upcoming c.args.clock.now) (Err c.in-Err.fault)

pub returns-in-Ok-true-clause-found : goal.returns-in-Ok-true-clause-found
returns-in-Ok-true-clause-found g c = λ tells.
    let S = g.S.Shelf in
    let files = S.sees.files c.args.shelf.now in
    let looks = c.has_storage.ensures.looks tells in
    tells_found files c.open_found.result (MatchBool-at_true (IsNew files → ⊥) (IsNew files) c.in-Ok-true.field-0-test (c.in-Ok-true.ensures.is tells))
    (subst (λ (f : Folder). Answers found_of c.open_found.result (IsFound f)) looks.same (c.open_found.ensures.found tells))

pub returns-in-Ok-false-clause-found : goal.returns-in-Ok-false-clause-found
returns-in-Ok-false-clause-found g c = λ tells.
    let S = g.S.Shelf in
    let files = S.sees.files c.args.shelf.now in
    tells_made files c.make_new.result (MatchBool-at_false (IsNew files → ⊥) (IsNew files) c.in-Ok-false.field-0-test (c.in-Ok-false.ensures.is tells)) c.make_new.ensures.err

pub returns-in-Err-clause-found : goal.returns-in-Err-clause-found
returns-in-Err-clause-found g c = λ tells. tells_outside (g.S.Shelf.sees.files c.args.shelf.now) c.in-Err.fault c.in-Err.ensures.err

pub returns-in-Ok-true-clause-cause : goal.returns-in-Ok-true-clause-cause
returns-in-Ok-true-clause-cause g c =
    let S = g.S.Shelf in
    cause_then (S.sees.fault_count c.args.shelf.now) (S.sees.fault_count c.has_storage.new.shelf) (S.sees.fault_count c.open_found.new.shelf) c.has_storage.result c.open_found.result c.has_storage.ensures.cause c.open_found.ensures.cause

pub returns-in-Ok-false-clause-cause : goal.returns-in-Ok-false-clause-cause
returns-in-Ok-false-clause-cause g c =
    let S = g.S.Shelf in
    cause_then (S.sees.fault_count c.args.shelf.now) (S.sees.fault_count c.has_storage.new.shelf) (S.sees.fault_count c.make_new.new.shelf) c.has_storage.result c.make_new.result c.has_storage.ensures.cause c.make_new.ensures.cause

pub returns-in-Err-clause-cause : goal.returns-in-Err-clause-cause
returns-in-Err-clause-cause g c =
    let S = g.S.Shelf in
    cause_passed Bool Chain (S.sees.fault_count c.args.shelf.now) (S.sees.fault_count c.has_storage.new.shelf) c.in-Err.fault c.in-Err.ensures.cause

pub returns-in-Ok-true-clause-either : goal.returns-in-Ok-true-clause-either
returns-in-Ok-true-clause-either g c = λ tells settled.
    let S = g.S.Shelf in
    let old = c.args.shelf.now in
    let mid = c.has_storage.new.shelf in
    let looks = c.has_storage.ensures.looks tells in
    inr (opens_behind S.sees old mid settled looks c.open_found.new.shelf c.open_found.result (c.open_found.ensures.opens tells (settled_mid S.sees old mid settled looks)))

pub returns-in-Ok-false-clause-either : goal.returns-in-Ok-false-clause-either
returns-in-Ok-false-clause-either g c = λ tells settled.
    let files = g.S.Shelf.sees.files c.args.shelf.now in
    inl (MatchBool-at_false (IsNew files → ⊥) (IsNew files) c.in-Ok-false.field-0-test (c.in-Ok-false.ensures.is tells))

pub returns-in-Err-clause-either : goal.returns-in-Err-clause-either
returns-in-Err-clause-either g c = λ tells settled.
    let S = g.S.Shelf in
    inr (opens_unlooked S.sees c.args.shelf.now c.has_storage.new.shelf settled (c.has_storage.ensures.looks tells) c.in-Err.fault c.in-Err.ensures.err)
