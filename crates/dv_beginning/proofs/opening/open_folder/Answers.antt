use Rattle.std.proofs.Common.{Err, refl, sym, ap, subst}
use Rattle.std.proofs.lemmas.Bool.{MatchBool-at_false, MatchBool-at_true}
use Rattle.std.specs.Prelude.{Bool}
use Rattle.dv_chain.specs.declared.chain.Chain.{Chain}
use Rattle.dv_chain.proofs.Shelves.{cause_then, settled_still}
use Rattle.dv_store.specs.Opening.{answered, clock_behind, shelf_behind}
use Rattle.dv_serving.proofs.Readings.{any_readings, readings_give}
use Rattle.dv_serving.specs.NextRuns.{IsTrueFolder}
use Rattle.dv_shelf.specs.Folders.{Folder, IsNew}
use Rattle.dv_beginning.specs.Causes.{TellsOpening}
use Rattle.dv_beginning.proofs.Created.{outside_none}
use Rattle.dv_beginning.proofs.Looked.{begins_behind, cause_told, unlooked}
use Rattle.dv_beginning.proofs.Readings.{unread_opening}
use Rattle.dv_beginning.proofs.opening.open_folder.Goals as goal

-- ---- what a run begins from

pub returns-in-Ok-true-clause-begins : goal.returns-in-Ok-true-clause-begins
returns-in-Ok-true-clause-begins g c = λ tells settled is_true.
    let S = g.S.Shelf in
    let C = g.C.Clock in
    let looks = c.has_mailbox.ensures.looks tells in
    let some : IsNew (S.sees.files c.args.shelf) → ⊥ = MatchBool-at_true (IsNew (S.sees.files c.args.shelf) → ⊥) (IsNew (S.sees.files c.args.shelf)) c.in-Ok-true.field-0-test (c.in-Ok-true.ensures.is tells) in
    readings_give
    (c.open_found.ensures.begins tells (settled_still S.sees c.args.shelf c.has_mailbox.new.shelf settled looks) (subst IsTrueFolder (sym looks.same) is_true)
    (λ new. some (subst IsNew looks.same new)))
    (λ clock small told begins. begins_behind S.sees C.sees clock c.args.shelf c.has_mailbox.new.shelf settled looks c.open_found.result is_true begins)

pub returns-in-Ok-false-clause-begins : goal.returns-in-Ok-false-clause-begins
returns-in-Ok-false-clause-begins g c = λ tells settled is_true.
    let S = g.S.Shelf in
    let C = g.C.Clock in
    let looks = c.has_mailbox.ensures.looks tells in
    let new : IsNew (S.sees.files c.args.shelf) = MatchBool-at_false (IsNew (S.sees.files c.args.shelf) → ⊥) (IsNew (S.sees.files c.args.shelf)) c.in-Ok-false.field-0-test (c.in-Ok-false.ensures.is tells) in
    readings_give
    (c.make_new.ensures.begins tells (settled_still S.sees c.args.shelf c.has_mailbox.new.shelf settled looks) (subst IsNew (sym looks.same) new))
    (λ clock small told begins. begins_behind S.sees C.sees clock c.args.shelf c.has_mailbox.new.shelf settled looks c.make_new.result is_true begins)

pub returns-in-Err-clause-begins : goal.returns-in-Err-clause-begins
returns-in-Err-clause-begins g c = λ tells settled is_true.
    let S = g.S.Shelf in
    let C = g.C.Clock in
    any_readings C.sees.tells (C.sees.upcoming c.args.clock) (g.met.C.Clock.readings_small c.args.clock)
    (λ clock same. unlooked S.sees C.sees clock c.args.shelf c.has_mailbox.new.shelf settled (c.has_mailbox.ensures.looks tells) c.in-Err.fault c.in-Err.ensures.err)

-- ---- the clock

pub returns-in-Ok-true-clause-clock : goal.returns-in-Ok-true-clause-clock
returns-in-Ok-true-clause-clock g c = λ timed.
    let C = g.C.Clock in
    unread_opening (C.sees.upcoming c.args.clock) (C.sees.upcoming (clock_behind c.open_found.result)) (answered c.open_found.result) (ap C.sees.upcoming c.open_found.ensures.clock)

pub returns-in-Err-clause-clock : goal.returns-in-Err-clause-clock
returns-in-Err-clause-clock g c = λ timed.
    let C = g.C.Clock in
    unread_opening {A = Chain} (C.sees.upcoming c.args.clock) (C.sees.upcoming c.args.clock) (Err c.in-Err.fault) refl

-- ---- causes

pub returns-in-Ok-true-clause-cause : goal.returns-in-Ok-true-clause-cause
returns-in-Ok-true-clause-cause g c =
    let S = g.S.Shelf in
    cause_then (S.sees.fault_count c.args.shelf) (S.sees.fault_count c.has_mailbox.new.shelf) (S.sees.fault_count (shelf_behind c.open_found.result)) c.has_mailbox.result (answered c.open_found.result) c.has_mailbox.ensures.cause c.open_found.ensures.cause

pub returns-in-Ok-false-clause-cause : goal.returns-in-Ok-false-clause-cause
returns-in-Ok-false-clause-cause g c =
    let S = g.S.Shelf in
    cause_then (S.sees.fault_count c.args.shelf) (S.sees.fault_count c.has_mailbox.new.shelf) (S.sees.fault_count (shelf_behind c.make_new.result)) c.has_mailbox.result (answered c.make_new.result) c.has_mailbox.ensures.cause c.make_new.ensures.cause

pub returns-in-Err-clause-cause : goal.returns-in-Err-clause-cause
returns-in-Err-clause-cause g c =
    let S = g.S.Shelf in
    cause_told Bool Chain (S.sees.fault_count c.args.shelf) (S.sees.fault_count c.has_mailbox.new.shelf) c.in-Err.fault c.in-Err.ensures.cause

-- ---- what is found is told

pub returns-in-Ok-true-clause-found : goal.returns-in-Ok-true-clause-found
returns-in-Ok-true-clause-found g c = λ tells.
    let S = g.S.Shelf in
    let looks = c.has_mailbox.ensures.looks tells in
    let some : IsNew (S.sees.files c.args.shelf) → ⊥ = MatchBool-at_true (IsNew (S.sees.files c.args.shelf) → ⊥) (IsNew (S.sees.files c.args.shelf)) c.in-Ok-true.field-0-test (c.in-Ok-true.ensures.is tells) in
    subst (λ (folder : Folder). TellsOpening folder (answered c.open_found.result)) looks.same
    (c.open_found.ensures.found tells (λ new. some (subst IsNew looks.same new)))

pub returns-in-Ok-false-clause-found : goal.returns-in-Ok-false-clause-found
returns-in-Ok-false-clause-found g c = λ tells.
    let S = g.S.Shelf in
    let looks = c.has_mailbox.ensures.looks tells in
    let new : IsNew (S.sees.files c.args.shelf) = MatchBool-at_false (IsNew (S.sees.files c.args.shelf) → ⊥) (IsNew (S.sees.files c.args.shelf)) c.in-Ok-false.field-0-test (c.in-Ok-false.ensures.is tells) in
    subst (λ (folder : Folder). TellsOpening folder (answered c.make_new.result)) looks.same
    (c.make_new.ensures.found tells (subst IsNew (sym looks.same) new))

pub returns-in-Err-clause-found : goal.returns-in-Err-clause-found
returns-in-Err-clause-found g c = λ tells is. absurd (outside_none c.in-Err.fault c.in-Err.ensures.err is)
