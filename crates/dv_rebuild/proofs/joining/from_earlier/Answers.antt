use Rattle.std.proofs.Common.{◌≡◌, ◌∙◌, refl, subst, sym}
use Rattle.std.specs.Prelude.{IfOk}
use Rattle.dv_openings.specs.Salvages.{Salvaged}
use Rattle.dv_chain.specs.Files.{good_file, snapshot_of}
use Rattle.dv_rebuild.specs.declared.salvage.Salvage.{Salvage}
use Rattle.dv_rebuild.specs.Walks.{salvaged_of}
use Rattle.dv_rebuild.proofs.Joins.{from_first_file, no_rotated, not_in_first, not_next}
use Rattle.dv_rebuild.proofs.joining.from_earlier.Goals as goal

pub returns-then-not-is_next : goal.returns-then-not-is_next
returns-then-not-is_next c = λ spots before has file none.
    c.from_end.ensures spots before has none (not_next (good_file c.args.log.now spots) (snapshot_of c.args.index) before (sym c.is_next.ensures ∙ c.if-not-is_next.true))

pub returns-in-Some-2 : goal.returns-in-Some-2
returns-in-Some-2 c = λ spots before has file none.
    let first = rw c.in-Some.is at file in
    let log = good_file c.args.log.now spots in
    let counts = rw c.in-Some-2.is at (c.in_ok-before-in-Some.ensures.counted first.0 first.1) in
    subst (λ (x : Salvaged). IfOk c.from_rotated.result (λ (made : Salvage). salvaged_of made ≡ x))
    (from_first_file log (snapshot_of c.args.index) before _ (good_file c.in-Some.first first.0) counts.0 first.2 none (sym c.is_next.ensures ∙ c.if-not-is_next.false) counts.1 refl)
    (c.from_rotated.ensures spots first.0 counts.0 has first.1 counts.1 counts.2)

pub returns-in-None-2 : goal.returns-in-None-2
returns-in-None-2 c = λ spots before has file none.
    let first = rw c.in-Some.is at file in
    let counts = rw c.in-None-2.is at (c.in_ok-before-in-Some.ensures.counted first.0 first.1) in
    c.from_end-in-None-2.ensures spots before has none
    (not_in_first (good_file c.args.log.now spots) (snapshot_of c.args.index) before (good_file c.in-Some.first first.0) first.2 (sym c.is_next.ensures ∙ c.if-not-is_next.false) counts)

pub returns-in-None : goal.returns-in-None
returns-in-None c = λ spots before has file none.
    c.from_end-in-None.ensures spots before has none (no_rotated (good_file c.args.log.now spots) (snapshot_of c.args.index) before (rw c.in-None.is at file))
