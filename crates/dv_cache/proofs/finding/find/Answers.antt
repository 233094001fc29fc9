use Rattle.std.proofs.Common.{◌+◌, Some, drop, arith, ap, sym, subst, ◌∙◌}
use Rattle.dv_cache.specs.Finding.{AreFieldsOf, IsRowAt, word_at}
use Rattle.dv_cache.proofs.Rows.{no_room, one_row, row_of, stands}
use Rattle.dv_cache.proofs.finding.find.Goals as goal

pub returns-then-b-place-clause-none : goal.returns-then-b-place-clause-none
returns-then-b-place-clause-none c = λ row is. no_room c.args.b.now (word_at (c.args.offset + 12) c.args.b.now) is.fields (omega (arith, c.u32_at-place.ensures)) is.stand

pub returns-then-b-place-clause-only : goal.returns-then-b-place-clause-only
returns-then-b-place-clause-only c = λ row is. absurd (no_room c.args.b.now (word_at (c.args.offset + 12) c.args.b.now) is.fields (omega (arith, c.u32_at-place.ensures)) is.stand)

pub returns-in_default-clause-none : goal.returns-in_default-clause-none
returns-in_default-clause-none c = λ row is. (rw c.in_default.is at c.in_ok-fields.ensures.none) is.fields (subst (λ t. AreFieldsOf t is.fields) (ap (λ k. drop k c.args.b.now) (sym c.u32_at-place.ensures) ∙ sym c.split_at.ensures.back) is.stand)

pub returns-in_default-clause-only : goal.returns-in_default-clause-only
returns-in_default-clause-only c = λ row is. absurd ((rw c.in_default.is at c.in_ok-fields.ensures.none) is.fields (subst (λ t. AreFieldsOf t is.fields) (ap (λ k. drop k c.args.b.now) (sym c.u32_at-place.ensures) ∙ sym c.split_at.ensures.back) is.stand))

pub returns-clause-found : goal.returns-clause-found
returns-clause-found c =
    stands c.args.b.now c.args.indexid c.args.seq c.args.uid c.args.offset c.u32_at-place.result c.u32_at.result c.u32_at-2.result c.in-Some.fields
    (c.has_header.ensures.0 c.if-not-has_header.false) (c.has_entry.ensures.0 c.if-not-has_entry.false) c.u32_at-place.ensures c.u32_at.ensures c.u32_at-2.ensures (subst (λ t. AreFieldsOf t c.in-Some.fields) c.split_at.ensures.back (rw c.in-Some.is at c.in_ok-fields.ensures.found))

pub returns-clause-only : goal.returns-clause-only
returns-clause-only c = λ row is.
    let found : IsRowAt c.args.b.now c.args.indexid c.args.seq c.args.uid c.args.offset (row_of c.args.uid c.u32_at.result c.u32_at-2.result c.in-Some.fields) =
    stands c.args.b.now c.args.indexid c.args.seq c.args.uid c.args.offset c.u32_at-place.result c.u32_at.result c.u32_at-2.result c.in-Some.fields
    (c.has_header.ensures.0 c.if-not-has_header.false) (c.has_entry.ensures.0 c.if-not-has_entry.false) c.u32_at-place.ensures c.u32_at.ensures c.u32_at-2.ensures (subst (λ t. AreFieldsOf t c.in-Some.fields) c.split_at.ensures.back (rw c.in-Some.is at c.in_ok-fields.ensures.found)) in
    ap (λ r. Some r) (one_row c.args.b.now c.args.indexid c.args.seq c.args.uid c.args.offset (row_of c.args.uid c.u32_at.result c.u32_at-2.result c.in-Some.fields) row found is)
