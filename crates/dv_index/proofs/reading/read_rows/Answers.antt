use Rattle.std.proofs.Common.{inl, inr, ◌<◌, ◌^◌, List, length, arith, refl, subst, sym}
use Rattle.std.proofs.lemmas.Bool.{both_ways}
use Rattle.std.proofs.lemmas.Result.{err_from_is_err_and}
use Rattle.dv_model.specs.declared.types.Row.{Row}
use Rattle.dv_formats.specs.SnapshotFaults.{IsCurrent, IsRowFault}
use Rattle.dv_index.specs.Reading.{HasCountsOf}
use Rattle.dv_index.proofs.Ends.{check_fault}
use Rattle.dv_index.proofs.Outcomes.{counts_back, counts_of, few_rows, long_enough, read_of, shaped_of}
use Rattle.dv_index.proofs.reading.read_rows.Goals as goal

pub has_row_size-requires-clause-shaped : goal.has_row_size-requires-clause-shaped
has_row_size-requires-clause-shaped c = shaped_of c.args.head c.args.b.now (λ i. let fits = c.type_inv.b i in omega (arith, fits)) c.requires.header c.requires.tables c.requires.head

pub returns-then-not-has_row_size-clause-fault : goal.returns-then-not-has_row_size-clause-fault
returns-then-not-has_row_size-clause-fault c = rw c.failed.ensures (inl (λ same. both_ways c.has_row_size.result c.if-not-has_row_size.true (c.has_row_size.ensures.1 same), refl))

pub returns-then-not-has_length-clause-fault : goal.returns-then-not-has_length-clause-fault
returns-then-not-has_length-clause-fault c =
    let size = c.has_row_size.ensures.0 c.if-not-has_row_size.false in
    rw c.failed-then-not-has_length.ensures (inr (size, inl (λ same. both_ways c.has_length.result c.if-not-has_length.true (c.has_length.ensures.1 same), refl)))

pub returns-in_default-clause-fault : goal.returns-in_default-clause-fault
returns-in_default-clause-fault c =
    let size = c.has_row_size.ensures.0 c.if-not-has_row_size.false in
    let end = c.has_length.ensures.0 c.if-not-has_length.false in
    rw c.failed-in_default.ensures (inr (size, inr (end, inl (λ has. c.in_default.ensures.none has.0 (subst (λ es. IsCurrent es has.0 c.args.b.now) (sym c.as_slice.ensures) has.1), refl))))

pub read_records-requires-clause-shaped : goal.read_records-requires-clause-shaped
read_records-requires-clause-shaped c = shaped_of c.args.head c.args.b.now (λ i. let fits = c.type_inv.b i in omega (arith, fits)) c.requires.header c.requires.tables c.requires.head

pub returns-in_err-rows-clause-fault : goal.returns-in_err-rows-clause-fault
returns-in_err-rows-clause-fault c =
    let p = err_from_is_err_and c.from_residual.result c.from_residual.ensures.1 in
    let size = c.has_row_size.ensures.0 c.if-not-has_row_size.false in
    let end = c.has_length.ensures.0 c.if-not-has_length.false in
    let current : IsCurrent c.args.head.extensions c.in-Some.current c.args.b.now = subst (λ es. IsCurrent es c.in-Some.current c.args.b.now) c.as_slice.ensures c.in-Some.ensures.some in
    rw (p.1, p.2) (check_fault c.in_err-rows.field-0.0 6 _ (λ f. IsRowFault c.args.head f c.args.b.now) (λ none. inr (size, inr (end, inr ((c.in-Some.current, current), inl (none, refl))))) c.in_err-rows.ensures.check)

pub has_flag_counts-requires-clause-few : goal.has_flag_counts-requires-clause-few
has_flag_counts-requires-clause-few c =
    subst (λ (rows : List Row). length rows < 2 ^ 32) (sym c.as_slice-2.ensures) (few_rows c.args.head c.in_ok-rows.rows c.args.b.now (λ i. let fits = c.type_inv.b i in omega (arith, fits)) c.in_ok-rows.ensures.found)

pub returns-then-not-has_flag_counts-clause-fault :
    goal.returns-then-not-has_flag_counts-clause-fault
returns-then-not-has_flag_counts-clause-fault c =
    let size = c.has_row_size.ensures.0 c.if-not-has_row_size.false in
    let end = c.has_length.ensures.0 c.if-not-has_length.false in
    let current : IsCurrent c.args.head.extensions c.in-Some.current c.args.b.now = subst (λ es. IsCurrent es c.in-Some.current c.args.b.now) c.as_slice.ensures c.in-Some.ensures.some in
    let rows = c.in_ok-rows.ensures.found in
    rw c.failed-then-not-has_flag_counts.ensures (inr (
      size,
      inr (
        end,
        inr (
          (c.in-Some.current, current),
          inr (
            (c.in_ok-rows.rows, rows),
            inl (
              λ counts. both_ways c.has_flag_counts.result c.if-not-has_flag_counts.true
                  (c.has_flag_counts.ensures.1 (subst (λ (rs : List Row). HasCountsOf rs c.args.b.now) (sym c.as_slice-2.ensures) (counts_back c.args.head c.in_ok-rows.rows c.args.b.now rows counts))),
              refl,
            ),
          ),
        ),
      ),
    ))

pub first_unordered-requires-clause-size : goal.first_unordered-requires-clause-size
first_unordered-requires-clause-size c = long_enough c.args.head c.args.b.now c.requires.header (c.has_row_size.ensures.0 c.if-not-has_row_size.false)

pub returns-in-Some-first_unordered-clause-fault :
    goal.returns-in-Some-first_unordered-clause-fault
returns-in-Some-first_unordered-clause-fault c =
    let size = c.has_row_size.ensures.0 c.if-not-has_row_size.false in
    let end = c.has_length.ensures.0 c.if-not-has_length.false in
    let current : IsCurrent c.args.head.extensions c.in-Some.current c.args.b.now = subst (λ es. IsCurrent es c.in-Some.current c.args.b.now) c.as_slice.ensures c.in-Some.ensures.some in
    let rows = c.in_ok-rows.ensures.found in
    let counts : HasCountsOf c.in_ok-rows.rows c.args.b.now = subst (λ (rs : List Row). HasCountsOf rs c.args.b.now) c.as_slice-2.ensures (c.has_flag_counts.ensures.0 c.if-not-has_flag_counts.false) in
    inr (size, inr (end, inr ((c.in-Some.current, current), inr ((c.in_ok-rows.rows, rows), inr (counts_of c.args.head c.in_ok-rows.rows c.args.b.now rows counts, c.in-Some-first_unordered.ensures.some)))))

pub returns-clause-found : goal.returns-clause-found
returns-clause-found c =
    let size = c.has_row_size.ensures.0 c.if-not-has_row_size.false in
    let end = c.has_length.ensures.0 c.if-not-has_length.false in
    let current : IsCurrent c.args.head.extensions c.in-Some.current c.args.b.now = subst (λ es. IsCurrent es c.in-Some.current c.args.b.now) c.as_slice.ensures c.in-Some.ensures.some in
    let counts : HasCountsOf c.in_ok-rows.rows c.args.b.now = subst (λ (rs : List Row). HasCountsOf rs c.args.b.now) c.as_slice-2.ensures (c.has_flag_counts.ensures.0 c.if-not-has_flag_counts.false) in
    read_of c.args.head (record c.args.head { rows = c.in_ok-rows.rows; current = c.in-Some.current }) c.args.b.now (λ i. let fits = c.type_inv.b i in omega (arith, fits)) c.requires.header c.requires.tables c.requires.head refl
    size end current c.in_ok-rows.ensures.found counts c.in_default-first_unordered.ensures.none
