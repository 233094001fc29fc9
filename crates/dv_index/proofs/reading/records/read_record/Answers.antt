use Rattle.std.proofs.Common.{◌≡◌, ◌*◌, length, get_or, arith, refl, rules, subst, sym, ◌∙◌, ap}
use Rattle.std.proofs.lemmas.Result.{err_from_is_err_and}
use Rattle.dv_model.specs.declared.types.Row.{Row}
use Rattle.dv_formats.specs.Snapshots.{keyword_words}
use Rattle.dv_index.specs.Reading.{ArePlaces, AreParts}
use Rattle.dv_index.proofs.Ends.{check_weaker}
use Rattle.dv_index.proofs.Outcomes.{row_long}
use Rattle.dv_index.proofs.Records.{record_split, record_there}
use Rattle.dv_index.proofs.reading.records.read_record.Goals as goal

pub returns-in_err-read_places-clause-check : goal.returns-in_err-read_places-clause-check
returns-in_err-read_places-clause-check c =
    let p = err_from_is_err_and c.from_residual.result c.from_residual.ensures.1 in
    let size : 4 * c.keyword_words.result ≡ 4 * keyword_words (length c.args.head.now.keywords) = ap (λ k. 4 * k) (c.keyword_words.ensures ∙ ap keyword_words c.len-names.ensures) in
    rw (p.1, p.2)
    (check_weaker c.in_err-read_places.field-0.0 6 _ _
    (λ none row is.
    let both = record_split c.args.version c.args.head.now.highest c.in-Some.modseq c.args.head.now row c.args.bytes.now c.in-Some.rest.now (4 * c.keyword_words.result) c.requires.shaped.known size is c.in-Some.ensures.some in
    none row.keywords (subst (λ k. ArePlaces k row.keywords c.split_at.result.0.now) (sym c.len-names.ensures) (subst (ArePlaces (length c.args.head.now.keywords) row.keywords) (sym c.split_at.ensures.front) both.0)))
    c.in_err-read_places.ensures.check)

pub returns-in_err-read_parts-clause-check : goal.returns-in_err-read_parts-clause-check
returns-in_err-read_parts-clause-check c =
    let p = err_from_is_err_and c.from_residual-in_err-read_parts.result c.from_residual-in_err-read_parts.ensures.1 in
    let size : 4 * c.keyword_words.result ≡ 4 * keyword_words (length c.args.head.now.keywords) = ap (λ k. 4 * k) (c.keyword_words.ensures ∙ ap keyword_words c.len-names.ensures) in
    rw (p.1, p.2)
    (check_weaker c.in_err-read_parts.field-0.0 6 _ _
    (λ none row is.
    let both = record_split c.args.version c.args.head.now.highest c.in-Some.modseq c.args.head.now row c.args.bytes.now c.in-Some.rest.now (4 * c.keyword_words.result) c.requires.shaped.known size is c.in-Some.ensures.some in
    none row.parts (subst (λ es. AreParts es row.parts c.split_at.result.1.now) (sym c.as_slice.ensures) (subst (AreParts c.args.head.now.extensions row.parts) (sym c.split_at.ensures.back) both.1)))
    c.in_err-read_parts.ensures.check)

pub returns-clause-found : goal.returns-clause-found
returns-clause-found c =
    let row : Row = record { uid = c.u32_at.result; flags = get_or c.args.bytes.now 4 0; keywords = c.in_ok-read_places.field-0; parts = c.in_ok-read_parts.field-0; modseq = c.in-Some.modseq } in
    let long = row_long c.args.version c.args.head.now c.requires.shaped.known in
    record_there c.args.version c.args.head.now row c.args.bytes.now c.in-Some.rest.now (4 * c.keyword_words.result) (λ i. let fits = c.type_inv.bytes i in omega (arith, fits)) (omega (arith, long, c.requires.long, c.requires.shaped.known.0))
    c.u32_at.ensures refl (search rules) (search rules) (search rules) c.in-Some.ensures.some
    (subst (ArePlaces (length c.args.head.now.keywords) c.in_ok-read_places.field-0) c.split_at.ensures.front (subst (λ k. ArePlaces k c.in_ok-read_places.field-0 c.split_at.result.0.now) c.len-names.ensures c.in_ok-read_places.ensures.found))
    (subst (AreParts c.args.head.now.extensions c.in_ok-read_parts.field-0) c.split_at.ensures.back (subst (λ es. AreParts es c.in_ok-read_parts.field-0 c.split_at.result.1.now) c.as_slice.ensures c.in_ok-read_parts.ensures.found))
