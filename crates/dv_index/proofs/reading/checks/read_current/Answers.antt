use Rattle.std.proofs.Common.{◌-◌, get_or, ap, arith, sym, ◌∙◌}
use Rattle.std.proofs.lemmas.Option.{get_or_from_slice_get, slice_get-get_or, slice_get_within}
use Rattle.dv_model.specs.declared.types.Extension.{Extension}
use Rattle.dv_index.proofs.Headers.{current_words, no_current, some_current}
use Rattle.dv_index.proofs.reading.checks.read_current.Goals as goal

pub returns-then-size-eq0-clause-some : goal.returns-then-size-eq0-clause-some
returns-then-size-eq0-clause-some c =
    no_current c.args.extensions.now c.args.b.now (λ i. let fits = c.type_inv.b i in omega (arith, fits)) (omega arith) (omega (arith, c.u32_at-place.ensures, c.if-place-eq0.true)) (omega (arith, c.u32_at-size.ensures, c.if-size-eq0.true))

pub returns-else-size-eq0-clause-none : goal.returns-else-size-eq0-clause-none
returns-else-size-eq0-clause-none c = λ current is.
    let has = current_words c.args.extensions.now c.args.b.now current c.requires.few c.requires.short is in
    c.if-size-eq0.false (c.u32_at-size.ensures ∙ has.none (sym c.u32_at-place.ensures ∙ c.if-place-eq0.true))

pub returns-then-extension-extensions-clause-none : goal.returns-then-extension-extensions-clause-none
returns-then-extension-extensions-clause-none c = λ current is.
    let has = current_words c.args.extensions.now c.args.b.now current c.requires.few c.requires.short is in
    let entry = has.some (c.u32_at-place.result - 1) (omega (arith, c.u32_at-place.ensures, c.if-place-eq0.false)) in
    let below = slice_get_within c.args.extensions.now (c.u32_at-place.result - 1) entry.0 entry.1 in
    omega (arith, below, c.if-extension-extensions.true)

pub returns-then-size-from-clause-none : goal.returns-then-size-from-clause-none
returns-then-size-from-clause-none c = λ current is.
    let has = current_words c.args.extensions.now c.args.b.now current c.requires.few c.requires.short is in
    let entry = has.some (c.u32_at-place.result - 1) (omega (arith, c.u32_at-place.ensures, c.if-place-eq0.false)) in
    let same = ap (λ (e : Extension). e.record_size) (get_or_from_slice_get c.args.extensions.now (c.u32_at-place.result - 1) entry.0 c.index-extensions-extension.result entry.1) in
    omega (arith, same, entry.2, c.from.ensures, c.if-size-from.true, c.u32_at-size.ensures)

pub overflow_cast-size : goal.overflow_cast-size
overflow_cast-size c = omega (arith, c.index-extensions-extension.element_fits, c.from.ensures, c.if-size-from.false)

pub returns-clause-some : goal.returns-clause-some
returns-clause-some c =
    let entry = get_or c.args.extensions.now (c.u32_at-place.result - 1) c.index-extensions-extension.result in
    some_current c.args.extensions.now c.args.b.now (record { extension = c.u32_at-place.result - 1; size = c.u32_at-size.result }) entry (λ i. let fits = c.type_inv.b i in omega (arith, fits)) (omega arith)
    (omega (arith, c.u32_at-place.ensures, c.if-place-eq0.false)) c.u32_at-size.ensures (slice_get-get_or c.args.extensions.now (c.u32_at-place.result - 1) c.index-extensions-extension.result c.if-extension-extensions.false) (omega (arith, c.if-size-from.false, c.from.ensures))
