use Rattle.std.proofs.Common.{◌∙◌, ap, drop, arith, refl, sym, subst}
use Rattle.std.proofs.lemmas.Bool.{both_ways}
use Rattle.std.proofs.lemmas.Result.{err_from_is_err_and}
use Rattle.dv_model.specs.Mailboxes.{AreExtensions}
use Rattle.dv_index.proofs.Ends.{check_weaker}
use Rattle.dv_index.proofs.TableTexts.{AreTableBytes, no_extensions, not_allowed}
use Rattle.dv_index.proofs.reading.tables.read_tables.Goals as goal

pub returns-in_err-extensions-clause-check : goal.returns-in_err-extensions-clause-check
returns-in_err-extensions-clause-check c =
    let p = err_from_is_err_and c.from_residual-in_err-extensions.result c.from_residual-in_err-extensions.ensures.1 in
    let bytes : AreTableBytes c.u32_at-size.result c.u32_at.result c.u32_at-count.result c.split_at-2.result.1.now c.args.b.now =
    record { is_size = c.u32_at-size.ensures; is_names = c.u32_at.ensures; is_extensions = c.u32_at-count.ensures; is_text = c.split_at-2.ensures.back ∙ ap (drop 120) c.split_at.ensures.front; bounds = (omega arith, omega arith) } in
    rw (p.1, p.2) (check_weaker c.in_err-extensions.field-0.0 2 _ _ (no_extensions c.u32_at-size.result c.u32_at.result c.u32_at-count.result c.split_at-2.result.1.now c.args.b.now bytes c.in_ok-names.names c.in_ok-names.rest.now c.in_ok-names.ensures.found) c.in_err-extensions.ensures.check)

pub returns-then-not-are_extensions-clause-check :
    goal.returns-then-not-are_extensions-clause-check
returns-then-not-are_extensions-clause-check c =
    let bytes : AreTableBytes c.u32_at-size.result c.u32_at.result c.u32_at-count.result c.split_at-2.result.1.now c.args.b.now =
    record { is_size = c.u32_at-size.ensures; is_names = c.u32_at.ensures; is_extensions = c.u32_at-count.ensures; is_text = c.split_at-2.ensures.back ∙ ap (drop 120) c.split_at.ensures.front; bounds = (omega arith, omega arith) } in
    rw c.failed-then-not-are_extensions.ensures (
      refl,
      not_allowed c.u32_at-size.result c.u32_at.result c.u32_at-count.result c.split_at-2.result.1.now c.args.b.now bytes c.in_ok-names.names c.in_ok-names.rest.now c.in_ok-names.ensures.found
          c.in_ok-extensions.extensions c.in_ok-extensions.ensures.found (λ allowed. both_ways c.are_extensions.result c.if-not-are_extensions.true (c.are_extensions.ensures.1 (subst AreExtensions (sym c.as_slice.ensures) allowed))),
    )
