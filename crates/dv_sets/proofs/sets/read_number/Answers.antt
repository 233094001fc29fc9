use Rattle.std.proofs.Common.{◌∙◌, sym, get_or}
use Rattle.dv_sets.proofs.EndTexts.{number_starts, number_utf8, number_read, number_parses, starts_yes, starts_no}
use Rattle.dv_sets.proofs.sets.read_number.Goals as goal

pub returns-then-not-starts_number-clause-none : goal.returns-then-not-starts_number-clause-none
returns-then-not-starts_number-clause-none c = λ n is.
    let first = number_starts n c.args.b.now is in
    starts_no (get_or c.args.b.now 0 0) (sym c.starts_number.ensures ∙ c.if-not-starts_number.true) first.0 first.1

pub returns-in_default-clause-none : goal.returns-in_default-clause-none
returns-in_default-clause-none c = λ n is. c.in_default.ensures.cases.0 (number_utf8 n c.args.b.now is)

pub returns-in-Ok-parse-clause-some : goal.returns-in-Ok-parse-clause-some
returns-in-Ok-parse-clause-some c =
    let first = starts_yes (get_or c.args.b.now 0 0) (sym c.starts_number.ensures ∙ c.if-not-starts_number.false) in
    let text = rw c.in-Ok.ensures.cases.0 at c.in-Ok-parse.ensures.value.0 in
    number_read c.in-Ok-parse.n c.args.b.now first text

pub returns-in-Err-clause-none : goal.returns-in-Err-clause-none
returns-in-Err-clause-none c = λ n is.
    let text = rw c.in-Ok.ensures.cases.0 at c.in-Err.ensures.value.0 in
    number_parses n c.args.b.now c.in-Err.field-0 is text
