use Rattle.std.proofs.Common.{◌≡◌, ◌∙◌, ◌∷◌, [], true, false, rules, sym, get_or}
use Rattle.std.specs.Str.{bytes_eq}
use Rattle.std.proofs.lemmas.Slice.Eq.{bytes_eq-Decides}
use Rattle.dv_commands.proofs.Numbers.{no_kind, number_kinds, number_utf8, number_read, number_parses, starts_no, starts_yes, zero_text}
use Rattle.dv_commands.proofs.leaves.read_decimal.Goals as goal

pub returns-then-eq-clause-some : goal.returns-then-eq-clause-some
returns-then-eq-clause-some c =
    let same : bytes_eq c.args.b.now (48 ∷ []) ≡ true = search rules in
    (bytes_eq-Decides c.args.b.now (48 ∷ [])).0 same ∙ sym zero_text

pub returns-then-not-starts_number-clause-none : goal.returns-then-not-starts_number-clause-none
returns-then-not-starts_number-clause-none c = λ n small is.
    let other : bytes_eq c.args.b.now (48 ∷ []) ≡ false = search rules in
    no_kind c.args.b.now other (starts_no (get_or c.args.b.now 0 0) (sym c.starts_number.ensures ∙ c.if-not-starts_number.true)) (number_kinds n c.args.b.now small is)

pub returns-in_default-clause-none : goal.returns-in_default-clause-none
returns-in_default-clause-none c = λ n small is. c.in_default.ensures.cases.0 (number_utf8 n c.args.b.now small is)

pub returns-in-Ok-parse-clause-some : goal.returns-in-Ok-parse-clause-some
returns-in-Ok-parse-clause-some c =
    let first = starts_yes (get_or c.args.b.now 0 0) (sym c.starts_number.ensures ∙ c.if-not-starts_number.false) in
    let text = rw c.in-Ok.ensures.cases.0 at c.in-Ok-parse.ensures.value.0 in
    number_read c.in-Ok-parse.n c.args.b.now first text

pub returns-in-Err-clause-none : goal.returns-in-Err-clause-none
returns-in-Err-clause-none c = λ n small is.
    let text = rw c.in-Ok.ensures.cases.0 at c.in-Err.ensures.value.0 in
    number_parses n c.args.b.now c.in-Err.field-0 small is text
