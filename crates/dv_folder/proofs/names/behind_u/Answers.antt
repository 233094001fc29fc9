use Rattle.std.proofs.Common.{◌∷◌, lit<}
use Rattle.std.proofs.lemmas.Str.Pattern.{strip_prefix_char}
use Rattle.dv_folder.proofs.NameLemmas.{two_letters}
use Rattle.dv_folder.proofs.names.behind_u.Goals as goal

pub returns-in_err-strip_prefix : goal.returns-in_err-strip_prefix
returns-in_err-strip_prefix c =
    let first = strip_prefix_char 117 c.args.text.now c.strip_prefix.result c.strip_prefix.ensures.cases (lit< tt) in
    let none = rw c.in_err-strip_prefix.was at first in
    rw c.from_residual.ensures (λ rest. none (46 ∷ rest))

pub returns : goal.returns
returns c =
    let first = strip_prefix_char 117 c.args.text.now c.strip_prefix.result c.strip_prefix.ensures.cases (lit< tt) in
    let some = rw c.in_ok-strip_prefix.was at first in
    two_letters 117 c.args.text.now c.in_ok-strip_prefix.field-0.now c.strip_prefix-2.result some (strip_prefix_char 46 c.in_ok-strip_prefix.field-0.now c.strip_prefix-2.result c.strip_prefix-2.ensures.cases (lit< tt))
