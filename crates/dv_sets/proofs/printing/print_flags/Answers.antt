use Rattle.std.proofs.Common.{◌∙◌, ◌++◌, ◌∷◌, [], ap}
use Rattle.dv_model.specs.Texts.{flag_words}
use Rattle.dv_sets.proofs.Printed.{two_lists}
use Rattle.dv_sets.proofs.printing.print_flags.Goals as goal

pub returns : goal.returns
returns c =
    let keywords = rw c.as_slice.ensures at c.in_ok-put_keywords.ensures in
    c.close.ensures (flag_words c.args.flags ++ c.args.keywords.now) (two_lists (flag_words c.args.flags) c.args.keywords.now c.push.new.self c.put_system_flags.new.text c.put_keywords.new.text (c.in_ok-push.ensures.ok ∙ ap (λ t. t ++ 40 ∷ []) c.new-text.ensures) c.in_ok-put_system_flags.ensures keywords)
