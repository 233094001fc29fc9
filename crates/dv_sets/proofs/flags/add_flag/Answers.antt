use Rattle.std.proofs.Common.{inr, ◌∷◌, ◌++◌, [], not, refl, ap, subst, sym, ◌∙◌}
use Rattle.dv_formats.specs.Scripts.{IsFlag}
use Rattle.dv_sets.specs.Known.{KnowsAll}
use Rattle.dv_sets.proofs.Known.{knows_more, knows_word, one_again, one_new}
use Rattle.dv_sets.proofs.flags.add_flag.Goals as goal

pub returns-in_ok-push-clause-known : goal.returns-in_ok-push-clause-known
returns-in_ok-push-clause-known c =
    let more = c.in_ok-push.ensures.ok ∙ ap (λ w. c.args.keywords.now ++ w ∷ []) c.in_ok-from_slice.ensures in
    subst (KnowsAll c.insert.new.self) (sym more) (knows_more c.args.known.now c.insert.new.self c.args.word c.args.keywords.now c.requires.known c.in_ok-insert.ensures.updates)

pub returns-in_ok-push-clause-ok : goal.returns-in_ok-push-clause-ok
returns-in_ok-push-clause-ok c =
    let is : IsFlag c.args.word.now = inr (c.if-not-is_name.ensures.0 refl) in
    let new = knows_word c.args.known.now c.args.keywords.now c.args.word c.in_ok-insert.field-0 c.requires.known c.in_ok-insert.ensures.added ∙ ap not c.if-branch.true in
    let more = c.in_ok-push.ensures.ok ∙ ap (λ w. c.args.keywords.now ++ w ∷ []) c.in_ok-from_slice.ensures in
    (is, one_new c.args.flags c.args.keywords.now c.args.word.now (sym c.in_default.ensures) new ∙ ap (λ ks. (c.args.flags, ks)) (sym more))

pub returns-else-branch-clause-ok : goal.returns-else-branch-clause-ok
returns-else-branch-clause-ok c =
    let is : IsFlag c.args.word.now = inr (c.if-not-is_name.ensures.0 refl) in
    let known = knows_word c.args.known.now c.args.keywords.now c.args.word c.in_ok-insert.field-0 c.requires.known c.in_ok-insert.ensures.added ∙ ap not c.if-branch.false in
    (is, one_again c.args.flags c.args.keywords.now c.args.word.now (sym c.in_default.ensures) known)
