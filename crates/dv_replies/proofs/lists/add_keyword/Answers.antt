use Rattle.std.proofs.Common.{◌≡◌, ◌∙◌, true, false, refl}
use Rattle.dv_formats.specs.Parsing.{is_name}
use Rattle.dv_commands.proofs.Grammar.{name_test}
use Rattle.dv_replies.proofs.lists.add_keyword.Goals as goal

pub returns-then-not-is_name : goal.returns-then-not-is_name
returns-then-not-is_name c =
    let test : is_name c.args.word.now ≡ false = name_test c.is_name.result c.args.word.now c.is_name.ensures ∙ c.if-not-is_name.true in
    rw test refl

pub returns : goal.returns
returns c =
    let test : is_name c.args.word.now ≡ true = name_test c.is_name.result c.args.word.now c.is_name.ensures ∙ c.if-not-is_name.false in
    rw (test, c.in_ok-push.ensures.ok, c.in_ok-from_slice.ensures) refl
