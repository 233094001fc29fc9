use Rattle.std.proofs.Common.{rules, ap, ◌∙◌, ◌++◌}
use Rattle.std.proofs.lemmas.Result.{on_ok_weaker}
use Rattle.dv_formats.specs.Snapshots.{filled}
use Rattle.dv_index.proofs.Texts.{extension_written}
use Rattle.dv_index.proofs.tables.write_extension.Goals as goal

pub returns-clause-text : goal.returns-clause-text
returns-clause-text c =
    on_ok_weaker c.write_filled-2.result
    (λ e. extension_written c.args.e.now c.args.out.now c.write_words.new.out c.write_halves.new.out c.write_filled.new.out c.write_filled-2.new.out (search rules) (search rules)
    (c.in_ok-write_filled.ensures.text ∙ ap (λ t. c.write_halves.new.out ++ filled t) c.as_slice.ensures) (e ∙ ap (λ t. c.write_filled.new.out ++ filled t) c.as_slice-2.ensures)) c.write_filled-2.ensures.text
