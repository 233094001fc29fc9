use Rattle.std.proofs.Common.{◌++◌, ◌∙◌, ap, rules}
use Rattle.std.proofs.lemmas.List.Elements.{All-nil}
use Rattle.dv_model.specs.declared.types.Row.{Row}
use Rattle.std.specs.Prelude.{◌<◌, All}
use Rattle.dv_formats.specs.Snapshots.{AreBytes, header_text}
use Rattle.dv_index.specs.Fronts.{with_rows}
use Rattle.dv_index.proofs.Texts.{front_written}
use Rattle.dv_index.proofs.writing.begin.Goals as goal

pub returns-clause-text : goal.returns-clause-text
returns-clause-text c = λ rows has.
    front_written (with_rows rows c.args.m.now) c.args.indexid c.args.mark c.as_slice.result.now c.write_header.new.out c.extend.new.self (search rules) (c.in_ok-write_header.ensures.text rows has ∙ ap (λ t. t ++ header_text 2 (with_rows rows c.args.m.now) c.args.indexid c.args.mark) (c.from_vec-text.ensures ∙ c.in_ok-with_capacity.ensures.items)) (search rules)

pub returns-clause-fits : goal.returns-clause-fits
returns-clause-fits c = record {
  validity = search rules;
  flags = All-nil (λ (row : Row). row.flags < 256);
  parts = All-nil (λ (row : Row). All AreBytes row.parts);
  extensions = search rules;
  named = search rules;
  place = search rules;
  tables = search rules;
}
