use Rattle.std.proofs.Common.{◌++◌, [], ◌∷◌, ap, ◌∙◌, arith, rules}
use Rattle.std.specs.Int.{w32, to_le_bytes}
use Rattle.std.specs.List.{flat_map}
use Rattle.dv_formats.specs.Snapshots.{rows_with}
use Rattle.dv_index.specs.Fronts.{with_rows}
use Rattle.dv_index.proofs.Counts.{current_low, few_names}
use Rattle.dv_index.proofs.Texts.{header_written}
use Rattle.dv_index.proofs.header.write_header.Goals as goal

pub row_size-requires-clause-names : goal.row_size-requires-clause-names
row_size-requires-clause-names c = let few = few_names c.args.m.now in omega (arith, few, c.requires.tables, c.requires.room)

pub overflow_cast-keywords : goal.overflow_cast-keywords
overflow_cast-keywords c = let few = few_names c.args.m.now in omega (arith, few, c.requires.tables, c.requires.room)

pub current_words-requires : goal.current_words-requires
current_words-requires c = current_low (with_rows [] c.args.m.now) c.requires.valid

pub returns-clause-text : goal.returns-clause-text
returns-clause-text c = λ rows has.
    header_written (with_rows rows c.args.m.now) c.args.indexid c.args.mark c.args.out.now c.current_words.result c.extend.new.self c.write_words.new.out c.write_words-2.new.out c.write_words-3.new.out c.write_words-4.new.out c.write_words-5.new.out c.write_words-6.new.out c.extend-2.new.self c.extend-3.new.self
    (search rules) (search rules) (search rules)
    (c.in_ok-write_words-3.ensures.text ∙ ap (λ n. c.write_words-2.new.out ++ flat_map (to_le_bytes w32) (n ∷ c.args.mark.file_seq ∷ c.args.mark.offset ∷ [])) has.rows)
    (search rules) (search rules) c.current_words.ensures
    (c.in_ok-write_words-6.ensures.text ∙ ap (λ n. c.write_words-5.new.out ++ flat_map (to_le_bytes w32) (n ∷ c.args.counts.deleted ∷ [])) has.seen
    ∙ ap (λ n. c.write_words-5.new.out ++ flat_map (to_le_bytes w32) (rows_with 8 (with_rows rows c.args.m.now) ∷ n ∷ [])) has.deleted)
    (search rules) (search rules)

pub returns-clause-fits : goal.returns-clause-fits
returns-clause-fits c = c.write_words-2.ensures.fits 2 0 (omega arith)
