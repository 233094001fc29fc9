use Rattle.std.proofs.Common.{rules, sym}
use Rattle.dv_model.specs.Effects.{with_item, with_row_parts}
use Rattle.dv_rows.specs.Changed.{written_at_front}
use Rattle.dv_rows.proofs.PartChanges.{none_changes, one_changes}
use Rattle.dv_rows.proofs.parts.set_in.Goals as goal

pub write_in-requires : goal.write_in-requires
write_in-requires c = c.requires.fits c.in-Some.at c.index-rows-at.result c.in-Some.ensures.inside

pub returns-in_default : goal.returns-in_default
returns-in_default c = none_changes c.args.uid (with_row_parts (with_item c.args.place (written_at_front c.args.bytes.now))) c.args.rows.now (search rules)

pub returns : goal.returns
returns c =
    one_changes c.args.uid c.in-Some.at (with_row_parts (with_item c.args.place (written_at_front c.args.bytes.now))) c.args.rows.now c.index-rows-at.result c.write_in.new.row c.requires.rows c.in-Some.ensures.inside (sym c.in-Some.ensures.is) c.write_in.ensures
