use Rattle.std.proofs.Common.{◌≡◌, ◌++◌, rules}
use Rattle.std.specs.List.{flat_map}
use Rattle.dv_formats.specs.Snapshots.{row_text}
use Rattle.dv_index.proofs.Texts.{snapshot_written, valid_head}
use Rattle.dv_index.proofs.writing.write.Goals as goal

pub begin-requires-clause-valid : goal.begin-requires-clause-valid
begin-requires-clause-valid c = valid_head c.args.m.now c.requires.valid

pub returns : goal.returns
returns c =
    let m = c.args.m.now in
    let rows : c.write_rows.new.out ≡ c.in_ok-text.text ++ flat_map (row_text 2 m) m.rows = search rules in
    snapshot_written m c.args.indexid c.args.mark c.in_ok-text.text c.write_rows.new.out c.requires.valid c.in_ok-text.ensures.fits (search rules) (search rules)
    (c.in_ok-text.ensures.text m.rows c.tally_of.ensures) rows
