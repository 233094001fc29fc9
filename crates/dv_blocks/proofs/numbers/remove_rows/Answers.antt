use Rattle.std.proofs.Common.{◌≡◌, ◌∙◌, ap, map, subst, sym}
use Rattle.std.specs.List.{between, remove_range}
use Rattle.dv_blocks.specs.Cells.{Cells}
use Rattle.dv_blocks.specs.Shared.{AreShared, row_of}
use Rattle.dv_blocks.proofs.Gone.{left_rows, left_shared}
use Rattle.dv_blocks.proofs.Seen.{dues_less}
use Rattle.dv_blocks.proofs.numbers.remove_rows.Goals as goal

pub returns-clause-shared : goal.returns-clause-shared
returns-clause-shared c hs are =
    let cells = c.args.blocks.now.cells in
    let left : c.remove.new.self.cells ≡ remove_range cells c.args.from c.args.to = ap (λ (s : Cells). s.cells) c.remove.ensures in
    subst (AreShared hs c.release_rows.new.sets) (sym left) (left_shared c.args.sets.now c.release_rows.new.sets cells c.args.from c.args.to c.requires.order are c.release_rows.ensures)

pub returns-clause-rows : goal.returns-clause-rows
returns-clause-rows c sizes =
    let cells = c.args.blocks.now.cells in
    let left : c.remove.new.self.cells ≡ remove_range cells c.args.from c.args.to = ap (λ (s : Cells). s.cells) c.remove.ensures in
    ap (map (row_of c.release_rows.new.sets sizes)) left ∙ left_rows c.args.sets.now c.release_rows.new.sets sizes cells c.args.from c.args.to c.requires.order c.requires.shared.1 c.release_rows.ensures

pub returns-clause-held : goal.returns-clause-held
returns-clause-held c hs are =
    let cells = c.args.blocks.now.cells in
    let i = c.args.from in
    let j = c.args.to in
    dues_less hs c.args.sets.now c.release_rows.new.sets (between i j cells) (remove_range cells i j) (left_shared c.args.sets.now c.release_rows.new.sets cells i j c.requires.order are c.release_rows.ensures) c.release_rows.ensures
