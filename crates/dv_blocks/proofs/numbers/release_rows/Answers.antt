use Rattle.std.proofs.Common.{◌≡◌, ◌⊎◌, ◌<◌, ℕ, arith, get_or, length, subst, sym}
use Rattle.dv_blocks.specs.Shared.{IsReleased, uses_of}
use Rattle.dv_blocks.proofs.Found.{no_cell}
use Rattle.dv_blocks.proofs.Gone.{more_less, next_leaves}
use Rattle.dv_blocks.proofs.numbers.release_rows.Goals as goal

pub release-requires : goal.release-requires
release-requires c =
    let cells = c.args.blocks.now.cells in
    let at = c.loop-at.at in
    let inside : at < length cells = let less = c.loop-at-test.true in let most = c.requires.inside in omega arith in
    let own : c.entry-number.result.words ≡ (get_or cells at no_cell).words = (c.entry-number.ensures no_cell).words in
    subst (λ (n : ℕ). (n ≡ 0) ⊎ (0 < uses_of c.loop-at.sets n)) (sym own)
    (next_leaves c.args.sets.now c.loop-at.sets cells c.args.from at no_cell c.loop-at.auto.at inside c.requires.shared.1 c.loop-at.invariant)

pub loop-at-preserved : goal.loop-at-preserved
loop-at-preserved c =
    let cells = c.args.blocks.now.cells in
    let at = c.loop-at.at in
    let inside : at < length cells = let less = c.loop-at-test.true in let most = c.requires.inside in omega arith in
    let own : c.entry-number.result.words ≡ (get_or cells at no_cell).words = (c.entry-number.ensures no_cell).words in
    more_less c.args.sets.now c.loop-at.sets c.release.new.sets cells c.args.from at no_cell c.loop-at.auto.at inside c.loop-at.invariant
    (subst (λ (n : ℕ). IsReleased c.loop-at.sets c.release.new.sets n) own c.release.ensures)
