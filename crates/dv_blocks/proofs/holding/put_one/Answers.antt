use Rattle.std.proofs.Common.{◌≡◌, ◌∙◌, ◌⊎◌, ◌<◌, ◌∷◌, ℕ, ap, arith, get_or, length, map, subst, sym}
use Rattle.std.proofs.lemmas.List.{length-map}
use Rattle.dv_model.specs.Effects.{with_item}
use Rattle.dv_blocks.specs.Cells.{Cells, with_values}
use Rattle.dv_blocks.specs.Shared.{AreShared, IsReleased, row_of, set_of, uses_of, with_keywords}
use Rattle.dv_blocks.proofs.Found.{no_cell}
use Rattle.dv_blocks.proofs.Pendings.{gone_seen, gone_shared, item_past, own_leaves_too, put_seen, put_shared}
use Rattle.dv_blocks.proofs.Seen.{dues_released}
use Rattle.dv_blocks.proofs.holding.put_one.Goals as goal

pub returns-then-next-len-clause-held : goal.returns-then-next-len-clause-held
returns-then-next-len-clause-held c hs are =
    let s = c.args.sets.now in
    let u = c.release.new.sets in
    let cells = c.args.blocks.now.cells in
    dues_released hs s u c.args.next.words cells (gone_shared hs c.args.next s u cells are c.release.ensures) c.release.ensures

pub returns-then-next-len-clause-rows : goal.returns-then-next-len-clause-rows
returns-then-next-len-clause-rows c sizes =
    let s = c.args.sets.now in
    let u = c.release.new.sets in
    let p = c.args.next in
    let cells = c.args.blocks.now.cells in
    let many = length-map cells (row_of s sizes) in
    let is = c.len.ensures.is in
    let past = c.if-next-len.true in
    gone_seen c.requires.0 p s u sizes cells c.requires.1 c.release.ensures ∙ sym (item_past (with_keywords c.args.modseq (set_of s p.words)) p.at (map (row_of s sizes) cells) (omega arith))

pub release-requires-2 : goal.release-requires-2
release-requires-2 c =
    let s = c.args.sets.now in
    let p = c.args.next in
    let cells = c.args.blocks.now.cells in
    let inside : p.at < length cells = let is = c.len.ensures.is in let less = c.if-next-len.false in omega arith in
    let own : c.entry-entry.result.words ≡ (get_or cells p.at no_cell).words = (c.entry-entry.ensures no_cell).words in
    subst (λ (n : ℕ). (n ≡ 0) ⊎ (0 < uses_of s n)) (sym own) (own_leaves_too (p ∷ c.requires.0) s cells p.at no_cell inside c.requires.1)

pub returns-clause-shared : goal.returns-clause-shared
returns-clause-shared c hs are =
    let s = c.args.sets.now in
    let u = c.release-2.new.sets in
    let p = c.args.next in
    let cells = c.args.blocks.now.cells in
    let inside : p.at < length cells = let is = c.len.ensures.is in let less = c.if-next-len.false in omega arith in
    let own : c.entry-entry.result.words ≡ (get_or cells p.at no_cell).words = (c.entry-entry.ensures no_cell).words in
    let gone : IsReleased s u (get_or cells p.at no_cell).words = subst (λ (n : ℕ). IsReleased s u n) own c.release-2.ensures in
    let made : c.set.new.self.cells ≡ with_item p.at (with_values c.entry-entry.result.flags c.args.modseq p.words) cells = ap (λ (x : Cells). x.cells) c.set.ensures in
    subst (AreShared hs u) (sym made) (put_shared hs p s u c.entry-entry.result.flags c.args.modseq p.at cells no_cell inside are gone)

pub returns-clause-held : goal.returns-clause-held
returns-clause-held c hs are =
    let s = c.args.sets.now in
    let u = c.release-2.new.sets in
    let p = c.args.next in
    let cells = c.args.blocks.now.cells in
    let inside : p.at < length cells = let is = c.len.ensures.is in let less = c.if-next-len.false in omega arith in
    let own : c.entry-entry.result.words ≡ (get_or cells p.at no_cell).words = (c.entry-entry.ensures no_cell).words in
    let gone : IsReleased s u (get_or cells p.at no_cell).words = subst (λ (n : ℕ). IsReleased s u n) own c.release-2.ensures in
    dues_released hs s u (get_or cells p.at no_cell).words (with_item p.at (with_values c.entry-entry.result.flags c.args.modseq p.words) cells)
    (put_shared hs p s u c.entry-entry.result.flags c.args.modseq p.at cells no_cell inside are gone) gone

pub returns-clause-rows : goal.returns-clause-rows
returns-clause-rows c sizes =
    let s = c.args.sets.now in
    let u = c.release-2.new.sets in
    let p = c.args.next in
    let cells = c.args.blocks.now.cells in
    let inside : p.at < length cells = let is = c.len.ensures.is in let less = c.if-next-len.false in omega arith in
    let own : c.entry-entry.result.words ≡ (get_or cells p.at no_cell).words = (c.entry-entry.ensures no_cell).words in
    let gone : IsReleased s u (get_or cells p.at no_cell).words = subst (λ (n : ℕ). IsReleased s u n) own c.release-2.ensures in
    let made : c.set.new.self.cells ≡ with_item p.at (with_values c.entry-entry.result.flags c.args.modseq p.words) cells = ap (λ (x : Cells). x.cells) c.set.ensures in
    ap (map (row_of u sizes)) made
    ∙ put_seen c.requires.0 p s u c.entry-entry.result.flags c.args.modseq p.at sizes cells no_cell inside c.requires.1 gone (c.entry-entry.ensures no_cell).flags
