use Rattle.std.proofs.Common.{◌≡◌, ◌∙◌, ◌⊎◌, ◌<◌, ℕ, List, ap, get_or, map, subst, sym}
use Rattle.std.proofs.lemmas.List.{with_items_is}
use Rattle.dv_model.specs.Effects.{with_item}
use Rattle.dv_blocks.specs.Cells.{Cells, with_values}
use Rattle.dv_blocks.specs.Shared.{AreShared, IsHeld, IsReleased, due_of, row_of, uses_of}
use Rattle.dv_blocks.specs.declared.sets.Held.{Held}
use Rattle.dv_blocks.proofs.Found.{no_cell}
use Rattle.dv_blocks.proofs.Seen.{dues_held, dues_released, own_leaves, set_rows, set_shared}
use Rattle.dv_blocks.proofs.numbers.set_row.Goals as goal

pub release-requires : goal.release-requires
release-requires c =
    let sets = c.args.sets.now.items in
    let now = c.hold.new.sets.items in
    let cells = c.args.blocks.now.cells in
    let n = c.in_ok-number.number in
    let held : IsHeld sets now n c.args.keywords.now = c.in_ok-number.ensures.ok in
    let own : c.entry-old.result.words ≡ (get_or cells c.args.at no_cell).words = (c.entry-old.ensures no_cell).words in
    subst (λ (m : ℕ). (m ≡ 0) ⊎ (0 < uses_of c.as_mut_slice.result.now m)) (sym own)
    (subst (λ (l : List Held). ((get_or cells c.args.at no_cell).words ≡ 0) ⊎ (0 < uses_of l (get_or cells c.args.at no_cell).words)) (sym c.as_mut_slice.ensures.value)
    (own_leaves sets now n c.args.at c.args.keywords.now cells no_cell c.requires.inside c.requires.shared.1 held))

pub returns-clause-shared : goal.returns-clause-shared
returns-clause-shared c hs are =
    let sets = c.args.sets.now.items in
    let now = c.hold.new.sets.items in
    let cells = c.args.blocks.now.cells in
    let n = c.in_ok-number.number in
    let held : IsHeld sets now n c.args.keywords.now = c.in_ok-number.ensures.ok in
    let own : c.entry-old.result.words ≡ (get_or cells c.args.at no_cell).words = (c.entry-old.ensures no_cell).words in
    let gone : IsReleased now c.release.new.sets (get_or cells c.args.at no_cell).words =
    subst (λ (l : List Held). IsReleased l c.release.new.sets (get_or cells c.args.at no_cell).words) c.as_mut_slice.ensures.value
    (subst (λ (m : ℕ). IsReleased c.as_mut_slice.result.now c.release.new.sets m) own c.release.ensures) in
    let items = with_items_is c.hold.new.sets c.release.new.sets (c.release.auto.sets ∙ c.as_mut_slice.ensures.len) in
    let made : c.set.new.self.cells ≡ with_item c.args.at (with_values c.args.flags c.args.modseq n) cells = ap (λ (s : Cells). s.cells) c.set.ensures in
    subst (λ (l : List Held). AreShared hs l c.set.new.self.cells) (sym items)
    (subst (AreShared hs c.release.new.sets) (sym made)
    (set_shared sets now c.release.new.sets c.args.flags c.args.modseq n c.args.at c.args.keywords.now cells no_cell c.requires.inside are held gone))

pub returns-clause-ok : goal.returns-clause-ok
returns-clause-ok c sizes =
    let sets = c.args.sets.now.items in
    let now = c.hold.new.sets.items in
    let cells = c.args.blocks.now.cells in
    let n = c.in_ok-number.number in
    let held : IsHeld sets now n c.args.keywords.now = c.in_ok-number.ensures.ok in
    let own : c.entry-old.result.words ≡ (get_or cells c.args.at no_cell).words = (c.entry-old.ensures no_cell).words in
    let gone : IsReleased now c.release.new.sets (get_or cells c.args.at no_cell).words =
    subst (λ (l : List Held). IsReleased l c.release.new.sets (get_or cells c.args.at no_cell).words) c.as_mut_slice.ensures.value
    (subst (λ (m : ℕ). IsReleased c.as_mut_slice.result.now c.release.new.sets m) own c.release.ensures) in
    let items = with_items_is c.hold.new.sets c.release.new.sets (c.release.auto.sets ∙ c.as_mut_slice.ensures.len) in
    let made : c.set.new.self.cells ≡ with_item c.args.at (with_values c.args.flags c.args.modseq n) cells = ap (λ (s : Cells). s.cells) c.set.ensures in
    ap (λ (l : List Held). map (row_of l sizes) c.set.new.self.cells) items ∙ ap (map (row_of c.release.new.sets sizes)) made
    ∙ set_rows sets now c.release.new.sets c.args.flags c.args.modseq n c.args.at c.args.keywords.now sizes cells no_cell c.requires.inside c.requires.shared.1 held gone

pub returns-clause-held : goal.returns-clause-held
returns-clause-held c hs are =
    let sets = c.args.sets.now.items in
    let now = c.hold.new.sets.items in
    let cells = c.args.blocks.now.cells in
    let n = c.in_ok-number.number in
    let held : IsHeld sets now n c.args.keywords.now = c.in_ok-number.ensures.ok in
    let own : c.entry-old.result.words ≡ (get_or cells c.args.at no_cell).words = (c.entry-old.ensures no_cell).words in
    let gone : IsReleased now c.release.new.sets (get_or cells c.args.at no_cell).words =
    subst (λ (l : List Held). IsReleased l c.release.new.sets (get_or cells c.args.at no_cell).words) c.as_mut_slice.ensures.value
    (subst (λ (m : ℕ). IsReleased c.as_mut_slice.result.now c.release.new.sets m) own c.release.ensures) in
    let items = with_items_is c.hold.new.sets c.release.new.sets (c.release.auto.sets ∙ c.as_mut_slice.ensures.len) in
    let made = set_shared sets now c.release.new.sets c.args.flags c.args.modseq n c.args.at c.args.keywords.now cells no_cell c.requires.inside are held gone in
    ap (λ (l : List Held). map (due_of l) hs) items
    ∙ dues_released hs now c.release.new.sets (get_or cells c.args.at no_cell).words (with_item c.args.at (with_values c.args.flags c.args.modseq n) cells) made gone
    ∙ dues_held hs sets now n c.args.keywords.now cells are held
