use Rattle.std.proofs.Common.{◌≡◌, ◌∙◌, ◌++◌, ◌∷◌, [], ℕ, List, ap, map, refl, subst, sym}
use Rattle.std.proofs.lemmas.List.{with_items_is}
use Rattle.dv_blocks.specs.Cells.{Cell, Cells}
use Rattle.dv_blocks.specs.Shared.{AreShared, IsHeld, IsReleased, due_of, row_of}
use Rattle.dv_blocks.specs.declared.chunk.Entry.{Entry}
use Rattle.dv_blocks.specs.declared.sets.Held.{Held}
use Rattle.dv_blocks.proofs.Seen.{after_back, back, dues_held, dues_released, held_shared, pushed_many, pushed_rows, rows_same}
use Rattle.dv_blocks.proofs.numbers.push_row.Goals as goal

abbrev made : Entry → ℕ → List ℕ → Cell
made e n part = record { uid = e.uid; flags = e.flags; modseq = e.modseq; words = n; part = part }

pub returns-in-Ok-clause-shared : goal.returns-in-Ok-clause-shared
returns-in-Ok-clause-shared c hs are =
    let sets = c.args.sets.now.items in
    let now = c.hold.new.sets.items in
    let cells = c.args.blocks.now.cells in
    let n = c.in_ok-number.number in
    let row = made c.args.row n c.args.part.now in
    let held : IsHeld sets now n c.args.keywords.now = c.in_ok-number.ensures.ok in
    let more : c.push.new.self.cells ≡ cells ++ row ∷ [] = ap (λ (s : Cells). s.cells) c.in-Ok.ensures.ok in
    subst (AreShared hs now) (sym more) (held_shared sets now n c.args.keywords.now cells (cells ++ row ∷ []) are held (λ k. pushed_many cells row n k refl))

pub returns-in-Ok-clause-ok : goal.returns-in-Ok-clause-ok
returns-in-Ok-clause-ok c sizes =
    let sets = c.args.sets.now.items in
    let now = c.hold.new.sets.items in
    let cells = c.args.blocks.now.cells in
    let n = c.in_ok-number.number in
    let row = made c.args.row n c.args.part.now in
    let held : IsHeld sets now n c.args.keywords.now = c.in_ok-number.ensures.ok in
    let more : c.push.new.self.cells ≡ cells ++ row ∷ [] = ap (λ (s : Cells). s.cells) c.in-Ok.ensures.ok in
    ap (map (row_of now sizes)) more ∙ pushed_rows sets now n c.args.keywords.now sizes cells row c.requires.shared.1 held refl

pub returns-in-Err-clause-shared : goal.returns-in-Err-clause-shared
returns-in-Err-clause-shared c hs are =
    let sets = c.args.sets.now.items in
    let now = c.hold.new.sets.items in
    let cells = c.args.blocks.now.cells in
    let n = c.in_ok-number.number in
    let held : IsHeld sets now n c.args.keywords.now = c.in_ok-number.ensures.ok in
    let same : c.push.new.self.cells ≡ cells = ap (λ (s : Cells). s.cells) c.in-Err.ensures.err in
    let gone : IsReleased now c.release.new.sets n = subst (λ (l : List Held). IsReleased l c.release.new.sets n) c.as_mut_slice.ensures.value c.release.ensures in
    let items = with_items_is c.hold.new.sets c.release.new.sets (c.release.auto.sets ∙ c.as_mut_slice.ensures.len) in
    subst (λ (l : List Held). AreShared hs l c.push.new.self.cells) (sym items)
    (subst (AreShared hs c.release.new.sets) (sym same) (back sets now c.release.new.sets n c.args.keywords.now cells are held gone))

pub returns-in-Err-clause-err : goal.returns-in-Err-clause-err
returns-in-Err-clause-err c sizes =
    let sets = c.args.sets.now.items in
    let now = c.hold.new.sets.items in
    let cells = c.args.blocks.now.cells in
    let n = c.in_ok-number.number in
    let held : IsHeld sets now n c.args.keywords.now = c.in_ok-number.ensures.ok in
    let same : c.push.new.self.cells ≡ cells = ap (λ (s : Cells). s.cells) c.in-Err.ensures.err in
    let gone : IsReleased now c.release.new.sets n = subst (λ (l : List Held). IsReleased l c.release.new.sets n) c.as_mut_slice.ensures.value c.release.ensures in
    let items = with_items_is c.hold.new.sets c.release.new.sets (c.release.auto.sets ∙ c.as_mut_slice.ensures.len) in
    ap (λ (l : List Held). map (row_of l sizes) c.push.new.self.cells) items ∙ ap (map (row_of c.release.new.sets sizes)) same
    ∙ rows_same sets c.release.new.sets sizes cells (after_back sets now c.release.new.sets n c.args.keywords.now cells c.requires.shared.1 held gone)

pub returns-in-Ok-clause-held : goal.returns-in-Ok-clause-held
returns-in-Ok-clause-held c hs are = dues_held hs c.args.sets.now.items c.hold.new.sets.items c.in_ok-number.number c.args.keywords.now c.args.blocks.now.cells are c.in_ok-number.ensures.ok

pub returns-in-Err-clause-held : goal.returns-in-Err-clause-held
returns-in-Err-clause-held c hs are =
    let sets = c.args.sets.now.items in
    let now = c.hold.new.sets.items in
    let cells = c.args.blocks.now.cells in
    let n = c.in_ok-number.number in
    let held : IsHeld sets now n c.args.keywords.now = c.in_ok-number.ensures.ok in
    let gone : IsReleased now c.release.new.sets n = subst (λ (l : List Held). IsReleased l c.release.new.sets n) c.as_mut_slice.ensures.value c.release.ensures in
    let items = with_items_is c.hold.new.sets c.release.new.sets (c.release.auto.sets ∙ c.as_mut_slice.ensures.len) in
    ap (λ (l : List Held). map (due_of l) hs) items ∙ dues_released hs now c.release.new.sets n cells (back sets now c.release.new.sets n c.args.keywords.now cells are held gone) gone
    ∙ dues_held hs sets now n c.args.keywords.now cells are held
