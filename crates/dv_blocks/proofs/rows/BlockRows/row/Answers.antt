use Rattle.std.proofs.Common.{◌≡◌, ◌∙◌, ◌<◌, List, ℕ, ap, get_or, length, map, subst, sym}
use Rattle.std.specs.Prelude.{Some, slice_get}
use Rattle.std.proofs.lemmas.List.{get_or-map, length-map}
use Rattle.std.proofs.lemmas.Option.{slice_get-get_or}
use Rattle.dv_model.specs.declared.types.Row.{Row}
use Rattle.dv_blocks.specs.Cells.{Cell}
use Rattle.dv_blocks.specs.Shared.{Rows, cut, row_of, set_of}
use Rattle.dv_blocks.specs.declared.sets.Held.{Held}
use Rattle.dv_blocks.proofs.Found.{no_cell}
use Rattle.dv_blocks.proofs.Seen.{same_row}
use Rattle.dv_blocks.proofs.rows.BlockRows.row.Goals as goal

pub returns : goal.returns
returns c =
    let sets = c.self.inside.sets.items in
    let sizes = c.self.inside.sizes.items in
    let cells = c.self.inside.blocks.cells in
    let at = c.args.at in
    let cell : Cell = get_or cells at no_cell in
    let e = c.entry-entry.ensures no_cell in
    let shown : map (row_of sets sizes) cells ≡ c.args.self.now.rows = ap (λ (r : Rows). r.rows) c.self.view_is in
    let within : at < length (map (row_of sets sizes) cells) = subst (λ (l : List Row). at < length l) (sym shown) c.requires in
    let inside : at < length cells = subst (λ (n : ℕ). at < n) (length-map cells (row_of sets sizes)) within in
    let words : c.places_of.result.now ≡ set_of sets cell.words = c.places_of.ensures ∙ ap (λ (l : List Held). set_of l c.entry-entry.result.words) c.deref.ensures.value ∙ ap (set_of sets) e.words in
    let parts : cut c.deref-2.result.now c.part.result.now ≡ cut sizes cell.part = ap (λ (l : List ℕ). cut l c.part.result.now) c.deref-2.ensures.value ∙ ap (cut sizes) (c.part.ensures.is no_cell) in
    ap (λ (l : List Row). slice_get l at) (sym shown) ∙ slice_get-get_or (map (row_of sets sizes) cells) at (row_of sets sizes no_cell) within
    ∙ ap Some (get_or-map (row_of sets sizes) cells at no_cell (row_of sets sizes no_cell) inside
    ∙ same_row sets sizes cell c.entry-entry.result.uid c.entry-entry.result.flags c.entry-entry.result.modseq c.places_of.result.now (cut c.deref-2.result.now c.part.result.now) e.uid e.flags e.modseq words parts)
