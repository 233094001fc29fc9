use Rattle.std.proofs.Common.{◌≡◌, ◌∙◌, ◌<◌, ◌≤◌, ℕ, ap, arith, length, map, subst, sym}
use Rattle.std.specs.Prelude.{All}
use Rattle.std.proofs.lemmas.Bool.{eq-eqb, eqb-true}
use Rattle.std.proofs.lemmas.List.{length-map}
use Rattle.std.proofs.lemmas.List.Elements.{All-map}
use Rattle.dv_model.specs.declared.types.Row.{Row}
use Rattle.dv_blocks.specs.Cells.{Cell}
use Rattle.dv_blocks.specs.Shared.{Rows}
use Rattle.dv_blocks.proofs.Found.{all_above, end_above}
use Rattle.dv_blocks.proofs.Seen.{from_map, uids_seen}
use Rattle.dv_blocks.proofs.rows.BlockRows.is_above.Goals as goal

pub returns-clause-above : goal.returns-clause-above
returns-clause-above c e =
    let cells = c.self.inside.blocks.cells in
    let uids = map (λ (x : Cell). x.uid) cells in
    let same = sym (uids_seen c.self.inside.sets.items c.self.inside.sizes.items cells) ∙ ap (λ (r : Rows). map (λ (x : Row). x.uid) r.rows) c.self.view_is in
    let end : c.place_from.result ≡ c.len.result = eqb-true c.place_from.result c.len.result e in
    let many = length-map cells (λ (x : Cell). x.uid) in
    let rows = c.len.ensures.is in
    let past : length uids ≤ c.place_from.result = omega arith in
    from_map (λ (u : ℕ). u < c.args.uid) (λ (x : Row). x.uid) c.args.self.now.rows 0
    (subst (All (λ (u : ℕ). u < c.args.uid)) same (all_above uids c.args.uid c.place_from.result c.place_from.ensures.is past))

pub returns-clause-only : goal.returns-clause-only
returns-clause-only c all =
    let cells = c.self.inside.blocks.cells in
    let uids = map (λ (x : Cell). x.uid) cells in
    let same = sym (uids_seen c.self.inside.sets.items c.self.inside.sizes.items cells) ∙ ap (λ (r : Rows). map (λ (x : Row). x.uid) r.rows) c.self.view_is in
    let many = length-map cells (λ (x : Cell). x.uid) in
    let rows = c.len.ensures.is in
    let inside = c.place_from.ensures.inside in
    let past : length uids ≤ c.place_from.result =
    end_above uids c.args.uid c.place_from.result c.place_from.ensures.is
    (subst (All (λ (u : ℕ). u < c.args.uid)) (sym same) (All-map (λ (u : ℕ). u < c.args.uid) (λ (x : Row). x.uid) c.args.self.now.rows all)) in
    let end : c.place_from.result ≡ c.len.result = omega arith in
    eq-eqb c.place_from.result c.len.result end
