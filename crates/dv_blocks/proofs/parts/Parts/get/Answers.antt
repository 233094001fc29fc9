use Rattle.std.proofs.Common.{◌≡◌, ◌+◌, ◌*◌, ◌<◌, ◌≤◌, ◌∙◌, [], drop, length, take, ap, sym, subst, arith}
use Rattle.std.specs.Prelude.{slice_get, Some}
use Rattle.std.proofs.lemmas.List.{length-drop, length-take-le}
use Rattle.std.proofs.lemmas.Option.{slice_get-get_or}
use Rattle.dv_blocks.specs.Cells.{Strings, pieces}
use Rattle.dv_blocks.proofs.Pieces.{at_place, many, one_within}
use Rattle.dv_blocks.proofs.parts.Parts.get.Goals as goal

pub piece-requires : goal.piece-requires
piece-requires c =
    let n = c.self.inside.count in
    let w = c.self.inside.width in
    let long : length c.deref.result.now ≡ n * w = ap length c.deref.ensures.value ∙ c.self.invariant in
    let items = ap (λ (s : Strings). length s.items) c.self.view_is in
    let inside : c.args.at < n = let is = many n w c.self.inside.bytes.items in omega (arith, items, is, c.requires) in
    subst (λ m. c.args.at * w + w ≤ m) (sym long) (one_within c.args.at n w inside)

pub returns-clause-is : goal.returns-clause-is
returns-clause-is c =
    let n = c.self.inside.count in
    let w = c.self.inside.width in
    let bytes = c.self.inside.bytes.items in
    let items = ap (λ (s : Strings). length s.items) c.self.view_is in
    let inside : c.args.at < n = let is = many n w bytes in omega (arith, items, is, c.requires) in
    let is : c.piece.result.now ≡ take w (drop (c.args.at * w) bytes) = c.piece.ensures ∙ ap (λ b. take w (drop (c.args.at * w) b)) c.deref.ensures.value in
    ap (λ (s : Strings). slice_get s.items c.args.at) (sym c.self.view_is)
    ∙ slice_get-get_or (pieces n w bytes) c.args.at [] (let m = many n w bytes in omega arith)
    ∙ ap Some (at_place n c.args.at w bytes [] inside c.self.invariant ∙ sym is)

pub returns-clause-width : goal.returns-clause-width
returns-clause-width c =
    let n = c.self.inside.count in
    let w = c.self.inside.width in
    let bytes = c.self.inside.bytes.items in
    let items = ap (λ (s : Strings). length s.items) c.self.view_is in
    let inside : c.args.at < n = let is = many n w bytes in omega (arith, items, is, c.requires) in
    let is : c.piece.result.now ≡ take w (drop (c.args.at * w) bytes) = c.piece.ensures ∙ ap (λ b. take w (drop (c.args.at * w) b)) c.deref.ensures.value in
    let room : c.args.at * w + w ≤ length bytes = subst (λ m. c.args.at * w + w ≤ m) (sym c.self.invariant) (one_within c.args.at n w inside) in
    let rest = length-drop (c.args.at * w) bytes in
    ap length is ∙ length-take-le w (drop (c.args.at * w) bytes) (omega arith) ∙ ap (λ (s : Strings). s.width) c.self.view_is
