use Rattle.std.proofs.Common.{◌≡◌, ◌+◌, ◌*◌, ◌<◌, ◌≤◌, ◌∙◌, List, ℕ, length, set, ap, sym, subst, arith}
use Rattle.dv_blocks.specs.Cells.{Strings, pieces}
use Rattle.dv_blocks.proofs.Pieces.{many, one_within, put_at, put_long, strings}
use Rattle.dv_blocks.proofs.parts.Parts.put.Goals as goal

pub put_piece_in-requires-clause-inside : goal.put_piece_in-requires-clause-inside
put_piece_in-requires-clause-inside c =
    let n = c.self.inside.count in
    let w = c.self.inside.width in
    let items = ap (λ (s : Strings). length s.items) c.self.view_is in
    let inside : c.args.at < n = let is = many n w c.self.inside.bytes.items in omega (arith, items, is, c.requires.inside) in
    subst (λ m. c.args.at * w + w ≤ m) (sym c.self.invariant) (one_within c.args.at n w inside)

pub invariant_of-self : goal.invariant_of-self
invariant_of-self c =
    let n = c.self.inside.count in
    let w = c.self.inside.width in
    let items = ap (λ (s : Strings). length s.items) c.self.view_is in
    let inside : c.args.at < n = let is = many n w c.self.inside.bytes.items in omega (arith, items, is, c.requires.inside) in
    let width : w ≡ c.args.self.now.width = ap (λ (s : Strings). s.width) c.self.view_is in
    ap length c.put_piece_in.ensures ∙ put_long n c.args.at w c.self.inside.bytes.items c.args.part.now inside c.self.invariant (c.requires.width ∙ sym width)

pub returns : goal.returns
returns c =
    let n = c.self.inside.count in
    let w = c.self.inside.width in
    let bytes = c.self.inside.bytes.items in
    let items = ap (λ (s : Strings). length s.items) c.self.view_is in
    let inside : c.args.at < n = let is = many n w bytes in omega (arith, items, is, c.requires.inside) in
    let width : w ≡ c.args.self.now.width = ap (λ (s : Strings). s.width) c.self.view_is in
    let is : pieces n w c.put_piece_in.new.bytes.items ≡ set (pieces n w bytes) c.args.at c.args.part.now =
    ap (pieces n w) c.put_piece_in.ensures ∙ put_at n c.args.at w bytes c.args.part.now inside c.self.invariant (c.requires.width ∙ sym width) in
    ap (λ (l : List (List ℕ)). strings w l) is ∙ ap (λ (s : Strings). strings s.width (set s.items c.args.at c.args.part.now)) c.self.view_is
