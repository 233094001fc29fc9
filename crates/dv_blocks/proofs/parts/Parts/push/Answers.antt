use Rattle.std.proofs.Common.{◌≡◌, ◌+◌, ◌<◌, ◌^◌, ◌∙◌, ◌++◌, ◌∷◌, [], List, ℕ, length, ap, sym, arith, rules}
use Rattle.dv_blocks.specs.Cells.{Strings, pieces}
use Rattle.dv_blocks.proofs.Pieces.{many, pushed, strings}
use Rattle.dv_blocks.proofs.parts.Parts.push.Goals as goal

pub overflow_add-self : goal.overflow_add-self
overflow_add-self c =
    let items = ap (λ (s : Strings). length s.items) c.self.view_is in
    let is = many c.self.inside.count c.self.inside.width c.self.inside.bytes.items in
    let few : c.self.inside.count + 1 < 2 ^ 64 = omega (arith, items, is, c.requires.few) in
    search rules

pub returns-clause-ok : goal.returns-clause-ok
returns-clause-ok c =
    let n = c.self.inside.count in
    let w = c.self.inside.width in
    let bytes = c.self.inside.bytes.items in
    let width : w ≡ c.args.self.now.width = ap (λ (s : Strings). s.width) c.self.view_is in
    let is : pieces (n + 1) w c.extend_from_slice.new.self.items ≡ pieces n w bytes ++ c.args.part.now ∷ [] =
    ap (pieces (n + 1) w) c.in_ok-extend_from_slice.ensures.items ∙ pushed n w bytes c.args.part.now c.self.invariant (c.requires.width ∙ sym width) in
    ap (λ (l : List (List ℕ)). strings w l) is ∙ ap (λ (s : Strings). strings s.width (s.items ++ c.args.part.now ∷ [])) c.self.view_is
