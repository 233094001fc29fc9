use Rattle.std.proofs.Common.{◌≡◌, ◌-◌, ◌*◌, ◌≤◌, ◌∙◌, List, ℕ, length, ap, sym, subst, arith}
use Rattle.std.specs.List.{remove_range}
use Rattle.dv_blocks.specs.Cells.{Strings, pieces}
use Rattle.dv_blocks.proofs.Pieces.{left, many, removed, strings, within}
use Rattle.dv_blocks.proofs.parts.Parts.remove.Goals as goal

pub remove_pieces-requires-clause-inside : goal.remove_pieces-requires-clause-inside
remove_pieces-requires-clause-inside c =
    let items = ap (λ (s : Strings). length s.items) c.self.view_is in
    let is = many c.self.inside.count c.self.inside.width c.self.inside.bytes.items in
    subst (λ m. c.args.to * c.self.inside.width ≤ m) (sym c.self.invariant) (within c.args.to c.self.inside.count c.self.inside.width (omega (arith, items, is, c.requires.inside)))

pub overflow_sub-self-2 : goal.overflow_sub-self-2
overflow_sub-self-2 c =
    let items = ap (λ (s : Strings). length s.items) c.self.view_is in
    let is = many c.self.inside.count c.self.inside.width c.self.inside.bytes.items in
    omega (arith, items, is, c.requires.inside, c.requires.order)

pub invariant_of-self : goal.invariant_of-self
invariant_of-self c =
    let items = ap (λ (s : Strings). length s.items) c.self.view_is in
    let is = many c.self.inside.count c.self.inside.width c.self.inside.bytes.items in
    ap length c.remove_pieces.ensures ∙ left c.self.inside.count c.args.from c.args.to c.self.inside.width c.self.inside.bytes.items c.requires.order (omega (arith, items, is, c.requires.inside)) c.self.invariant

pub returns : goal.returns
returns c =
    let n = c.self.inside.count in
    let w = c.self.inside.width in
    let items = ap (λ (s : Strings). length s.items) c.self.view_is in
    let is = many n w c.self.inside.bytes.items in
    let gone : pieces (n - (c.args.to - c.args.from)) w c.remove_pieces.new.bytes.items ≡ remove_range (pieces n w c.self.inside.bytes.items) c.args.from c.args.to =
    ap (pieces (n - (c.args.to - c.args.from)) w) c.remove_pieces.ensures ∙ removed n c.args.from c.args.to w c.self.inside.bytes.items c.requires.order (omega (arith, items, is, c.requires.inside)) c.self.invariant in
    ap (λ (l : List (List ℕ)). strings w l) gone ∙ ap (λ (s : Strings). strings s.width (remove_range s.items c.args.from c.args.to)) c.self.view_is
