use Rattle.std.proofs.Common.{◌≡◌, ◌+◌, ◌≤◌, ◌∙◌, sym, ap, length, Some, arith}
use Rattle.std.proofs.lemmas.Result.{IfOk-weaker}
use Rattle.atomic_table.specs.Seated.{TableId}
use Rattle.dv_front.specs.Ends.{PassView}
use Rattle.dv_front.specs.Rolls.{ListingView, table_at}
use Rattle.dv_generations.specs.Feeds.{Feed, IsShown, origin_of}
use Rattle.dv_generations.proofs.Showing.{IsPassOf, count_is, newest_named, newest_shown, older_named, older_pass, older_place, older_shown, pass_fresh, pass_shows, pass_table}
use Rattle.dv_generations.proofs.Turning.{newest_link}
use Rattle.dv_generations.proofs.generations.Generations.pass_of.Goals as goal

pub pass_at-requires : goal.pass_at-requires
pass_at-requires g c =
    let le : c.args.number ≤ length c.self.inside.older.items = omega (arith, c.if-number-len.true, c.len.ensures) in
    let at = older_place g.K.Keeping.start g.K.Keeping.count c.self.inside.older.items c.self.inside.newest c.self.inside.roll.items c.self.invariant.0 c.args.number c.index_mut.result.now c.requires.number.0 le c.index_mut.ensures.value in
    let new = older_pass g.K.Keeping.start g.K.Keeping.count c.self.inside.older.items c.self.inside.newest c.self.inside.roll.items c.self.invariant.0 c.args.number c.index_mut.result.now at in
    new

pub pass_at-requires-else-number-len : goal.pass_at-requires-else-number-len
pass_at-requires-else-number-len g c =
    (newest_link (origin_of g.K.Keeping.start) g.K.Keeping.count c.self.inside.older.items c.self.inside.newest c.self.inside.roll.items c.self.invariant.0).1.pass

pub returns-then-number-len-clause-shown : goal.returns-then-number-len-clause-shown
returns-then-number-len-clause-shown g c =
    let le : c.args.number ≤ length c.self.inside.older.items = omega (arith, c.if-number-len.true, c.len.ensures) in
    let at = older_place g.K.Keeping.start g.K.Keeping.count c.self.inside.older.items c.self.inside.newest c.self.inside.roll.items c.self.invariant.0 c.args.number c.index_mut.result.now c.requires.number.0 le c.index_mut.ensures.value in
    let new = older_pass g.K.Keeping.start g.K.Keeping.count c.self.inside.older.items c.self.inside.newest c.self.inside.roll.items c.self.invariant.0 c.args.number c.index_mut.result.now at in
    IfOk-weaker c.pass_at.result (IsPassOf c.index_mut.result.now) (λ (p : PassView). IsShown g.K.Keeping.start g.K.Keeping.count c.args.self.now c.args.number p)
    (λ p is. older_shown g.K.Keeping.start g.K.Keeping.count c.self.inside.older.items c.self.inside.newest c.self.inside.roll.items c.self.invariant.0 c.args.self.now c.args.number c.index_mut.result.now p (ap (λ (f : Feed). f.parts) (sym c.self.view_is)) c.requires.number.0 at (pass_shows c.index_mut.result.now p new is))
    c.pass_at.ensures.pass

pub returns-then-number-len-clause-fresh : goal.returns-then-number-len-clause-fresh
returns-then-number-len-clause-fresh g c =
    let le : c.args.number ≤ length c.self.inside.older.items = omega (arith, c.if-number-len.true, c.len.ensures) in
    let at = older_place g.K.Keeping.start g.K.Keeping.count c.self.inside.older.items c.self.inside.newest c.self.inside.roll.items c.self.invariant.0 c.args.number c.index_mut.result.now c.requires.number.0 le c.index_mut.ensures.value in
    let new = older_pass g.K.Keeping.start g.K.Keeping.count c.self.inside.older.items c.self.inside.newest c.self.inside.roll.items c.self.invariant.0 c.args.number c.index_mut.result.now at in
    IfOk-weaker c.pass_at.result (IsPassOf c.index_mut.result.now) (λ (p : PassView). (p.taken ≡ 0) × (p.loads ≡ 0)) (λ p is. pass_fresh c.index_mut.result.now p new is) c.pass_at.ensures.pass

pub returns-then-number-len-clause-table : goal.returns-then-number-len-clause-table
returns-then-number-len-clause-table g c =
    let le : c.args.number ≤ length c.self.inside.older.items = omega (arith, c.if-number-len.true, c.len.ensures) in
    let at = older_place g.K.Keeping.start g.K.Keeping.count c.self.inside.older.items c.self.inside.newest c.self.inside.roll.items c.self.invariant.0 c.args.number c.index_mut.result.now c.requires.number.0 le c.index_mut.ensures.value in
    let new = older_pass g.K.Keeping.start g.K.Keeping.count c.self.inside.older.items c.self.inside.newest c.self.inside.roll.items c.self.invariant.0 c.args.number c.index_mut.result.now at in
    let named = older_named g.K.Keeping.start g.K.Keeping.count c.self.inside.older.items c.self.inside.newest c.self.inside.roll.items c.self.invariant.0 c.args.number c.index_mut.result.now c.requires.number.0 at in
    let here : table_at c.extend.new.l.items c.args.number ≡ Some c.index_mut.result.now.pen.table = ap (λ (l : ListingView). table_at l.items c.args.number) c.extend.ensures.leaf ∙ named in
    IfOk-weaker c.pass_at.result (IsPassOf c.index_mut.result.now) (λ (p : PassView). table_at c.extend.new.l.items c.args.number ≡ Some p.table) (λ p is. here ∙ ap (λ (t : TableId). Some t) (pass_table c.index_mut.result.now p new is)) c.pass_at.ensures.pass

pub returns-else-number-len-clause-shown : goal.returns-else-number-len-clause-shown
returns-else-number-len-clause-shown g c =
    let parts = ap (λ (f : Feed). f.parts) (sym c.self.view_is) in
    let long = count_is g.K.Keeping.start g.K.Keeping.count c.self.inside.older.items c.self.inside.newest c.self.inside.roll.items c.self.invariant.0 c.args.self.now parts in
    let last : c.args.number ≡ length c.self.inside.older.items + 1 = omega (arith, c.if-number-len.false, c.len.ensures, long, c.requires.number) in
    let new = (newest_link (origin_of g.K.Keeping.start) g.K.Keeping.count c.self.inside.older.items c.self.inside.newest c.self.inside.roll.items c.self.invariant.0).1.pass in
    IfOk-weaker c.pass_at-else-number-len.result (IsPassOf c.self.inside.newest) (λ (p : PassView). IsShown g.K.Keeping.start g.K.Keeping.count c.args.self.now c.args.number p)
    (λ p is. newest_shown g.K.Keeping.start g.K.Keeping.count c.self.inside.older.items c.self.inside.newest c.self.inside.roll.items c.self.invariant.0 c.args.self.now c.args.number p parts last (pass_shows c.self.inside.newest p new is))
    c.pass_at-else-number-len.ensures.pass

pub returns-else-number-len-clause-fresh : goal.returns-else-number-len-clause-fresh
returns-else-number-len-clause-fresh g c =
    let parts = ap (λ (f : Feed). f.parts) (sym c.self.view_is) in
    let long = count_is g.K.Keeping.start g.K.Keeping.count c.self.inside.older.items c.self.inside.newest c.self.inside.roll.items c.self.invariant.0 c.args.self.now parts in
    let last : c.args.number ≡ length c.self.inside.older.items + 1 = omega (arith, c.if-number-len.false, c.len.ensures, long, c.requires.number) in
    let new = (newest_link (origin_of g.K.Keeping.start) g.K.Keeping.count c.self.inside.older.items c.self.inside.newest c.self.inside.roll.items c.self.invariant.0).1.pass in
    IfOk-weaker c.pass_at-else-number-len.result (IsPassOf c.self.inside.newest) (λ (p : PassView). (p.taken ≡ 0) × (p.loads ≡ 0)) (λ p is. pass_fresh c.self.inside.newest p new is) c.pass_at-else-number-len.ensures.pass

pub returns-else-number-len-clause-table : goal.returns-else-number-len-clause-table
returns-else-number-len-clause-table g c =
    let parts = ap (λ (f : Feed). f.parts) (sym c.self.view_is) in
    let long = count_is g.K.Keeping.start g.K.Keeping.count c.self.inside.older.items c.self.inside.newest c.self.inside.roll.items c.self.invariant.0 c.args.self.now parts in
    let last : c.args.number ≡ length c.self.inside.older.items + 1 = omega (arith, c.if-number-len.false, c.len.ensures, long, c.requires.number) in
    let new = (newest_link (origin_of g.K.Keeping.start) g.K.Keeping.count c.self.inside.older.items c.self.inside.newest c.self.inside.roll.items c.self.invariant.0).1.pass in
    let named = newest_named g.K.Keeping.start g.K.Keeping.count c.self.inside.older.items c.self.inside.newest c.self.inside.roll.items c.self.invariant.0 c.args.number last in
    let here : table_at c.extend.new.l.items c.args.number ≡ Some c.self.inside.newest.pen.table = ap (λ (l : ListingView). table_at l.items c.args.number) c.extend.ensures.leaf ∙ named in
    IfOk-weaker c.pass_at-else-number-len.result (IsPassOf c.self.inside.newest) (λ (p : PassView). table_at c.extend.new.l.items c.args.number ≡ Some p.table) (λ p is. here ∙ ap (λ (t : TableId). Some t) (pass_table c.self.inside.newest p new is)) c.pass_at-else-number-len.ensures.pass
