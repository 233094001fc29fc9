use Rattle.std.proofs.Common.{◌≡◌, ◌+◌, ◌≤◌, ◌∙◌, sym, ap, subst, length, Some, arith}
use mathlib.Core.List.{IsPrefix}
use Rattle.dv_front.specs.Ends.{PassView}
use Rattle.dv_front.specs.Rolls.{ListingView}
use Rattle.dv_front.proofs.Tables.{table_at_prefix}
use Rattle.dv_generations.specs.Feeds.{Feed}
use Rattle.dv_generations.proofs.Showing.{named_at, newest_shown, newest_table, older_place, older_shown, older_table, shows_of}
use Rattle.dv_generations.proofs.generations.Generations.show.Goals as goal

pub show-requires : goal.show-requires
show-requires g c =
    let begins : IsPrefix c.args.leaf.now.items c.self.inside.roll.items = subst (λ (l : ListingView). IsPrefix c.args.leaf.now.items l.items) c.extend.ensures.leaf c.extend.ensures.begins in
    let named = named_at g.K.Keeping.start g.K.Keeping.count c.self.inside.older.items c.self.inside.newest c.self.inside.roll.items c.self.invariant.0 c.args.leaf.now.items c.args.number c.args.pass.now.table begins c.requires.table in
    let le : c.args.number ≤ length c.self.inside.older.items = omega (arith, c.if-number-len.true, c.len.ensures) in
    let at = older_place g.K.Keeping.start g.K.Keeping.count c.self.inside.older.items c.self.inside.newest c.self.inside.roll.items c.self.invariant.0 c.args.number c.index_mut-ends.result.now named.0 le c.index_mut-ends.ensures.value in
    older_table g.K.Keeping.start g.K.Keeping.count c.self.inside.older.items c.self.inside.newest c.self.inside.roll.items c.self.invariant.0 c.args.number c.index_mut-ends.result.now c.args.pass.now.table at named.2

pub show-requires-else-number-len : goal.show-requires-else-number-len
show-requires-else-number-len g c =
    let begins : IsPrefix c.args.leaf.now.items c.self.inside.roll.items = subst (λ (l : ListingView). IsPrefix c.args.leaf.now.items l.items) c.extend.ensures.leaf c.extend.ensures.begins in
    let named = named_at g.K.Keeping.start g.K.Keeping.count c.self.inside.older.items c.self.inside.newest c.self.inside.roll.items c.self.invariant.0 c.args.leaf.now.items c.args.number c.args.pass.now.table begins c.requires.table in
    let last : c.args.number ≡ length c.self.inside.older.items + 1 = omega (arith, c.if-number-len.false, c.len.ensures, named.1) in
    newest_table g.K.Keeping.start g.K.Keeping.count c.self.inside.older.items c.self.inside.newest c.self.inside.roll.items c.self.invariant.0 c.args.number c.args.pass.now.table last named.2

pub returns-then-number-len-clause-shown : goal.returns-then-number-len-clause-shown
returns-then-number-len-clause-shown g c =
    let begins : IsPrefix c.args.leaf.now.items c.self.inside.roll.items = subst (λ (l : ListingView). IsPrefix c.args.leaf.now.items l.items) c.extend.ensures.leaf c.extend.ensures.begins in
    let named = named_at g.K.Keeping.start g.K.Keeping.count c.self.inside.older.items c.self.inside.newest c.self.inside.roll.items c.self.invariant.0 c.args.leaf.now.items c.args.number c.args.pass.now.table begins c.requires.table in
    let le : c.args.number ≤ length c.self.inside.older.items = omega (arith, c.if-number-len.true, c.len.ensures) in
    let at = older_place g.K.Keeping.start g.K.Keeping.count c.self.inside.older.items c.self.inside.newest c.self.inside.roll.items c.self.invariant.0 c.args.number c.index_mut-ends.result.now named.0 le c.index_mut-ends.ensures.value in
    older_shown g.K.Keeping.start g.K.Keeping.count c.self.inside.older.items c.self.inside.newest c.self.inside.roll.items c.self.invariant.0 c.args.self.now c.args.number c.index_mut-ends.result.now c.show.new.p
    (ap (λ (f : Feed). f.parts) (sym c.self.view_is)) named.0 at (shows_of c.index_mut-ends.result.now c.args.pass.now c.show.new.p c.show.ensures.pass c.show.ensures.one c.show.ensures.good)

pub returns-then-number-len-clause-table : goal.returns-then-number-len-clause-table
returns-then-number-len-clause-table g c =
    table_at_prefix c.args.leaf.now.items c.extend.new.l.items c.args.number c.args.pass.now.table c.extend.ensures.begins c.requires.table ∙ ap (λ (p : PassView). Some p.table) (sym c.show.ensures.pass)

pub returns-else-number-len-clause-shown : goal.returns-else-number-len-clause-shown
returns-else-number-len-clause-shown g c =
    let begins : IsPrefix c.args.leaf.now.items c.self.inside.roll.items = subst (λ (l : ListingView). IsPrefix c.args.leaf.now.items l.items) c.extend.ensures.leaf c.extend.ensures.begins in
    let named = named_at g.K.Keeping.start g.K.Keeping.count c.self.inside.older.items c.self.inside.newest c.self.inside.roll.items c.self.invariant.0 c.args.leaf.now.items c.args.number c.args.pass.now.table begins c.requires.table in
    let last : c.args.number ≡ length c.self.inside.older.items + 1 = omega (arith, c.if-number-len.false, c.len.ensures, named.1) in
    newest_shown g.K.Keeping.start g.K.Keeping.count c.self.inside.older.items c.self.inside.newest c.self.inside.roll.items c.self.invariant.0 c.args.self.now c.args.number c.show-else-number-len.new.p
    (ap (λ (f : Feed). f.parts) (sym c.self.view_is)) last (shows_of c.self.inside.newest c.args.pass.now c.show-else-number-len.new.p c.show-else-number-len.ensures.pass c.show-else-number-len.ensures.one c.show-else-number-len.ensures.good)

pub returns-else-number-len-clause-table : goal.returns-else-number-len-clause-table
returns-else-number-len-clause-table g c =
    table_at_prefix c.args.leaf.now.items c.extend.new.l.items c.args.number c.args.pass.now.table c.extend.ensures.begins c.requires.table ∙ ap (λ (p : PassView). Some p.table) (sym c.show-else-number-len.ensures.pass)
