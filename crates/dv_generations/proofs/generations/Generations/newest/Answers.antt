use Rattle.std.proofs.Common.{◌≡◌, ◌∙◌, ◌+◌, rules, sym, ap, length, Some, arith}
use Rattle.atomic_table.specs.Seated.{TableId}
use Rattle.dv_front.specs.Ends.{PassView}
use Rattle.dv_front.specs.Rolls.{ListingView, table_at}
use Rattle.dv_generations.specs.Feeds.{Feed}
use Rattle.dv_generations.proofs.Showing.{count_is, newest_named, newest_shown, shows_of}
use Rattle.dv_generations.proofs.generations.Generations.newest.Goals as goal

pub returns-clause-shown : goal.returns-clause-shown
returns-clause-shown g c =
    let parts = ap (λ (f : Feed). f.parts) (sym c.self.view_is) in
    let last = count_is g.K.Keeping.start g.K.Keeping.count c.self.inside.older.items c.self.inside.newest c.self.inside.roll.items c.self.invariant.0 c.args.self.now parts in
    newest_shown g.K.Keeping.start g.K.Keeping.count c.self.inside.older.items c.self.inside.newest c.self.inside.roll.items c.self.invariant.0 c.args.self.now (length c.args.self.now.parts) c.show.new.p
    parts last (shows_of c.self.inside.newest c.unwrap-pass.result c.show.new.p c.show.ensures.pass c.show.ensures.one c.show.ensures.good)

pub returns-clause-table : goal.returns-clause-table
returns-clause-table g c =
    let parts = ap (λ (f : Feed). f.parts) (sym c.self.view_is) in
    let last = count_is g.K.Keeping.start g.K.Keeping.count c.self.inside.older.items c.self.inside.newest c.self.inside.roll.items c.self.invariant.0 c.args.self.now parts in
    let named = newest_named g.K.Keeping.start g.K.Keeping.count c.self.inside.older.items c.self.inside.newest c.self.inside.roll.items c.self.invariant.0 (length c.args.self.now.parts) last in
    let same : c.unwrap-pass.result.table ≡ c.self.inside.newest.pen.table = search rules in
    ap (λ (l : ListingView). table_at l.items (length c.args.self.now.parts)) c.extend.ensures.leaf ∙ named
    ∙ ap (λ (t : TableId). Some t) (sym (ap (λ (p : PassView). p.table) c.show.ensures.pass ∙ same))
