use Rattle.std.proofs.Common.{◌≡◌, ◌∙◌, ap, subst, sym}
use Rattle.dv_front.specs.Ends.{PassView}
use Rattle.dv_generations.specs.Feeds.{origin_of}
use Rattle.dv_generations.specs.Linked.{AreGenerations}
use Rattle.dv_generations.proofs.Turning.{newest_link}
use Rattle.dv_generations.proofs.generations.Generations.keep_pass.Goals as goal

pub invariant_of-self-in_ok-split-2 : goal.invariant_of-self-in_ok-split-2
invariant_of-self-in_ok-split-2 g c =
    let start = origin_of g.K.Keeping.start in
    let count = g.K.Keeping.count in
    let g_inside = c.self.inside in (
      subst (λ (p : PassView). AreGenerations start count g_inside.older.items (record g_inside.newest { pass = p }) g_inside.roll.items) (sym c.split.ensures.pass) c.self.invariant.0,
      c.self.invariant.1,
      c.self.invariant.2,
      c.self.invariant.3,
      ap (λ (p : PassView). p.table) c.in_ok-split.ensures.second
          ∙ ap (λ (p : PassView). p.table) (newest_link start count g_inside.older.items g_inside.newest g_inside.roll.items c.self.invariant.0).1.pass,
    )
