use Rattle.std.proofs.Common.{◌+◌, ◌∙◌, ap, length}
use Rattle.dv_front.specs.Ends.{PassView, PenView, second_of}
use Rattle.dv_generations.specs.declared.ends.Ends.{Ends}
use Rattle.dv_generations.specs.Feeds.{Feed, journal, origin_of}
use Rattle.dv_generations.proofs.Turning.{newest_knows, next_is_new, next_number}
use Rattle.dv_generations.proofs.generations.Generations.table_behind.Goals as goal

pub invariant_of-result : goal.invariant_of-result
invariant_of-result g c =
    let e : Ends = record { pen = c.in_ok-pen.pen; pass = c.split.new.p } in (
      next_is_new (origin_of g.K.Keeping.start) g.K.Keeping.count c.self.inside.older.items c.self.inside.newest c.self.inside.roll.items c.self.invariant.0 e c.args.words c.in_ok-pen.ensures.pen
          (c.split.ensures.pass ∙ c.in_ok-pen.ensures.pass),
      ap (λ (p : PassView). p.table) (c.in_ok-spare.ensures.second ∙ ap second_of c.in_ok-pen.ensures.pass),
    )

pub returns : goal.returns
returns g c =
    let base = newest_knows (origin_of g.K.Keeping.start) g.K.Keeping.count c.self.inside.older.items c.self.inside.newest c.self.inside.roll.items c.self.invariant.0 in
    let number = next_number (origin_of g.K.Keeping.start) g.K.Keeping.count c.self.inside.older.items c.self.inside.newest c.self.inside.roll.items c.self.invariant.0 in (
      (
        ap (λ (p : PenView). p.generation.base) c.in_ok-pen.ensures.pen ∙ base ∙ ap journal c.self.view_is,
        ap (λ (p : PenView). p.generation.number) c.in_ok-pen.ensures.pen ∙ number ∙ ap (λ (f : Feed). length f.parts + 1) c.self.view_is,
      ),
      ap (λ (p : PenView). p.generation.room) c.in_ok-pen.ensures.pen,
    )
