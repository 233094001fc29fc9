use Rattle.std.proofs.Common.{◌∙◌, ap, sym}
use Rattle.std.specs.List.{list_any}
use Rattle.dv_memory_system.specs.Samples.{firms}
use Rattle.dv_memory_system.specs.Systems.{disk_of}
use Rattle.dv_memory_system.proofs.Naming.{image_more, missing_left}
use Rattle.dv_memory_system.proofs.system.MemSystem.add_missing.Goals as goal

pub returns : goal.returns
returns c = λ are.
    image_more (disk_of c.args.self.now) _ _ c.new-image.result c.in_ok-push.ensures.ok (missing_left c.args.self.now.steps c.new-image.result c.new-image.ensures (ap (λ l. list_any (λ s. firms s.deed) l) (sym c.steps.ensures) ∙ sym c.any_firms.ensures ∙ c.if-any_firms.false)) are
