use Rattle.std.proofs.Common.{arith, ap, ◌∙◌}
use Rattle.std.specs.Prelude.{sum_by}
use Rattle.dv_cache.specs.Caches.{field_size}
use Rattle.dv_cache.proofs.Places.{fits_by}
use Rattle.dv_cache.proofs.writing.fit.Goals as goal

pub returns-in-Some : goal.returns-in-Some
returns-in-Some c = fits_by c.args.at c.in-Some.size c.args.known.now (omega arith) (omega arith) (c.in-Some.ensures.0 ∙ ap (λ t. sum_by field_size t) c.as_slice.ensures) c.in-Some.ensures.1 c.requires.five
