use Rattle.std.proofs.Common.{ℕ, ◌<◌, ◌^◌}
use Rattle.std.proofs.lemmas.List.Elements.{All-from_get_or}
use Rattle.dv_files.proofs.reading.is_guid.Goals as goal

pub returns : goal.returns
returns c = record {
  size = c.told-guid;
  bytes = All-from_get_or (λ (b : ℕ). b < 2 ^ 8) c.args.guid.now 0 (λ i less. c.fits-guid i);
}
