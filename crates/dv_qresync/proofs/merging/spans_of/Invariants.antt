use Rattle.std.proofs.Common.{◌≡◌, ℕ, take}
use Rattle.dv_model.specs.Effects.{is_in_pairs}
use Rattle.dv_model.specs.Sets.{is_in_set}
use Rattle.dv_qresync.proofs.merging.spans_of.Given as goal

abbrev pub invariant-loop-pair : goal.invariant-loop-pair
invariant-loop-pair l = (star uid : ℕ) → is_in_set star l.spans.items uid ≡ is_in_pairs (take l.pair-index l.pairs) uid
