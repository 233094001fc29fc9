use Rattle.std.proofs.Common.{◌-◌, ◌≤◌, ℕ, leb, rules, arith}
use Rattle.std.proofs.lemmas.List.Sorted.{IsPartitionedBy-leb, IsPartitionPoint-from_clause}
use Rattle.dv_blocks.proofs.Starts.{IsSplit, as_many, found, not_first, ordered}
use Rattle.dv_blocks.proofs.finding.place_in.Goals as goal

pub overflow_sub-block : goal.overflow_sub-block
overflow_sub-block c =
    let ns = c.args.starts.now in
    let p = c.partition_point-behind.result in
    let point : IsSplit ns c.args.at p =
    IsPartitionPoint-from_clause (λ (x : ℕ). leb x c.args.at) ns p c.partition_point-behind.ensures.partitioned
    (IsPartitionedBy-leb (λ (x : ℕ). x) ns c.args.at (ordered ns c.requires.0 c.requires.1)) (λ a r f k. search rules) in
    not_first ns c.requires.0 c.args.at p c.requires.1 c.requires.2 point

pub bounds-starts-block : goal.bounds-starts-block
bounds-starts-block c =
    let ns = c.args.starts.now in
    let p = c.partition_point-behind.result in
    let bound = c.partition_point-behind.ensures.bound in
    let point : IsSplit ns c.args.at p =
    IsPartitionPoint-from_clause (λ (x : ℕ). leb x c.args.at) ns p c.partition_point-behind.ensures.partitioned
    (IsPartitionedBy-leb (λ (x : ℕ). x) ns c.args.at (ordered ns c.requires.0 c.requires.1)) (λ a r f k. search rules) in
    let some : 1 ≤ p = not_first ns c.requires.0 c.args.at p c.requires.1 c.requires.2 point in
    omega arith

pub overflow_sub-result : goal.overflow_sub-result
overflow_sub-result c =
    let ns = c.args.starts.now in
    let p = c.partition_point-behind.result in
    let bound = c.partition_point-behind.ensures.bound in
    let long = as_many ns c.requires.0 c.requires.1 in
    let point : IsSplit ns c.args.at p =
    IsPartitionPoint-from_clause (λ (x : ℕ). leb x c.args.at) ns p c.partition_point-behind.ensures.partitioned
    (IsPartitionedBy-leb (λ (x : ℕ). x) ns c.args.at (ordered ns c.requires.0 c.requires.1)) (λ a r f k. search rules) in
    let some : 1 ≤ p = not_first ns c.requires.0 c.args.at p c.requires.1 c.requires.2 point in
    (found ns c.requires.0 c.args.at (p - 1) p c.requires.1 c.requires.2 (omega arith) (omega arith) point).0

pub returns : goal.returns
returns c cs counted inside =
    let ns = c.args.starts.now in
    let p = c.partition_point-behind.result in
    let bound = c.partition_point-behind.ensures.bound in
    let long = as_many ns cs counted in
    let point : IsSplit ns c.args.at p =
    IsPartitionPoint-from_clause (λ (x : ℕ). leb x c.args.at) ns p c.partition_point-behind.ensures.partitioned
    (IsPartitionedBy-leb (λ (x : ℕ). x) ns c.args.at (ordered ns cs counted)) (λ a r f k. search rules) in
    let some : 1 ≤ p = not_first ns cs c.args.at p counted inside point in
    (found ns cs c.args.at (p - 1) p counted inside (omega arith) (omega arith) point).1
