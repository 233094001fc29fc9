use Rattle.std.proofs.Common.{◌≡◌, ◌∙◌, ◌+◌, ◌-◌, ◌<◌, ◌≤◌, List, ℕ, true, false, leb, ltb, get_or, length, map, take, ap, subst, sym, rules, arith}
use Rattle.std.specs.List.Sorted.{IsNonDecreasingBy, IsPartitionPoint}
use Rattle.std.proofs.lemmas.List.{length-map}
use Rattle.std.proofs.lemmas.List.Sorted.{IsPartitionedBy-leb, IsPartitionedBy-ltb, IsPartitionPoint-from_clause}
use Rattle.dv_blocks.specs.Cells.{Cell}
use Rattle.dv_blocks.specs.Chunks.{IsPlace, cells_of, uids_of}
use Rattle.dv_blocks.specs.declared.chunk.Chunk.{Chunk}
use Rattle.dv_blocks.proofs.Found.{before_all, block_ordered, firsts_ordered, in_block}
use Rattle.dv_blocks.proofs.Starts.{as_many, start_of}
use Rattle.dv_blocks.proofs.finding.place_from.Goals as goal

pub returns-then-behind-eq0 : goal.returns-then-behind-eq0
returns-then-behind-eq0 c =
    let cs = c.args.chunks.now in
    let p = c.partition_point-behind.result in
    let w = c.requires.0 in
    let are = c.requires.1.are in
    let point : IsPartitionPoint (λ (x : Chunk). leb x.first c.args.uid ≡ true) (λ (x : Chunk). leb x.first c.args.uid ≡ false) cs p =
    IsPartitionPoint-from_clause (λ (x : Chunk). leb x.first c.args.uid) cs p c.partition_point-behind.ensures.partitioned
    (IsPartitionedBy-leb (λ (x : Chunk). x.first) cs c.args.uid (firsts_ordered w cs are)) (λ a r f k. search rules) in
    before_all w cs c.args.uid p are point c.if-behind-eq0.true

pub returns : goal.returns
returns c =
    let cs = c.args.chunks.now in
    let p = c.partition_point-behind.result in
    let u = c.args.uid in
    let w = c.requires.0 in
    let are = c.requires.1.are in
    let x = c.index-chunks-behind.result in
    let o = c.partition_point.result in
    let some = c.if-behind-eq0.false in
    let bound = c.partition_point-behind.ensures.bound in
    let point : IsPartitionPoint (λ (x : Chunk). leb x.first u ≡ true) (λ (x : Chunk). leb x.first u ≡ false) cs p =
    IsPartitionPoint-from_clause (λ (x : Chunk). leb x.first u) cs p c.partition_point-behind.ensures.partitioned
    (IsPartitionedBy-leb (λ (x : Chunk). x.first) cs u (firsts_ordered w cs are)) (λ a r f k. search rules) in
    let inside : p - 1 < length cs = omega arith in
    let column : c.uids.result.now ≡ map (λ (y : Cell). y.uid) (get_or cs (p - 1) x).block.cells =
    c.uids.ensures in
    let up : IsNonDecreasingBy (λ (k : ℕ). k) c.uids.result.now = subst (IsNonDecreasingBy (λ (k : ℕ). k)) (sym column) (block_ordered w cs (p - 1) x are inside) in
    let there : IsPlace c.uids.result.now u o =
    IsPartitionPoint-from_clause (λ (k : ℕ). ltb k u) c.uids.result.now o c.partition_point.ensures.partitioned (IsPartitionedBy-ltb (λ (k : ℕ). k) c.uids.result.now u up) (λ a r f k. search rules) in
    let place : IsPlace (map (λ (y : Cell). y.uid) (get_or cs (p - 1) x).block.cells) u o = subst (λ (l : List ℕ). IsPlace l u o) column there in
    let room : o ≤ length (get_or cs (p - 1) x).block.cells =
    let many = ap length column ∙ length-map (get_or cs (p - 1) x).block.cells (λ (y : Cell). y.uid) in let most = c.partition_point.ensures.bound in omega arith in
    let ns = c.args.starts.now in
    let start : length (cells_of (take (p - 1) cs)) ≡ get_or ns (p - 1) 0 = sym (start_of ns cs (p - 1) c.requires.1.counted inside) in
    let all : IsPlace (uids_of cs) u (length (cells_of (take (p - 1) cs)) + o) = in_block w cs x u (p - 1) p o are (omega arith) bound point place room in
    subst (λ (n : ℕ). IsPlace (uids_of cs) u (n + o)) start all

pub bounds-starts-behind : goal.bounds-starts-behind
bounds-starts-behind c =
    let long = as_many c.args.starts.now c.args.chunks.now c.requires.1.counted in
    let bound = c.partition_point-behind.ensures.bound in
    let some = c.if-behind-eq0.false in
    omega arith
