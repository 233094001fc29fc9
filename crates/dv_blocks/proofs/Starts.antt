-- The number of rows before each block.
use Rattle.std.proofs.Common.{◌≡◌, ◌∙◌, inl, inr, ℕ, zero, suc, ◌+◌, ◌-◌, ◌<◌, ◌≤◌, true, false, leb, List, [], ◌∷◌, ◌++◌, length, get_or, map, take, drop, ap, sym, refl, subst, arith}
use Rattle.std.specs.List.Sorted.{IsNonDecreasingBy, IsPartitionPoint}
use Rattle.std.proofs.lemmas.Bool.{cases_lt, leb-false, leb-true}
use Rattle.std.proofs.lemmas.List.{append-nil, get_or_default, get_or-map, length-append, take_all, take-append-drop, take_more, take-take}
use Rattle.std.proofs.lemmas.List.Concat.{flat_map-append, get_or-flat_map}
use Rattle.dv_blocks.specs.Cells.{Cell}
use Rattle.dv_blocks.specs.Chunks.{AreCounted, IsIn, cells_of, starts_from}
use Rattle.dv_blocks.specs.declared.chunk.Chunk.{Chunk}

start_at : (n : ℕ) (cs : List Chunk) (i : ℕ) → i < length cs → get_or (starts_from n cs) i 0 ≡ n + length (cells_of (take i cs))
start_at n [] i h = absurd (omega arith)
start_at n (c ∷ cs) zero h = omega arith
start_at n (c ∷ cs) (suc i) h =
    let sum = length-append c.block.cells (cells_of (take i cs)) in
    start_at (n + length c.block.cells) cs i (omega arith) ∙ omega (arith, sum)

pub starts_long : (n : ℕ) (cs : List Chunk) → length (starts_from n cs) ≡ length cs
starts_long n [] = refl
starts_long n (c ∷ cs) = ap suc (starts_long (n + length c.block.cells) cs)

pub as_many : (ns : List ℕ) (cs : List Chunk) → AreCounted ns cs → length ns ≡ length cs
as_many ns cs e = ap length e ∙ starts_long 0 cs

-- the rows before a block
pub start_of : (ns : List ℕ) (cs : List Chunk) (i : ℕ) → AreCounted ns cs → i < length cs → get_or ns i 0 ≡ length (cells_of (take i cs))
start_of ns cs i e h =
    let is : get_or (starts_from 0 cs) i 0 ≡ 0 + length (cells_of (take i cs)) = start_at 0 cs i h in
    ap (λ l. get_or l i 0) e ∙ is ∙ omega arith

pub cells_append : (cs ds : List Chunk) → cells_of (cs ++ ds) ≡ cells_of cs ++ cells_of ds
cells_append cs ds = flat_map-append (λ (c : Chunk). c.block.cells) cs ds

pub cells_more : (cs : List Chunk) (i : ℕ) (d : Chunk) → i < length cs → cells_of (take (i + 1) cs) ≡ cells_of (take i cs) ++ (get_or cs i d).block.cells
cells_more cs i d h =
    ap cells_of (take_more cs i d h) ∙ cells_append (take i cs) (get_or cs i d ∷ [])
    ∙ ap (λ l. cells_of (take i cs) ++ l) (append-nil (get_or cs i d).block.cells)

pub next_start : (cs : List Chunk) (i : ℕ) (d : Chunk) → i < length cs → length (cells_of (take (i + 1) cs)) ≡ length (cells_of (take i cs)) + length (get_or cs i d).block.cells
next_start cs i d h = ap length (cells_more cs i d h) ∙ length-append (cells_of (take i cs)) (get_or cs i d).block.cells

pub grows : (cs : List Chunk) (i j : ℕ) → i ≤ j → length (cells_of (take i cs)) ≤ length (cells_of (take j cs))
grows cs i j h =
    let split : length (cells_of (take j cs)) ≡ length (cells_of (take i (take j cs))) + length (cells_of (drop i (take j cs))) =
    ap (λ l. length (cells_of l)) (sym (take-append-drop i (take j cs))) ∙ ap length (cells_append (take i (take j cs)) (drop i (take j cs)))
    ∙ length-append (cells_of (take i (take j cs))) (cells_of (drop i (take j cs))) in
    let same : length (cells_of (take i (take j cs))) ≡ length (cells_of (take i cs)) = ap (λ l. length (cells_of l)) (take-take i j cs h) in
    omega arith

pub whole : (cs : List Chunk) (i : ℕ) → length cs ≤ i → length (cells_of (take i cs)) ≡ length (cells_of cs)
whole cs i h = ap (λ l. length (cells_of l)) (take_all i cs h)

pub ordered : (ns : List ℕ) (cs : List Chunk) → AreCounted ns cs → IsNonDecreasingBy (λ (n : ℕ). n) ns
ordered ns cs e i j d h k =
    let long = as_many ns cs e in
    let low : get_or ns i 0 ≡ length (cells_of (take i cs)) = start_of ns cs i e (omega arith) in
    let high : get_or ns j 0 ≡ length (cells_of (take j cs)) = start_of ns cs j e (omega arith) in
    let low_is = get_or_default ns i 0 d (omega arith) in
    let high_is = get_or_default ns j 0 d k in
    let up = grows cs i j h in
    omega arith

-- the starts up to a place are partitioned from those above it
abbrev pub IsSplit : List ℕ → ℕ → ℕ → Type 0
IsSplit ns at p = IsPartitionPoint (λ (n : ℕ). leb n at ≡ true) (λ (n : ℕ). leb n at ≡ false) ns p

-- no row is before the first block
positive : (ns : List ℕ) (cs : List Chunk) (at p : ℕ) → AreCounted ns cs → 0 < length cs → IsSplit ns at p → p ≡ 0 → ⊥
positive ns cs at p e h is z =
    let long = as_many ns cs e in
    let zero_start : get_or ns 0 0 ≡ 0 = start_of ns cs 0 e h in
    let above : at < get_or ns 0 0 = leb-false (get_or ns 0 0) at (is.1 0 0 (omega arith) (omega arith)) in
    omega arith

pub not_first : (ns : List ℕ) (cs : List Chunk) (at p : ℕ) → AreCounted ns cs → at < length (cells_of cs) → IsSplit ns at p → 1 ≤ p
not_first ns [] at p e h is = absurd (omega arith)
not_first ns (c ∷ cs) at zero e h is = absurd (positive ns (c ∷ cs) at 0 e (omega arith) is refl)
not_first ns (c ∷ cs) at (suc p) e h is = omega arith

before_next : (ns : List ℕ) (cs : List Chunk) (at i p : ℕ) → AreCounted ns cs → at < length (cells_of cs) → i + 1 ≡ p → p ≤ length cs → IsSplit ns at p → at < length (cells_of (take (i + 1) cs))
before_next ns cs at i p e h n inside is = elim (cases_lt (i + 1) (length cs)) [
  | inl lt ↦
      let long = as_many ns cs e in
      let above : at < get_or ns (i + 1) 0 = leb-false (get_or ns (i + 1) 0) at (is.1 (i + 1) 0 (omega arith) (omega arith)) in
      let start : get_or ns (i + 1) 0 ≡ length (cells_of (take (i + 1) cs)) = start_of ns cs (i + 1) e lt in
      omega arith
  | inr ge ↦ let all = whole cs (i + 1) ge in omega arith
]

-- the block whose start is the last one up to the place has the row
pub found : (ns : List ℕ) (cs : List Chunk) (at i p : ℕ) → AreCounted ns cs → at < length (cells_of cs) → i + 1 ≡ p → p ≤ length cs → IsSplit ns at p → (get_or ns i 0 ≤ at) × IsIn cs at i (at - get_or ns i 0)
found ns cs at i p e h n inside is =
    let long = as_many ns cs e in
    let block : i < length cs = omega arith in
    let start : get_or ns i 0 ≡ length (cells_of (take i cs)) = start_of ns cs i e block in
    let low : get_or ns i 0 ≤ at = leb-true (get_or ns i 0) at (is.0 i 0 (omega arith) (omega arith)) in
    let high : at < length (cells_of (take (i + 1) cs)) = before_next ns cs at i p e h n inside is in (
      low,
      record {
        inside = block;
        sum = omega arith;
        within = λ f. let next = next_start cs i f block in omega arith;
      },
    )

-- the row there
pub row_in : (cs : List Chunk) (at i o : ℕ) → IsIn cs at i o → (d : Cell) (e : Chunk) → get_or (cells_of cs) at d ≡ get_or (get_or cs i e).block.cells o d
row_in cs at i o is d e =
    ap (λ k. get_or (cells_of cs) k d) (sym is.sum) ∙ get_or-flat_map (λ (c : Chunk). c.block.cells) cs i o e d is.inside (is.within e)

-- an item of a column there
pub value_in : {Y : Type 0} (f : Cell → Y) (cs : List Chunk) (at i o : ℕ) (x : Chunk) (column : List Y) (e : Y) (d : Cell) → IsIn cs at i o → x ≡ get_or cs i x → column ≡ map f x.block.cells → get_or column o e ≡ f (get_or (cells_of cs) at d)
value_in f cs at i o x column e d is same h =
    let inside : o < length x.block.cells = subst (λ (c : Chunk). o < length c.block.cells) (sym same) (is.within x) in
    ap (λ l. get_or l o e) h ∙ get_or-map f x.block.cells o d e inside
    ∙ ap f (ap (λ (c : Chunk). get_or c.block.cells o d) same ∙ sym (row_in cs at i o is d x))

-- how many rows there are
pub total : (ns : List ℕ) (cs : List Chunk) (i : ℕ) (d : Chunk) → AreCounted ns cs → i + 1 ≡ length cs → get_or ns i 0 + length (get_or cs i d).block.cells ≡ length (cells_of cs)
total ns cs i d e h =
    let start = start_of ns cs i e (omega arith) in
    let next = next_start cs i d (omega arith) in
    let all = whole cs (i + 1) (omega arith) in
    omega arith
