-- The place of a UID among rising ones.
use Rattle.std.proofs.Common.{◌≡◌, ◌∙◌, ◌⊎◌, inl, inr, ℕ, zero, suc, ◌+◌, ◌-◌, ◌<◌, ◌≤◌, true, false, leb, List, [], ◌∷◌, length, get_or, map, take, ap, sym, refl, subst, arith}
use Rattle.std.specs.Prelude.{All}
use Rattle.std.specs.List.Sorted.{IsNonDecreasingBy, IsPartitionPoint, IsStrictlyIncreasing}
use Rattle.std.proofs.lemmas.Bool.{cases_lt, le-ltb, leb-false, leb-true, lt-ltb, ltb-false, ltb-true}
use Rattle.std.proofs.lemmas.List.{get_or_default, get_or-map, get_or_past, get_or-take, length-map, length-take-le}
use Rattle.std.proofs.lemmas.List.Elements.{All-get_or}
use Rattle.std.proofs.lemmas.List.Kept.{AllPairs-from_increasing}
use Rattle.dv_blocks.specs.Cells.{Cell}
use Rattle.dv_blocks.specs.Chunks.{AreChunks, IsChunk, IsEntry, IsIn, IsPlace, cell_of, cells_of, uids_of}
use Rattle.dv_blocks.specs.declared.chunk.Entry.{Entry}
use Rattle.dv_blocks.specs.declared.chunk.Chunk.{Chunk}
use Rattle.dv_blocks.proofs.Starts.{grows, next_start, row_in, whole}

-- later UIDs are higher
pub far : (us : List ℕ) → IsStrictlyIncreasing us → (i j : ℕ) → i < j → j < length us → get_or us i 0 < get_or us j 0
far us up i j h k = AllPairs-from_increasing us up i j 0 h k

pub far_or_same : (us : List ℕ) → IsStrictlyIncreasing us → (i j : ℕ) → i ≤ j → j < length us → get_or us i 0 ≤ get_or us j 0
far_or_same us up i j h k = elim (cases_lt i j) [
  | inl lt ↦ let less = far us up i j lt k in omega arith
  | inr ge ↦ let same : i ≡ j = omega arith in subst (λ n. get_or us i 0 ≤ get_or us n 0) same (omega arith)
]

-- a place, where the UID before it is lower or that at it isn't higher, and that at it isn't lower
abbrev Low : List ℕ → ℕ → ℕ → Type 0
Low us u p = (p ≡ 0) ⊎ (((1 ≤ p) × (get_or us (p - 1) 0 < u)) ⊎ ((p < length us) × (get_or us p 0 ≤ u)))

low_before : (us : List ℕ) (u p k : ℕ) → IsStrictlyIncreasing us → p ≤ length us → Low us u p → k < p → get_or us k 0 < u
low_before us u p k up inside (inl z) h = absurd (omega arith)
low_before us u p k up inside (inr (inl less)) h = let last = far_or_same us up k (p - 1) (omega arith) (omega arith) in omega (arith, less.1)
low_before us u p k up inside (inr (inr here)) h = let less = far us up k p h here.0 in omega (arith, here.1)

pub is_place : (us : List ℕ) (u p : ℕ) → IsStrictlyIncreasing us → p ≤ length us → Low us u p → (p < length us → u ≤ get_or us p 0) → IsPlace us u p
is_place us u p up inside low high = (
  λ k d _ h. lt-ltb (get_or us k d) u (subst (λ x. x < u) (get_or_default us k 0 d (omega arith)) (low_before us u p k up inside low h)),
  λ k d h g. le-ltb (get_or us k d) u (subst (λ x. u ≤ x) (get_or_default us k 0 d g) (let first = high (omega arith) in let more = far_or_same us up p k h g in omega arith)),
)

-- it lies within
pub place_inside : (us : List ℕ) (u p : ℕ) → IsPlace us u p → p ≤ length us
place_inside us u p is = elim (cases_lt (length us) p) [
  | inl lt ↦
      let less : get_or us (length us) u < u = ltb-true (get_or us (length us) u) u (is.0 (length us) u (omega arith) lt) in
      let same = get_or_past us (length us) u (omega arith) in
      absurd (omega arith)
  | inr ge ↦ ge
]

-- a UID is above all where its place is the end
pub all_above : (us : List ℕ) (u p : ℕ) → IsPlace us u p → length us ≤ p → All (λ (x : ℕ). x < u) us
all_above us u p is end k d h = ltb-true (get_or us k d) u (is.0 k d (omega arith) (omega arith))

pub end_above : (us : List ℕ) (u p : ℕ) → IsPlace us u p → All (λ (x : ℕ). x < u) us → length us ≤ p
end_above us u p is all = elim (cases_lt p (length us)) [
  | inl lt ↦
      let up : u ≤ get_or us p 0 = ltb-false (get_or us p 0) u (is.1 p 0 (omega arith) lt) in
      let less : get_or us p 0 < u = all p 0 lt in
      absurd (omega arith)
  | inr ge ↦ ge
]

-- ---- the UIDs of blocks

abbrev pub no_cell : Cell
no_cell = record { uid = 0; flags = 0; modseq = 0; words = 0; part = [] }

pub uids_long : (cs : List Chunk) → length (uids_of cs) ≡ length (cells_of cs)
uids_long cs = length-map (cells_of cs) (λ (c : Cell). c.uid)

-- a block lies within
pub lies : (cs : List Chunk) (i : ℕ) (d : Chunk) → i < length cs → length (cells_of (take i cs)) + length (get_or cs i d).block.cells ≤ length (cells_of cs)
lies cs i d h =
    let next = next_start cs i d h in
    let more = grows cs (i + 1) (length cs) (omega arith) in
    let all = whole cs (length cs) (omega arith) in
    omega arith

pub uid_in : (cs : List Chunk) (i o : ℕ) (d : Chunk) → i < length cs → o < length (get_or cs i d).block.cells → get_or (uids_of cs) (length (cells_of (take i cs)) + o) 0 ≡ get_or (map (λ (c : Cell). c.uid) (get_or cs i d).block.cells) o 0
uid_in cs i o d h k =
    let at = length (cells_of (take i cs)) + o in
    let inside = lies cs i d h in
    let is : IsIn cs at i o = record { inside = h; sum = refl; within = λ e. subst (λ (c : Chunk). o < length c.block.cells) (get_or_default cs i d e h) k } in
    get_or-map (λ (c : Cell). c.uid) (cells_of cs) at no_cell 0 (omega arith)
    ∙ ap (λ (c : Cell). c.uid) (row_in cs at i o is no_cell d)
    ∙ sym (get_or-map (λ (c : Cell). c.uid) (get_or cs i d).block.cells o no_cell 0 k)

pub first_in : (w : ℕ) (cs : List Chunk) (i : ℕ) (d : Chunk) → AreChunks w cs → i < length cs → (get_or cs i d).first ≡ get_or (uids_of cs) (length (cells_of (take i cs))) 0
first_in w cs i d are h =
    let one : IsChunk w (get_or cs i d) = All-get_or (IsChunk w) cs i d h are.each in
    let none : length (cells_of (take i cs)) + 0 ≡ length (cells_of (take i cs)) = omega arith in
    one.first ∙ sym (uid_in cs i 0 d h one.filled) ∙ ap (λ n. get_or (uids_of cs) n 0) none

pub firsts_ordered : (w : ℕ) (cs : List Chunk) → AreChunks w cs → IsNonDecreasingBy (λ (c : Chunk). c.first) cs
firsts_ordered w cs are i j d h k =
    let low = first_in w cs i d are (omega arith) in
    let high = first_in w cs j d are k in
    let one : IsChunk w (get_or cs j d) = All-get_or (IsChunk w) cs j d k are.each in
    let filled = one.filled in
    let inside = lies cs j d k in
    let long = uids_long cs in
    let up = far_or_same (uids_of cs) are.rising.rising (length (cells_of (take i cs))) (length (cells_of (take j cs))) (grows cs i j h) (omega arith) in
    omega arith

pub block_ordered : (w : ℕ) (cs : List Chunk) (i : ℕ) (d : Chunk) → AreChunks w cs → i < length cs → IsNonDecreasingBy (λ (u : ℕ). u) (map (λ (c : Cell). c.uid) (get_or cs i d).block.cells)
block_ordered w cs i d are h a b e le less =
    let block = map (λ (c : Cell). c.uid) (get_or cs i d).block.cells in
    let many : length block ≡ length (get_or cs i d).block.cells = length-map (get_or cs i d).block.cells (λ (c : Cell). c.uid) in
    let before = length (cells_of (take i cs)) in
    let within = lies cs i d h in
    let long = uids_long cs in
    let low = uid_in cs i a d h (omega arith) in
    let high = uid_in cs i b d h (omega arith) in
    let up = far_or_same (uids_of cs) are.rising.rising (before + a) (before + b) (omega arith) (omega arith) in
    let low_is = get_or_default block a 0 e (omega arith) in
    let high_is = get_or_default block b 0 e less in
    omega arith

-- ---- the place that is found

-- before the first block
pub before_all : (w : ℕ) (cs : List Chunk) (u p : ℕ) → AreChunks w cs → IsPartitionPoint (λ (c : Chunk). leb c.first u ≡ true) (λ (c : Chunk). leb c.first u ≡ false) cs p → p ≡ 0 → IsPlace (uids_of cs) u 0
before_all w [] u p are is z = is_place [] u 0 are.rising.rising (omega arith) (inl refl) (λ h. absurd (omega arith))
before_all w (c ∷ cs) u p are is z =
    let above : u < c.first = leb-false c.first u (is.1 0 c (omega arith) (omega arith)) in
    let same = first_in w (c ∷ cs) 0 c are (omega arith) in
    is_place (uids_of (c ∷ cs)) u 0 are.rising.rising (omega arith) (inl refl) (λ h. omega arith)

-- in a block
low_in : (w : ℕ) (cs : List Chunk) (d : Chunk) (u i p o : ℕ) → AreChunks w cs → i + 1 ≡ p → p ≤ length cs → IsPartitionPoint (λ (c : Chunk). leb c.first u ≡ true) (λ (c : Chunk). leb c.first u ≡ false) cs p → IsPlace (map (λ (c : Cell). c.uid) (get_or cs i d).block.cells) u o → o ≤ length (get_or cs i d).block.cells → Low (uids_of cs) u (length (cells_of (take i cs)) + o)
low_in w cs d u i p zero are n inside is place room =
    let h : i < length cs = omega arith in
    let one : IsChunk w (get_or cs i d) = All-get_or (IsChunk w) cs i d h are.each in
    let filled = one.filled in
    let within = lies cs i d h in
    let long = uids_long cs in
    let first = first_in w cs i d are h in
    let up : (get_or cs i d).first ≤ u = leb-true (get_or cs i d).first u (is.0 i d (omega arith) (omega arith)) in
    let none : length (cells_of (take i cs)) ≡ length (cells_of (take i cs)) + 0 = omega arith in
    let low : get_or (uids_of cs) (length (cells_of (take i cs))) 0 ≤ u = omega arith in
    inr (inr (omega arith, subst (λ k. get_or (uids_of cs) k 0 ≤ u) none low))
low_in w cs d u i p (suc k) are n inside is place room =
    let h : i < length cs = omega arith in
    let block = map (λ (c : Cell). c.uid) (get_or cs i d).block.cells in
    let here = uid_in cs i k d h (omega arith) in
    let less : get_or block k 0 < u = ltb-true (get_or block k 0) u (place.0 k 0 (omega arith) (omega arith)) in
    let same : length (cells_of (take i cs)) + k ≡ length (cells_of (take i cs)) + suc k - 1 = omega arith in
    let low : get_or (uids_of cs) (length (cells_of (take i cs)) + k) 0 < u = omega arith in
    inr (inl (omega arith, subst (λ j. get_or (uids_of cs) j 0 < u) same low))

high_in : (w : ℕ) (cs : List Chunk) (d : Chunk) (u i p o : ℕ) → AreChunks w cs → i + 1 ≡ p → p ≤ length cs → IsPartitionPoint (λ (c : Chunk). leb c.first u ≡ true) (λ (c : Chunk). leb c.first u ≡ false) cs p → IsPlace (map (λ (c : Cell). c.uid) (get_or cs i d).block.cells) u o → o ≤ length (get_or cs i d).block.cells → length (cells_of (take i cs)) + o < length (uids_of cs) → u ≤ get_or (uids_of cs) (length (cells_of (take i cs)) + o) 0
high_in w cs d u i p o are n inside is place room less =
    let h : i < length cs = omega arith in
    let block = map (λ (c : Cell). c.uid) (get_or cs i d).block.cells in
    let many : length block ≡ length (get_or cs i d).block.cells = length-map (get_or cs i d).block.cells (λ (c : Cell). c.uid) in
    let next = next_start cs i d h in
    let long = uids_long cs in
    elim (cases_lt o (length (get_or cs i d).block.cells)) [
      | inl lt ↦
          let here = uid_in cs i o d h lt in
          let up : u ≤ get_or block o 0 = ltb-false (get_or block o 0) u (place.1 o 0 (omega arith) (omega arith)) in
          omega arith
      | inr ge ↦ elim (cases_lt (i + 1) (length cs)) [
        | inl lt ↦
            let first = first_in w cs (i + 1) d are lt in
            let up : u < (get_or cs (i + 1) d).first = leb-false (get_or cs (i + 1) d).first u (is.1 (i + 1) d (omega arith) lt) in
            let same : length (cells_of (take (i + 1) cs)) ≡ length (cells_of (take i cs)) + o = omega arith in
            let high : u ≤ get_or (uids_of cs) (length (cells_of (take (i + 1) cs))) 0 = omega arith in
            subst (λ k. u ≤ get_or (uids_of cs) k 0) same high
        | inr end ↦ let all = whole cs (i + 1) end in absurd (omega arith)
      ]
    ]

pub in_block : (w : ℕ) (cs : List Chunk) (d : Chunk) (u i p o : ℕ) → AreChunks w cs → i + 1 ≡ p → p ≤ length cs → IsPartitionPoint (λ (c : Chunk). leb c.first u ≡ true) (λ (c : Chunk). leb c.first u ≡ false) cs p → IsPlace (map (λ (c : Cell). c.uid) (get_or cs i d).block.cells) u o → o ≤ length (get_or cs i d).block.cells → IsPlace (uids_of cs) u (length (cells_of (take i cs)) + o)
in_block w cs d u i p o are n inside is place room =
    let h : i < length cs = omega arith in
    let within = lies cs i d h in
    let long = uids_long cs in
    is_place (uids_of cs) u (length (cells_of (take i cs)) + o) are.rising.rising (omega arith) (low_in w cs d u i p o are n inside is place room) (high_in w cs d u i p o are n inside is place room)

-- the rows before one have lower UIDs
pub before_lower : (cells : List Cell) (at : ℕ) (d : Cell) (u : ℕ) → IsStrictlyIncreasing (map (λ (c : Cell). c.uid) cells) → at < length cells → u ≡ (get_or cells at d).uid → All (λ (c : Cell). c.uid < u) (take at cells)
before_lower cells at d u up h e k f less =
    let long = length-take-le at cells (omega arith) in
    let many = length-map cells (λ (c : Cell). c.uid) in
    let rise = far (map (λ (c : Cell). c.uid) cells) up k at (omega arith) (omega arith) in
    let low = get_or-map (λ (c : Cell). c.uid) cells k f 0 (omega arith) in
    let high = get_or-map (λ (c : Cell). c.uid) cells at d 0 h in
    let same : (get_or (take at cells) k f).uid ≡ (get_or cells k f).uid = ap (λ (c : Cell). c.uid) (get_or-take at cells k f (omega arith)) in
    omega arith

abbrev cell_with : ℕ → ℕ → ℕ → ℕ → List ℕ → Cell
cell_with uid flags modseq words part = record { uid = uid; flags = flags; modseq = modseq; words = words; part = part }

-- a row that is read value by value
pub same_cell : (e : Entry) (c : Cell) (part : List ℕ) → IsEntry e c → part ≡ c.part → cell_of e part ≡ c
same_cell e c part is h =
    ap (λ n. cell_with n e.flags e.modseq e.words part) is.uid ∙ ap (λ n. cell_with c.uid n e.modseq e.words part) is.flags
    ∙ ap (λ n. cell_with c.uid c.flags n e.words part) is.modseq ∙ ap (λ n. cell_with c.uid c.flags c.modseq n part) is.words
    ∙ ap (λ p. cell_with c.uid c.flags c.modseq c.words p) h
