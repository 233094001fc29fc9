-- One block of two neighbours.
use Rattle.std.proofs.Common.{◌≡◌, ◌∙◌, ℕ, zero, suc, ◌+◌, ◌<◌, List, [], ◌∷◌, ◌++◌, length, get_or, map, set, take, drop, ap, sym, refl, subst, arith}
use Rattle.std.specs.Prelude.{All}
use Rattle.std.specs.List.{remove}
use Rattle.std.proofs.lemmas.List.{append_assoc, length-append}
use Rattle.std.proofs.lemmas.List.Elements.{All-append, All-drop, All-get_or, All-set, All-take}
use Rattle.dv_blocks.specs.Cells.{Cell}
use Rattle.dv_blocks.specs.Chunks.{AreBlocks, AreRising, IsChunk, cells_of, starts_from}
use Rattle.dv_blocks.specs.declared.chunk.Chunk.{Chunk}

-- the second of the two leaves, and the first is this block
abbrev pub joined_at : ℕ → Chunk → List Chunk → List Chunk
joined_at k b cs = remove (set cs k b) (suc k)

pub cells_joined : (cs : List Chunk) (k : ℕ) (b d : Chunk) → suc k < length cs → b.block.cells ≡ (get_or cs k d).block.cells ++ (get_or cs (suc k) d).block.cells → cells_of (joined_at k b cs) ≡ cells_of cs
cells_joined [] k b d h is = absurd (omega arith)
cells_joined (c ∷ []) zero b d h is = absurd (omega arith)
cells_joined (c ∷ (e ∷ cs)) zero b d h is = ap (λ l. l ++ cells_of cs) is ∙ append_assoc c.block.cells e.block.cells (cells_of cs)
cells_joined (c ∷ cs) (suc k) b d h is = ap (λ l. c.block.cells ++ l) (cells_joined cs k b d (omega arith) is)

pub starts_joined : (n : ℕ) (cs : List Chunk) (k : ℕ) (b d : Chunk) → suc k < length cs → length b.block.cells ≡ length (get_or cs k d).block.cells + length (get_or cs (suc k) d).block.cells → remove (starts_from n cs) (suc k) ≡ starts_from n (joined_at k b cs)
starts_joined n [] k b d h is = absurd (omega arith)
starts_joined n (c ∷ []) zero b d h is = absurd (omega arith)
starts_joined n (c ∷ (e ∷ cs)) zero b d h is =
    let sum : n + length c.block.cells + length e.block.cells ≡ n + length b.block.cells = omega arith in
    ap (λ m. n ∷ starts_from m cs) sum
starts_joined n (c ∷ cs) (suc k) b d h is = ap (λ l. n ∷ l) (starts_joined (n + length c.block.cells) cs k b d (omega arith) is)

first_of_both : (xs ys : List Cell) → 0 < length xs → get_or (map (λ (c : Cell). c.uid) xs) 0 0 ≡ get_or (map (λ (c : Cell). c.uid) (xs ++ ys)) 0 0
first_of_both [] ys h = absurd (omega arith)
first_of_both (x ∷ xs) ys h = refl

is_both : (w : ℕ) (cs : List Chunk) (k : ℕ) (b d : Chunk) → suc k < length cs → All (IsChunk w) cs → b.first ≡ (get_or cs k d).first → b.block.width ≡ (get_or cs k d).block.width
    → b.block.cells ≡ (get_or cs k d).block.cells ++ (get_or cs (suc k) d).block.cells → IsChunk w b
is_both w cs k b d h all first wide is =
    let one : IsChunk w (get_or cs k d) = All-get_or (IsChunk w) cs k d (omega arith) all in
    let filled = one.filled in
    record {
      wide = wide ∙ one.wide;
      filled = let sum = ap length is ∙ length-append (get_or cs k d).block.cells (get_or cs (suc k) d).block.cells in omega arith;
      first = first ∙ one.first ∙ first_of_both (get_or cs k d).block.cells (get_or cs (suc k) d).block.cells filled ∙ ap (λ l. get_or (map (λ (c : Cell). c.uid) l) 0 0) (sym is);
    }

pub are_joined : (w : ℕ) (ns : List ℕ) (cs : List Chunk) (k : ℕ) (b d : Chunk) → suc k < length cs → b.first ≡ (get_or cs k d).first → b.block.width ≡ (get_or cs k d).block.width
    → b.block.cells ≡ (get_or cs k d).block.cells ++ (get_or cs (suc k) d).block.cells → AreBlocks w ns cs → AreBlocks w (remove ns (suc k)) (joined_at k b cs)
are_joined w ns cs k b d h first wide is are =
    let all = All-set (IsChunk w) cs k b (is_both w cs k b d h are.are.each first wide is) are.are.each in
    record {
      counted = ap (λ l. remove l (suc k)) are.counted ∙ starts_joined 0 cs k b d h (ap length is ∙ length-append (get_or cs k d).block.cells (get_or cs (suc k) d).block.cells);
      are = record {
        each = All-append (IsChunk w) (take (suc k) (set cs k b)) (drop (suc (suc k)) (set cs k b)) (All-take (IsChunk w) (suc k) (set cs k b) all) (All-drop (IsChunk w) (suc (suc k)) (set cs k b) all);
        rising = subst AreRising (ap (map (λ (c : Cell). c.uid)) (sym (cells_joined cs k b d h is))) are.are.rising;
      };
    }
