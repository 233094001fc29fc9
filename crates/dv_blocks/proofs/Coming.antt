-- Rows that come to blocks.
use Rattle.std.proofs.Common.{◌≡◌, ◌∙◌, ℕ, zero, suc, ◌+◌, ◌-◌, ◌^◌, ◌<◌, ◌≤◌, List, [], ◌∷◌, ◌++◌, length, get_or, map, ap, sym, refl, subst, arith}
use Rattle.std.specs.Prelude.{All}
use Rattle.std.specs.List.Sorted.{IsStrictlyIncreasing}
use Rattle.std.proofs.lemmas.List.{append-nil, append_assoc, length-append, length-map, map_push}
use Rattle.std.proofs.lemmas.List.Elements.{All-map, All-push}
use Rattle.dv_model.specs.Effects.{with_item}
use Rattle.dv_validity.proofs.Rows.{rising_push}
use Rattle.dv_blocks.specs.Cells.{Cell}
use Rattle.dv_blocks.specs.Chunks.{AreChunks, AreCounted, AreRising, IsChunk, cell_of, cells_of, starts_from, uids_of, with_rows}
use Rattle.dv_blocks.specs.declared.chunk.Chunk.{Chunk}
use Rattle.dv_blocks.specs.declared.chunk.Entry.{Entry}
use Rattle.dv_blocks.proofs.Items.{all_item}
use Rattle.dv_blocks.proofs.Starts.{cells_append}

-- ---- how many

reaches : (xs : List ℕ) → IsStrictlyIncreasing xs → (k : ℕ) → k < length xs → k ≤ get_or xs k 0
reaches xs up zero h = omega arith
reaches xs up (suc k) h =
    let low : k ≤ get_or xs k 0 = reaches xs up k (omega arith) in
    let next : get_or xs k 0 < get_or xs (k + 1) 0 = up k (omega arith) in
    let same : k + 1 ≡ suc k = omega arith in
    subst (λ j. j ≤ get_or xs j 0) same (omega arith)

few_by : (b : ℕ) (xs : List ℕ) → IsStrictlyIncreasing xs → All (λ x. x < b) xs → (n : ℕ) → length xs ≡ n → n ≤ b
few_by b xs up below zero e = omega arith
few_by b xs up below (suc k) e =
    let last : k ≤ get_or xs k 0 = reaches xs up k (omega arith) in
    let small : get_or xs k 0 < b = below k 0 (omega arith) in
    omega arith

pub few_uids : (us : List ℕ) → AreRising us → length us < 2 ^ 32
few_uids us are = let few : length us ≤ 2 ^ 32 - 1 = few_by (2 ^ 32 - 1) us are.rising are.below (length us) refl in omega arith

pub few : (cs : List Chunk) → AreRising (uids_of cs) → length (cells_of cs) < 2 ^ 32
few cs are = let same = length-map (cells_of cs) (λ (c : Cell). c.uid) in let less = few_uids (uids_of cs) are in omega arith

-- ---- a row more

pub rising_more : (cells : List Cell) (row : Cell) → All (λ c. c.uid < row.uid) cells → row.uid < 2 ^ 32 - 1 → AreRising (map (λ (c : Cell). c.uid) cells) → AreRising (map (λ (c : Cell). c.uid) (cells ++ row ∷ []))
rising_more cells row above low are =
    let same = map_push (λ (c : Cell). c.uid) cells row in
    subst AreRising (sym same) (record {
      rising = rising_push (map (λ (c : Cell). c.uid) cells) row.uid are.rising (All-map (λ u. u < row.uid) (λ (c : Cell). c.uid) cells above);
      below = All-push (λ u. u < 2 ^ 32 - 1) (map (λ (c : Cell). c.uid) cells) row.uid are.below low;
    })

-- one more can still be counted
pub few_more : (cs : List Chunk) (row : Cell) → All (λ c. c.uid < row.uid) (cells_of cs) → row.uid < 2 ^ 32 - 1 → AreRising (uids_of cs) → length (cells_of cs) + 1 < 2 ^ 32
few_more cs row above low are =
    let less = few_uids (map (λ (c : Cell). c.uid) (cells_of cs ++ row ∷ [])) (rising_more (cells_of cs) row above low are) in
    let same = length-map (cells_of cs ++ row ∷ []) (λ (c : Cell). c.uid) in
    let sum = length-append (cells_of cs) (row ∷ []) in
    omega arith

-- ---- in the last block

pub cells_last : (row : Cell) (cs : List Chunk) (i : ℕ) → i + 1 ≡ length cs → cells_of (with_item i (with_rows (λ cells. cells ++ row ∷ [])) cs) ≡ cells_of cs ++ row ∷ []
cells_last row [] i e = absurd (omega arith)
cells_last row (c ∷ []) zero e = append-nil (c.block.cells ++ row ∷ []) ∙ ap (λ l. l ++ row ∷ []) (sym (append-nil c.block.cells))
cells_last row (c ∷ []) (suc i) e = absurd (omega arith)
cells_last row (c ∷ (d ∷ cs)) zero e = absurd (omega arith)
cells_last row (c ∷ (d ∷ cs)) (suc i) e =
    ap (λ l. c.block.cells ++ l) (cells_last row (d ∷ cs) i (omega arith)) ∙ sym (append_assoc c.block.cells (cells_of (d ∷ cs)) (row ∷ []))

pub starts_last : (f : Chunk → Chunk) (n : ℕ) (cs : List Chunk) (i : ℕ) → i + 1 ≡ length cs → starts_from n (with_item i f cs) ≡ starts_from n cs
starts_last f n [] i e = refl
starts_last f n (c ∷ []) zero e = refl
starts_last f n (c ∷ []) (suc i) e = absurd (omega arith)
starts_last f n (c ∷ (d ∷ cs)) zero e = absurd (omega arith)
starts_last f n (c ∷ (d ∷ cs)) (suc i) e = ap (λ l. n ∷ l) (starts_last f (n + length c.block.cells) (d ∷ cs) i (omega arith))

first_stays : (cells : List Cell) (row : Cell) → 0 < length cells → get_or (map (λ (c : Cell). c.uid) cells) 0 0 ≡ get_or (map (λ (c : Cell). c.uid) (cells ++ row ∷ [])) 0 0
first_stays [] row h = absurd (omega arith)
first_stays (c ∷ cells) row h = refl

pub are_last : (w : ℕ) (row : Cell) (cs : List Chunk) (i : ℕ) (d : Chunk) → i + 1 ≡ length cs → All (λ c. c.uid < row.uid) (cells_of cs) → row.uid < 2 ^ 32 - 1 → AreChunks w cs → AreChunks w (with_item i (with_rows (λ cells. cells ++ row ∷ [])) cs)
are_last w row cs i d e above low are =
    let f : Chunk → Chunk = with_rows (λ cells. cells ++ row ∷ []) in
    record {
      each = all_item (IsChunk w) f cs i d (omega arith) (λ c one. record {
        wide = one.wide;
        filled = let long = length-append c.block.cells (row ∷ []) in omega (arith, long, one.filled);
        first = one.first ∙ first_stays c.block.cells row one.filled;
      }) are.each;
      rising = subst AreRising (ap (map (λ (c : Cell). c.uid)) (sym (cells_last row cs i e))) (rising_more (cells_of cs) row above low are.rising);
    }

-- ---- in a block of its own

pub starts_push : (n : ℕ) (cs : List Chunk) (c : Chunk) → starts_from n (cs ++ c ∷ []) ≡ starts_from n cs ++ (n + length (cells_of cs)) ∷ []
starts_push n [] c = let none : n ≡ n + 0 = omega arith in ap (λ m. m ∷ []) none
starts_push n (b ∷ cs) c =
    let sum = length-append b.block.cells (cells_of cs) in
    let same : n + length b.block.cells + length (cells_of cs) ≡ n + length (b.block.cells ++ cells_of cs) = omega (arith, sum) in
    ap (λ l. n ∷ l) (starts_push (n + length b.block.cells) cs c) ∙ ap (λ m. n ∷ (starts_from (n + length b.block.cells) cs ++ m ∷ [])) same

pub cells_new : (cs : List Chunk) (c : Chunk) (row : Cell) → c.block.cells ≡ row ∷ [] → cells_of (cs ++ c ∷ []) ≡ cells_of cs ++ row ∷ []
cells_new cs c row e = cells_append cs (c ∷ []) ∙ ap (λ l. cells_of cs ++ l) (append-nil c.block.cells ∙ e)

pub are_new : (w : ℕ) (cs : List Chunk) (c : Chunk) (row : Cell) → c.block.cells ≡ row ∷ [] → c.block.width ≡ w → c.first ≡ row.uid → All (λ x. x.uid < row.uid) (cells_of cs) → row.uid < 2 ^ 32 - 1 → AreChunks w cs → AreChunks w (cs ++ c ∷ [])
are_new w cs c row e wide first above low are = record {
  each = All-push (IsChunk w) cs c are.each (record {
    wide = wide;
    filled = let one = ap length e in omega (arith, one);
    first = first ∙ ap (λ l. get_or (map (λ (x : Cell). x.uid) l) 0 0) (sym e);
  });
  rising = subst AreRising (ap (map (λ (x : Cell). x.uid)) (sym (cells_new cs c row e))) (rising_more (cells_of cs) row above low are.rising);
}

-- its start is put behind the others
pub counted_new : (ns : List ℕ) (cs : List Chunk) (c : Chunk) (n : ℕ) → AreCounted ns cs → n ≡ length (cells_of cs) → AreCounted (ns ++ n ∷ []) (cs ++ c ∷ [])
counted_new ns cs c n e h =
    let sum : n ≡ 0 + length (cells_of cs) = omega arith in
    ap (λ l. l ++ n ∷ []) e ∙ ap (λ m. starts_from 0 cs ++ m ∷ []) sum ∙ sym (starts_push 0 cs c)

abbrev pub no_chunk : Chunk
no_chunk = record { first = 0; block = record { width = 0; cells = [] } }

-- a block of one row
abbrev pub chunk_of : Entry → List ℕ → Chunk
chunk_of row part = record { first = row.uid; block = record { width = length part; cells = cell_of row part ∷ [] } }
