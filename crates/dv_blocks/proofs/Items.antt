-- One row of a block changes.
use Rattle.std.proofs.Common.{◌≡◌, ◌∙◌, ℕ, zero, suc, ◌+◌, ◌<◌, List, [], ◌∷◌, ◌++◌, length, get_or, map, set, take, ap, sym, refl, subst, arith}
use Rattle.std.specs.Prelude.{All}
use Rattle.std.proofs.lemmas.List.{length-append}
use Rattle.std.proofs.lemmas.List.Elements.{All-get_or, All-set}
use Rattle.dv_model.specs.Effects.{with_item}
use Rattle.dv_validity.proofs.Items.{map_kept}
use Rattle.dv_blocks.specs.Cells.{Cell, Cells}
use Rattle.dv_blocks.specs.Chunks.{AreChunks, AreCounted, AreRising, IsChunk, IsIn, cells_of, starts_from, with_rows}
use Rattle.dv_blocks.specs.declared.chunk.Chunk.{Chunk}

pub item_is_set : {X : Type 0} (f : X → X) (xs : List X) (k : ℕ) (d : X) → k < length xs → with_item k f xs ≡ set xs k (f (get_or xs k d))
item_is_set f [] k d h = refl
item_is_set f (x ∷ xs) zero d h = refl
item_is_set f (x ∷ xs) (suc k) d h = ap (λ l. x ∷ l) (item_is_set f xs k d (omega arith))

pub item_long : {X : Type 0} (f : X → X) (k : ℕ) (xs : List X) → length (with_item k f xs) ≡ length xs
item_long f k [] = refl
item_long f zero (x ∷ xs) = refl
item_long f (suc k) (x ∷ xs) = ap suc (item_long f k xs)

pub all_item : {X : Type 0} (P : X → Type 0) (f : X → X) (xs : List X) (k : ℕ) (d : X) → k < length xs → ((x : X) → P x → P (f x)) → All P xs → All P (with_item k f xs)
all_item P f xs k d h step all =
    subst (All P) (sym (item_is_set f xs k d h)) (All-set P xs k (f (get_or xs k d)) (step (get_or xs k d) (All-get_or P xs k d h all)) all)

item_left : {X : Type 0} (g : X → X) (xs ys : List X) (o : ℕ) → o < length xs → with_item o g (xs ++ ys) ≡ with_item o g xs ++ ys
item_left g [] ys o h = absurd (omega arith)
item_left g (x ∷ xs) ys zero h = refl
item_left g (x ∷ xs) ys (suc o) h = ap (λ l. x ∷ l) (item_left g xs ys o (omega arith))

item_right : {X : Type 0} (g : X → X) (xs ys : List X) (n m : ℕ) → m ≡ length xs + n → with_item m g (xs ++ ys) ≡ xs ++ with_item n g ys
item_right g [] ys n m e = let same : m ≡ n = omega arith in ap (λ k. with_item k g ys) same
item_right g (x ∷ xs) ys n zero e = absurd (omega arith)
item_right g (x ∷ xs) ys n (suc m) e = ap (λ l. x ∷ l) (item_right g xs ys n m (omega arith))

-- a row of a block is a row of all
pub cells_item : (g : Cell → Cell) (cs : List Chunk) (i o m : ℕ) (d : Chunk) → i < length cs → o < length (get_or cs i d).block.cells → length (cells_of (take i cs)) + o ≡ m → cells_of (with_item i (with_rows (with_item o g)) cs) ≡ with_item m g (cells_of cs)
cells_item g [] i o m d h k e = absurd (omega arith)
cells_item g (c ∷ cs) zero o m d h k e =
    let same : o ≡ m = omega arith in
    sym (item_left g c.block.cells (cells_of cs) o k) ∙ ap (λ n. with_item n g (c.block.cells ++ cells_of cs)) same
cells_item g (c ∷ cs) (suc i) o m d h k e =
    let sum = length-append c.block.cells (cells_of (take i cs)) in
    ap (λ l. c.block.cells ++ l) (cells_item g cs i o (length (cells_of (take i cs)) + o) d (omega arith) k refl)
    ∙ sym (item_right g c.block.cells (cells_of cs) (length (cells_of (take i cs)) + o) m (sym e ∙ omega (arith, sum)))

starts_item : (f : Chunk → Chunk) → ((c : Chunk) → length (f c).block.cells ≡ length c.block.cells) → (n i : ℕ) (cs : List Chunk) → starts_from n (with_item i f cs) ≡ starts_from n cs
starts_item f same n i [] = refl
starts_item f same n zero (c ∷ cs) = ap (λ m. n ∷ starts_from (n + m) cs) (same c)
starts_item f same n (suc i) (c ∷ cs) = ap (λ l. n ∷ l) (starts_item f same (n + length c.block.cells) i cs)

-- the blocks stay blocks, where the row keeps its UID
pub are_item : (w : ℕ) (g : Cell → Cell) (cs : List Chunk) (at i o : ℕ) (d : Chunk) → ((c : Cell) → (g c).uid ≡ c.uid) → IsIn cs at i o → AreChunks w cs → AreChunks w (with_item i (with_rows (with_item o g)) cs)
are_item w g cs at i o d same is are =
    let f : Chunk → Chunk = with_rows (with_item o g) in
    let cells = cells_item g cs i o at d is.inside (is.within d) is.sum in
    record {
      each = all_item (IsChunk w) f cs i d is.inside (λ c one. record {
        wide = one.wide;
        filled = let long = item_long g o c.block.cells in omega (arith, long, one.filled);
        first = one.first ∙ ap (λ l. get_or l 0 0) (sym (map_kept (λ (x : Cell). x.uid) g same o c.block.cells));
      }) are.each;
      rising = subst AreRising (sym (ap (map (λ (x : Cell). x.uid)) cells ∙ map_kept (λ (x : Cell). x.uid) g same at (cells_of cs))) are.rising;
    }

-- and are counted as before
pub counted_item : (ns : List ℕ) (g : Cell → Cell) (cs : List Chunk) (i o : ℕ) → AreCounted ns cs → AreCounted ns (with_item i (with_rows (with_item o g)) cs)
counted_item ns g cs i o e = e ∙ sym (starts_item (with_rows (with_item o g)) (λ c. item_long g o c.block.cells) 0 i cs)

-- a block with these rows in its place
abbrev pub with_block : Cells → Chunk → Chunk
with_block b c = record { first = c.first; block = b }

-- the blocks, of which one has a changed row
pub changed_list : (g : Cell → Cell) (cs : List Chunk) (i o : ℕ) (x : Chunk) (b : Cells) → i < length cs → b ≡ record { width = (get_or cs i x).block.width; cells = with_item o g (get_or cs i x).block.cells } → set cs i (with_block b (get_or cs i x)) ≡ with_item i (with_rows (with_item o g)) cs
changed_list g cs i o x b inside e = ap (λ (y : Cells). set cs i (with_block y (get_or cs i x))) e ∙ sym (item_is_set (with_rows (with_item o g)) cs i x inside)
