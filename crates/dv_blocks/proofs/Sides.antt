-- Rows side by side, and their columns.
use Rattle.std.proofs.Common.{◌≡◌, ◌∙◌, ℕ, zero, suc, List, [], ◌∷◌, ◌++◌, drop, map, set, take, ap, refl, subst, sym}
use Rattle.std.specs.List.{remove_range}
use Rattle.std.proofs.lemmas.List.{drop-map, map-append, map_push, take-map}
use Rattle.dv_model.specs.Effects.{with_item}
use Rattle.dv_blocks.specs.Cells.{AreColumns, Cell, Cells, beside, with_part, with_values}
use Rattle.dv_validity.proofs.Items.{map_kept, map_with_item}

-- rows whose parts have this length
abbrev pub rows_of : ℕ → List Cell → Cells
rows_of width cells = record { width = width; cells = cells }

are_beside : (cells : List Cell) → beside (map (λ c. c.uid) cells) (map (λ c. c.flags) cells) (map (λ c. c.modseq) cells) (map (λ c. c.words) cells) (map (λ c. c.part) cells) ≡ cells
are_beside [] = refl
are_beside (c ∷ cells) = ap (λ l. c ∷ l) (are_beside cells)

-- columns of rows give the rows
pub gives : (us fs ms ws : List ℕ) (ps : List (List ℕ)) (cells : List Cell) → AreColumns us fs ms ws ps cells → beside us fs ms ws ps ≡ cells
gives us fs ms ws ps cells are =
    ap (λ l. beside l fs ms ws ps) are.uids ∙ ap (λ l. beside (map (λ c. c.uid) cells) l ms ws ps) are.flags
    ∙ ap (λ l. beside (map (λ c. c.uid) cells) (map (λ c. c.flags) cells) l ws ps) are.modseqs
    ∙ ap (λ l. beside (map (λ c. c.uid) cells) (map (λ c. c.flags) cells) (map (λ c. c.modseq) cells) l ps) are.words
    ∙ ap (λ l. beside (map (λ c. c.uid) cells) (map (λ c. c.flags) cells) (map (λ c. c.modseq) cells) (map (λ c. c.words) cells) l) are.parts
    ∙ are_beside cells

-- and they are the columns of what they give
pub are : (us fs ms ws : List ℕ) (ps : List (List ℕ)) (cells : List Cell) → AreColumns us fs ms ws ps cells → AreColumns us fs ms ws ps (beside us fs ms ws ps)
are us fs ms ws ps cells h = subst (AreColumns us fs ms ws ps) (sym (gives us fs ms ws ps cells h)) h

-- one row more
pub pushed : (us fs ms ws : List ℕ) (ps : List (List ℕ)) (cells : List Cell) (c : Cell) → AreColumns us fs ms ws ps cells → AreColumns (us ++ c.uid ∷ []) (fs ++ c.flags ∷ []) (ms ++ c.modseq ∷ []) (ws ++ c.words ∷ []) (ps ++ c.part ∷ []) (cells ++ c ∷ [])
pushed us fs ms ws ps cells c h = record {
  uids = ap (λ l. l ++ c.uid ∷ []) h.uids ∙ sym (map_push (λ (x : Cell). x.uid) cells c);
  flags = ap (λ l. l ++ c.flags ∷ []) h.flags ∙ sym (map_push (λ (x : Cell). x.flags) cells c);
  modseqs = ap (λ l. l ++ c.modseq ∷ []) h.modseqs ∙ sym (map_push (λ (x : Cell). x.modseq) cells c);
  words = ap (λ l. l ++ c.words ∷ []) h.words ∙ sym (map_push (λ (x : Cell). x.words) cells c);
  parts = ap (λ l. l ++ c.part ∷ []) h.parts ∙ sym (map_push (λ (x : Cell). x.part) cells c);
}

-- ---- some rows leave

pub map_removed : {X Y : Type 0} (f : X → Y) (xs : List X) (ys : List Y) (i j : ℕ) → ys ≡ map f xs → remove_range ys i j ≡ map f (remove_range xs i j)
map_removed f xs ys i j h =
    ap (λ l. remove_range l i j) h ∙ ap (λ l. l ++ drop j (map f xs)) (take-map f i xs) ∙ ap (λ l. map f (take i xs) ++ l) (drop-map f j xs)
    ∙ sym (map-append f (take i xs) (drop j xs))

pub removed : (us fs ms ws : List ℕ) (ps : List (List ℕ)) (cells : List Cell) (i j : ℕ) → AreColumns us fs ms ws ps cells → AreColumns (remove_range us i j) (remove_range fs i j) (remove_range ms i j) (remove_range ws i j) (remove_range ps i j) (remove_range cells i j)
removed us fs ms ws ps cells i j h = record {
  uids = map_removed (λ (x : Cell). x.uid) cells us i j h.uids;
  flags = map_removed (λ (x : Cell). x.flags) cells fs i j h.flags;
  modseqs = map_removed (λ (x : Cell). x.modseq) cells ms i j h.modseqs;
  words = map_removed (λ (x : Cell). x.words) cells ws i j h.words;
  parts = map_removed (λ (x : Cell). x.part) cells ps i j h.parts;
}

-- ---- one item of a row changes

pub set_is : {X : Type 0} (xs : List X) (k : ℕ) (y : X) → set xs k y ≡ with_item k (λ x. y) xs
set_is [] k y = refl
set_is (x ∷ xs) zero y = refl
set_is (x ∷ xs) (suc k) y = ap (λ l. x ∷ l) (set_is xs k y)

-- a column in which one item is set
pub is_set : {Y : Type 0} (f : Cell → Y) (g : Cell → Cell) (cells : List Cell) (ys : List Y) (k : ℕ) (y : Y) → ((c : Cell) → f (g c) ≡ y) → ys ≡ map f cells → set ys k y ≡ map f (with_item k g cells)
is_set f g cells ys k y same h = set_is ys k y ∙ ap (with_item k (λ x. y)) h ∙ sym (map_with_item f g (λ x. y) same k cells)

-- a column of which nothing changes
pub is_kept : {Y : Type 0} (f : Cell → Y) (g : Cell → Cell) (cells : List Cell) (ys : List Y) (k : ℕ) → ((c : Cell) → f (g c) ≡ f c) → ys ≡ map f cells → ys ≡ map f (with_item k g cells)
is_kept f g cells ys k same h = h ∙ sym (map_kept f g same k cells)

-- a row gets these values
pub valued : (us fs ms ws : List ℕ) (ps : List (List ℕ)) (cells : List Cell) (k f m w : ℕ) → AreColumns us fs ms ws ps cells → AreColumns us (set fs k f) (set ms k m) (set ws k w) ps (with_item k (with_values f m w) cells)
valued us fs ms ws ps cells k f m w h = record {
  uids = is_kept (λ x. x.uid) (with_values f m w) cells us k (λ x. refl) h.uids;
  flags = is_set (λ x. x.flags) (with_values f m w) cells fs k f (λ x. refl) h.flags;
  modseqs = is_set (λ x. x.modseq) (with_values f m w) cells ms k m (λ x. refl) h.modseqs;
  words = is_set (λ x. x.words) (with_values f m w) cells ws k w (λ x. refl) h.words;
  parts = is_kept (λ x. x.part) (with_values f m w) cells ps k (λ x. refl) h.parts;
}

-- and these parts
pub parted : (us fs ms ws : List ℕ) (ps : List (List ℕ)) (cells : List Cell) (k : ℕ) (p : List ℕ) → AreColumns us fs ms ws ps cells → AreColumns us fs ms ws (set ps k p) (with_item k (with_part p) cells)
parted us fs ms ws ps cells k p h = record {
  uids = is_kept (λ x. x.uid) (with_part p) cells us k (λ x. refl) h.uids;
  flags = is_kept (λ x. x.flags) (with_part p) cells fs k (λ x. refl) h.flags;
  modseqs = is_kept (λ x. x.modseq) (with_part p) cells ms k (λ x. refl) h.modseqs;
  words = is_kept (λ x. x.words) (with_part p) cells ws k (λ x. refl) h.words;
  parts = is_set (λ x. x.part) (with_part p) cells ps k p (λ x. refl) h.parts;
}

-- columns seen as rows
pub viewed : (w v : ℕ) (us fs ms ws : List ℕ) (ps : List (List ℕ)) (cells : List Cell) → w ≡ v → AreColumns us fs ms ws ps cells → rows_of w (beside us fs ms ws ps) ≡ rows_of v cells
viewed w v us fs ms ws ps cells same h = ap (rows_of w) (gives us fs ms ws ps cells h) ∙ ap (λ n. rows_of n cells) same

-- columns that are the same
pub same_columns : (us fs ms ws : List ℕ) (ps : List (List ℕ)) (vs gs ns xs : List ℕ) (qs : List (List ℕ)) (cells : List Cell) → us ≡ vs → fs ≡ gs → ms ≡ ns → ws ≡ xs → ps ≡ qs → AreColumns vs gs ns xs qs cells → AreColumns us fs ms ws ps cells
same_columns us fs ms ws ps vs gs ns xs qs cells a b c d e h = record { uids = a ∙ h.uids; flags = b ∙ h.flags; modseqs = c ∙ h.modseqs; words = d ∙ h.words; parts = e ∙ h.parts }
