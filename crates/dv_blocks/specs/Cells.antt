-- Rows as they are kept in columns.
use Rattle.std.specs.Prelude.{◌≡◌, ℕ, zero, suc, List, [], ◌∷◌, map, take, drop}

-- strings of bytes of one length
pub record Strings : Type 0 where
  pub width : ℕ
  pub items : List (List ℕ)

-- so many strings of this length, one after another
abbrev pub pieces : ℕ → ℕ → List ℕ → List (List ℕ)
pieces zero width bytes = []
pieces (suc n) width bytes = take width bytes ∷ pieces n width (drop width bytes)

-- a row, with the number of its set of keywords, and its parts one after another
pub record Cell : Type 0 where
  pub uid : ℕ
  pub flags : ℕ
  pub modseq : ℕ
  pub words : ℕ
  pub part : List ℕ

-- rows whose parts have this length
pub record Cells : Type 0 where
  pub width : ℕ
  pub cells : List Cell

-- one row of each five items that stand side by side
abbrev pub beside : List ℕ → List ℕ → List ℕ → List ℕ → List (List ℕ) → List Cell
beside [] flags modseqs words parts = []
beside (u ∷ uids) [] modseqs words parts = []
beside (u ∷ uids) (f ∷ flags) [] words parts = []
beside (u ∷ uids) (f ∷ flags) (m ∷ modseqs) [] parts = []
beside (u ∷ uids) (f ∷ flags) (m ∷ modseqs) (w ∷ words) [] = []
beside (u ∷ uids) (f ∷ flags) (m ∷ modseqs) (w ∷ words) (p ∷ parts) =
    record { uid = u; flags = f; modseq = m; words = w; part = p } ∷ beside uids flags modseqs words parts

-- the columns of these rows: each has as many items, in their order
pub record AreColumns (us fs ms ws : List ℕ) (ps : List (List ℕ)) (cells : List Cell) : Type 0 where
  pub uids : us ≡ map (λ c. c.uid) cells
  pub flags : fs ≡ map (λ c. c.flags) cells
  pub modseqs : ms ≡ map (λ c. c.modseq) cells
  pub words : ws ≡ map (λ c. c.words) cells
  pub parts : ps ≡ map (λ c. c.part) cells

-- the row with these flags, this modification sequence and this set of keywords
abbrev pub with_values : ℕ → ℕ → ℕ → Cell → Cell
with_values flags modseq words c = record c { flags = flags; modseq = modseq; words = words }

-- the row with these parts
abbrev pub with_part : List ℕ → Cell → Cell
with_part part c = record c { part = part }
