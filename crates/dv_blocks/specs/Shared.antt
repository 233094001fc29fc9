-- Sets of keywords that rows share, by number.
use Rattle.std.specs.Prelude.{◌≡◌, ◌≢◌, ℕ, zero, suc, ◌+◌, ◌^◌, ◌<◌, List, [], ◌∷◌, get_or, if◌then◌else◌, length, nat_eq, sum, take, drop}
use Rattle.dv_model.specs.declared.types.Row.{Row}
use Rattle.dv_model.specs.Effects.{with_item}
use Rattle.dv_blocks.specs.Cells.{Cell, Cells}
use Rattle.dv_blocks.specs.declared.chunk.Pending.{Pending}
use Rattle.dv_blocks.specs.declared.sets.Held.{Held}

-- a set that no row has
abbrev pub unheld : Held
unheld = record { places = []; uses = 0 }

-- the set of a number: 0 is that of no keywords
abbrev pub set_of : List Held → ℕ → List ℕ
set_of sets zero = []
set_of sets (suc k) = (get_or sets k unheld).places

-- how many rows have it, as it is counted
abbrev pub uses_of : List Held → ℕ → ℕ
uses_of sets zero = 0
uses_of sets (suc k) = (get_or sets k unheld).uses

-- 1 for this number, and else 0
abbrev pub one_at : ℕ → ℕ → ℕ
one_at n k = if nat_eq n k then 1 else 0

-- a set that no row has takes no memory
abbrev pub AreFreed : List Held → Type 0
AreFreed sets = (k : ℕ) → (get_or sets k unheld).uses ≡ 0 → (get_or sets k unheld).places ≡ []

-- one place has another set, with another count
pub record IsChangedAt (old new : List Held) (at : ℕ) (set : Held) : Type 0 where
  pub here : get_or new at unheld ≡ set
  pub others : (k : ℕ) → k ≢ at → get_or new k unheld ≡ get_or old k unheld

-- a row more has the set of this number, which has these places
pub record IsHeld (old new : List Held) (n : ℕ) (places : List ℕ) : Type 0 where
  pub here : set_of new n ≡ places
  pub others : (k : ℕ) → 0 < uses_of old k → set_of new k ≡ set_of old k
  pub uses : (k : ℕ) → uses_of new (suc k) ≡ uses_of old (suc k) + one_at n (suc k)
  pub freed : AreFreed old → AreFreed new

-- a row less has it
pub record IsReleased (old new : List Held) (n : ℕ) : Type 0 where
  pub others : (k : ℕ) → 0 < uses_of new k → set_of new k ≡ set_of old k
  pub uses : (k : ℕ) → uses_of new (suc k) + one_at n (suc k) ≡ uses_of old (suc k)
  pub freed : AreFreed old → AreFreed new

-- the set at this place is used, and is this one
pub record IsFound (sets : List Held) (set : List ℕ) (at : ℕ) : Type 0 where
  pub inside : at < length sets
  pub fits : (get_or sets at unheld).uses + 1 < 2 ^ 32
  pub used : 0 < (get_or sets at unheld).uses
  pub same : (get_or sets at unheld).places ≡ set

-- how many rows have the set of this number
abbrev pub how_many : ℕ → List Cell → ℕ
how_many n [] = 0
how_many n (c ∷ cells) = one_at c.words n + how_many n cells

-- for how many rows it is held
abbrev pub how_many_held : ℕ → List Pending → ℕ
how_many_held n [] = 0
how_many_held n (p ∷ held) = one_at p.words n + how_many_held n held

-- each set is counted, and one that no row has takes no memory
pub record AreShared (held : List Pending) (sets : List Held) (cells : List Cell) : Type 0 where
  pub uses : (k : ℕ) → uses_of sets (suc k) ≡ how_many (suc k) cells + how_many_held (suc k) held
  pub freed : AreFreed sets

-- bytes cut to these lengths
abbrev pub cut : List ℕ → List ℕ → List (List ℕ)
cut [] bytes = []
cut (n ∷ sizes) bytes = take n bytes ∷ cut sizes (drop n bytes)

-- the row of a mailbox
abbrev pub row_of : List Held → List ℕ → Cell → Row
row_of sets sizes c = record { uid = c.uid; flags = c.flags; keywords = set_of sets c.words; parts = cut sizes c.part; modseq = c.modseq }

-- the row at a place, and the keywords that are held for it
pub record Due : Type 0 where
  pub at : ℕ
  pub keywords : List ℕ

abbrev pub due_of : List Held → Pending → Due
due_of sets p = record { at = p.at; keywords = set_of sets p.words }

-- rows, the sizes of their parts, and keywords that are held for rows
pub record Rows : Type 0 where
  pub sizes : List ℕ
  pub rows : List Row
  pub held : List Due

-- the row with these keywords and this modification sequence
abbrev pub with_keywords : ℕ → List ℕ → Row → Row
with_keywords modseq places r = record { uid = r.uid; flags = r.flags; keywords = places; parts = r.parts; modseq = modseq }

-- a row gets the keywords that are held for it, and this modification sequence
abbrev pub with_due : ℕ → List Row → Due → List Row
with_due modseq rows due = with_item due.at (with_keywords modseq due.keywords) rows

-- the row with these flags, this modification sequence and these keywords
abbrev pub with_set : ℕ → ℕ → List ℕ → Row → Row
with_set flags modseq places r = record { uid = r.uid; flags = flags; keywords = places; parts = r.parts; modseq = modseq }

-- the row with these flags and this modification sequence
abbrev pub with_flags : ℕ → ℕ → Row → Row
with_flags flags modseq r = record { uid = r.uid; flags = flags; keywords = r.keywords; parts = r.parts; modseq = modseq }

-- the row with these parts
abbrev pub with_parts : List (List ℕ) → Row → Row
with_parts parts r = record { uid = r.uid; flags = r.flags; keywords = r.keywords; parts = parts; modseq = r.modseq }

-- how many rows have each set is counted, and each row has its parts
pub record AreKept (held : List Pending) (sets : List Held) (sizes : List ℕ) (cells : Cells) : Type 0 where
  pub shared : AreShared held sets cells.cells
  pub width : cells.width ≡ sum sizes

-- so many rows less have these sets
pub record AreLess (old new : List Held) (gone : List Cell) : Type 0 where
  pub others : (k : ℕ) → 0 < uses_of new k → set_of new k ≡ set_of old k
  pub uses : (k : ℕ) → uses_of new (suc k) + how_many (suc k) gone ≡ uses_of old (suc k)
  pub freed : AreFreed old → AreFreed new
