-- What contracts see of the generations of a keeper.
use Rattle.std.specs.Prelude.{◌≡◌, ℕ, ◌+◌, ◌-◌, ◌≤◌, nat_lt, max, Bool, false, true, List, [], ◌∷◌, ◌++◌, length, take, Option, Some, None}
use mathlib.Core.List.{IsPrefix}
use Rattle.dv_model.specs.Journals.{Log}
use Rattle.dv_front.specs.declared.notes.Note.{Note}
use Rattle.dv_front.specs.declared.notes.Origin.{Origin}
use Rattle.dv_front.specs.Ends.{PassView}
use Rattle.dv_front.specs.Notes.{AreGood}

-- the notes of each generation, the oldest first; how many words are left in the newest table; for how many generations
-- more the list has room; how many words a next table has, where no group needs more; and whether a pass of the newest is
-- kept for who publishes
pub record Feed : Type 0 where
  pub parts : List (List Note)
  pub left : ℕ
  pub spare : ℕ
  pub words : ℕ
  pub pass : Bool

-- a table for a generation: the notes before it, its number, and how many words it holds
pub record NextView : Type 0 where
  pub base : List Note
  pub number : ℕ
  pub room : ℕ

-- ---- notes

-- lists one behind another
abbrev pub joined : List (List Note) → List Note
joined [] = []
joined (part ∷ parts) = part ++ joined parts

-- all notes that were published
abbrev pub journal : Feed → List Note
journal f = joined f.parts

-- those up to the end of a generation, counted from 1
abbrev pub front_of : Feed → ℕ → List Note
front_of f number = joined (take number f.parts)

-- where a log starts
abbrev pub origin_of : Log → Origin
origin_of start = record { mailbox = start.start; mark = start.start_mark }

-- ---- publishing

-- one generation without notes
abbrev pub new_feed : ℕ → Feed
new_feed words = record { parts = [] ∷ []; left = words; spare = 0; words = words; pass = false }

-- the table is for the generation behind all that was published
abbrev pub IsBehind : Feed → NextView → Type 0
IsBehind f n = (n.base ≡ journal f) × (n.number ≡ length f.parts + 1)

-- and the list has room for it
abbrev pub Follows : Feed → NextView → Type 0
Follows f n = IsBehind f n × (1 ≤ f.spare)

-- An entry is two words, and those of its group. It fits into the newest table, or into the one for the next generation.
abbrev pub Fits : ℕ → Feed → Option NextView → Type 0
Fits words f None = words + 2 ≤ f.left
Fits words f (Some n) = Follows f n × (words + 2 ≤ n.room)

-- with room for a generation more
abbrev pub with_spare : Feed → Feed
with_spare f = record f { spare = max f.spare 1 }

-- with a pass of the newest
abbrev pub with_pass : Feed → Feed
with_pass f = record f { pass = true }

-- what was made ready: a pass of the newest, or room for the table that there is, which has one
abbrev pub with_room : Feed → Option NextView → Feed
with_room f None = with_pass f
with_room f (Some n) = with_spare f

-- with that table as the newest
abbrev pub turned : Feed → Option NextView → Feed
turned f None = f
turned f (Some n) = record f { parts = f.parts ++ [] ∷ []; left = n.room; spare = f.spare - 1; pass = true }

-- the last list has a note more
abbrev pub with_last : List (List Note) → Note → List (List Note)
with_last [] note = []
with_last (part ∷ []) note = (part ++ note ∷ []) ∷ []
with_last (part ∷ next ∷ parts) note = part ∷ with_last (next ∷ parts) note

-- a note more in the newest table, whose group has so many words
abbrev pub published : ℕ → Note → Feed → Feed
published words note f = record f { parts = with_last f.parts note; left = f.left - (words + 2) }

-- ---- reading

-- The pass knows all notes of a generation, which goes on from those before it, and that it is sealed unless it is the newest.
-- So what it has seen is a prefix of all that was published, and all of it in the newest.
pub record IsShown (start : Log) (count : ℕ) (f : Feed) (number : ℕ) (p : PassView) : Type 0 where
  pub there : (1 ≤ number) × (number ≤ length f.parts)
  pub generation : (p.generation.number ≡ number) × (p.generation.origin ≡ origin_of start) × (p.generation.start_count ≡ count)
  pub base : p.generation.base ≡ front_of f (number - 1)
  pub whole : p.generation.base ++ p.notes ≡ front_of f number
  pub seen : IsPrefix (p.generation.base ++ p.notes) (journal f)
  pub newest : number ≡ length f.parts → p.generation.base ++ p.notes ≡ journal f
  pub sealed : p.sealed ≡ nat_lt number (length f.parts)
  pub good : AreGood p.generation p.notes
