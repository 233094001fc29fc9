-- What contracts see of a pen and of a pass.
use Rattle.std.specs.Prelude.{ℕ, ◌+◌, Bool, true, false, ◌||◌, List, [], ◌∷◌, ◌++◌, max, nat_eq, if◌then◌else◌}
use Rattle.atomic_table.specs.Seated.{TableId}
use Rattle.dv_front.specs.declared.notes.Generation.{Generation}
use Rattle.dv_front.specs.declared.notes.Note.{Note}
use Rattle.dv_front.specs.declared.notes.Origin.{Origin}
use Rattle.dv_front.specs.declared.rule.Knowledge.{Knowledge}
use Rattle.dv_front.specs.Lists.{longer}
use Rattle.dv_front.specs.Notes.{text_of}

-- a pass: the notes that were published at its last load, how many of their words it has taken,
-- whether the seal was there, and how often it loaded the number of words
pub record PassView : Type 0 where
  pub table : TableId
  pub generation : Generation
  pub notes : List Note
  pub taken : ℕ
  pub sealed : Bool
  pub loads : ℕ

-- a pen: the words that it put, the notes that it published, and whether it sealed them
pub record PenView : Type 0 where
  pub table : TableId
  pub generation : Generation
  pub put : List ℕ
  pub notes : List Note
  pub sealed : Bool

-- the words that a pass knows
abbrev pub known : PassView → List ℕ
known p = text_of p.notes

-- the words that a pen published
abbrev pub published : PenView → List ℕ
published pen = text_of pen.notes

-- what a pen knows of its generation
abbrev pub knowledge : PenView → Knowledge
knowledge pen = record { generation = pen.generation; notes = pen.notes; sealed = pen.sealed }

-- ---- the start

-- the first generation of a log that starts here
abbrev pub generation : ℕ → Origin → ℕ → Generation
generation room origin start_count = record { room = room; number = 1; origin = origin; base = []; start_count = start_count }

-- the generation behind one of which this is known: what was published there comes before it
abbrev pub next_generation : ℕ → Knowledge → Generation
next_generation room k = record {
  room = room;
  number = k.generation.number + 1;
  origin = k.generation.origin;
  base = k.generation.base ++ k.notes;
  start_count = k.generation.start_count;
}

-- nothing is put
abbrev pub new_pen : TableId → Generation → PenView
new_pen table g = record { table = table; generation = g; put = []; notes = []; sealed = false }

-- nothing is known, and nothing was loaded
abbrev pub new_pass : TableId → Generation → PassView
new_pass table g = record { table = table; generation = g; notes = []; taken = 0; sealed = false; loads = 0 }

-- ---- a pass

-- the number of words was loaded, and found to be that of these notes
abbrev pub loaded : PassView → List Note → Bool → PassView
loaded p notes sealed = record p { notes = notes; sealed = sealed; loads = p.loads + 1 }

-- so many words are taken
abbrev pub with_taken : PassView → ℕ → PassView
with_taken p words = record p { taken = words }

-- the word at a place, counted from 1, was loaded: it is taken where it is the next
abbrev pub word_loaded : PassView → ℕ → PassView
word_loaded p at = with_taken p (if nat_eq at (p.taken + 1) then at else p.taken)

-- a pass that knows as much, and has loaded nothing
abbrev pub second_of : PassView → PassView
second_of p = record p { loads = 0 }

-- what both know, and what both have taken
abbrev pub joined : PassView → PassView → PassView
joined p other = record p { notes = longer p.notes other.notes; taken = max p.taken other.taken; sealed = p.sealed || other.sealed }

-- all that the pen published is known
abbrev pub shown : PenView → PassView → PassView
shown pen p = record p { notes = pen.notes; sealed = pen.sealed }

-- ---- a pen

-- a word more was put
abbrev pub with_word : PenView → ℕ → PenView
with_word pen word = record pen { put = pen.put ++ word ∷ [] }

-- a note more was published
abbrev pub with_note : PenView → Note → PenView
with_note pen note = record pen { notes = pen.notes ++ note ∷ [] }

-- the words that are published were sealed
abbrev pub with_seal : PenView → PenView
with_seal pen = record pen { sealed = true }
