-- What each step on a table of shared words changes in the view of its seat.
use Rattle.std.specs.Prelude.{◌≡◌, ◌⊎◌, ℕ, ◌+◌, ◌-◌, ◌^◌, ◌<◌, ◌≤◌, true, false, ◌||◌, List, [], ◌∷◌, ◌++◌, length, slice_index, None}
use mathlib.Core.List.{IsPrefix}
use Rattle.atomic_table.specs.Table.{Step, Me}
use Rattle.dv_front.specs.declared.notes.Generation.{Generation}
use Rattle.dv_front.specs.declared.notes.Note.{Note}
use Rattle.dv_front.specs.declared.rule.Before.{Before}
use Rattle.dv_front.specs.declared.rule.Before.TheVariants.{First, Next}
use Rattle.dv_front.specs.declared.rule.Beginning.{Beginning}
use Rattle.dv_front.specs.declared.rule.Knowledge.{Knowledge}
use Rattle.dv_front.specs.declared.rule.SeatView.{SeatView}
use Rattle.dv_front.specs.Ends.{generation, next_generation}
use Rattle.dv_front.specs.Lists.{longer}
use Rattle.dv_front.specs.Notes.{AreGood, text_of}
use Rattle.dv_front.specs.Rule.{front_word}

-- ---- views

-- the generation of a table with this room, by what comes before it
abbrev pub generation_by : ℕ → Before → Generation
generation_by room (First mailbox mark start_count) = generation room (record { mailbox = mailbox.value; mark = mark }) start_count
generation_by room (Next seat) = next_generation room seat.value.me.0.own

-- the generation that a table was made for
abbrev pub generation_of : Beginning → Generation
generation_of b = generation_by b.room b.before

-- the words of what is known
abbrev pub words_in : Knowledge → List ℕ
words_in k = text_of k.notes

-- no note of it is known
abbrev pub nothing_of : Generation → Knowledge
nothing_of g = record { generation = g; notes = []; sealed = false }

-- the pen's view of a new table
abbrev pub first_view : Generation → SeatView
first_view g = record { live = true; pen = true; put = []; loads = 0; own = nothing_of g; told = nothing_of g }

-- no generation
abbrev pub no_generation : Generation
no_generation = generation 0 (record {
  mailbox = record { uid_validity = 0; next_uid = 1; rows = []; keywords = []; extensions = []; current = None; highest = 1 };
  mark = record { file_seq = 0; offset = 0 };
}) 0

-- what is left of a view that another took in
abbrev pub spent_view : SeatView
spent_view = record { live = false; pen = false; put = []; loads = 0; own = nothing_of no_generation; told = nothing_of no_generation }

-- a pass's view that knows as much
abbrev pub pass_of : SeatView → SeatView
pass_of v = record { live = v.live; pen = false; put = []; loads = 0; own = v.own; told = v.own }

-- a view that was told what another knows
abbrev pub hearing : SeatView → SeatView → SeatView
hearing v other = record v { told = other.own }

-- a view that knows this, and was told nothing else
abbrev pub knowing : SeatView → Knowledge → SeatView
knowing v k = record v { own = k; told = k }

-- what two know together
abbrev pub both_known : Knowledge → Knowledge → Knowledge
both_known a b = record a { notes = longer a.notes b.notes; sealed = a.sealed || b.sealed }

-- ---- loads

-- the notes that are published were seen, no fewer than before, and the seal
pub record FrontLoaded (s : Step ℕ) (me : Me ℕ SeatView) (n : ℕ) (after : Me ℕ SeatView) : Type 0 where
  pub word : n ≡ front_word (length (words_in after.0.own)) after.0.own.sealed
  pub room : length (words_in after.0.own) ≤ me.0.own.generation.room
  pub small : length (words_in after.0.own) < 2 ^ 32
  pub begins : IsPrefix me.0.own.notes after.0.own.notes
  pub text : IsPrefix (words_in me.0.own) (words_in after.0.own)
  pub good : AreGood me.0.own.generation after.0.own.notes
  pub last : me.0.own.sealed ≡ true → (after.0.own.sealed ≡ true) × (after.0.own.notes ≡ me.0.own.notes)
  pub generation : after.0.own.generation ≡ me.0.own.generation
  pub now : after ≡ (record (knowing me.0 after.0.own) { loads = me.0.loads + 1 }, me.1)

-- a word that was published is what it was
pub record WordLoaded (s : Step ℕ) (me : Me ℕ SeatView) (n : ℕ) (after : Me ℕ SeatView) : Type 0 where
  pub word : n ≡ slice_index (words_in me.0.own) (s.word - 1)
  pub small : n < 2 ^ 32
  pub now : after ≡ me

-- what was told and what is known are of one list, and the pen knows all that was told
pub record Compared (s : Step ℕ) (me : Me ℕ SeatView) (n : ℕ) (after : Me ℕ SeatView) : Type 0 where
  pub either : IsPrefix me.0.told.notes me.0.own.notes ⊎ IsPrefix me.0.own.notes me.0.told.notes
  pub generation : me.0.told.generation ≡ me.0.own.generation
  pub pen : me.0.pen ≡ true → IsPrefix me.0.told.notes me.0.own.notes × (me.0.told.sealed ≡ true → me.0.own.sealed ≡ true)
  pub now : after ≡ (knowing me.0 me.0.own, me.1)

-- what was told is known too
pub record Learned (s : Step ℕ) (me : Me ℕ SeatView) (n : ℕ) (after : Me ℕ SeatView) : Type 0 where
  pub own : IsPrefix me.0.own.notes after.0.own.notes
  pub told : IsPrefix me.0.told.notes after.0.own.notes
  pub own_text : length (words_in me.0.own) ≤ length (words_in after.0.own)
  pub told_text : length (words_in me.0.told) ≤ length (words_in after.0.own)
  pub generation : me.0.told.generation ≡ me.0.own.generation
  pub room : length (words_in after.0.own) ≤ me.0.own.generation.room
  pub good : AreGood me.0.own.generation after.0.own.notes
  pub now : after ≡ (knowing me.0 (both_known me.0.own me.0.told), me.1)

-- ---- stores

-- a word more was put
abbrev pub WordPut : Step ℕ → Me ℕ SeatView → ℕ → Me ℕ SeatView → Type 0
WordPut s me n after = after ≡ (record me.0 { put = me.0.put ++ n ∷ [] }, me.1)

-- a note more was published
abbrev pub Published : Note → Step ℕ → Me ℕ SeatView → ℕ → Me ℕ SeatView → Type 0
Published note s me n after = after ≡ (knowing me.0 (record me.0.own { notes = me.0.own.notes ++ note ∷ [] }), me.1)

-- the seal was set
abbrev pub Sealed : Step ℕ → Me ℕ SeatView → ℕ → Me ℕ SeatView → Type 0
Sealed s me n after = after ≡ (knowing me.0 (record me.0.own { sealed = true }), me.1)
