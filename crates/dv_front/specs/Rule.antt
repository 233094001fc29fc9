-- The rule of a table of shared words: what its words are, of which notes they tell, and what each seat knows of them.
use Rattle.std.specs.Prelude.{◌≡◌, ℕ, ◌+◌, ◌^◌, ◌<◌, Bool, true, List, ◌∷◌, ◌++◌, length, All, if◌then◌else◌}
use mathlib.Core.Option.{some}
use mathlib.Core.List.{IsPrefix}
use lib.ListN.{get_elem?}
use Rattle.dv_model.specs.Journals.{IsU32}
use Rattle.dv_front.specs.declared.notes.Generation.{Generation}
use Rattle.dv_front.specs.declared.notes.Note.{Note}
use Rattle.dv_front.specs.declared.rule.Knowledge.{Knowledge}
use Rattle.dv_front.specs.declared.rule.SeatView.{SeatView}
use Rattle.dv_front.specs.Notes.{AreGood, text_of}

-- the word before the data words: how many are published, and 2 ^ 63 more once they are sealed
abbrev pub front_word : ℕ → Bool → ℕ
front_word count sealed = count + (if sealed then 9223372036854775808 else 0)

-- what a seat knows is so: good notes that begin the published ones, and behind the seal all of them
pub record IsTrueOf (g : Generation) (published : List Note) (sealed : Bool) (k : Knowledge) : Type 0 where
  pub generation : k.generation ≡ g
  pub notes : IsPrefix k.notes published
  pub good : AreGood g k.notes
  pub whole : k.sealed ≡ true → (sealed ≡ true) × (k.notes ≡ published)

-- the seat that stores knows all that was put and published, and the seal
pub record IsPenAt (seat : ℕ) (put : List ℕ) (published : List Note) (sealed : Bool) (id : ℕ) (v : SeatView) : Type 0 where
  pub place : id ≡ seat
  pub puts : v.put ≡ put
  pub notes : v.own.notes ≡ published
  pub seals : v.own.sealed ≡ sealed

-- a seat's view, where it isn't spent
pub record Fits (g : Generation) (seat : ℕ) (put : List ℕ) (published : List Note) (sealed : Bool) (id : ℕ) (v : SeatView) : Type 0 where
  pub own : IsTrueOf g published sealed v.own
  pub told : IsTrueOf g published sealed v.told
  pub pen : v.pen ≡ true → IsPenAt seat put published sealed id v

-- The words are the number of published words and the data words. Those that were put stand first, and the first of them are
-- the words of the published notes, which are good. Each view that isn't spent fits, and only one is the pen's.
pub record IsKept (g : Generation) (words : List ℕ) (views : List SeatView) : Type 0 where
  pub seat : ℕ
  pub put : List ℕ
  pub published : List Note
  pub rest : List ℕ
  pub sealed : Bool
  pub words_are : words ≡ front_word (length (text_of published)) sealed ∷ (put ++ rest)
  pub within : IsPrefix (text_of published) put
  pub room : length put + length rest ≡ g.room
  pub small_room : g.room < 2 ^ 32
  pub good : AreGood g published
  pub small : All IsU32 put
  pub fits : (id : ℕ) (v : SeatView) → get_elem? views id ≡ some v → v.live ≡ true → Fits g seat put published sealed id v
