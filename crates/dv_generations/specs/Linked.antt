-- The tables of generations, one behind another.
use Rattle.std.specs.Prelude.{◌≡◌, ℕ, ◌+◌, true, false, List, [], ◌∷◌, ◌++◌, map, All, ⊤}
use Rattle.atomic_table.specs.Seated.{TableId}
use Rattle.dv_front.specs.declared.notes.Generation.{Generation}
use Rattle.dv_front.specs.declared.notes.Note.{Note}
use Rattle.dv_front.specs.declared.notes.Origin.{Origin}
use Rattle.dv_front.specs.Ends.{new_pass, new_pen, published}
use Rattle.dv_generations.specs.declared.ends.Ends.{Ends}

-- the notes of each
abbrev pub parts_in : List Ends → List (List Note)
parts_in es = map (λ (e : Ends). e.pen.notes) es

-- the table of each
abbrev pub tables_in : List Ends → List TableId
tables_in es = map (λ (e : Ends). e.pen.table) es

-- the generation with so many before it, behind these notes
abbrev pub generation_at : Origin → ℕ → ℕ → List Note → ℕ → Generation
generation_at origin count before base room =
    record { room = room; number = before + 1; origin = origin; base = base; start_count = count }

-- it is that generation's, all that was put is published, and its pass has taken nothing
pub record IsLinked (origin : Origin) (count before : ℕ) (base : List Note) (e : Ends) : Type 0 where
  pub generation : e.pen.generation ≡ generation_at origin count before base e.pen.generation.room
  pub put : e.pen.put ≡ published e.pen
  pub pass : e.pass ≡ new_pass e.pen.table e.pen.generation

-- each begins with what those before it published
abbrev pub AreLinked : Origin → ℕ → ℕ → List Note → List Ends → Type 0
AreLinked origin count before base [] = ⊤
AreLinked origin count before base (e ∷ es) =
    IsLinked origin count before base e × AreLinked origin count (before + 1) (base ++ e.pen.notes) es

-- the older ones are sealed, the newest is open, and the roll names the table of each
pub record AreGenerations (origin : Origin) (count : ℕ) (older : List Ends) (newest : Ends) (tables : List TableId) : Type 0 where
  pub linked : AreLinked origin count 0 [] (older ++ newest ∷ [])
  pub sealed : All (λ e. e.pen.sealed ≡ true) older
  pub last : newest.pen.sealed ≡ false
  pub named : tables ≡ tables_in (older ++ newest ∷ [])

-- a table of which nothing is put, of the same start
pub record IsNew (origin : Origin) (count : ℕ) (e : Ends) : Type 0 where
  pub pen : e.pen ≡ new_pen e.pen.table e.pen.generation
  pub pass : e.pass ≡ new_pass e.pen.table e.pen.generation
  pub start : (e.pen.generation.origin ≡ origin) × (e.pen.generation.start_count ≡ count)
