-- The sizes of rows' parts, and what introductions make of them.
use Rattle.std.specs.Prelude.{ℕ, Bool, List, [], ◌∷◌, fold, map, bytes_eq}
use Rattle.dv_model.specs.declared.types.Extension.{Extension}
use Rattle.dv_model.specs.declared.types.Intro.{Intro}
use Rattle.dv_model.specs.Effects.{grown_to, with_intro}
use Rattle.dv_model.specs.Mailboxes.{empty_mailbox}

-- each row has a part of so many bytes for each extension
abbrev pub sizes_of : List Extension → List ℕ
sizes_of es = map (λ e. e.record_size) es

-- the extensions behind introductions, which no row is asked for
abbrev pub extensions_behind : List Extension → List Intro → List Extension
extensions_behind es intros = (fold with_intro (record (empty_mailbox 1) { extensions = es }) intros).extensions

-- they have as many parts, of the same sizes
abbrev pub have_sizes : List Extension → List Extension → Bool
have_sizes es fs = bytes_eq (sizes_of es) (sizes_of fs)

-- introductions leave each row's parts as they are
abbrev pub leave_parts : List Extension → List Intro → Bool
leave_parts es intros = have_sizes es (extensions_behind es intros)

-- a row's parts, filled up with zero bytes to these sizes; a part that it lacks is zero bytes
abbrev pub fitted : List ℕ → List (List ℕ) → List (List ℕ)
fitted [] parts = []
fitted (n ∷ ns) [] = grown_to n [] ∷ fitted ns []
fitted (n ∷ ns) (part ∷ parts) = grown_to n part ∷ fitted ns parts
