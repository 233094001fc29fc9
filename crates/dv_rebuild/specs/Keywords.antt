-- The UIDs of the kept messages, by keyword.
use Rattle.std.specs.Prelude.{◌≡◌, ℕ, ◌<◌, List, [], ◌∷◌, ◌++◌, length, filter, get_or, nat_eq, if◌then◌else◌}
use Rattle.std.specs.List.{list_any}
use Rattle.dv_model.specs.declared.types.Mailbox.{Mailbox}
use Rattle.dv_openings.specs.Salvages.{has_keyword}

-- so many lists, each empty
pub record AreEmpty (count : ℕ) (lists : List (List ℕ)) : Type 0 where
  pub many : length lists ≡ count
  pub each : (k : ℕ) → get_or lists k [] ≡ []

-- the UID is added to the lists at these places
pub record Notes (uid : ℕ) (places : List ℕ) (old new : List (List ℕ)) : Type 0 where
  pub many : length new ≡ length old
  pub each : (k : ℕ) → k < length old
      → get_or new k [] ≡ get_or old k [] ++ (if list_any (nat_eq k) places then uid ∷ [] else [])

-- for each keyword of the table, the kept messages that have it
pub record AreUids (m : Mailbox) (kept : List ℕ) (lists : List (List ℕ)) : Type 0 where
  pub many : length lists ≡ length m.keywords
  pub each : (k : ℕ) → k < length m.keywords
      → get_or lists k [] ≡ filter (has_keyword m k) kept
