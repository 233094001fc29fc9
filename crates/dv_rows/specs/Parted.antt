-- The rows that records name, as a part that is taken out and put back.
use Rattle.std.specs.Prelude.{◌≡◌, ℕ, Bool, true, ◌&&◌, ◌||◌, List, map, not, Contains, nat_eq, nat_le}
use Rattle.std.specs.List.{list_any}
use Rattle.dv_model.specs.declared.types.Row.{Row}
use Rattle.dv_rows.specs.Noted.{has}

-- a row has the UID
abbrev pub HasUid : List Row → ℕ → Type 0
HasUid rows uid = Contains (map (λ row. row.uid) rows) uid

-- a row has the UID, and so has one of the ranges
abbrev pub IsNamed : {X : Type 0} → (X → ℕ) → (X → ℕ) → List X → List Row → ℕ → Type 0
IsNamed first last ranges rows uid = HasUid rows uid × (list_any (has first last uid) ranges ≡ true)

-- the UID is in the list
abbrev pub is_among : List ℕ → ℕ → Bool
is_among uids uid = list_any (nat_eq uid) uids

-- the UID is in the list, or that of a new row
abbrev pub is_parted : List ℕ → ℕ → ℕ → Bool
is_parted uids bound uid = is_among uids uid || nat_le bound uid

-- the UID is in the list, and no row of the part has it
abbrev pub is_missing : List ℕ → List Row → ℕ → Bool
is_missing uids part uid = is_among uids uid && not (list_any (λ row. nat_eq row.uid uid) part)
