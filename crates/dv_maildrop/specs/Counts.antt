-- What a maildrop keeps beside its rows, so that a line needn't go over them.
use Rattle.std.specs.Prelude.{◌≡◌, ℕ, ◌+◌, ◌<◌, Bool, false, cond, List, [], ◌∷◌, length, get_or}
use Rattle.dv_maildrop.specs.declared.types.Listed.{Listed}
use Rattle.dv_maildrop.specs.Answers.{octets_of}
use Rattle.dv_maildrop.specs.Maildrops.{Transaction, is_marked, numbered, unmarked}

-- whether each row is marked; how many aren't, and their octets; and the octets of all
pub record IsKept (m : Transaction) (flags : List Bool) (count octets whole : ℕ) : Type 0 where
  pub size : length flags ≡ length m.rows
  pub each : (i : ℕ) → i < length m.rows → get_or flags i false ≡ is_marked m (i + 1)
  pub left : count ≡ length (unmarked m)
  pub sum : octets ≡ octets_of (unmarked m)
  pub all : whole ≡ octets_of (numbered m)

-- the rows whose flags pass a test, beside their numbers
abbrev pub chosen : (Bool → Bool) → ℕ → List Listed → List Bool → List (ℕ × Listed)
chosen test n [] flags = []
chosen test n (row ∷ rows) [] = []
chosen test n (row ∷ rows) (flag ∷ flags) =
    cond (test flag) ((n, row) ∷ chosen test (n + 1) rows flags) (chosen test (n + 1) rows flags)
