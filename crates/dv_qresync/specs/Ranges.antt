-- Ranges of UIDs as they are gathered from the highest down.
use Rattle.std.specs.Prelude.{◌≡◌, ℕ, ◌+◌, ◌-◌, ◌<◌, ◌≤◌, List, [], ◌∷◌, filter, length, slice_index_or}
use Rattle.std.specs.List.{range_with_len}
use Rattle.dv_model.specs.declared.types.Mailbox.{Mailbox}
use Rattle.dv_model.specs.declared.types.Pair.{Pair}
use Rattle.dv_model.specs.declared.types.Row.{Row}
use Rattle.dv_model.specs.Sessions.{with_uid}
use Rattle.dv_qresync.specs.Answers.{is_no_row}

-- UIDs in front of ranges
abbrev pub with_uids : List ℕ → List Pair → List Pair
with_uids [] pairs = pairs
with_uids (uid ∷ uids) pairs = with_uid uid (with_uids uids pairs)

-- the UIDs of a range
abbrev pub uids_of : Pair → List ℕ
uids_of pair = range_with_len pair.first (pair.last + 1 - pair.first)

-- those of them that no row has
abbrev pub free_uids : Mailbox → Pair → List ℕ
free_uids m pair = filter (is_no_row m) (uids_of pair)

-- a range of UIDs from 1 on up to one
abbrev pub IsWithin : ℕ → Pair → Type 0
IsWithin star pair = (1 ≤ pair.first) × (pair.first ≤ pair.last) × (pair.last ≤ star)

-- the rows from a place on have UIDs above this
abbrev pub AreBehind : ℕ → ℕ → List Row → Type 0
AreBehind last place rows = (k : ℕ) (d : Row) → place ≤ k → k < length rows → last < (slice_index_or rows k d).uid

-- the rows before a place have UIDs below this
abbrev pub AreBefore : ℕ → ℕ → List Row → Type 0
AreBefore first place rows = (k : ℕ) (d : Row) → k < place → k < length rows → (slice_index_or rows k d).uid < first

-- the row before a place has this UID, which isn't below another
pub record IsUidBefore (m : Mailbox) (place first uid : ℕ) : Type 0 where
  pub some : 1 ≤ place
  pub from : first ≤ uid
  pub given : uid < m.next_uid
  pub is : (d : Row) → (slice_index_or m.rows (place - 1) d).uid ≡ uid
