-- A maildrop in the TRANSACTION state (RFC 1939, section 5), and what a line leaves of it.
use Rattle.std.specs.Prelude.{ℕ, zero, suc, Bool, true, not, List, [], ◌∷◌, ◌++◌, map, filter, Option, Some, None, nat_eq, if◌then◌else◌}
use Rattle.std.specs.List.{enumerate_from, list_any, slice_get}
use Rattle.dv_model.specs.declared.types.End.TheVariants.{Number}
use Rattle.dv_model.specs.declared.types.Span.{Span}
use Rattle.dv_maildrop.specs.declared.types.Asked.{Asked}
use Rattle.dv_maildrop.specs.declared.types.Asked.TheVariants as asked_of
use Rattle.dv_maildrop.specs.declared.types.Listed.{Listed}
use Rattle.dv_maildrop.specs.declared.types.PopLine.{PopLine}
use Rattle.dv_maildrop.specs.declared.types.PopLine.TheVariants as line

-- the messages as they were when the session began, the numbers of those that are marked as deleted, in the order of their
-- marks, and whether the session has ended
pub record Transaction : Type 0 where
  pub uid_validity : ℕ
  pub rows : List Listed
  pub marked : List ℕ
  pub ended : Bool

-- the messages beside their numbers
abbrev pub numbered : Transaction → List (ℕ × Listed)
numbered m = enumerate_from 1 m.rows

abbrev pub is_marked : Transaction → ℕ → Bool
is_marked m k = list_any (nat_eq k) m.marked

-- those that are not marked, and those that are
abbrev pub unmarked : Transaction → List (ℕ × Listed)
unmarked m = filter (λ row. not (is_marked m row.0)) (numbered m)

abbrev pub marked_uids : Transaction → List ℕ
marked_uids m = map (λ row. row.1.uid) (filter (λ row. is_marked m row.0) (numbered m))

-- a set of one UID
abbrev pub uid_span : ℕ → Span
uid_span uid = record { from = Number uid; to = Number uid }

-- the UIDs of the marked messages as a set
abbrev pub marked_set : Transaction → List Span
marked_set m = map uid_span (marked_uids m)

-- the message of a number from 1
abbrev pub row_at : List Listed → ℕ → Option Listed
row_at rows zero = None
row_at rows (suc k) = slice_get rows k

-- the same, where it isn't marked
abbrev pub row_of : Transaction → ℕ → Option Listed
row_of m k = if is_marked m k then None else row_at m.rows k

-- ---- what lines do

abbrev pub with_mark : Transaction → ℕ → Option Listed → Transaction
with_mark m k None = m
with_mark m k (Some row) = record m { marked = m.marked ++ k ∷ [] }

-- DELE marks a message, RSET takes all marks away, and QUIT ends the session; no line changes the messages
abbrev pub behind : Transaction → PopLine → Transaction
behind m (line.Dele k) = with_mark m k (row_of m k)
behind m line.Rset = record m { marked = [] }
behind m line.Quit = record m { ended = true }
behind m line = m

-- RETR of a message that isn't marked asks for its bytes, and QUIT with a mark for the removal
abbrev pub asked_message : Option Listed → Asked
asked_message None = asked_of.Nothing
asked_message (Some row) = asked_of.Message row

abbrev pub asked_removal : List ℕ → Asked
asked_removal [] = asked_of.Nothing
asked_removal (k ∷ ks) = asked_of.Removal

abbrev pub asked : Transaction → PopLine → Asked
asked m (line.Retr k) = asked_message (row_of m k)
asked m line.Quit = asked_removal m.marked
asked m line = asked_of.Nothing
