-- The part of a snapshot that stands before its rows, and goes by their counts.
use Rattle.std.specs.Prelude.{◌≡◌, List, length, count_by, not, nat_eq, bit_and}
use Rattle.dv_model.specs.declared.types.Mailbox.{Mailbox}
use Rattle.dv_model.specs.declared.types.Row.{Row}
use Rattle.dv_index.specs.declared.tally.Tally.{Tally}

-- the mailbox with these rows in the place of its own
abbrev pub with_rows : List Row → Mailbox → Mailbox
with_rows rows m = record m { rows = rows }

-- so many rows, and so many of them that are seen and deleted
pub record HasCounts (counts : Tally) (listed : List Row) : Type 0 where
  pub rows : counts.rows ≡ length listed
  pub seen : counts.seen ≡ count_by (λ row. not (nat_eq (bit_and row.flags 8) 0)) listed
  pub deleted : counts.deleted ≡ count_by (λ row. not (nat_eq (bit_and row.flags 4) 0)) listed
