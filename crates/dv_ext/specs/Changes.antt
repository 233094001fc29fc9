-- What a record of extensions does to the parts of each row.
use Rattle.std.specs.Prelude.{◌≡◌, [], ◌∷◌, ◌++◌, map, replicate}
use Rattle.dv_model.specs.declared.types.Mailbox.{Mailbox}
use Rattle.dv_model.specs.Effects.{grown_to, with_parts, with_row_parts, zeroed}
use Rattle.dv_model.specs.Mailboxes.{IsValid}
use Rattle.dv_ext.specs.declared.change.PartsChange.{PartsChange}
use Rattle.dv_ext.specs.declared.change.PartsChange.TheVariants.{Same, Added, Grown, Zeroed}
use Rattle.dv_ext.specs.Tables.{Table, with_table}

-- the mailbox with each row's parts changed so
abbrev pub rows_changed : PartsChange → Mailbox → Mailbox
rows_changed Same m = m
rows_changed (Added size) m = record m { rows = map (with_row_parts (λ parts. parts ++ replicate size 0 ∷ [])) m.rows }
rows_changed (Grown place size) m = with_parts place (grown_to size) m
rows_changed (Zeroed place) m = with_parts place zeroed m

-- in every valid mailbox with the one table, the effect is the other table, and parts of the rows that are changed so
abbrev pub Does : (Mailbox → Mailbox) → Table → Table → PartsChange → Type 0
Does effect before after change = (m : Mailbox) → IsValid (with_table before m) → effect (with_table before m) ≡ with_table after (rows_changed change m)

-- a valid mailbox with the one table is valid with the other, once its rows' parts are changed so
abbrev pub Keeps : Table → Table → PartsChange → Type 0
Keeps before after change = (m : Mailbox) → IsValid (with_table before m) → IsValid (with_table after (rows_changed change m))

-- the parts stay, or one of each row becomes zero bytes
abbrev pub Zeroes : PartsChange → Type 0
Zeroes Same = Unit {0}
Zeroes (Zeroed place) = Unit {0}
Zeroes (Added size) = ⊥
Zeroes (Grown place size) = ⊥

-- a valid mailbox that has this table
pub record HasTable (t : Table) (m : Mailbox) : Type 0 where
  pub valid : IsValid m
  pub is : with_table t m ≡ m
