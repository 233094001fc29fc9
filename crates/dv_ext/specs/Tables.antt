-- The table of a mailbox's extensions, with the current one.
use Rattle.std.specs.Prelude.{◌≤◌, IfSome, IsSomeAnd, List, Option, [], None, slice_get}
use Rattle.dv_model.specs.declared.types.Current.{Current}
use Rattle.dv_model.specs.declared.types.Extension.{Extension}
use Rattle.dv_model.specs.declared.types.Mailbox.{Mailbox}
use Rattle.dv_model.specs.Mailboxes.{AreExtensions}

-- the extensions in the order of their introduction, and the one that further records speak of
pub record Table : Type 0 where
  pub extensions : List Extension
  pub current : Option Current

-- what a valid mailbox has: extensions within the limits, and a current one that is one of them and no larger
pub record IsTable (t : Table) : Type 0 where
  pub extensions : AreExtensions t.extensions
  pub current : IfSome t.current (λ c. IsSomeAnd (slice_get t.extensions c.extension) (λ e. c.size ≤ e.record_size))

-- the table of a mailbox that never had a message
abbrev pub empty_table : Table
empty_table = record { extensions = []; current = None }

-- the mailbox with this table in the place of its own
abbrev pub with_table : Table → Mailbox → Mailbox
with_table t m = record m { extensions = t.extensions; current = t.current }
