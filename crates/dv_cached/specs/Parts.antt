-- What the group of a command leaves of the extensions of a mailbox, and of the rows' parts.
use Rattle.std.specs.Prelude.{◌≡◌, ◌⊎◌, true, map, replicate, All, Any}
use Rattle.dv_model.specs.declared.types.Command.{Command}
use Rattle.dv_model.specs.declared.types.Mailbox.{Mailbox}
use Rattle.dv_model.specs.declared.types.Row.{Row}
use Rattle.dv_model.specs.Sessions.{is_append}

-- the row has the UID and the parts of one of the mailbox's
abbrev pub HasOldParts : Mailbox → Row → Type 0
HasOldParts m row = Any (λ old. (old.uid ≡ row.uid) × (old.parts ≡ row.parts)) m.rows

-- the row has the UID that comes next, and zero bytes for each extension
pub record HasNewParts (m : Mailbox) (row : Row) : Type 0 where
  pub uid : row.uid ≡ m.next_uid
  pub parts : row.parts ≡ map (λ e. replicate e.record_size 0) m.extensions

-- the extensions stay, and each row has the UID and the parts of an old one, or is the appended one
pub record KeepsParts (c : Command) (m after : Mailbox) : Type 0 where
  pub extensions : after.extensions ≡ m.extensions
  pub rows : All (λ row. HasOldParts m row ⊎ (is_append c ≡ true) × HasNewParts m row) after.rows
