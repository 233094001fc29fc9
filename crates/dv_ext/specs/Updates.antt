-- The rows of a record update (Dovecot's mail_transaction_ext_rec_update).
use Rattle.std.specs.Prelude.{ℕ, ◌/◌, ◌%◌, List, Option, Some, None, fold, length, nat_eq, if◌then◌else◌}
use Rattle.dv_model.specs.declared.types.Current.{Current}
use Rattle.dv_model.specs.declared.types.Mailbox.{Mailbox}
use Rattle.dv_model.specs.Effects.{update_rows, update_size, with_update}

-- the rows, each with its UID, so many bytes and its padding
pub record Updates : Type 0 where
  pub size : ℕ
  pub rows : List (List ℕ)

-- the rows of an update for an extension of a size, where its bytes are a whole number of them
abbrev pub updates_of : ℕ → List ℕ → Option Updates
updates_of size bytes =
    if nat_eq (length bytes % update_size size) 0
    then Some (record { size = size; rows = update_rows (length bytes / update_size size) (update_size size) bytes })
    else None

-- the mailbox after these rows in turn, or as it was where there are none
abbrev pub rows_updated : Option Updates → Current → Mailbox → Mailbox
rows_updated None current m = m
rows_updated (Some updates) current m = fold (with_update current) m updates.rows
