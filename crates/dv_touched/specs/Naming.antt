-- Which UIDs a record of the log names (Dovecot's mail-transaction-log.h).
use Rattle.std.specs.Prelude.{◌≡◌, ℕ, Bool, false, ◌&&◌, Some, nat_eq, nat_le}
use Rattle.std.specs.List.{list_any}
use Rattle.dv_model.specs.declared.types.Body.{Body}
use Rattle.dv_model.specs.declared.types.Body.TheVariants.{Append, Expunge, ExpungeGuid, FlagUpdate, KeywordReset, KeywordUpdate}
use Rattle.dv_model.specs.declared.types.Mailbox.{Mailbox}
use Rattle.dv_model.specs.declared.types.Record.{Record}
use Rattle.dv_model.specs.Effects.{after_record, is_in_guid_rows, is_in_pairs}
use Rattle.dv_model.specs.Fresh.{shown_of}

-- a row or a range of the record has the UID; records of extensions, of the header and of other types name none
abbrev pub names_uid : Body → ℕ → Bool
names_uid (Append rows) uid = list_any (λ row. nat_eq row.uid uid) rows
names_uid (Expunge pairs) uid = is_in_pairs pairs uid
names_uid (ExpungeGuid rows) uid = is_in_guid_rows rows uid
names_uid (FlagUpdate changes) uid = list_any (λ change. nat_le change.first uid && nat_le uid change.last) changes
names_uid (KeywordUpdate how name pairs) uid = is_in_pairs pairs uid
names_uid (KeywordReset pairs) uid = is_in_pairs pairs uid
names_uid body uid = false

-- what is shown of a row that the record doesn't name is as before it, also that there is none
abbrev pub OnlyNamed : Type 0
OnlyNamed = (m n : Mailbox) (r : Record) (uid : ℕ) → after_record m r ≡ Some n → names_uid r.body uid ≡ false → shown_of m uid ≡ shown_of n uid
