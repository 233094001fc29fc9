-- The messages that a command changes, and what is said of them in its records.
use Rattle.std.specs.Prelude.{ℕ, Bool, true, false, List, [], ◌∷◌, map, if◌then◌else◌}
use Rattle.dv_model.specs.declared.types.Body.TheVariants as body
use Rattle.dv_model.specs.declared.types.Change.{Change}
use Rattle.dv_model.specs.declared.types.Command.{Command}
use Rattle.dv_model.specs.declared.types.Command.TheVariants as command
use Rattle.dv_model.specs.declared.types.GuidRow.{GuidRow}
use Rattle.dv_model.specs.declared.types.Mailbox.{Mailbox}
use Rattle.dv_model.specs.declared.types.Pair.{Pair}
use Rattle.dv_model.specs.declared.types.Record.{Record}
use Rattle.dv_model.specs.Sessions.{deleted_uids, external_record, removed_uids, stored_uids}
use Rattle.dv_model.specs.Views.{View}

-- flags are changed of the messages of a range
abbrev pub change_of : ℕ → ℕ → Pair → Change
change_of add remove pair = record { first = pair.first; last = pair.last; add = add; remove = remove }

-- a message is added
abbrev pub append_of : ℕ → ℕ → Record
append_of uid flags = external_record (body.Append (record { uid = uid; flags = flags } ∷ []))

-- the UIDs of the messages that a command changes or removes
abbrev pub changed_uids : Command → View → Mailbox → List ℕ
changed_uids (command.Store by_uid set h flags keywords since) view m = stored_uids by_uid set since view m
changed_uids command.Expunge view m = deleted_uids m
changed_uids (command.UidRemove set) view m = removed_uids set view m
changed_uids c view m = []

-- it removes messages
abbrev pub removes : Command → Bool
removes command.Expunge = true
removes (command.UidRemove set) = true
removes c = false

-- the UIDs of the messages that it removes
abbrev pub expunged_uids : Command → View → Mailbox → List ℕ
expunged_uids c view m = if removes c then changed_uids c view m else []

-- each UID with its GUID
abbrev pub guid_rows : (ℕ → List ℕ) → List ℕ → List GuidRow
guid_rows guid uids = map (λ uid. record { uid = uid; guid = guid uid }) uids
