-- What a command takes from the mailbox that it meets, before it writes.
use Rattle.std.specs.Prelude.{Some, None, if◌then◌else◌}
use Rattle.dv_model.specs.declared.types.Command.{Command}
use Rattle.dv_model.specs.declared.types.Mailbox.{Mailbox}
use Rattle.dv_model.specs.Sessions.{is_append, modified_of}
use Rattle.dv_model.specs.Views.{View}
use Rattle.dv_responses.specs.declared.meeting.Met.{Met}

-- an APPEND takes the UIDNEXT (RFC 4315, section 3), and UNCHANGEDSINCE keeps messages (RFC 7162, section 3.1.3)
abbrev pub met_of : Command → View → Mailbox → Met
met_of c view m = record { appended = if is_append c then Some m.next_uid else None; modified = modified_of c view m }
