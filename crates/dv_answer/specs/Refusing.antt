-- What a session refuses by itself (RFC 3501, section 7.1.3, BAD).
use Rattle.std.specs.Prelude.{◌&&◌, not, Option, Some, option_map, if◌then◌else◌}
use Rattle.dv_model.specs.declared.types.Command.{Command}
use Rattle.dv_model.specs.declared.types.Reply.{Reply}
use Rattle.dv_model.specs.declared.types.Reply.TheVariants as reply
use Rattle.dv_model.specs.Sessions.{State, is_select, missing_number}

-- the one line of a command before SELECT, or of one that names a message number that the view lacks
abbrev pub own_refusal : State → Command → Option Reply
own_refusal x c =
    if not x.selected && not (is_select c) then Some reply.NotSelected
    else option_map (λ n. reply.NoMessage n) (missing_number c x.view)
