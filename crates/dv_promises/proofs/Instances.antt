-- A worked instance: two sessions, one of which expunges what the other was shown.
use Rattle.std.proofs.Common.{◌≡◌, List, [], ◌∷◌, Some, refl, arith}
use Rattle.std.specs.Prelude.{All, codes, option_map}
use Rattle.std.proofs.lemmas.List.Elements.{All-from_recursion, All-nil}
use Rattle.dv_model.specs.declared.types.Command.{Command}
use Rattle.dv_model.specs.declared.types.Command.TheVariants as command
use Rattle.dv_model.specs.declared.types.Mailbox.{Mailbox}
use Rattle.dv_model.specs.Mailboxes.{empty_mailbox}
use Rattle.dv_validity.proofs.Beginnings.{begun_valid}
use Rattle.dv_model.specs.Names.{IsName}
use Rattle.dv_interleavings.specs.Promises.{CrashKeeps, Holds}
use Rattle.dv_interleavings.specs.Worlds.{World, Session, Event, Open, Write, Sync, Publish, Load, Tell, all_happen, new_world, length_of}
use Rattle.dv_promises.specs.Standing.{IsGoodEvent, IsStart, Stands}
use Rattle.dv_promises.proofs.Crashing.{crash_keeps}
use Rattle.dv_promises.proofs.Ending.{all_keep, begins}
use Rattle.dv_promises.proofs.Holding.{holds}

abbrev start : Mailbox
start = record (empty_mailbox 1000) { highest = 2 }

abbrev append : Command
append = command.Append 4 [] (codes "hi")

-- the second session is told of the message, and of its expunge only after its FETCH
abbrev events : List Event
events =
    Open 1 ∷ Tell 1 command.Select ∷ Write 1 append 1000 ∷ Sync ∷ Publish ∷ Load 1 ∷ Tell 1 append
    ∷ Open 2 ∷ Tell 2 command.Select
    ∷ Write 1 command.Expunge 1000 ∷ Sync ∷ Publish ∷ Load 1 ∷ Tell 1 command.Expunge
    ∷ Load 2 ∷ Tell 2 command.Noop
    ∷ Write 2 append 1000 ∷ []

are_good : All IsGoodEvent events
are_good = All-from_recursion IsGoodEvent events (tt, (tt, ((omega arith, (omega arith, All-nil IsName)), (tt, (tt, (tt, (tt, (tt, (tt, ((omega arith, tt), (tt, (tt, (tt, (tt, (tt, (tt, ((omega arith, (omega arith, All-nil IsName)), tt)))))))))))))))))

is_start : IsStart start 1000 (record { file_seq = 1; offset = 56 }) []
is_start = record { mailbox = (begun_valid 1000 2 (omega arith) (omega arith), All-nil _); numbers = (omega arith, omega arith, omega arith); guids = All-nil _ }

abbrev first : World
first = new_world start 1000 (record { file_seq = 1; offset = 56 }) []

stands : Stands (all_happen first events)
stands = all_keep first events (begins start 1000 (record { file_seq = 1; offset = 56 }) [] is_start) are_good

promises : Holds (all_happen first events)
promises = holds (all_happen first events) stands

-- the entry that is pending may be there after a crash
with_pending : CrashKeeps (all_happen first events) 3
with_pending = crash_keeps (all_happen first events) 3 stands

places : (length_of (all_happen first events) ≡ 2) × (option_map (λ (s : Session). s.state.told) ((all_happen first events).sessions 2) ≡ Some 2)
places = (refl, refl)
