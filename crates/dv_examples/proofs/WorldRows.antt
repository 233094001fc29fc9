-- Sessions whose steps come one by one, and the words by which they tell each other of a group.
use Rattle.std.specs.Prelude.{◌≡◌, refl, ℕ, List, [], ◌∷◌, None, Some, option_map, is_some, codes, false, true}
use Rattle.dv_model.specs.declared.types.Command.{Command}
use Rattle.dv_model.specs.declared.types.Command.TheVariants as command
use Rattle.dv_model.specs.declared.types.End.TheVariants.{Number}
use Rattle.dv_model.specs.declared.types.Item.TheVariants as item
use Rattle.dv_model.specs.declared.types.Mark.{Mark}
use Rattle.dv_model.specs.declared.types.Reply.{Reply}
use Rattle.dv_model.specs.declared.types.Reply.TheVariants as reply
use Rattle.dv_model.specs.declared.types.Value.TheVariants as value
use Rattle.dv_model.specs.declared.types.Word.TheVariants as word
use Rattle.dv_model.specs.Mailboxes.{empty_mailbox}
use Rattle.dv_model.specs.Sessions.{group_of}
use Rattle.dv_model.specs.Views.{empty_view}
use Rattle.dv_formats.specs.Feeds.{feed_text}
use Rattle.dv_interleavings.specs.Worlds.{World, Event, Open, Write, Sync, Publish, Load, Tell, Crash, all_happen, happens, new_world, length_of}
use Rattle.dv_interleavings.specs.Promises.{replies_of}

abbrev created : World
created = new_world (record (empty_mailbox 1000) { highest = 2 }) 1000 (record { file_seq = 1; offset = 56 }) []

abbrev append : Command
append = command.Append 4 [] (codes "hi")

abbrev fetch : Command
fetch = command.Fetch false (record { from = Number 1; to = Number 1 } ∷ []) (item.Flags ∷ [])

-- one session appends and expunges a message that another was shown
abbrev events : List Event
events =
    Open 1 ∷ Tell 1 command.Select ∷ Write 1 append 1000 ∷ Sync ∷ Publish ∷ Load 1 ∷ Tell 1 append
    ∷ Open 2 ∷ Tell 2 command.Select
    ∷ Write 1 command.Expunge 1000 ∷ Sync ∷ Publish ∷ Load 1 ∷ Tell 1 command.Expunge
    ∷ Load 2 ∷ Tell 2 fetch ∷ Tell 2 command.Noop ∷ []

abbrev world : World
world = all_happen created events

abbrev mark : ℕ → Mark
mark offset = record { file_seq = 1; offset = offset }

abbrev seen_as : ℕ → Reply
seen_as flags = reply.Fetch 1 1 (value.Flags flags [] ∷ [])

first_session : option_map replies_of (world.sessions 1)
    ≡ Some (
    (reply.Exists 0 ∷ reply.Validity 1000 ∷ reply.NextUid 1 ∷ reply.Done word.Select (mark 56) None [] ∷ [])
    ∷ (reply.Exists 1 ∷ seen_as 4 ∷ reply.Done word.Append (mark 72) (Some (1000, 1)) [] ∷ [])
    ∷ (reply.Expunge 1 ∷ reply.Done word.Expunge (mark 100) None [] ∷ [])
    ∷ []
    )
first_session = refl

-- the FETCH keeps the number, and NOOP tells of the expunge
second_session : option_map replies_of (world.sessions 2)
    ≡ Some (
    (reply.Exists 1 ∷ reply.Validity 1000 ∷ reply.NextUid 2 ∷ seen_as 4 ∷ reply.Done word.Select (mark 72) None [] ∷ [])
    ∷ (seen_as 4 ∷ reply.Done word.Fetch (mark 100) None [] ∷ [])
    ∷ (reply.Expunge 1 ∷ reply.Done word.Noop (mark 100) None [] ∷ [])
    ∷ []
    )
second_session = refl

-- ---- crashes while a further append is pending

abbrev pending : World
pending = happens world (Write 1 append 1000)

crash_without : length_of (happens pending (Crash 2)) ≡ 2
crash_without = refl

crash_with : length_of (happens pending (Crash 3)) ≡ 3
crash_with = refl

-- a durable entry can't be lost
no_crash : (length_of (happens pending (Crash 1)) ≡ 2) × (is_some (happens pending (Crash 1)).pending ≡ true)
no_crash = (refl, refl)

-- ---- words

feed_words : feed_text (record { author = 1; group = group_of (command.Append 0 [] (codes "hello")) empty_view (empty_mailbox 1000) (λ uid. []) } ∷ [])
    ≡ 1 ∷ 4 ∷ 0x84808080 ∷ 0x10000002 ∷ 1 ∷ 0 ∷ []
feed_words = refl
