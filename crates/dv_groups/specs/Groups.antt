-- When the group of a command is one that may be written.
use Rattle.std.specs.Prelude.{◌≡◌, ℕ, ◌-◌, ◌^◌, ◌<◌, ◌≤◌, List, length}
use Rattle.dv_model.specs.declared.types.Command.{Command}
use Rattle.dv_model.specs.declared.types.Command.TheVariants as command
use Rattle.dv_model.specs.declared.types.Mailbox.{Mailbox}
use Rattle.dv_model.specs.Journals.{HasResets, IsGuid}
use Rattle.dv_model.specs.Mailboxes.{IsValid}
use Rattle.dv_model.specs.Sessions.{IsCommand, group_of}
use Rattle.dv_model.specs.Spelling.{group_text}
use Rattle.dv_model.specs.Views.{View}
use Rattle.dv_validity.specs.Entries.{HasUidLeft}
use Rattle.dv_view.specs.Orders.{IsOrdered}

-- each GUID has its 16 bytes
abbrev pub HasSizes : (ℕ → List ℕ) → Type 0
HasSizes guid = (uid : ℕ) → length (guid uid) ≡ 16

-- a command of its type, over a valid mailbox with reset numbers of 32 bits and a UID left for it, and GUIDs
pub record IsWrite (c : Command) (m : Mailbox) (guid : ℕ → List ℕ) : Type 0 where
  pub command : IsCommand c
  pub valid : IsValid m
  pub resets : HasResets m
  pub left : HasUidLeft c m
  pub guids : (uid : ℕ) → IsGuid (guid uid)

-- at most 2^26 keywords, more than a script has room for
abbrev pub HasFewKeywords : Command → Type 0
HasFewKeywords (command.Append flags keywords message) = length keywords ≤ 2 ^ 26
HasFewKeywords (command.Store by_uid set h flags keywords since) = length keywords ≤ 2 ^ 26
HasFewKeywords c = Unit {0}

-- the length of such a command's group is a number of 64 bits, and not the largest
abbrev pub GroupIsShort : Type 0
GroupIsShort = (c : Command) (view : View) (m : Mailbox) (guid : ℕ → List ℕ) → IsCommand c → HasFewKeywords c → IsOrdered view → IsValid m → HasSizes guid
    → length (group_text (group_of c view m guid)) < 2 ^ 64 - 1
