-- A group that is made ready over a live mailbox.
use Rattle.std.specs.Prelude.{◌≡◌, ◌≤◌, ℕ, List, ◌++◌, length, Some}
use Rattle.dv_model.specs.declared.types.Command.{Command}
use Rattle.dv_model.specs.declared.types.Group.{Group}
use Rattle.dv_model.specs.declared.types.GuidRow.{GuidRow}
use Rattle.dv_model.specs.declared.types.Mailbox.{Mailbox}
use Rattle.dv_model.specs.Effects.{applied}
use Rattle.dv_model.specs.Journals.{IsGuid}
use Rattle.dv_model.specs.Sessions.{group_of}
use Rattle.dv_model.specs.Spelling.{group_text}
use Rattle.dv_model.specs.Views.{View}
use Rattle.dv_logfile.specs.Layout.{Spelled, closing}
use Rattle.dv_apply.specs.Preparing.{Makes}
use Rattle.dv_apply.specs.States.{Held}
use Rattle.dv_groups.specs.Changes.{changed_uids, expunged_uids, guid_rows}
use Rattle.dv_groups.specs.Groups.{IsWrite}
use Rattle.dv_plans.specs.declared.groups.Written.{Written}

-- what a command changes was found, from some view and with some GUIDs, and its group has records
pub record AreFound (c : Command) (m : Mailbox) (uids : List ℕ) (rows : List GuidRow) : Type 0 where
  pub view : View
  pub guid : ℕ → List ℕ
  pub write : IsWrite c m guid
  pub some : 1 ≤ length (group_of c view m guid).records
  pub changed : uids ≡ changed_uids c view m
  pub removed : rows ≡ guid_rows guid (expunged_uids c view m)

-- the group is a command's over a mailbox, with some GUIDs
pub record IsGroupOf (c : Command) (view : View) (m : Mailbox) (group : Group) : Type 0 where
  pub guid : ℕ → List ℕ
  pub guids : (uid : ℕ) → IsGuid (guid uid)
  pub is : group ≡ group_of c view m guid

-- the group has its text, and the mailbox with it is prepared
pub record IsGroupReady (live : Held) (written : Written) : Type 0 where
  pub some : 1 ≤ length written.group.records
  pub text : written.text ≡ group_text written.group ++ closing
  pub spelled : Spelled written.group.records written.text closing
  pub after : Mailbox
  pub gives : applied live.mailbox written.group.records ≡ Some after
  pub makes : Makes live written.prepared after
