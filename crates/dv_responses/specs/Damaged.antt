-- The messages that a command reads and that are damaged.
use Rattle.std.specs.Prelude.{◌≡◌, ℕ, ◌&&◌, List, [], filter, if◌then◌else◌}
use Rattle.dv_model.specs.declared.types.Command.{Command}
use Rattle.dv_model.specs.declared.types.Mailbox.{Mailbox}
use Rattle.dv_model.specs.declared.types.Reply.{Reply}
use Rattle.dv_model.specs.Journals.{Mail}
use Rattle.dv_model.specs.Sessions.{data_of, has_uid, is_damaged, reads_mail, uids_looked_at}
use Rattle.dv_model.specs.Views.{View}

-- the UIDs that the mailbox has and whose files are missing or damaged, of those that the command looks at
abbrev pub damaged_uids : (ℕ → Mail) → Command → View → Mailbox → List ℕ
damaged_uids mail c view m = if reads_mail c then filter (λ uid. has_uid m uid && is_damaged (mail uid)) (uids_looked_at c view) else []

-- The data lines of a command were taken, where `with` says what is there with more replies, and these
-- are the UIDs of the damaged messages among those that it reads.
abbrev pub IsRead : {R : Type 0} → (R → List Reply → R) → R → R → (ℕ → Mail) → Command → View → Mailbox → List ℕ → Type 0
IsRead with old new mail c view m damaged = (new ≡ with old (data_of mail c view m)) × (damaged ≡ damaged_uids mail c view m)
