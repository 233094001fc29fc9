-- What a POP3 session writes of its store's log.
use Rattle.std.specs.Prelude.{◌≡◌, ◌⊎◌, ℕ, ◌+◌, List, Some}
use Rattle.dv_model.specs.declared.types.Mailbox.{Mailbox}
use Rattle.dv_model.specs.Journals.{Log, at}
use Rattle.dv_model.specs.Transcripts.{HasWritten}
use Rattle.dv_maildrop.specs.declared.types.PopLine.{PopLine}
use Rattle.dv_maildrop.specs.Maildrops.{Transaction}
use Rattle.dv_member.specs.Members.{Member, log_seen}
use Rattle.dv_pop3.specs.declared.lines.LinesEnd.{LinesEnd}
use Rattle.dv_pop3.specs.Clients.{Client}
use Rattle.dv_pop3.specs.Exchanges.{AnswersLines}
use Rattle.dv_pop3.specs.Findings.{removal_of}

-- one entry of the log by the session: the group of UID REMOVE of the marked messages, over the
-- mailbox that it met
pub record IsEntry (start : Log) (m : Transaction) (old new : Member) : Type 0 where
  pub met : ℕ
  pub mailbox : Mailbox
  pub was_there : at (log_seen start new) met ≡ Some mailbox
  pub written : HasWritten (log_seen start new) old.number met (met + 1) old.follower.state.view
      (removal_of m) mailbox
  pub wrote : new.wrote ≡ old.wrote + 1

-- it is that of the messages that the session had marked of those that it had listed
pub record WritesMarked (start : Log) (first last : Client) : Type 0 where
  pub maildrop : Transaction
  pub rows : maildrop.rows ≡ first.maildrop.rows
  pub session : Member
  pub number : session.number ≡ first.session.number
  pub wrote : session.wrote ≡ first.session.wrote
  pub entry : IsEntry start maildrop session last.session

-- A session writes nothing, or one entry by its QUIT, behind which it is given no line.
abbrev pub WritesOnce : Log → Client → Client → Type 0
WritesOnce start first last =
    (last.session.wrote ≡ first.session.wrote) ⊎ WritesMarked start first last

abbrev pub SessionsWriteOnce : Type 0
SessionsWriteOnce = (start : Log) (count : ℕ) (first last : Client) (lines : List PopLine)
    (e : LinesEnd) → AnswersLines start count first last lines e → WritesOnce start first last
