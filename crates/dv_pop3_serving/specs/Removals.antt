-- What one POP3 session writes of a log that it has for itself.
use Rattle.std.specs.Prelude.{◌≡◌, ◌⊎◌, ℕ, List, [], ◌∷◌, Result, Ok, Err}
use Rattle.dv_model.specs.Journals.{Log}
use Rattle.dv_model.specs.Sessions.{group_of}
use Rattle.dv_model.specs.Views.{View}
use Rattle.dv_serving.specs.Outputs.{Output}
use Rattle.dv_maildrop.specs.declared.types.Listed.{Listed}
use Rattle.dv_maildrop.specs.declared.types.PopLine.{PopLine}
use Rattle.dv_maildrop.specs.Maildrops.{Transaction}
use Rattle.dv_member.specs.Members.{Member}
use Rattle.dv_pop3.specs.declared.entering.PopFault.{PopFault}
use Rattle.dv_pop3.specs.declared.lines.LinesEnd.{LinesEnd}
use Rattle.dv_pop3.specs.Findings.{removal_of}
use Rattle.dv_pop3.specs.Servings.{HasServed}

-- the log has one entry, the group of UID REMOVE of the messages that were marked of these
pub record HasRemoval (log : Log) (rows : List Listed) : Type 0 where
  pub maildrop : Transaction
  pub rows_are : maildrop.rows ≡ rows
  pub view : View
  pub entries : log.entries ≡ record {
    author = 1;
    group = group_of (removal_of maildrop) view log.start log.guid;
  } ∷ []

-- it has none, or that of messages that the session had listed
abbrev pub WritesOnly : (start : Log) (count : ℕ) (old new : Member) (lines : List PopLine)
    (out : Output) (came : Result LinesEnd PopFault)
    → HasServed start count old new lines came out → Log → Type 0
WritesOnly start count old new lines out (Ok e) served log =
    (log.entries ≡ []) ⊎ HasRemoval log served.first.maildrop.rows
WritesOnly start count old new lines out (Err fault) served log = log.entries ≡ []
