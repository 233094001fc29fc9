-- What a whole POP3 session leaves and writes, from the greeting on.
use Rattle.std.specs.Prelude.{◌≡◌, ℕ, List, Result, Ok, Err, ⊤}
use mathlib.Core.List.{IsPrefix}
use Rattle.dv_model.specs.Journals.{Log}
use Rattle.dv_serving.specs.Outputs.{Output}
use Rattle.dv_maildrop.specs.declared.types.PopLine.{PopLine}
use Rattle.dv_maildrop.specs.Answers.{greeting}
use Rattle.dv_member.specs.Members.{Member, notes_of}
use Rattle.dv_pop3.specs.declared.lines.LinesEnd.{LinesEnd}
use Rattle.dv_pop3.specs.declared.entering.PopFault.{PopFault}
use Rattle.dv_pop3.specs.Clients.{Client}
use Rattle.dv_pop3.specs.Exchanges.{HasAnsweredLines, IsCaused}
use Rattle.dv_pop3.specs.Logins.{HasListed, IsUnlisted}

-- Its lines are answered behind the greeting, which has neither a number of messages nor octets.
pub record HasSpoken (start : Log) (count : ℕ) (first : Client) (new : Member)
    (lines : List PopLine) (e : LinesEnd) (out : Output) : Type 0 where
  pub last : Client
  pub answers : HasAnsweredLines start count greeting first last lines e out
  pub session : last.session ≡ new
  pub begins : IsPrefix (notes_of first.session) (notes_of new)

-- It lists the mailbox first.
pub record HasConversed (start : Log) (count : ℕ) (old new : Member) (lines : List PopLine)
    (e : LinesEnd) (out : Output) : Type 0 where
  pub first : Client
  pub listed : HasListed start first.maildrop old first.session
  pub spoken : HasSpoken start count first new lines e out

-- Where it isn't listed, there is no greeting, and nothing is written.
abbrev pub HasServed : Log → ℕ → Member → Member → List PopLine → Result LinesEnd PopFault → Output
    → Type 0
HasServed start count old new lines (Ok e) out = HasConversed start count old new lines e out
HasServed start count old new lines (Err fault) out =
    IsUnlisted count fault old new × (out.told → out.taken_now ≡ out.taken)

-- an output that failed has its cause
abbrev pub IsCausedBy : ℕ → ℕ → Result LinesEnd PopFault → Type 0
IsCausedBy before now (Ok e) = IsCaused before now e
IsCausedBy before now (Err fault) = ⊤
