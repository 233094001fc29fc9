-- What contracts see of a job.
use Rattle.std.specs.Prelude.{◌≡◌, Bool, List, [], All}
use Rattle.dv_model.specs.declared.types.Command.{Command}
use Rattle.dv_model.specs.Journals.{Log}
use Rattle.dv_texts.specs.Lines.{Lines}
use Rattle.dv_member.specs.Members.{Member}
use Rattle.dv_serving.specs.Servable.{IsServable}
use Rattle.dv_keeper.specs.Sessions.{IsNewSession}

-- a session with its commands, its name with the text of its replies so far, and whether all
-- commands were answered
pub record Work : Type 0 where
  pub session : Member
  pub commands : List Command
  pub replies : Lines
  pub whole : Bool

abbrev pub work_of : Member → List Command → Lines → Bool → Work
work_of s commands lines whole =
    record { session = s; commands = commands; replies = lines; whole = whole }

-- before its run: its session was just made, and nothing is answered
pub record IsReady (start : Log) (j : Work) : Type 0 where
  pub new : IsNewSession start j.session.number j.session
  pub nothing : j.replies.text ≡ []
  pub servable : All IsServable j.commands
