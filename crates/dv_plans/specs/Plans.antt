-- The plan of a command's write.
use Rattle.std.specs.Prelude.{◌≡◌, ◌≤◌, ℕ, true, is_some, List, ◌++◌, length, Option, Some, IfSome, Result, Ok, ⊤}
use Rattle.dv_model.specs.declared.types.Command.{Command}
use Rattle.dv_model.specs.declared.types.Mailbox.{Mailbox}
use Rattle.dv_model.specs.Effects.{applied}
use Rattle.dv_model.specs.Journals.{IsEntry, IsGuid, IsU32, Log}
use Rattle.dv_model.specs.Sessions.{is_append}
use Rattle.dv_model.specs.Spelling.{group_text}
use Rattle.dv_model.specs.Views.{View}
use Rattle.dv_shelf.specs.Folders.{Folder}
use Rattle.dv_logfile.specs.Layout.{closing}
use Rattle.dv_chain.specs.declared.chain.Chain.{Chain}
use Rattle.dv_chain.specs.Rest.{IsPending}
use Rattle.dv_groups.specs.Groups.{HasSizes}
use Rattle.dv_writing.specs.Keeping.{Keeps}
use Rattle.dv_files.specs.declared.texts.Turn.{Turn}
use Rattle.dv_files.specs.Texts.{next_log}
use Rattle.dv_writing.specs.Steps.{AreSteps}
use Rattle.dv_writing.specs.Ways.{ready}
use Rattle.dv_writing.specs.Writes.{IsWriteOf, Write, group_by}
use Rattle.dv_plans.specs.declared.fault.StoreFault.{StoreFault}
use Rattle.dv_plans.specs.declared.plan.Plan.{Plan}
use Rattle.dv_plans.specs.Begins.{turns}
use Rattle.dv_plans.specs.Files.{AreFilesMade}
use Rattle.dv_plans.specs.Overs.{group_over}

-- The plan has the command's group over the chain's mailbox, with some GUIDs, which is an entry,
-- its written text, which is as long whatever they are, and steps that are ready for the chain.
pub record IsPlanOf (c : Command) (view : View) (owed : Option Turn) (chain : Chain) (plan : Plan)
    : Type 0 where
  pub guid : ℕ → List ℕ
  pub guids : (uid : ℕ) → IsGuid (guid uid)
  pub group : plan.group ≡ group_over c view chain guid
  pub text : plan.text ≡ group_text plan.group ++ closing
  pub size : (other : ℕ → List ℕ) → HasSizes other
      → length (group_text plan.group) ≡ length (group_text (group_over c view chain other))
  pub steps : AreSteps owed chain plan.text plan.steps
  pub turn : is_some plan.steps.turn ≡ turns owed chain
  pub some : 1 ≤ length plan.group.records
  pub entry : (author : ℕ) → IsU32 author
      → IsEntry (record { author = author; group = plan.group })
  pub after : Mailbox
  pub gives : applied chain.live.mailbox plan.group.records ≡ Some after
  pub pending : IsPending plan.text after (ready owed plan.steps.turn chain)

-- it is the plan of a write over a log, with the log's GUIDs
pub record PlansWrite (log : Log) (write : Write) (owed : Option Turn) (chain : Chain)
    (folder : Folder) (plan : Plan) : Type 0 where
  pub group : plan.group ≡ group_by log write chain.live.mailbox
  pub is : IsWriteOf log write owed chain folder plan.text plan.steps

-- so it is for each log of the chain's index whose messages the folder has, and any author
abbrev pub PlansEach : Command → View → Option Turn → ℕ → Chain → Folder → Plan → Type 0
PlansEach c view owed received chain folder plan = (log : Log) (author : ℕ)
    → log.indexid ≡ chain.indexid
    → Keeps log chain.live.mailbox folder
    → PlansWrite log
    (record { author = author; command = c; view = view; received = received })
    owed chain folder plan

-- and the files are those of a message that is received at this reading, as the plan says
pub record PlansAt (c : Command) (view : View) (owed : Option Turn) (chain next : Chain)
    (folder behind : Folder) (plan : Plan) (received : ℕ) : Type 0 where
  pub each : PlansEach c view owed received next behind plan
  pub files : AreFilesMade chain received folder c plan.steps.files
  pub came : is_append c ≡ true → plan.received ≡ received

-- the new log of its rotation is made at this reading
abbrev pub TurnsAt : Chain → ℕ → Plan → Type 0
TurnsAt chain reading plan =
    IfSome plan.steps.turn (λ turn. turn.new ≡ next_log chain reading)

-- what is made ready
abbrev pub OnPlan : {A : Type 0} → Result (Option A) StoreFault → (A → Type 0) → Type 0
OnPlan (Ok (Some plan)) P = P plan
OnPlan r P = ⊤
