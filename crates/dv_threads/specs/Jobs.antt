-- Jobs by the parts of a script: before their run, behind it, and when they are handed in.
use Rattle.std.specs.Prelude.{◌≡◌, ◌⊎◌, ◌<◌, ◌≤◌, ◌+◌, ℕ, Bool, true, false, List, [], ◌∷◌, length, map, ⊤}
use Rattle.dv_model.specs.declared.types.Command.{Command}
use Rattle.dv_model.specs.declared.types.Mark.{Mark}
use Rattle.dv_model.specs.declared.types.Reply.{Reply}
use Rattle.dv_model.specs.Counts.{Rose}
use Rattle.dv_model.specs.Journals.{Log}
use Rattle.dv_shelf.specs.Streams.{Appends, AppendsFront}
use Rattle.dv_serving.specs.Outputs.{Output}
use Rattle.dv_parts.specs.declared.parts.Part.{Part}
use Rattle.dv_parts.specs.Interleaving.{commands_by_part}
use Rattle.dv_parts.specs.Texts.{transcript_text, transcripts_text}
use Rattle.dv_member.specs.Members.{Member}
use Rattle.dv_runner.specs.Works.{IsReady, Work}
use Rattle.dv_threads.specs.declared.ending.ThreadsEnd.{ThreadsEnd}
use Rattle.dv_threads.specs.declared.ending.ThreadsEnd.TheVariants as ending
use Rattle.dv_threads.specs.Sessions.{HasTold, HaveTold}

-- ---- before the run

-- the job of a part, by the session of this number
pub record IsJobOf (start : Log) (number : ℕ) (p : Part) (j : Work) : Type 0 where
  pub ready : IsReady start j
  pub number_is : j.session.number ≡ number
  pub commands : j.commands ≡ p.commands
  pub name : j.replies.session ≡ p.name

-- one for each, by the numbers from this one on
abbrev pub AreJobsOf : Log → ℕ → List Part → List Work → Type 0
AreJobsOf start first [] [] = ⊤
AreJobsOf start first (p ∷ parts) (j ∷ jobs) =
    IsJobOf start first p j × AreJobsOf start (first + 1) parts jobs
AreJobsOf start first parts jobs = ⊥

-- ---- behind it

-- all commands were answered where a job is whole, and else fewer
abbrev pub AnsweredAs : Bool → ℕ → ℕ → Type 0
AnsweredAs true answered asked = answered ≡ asked
AnsweredAs false answered asked = answered < asked

-- the job of a part has told so
pub record HasServed (start : Log) (count number : ℕ) (p : Part) (j : Work) : Type 0 where
  pub replies : List (List Reply)
  pub told : HasTold start count number p.commands replies j.session
  pub text : j.replies.text ≡ transcript_text p.name replies
  pub whole : AnsweredAs j.whole (length replies) (length p.commands)

abbrev pub HaveServed : Log → ℕ → Type 0 → ℕ → List Part → List Work → Type 0
HaveServed start count honest first [] [] = ⊤
HaveServed start count honest first (p ∷ parts) (j ∷ jobs) =
    (honest → HasServed start count first p j)
    × HaveServed start count honest (first + 1) parts jobs
HaveServed start count honest first parts jobs = ⊥

-- ---- handed in

-- of these commands so many were answered: all, or fewer of some session
abbrev pub AreWhole : List (List Command) → List (List (List Reply)) → Type 0
AreWhole [] [] = ⊤
AreWhole (ask ∷ asks) (told ∷ replies) = (length told ≡ length ask) × AreWhole asks replies
AreWhole asks replies = ⊥

abbrev pub AreShort : List (List Command) → List (List (List Reply)) → Type 0
AreShort (ask ∷ asks) (told ∷ replies) = (length told < length ask) ⊎ AreShort asks replies
AreShort asks replies = ⊥

abbrev pub AllAnsweredAs : Bool → List (List Command) → List (List (List Reply)) → Type 0
AllAnsweredAs true asks replies = AreWhole asks replies
AllAnsweredAs false asks replies = AreShort asks replies

-- this text was written, or a front of it where the output failed
abbrev pub WritesText : Bool → List ℕ → List ℕ → List ℕ → Type 0
WritesText false text old new = Appends old new text
WritesText true text old new = AppendsFront old new text

-- the text of more was written, unless the output had failed
abbrev pub WritesMore : Bool → Bool → List ℕ → List ℕ → List ℕ → Type 0
WritesMore true failed text old new = (failed ≡ true) × (new ≡ old)
WritesMore false failed text old new = WritesText failed text old new

-- what was told by the sessions of these parts, and written
pub record HasHanded (start : Log) (count : ℕ) (parts : List Part) (sessions : List Member)
    (whole failed : Bool) (out : Output) : Type 0 where
  pub replies : List (List (List Reply))
  pub told : HaveTold start count 1 (commands_by_part parts) replies sessions
  pub answered : AllAnsweredAs whole (commands_by_part parts) replies
  pub output : out.told
      → WritesText failed (transcripts_text (map (λ (p : Part). p.name) parts) replies) out.taken
      out.taken_now

pub record HandsIn (start : Log) (count : ℕ) (honest : Type 0) (parts : List Part)
    (sessions : List Member) (whole failed : Bool) (out : Output) : Type 0 where
  pub many : length sessions ≡ length parts
  pub handed : honest → HasHanded start count parts sessions whole failed out

-- ---- causes

-- an output that failed has a count that rose
abbrev pub FailsSo : Bool → ℕ → ℕ → Type 0
FailsSo true before now = Rose before now
FailsSo false before now = ⊤

-- so it has where it fails now, or had failed before
abbrev pub FailsMore : Bool → Bool → ℕ → ℕ → Type 0
FailsMore true failed before now = (failed ≡ true) × (before ≤ now)
FailsMore false failed before now = FailsSo failed before now

-- and it is told
abbrev pub IsCaused : ℕ → ℕ → ThreadsEnd → Type 0
IsCaused before now (ending.Sink faults) = Rose before now × (faults ≡ now)
IsCaused before now e = ⊤

-- the end by whether all commands were answered, and whether the output failed
abbrev pub end_of : Bool → Bool → Mark → ℕ → ℕ → ThreadsEnd
end_of whole true mark groups faults = ending.Sink faults
end_of true false mark groups faults = ending.Answered mark groups
end_of false false mark groups faults = ending.NoMemory
