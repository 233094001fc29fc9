-- What the program does by its words.
use Rattle.std.specs.Prelude.{◌≡◌, ◌⊎◌, ◌≤◌, ℕ, true, false, List, Option, None, Result, Ok, Err, ⊤}
use Rattle.dv_model.specs.Counts.{Rose}
use Rattle.dv_shelf.specs.Streams.{Appends, AppendsFront}
use Rattle.dv_shelf.specs.Sees.{SeesOutput}
use Rattle.dv_notices.specs.Tellings.{told_text}
use Rattle.dv_notices.specs.declared.telling.Told.{Told}
use Rattle.dv_notices.specs.declared.telling.Told.TheVariants as telling
use Rattle.dv_cli.specs.declared.words.Task.{Task}
use Rattle.dv_cli.specs.Told.{IsToldBy}
use Rattle.dv_cli.specs.Running.{memory_text, usage_text}
use Rattle.dv_cli.specs.Words.{Prints}
use Rattle.dv_program.specs.declared.program.TheConstants.{HELP, HELP_WORD, USAGE, VERSION, VERSION_WORD}
use Rattle.dv_program.specs.Forms.{task_by}
use Rattle.dv_program.specs.Words.{asks_for, run_words}

-- want of memory
abbrev pub IsMemory : {A E : Type 0} → Result A E → Type 0
IsMemory (Ok x) = ⊥
IsMemory (Err e) = ⊤

-- the text is told, or a front of it where the sink failed
abbrev pub Tells : List ℕ → List ℕ → List ℕ → ℕ → ℕ → Type 0
Tells text old new before now =
    Appends old new text ⊎ (AppendsFront old new text × Rose before now)

-- What standard error takes: at status 1 how the program is used, and else what the run tells, or
-- nothing, where memory lacks.
pub record SaysOf (told : Told) (status : ℕ) (taken taken_now : List ℕ) (before now : ℕ)
    : Type 0 where
  pub usage : status ≡ 1 → Tells USAGE.now taken taken_now before now
  pub said : Told
  pub of : (said ≡ told) ⊎ (said ≡ telling.Nothing)
  pub text : (status ≡ 1 → ⊥) → Tells (told_text said) taken taken_now before now

-- Standard error takes what the run tells by its task and status, and nothing else.
pub record TellsErrors {E : Type 0} (sees : SeesOutput E) (t : Option Task) (status : ℕ)
    (old new : E) : Type 0 where
  pub told : Told
  pub by : IsToldBy t status told
  pub says : sees.tells → SaysOf told status (sees.taken old) (sees.taken new)
      (sees.fault_count old) (sees.fault_count new)
  pub quiet : (status ≡ 1 → ⊥) → told ≡ telling.Nothing → new ≡ old

-- the words ask neither for help nor for the version, nor for a task
pub record AskForNothing (words : List (List ℕ)) : Type 0 where
  pub help : asks_for HELP_WORD.now words ≡ false
  pub version : asks_for VERSION_WORD.now words ≡ false
  pub task : task_by (run_words words) ≡ None

-- What is printed and answered by the words: the help text, the version, or a run's last line where
-- they ask for nothing; status 1 is for such words alone, and 7 for a failed output.
pub record Obeys (words : List (List ℕ)) (status : ℕ) (told : Type 0) (taken taken_now : List ℕ)
    (before now : ℕ) : Type 0 where
  pub help : asks_for HELP_WORD.now words ≡ true → told → Prints 0 HELP.now status taken taken_now
  pub version : asks_for HELP_WORD.now words ≡ false → asks_for VERSION_WORD.now words ≡ true
      → told → Prints 0 VERSION.now status taken taken_now
  pub usage : AskForNothing words → (status ≡ 1) ⊎ (status ≡ 4) ⊎ (status ≡ 7)
  pub usage_output : AskForNothing words → told → Prints 1 usage_text status taken taken_now
      ⊎ Prints 4 memory_text status taken taken_now
  pub usage_only : status ≡ 1 → AskForNothing words
  pub sink : status ≡ 7 → Rose before now
  pub small : status ≤ 7
