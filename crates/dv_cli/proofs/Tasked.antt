-- What a task answers, by its kind.
use Rattle.std.proofs.Common.{◌≡◌, ◌⊎◌, inl, inr, ⊎_elim, ◌∙◌, ℕ, Bool, List, [], ◌∷◌, Result, ap, refl, subst, sym}
use Rattle.std.specs.Prelude.{None, Option, Some, if◌then◌else◌, option_map}
use Rattle.dv_model.specs.declared.types.Key.{Key}
use Rattle.dv_formats.specs.Parsing.{ScriptFault}
use Rattle.dv_formats.specs.Scripts.{NamedLine}
use Rattle.dv_qresync.specs.declared.types.Old.{Old}
use Rattle.dv_cli.specs.declared.words.Task.{Task}
use Rattle.dv_cli.specs.declared.words.Task.TheVariants as task
use Rattle.dv_cli.specs.declared.scripts.Reader.{Reader}
use Rattle.dv_cli.specs.declared.scripts.Reader.TheVariants as reader
use Rattle.dv_cli.specs.Tasks.{Answers, HasScript, Reaches, parsed_for, reader_of, script_task}
use Rattle.dv_cli.specs.Words.{IsResync, IsWatch, task_of}
use Rattle.dv_cli.specs.WrongWords.{EndsUsage}
use Rattle.dv_cli.specs.declared.ending.End.TheVariants as end
use Rattle.dv_watching.specs.Keys.{steady_key}

pub seen : (t : Option Task) (told : Type 0) (script : List ℕ) (lines : List NamedLine)
    (x : Option Task) → t ≡ x → Answers t told (parsed_for t script) lines
    → Answers x told (parsed_for x script) lines
seen t told script lines x is answers =
    subst (λ (y : Option Task). Answers y told (parsed_for y script) lines) is answers

-- one that answers lines comes to its folder
pub answers_reach : (t : Option Task) (told : Type 0) (read : Result (List NamedLine) ScriptFault)
    (lines : List NamedLine) → Answers t told read lines → Reaches t told read
answers_reach (Some task.Run) told read lines answers = (answers.0, lines, answers.1)
answers_reach (Some (task.Watch key)) told read lines answers = (answers.0, lines, answers.1)
answers_reach (Some (task.Generate load)) told read lines answers = tt
answers_reach (Some task.Rebuild) told read lines answers = absurd answers
answers_reach (Some (task.Resync client)) told read lines answers = absurd answers
answers_reach (Some task.Storage) told read lines answers = absurd answers
answers_reach None told read lines answers = absurd answers

-- ---- that of a client

-- it is of one client
abbrev client_in : Option Task → Old → Old
client_in (Some (task.Resync client)) other = client
client_in (Some task.Run) other = other
client_in (Some task.Rebuild) other = other
client_in (Some (task.Generate load)) other = other
client_in (Some (task.Watch key)) other = other
client_in (Some task.Storage) other = other
client_in None other = other

pub client_one : (t : Option Task) (one other : Old) → t ≡ Some (task.Resync one)
    → t ≡ Some (task.Resync other) → one ≡ other
client_one t one other is also = ap (λ (x : Option Task). client_in x one) (sym is ∙ also)

-- ---- that of a script

-- it is of one reader
reader_same : (by : Reader) → reader_of (Some (script_task by)) ≡ by
reader_same (reader.Sessions None) = refl
reader_same (reader.Sessions (Some key)) = refl
reader_same reader.Storage = refl

pub reader_one : (t : Option Task) (one other : Reader) → t ≡ Some (script_task one)
    → t ≡ Some (script_task other) → one ≡ other
reader_one t one other is also = sym (reader_same one) ∙ ap reader_of (sym is ∙ also) ∙ reader_same other

-- ---- words that take memory

watch_kind : (key : Option Key) → (option_map task.Watch key ≡ None)
    ⊎ ((k : Key) × (option_map task.Watch key ≡ Some (task.Watch k)))
watch_kind None = inl refl
watch_kind (Some k) = inr (k, refl)

-- what may be a key asks for a search, or for nothing
watch_task : (words : List (List ℕ)) → IsWatch words → (task_of words ≡ None)
    ⊎ ((k : Key) × (task_of words ≡ Some (task.Watch k)))
watch_task [] is = absurd is
watch_task (word ∷ []) is = absurd is
watch_task (word ∷ key ∷ []) is =
    let asked : task_of (word ∷ key ∷ []) ≡ option_map task.Watch (steady_key key) =
    ap (λ (b : Bool). if b then option_map task.Watch (steady_key key) else None) is in
    ⊎_elim (λ none. inl (asked ∙ none)) (λ some. inr (some.0, asked ∙ some.1)) (watch_kind (steady_key key))
watch_task (word ∷ key ∷ other ∷ words) is = absurd is

-- words of which memory may lack
abbrev pub MayLack : List (List ℕ) → Type 0
MayLack words = IsWatch words ⊎ IsResync (task_of words)

-- what they ask for
abbrev pub Lacks : Option Task → Type 0
Lacks None = Unit {0}
Lacks (Some (task.Watch key)) = Unit {0}
Lacks (Some (task.Resync client)) = Unit {0}
Lacks (Some task.Run) = ⊥
Lacks (Some task.Rebuild) = ⊥
Lacks (Some (task.Generate load)) = ⊥
Lacks (Some task.Storage) = ⊥

resync_lacks : (t : Option Task) → IsResync t → Lacks t
resync_lacks (Some (task.Resync client)) is = tt
resync_lacks (Some (task.Watch key)) is = tt
resync_lacks (Some task.Run) is = absurd is
resync_lacks (Some task.Rebuild) is = absurd is
resync_lacks (Some (task.Generate load)) is = absurd is
resync_lacks (Some task.Storage) is = absurd is
resync_lacks None is = tt

pub lacks : (words : List (List ℕ)) → MayLack words → Lacks (task_of words)
lacks words (inl watch) =
    ⊎_elim (λ none. subst Lacks (sym none) tt) (λ some. subst Lacks (sym some.1) tt) (watch_task words watch)
lacks words (inr resync) = resync_lacks (task_of words) resync

-- lines that they have are a script's
pub lacks_script : (t : Option Task) (told : Type 0) (read : Result (List NamedLine) ScriptFault)
    (lines : List NamedLine) → Lacks t → Answers t told read lines → HasScript t
lacks_script None told read lines lack answers = absurd answers
lacks_script (Some (task.Watch key)) told read lines lack answers = tt
lacks_script (Some (task.Resync client)) told read lines lack answers = absurd answers
lacks_script (Some task.Run) told read lines lack answers = tt
lacks_script (Some task.Rebuild) told read lines lack answers = absurd lack
lacks_script (Some (task.Generate load)) told read lines lack answers = absurd lack
lacks_script (Some task.Storage) told read lines lack answers = tt

-- where they ask for nothing, one of them may have been a key
pub lacks_usage : (words : List (List ℕ)) → MayLack words → task_of words ≡ None
    → EndsUsage words end.NoMemory
lacks_usage words (inl watch) none = inr (watch, refl)
lacks_usage words (inr resync) none = absurd (subst IsResync none resync)
