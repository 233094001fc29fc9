-- What the words of a run ask for.
use Rattle.std.specs.Prelude.{◌≡◌, ◌⊎◌, ◌≤◌, ◌^◌, ⊤, ℕ, Bool, true, false, List, [], ◌∷◌, Option, Some, None, bytes_eq, codes, nat_le, option_map, if◌then◌else◌}
use Rattle.dv_model.specs.declared.types.Key.{Key}
use Rattle.dv_shelf.specs.Streams.{Appends, AppendsFront}
use Rattle.dv_formats.specs.Parsing.{◌>>=◌, number_of}
use Rattle.dv_catching.specs.Clients.{client_of}
use Rattle.dv_search.specs.Nesting.{levels_of, most_levels}
use Rattle.dv_live.specs.Steadiness.{steady}
use Rattle.dv_watching.specs.Keys.{steady_key}
use Rattle.dv_cli.specs.declared.words.Load.{Load}
use Rattle.dv_cli.specs.declared.words.Task.{Task}
use Rattle.dv_cli.specs.declared.words.Task.TheVariants as task

-- a load that is generated: a seed below 2^64, up to 1,000,000 commands, and 1 to 64 sessions, in
-- digits without leading zeros
abbrev pub load_of : List ℕ → List ℕ → List ℕ → Option Load
load_of seed count sessions =
    number_of (2 ^ 64) seed >>= λ s. number_of 1000001 count >>= λ c.
    number_of 65 sessions >>= λ n.
    if nat_le 1 n then Some (record { seed = s; count = c; sessions = n }) else None

-- so many commands and sessions
pub record IsLoad (load : Load) : Type 0 where
  pub some : 1 ≤ load.sessions
  pub few : load.sessions ≤ 64
  pub short : load.count ≤ 1000000

-- a search with this key can be kept
pub record IsKept (key : Key) : Type 0 where
  pub follows : steady key ≡ true
  pub shallow : levels_of key ≤ most_levels

-- a task's load has so many, and its search can be kept
abbrev pub IsTask : Task → Type 0
IsTask task.Run = ⊤
IsTask task.Rebuild = ⊤
IsTask (task.Generate load) = IsLoad load
IsTask (task.Resync client) = ⊤
IsTask (task.Watch key) = IsKept key
IsTask task.Storage = ⊤

-- the words behind the folder: `run`, `rebuild`, `mdbox`, `watch` with the key of a search that can
-- be kept, `gen` with a load, or `resync` with what a client knows
abbrev pub task_of : List (List ℕ) → Option Task
task_of (word ∷ []) =
    if bytes_eq word (codes "run") then Some task.Run
    else (if bytes_eq word (codes "rebuild") then Some task.Rebuild
    else (if bytes_eq word (codes "mdbox") then Some task.Storage else None))
task_of (word ∷ key ∷ []) =
    if bytes_eq word (codes "watch") then option_map task.Watch (steady_key key) else None
task_of (word ∷ first ∷ second ∷ third ∷ []) =
    if bytes_eq word (codes "gen") then option_map task.Generate (load_of first second third)
    else (if bytes_eq word (codes "resync")
    then option_map task.Resync (client_of first second third) else None)
task_of words = None

-- a client's state is among the words
abbrev pub IsResync : Option Task → Type 0
IsResync (Some (task.Resync client)) = ⊤
IsResync other = ⊥

-- they are `watch` and one word more, which may be a key or not
abbrev pub IsWatch : List (List ℕ) → Type 0
IsWatch (word ∷ key ∷ []) = bytes_eq word (codes "watch") ≡ true
IsWatch words = ⊥

-- ---- what is printed

-- the text was printed and the status is this one, or a front of it where the output failed
abbrev pub Prints : ℕ → List ℕ → ℕ → List ℕ → List ℕ → Type 0
Prints good text status old new =
    ((status ≡ good) × Appends old new text) ⊎ ((status ≡ 7) × AppendsFront old new text)
