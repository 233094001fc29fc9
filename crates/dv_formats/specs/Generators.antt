-- The script that `gen SEED COUNT SESSIONS` stands for, by a linear congruential generator (Knuth's
-- MMIX: its multiplier and increment, modulo 2^64).
use Rattle.std.specs.Prelude.{ℕ, zero, suc, ◌+◌, ◌*◌, ◌/◌, ◌%◌, ◌^◌, true, List, [], ◌∷◌, ◌++◌, map, replicate, None, codes, decimal, nat_eq, nat_le, if◌then◌else◌}
use Rattle.std.specs.List.{range_with_len}
use Rattle.dv_model.specs.declared.types.Command.{Command}
use Rattle.dv_model.specs.declared.types.Command.TheVariants as command
use Rattle.dv_model.specs.declared.types.End.TheVariants.{Number}
use Rattle.dv_model.specs.declared.types.How.{How}
use Rattle.dv_model.specs.declared.types.How.TheVariants.{Add, Remove, Replace}
use Rattle.dv_model.specs.declared.types.Item.TheVariants as item
use Rattle.dv_model.specs.declared.types.Span.{Span}
use Rattle.dv_formats.specs.Scripts.{NamedLine}

-- ---- draws

-- the state behind a draw
abbrev pub next_state : ℕ → ℕ
next_state state = (state * 6364136223846793005 + 1442695040888963407) % 2 ^ 64

-- what the draw gives that leaves this state: its highest 31 bits
abbrev pub drawn : ℕ → ℕ
drawn state = state / 2 ^ 33

-- ---- parts of a command

-- ten UIDs from one up to so many on
abbrev pub uids_from : ℕ → ℕ → List Span
uids_from i state =
    let first = 1 + drawn state % (i + 1) in
    record { from = Number first; to = Number (first + 9) } ∷ []

-- what a STORE does with flags
abbrev pub how_of : ℕ → How
how_of zero = Add
how_of (suc zero) = Remove
how_of n = Replace

-- a keyword, of forty
abbrev pub keyword_of : ℕ → List ℕ
keyword_of n = codes "k" ++ decimal (n % 40)

-- ---- commands: what the draws give, and the state behind them

-- an empty list of flags, and a message of up to 99 bytes `x`
abbrev pub append_drawn : ℕ → Command × ℕ
append_drawn state =
    let size = next_state state in (command.Append 0 [] (replicate (drawn size % 100) 120), size)

-- a STORE of one flag or of one keyword
abbrev pub store_drawn : ℕ → ℕ → Command × ℕ
store_drawn i state = by_flag (drawn third % 6)
  where
    first : ℕ
    first = next_state state

    second : ℕ
    second = next_state first

    third : ℕ
    third = next_state second

    fourth : ℕ
    fourth = next_state third

    stored : ℕ → List (List ℕ) → Command
    stored flags keywords =
        command.Store true (uids_from i first) (how_of (drawn second % 3)) flags keywords None

    by_flag : ℕ → Command × ℕ
    by_flag n =
        if nat_le n 4 then (stored (2 ^ n) [], third)
        else (stored 0 (keyword_of (drawn fourth) ∷ []), fourth)

-- a FETCH of flags
abbrev pub fetch_drawn : ℕ → ℕ → Command × ℕ
fetch_drawn i state =
    let first = next_state state in
    (command.Fetch true (uids_from i first) (item.Flags ∷ []), first)

-- of eight draws three append, two store, and one each fetches, waits and expunges
abbrev pub command_by : ℕ → ℕ → ℕ → Command × ℕ
command_by kind i state =
    if nat_le kind 2 then append_drawn state
    else (if nat_le kind 4 then store_drawn i state
    else (if nat_eq kind 5 then fetch_drawn i state
    else (if nat_eq kind 6 then (command.Noop, state) else (command.Expunge, state))))

-- command i, drawn from this state on
abbrev pub command_drawn : ℕ → ℕ → Command × ℕ
command_drawn i state = let kind = next_state state in command_by (drawn kind % 8) i kind

-- ---- the script

-- the n-th session
abbrev pub session_name : ℕ → List ℕ
session_name n = codes "s" ++ decimal n

-- so many commands from command i on, by turns of so many sessions
abbrev pub commands_from : ℕ → ℕ → ℕ → ℕ → List NamedLine
commands_from sessions i zero state = []
commands_from sessions i (suc count) state =
    let one = command_drawn i state in
    (session_name (i % sessions + 1), one.0) ∷ commands_from sessions (i + 1) count one.1

-- a SELECT of each session, and then the commands
abbrev pub generated : ℕ → ℕ → ℕ → List NamedLine
generated seed count sessions =
    map (λ n. (session_name n, command.Select)) (range_with_len 1 sessions)
    ++ commands_from sessions 0 count seed
