-- What a storage's script says, as a function of its bytes. Which text is of which calls is said by
-- the grammar (specs/Grammar.antt), with which this agrees: `read_lines_are_of_the_grammar`,
-- `lines_of_the_grammar_are_read`. Lines, comments and numbers are those of a session's script.
use Rattle.std.specs.Prelude.{ℕ, zero, suc, ◌+◌, ◌^◌, List, [], ◌∷◌, length, take, drop, Bool, Option, Some, None, Result, Ok, Err, is_ok, codes, nat_lt, bytes_eq, if◌then◌else◌}
use Rattle.dv_formats.specs.Scripts.{line_limit, script_limit}
use Rattle.dv_formats.specs.Parsing.{◌>>=◌, LineFault, ScriptFault, after, ahead_of, behind_line_end, fault_at, feeds_before, first_line, is_skipped, number_of}

-- a message is saved, an id has one reference more or one less, its message is read, or the ids
-- without a reference go
pub data Call : Type 0 where
  Save : (message : List ℕ) → Call
  Copy : (id : ℕ) → Call
  Drop : (id : ℕ) → Call
  Get : (id : ℕ) → Call
  Purge : Call

-- ---- a line

-- a number of 32 bits behind a word
abbrev pub number_behind : List ℕ → List ℕ → Option ℕ
number_behind word text = after word text >>= number_of (2 ^ 32)

-- how many bytes of a message follow the line
unfoldable pub size_of : List ℕ → Option ℕ
size_of text = after (codes "SAVE {") text >>= λ rest. ahead_of (codes "}") rest >>= number_of (2 ^ 32)

-- a call that stands on one line
unfoldable pub call_of : List ℕ → Option Call
call_of text =
    if bytes_eq text (codes "PURGE") then Some Purge
    else by_copy (number_behind (codes "COPY ") text)
  where
    by_get : Option ℕ → Option Call
    by_get None = None
    by_get (Some id) = Some (Get id)

    by_drop : Option ℕ → Option Call
    by_drop None = by_get (number_behind (codes "GET ") text)
    by_drop (Some id) = Some (Drop id)

    by_copy : Option ℕ → Option Call
    by_copy None = by_drop (number_behind (codes "DROP ") text)
    by_copy (Some id) = Some (Copy id)

-- the call of a line, where it has one, and what stands behind it
abbrev pub TakenCall : Type 0
TakenCall = Option Call × List ℕ

-- so many bytes of what stands behind the line are the message, and then the line ends
unfoldable pub message_at : ℕ → List ℕ → Result TakenCall LineFault
message_at size b =
    if nat_lt (length b) size then Err LineFault.short
    else by_end (behind_line_end (drop size b))
  where
    by_end : Option (List ℕ) → Result TakenCall LineFault
    by_end None = Err LineFault.bad
    by_end (Some rest) = Ok (Some (Save (take size b)), rest)

-- a line without its end, behind which these bytes stand
unfoldable pub line_at : List ℕ → List ℕ → Result TakenCall LineFault
line_at text b =
    if nat_lt line_limit (length text) then Err LineFault.bad
    else (if is_skipped text then Ok (None, b) else by_size (size_of text))
  where
    by_call : Option Call → Result TakenCall LineFault
    by_call None = Err LineFault.bad
    by_call (Some call) = Ok (Some call, b)

    by_size : Option ℕ → Result TakenCall LineFault
    by_size None = by_call (call_of text)
    by_size (Some size) = message_at size b

-- the first line of some bytes
abbrev pub line_of : List ℕ → Result TakenCall LineFault
line_of b = line_at (first_line b).0 (first_line b).1

-- ---- the lines

-- the calls of some bytes; or the fault of the first line that has one, with the bytes from that
-- line on
abbrev pub Said : Type 0
Said = Result (List Call) (LineFault × List ℕ)

-- a line's call before others
abbrev pub with_call : Option Call → Said → Said
with_call None said = said
with_call (Some call) (Ok calls) = Ok (call ∷ calls)
with_call (Some call) (Err fault) = Err fault

-- behind the first line of these bytes stand others, unless it has a fault
abbrev pub behind_line : List ℕ → Result TakenCall LineFault → (List ℕ → Said) → Said
behind_line b (Err fault) others = Err (fault, b)
behind_line b (Ok taken) others = with_call taken.0 (others taken.1)

-- each line has a byte at least, so that there are no more lines than bytes
unfoldable pub said_within : ℕ → List ℕ → Said
said_within most [] = Ok []
said_within zero (b ∷ bs) = Ok []
said_within (suc most) (b ∷ bs) = behind_line (b ∷ bs) (line_of (b ∷ bs)) (said_within most)

-- what the bytes say
abbrev pub said_in : List ℕ → Said
said_in b = said_within (length b) b

-- ---- the script

-- a line is numbered by 1 and the line feeds before it
abbrev pub in_script : List ℕ → Said → Result (List Call) ScriptFault
in_script script (Ok calls) = Ok calls
in_script script (Err at) = Err (fault_at (1 + feeds_before script at.1) at.0)

-- the calls of a script, or its first fault
abbrev pub parsed : List ℕ → Result (List Call) ScriptFault
parsed script =
    if nat_lt script_limit (length script) then Err ScriptFault.TooLong
    else in_script script (said_in script)

-- ---- a part of it

-- no line has a fault
abbrev pub is_good : List ℕ → Bool
is_good b = is_ok (said_in b)

-- the calls, none where a line has a fault
abbrev pub or_none : Said → List Call
or_none (Ok calls) = calls
or_none (Err fault) = []

abbrev pub calls_in : List ℕ → List Call
calls_in b = or_none (said_in b)
