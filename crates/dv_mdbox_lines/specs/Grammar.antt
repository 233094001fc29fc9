-- The grammar of a storage's script (own): which text is of which calls, and which has which fault. The
-- message of a SAVE is a literal (RFC 3501, section 4.3). Line ends, comments and limits are those of
-- a session's script.
use Rattle.std.specs.Prelude.{◌≡◌, ◌⊎◌, ℕ, ◌^◌, ◌<◌, ◌≤◌, List, [], ◌∷◌, ◌++◌, length, flat_map, Option, Some, None, Result, Ok, Err, codes, decimal}
use Rattle.dv_formats.specs.Scripts.{IsLineEnd, IsSkipped, IsTooLong, line_limit, line_number, script_limit}
use Rattle.dv_formats.specs.Parsing.{ScriptFault, as_list}
use Rattle.dv_mdbox_lines.specs.Scripts.{Call, Copy, Drop, Get, Purge, Save}

-- ---- the line of a call

-- a word, a space and a number below 2^32 in decimal digits, without leading zeros
abbrev pub HasNumber : List ℕ → ℕ → List ℕ → Type 0
HasNumber word n b = (n < 2 ^ 32) × (b ≡ word ++ codes " " ++ decimal n)

-- the line of a SAVE has the number of its message's bytes, which is such a number
abbrev pub HasSize : ℕ → List ℕ → Type 0
HasSize size b = (size < 2 ^ 32) × (b ≡ codes "SAVE {" ++ decimal size ++ codes "}")

-- a line without its end is of this call
abbrev pub IsCallLine : Call → List ℕ → Type 0
IsCallLine (Save message) b = HasSize (length message) b
IsCallLine (Copy id) b = HasNumber (codes "COPY") id b
IsCallLine (Drop id) b = HasNumber (codes "DROP") id b
IsCallLine (Get id) b = HasNumber (codes "GET") id b
IsCallLine Purge b = b ≡ codes "PURGE"

-- ---- lines

-- a text, a line end or the script's end, and the rest of the script
pub record IsEnded (text b rest : List ℕ) : Type 0 where
  pub ending : List ℕ
  pub ends : IsLineEnd ending ⊎ ((ending ≡ []) × (rest ≡ []))
  pub whole : b ≡ text ++ ending ++ rest

-- so many bytes of a line stand before its end at most
pub record IsLine (text b rest : List ℕ) : Type 0 where
  pub size : length text ≤ line_limit
  pub ended : IsEnded text b rest

-- a message stands behind the line of its SAVE, and has an end too; nothing of another call does
abbrev pub IsFollowed : Call → List ℕ → List ℕ → Type 0
IsFollowed (Save message) b rest = IsEnded message b rest
IsFollowed call b rest = b ≡ rest

-- a call begins the bytes, and the rest stands behind it
pub record IsSaid (call : Call) (b rest : List ℕ) : Type 0 where
  pub text : List ℕ
  pub behind : List ℕ
  pub is : IsCallLine call text
  pub line : IsLine text b behind
  pub followed : IsFollowed call behind rest

-- an empty line or a comment does
pub record IsPassed (b rest : List ℕ) : Type 0 where
  pub text : List ℕ
  pub is : IsSkipped text
  pub line : IsLine text b rest

-- a good line begins the bytes, with a call or none
abbrev pub IsGoodLine : Option Call → List ℕ → List ℕ → Type 0
IsGoodLine None b rest = IsPassed b rest
IsGoodLine (Some call) b rest = IsSaid call b rest

-- good lines, one after another
abbrev pub AreGood : List (Option Call) → List ℕ → List ℕ → Type 0
AreGood [] b rest = b ≡ rest
AreGood (line ∷ lines) b rest = (behind : List ℕ) × IsGoodLine line b behind × AreGood lines behind rest

-- ---- scripts

-- the script has these calls, and nothing else but empty lines and comments
pub record IsScript (calls : List Call) (script : List ℕ) : Type 0 where
  pub size : length script ≤ script_limit
  pub lines : List (Option Call)
  pub good : AreGood lines script []
  pub are : calls ≡ flat_map as_list lines

-- ---- faults

-- the line of a SAVE begins the bytes, and fewer follow than its number says
pub record IsShort (b : List ℕ) : Type 0 where
  pub size : ℕ
  pub text : List ℕ
  pub behind : List ℕ
  pub is : HasSize size text
  pub line : IsLine text b behind
  pub few : length behind < size

-- The first line that isn't good begins the rest. Its number is 1 and the line feeds before it.
pub record IsFirstFault (script rest : List ℕ) (number : ℕ) : Type 0 where
  pub size : length script ≤ script_limit
  pub lines : List (Option Call)
  pub good : AreGood lines script rest
  pub bad : (line : Option Call) (behind : List ℕ) → IsGoodLine line rest behind → ⊥
  pub front : List ℕ
  pub text : script ≡ front ++ rest
  pub is : number ≡ line_number front

-- that line is a SAVE without all its bytes, or is of no form; or the script is too long
abbrev pub IsFault : ScriptFault → List ℕ → Type 0
IsFault (ScriptFault.ShortLiteral number) script =
    (rest : List ℕ) × IsFirstFault script rest number × IsShort rest
IsFault (ScriptFault.BadLine number) script =
    (rest : List ℕ) × IsFirstFault script rest number × (IsShort rest → ⊥)
IsFault ScriptFault.TooLong script = IsTooLong script

-- the script has these calls, or this fault
abbrev pub IsOf : Result (List Call) ScriptFault → List ℕ → Type 0
IsOf (Ok calls) script = IsScript calls script
IsOf (Err fault) script = IsFault fault script
