-- The last lines of a run.
use Rattle.std.specs.Prelude.{ℕ, List, [], ◌∷◌, ◌++◌, Option, Some, None, codes, decimal}
use Rattle.dv_model.specs.declared.types.Mark.{Mark}
use Rattle.dv_model.specs.declared.types.OpenFault.{OpenFault}
use Rattle.dv_model.specs.declared.types.OpenFault.TheVariants as fault
use Rattle.dv_model.specs.Texts.{mark_text}
use Rattle.dv_cli.specs.declared.ending.Loaded.{Loaded}
use Rattle.dv_script.specs.declared.types.ScriptEnd.{ScriptEnd}
use Rattle.dv_script.specs.declared.types.ScriptEnd.TheVariants.{BadLine, TooLong, ShortLiteral, NoMemory}

-- the last line where every command was answered
abbrev pub end_text : Mark → ℕ → List ℕ
end_text mark groups =
    codes "END 0 " ++ mark_text mark ++ codes " GROUPS " ++ decimal groups ++ 10 ∷ []

-- a word and a number
abbrev pub counted_text : List ℕ → ℕ → List ℕ
counted_text word n = 32 ∷ word ++ 32 ∷ decimal n

-- the load that was generated, and what the mailbox has behind it
abbrev pub load_text : Loaded → List ℕ
load_text l =
    codes "GEN " ++ decimal l.load.seed ++ codes " " ++ decimal l.load.count ++ codes " "
    ++ decimal l.load.sessions ++ counted_text (codes "EXISTS") l.exists
    ++ counted_text (codes "UIDNEXT") l.next_uid ++ 10 ∷ []

-- the last lines: behind a generated load its own comes first
abbrev pub answered_text : Mark → ℕ → Option Loaded → List ℕ
answered_text mark groups None = end_text mark groups
answered_text mark groups (Some l) = load_text l ++ end_text mark groups

-- the last line of a rebuild
abbrev pub rebuilt_text : ℕ → ℕ → List ℕ
rebuilt_text kept skipped =
    codes "END 0 REBUILT" ++ counted_text (codes "kept") kept
    ++ counted_text (codes "skipped") skipped ++ 10 ∷ []

-- the words ask for nothing
abbrev pub usage_text : List ℕ
usage_text = codes "FAULT 1 USAGE" ++ 10 ∷ []

-- memory ran out
abbrev pub memory_text : List ℕ
memory_text = codes "FAULT 4 MEMORY" ++ 10 ∷ []

-- a place: the file, and the offset in it
abbrev pub place_text : Mark → List ℕ
place_text mark = decimal mark.file_seq ++ codes ":" ++ decimal mark.offset

-- why the folder's mailbox isn't opened
abbrev pub fault_text : OpenFault → List ℕ
fault_text (fault.Disk faults) = codes "FAULT 2 DISK " ++ decimal faults ++ 10 ∷ []
fault_text fault.NoMemory = memory_text
fault_text fault.NoLog = codes "FAULT 3 NoLog" ++ 10 ∷ []
fault_text fault.BadLogHeader = codes "FAULT 3 BadLogHeader" ++ 10 ∷ []
fault_text (fault.BadRecord offset) = codes "FAULT 3 BadRecord " ++ decimal offset ++ 10 ∷ []
fault_text fault.BadIndex = codes "FAULT 3 BadIndex" ++ 10 ∷ []
fault_text (fault.Gap index log) =
    codes "FAULT 3 Gap " ++ place_text index ++ codes " " ++ place_text log ++ 10 ∷ []

-- the script's first fault, by its line
abbrev pub script_text : ScriptEnd → List ℕ
script_text (BadLine line) = codes "FAULT 5 LINE " ++ decimal line ++ 10 ∷ []
script_text TooLong = codes "FAULT 5 TOO LONG" ++ 10 ∷ []
script_text (ShortLiteral line) = codes "FAULT 5 SHORT LITERAL " ++ decimal line ++ 10 ∷ []
script_text NoMemory = memory_text

-- the count of the source's faults
abbrev pub source_text : ℕ → List ℕ
source_text faults = codes "FAULT 6 SOURCE " ++ decimal faults ++ 10 ∷ []
