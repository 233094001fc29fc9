-- The end of a POP3 session over an opened mailbox.
use Rattle.std.specs.Prelude.{◌≡◌, ℕ, Result, Ok, Err, ⊤}
use Rattle.dv_model.specs.declared.types.Mark.{Mark}
use Rattle.dv_model.specs.Counts.{Rose}
use Rattle.dv_pop3.specs.declared.lines.LinesEnd.{LinesEnd}
use Rattle.dv_pop3.specs.declared.lines.LinesEnd.TheVariants as lines_end
use Rattle.dv_pop3.specs.declared.entering.PopFault.{PopFault}
use Rattle.dv_pop3.specs.declared.entering.PopFault.TheVariants as fault
use Rattle.dv_pop3_serving.specs.declared.ending.PopEnd.{PopEnd}
use Rattle.dv_pop3_serving.specs.declared.ending.PopEnd.TheVariants as ending

-- by what came of it, with the place behind the log and how many groups it has
abbrev pub end_of : Result LinesEnd PopFault → Mark → ℕ → PopEnd
end_of (Ok lines_end.Answered) mark groups = ending.Answered mark groups
end_of (Ok lines_end.NoMemory) mark groups = ending.NoMemory
end_of (Ok (lines_end.Sink faults)) mark groups = ending.Sink faults
end_of (Err fault.NoMemory) mark groups = ending.NoMemory
end_of (Err (fault.Disk faults)) mark groups = ending.Disk faults

-- an output that failed has a count that rose, and it is told
abbrev pub IsCaused : ℕ → ℕ → PopEnd → Type 0
IsCaused before now (ending.Sink faults) = Rose before now × (faults ≡ now)
IsCaused before now e = ⊤
