use Rattle.std.proofs.Common.{length}
use Rattle.std.specs.Prelude.{All}
use Rattle.std.specs.List.{AllWithin}
use Rattle.dv_model.specs.declared.types.Mailbox.{Mailbox}
use Rattle.dv_answer.specs.Following.{IsAbreast, Leads}
use Rattle.dv_bench.proofs.sessions.touch_all.Given as goal

-- the sessions before the index are abreast of the new mailbox, and the others of the old one
abbrev pub invariant-loop-session : goal.invariant-loop-session
invariant-loop-session l = (old new : Mailbox) → All (IsAbreast old) l.initial.sessions → Leads old new l.touched
    → AllWithin (IsAbreast new) l.sessions 0 l.session-index × AllWithin (IsAbreast old) l.sessions l.session-index (length l.sessions)
