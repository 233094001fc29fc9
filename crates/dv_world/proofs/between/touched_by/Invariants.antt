use Rattle.std.proofs.Common.{◌≡◌, ℕ, ◌+◌, Some}
use Rattle.dv_model.specs.declared.types.Mailbox.{Mailbox}
use Rattle.dv_model.specs.Journals.{IsSound, Log, at}
use Rattle.dv_answer.specs.Following.{Leads}
use Rattle.dv_world.specs.Keeping.{AreLogged}
use Rattle.dv_world.proofs.between.touched_by.Given as goal

abbrev pub invariant-loop-one : goal.invariant-loop-one
invariant-loop-one l = (log : Log) (from : ℕ) (old new : Mailbox) → IsSound log → AreLogged log from l.logged
    → at log from ≡ Some old → at log (from + l.one-index) ≡ Some new → Leads old new l.touched
