use Rattle.std.proofs.Common.{take}
use Rattle.dv_script.specs.Spaced.{AddsWords}
use Rattle.dv_script.proofs.value.put_keywords.Given as goal

abbrev pub invariant-loop-keyword : goal.invariant-loop-keyword
invariant-loop-keyword l = AddsWords l.fn.first (take l.keyword-index l.keyword-items) l.initial.text l.text l.next
