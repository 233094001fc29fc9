use Rattle.std.proofs.Common.{◌≡◌, take}
use Rattle.dv_formats.specs.Printing.{script_text}
use Rattle.dv_script.specs.Sources.{all_named}
use Rattle.dv_script.proofs.printing.print_script.Given as goal

abbrev pub invariant-loop-line : goal.invariant-loop-line
invariant-loop-line l = l.text ≡ script_text (all_named (take l.line-index l.line-items))
