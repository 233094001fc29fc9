use Rattle.std.proofs.Common.{◌≡◌, ◌≤◌, All, length}
use Rattle.dv_apply.specs.States.{blank_parts}
use Rattle.dv_apply.proofs.blanks.fill.Given as goal

abbrev pub invariant-loop : goal.invariant-loop
invariant-loop l = record {
  blank : All (λ parts. parts ≡ blank_parts l.extensions) l.blanks.items;
  more : length l.initial.blanks.items ≤ length l.blanks.items;
  counted : l.counter ≤ length l.blanks.items;
}
