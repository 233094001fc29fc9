use Rattle.std.proofs.Common.{◌≡◌, ◌<◌, ◌∙◌, Ok, Option, length, ap, rules}
use Rattle.std.specs.Prelude.{option_map}
use Rattle.dv_mdbox_lines.specs.declared.lines.Call as declared
use Rattle.dv_mdbox_lines.specs.Scripts.{or_none}
use Rattle.dv_mdbox_lines.specs.Views.{fault_of, said}
use Rattle.dv_mdbox_lines.proofs.Says.{ended, given, left_out, no_fault, none_left}
use Rattle.dv_mdbox_lines.proofs.cursor.Calls.next.Goals as goal

pub lines-preserved : goal.lines-preserved
lines-preserved c =
    let rest = c.lines.rest.now in
    let next = c.in-Ok-None-default.next.now in
    let some : 0 < length rest = search rules in
    left_out c.args.self.now.rest.now rest next c.lines.invariant some
    (c.in-Ok-None-default.ensures.line ∙ ap (λ (call : Option declared.Call). Ok (option_map said call, next)) c.in-Ok-None-default.field-0-0-is)

pub invariant_of-self : goal.invariant_of-self
invariant_of-self c =
    let rest = c.lines.rest.now in
    let next = c.in-Ok-Some-default.next.now in
    let some : 0 < length rest = search rules in
    record {
      good =
          (given c.args.self.now.rest.now rest next (said c.in-Ok-Some-default.call) c.lines.invariant some
          (c.in-Ok-Some-default.ensures.line ∙ ap (λ (call : Option declared.Call). Ok (option_map said call, next)) c.in-Ok-Some-default.field-0-0-is)).good;
    }

pub returns-in-Ok-Some-default : goal.returns-in-Ok-Some-default
returns-in-Ok-Some-default c =
    let rest = c.lines.rest.now in
    let next = c.in-Ok-Some-default.next.now in
    let some : 0 < length rest = search rules in
    (given c.args.self.now.rest.now rest next (said c.in-Ok-Some-default.call) c.lines.invariant some
    (c.in-Ok-Some-default.ensures.line ∙ ap (λ (call : Option declared.Call). Ok (option_map said call, next)) c.in-Ok-Some-default.field-0-0-is)).left

pub unreachable-requires : goal.unreachable-requires
unreachable-requires c =
    let rest = c.lines.rest.now in
    let some : 0 < length rest = search rules in
    no_fault c.args.self.now.rest.now rest (fault_of c.in-Err.field-0) c.lines.invariant some c.in-Err.ensures.line

pub returns : goal.returns
returns c =
    let rest = c.lines.rest.now in
    let empty : length rest ≡ 0 = search rules in
    (none_left c.args.self.now.rest.now rest c.lines.invariant empty, ap or_none (ended rest empty))
