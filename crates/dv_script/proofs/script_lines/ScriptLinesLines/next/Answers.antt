use Rattle.std.proofs.Common.{◌≡◌, ◌<◌, ◌∙◌, [], length, Err, refl, sym, subst, rules}
use Rattle.dv_formats.specs.Parsing.{LineFault, first_line, line_at}
use Rattle.dv_script.specs.Sources.{LineFails}
use Rattle.dv_script.proofs.LineByLine.{same_line}
use Rattle.dv_script.proofs.Rests.{ended, no_fault_next, none_next, some_left, some_next}
use Rattle.dv_script.proofs.script_lines.ScriptLinesLines.next.Goals as goal

pub returns-then-is_empty-clause-next : goal.returns-then-is_empty-clause-next
returns-then-is_empty-clause-next c =
    let empty : length c.skip-rest.result.now ≡ 0 = search rules in
    none_next c.args.self.now.names c.args.self.now.names c.args.self.now.rest.now c.skip-rest.result.now c.args.self.now.good c.skip-rest.ensures.same empty

pub invariant_of-self-in-Ok : goal.invariant_of-self-in-Ok
invariant_of-self-in-Ok c =
    let self = c.args.self.now in
    let rest = c.skip-rest.result.now in
    let some : 0 < length rest = search rules in
    let same = same_line self.names rest c.first_line.result.0.now c.first_line.result.1.now c.first_line.ensures.text c.first_line.ensures.rest in
    record { good = (some_next self.names self.rest.now rest c.in-Ok.line c.read_line.new.names c.in-Ok.next.now self.good c.skip-rest.ensures.same some (c.skip-rest.ensures.command some) (sym same ∙ c.in-Ok.ensures.line)).0 }

pub invariant_of-self-in-Err-1 : goal.invariant_of-self-in-Err-1
invariant_of-self-in-Err-1 c = record { good = (ended c.read_line.new.names [] refl).0 }

pub returns-in-Ok-clause-next : goal.returns-in-Ok-clause-next
returns-in-Ok-clause-next c =
    let self = c.args.self.now in
    let rest = c.skip-rest.result.now in
    let some : 0 < length rest = search rules in
    let same = same_line self.names rest c.first_line.result.0.now c.first_line.result.1.now c.first_line.ensures.text c.first_line.ensures.rest in
    (some_next self.names self.rest.now rest c.in-Ok.line c.read_line.new.names c.in-Ok.next.now self.good c.skip-rest.ensures.same some (c.skip-rest.ensures.command some) (sym same ∙ c.in-Ok.ensures.line)).1

pub returns-in-Err-NoMemory-clause-some : goal.returns-in-Err-NoMemory-clause-some
returns-in-Err-NoMemory-clause-some c =
    let self = c.args.self.now in
    let some : 0 < length c.skip-rest.result.now = search rules in
    some_left self.names self.rest.now c.skip-rest.result.now self.good c.skip-rest.ensures.same some (c.skip-rest.ensures.command some)

pub unreachable-requires : goal.unreachable-requires
unreachable-requires c =
    let self = c.args.self.now in
    let rest = c.skip-rest.result.now in
    let some : 0 < length rest = search rules in
    let same = same_line self.names rest c.first_line.result.0.now c.first_line.result.1.now c.first_line.ensures.text c.first_line.ensures.rest in
    let here = subst (λ e. LineFails e (line_at self.names c.first_line.result.0.now c.first_line.result.1.now)) c.in-Err-Bad.field-0-is c.in-Err-Bad.ensures.line in
    let fault : line_at self.names (first_line rest).0 (first_line rest).1 ≡ Err LineFault.bad = sym same ∙ here in
    no_fault_next self.names self.rest.now rest LineFault.bad self.good c.skip-rest.ensures.same some fault

pub unreachable-requires-in-Err-Short : goal.unreachable-requires-in-Err-Short
unreachable-requires-in-Err-Short c =
    let self = c.args.self.now in
    let rest = c.skip-rest.result.now in
    let some : 0 < length rest = search rules in
    let same = same_line self.names rest c.first_line.result.0.now c.first_line.result.1.now c.first_line.ensures.text c.first_line.ensures.rest in
    let here = subst (λ e. LineFails e (line_at self.names c.first_line.result.0.now c.first_line.result.1.now)) c.in-Err-Short.field-0-is c.in-Err-Short.ensures.line in
    let fault : line_at self.names (first_line rest).0 (first_line rest).1 ≡ Err LineFault.short = sym same ∙ here in
    no_fault_next self.names self.rest.now rest LineFault.short self.good c.skip-rest.ensures.same some fault
