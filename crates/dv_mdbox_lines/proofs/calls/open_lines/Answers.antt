use Rattle.std.proofs.Common.{◌≡◌, ◌<◌, ◌+◌, Err, length, subst, sym, rules}
use Rattle.std.specs.Prelude.{option_map}
use Rattle.dv_formats.specs.Parsing.{feeds_before}
use Rattle.dv_script.specs.Sources.{ScriptFails}
use Rattle.dv_mdbox_lines.specs.Scripts.{parsed}
use Rattle.dv_mdbox_lines.specs.Views.{IsOpened, IsTold, fault_of, said}
use Rattle.dv_mdbox_lines.proofs.GoodScripts.{calls_opened, calls_told, end_opened, end_told}
use Rattle.dv_mdbox_lines.proofs.Says.{done, end_fails, fails, goes_on}
use Rattle.dv_mdbox_lines.proofs.calls.open_lines.Goals as goal

pub lines-preserved : goal.lines-preserved
lines-preserved c =
    let rest = c.lines.rest.now in
    let some : 0 < length rest = search rules in
    record {
      short = c.lines.invariant.short;
      to = goes_on c.args.b.now rest (option_map said c.in-Ok.field-0-0, c.in-Ok.next.now) c.lines.invariant.to some c.in-Ok.ensures.line;
    }

pub returns-in-Err-clause-calls : goal.returns-in-Err-clause-calls
returns-in-Err-clause-calls c =
    let b = c.args.b.now in
    let rest = c.lines.rest.now in
    let some : 0 < length rest = search rules in
    subst (λ e. ScriptFails e (parsed b)) (sym c.script_end.ensures)
    (end_fails (1 + feeds_before b rest) c.in-Err.fault (parsed b) (fails b rest (fault_of c.in-Err.fault) c.lines.invariant.to some c.lines.invariant.short c.in-Err.ensures.line))

pub returns-in-Err-clause-found : goal.returns-in-Err-clause-found
returns-in-Err-clause-found c =
    let b = c.args.b.now in
    let rest = c.lines.rest.now in
    let some : 0 < length rest = search rules in
    subst (λ e. IsOpened (Err e) b) (sym c.script_end.ensures)
    (end_opened (1 + feeds_before b rest) c.in-Err.fault b (fails b rest (fault_of c.in-Err.fault) c.lines.invariant.to some c.lines.invariant.short c.in-Err.ensures.line))

pub returns-in-Err-clause-only : goal.returns-in-Err-clause-only
returns-in-Err-clause-only c = λ read is.
    let b = c.args.b.now in
    let rest = c.lines.rest.now in
    let some : 0 < length rest = search rules in
    subst (λ e. IsTold read (Err e)) (sym c.script_end.ensures)
    (end_told (1 + feeds_before b rest) c.in-Err.fault b (fails b rest (fault_of c.in-Err.fault) c.lines.invariant.to some c.lines.invariant.short c.in-Err.ensures.line) read is)

pub invariant_of-result : goal.invariant_of-result
invariant_of-result c =
    let empty : length c.lines.rest.now ≡ 0 = search rules in
    record { good = (done c.args.b.now c.lines.rest.now c.lines.invariant.to empty c.lines.invariant.short).good }

pub returns-clause-calls : goal.returns-clause-calls
returns-clause-calls c =
    let empty : length c.lines.rest.now ≡ 0 = search rules in
    (done c.args.b.now c.lines.rest.now c.lines.invariant.to empty c.lines.invariant.short).calls

pub returns-clause-found : goal.returns-clause-found
returns-clause-found c =
    let empty : length c.lines.rest.now ≡ 0 = search rules in
    calls_opened c.args.b.now (done c.args.b.now c.lines.rest.now c.lines.invariant.to empty c.lines.invariant.short).calls

pub returns-clause-only : goal.returns-clause-only
returns-clause-only c = λ read is.
    let b = c.args.b.now in
    let empty : length c.lines.rest.now ≡ 0 = search rules in
    calls_told b (done b c.lines.rest.now c.lines.invariant.to empty c.lines.invariant.short).calls read is

pub returns-clause-few : goal.returns-clause-few
returns-clause-few c =
    let empty : length c.lines.rest.now ≡ 0 = search rules in
    (done c.args.b.now c.lines.rest.now c.lines.invariant.to empty c.lines.invariant.short).few
