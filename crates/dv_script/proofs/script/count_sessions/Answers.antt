use Rattle.std.proofs.Common.{◌≡◌, ◌∙◌, ◌<◌, ◌+◌, length, Ok, sym, subst, ap, arith, rules}
use Rattle.dv_formats.specs.Parsing.{TakenLine, feeds_before, first_line, line_at}
use Rattle.dv_script.specs.Beside.{parsed_among}
use Rattle.dv_script.specs.Sources.{LineFails, ScriptFails, may_name}
use Rattle.dv_script.proofs.LineByLine.{IsReadTo, beyond_limit, done, fails, goes_on, same_line}
use Rattle.dv_script.proofs.Rests.{read_is}
use Rattle.dv_script.proofs.script.count_sessions.Goals as goal

pub returns-then-b-gt-MAX_SCRIPT-clause-fault : goal.returns-then-b-gt-MAX_SCRIPT-clause-fault
returns-then-b-gt-MAX_SCRIPT-clause-fault c = beyond_limit c.args.first c.args.b.now c.if-b-gt-MAX_SCRIPT.true

pub returns-in-Err-clause-fault : goal.returns-in-Err-clause-fault
returns-in-Err-clause-fault c =
    let rest = c.lines.rest.now in
    let some : 0 < length rest = search rules in
    let same = same_line c.lines.names rest c.first_line.result.0.now c.first_line.result.1.now c.first_line.ensures.text c.first_line.ensures.rest in
    let fault : LineFails c.in-Err.fault (line_at c.lines.names (first_line rest).0 (first_line rest).1) = subst (LineFails c.in-Err.fault) same c.in-Err.ensures.line in
    subst (λ e. ScriptFails e (parsed_among c.args.first c.args.b.now)) (sym c.script_end.ensures) (fails c.args.first c.args.b.now c.lines.number c.lines.names rest c.in-Err.fault c.lines.invariant.same some c.lines.invariant.short fault)

pub lines-preserved : goal.lines-preserved
lines-preserved c =
    let rest = c.lines.rest.now in
    let next = c.in-Ok.next.now in
    let taken : TakenLine = (may_name c.in-Ok.field-0-0, c.read_line.new.names, next) in
    let some : 0 < length rest = search rules in
    let less : length next < length rest = omega (arith, c.in-Ok.ensures.within, c.first_line.ensures.shorter some) in
    let same = same_line c.lines.names rest c.first_line.result.0.now c.first_line.result.1.now c.first_line.ensures.text c.first_line.ensures.rest in
    let read : line_at c.lines.names (first_line rest).0 (first_line rest).1 ≡ Ok taken = sym same ∙ c.in-Ok.ensures.line in
    let to : IsReadTo c.args.first c.args.b.now (c.lines.number + feeds_before rest next) c.read_line.new.names next =
    goes_on c.args.first c.args.b.now c.lines.number c.lines.names rest taken c.lines.invariant.same some less read in
    record {
      short = c.lines.invariant.short;
      counted = omega (arith, c.lines.invariant.counted, c.feeds_before-number.ensures.left);
      seats = (read_is c.lines.names rest taken read).few c.lines.invariant.seats;
      same = subst (λ n. IsReadTo c.args.first c.args.b.now (c.lines.number + n) c.read_line.new.names next) (sym c.feeds_before-number.ensures.count) to;
    }

pub returns-clause-lines : goal.returns-clause-lines
returns-clause-lines c =
    let empty : length c.lines.rest.now ≡ 0 = search rules in
    (done c.args.first c.args.b.now c.lines.number c.lines.names c.lines.rest.now c.lines.invariant.same empty c.lines.invariant.short).lines

pub returns-clause-good : goal.returns-clause-good
returns-clause-good c =
    let empty : length c.lines.rest.now ≡ 0 = search rules in
    (done c.args.first c.args.b.now c.lines.number c.lines.names c.lines.rest.now c.lines.invariant.same empty c.lines.invariant.short).good

pub returns-clause-few : goal.returns-clause-few
returns-clause-few c =
    let empty : length c.lines.rest.now ≡ 0 = search rules in
    (done c.args.first c.args.b.now c.lines.number c.lines.names c.lines.rest.now c.lines.invariant.same empty c.lines.invariant.short).few

pub returns-clause-sessions : goal.returns-clause-sessions
returns-clause-sessions c =
    let empty : length c.lines.rest.now ≡ 0 = search rules in
    (c.len.ensures ∙ ap length (done c.args.first c.args.b.now c.lines.number c.lines.names c.lines.rest.now c.lines.invariant.same empty c.lines.invariant.short).named, omega (arith, c.len.ensures, c.lines.invariant.seats))

pub returns-clause-named : goal.returns-clause-named
returns-clause-named c =
    let empty : length c.lines.rest.now ≡ 0 = search rules in
    (done c.args.first c.args.b.now c.lines.number c.lines.names c.lines.rest.now c.lines.invariant.same empty c.lines.invariant.short).spoken
