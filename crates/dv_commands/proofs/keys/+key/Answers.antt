use Rattle.std.proofs.Common.{length, rules}
use Rattle.std.proofs.lemmas.Result.{err_from_is_err_and}
use Rattle.dv_formats.specs.Parsing.{key_at, several}
use Rattle.dv_commands.proofs.Loops.{ends, fails, goes_on, too_many}
use Rattle.dv_commands.proofs.Nested.{nested, no_end, no_keys}
use Rattle.dv_commands.proofs.keys.+key.Goals as goal

pub read_key-returns-in_err-keys : goal.read_key-returns-in_err-keys
read_key-returns-in_err-keys t c =
    let p = err_from_is_err_and c.from_residual.result c.from_residual.ensures.1 in
    rw (p.1, p.2) (no_keys c.in_err-keys.field-0.0 c.args.levels c.args.b.now c.in-Some.rest.now (search rules) c.in-Some.ensures c.in_err-keys.ensures)

pub read_key-returns-in_err-end : goal.read_key-returns-in_err-end
read_key-returns-in_err-end t c =
    let p = err_from_is_err_and c.from_residual-in_err-end.result c.from_residual-in_err-end.ensures.1 in
    rw (p.1, p.2) (no_end c.in_err-end.field-0.0 c.args.levels c.args.b.now c.in-Some.rest.now c.in_ok-keys.keys c.in_ok-keys.rest.now (search rules) c.in-Some.ensures c.in_ok-keys.ensures c.in_err-end.ensures)

pub read_key-returns-in-Some : goal.read_key-returns-in-Some
read_key-returns-in-Some t c =
    rw c.one_of.ensures (nested c.args.levels c.args.b.now c.in-Some.rest.now c.in_ok-keys.keys c.in_ok-keys.rest.now c.in_ok-end.end.now (search rules) c.in-Some.ensures c.in_ok-keys.ensures c.in_ok-end.ensures)

pub read_keys-returns-in_err-key : goal.read_keys-returns-in_err-key
read_keys-returns-in_err-key t c =
    let read = key_at c.args.levels in
    let count = length c.args.b.now in
    let p = err_from_is_err_and c.from_residual.result c.from_residual.ensures.1 in
    rw (p.1, p.2) (fails c.in_err-key.field-0.0 read c.loop.keys.items count c.loop.counter c.loop.rest.now (several read count c.args.b.now) c.loop-test.true c.in_err-key.ensures c.loop.invariant)

pub read_keys-returns-in_default : goal.read_keys-returns-in_default
read_keys-returns-in_default t c =
    let read = key_at c.args.levels in
    let count = length c.args.b.now in
    rw (c.from_vec.ensures, c.in_ok-push.ensures.items) (ends read c.loop.keys.items count c.loop.counter c.loop.rest.now c.in_ok-key.key c.in_ok-key.end.now (several read count c.args.b.now) c.loop-test.true c.in_ok-key.ensures c.in_default.ensures c.loop.invariant)

pub read_keys-loop-preserved : goal.read_keys-loop-preserved
read_keys-loop-preserved t c =
    let read = key_at c.args.levels in
    let count = length c.args.b.now in
    rw c.in_ok-push.ensures.items (goes_on read c.loop.keys.items count c.loop.counter c.loop.rest.now c.in_ok-key.key c.in_ok-key.end.now c.in-Some.next.now (several read count c.args.b.now) c.loop-test.true c.in_ok-key.ensures c.in-Some.ensures c.loop.invariant)

pub read_keys-returns : goal.read_keys-returns
read_keys-returns t c =
    let read = key_at c.args.levels in
    let count = length c.args.b.now in
    too_many read c.loop.keys.items count c.loop.counter c.loop.rest.now (several read count c.args.b.now) c.loop-test.false c.loop.invariant
