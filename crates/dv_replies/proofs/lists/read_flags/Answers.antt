use Rattle.std.proofs.Common.{◌≡◌, ◌∙◌, [], Some, None, codes, length, ap, sym, subst}
use Rattle.std.proofs.lemmas.Result.{err_from_is_err_and}
use Rattle.dv_formats.specs.Parsing.{after, before, from, is_stop}
use Rattle.dv_commands.specs.Reads.{Fails}
use Rattle.dv_replies.specs.Reading.{flag_behind, flags_at}
use Rattle.dv_replies.proofs.Loops.{flags_end, flags_fail, flags_go_on, too_many_flags}
use Rattle.dv_replies.proofs.lists.read_flags.Goals as goal

pub returns-in_err-flags : goal.returns-in_err-flags
returns-in_err-flags c =
    let count = length c.args.b.now in
    let p = err_from_is_err_and c.from_residual.result c.from_residual.ensures.1 in
    let fault : Fails c.in_err-flags.field-0.0 (flag_behind (c.loop.flags, c.loop.keywords) (before is_stop c.loop.rest.now)) = subst (λ w. Fails c.in_err-flags.field-0.0 (flag_behind (c.loop.flags, c.loop.keywords) w)) c.split_word.ensures.word c.in_err-flags.ensures in
    rw (p.1, p.2) (flags_fail (c.loop.flags, c.loop.keywords) count c.loop.counter c.loop.rest.now (flags_at count (0, []) c.args.b.now) c.in_err-flags.field-0.0 c.loop-test.true fault c.loop.invariant)

pub returns-in_default : goal.returns-in_default
returns-in_default c =
    let count = length c.args.b.now in
    let more : flag_behind (c.loop.flags, c.loop.keywords) (before is_stop c.loop.rest.now) ≡ Some (c.in_ok-flags.flags, c.add_flag.new.keywords) = ap (flag_behind (c.loop.flags, c.loop.keywords)) (sym c.split_word.ensures.word) ∙ c.in_ok-flags.ensures in
    let none : after (codes " ") (from is_stop c.loop.rest.now) ≡ None = ap (after (codes " ")) (sym c.split_word.ensures.rest) ∙ c.in_default.ensures in
    flags_end (c.loop.flags, c.loop.keywords) count c.loop.counter c.loop.rest.now (flags_at count (0, []) c.args.b.now) (c.in_ok-flags.flags, c.add_flag.new.keywords) c.loop-test.true more none c.loop.invariant
    ∙ ap (λ t. Some ((c.in_ok-flags.flags, c.add_flag.new.keywords), t)) (sym c.split_word.ensures.rest)

pub loop-preserved : goal.loop-preserved
loop-preserved c =
    let count = length c.args.b.now in
    let more : flag_behind (c.loop.flags, c.loop.keywords) (before is_stop c.loop.rest.now) ≡ Some (c.in_ok-flags.flags, c.add_flag.new.keywords) = ap (flag_behind (c.loop.flags, c.loop.keywords)) (sym c.split_word.ensures.word) ∙ c.in_ok-flags.ensures in
    let space : after (codes " ") (from is_stop c.loop.rest.now) ≡ Some c.in-Some.next.now = ap (after (codes " ")) (sym c.split_word.ensures.rest) ∙ c.in-Some.ensures in
    flags_go_on (c.loop.flags, c.loop.keywords) count c.loop.counter c.loop.rest.now (flags_at count (0, []) c.args.b.now) (c.in_ok-flags.flags, c.add_flag.new.keywords) c.in-Some.next.now c.loop-test.true more space c.loop.invariant

pub returns : goal.returns
returns c =
    let count = length c.args.b.now in
    too_many_flags (c.loop.flags, c.loop.keywords) count c.loop.counter c.loop.rest.now (flags_at count (0, []) c.args.b.now) c.loop-test.false c.loop.invariant
