use Rattle.std.proofs.Common.{◌<◌, ◌≤◌, ◌∙◌, length, map, ap, sym, arith}
use Rattle.std.proofs.lemmas.List.{take_all}
use Rattle.std.proofs.lemmas.Option.{get_or_from_slice_get}
use Rattle.dv_model.specs.declared.types.Row.{Row}
use Rattle.dv_model.specs.Views.{shown}
use Rattle.dv_live.specs.Turning.{is_met}
use Rattle.dv_live.proofs.Found.{found, found_is, found_step}
use Rattle.dv_live.proofs.saved.found_in.Goals as goal

pub loop-k-preserved : goal.loop-k-preserved
loop-k-preserved c = λ key ready steady_key.
    let m = c.args.live.now.mailbox in
    let k = c.loop-k.k in
    let row : Row = c.row.result.now in
    let less : k < length m.rows = omega (arith, c.loop-k-test.true, c.count-k-end.ensures) in
    c.in_ok-add_met.ensures
    ∙ found_step key m.keywords m.rows k row c.in_ok-row.row c.in_ok-met.met c.loop-k.uids.items less (get_or_from_slice_get m.rows k row row c.row.ensures) c.in_ok-row.ensures
    (c.in_ok-met.ensures key ready steady_key ∙ ap (λ ns. is_met key ns c.in_ok-row.row) (c.names-names.ensures.is ∙ c.names.ensures)) (c.loop-k.invariant key ready steady_key)

pub returns : goal.returns
returns c = λ key ready steady_key.
    let m = c.args.live.now.mailbox in
    let whole : length m.rows ≤ c.loop-k.k = omega (arith, c.loop-k-test.false, c.count-k-end.ensures) in
    c.from_vec.ensures
    ∙ c.loop-k.invariant key ready steady_key ∙ ap (λ rows. found key m.keywords (map shown rows)) (take_all c.loop-k.k m.rows whole)
    ∙ sym (found_is key m.keywords steady_key (map shown m.rows))
