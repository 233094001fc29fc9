use Rattle.std.proofs.Common.{◌∙◌, ◌<◌, ◌≤◌, ◌++◌, ap, arith, drop, get_or, length, map, set, take}
use Rattle.std.proofs.lemmas.List.{append-nil, drop_all, get_or_default, length-append, length-drop, length-map, length-take-le, take_all}
use Rattle.std.proofs.lemmas.List.Edits.{map_over_more}
use Rattle.dv_blocks.specs.Chunks.{lowered}
use Rattle.dv_blocks.proofs.removing.lower.Goals as goal

pub loop-at-preserved : goal.loop-at-preserved
loop-at-preserved c =
    let ns = c.args.starts.now in
    let now = c.loop-at.starts in
    let at = c.loop-at.at in
    let f = lowered c.args.from c.args.to in
    let less : at < length ns = c.loop-at-test.true in
    let x = get_or now at 0 in
    let split = ap length c.loop-at.invariant in
    let both = length-append (map f (take at ns)) (drop at ns) in
    let front = length-map (take at ns) f in
    let taken = length-take-le at ns (omega arith) in
    let rest = length-drop at ns in
    let inside : at < length now = omega arith in
    ap (λ n. set now at n) c.lower_one-number.ensures ∙ map_over_more f ns now at x less c.loop-at.invariant (get_or_default now at 0 x inside)

pub returns : goal.returns
returns c =
    let ns = c.args.starts.now in
    let at = c.loop-at.at in
    let f = lowered c.args.from c.args.to in
    let past : length ns ≤ at = c.loop-at-test.false in
    c.loop-at.invariant ∙ ap (λ t. map f t ++ drop at ns) (take_all at ns past) ∙ ap (λ t. map f ns ++ t) (drop_all at ns past) ∙ append-nil (map f ns)
