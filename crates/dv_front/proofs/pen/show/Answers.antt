use Rattle.std.proofs.Common.{◌≡◌, List, rules}
use mathlib.Core.List.{IsPrefix}
use Rattle.dv_front.specs.declared.notes.Note.{Note}
use Rattle.dv_front.proofs.Prefixes.{prefix_both}
use Rattle.dv_front.proofs.Steps.{shares, joins, learns, compares}
use Rattle.dv_front.proofs.pen.show.Goals as goal

pub split_seat-second-requires : goal.split_seat-second-requires
split_seat-second-requires c = (search rules, search rules, shares _ _ _ (search rules))

pub join_seat-requires : goal.join_seat-requires
join_seat-requires c = (search rules, search rules, search rules, search rules, joins _ _ _ _ _ (search rules) (search rules))

pub load-requires : goal.load-requires
load-requires c = (search rules, search rules, learns _ _ _ _ (search rules) (search rules))

pub split_seat-second-requires-2 : goal.split_seat-second-requires-2
split_seat-second-requires-2 c = (search rules, search rules, shares _ _ _ (search rules))

pub join_seat-requires-2 : goal.join_seat-requires-2
join_seat-requires-2 c = (search rules, search rules, search rules, search rules, joins _ _ _ _ _ (search rules) (search rules))

pub load-requires-2 : goal.load-requires-2
load-requires-2 c = (search rules, search rules, compares _ _ _ _ (search rules))

pub returns-clause-pass : goal.returns-clause-pass
returns-clause-pass c =
    let N : List Note = c.load.new.seat.me.0.own.notes in
    let P : List Note = c.pen.inside.seat.me.0.own.notes in
    let one : IsPrefix P N = search rules in
    let two : IsPrefix N P = search rules in
    let same : N ≡ P = prefix_both N P two one in
    search rules
