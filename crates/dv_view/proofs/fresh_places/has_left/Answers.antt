use Rattle.std.proofs.Common.{◌≡◌, ◌≤◌, ◌&&◌, false, not, nat_eq, get_or, ltb, rules, sym, ◌∙◌, ap, arith}
use Rattle.std.specs.Prelude.{is_some}
use Rattle.std.proofs.lemmas.Bool.{ltb-true, ltb-false, ne_eqb, eq-eqb}
use Rattle.std.proofs.lemmas.List.Sorted.{IsPartitionPoint-from_clause}
use Rattle.dv_model.specs.declared.types.Fresh.{Fresh}
use Rattle.dv_model.proofs.Clients.{not_not}
use Rattle.dv_view.proofs.Placing.{changes_split, left_at, left_past, rises_of}
use Rattle.dv_view.proofs.fresh_places.has_left.Goals as goal

pub returns-then-at-fresh : goal.returns-then-at-fresh
returns-then-at-fresh c =
    let fresh = c.args.fresh.now in
    let at = c.partition_point-at.result in
    let place = IsPartitionPoint-from_clause (λ (f : Fresh). ltb f.uid c.args.uid) fresh at c.partition_point-at.ensures.partitioned (changes_split fresh c.args.uid c.requires) (λ a r f k. search rules) in
    sym (left_past fresh c.args.uid at (λ k d less. ltb-true (get_or fresh k d).uid c.args.uid (place.0 k d (omega arith) less)) c.if-at-fresh.true)

pub returns-then-f-uid : goal.returns-then-f-uid
returns-then-f-uid c =
    let fresh = c.args.fresh.now in
    let uid = c.args.uid in
    let at = c.partition_point-at.result in
    let f = c.index-fresh-at.result in
    let place = IsPartitionPoint-from_clause (λ (f : Fresh). ltb f.uid uid) fresh at c.partition_point-at.ensures.partitioned (changes_split fresh uid c.requires) (λ a r f k. search rules) in
    let left = left_at fresh uid at f (rises_of fresh c.requires) (λ k d less. ltb-true (get_or fresh k d).uid uid (place.0 k d (omega arith) less)) c.if-at-fresh.false c.index-fresh-at.is (omega (arith, c.if-f-uid.true)) in
    sym (left ∙ ap (λ b. b && not (is_some f.row)) (eq-eqb f.uid uid c.if-f-uid.true) ∙ ap not c.is_none.ensures ∙ not_not c.is_none.result)

pub returns-else-f-uid : goal.returns-else-f-uid
returns-else-f-uid c =
    let fresh = c.args.fresh.now in
    let uid = c.args.uid in
    let at = c.partition_point-at.result in
    let f = c.index-fresh-at.result in
    let place = IsPartitionPoint-from_clause (λ (f : Fresh). ltb f.uid uid) fresh at c.partition_point-at.ensures.partitioned (changes_split fresh uid c.requires) (λ a r f k. search rules) in
    let from : uid ≤ (get_or fresh at f).uid = ltb-false (get_or fresh at f).uid uid (place.1 at f (omega arith) c.if-at-fresh.false) in
    let same : f.uid ≡ (get_or fresh at f).uid = ap (λ (g : Fresh). g.uid) c.index-fresh-at.is in
    let left = left_at fresh uid at f (rises_of fresh c.requires) (λ k d less. ltb-true (get_or fresh k d).uid uid (place.0 k d (omega arith) less)) c.if-at-fresh.false c.index-fresh-at.is (omega (arith, from, same)) in
    let other : nat_eq f.uid uid ≡ false = ne_eqb f.uid uid c.if-f-uid.false in
    other ∙ sym (left ∙ ap (λ b. b && not (is_some f.row)) other)
