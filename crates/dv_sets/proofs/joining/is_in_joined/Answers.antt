use Rattle.std.proofs.Common.{◌∙◌, ap, get_or, ltb, rules, sym}
use Rattle.std.specs.Prelude.{nat_le}
use Rattle.std.proofs.lemmas.List.{get_or_default}
use Rattle.std.proofs.lemmas.List.Sorted.{IsPartitionPoint-from_clause, IsPartitionedBy-ltb}
use Rattle.dv_model.specs.declared.types.End.TheVariants.{Number}
use Rattle.dv_model.specs.declared.types.Span.{Span}
use Rattle.dv_sets.specs.Joined.{high_of, low_of}
use Rattle.dv_sets.proofs.Joins.{first_has, none_behind}
use Rattle.dv_sets.proofs.joining.is_in_joined.Goals as goal

pub returns-then-at-set : goal.returns-then-at-set
returns-then-at-set c = λ apart.
    let set = c.args.set.now in
    let n = c.args.n in
    let at = c.partition_point-at.result in
    let point = IsPartitionPoint-from_clause (λ (s : Span). ltb (high_of s) n) set at c.partition_point-at.ensures.partitioned
    (IsPartitionedBy-ltb high_of set n apart.highs) (λ a r f k. search rules) in
    λ star. sym (none_behind set n at apart point c.if-at-set.true star)

abbrev blank : Span
blank = record { from = Number 0; to = Number 0 }

pub returns : goal.returns
returns c = λ apart.
    let set = c.args.set.now in
    let n = c.args.n in
    let at = c.partition_point-at.result in
    let here = c.if-at-set.false in
    let s = get_or set at blank in
    let point = IsPartitionPoint-from_clause (λ (s : Span). ltb (high_of s) n) set at c.partition_point-at.ensures.partitioned
    (IsPartitionedBy-ltb high_of set n apart.highs) (λ a r f k. search rules) in
    λ star.
    ap (λ k. nat_le k n) (c.low_of.ensures ∙ ap low_of (get_or_default set at _ blank here))
    ∙ first_has set n at apart point s here (get_or_default set at blank s here) star
