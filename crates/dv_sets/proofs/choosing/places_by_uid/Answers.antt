use Rattle.std.proofs.Common.{◌≡◌, ◌∙◌, ap, ltb, leb, rules, get_or}
use Rattle.std.specs.Prelude.{◌&&◌, max, min, nat_le}
use Rattle.std.proofs.lemmas.List.Sorted.{IsPartitionPoint-from_clause, IsPartitionedBy-ltb, IsPartitionedBy-leb}
use Rattle.dv_model.specs.declared.types.Shown.{Shown}
use Rattle.dv_model.specs.Sets.{end_value}
use Rattle.dv_sets.proofs.Largest.{no_fall, range_places}
use Rattle.dv_sets.proofs.choosing.places_by_uid.Goals as goal

pub returns-clause-is : goal.returns-clause-is
returns-clause-is c =
    let rows = c.args.rows.now in
    let low = c.min-low.result in
    let high = c.max-high.result in
    let up = no_fall rows c.requires.rising in
    let from = IsPartitionPoint-from_clause (λ (s : Shown). ltb s.uid low) rows c.partition_point.result c.partition_point.ensures.partitioned
    (IsPartitionedBy-ltb (λ (s : Shown). s.uid) rows low up) (λ a r f k. search rules) in
    let to = IsPartitionPoint-from_clause (λ (s : Shown). leb s.uid high) rows c.partition_point-2.result c.partition_point-2.ensures.partitioned
    (IsPartitionedBy-leb (λ (s : Shown). s.uid) rows high up) (λ a r f k. search rules) in
    let one = c.end_value-from.ensures in
    let other = c.end_value-to.ensures in
    let low-is : low ≡ min (end_value c.args.star c.args.span.from) (end_value c.args.star c.args.span.to) =
    c.min-low.ensures ∙ ap (λ n. min n c.end_value-to.result) one ∙ ap (λ n. min (end_value c.args.star c.args.span.from) n) other in
    let high-is : high ≡ max (end_value c.args.star c.args.span.from) (end_value c.args.star c.args.span.to) =
    c.max-high.ensures ∙ ap (λ n. max n c.end_value-to.result) one ∙ ap (λ n. max (end_value c.args.star c.args.span.from) n) other in
    λ k d less.
    let uid = (get_or rows k d).uid in
    range_places rows low high c.partition_point.result c.partition_point-2.result from to k d less
    ∙ ap (λ n. nat_le n uid && nat_le uid high) low-is
    ∙ ap (λ n. nat_le (min (end_value c.args.star c.args.span.from) (end_value c.args.star c.args.span.to)) uid && nat_le uid n) high-is
