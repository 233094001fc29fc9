use Rattle.std.proofs.Common.{◌≡◌, ℕ, false, List, length, replicate, ◌∙◌, ap}
use Rattle.std.specs.Prelude.{sum_by}
use Rattle.dv_maildrop.specs.declared.types.Listed.{Listed}
use Rattle.dv_maildrop.proofs.Kept.{kept_new}
use Rattle.dv_maildrop.proofs.maildrop.Maildrop.new.Goals as goal

pub invariant_of-result : goal.invariant_of-result
invariant_of-result c =
    let rows = c.args.rows in
    let clear : c.in_ok-flags.flags.items ≡ replicate (length rows) false = c.in_ok-flags.ensures.items_if_clones_equal (λ y e. e) ∙ ap (λ (n : ℕ). replicate n false) c.len.ensures in
    let sum : c.octets_of-octets.result ≡ sum_by (λ row. row.size) rows = c.octets_of-octets.ensures ∙ ap (λ (rs : List Listed). sum_by (λ row. row.size) rs) c.as_slice.ensures in
    kept_new c.args.uid_validity rows false c.new.result.items c.in_ok-flags.flags.items c.len-count.result c.octets_of-octets.result c.new.ensures.items clear c.len-count.ensures sum
