use Rattle.std.proofs.Common.{◌≡◌, ◌++◌, [], List, ◌∙◌, ap, append-nil, rules, sym}
use Rattle.std.specs.Prelude.{reverse}
use Rattle.dv_qresync.specs.declared.types.Cached.{Cached}
use Rattle.dv_qresync.proofs.Merged.{moved_over, with_rows}
use Rattle.dv_qresync.proofs.merging.Merge.finish.Goals as goal

pub loop-row-preserved : goal.loop-row-preserved
loop-row-preserved c =
    ap (λ (cs : List Cached). cs ++ reverse c.pop.new.self.items) c.in_ok-push.ensures.items
    ∙ moved_over c.loop-row.rows.items c.loop-row.rest.items c.pop.new.self.items c.in-Some.row c.in-Some.ensures.items
    ∙ c.loop-row.invariant

pub returns : goal.returns
returns c =
    let none : c.loop-row.rest.items ≡ [] = search rules in
    ap (with_rows c.args.self.uid_validity c.args.self.highest)
    (c.from_vec.ensures
    ∙ sym (append-nil c.loop-row.rows.items)
    ∙ ap (λ (cs : List Cached). c.loop-row.rows.items ++ reverse cs) (sym none)
    ∙ c.loop-row.invariant)
