use Rattle.std.proofs.Common.{◌≡◌, ◌∙◌, [], ap, get_or, length, rules, subst, sym}
use Rattle.std.proofs.Math.ListN.{set}
use Rattle.dv_rows.proofs.PutBack.{IsReplaced, ends, starts, step}
use Rattle.dv_rows.proofs.replacing.put_each.Goals as goal

pub loop-new-init : goal.loop-new-init
loop-new-init g c =
    let many : length c.args.rows.now ≡ length c.args.made.items = search rules in
    starts (g.T.Made.put c.args.modseq) c.args.rows.now c.args.made.items many

pub loop-new-preserved : goal.loop-new-preserved
loop-new-preserved g c =
    let n : c.len-at.result ≡ length c.pop.new.self.items = search rules in
    let at : c.index-rows-at.result ≡ get_or c.loop-new.rows (length c.pop.new.self.items) c.index-rows-at.result = c.index-rows-at.is ∙ ap (λ k. get_or c.loop-new.rows k c.index-rows-at.result) n in
    let put : c.put.new.row ≡ g.T.Made.put c.args.modseq c.index-rows-at.result c.in-Some.new = c.put.ensures ∙ ap (λ r. g.T.Made.put c.args.modseq r c.in-Some.new) (sym c.index-rows-at.is) in
    subst (λ l. IsReplaced (g.T.Made.put c.args.modseq) c.args.rows.now c.args.made.items l c.pop.new.self.items)
    (ap (λ k. set c.loop-new.rows k (g.T.Made.put c.args.modseq c.index-rows-at.result c.in-Some.new)) (sym n) ∙ ap (set c.loop-new.rows c.len-at.result) (sym put))
    (step (g.T.Made.put c.args.modseq) c.args.rows.now c.args.made.items c.loop-new.rows c.loop-new.made.items c.pop.new.self.items c.in-Some.new c.index-rows-at.result c.loop-new.invariant c.in-Some.ensures.items at)

pub returns : goal.returns
returns g c =
    let none : c.loop-new.made.items ≡ [] = search rules in
    λ f zip. ends (g.T.Made.put c.args.modseq) c.args.rows.now c.args.made.items c.loop-new.rows c.loop-new.made.items c.loop-new.invariant none f zip
