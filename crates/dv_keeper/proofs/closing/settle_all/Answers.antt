use Rattle.std.proofs.Common.{◌≡◌, ◌∙◌, List, [], ◌++◌, rules, subst}
use Rattle.std.specs.Prelude.{All}
use mathlib.Core.List.{IsPrefix}
use Rattle.dv_member.specs.Members.{Member, notes_of}
use Rattle.dv_shared.specs.Kept.{Locked, notes_in}
use Rattle.dv_keeper.proofs.Settles.{settle_more}
use Rattle.dv_keeper.proofs.closing.settle_all.Goals as goal

pub loop-s-preserved : goal.loop-s-preserved
loop-s-preserved g c =
    let inv = c.loop-s.invariant in
    let s = c.in-Some.s in (
      c.settle.ensures.same ∙ inv.0,
      settle_more c.loop-s.sessions.items c.pop.new.self.items c.args.sessions.items (notes_in c.args.shared.now.kept) s c.loop-s.writes.parts c.loop-s.writes.amount c.loop-s.refusals.parts c.loop-s.refusals.amount
          c.settle.new.writes.parts c.settle.new.writes.amount c.settle.new.refusals.parts c.settle.new.refusals.amount inv.1 (search rules)
          (subst (λ (l : Locked g.row.S.Denot g.row.C.Denot). IsPrefix (notes_of s) (notes_in l.kept)) inv.0 c.settle.ensures.begins) c.settle.ensures.writes c.settle.ensures.refusals,
    )

pub returns-clause-begins : goal.returns-clause-begins
returns-clause-begins g c =
    let h = c.loop-s.invariant.1 in
    let none : c.loop-s.sessions.items ≡ [] = search rules in
    let are : h.rest ≡ c.args.sessions.items = subst (λ (l : List Member). l ++ h.rest ≡ c.args.sessions.items) none h.are in
    subst (λ (ss : List Member). All (λ (s : Member). IsPrefix (notes_of s) (notes_in c.args.shared.now.kept)) ss) are h.begin
