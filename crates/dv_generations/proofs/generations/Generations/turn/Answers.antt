use Rattle.std.proofs.Common.{◌≡◌, ◌+◌, ◌++◌, ◌∷◌, [], ◌∙◌, sym, ap, subst, arith, length, List}
use Rattle.std.specs.Vec.{vec_len}
use Rattle.dv_front.specs.Ends.{PassView}
use Rattle.dv_front.specs.Rolls.{ListingView}
use Rattle.dv_generations.specs.declared.ends.Ends.{Ends}
use Rattle.dv_generations.specs.Feeds.{Feed, NextView, joined, origin_of}
use Rattle.dv_generations.specs.Linked.{AreGenerations}
use Rattle.dv_generations.proofs.Turning.{turned_on}
use Rattle.dv_generations.proofs.generations.Generations.turn.Goals as goal

pub invariant_of-self : goal.invariant_of-self
invariant_of-self g c =
    let items : c.push.new.self.items ≡ c.self.inside.older.items ++ c.replace-older.result ∷ [] = rw c.unwrap.ensures at c.push.ensures.items in
    let sealed : c.push.new.self.items ≡ c.self.inside.older.items ++ record c.self.inside.newest { pen = c.seal.new.pen } ∷ [] =
    items ∙ ap (λ (e : Ends). c.self.inside.older.items ++ e ∷ []) c.replace-older.ensures.value in
    let base = ap (λ (n : NextView). n.base) c.next.view_is ∙ c.requires.0.0 ∙ ap (λ (f : Feed). joined f.parts) (sym c.self.view_is) in
    let number = ap (λ (n : NextView). n.number) c.next.view_is ∙ c.requires.0.1 ∙ ap (λ (f : Feed). length f.parts + 1) (sym c.self.view_is) in
    let names : c.enter.new.r.items ≡ c.self.inside.roll.items ++ c.next.inside.ends.pen.table ∷ [] =
    ap (λ (l : ListingView). l.items) c.enter.ensures ∙ ap (λ (p : PassView). c.self.inside.roll.items ++ p.table ∷ []) c.next.invariant.0.pass in
    let all = turned_on (origin_of g.K.Keeping.start) g.K.Keeping.count c.self.inside.older.items c.self.inside.newest c.self.inside.roll.items c.self.invariant.0
    c.seal.new.pen c.next.inside.ends c.enter.new.r.items c.seal.ensures c.next.invariant.0 base number names in
    let first : AreGenerations (origin_of g.K.Keeping.start) g.K.Keeping.count c.push.new.self.items c.next.inside.ends c.enter.new.r.items =
    subst (λ (es : List Ends). AreGenerations (origin_of g.K.Keeping.start) g.K.Keeping.count es c.next.inside.ends c.enter.new.r.items) (sym sealed) all in
    let long : vec_len c.push.new.self ≡ vec_len c.self.inside.older + 1 = rw c.unwrap.ensures at c.push.ensures.len in
    let spare = ap (λ (f : Feed). f.spare) c.self.view_is in
    let room = c.self.invariant.2 in (
      subst (λ (e : Ends). AreGenerations (origin_of g.K.Keeping.start) g.K.Keeping.count c.push.new.self.items e c.enter.new.r.items) (sym c.replace-older.ensures.after) first,
      ap (λ (l : ListingView). l.table) c.enter.ensures ∙ c.self.invariant.1,
      omega (arith, long, spare, room, c.requires.1, c.push.ensures.capacity),
      c.self.invariant.3,
      c.next.invariant.1 ∙ ap (λ (e : Ends). e.pen.table) (sym c.replace-older.ensures.after),
    )
