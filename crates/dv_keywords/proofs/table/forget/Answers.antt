use Rattle.std.proofs.Common.{◌≡◌, ◌≢◌, ℕ, ◌+◌, AllPairs, List, ◌∷◌, ◌++◌, [], None, cond, length, not, arith, ap, sym, ◌∙◌, rules, subst}
use Rattle.std.specs.Str.{bytes_eq}
use Rattle.std.proofs.lemmas.List.{length_push}
use Rattle.dv_keywords.specs.Finding.{FindsAlso, found}
use Rattle.dv_keywords.specs.declared.index.Index.{Index}
use Rattle.dv_keywords.proofs.Finding.{agree, differ, distinct_front, front_of, goes, stays}
use Rattle.dv_keywords.proofs.table.forget.Goals.{then-ne, else-ne}
use Rattle.dv_keywords.proofs.table.forget.Goals as goal

pub loop-name-preserved-in-Some : goal.loop-name-preserved-in-Some
loop-name-preserved-in-Some c =
    let before = c.loop-name.names.items in
    let front = c.pop.new.self.items in
    let last = c.in-Some.last in
    let name = c.args.name.now in
    let place = c.args.place in
    let parts : before ≡ front ++ last ∷ [] = search rules in
    let size : length before ≡ length front + 1 = ap length parts ∙ length_push front last in
    let found_before : FindsAlso name place c.loop-name.index.map (front ++ last ∷ []) = subst (FindsAlso name place c.loop-name.index.map) parts c.loop-name.invariant.2 in
    let also : FindsAlso name place c.if-ne.index.map front = elim c.if-ne.branch [
      | then-ne w ↦
          let apart : last ≢ name = differ last name (ap (λ (bs : List ℕ). not (bytes_eq bs name)) (sym c.as_slice.ensures) ∙ sym c.ne.ensures ∙ w.if-ne.true) in
          let removed : (other : List ℕ) → found w.remove.new.self.map other ≡ cond (bytes_eq last other) None (found c.loop-name.index.map other) =
          subst (λ (bs : List ℕ). (other : List ℕ) → found w.remove.new.self.map other ≡ cond (bytes_eq bs other) None (found c.loop-name.index.map other)) w.as_slice-then-ne.ensures w.remove.ensures in
          subst (λ (i : Index). FindsAlso name place i.map front) (sym w.index-is)
          (goes front last name place c.loop-name.index.map w.remove.new.self.map apart (subst (λ (ns : List (List ℕ)). AllPairs (λ a b. a ≢ b) ns) parts (distinct_front c.args.names.now.items before (length before) c.requires.distinct c.loop-name.invariant.0)) found_before removed)
      | else-ne w ↦
          let same : last ≡ name = agree last name (ap (λ (bs : List ℕ). not (bytes_eq bs name)) (sym c.as_slice.ensures) ∙ sym c.ne.ensures ∙ w.if-ne.false) in
          subst (λ (i : Index). FindsAlso name place i.map front) (sym w.index-is) (stays front last name place c.loop-name.index.map same found_before)
    ] in
    (front_of c.args.names.now.items front before last parts c.loop-name.invariant.0, omega (arith, size), also, c.pop.ensures.capacity ∙ c.loop-name.invariant.3)
