use Rattle.std.proofs.Common.{◌≡◌, ℕ, ◌<◌, ◌≤◌, List, [], ◌∷◌, ◌++◌, sym, ◌∙◌, ap, subst, arith}
use Rattle.std.specs.Prelude.{All, max}
use Rattle.std.proofs.lemmas.List.Elements.{All-weaker}
use Rattle.dv_model.specs.declared.types.Pair.{Pair}
use Rattle.dv_ranges.specs.Ranges.{ArePairsApart}
use Rattle.dv_ranges.proofs.Apart.{back_of, end, first_of, front, front_of, put, put_at_end}
use Rattle.dv_ranges.proofs.pairs.add.Goals as goal

-- the last range is made longer
longer : (rest : List Pair) (last pair : Pair) (most : ℕ) → ArePairsApart (rest ++ last ∷ []) → most ≡ max last.last pair.last → ArePairsApart (rest ++ record { first = last.first; last = most } ∷ [])
longer rest last pair most are e =
    let at = end (λ (p : Pair). p.first) (λ (p : Pair). p.last) 0 rest last are in
    put (λ (p : Pair). p.first) (λ (p : Pair). p.last) 0 rest (record { first = last.first; last = most }) (front (λ (p : Pair). p.first) (λ (p : Pair). p.last) 0 rest (last ∷ []) are) at.2 at.0 (omega (arith, at.1))

-- a range begins behind the last one
another : (rest : List Pair) (last pair : Pair) → ArePairsApart (rest ++ last ∷ []) → last.last < pair.first → pair.first ≤ pair.last → ArePairsApart ((rest ++ last ∷ []) ++ pair ∷ [])
another rest last pair are less some =
    let at = end (λ (p : Pair). p.first) (λ (p : Pair). p.last) 0 rest last are in
    put (λ (p : Pair). p.first) (λ (p : Pair). p.last) 0 (rest ++ last ∷ []) pair are
    (put_at_end (λ (p : Pair). p.last < pair.first) rest last (All-weaker (λ (p : Pair). p.last < last.first) (λ (p : Pair). p.last < pair.first) (λ p h. omega (arith, at.1)) rest at.2) less)
    (omega arith) some

pub returns-then-pair-last-clause-apart : goal.returns-then-pair-last-clause-apart
returns-then-pair-last-clause-apart c =
    subst ArePairsApart (sym c.in_ok-push-2.ensures.items)
    (longer c.pop.new.self.items c.in-Some.last c.args.pair c.max.result (subst ArePairsApart c.in-Some.ensures.items c.requires.apart) c.max.ensures)

pub returns-then-pair-last-clause-behind : goal.returns-then-pair-last-clause-behind
returns-then-pair-last-clause-behind c =
    let rest = c.pop.new.self.items in
    let last = c.in-Some.last in
    let low = λ (p : Pair). p.first ≤ c.args.pair.first in
    let all : All low (rest ++ last ∷ []) = subst (All low) c.in-Some.ensures.items c.requires.behind in
    subst (All low) (sym c.in_ok-push-2.ensures.items)
    (put_at_end low rest (record { first = last.first; last = c.max.result }) (front_of low rest (last ∷ []) all) (first_of low last [] (back_of low rest (last ∷ []) all)))

pub returns-clause-apart : goal.returns-clause-apart
returns-clause-apart c =
    let rest = c.pop.new.self.items in
    let last = c.in-Some.last in
    subst ArePairsApart (sym (c.in_ok-push-4.ensures.items ∙ ap (λ (ps : List Pair). ps ++ c.args.pair ∷ []) c.in_ok-push-3.ensures.items))
    (another rest last c.args.pair (subst ArePairsApart c.in-Some.ensures.items c.requires.apart) (omega (arith, c.if-pair-last.false)) (omega (arith, c.if-pair.false)))
