use Rattle.std.proofs.Common.{◌≡◌, ◌+◌, ◌-◌, length, take, drop, replicate, rules, arith, ap, sym, subst, ◌∙◌}
use Rattle.std.proofs.lemmas.List.{length-drop, length-take}
use Rattle.dv_model.specs.Names.{IsName}
use Rattle.dv_model.specs.Spelling.{padding}
use Rattle.dv_keywords.specs.Tables.{IsNameAt}
use Rattle.dv_keywords.proofs.Texts.{name_stands}
use Rattle.dv_keywords.proofs.text.read_name.Goals as goal

pub returns-clause-some : goal.returns-clause-some
returns-clause-some c =
    let b = c.args.b.now in
    let n = c.from-len.result in
    let same : 2 + n - 2 ≡ n = omega arith in
    let behind : c.size_of-size.result - (2 + n) ≡ padding (2 + n) = omega (arith, c.size_of-size.ensures) in
    let zeros = (c.are_zero.ensures).0 c.if-not-are_zero.false in
    let size : length (take (padding (2 + n)) (drop (2 + n) b)) ≡ padding (2 + n) = omega (arith, length-take (padding (2 + n)) (drop (2 + n) b), length-drop (2 + n) b) in
    let is : IsName (take n (drop 2 b)) = subst (λ k. IsName (take k (drop 2 b))) same (c.is_name.ensures.0 c.if-not-is_name.false) in
    let blank : take (padding (2 + n)) (drop (2 + n) b) ≡ replicate (padding (2 + n)) 0 =
    subst (λ k. take k (drop (2 + n) b) ≡ replicate (length (take k (drop (2 + n) b))) 0) behind zeros ∙ ap (λ k. replicate k 0) size in
    subst (λ k. IsNameAt b (take k (drop 2 b))) (sym same) (name_stands b n (λ i. omega (arith, c.type_inv.b i)) (search rules) (omega arith) is blank)
