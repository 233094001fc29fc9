use Rattle.std.proofs.Common.{◌≡◌, ℕ, List, Some, cond, rules, subst}
use Rattle.std.specs.Str.{bytes_eq}
use Rattle.dv_keywords.specs.Finding.{found}
use Rattle.dv_keywords.proofs.Finding.{updated}
use Rattle.dv_keywords.proofs.index.Index.insert.Goals as goal

pub returns-clause-ok : goal.returns-clause-ok
returns-clause-ok c =
    let same : c.in_ok-key.key.items ≡ c.args.name.now = search rules in
    let old = c.args.self.now.map in
    subst (λ (bs : List ℕ). (other : List ℕ) → found c.insert.new.self other ≡ cond (bytes_eq bs other) (Some c.args.at) (found old other)) same (updated c.in_ok-key.key.items old c.insert.new.self (Some c.args.at) c.in_ok-insert.ensures.updates)
