use Rattle.std.proofs.Common.{◌≡◌, ℕ, List, None, true, rules, subst, sym, ◌∙◌, ap}
use Rattle.std.specs.Prelude.{is_some}
use Rattle.dv_lookups.specs.Headers.{at_key, found_behind, left_behind}
use Rattle.dv_lookups.proofs.Fielded.{found_one, updated}
use Rattle.dv_lookups.proofs.headers.take_value.Goals as goal

pub returns-in_ok-insert-clause-missing : goal.returns-in_ok-insert-clause-missing
returns-in_ok-insert-clause-missing c =
    subst (λ (bytes : List ℕ). (key : List ℕ) → at_key c.remove.new.self key ≡ left_behind bytes c.args.missing.now key) c.as_slice.ensures.value
    (updated c.as_slice.result.now c.args.missing.now c.remove.new.self None c.remove.ensures.updates)

pub returns-in_ok-insert-clause-values : goal.returns-in_ok-insert-clause-values
returns-in_ok-insert-clause-values c =
    let name = c.args.name.items in
    let has : is_some (at_key c.args.missing.now name) ≡ true = subst (λ (bytes : List ℕ). is_some (at_key c.args.missing.now bytes) ≡ true) c.as_slice.ensures.value
    (ap is_some (sym c.remove.ensures.value) ∙ sym c.is_some.ensures ∙ c.if-is_some.true) in
    let same : c.in_ok-value.value ≡ c.args.value.now = search rules in
    subst (λ (v : List ℕ). (key : List ℕ) → at_key c.insert.new.self key ≡ found_behind name v c.args.missing.now c.args.values.now key) same
    (found_one name c.in_ok-value.value c.args.missing.now c.args.values.now c.insert.new.self has (updated name c.args.values.now c.insert.new.self _ c.in_ok-insert.ensures.updates))
