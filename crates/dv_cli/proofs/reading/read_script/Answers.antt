use Rattle.std.proofs.Common.{◌≡◌, ◌≤◌, ◌++◌, ◌∷◌, [], List, ℕ, length, take, sym, ap, ◌∙◌, arith, append_assoc, length-append}
use Rattle.std.proofs.lemmas.List.{append-nil, take_at, take_all}
use Rattle.dv_cli.specs.Readings.{read_limit}
use Rattle.dv_cli.proofs.reading.read_script.Goals as goal

-- nothing was left, so nothing was added
at_end : (limit : ℕ) (text added mid new whole longer : List ℕ) → whole ≡ text ++ mid → mid ≡ [] → mid ≡ added ++ new → longer ≡ text ++ added → length text ≤ limit → longer ≡ take limit whole
at_end limit text [] mid new whole longer is none split more le =
    let text-is : whole ≡ text = is ∙ ap (λ (l : List ℕ). text ++ l) none ∙ append-nil text in
    more ∙ append-nil text ∙ sym text-is ∙ sym (take_all limit whole (omega (arith, ap length text-is)))
at_end limit text (x ∷ added) mid new whole longer is none split more le = absurd (impossible (sym split ∙ none))
  where
    impossible : x ∷ added ++ new ≡ [] → ⊥
    impossible e = cc

pub returns-in_err-read_more-clause-bound : goal.returns-in_err-read_more-clause-bound
returns-in_err-read_more-clause-bound g c = λ tells.
    let so_far = c.loop-script.invariant.so_far tells in
    let took = c.read_more.ensures.took tells in
    (c.loop-script.text ++ took.0, so_far ∙ ap (λ (l : List ℕ). c.loop-script.text ++ l) took.1 ∙ sym (append_assoc c.loop-script.text took.0 _), omega (arith, took.2, length-append c.loop-script.text took.0))

pub returns-then-branch-eq0-clause-text : goal.returns-then-branch-eq0-clause-text
returns-then-branch-eq0-clause-text g c = λ tells.
    let so_far = c.loop-script.invariant.so_far tells in
    let took = c.in_ok-read_more.ensures.took tells in
    at_end read_limit c.loop-script.text took.0 _ _ _ _ so_far (took.3.1 c.if-branch-eq0.true) took.1 took.3.0 c.loop-script.invariant.size

pub returns-clause-text : goal.returns-clause-text
returns-clause-text g c = λ tells.
    let so_far = c.loop-script.invariant.so_far tells in
    let size : length c.loop-script.text ≡ read_limit = omega (arith, c.loop-script.invariant.size) in
    sym (take_at c.loop-script.text _ read_limit size) ∙ ap (λ (l : List ℕ). take read_limit l) (sym so_far)
