use Rattle.std.proofs.Common.{◌+◌, ◌∙◌, List, ℕ, drop, take, Ok, ap, subst, sym}
use Rattle.std.proofs.lemmas.List.{take-append-drop}
use Rattle.dv_records.specs.Faults.{HoldsRecord, IsFault}
use Rattle.dv_records.proofs.Apart.{no_fault}
use Rattle.dv_records.proofs.Checked.{is_behind}
use Rattle.dv_records.proofs.checking.check.Goals as goal

pub returns-in_err-check_record-clause-only : goal.returns-in_err-check_record-clause-only
returns-in_err-check_record-clause-only c = λ r text rest spells e.
    let f = c.in_err-check_record.field-0.0 in
    absurd (no_fault r text rest f spells (subst (IsFault f) (c.split_at.ensures.back ∙ e) c.in_err-check_record.ensures.fault))

pub returns-clause-only : goal.returns-clause-only
returns-clause-only c = λ r text rest spells e.
    let n = c.in_ok-check_record.field-0 in
    let held : HoldsRecord n (drop c.args.at c.args.b.now) = subst (λ (t : List ℕ). HoldsRecord n t) c.split_at.ensures.back c.in_ok-check_record.ensures.found in
    ap (λ (k : ℕ). Ok (c.args.at + k)) (is_behind n (drop c.args.at c.args.b.now) held r text rest spells e)

pub returns-clause-every : goal.returns-clause-every
returns-clause-every c = λ f fault.
    let n = c.in_ok-check_record.field-0 in
    let place = drop c.args.at c.args.b.now in
    let held : HoldsRecord n place = subst (λ (t : List ℕ). HoldsRecord n t) c.split_at.ensures.back c.in_ok-check_record.ensures.found in
    absurd (no_fault held.0 (take n place) (drop n place) f held.1.1 (subst (IsFault f) (sym (take-append-drop n place)) fault))
