use Rattle.std.proofs.Common.{List, ℕ, drop, subst}
use Rattle.dv_model.specs.Spelling.{ArePairs}
use Rattle.dv_records.specs.Fronts.{Tells}
use Rattle.dv_records.proofs.Checked.{keyword_told}
use Rattle.dv_records.proofs.checking.is_keyword_update.Goals as goal

pub returns-in-Some : goal.returns-in-Some
returns-in-Some c =
    let told : Tells (λ pairs. ArePairs pairs (drop c.in-Some.size c.args.bytes.now)) c.are_items.result =
    subst (λ (b : List ℕ). Tells (λ pairs. ArePairs pairs b) c.are_items.result) c.split_at.ensures.back c.are_items.ensures in
    keyword_told c.args.bytes.now c.in-Some.field-0-0 c.in-Some.field-0-1.now c.in-Some.size c.are_items.result c.in-Some.ensures.some told
