use Rattle.std.proofs.Common.{◌≡◌, ◌-◌, ◌<◌, ◌≤◌, ◌∙◌, ◌∷◌, ◌++◌, [], length, take, ap, arith}
use Rattle.dv_sets.proofs.Printed.{closed, closed_empty}
use Rattle.dv_sets.proofs.printing.close.Goals as goal
use Rattle.dv_sets.proofs.printing.close.Goals.{then-len-gt1, else-len-gt1}

pub returns : goal.returns
returns c = λ words is.
    let whole : c.from_vec.result ≡ c.if-len-gt1.bytes.items ++ 41 ∷ [] = c.from_vec.ensures ∙ c.in_ok-push.ensures.items in
    elim c.if-len-gt1.branch [
      | then-len-gt1 w ↦
          let long : 1 < length c.args.text = omega (arith, w.if-len-gt1.true, c.len-len.ensures) in
          whole ∙ ap (λ v. v.items ++ 41 ∷ []) w.bytes-is ∙ ap (λ t. t ++ 41 ∷ []) (w.truncate.ensures.items ∙ ap (λ n. take (n - 1) c.into_vec-bytes.result.items) c.len-len.ensures ∙ ap (take (length c.args.text - 1)) c.into_vec-bytes.ensures) ∙ closed words c.args.text is long
      | else-len-gt1 w ↦
          let short : length c.args.text ≤ 1 = omega (arith, w.if-len-gt1.false, c.len-len.ensures) in
          whole ∙ ap (λ v. v.items ++ 41 ∷ []) w.bytes-is ∙ ap (λ t. t ++ 41 ∷ []) c.into_vec-bytes.ensures ∙ closed_empty words c.args.text is short
    ]
