use Rattle.std.proofs.Common.{◌≡◌, ◌+◌, length, replicate, take, rules, arith, ap, ◌∙◌}
use Rattle.std.specs.Int.{w16, to_le_bytes}
use Rattle.std.proofs.lemmas.List.{take-replicate}
use Rattle.dv_model.specs.Spelling.{padding}
use Rattle.dv_keywords.proofs.Texts.{written}
use Rattle.dv_keywords.proofs.text.write_name.Goals as goal

pub returns : goal.returns
returns c =
    let front : c.to_le_bytes.result ≡ to_le_bytes w16 (length c.args.name.now) = search rules in
    let zeros : c.split_at.result.0.now ≡ replicate (padding (2 + length c.args.name.now)) 0 = c.split_at.ensures.front ∙ ap (λ t. take c.padding.result t) c.as_slice.ensures ∙ take-replicate c.padding.result 4 0 (omega arith) ∙ ap (λ k. replicate k 0) c.padding.ensures in
    written c.args.out.now c.to_le_bytes.result c.args.name.now c.split_at.result.0.now c.extend.new.self c.extend-2.new.self c.extend-3.new.self c.in_ok-extend.ensures.ok c.in_ok-extend-2.ensures.ok c.in_ok-extend-3.ensures.ok front zeros
