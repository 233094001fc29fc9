use Rattle.std.proofs.Common.{◌∙◌, ap, sym}
use Rattle.dv_live.specs.Turning.{has_uid}
use Rattle.dv_live.proofs.Rising.{first_or_none, none_before}
use Rattle.dv_live.proofs.merging.has_uid.Goals as goal

pub returns : goal.returns
returns c =
    let uid = c.args.uid in
    let parts = c.split_at_uid.ensures in
    c.starts_with.ensures ∙ sym (first_or_none uid c.split_at_uid.result.1.now parts.from) ∙ sym (none_before uid c.split_at_uid.result.0.now c.split_at_uid.result.1.now parts.before)
    ∙ ap (λ us. has_uid us uid) (sym parts.parts)
