use Rattle.std.proofs.Common.{not, rules}
use Rattle.std.proofs.lemmas.Fn.{filter_same}
use Rattle.dv_model.specs.Sets.{is_in_set}
use Rattle.dv_qresync.specs.declared.types.Cached.{Cached}
use Rattle.dv_qresync.proofs.merging.remove.Goals as goal

pub returns : goal.returns
returns c =
    let set = c.args.set.now in
    filter_same _ (λ (row : Cached). not (is_in_set 0 set row.uid)) _ (λ x b f' k. search rules) _ _ c.retain.ensures.filtered
