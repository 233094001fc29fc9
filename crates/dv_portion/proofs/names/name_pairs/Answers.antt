use Rattle.std.proofs.Common.{◌∙◌, List, ap}
use Rattle.std.proofs.lemmas.Result.{on_ok_weaker}
use Rattle.dv_model.specs.declared.types.Pair.{Pair}
use Rattle.dv_model.specs.Effects.{is_in_pairs}
use Rattle.dv_portion.proofs.Joined.{by_other}
use Rattle.dv_portion.proofs.names.name_pairs.Goals as goal

pub returns-in-Some-clause-named : goal.returns-in-Some-clause-named
returns-in-Some-clause-named c =
    let alike = rw c.in-Some.is at c.in_ok-joined.ensures.same in
    on_ok_weaker c.name_uids.result (λ each uid named. each uid (named.0, ap (λ (ps : List Pair). is_in_pairs ps uid) c.deref.ensures.value ∙ alike uid ∙ named.1)) c.name_uids.ensures.named

pub returns-in-Some-clause-only : goal.returns-in-Some-clause-only
returns-in-Some-clause-only c =
    let alike = rw c.in-Some.is at c.in_ok-joined.ensures.same in
    λ uid h. by_other (is_in_pairs c.deref.result.now uid) (is_in_pairs c.args.pairs.now uid) (ap (λ (ps : List Pair). is_in_pairs ps uid) c.deref.ensures.value ∙ alike uid) (c.name_uids.ensures.only uid h)
