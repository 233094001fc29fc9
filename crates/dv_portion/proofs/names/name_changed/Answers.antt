use Rattle.std.proofs.Common.{◌∙◌, List, ap}
use Rattle.std.specs.List.{list_any}
use Rattle.std.proofs.lemmas.Result.{on_ok_weaker}
use Rattle.dv_model.specs.declared.types.Change.{Change}
use Rattle.dv_model.specs.declared.types.Pair.{Pair}
use Rattle.dv_model.specs.Effects.{is_in_pairs}
use Rattle.dv_rows.specs.Noted.{has}
use Rattle.dv_portion.proofs.Joined.{any_of_pairs, by_other}
use Rattle.dv_portion.proofs.names.name_changed.Goals as goal

pub returns-clause-named : goal.returns-clause-named
returns-clause-named c =
    let is = c.deref.ensures.value ∙ c.in_ok-pairs.ensures in
    on_ok_weaker c.name_pairs.result (λ each uid named. each uid (named.0, ap (λ (ps : List Pair). is_in_pairs ps uid) is ∙ any_of_pairs uid c.args.changes.now ∙ named.1)) c.name_pairs.ensures.named

pub returns-clause-only : goal.returns-clause-only
returns-clause-only c =
    let is = c.deref.ensures.value ∙ c.in_ok-pairs.ensures in
    λ uid h. by_other (is_in_pairs c.deref.result.now uid) (list_any (has (λ (x : Change). x.first) (λ (x : Change). x.last) uid) c.args.changes.now) (ap (λ (ps : List Pair). is_in_pairs ps uid) is ∙ any_of_pairs uid c.args.changes.now) (c.name_pairs.ensures.only uid h)
