use Rattle.std.proofs.Common.{◌≡◌, Option, None, sym, subst}
use Rattle.std.specs.declared.snapshot.Snapshot.{Snapshot}
use Rattle.dv_shelf.specs.Crashes.{IsSettled}
use Rattle.dv_shelf.specs.Folders.{Folder}
use Rattle.dv_shelf.specs.Sees.{SeesFolder}
use Rattle.dv_stopping.specs.Stops.{left_by, sees_stopping}
use Rattle.dv_serving.specs.NextRuns.{IsTrueFolder}
use Rattle.dv_serving.proofs.Readings.{readings_give}
use Rattle.dv_cli.specs.Spans.{times_from}
use Rattle.dv_power_cuts.proofs.Acknowledged.{acknowledged}
use Rattle.dv_power_cuts.proofs.cut.run_until_cut.Goals as goal

-- a shelf that hasn't stopped is settled where the inner one is
settled_new : {S : Type 0} (sees : SeesFolder S) (inner shelf : S) (stop : Option (Snapshot S)) → inner ≡ shelf → stop ≡ None → IsSettled sees shelf → (c : Folder) → left_by sees stop inner c → c ≡ sees.files inner
settled_new {S} sees inner shelf stop same none settled c left =
    let here : left_by sees None inner c = subst (λ (o : Option (Snapshot S)). left_by sees o inner c) none left in
    subst (λ (s : S). c ≡ sees.files s) (sym same) (settled c (subst (λ (s : S). sees.may_leave s c) same here))

pub returns : goal.returns
returns g c = record {
  acknowledges = λ tells settled cache lines answers.
      let S = g.S.Shelf in
      let made = c.new-stopping in
      let is_settled = settled_new S.sees made.result.inner c.args.shelf made.result.stop made.ensures.inner made.ensures.stop settled in
      let is_true = subst (λ (s : _). IsTrueFolder (S.sees.files s)) (sym made.ensures.inner) cache in
      readings_give (c.run.ensures.runs tells is_settled is_true lines answers) (λ clock small told runs.
      let kept = acknowledged (sees_stopping S.sees) (times_from g.C.Clock.sees clock c.run.result.clock) _ _ _ lines c.run.result.status _ made.result c.run.result.shelf is_settled runs in
      rw (made.ensures.inner, made.ensures.faults) at kept);
}
