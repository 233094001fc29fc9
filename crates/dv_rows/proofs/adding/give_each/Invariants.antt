use Rattle.std.proofs.Common.{◌≡◌, List, map, take}
use Rattle.dv_model.specs.declared.types.Row.{Row}
use Rattle.dv_rows.proofs.GivenPlaces.{some_added}
use Rattle.dv_rows.specs.Adding.{AreGiven, AreInOrder}
use Rattle.dv_rows.specs.Kept.{AreRows}
use Rattle.dv_rows.specs.Parted.{is_among}
use Rattle.dv_rows.proofs.adding.give_each.Given as goal

abbrev pub invariant-loop-uid : goal.invariant-loop-uid
invariant-loop-uid l = record {
  are : AreRows l.rows;
  order : AreInOrder l.rows;
  given : (before : List Row) → AreGiven l.place l.modseq before l.initial.rows l.initial.given.items → AreGiven l.place l.modseq before l.rows l.given.items;
  is : l.rows ≡ map (some_added l.modseq l.place (is_among (take l.uid-index l.uids))) l.initial.rows;
}
