use Rattle.std.proofs.Common.{◌≡◌, fold, take}
use Rattle.std.specs.Prelude.{All}
use Rattle.dv_model.specs.declared.types.Mailbox.{Mailbox}
use Rattle.dv_model.specs.Effects.{with_update}
use Rattle.dv_apply.specs.Alike.{IsAlike, IsWide}
use Rattle.dv_apply.proofs.parts.write_parts.Given as goal

abbrev pub invariant-loop-at : goal.invariant-loop-at
invariant-loop-at l = record {
  is : (m : Mailbox) → m.rows ≡ l.initial.rows.rows → fold (with_update (record { extension = l.place; size = l.updates.size })) m (take l.at l.updates.rows) ≡ record m { rows = l.rows.rows };
  wide : All (IsWide l.place l.updates.size) l.rows.rows;
  alike : IsAlike l.initial.rows.rows l.rows.rows;
  room : l.rows.room ≡ l.initial.rows.room;
}
