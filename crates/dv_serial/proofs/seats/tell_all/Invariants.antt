use Rattle.std.proofs.Common.{length}
use Rattle.std.specs.Prelude.{All}
use Rattle.std.specs.List.{AllWithin}
use Rattle.dv_model.specs.declared.types.Mailbox.{Mailbox}
use Rattle.dv_answer.specs.Following.{IsAbreast, Leads}
use Rattle.dv_serial.specs.Following.{HasStates}
use Rattle.dv_serial.proofs.seats.tell_all.Given as goal

-- all have their states; those before the index keep up with the new mailbox, and the others with the old one
abbrev pub invariant-loop-seat : goal.invariant-loop-seat
invariant-loop-seat l = record {
  states : HasStates l.initial.seats l.seats;
  abreast : (old new : Mailbox) → All (IsAbreast old) l.initial.seats → Leads old new l.touched
      → AllWithin (IsAbreast new) l.seats 0 l.seat-index × AllWithin (IsAbreast old) l.seats l.seat-index (length l.seats);
}
