use Rattle.std.proofs.Common.{◌≡◌, fold, take}
use Rattle.std.specs.Prelude.{All}
use Rattle.dv_model.specs.declared.types.Mailbox.{Mailbox}
use Rattle.dv_model.specs.Effects.{with_header_part}
use Rattle.dv_validity.proofs.Headers.{IsPartInRange}
use Rattle.dv_apply.proofs.headers.numbers_after.Given as goal

abbrev pub invariant-loop-part : goal.invariant-loop-part
invariant-loop-part l = record {
  is : (m : Mailbox) → m.uid_validity ≡ l.fn.uid_validity → m.next_uid ≡ l.fn.next_uid → fold with_header_part m (take l.part-index l.parts) ≡ record m { uid_validity = l.numbers.0; next_uid = l.numbers.1 };
  range : All IsPartInRange (take l.part-index l.parts);
}
