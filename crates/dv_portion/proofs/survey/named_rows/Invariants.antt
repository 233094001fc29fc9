use Rattle.std.proofs.Common.{◌≡◌, ◌<◌, Some, length, take}
use Rattle.std.specs.Prelude.{All}
use Rattle.dv_model.specs.declared.types.Mailbox.{Mailbox}
use Rattle.dv_model.specs.Effects.{applied}
use Rattle.dv_model.specs.Mailboxes.{IsValid}
use Rattle.dv_portion.specs.Portions.{table_of}
use Rattle.dv_rows.specs.Parted.{HasUid}
use Rattle.dv_validity.specs.Laws.{IsInRange}
use Rattle.dv_portion.specs.Surveys.{AreAllNamed, seen}
use Rattle.dv_portion.proofs.survey.named_rows.Given as goal

abbrev pub invariant-loop-at : goal.invariant-loop-at
invariant-loop-at l = record {
  named : (m : Mailbox) → IsValid m → All (λ r. IsInRange r.body) l.records → table_of m ≡ l.extensions → AreAllNamed l.at m l.records l.rows.rows l.uids.items;
  table : (m n : Mailbox) → IsValid m → All (λ r. IsInRange r.body) l.records → table_of m ≡ l.extensions → l.at < length l.records → applied m (take l.at l.records) ≡ Some n → table_of n ≡ seen l.extensions l.moved;
  only : All (HasUid l.rows.rows) l.uids.items;
}
