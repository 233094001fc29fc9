-- A mailbox without messages is valid.
use Rattle.std.proofs.Common.{ℕ, ◌<◌, ◌≤◌, arith}
use Rattle.std.proofs.lemmas.List.Elements.{All-nil}
use Rattle.dv_model.specs.Mailboxes.{IsValid, empty_mailbox, last_modseq}

-- whatever its UIDVALIDITY and its modification sequence
pub begun_valid : (validity highest : ℕ) → 1 ≤ highest → highest ≤ last_modseq → IsValid (record (empty_mailbox validity) { highest = highest })
begun_valid validity highest low high = record {
  next_uid = (omega arith, omega arith);
  rising = λ k h. absurd (omega (arith, h));
  rows = All-nil _;
  names = (All-nil _, λ i j d less h. absurd (omega (arith, h)));
  extensions = record { count = omega arith; record_sizes = omega arith; headers = All-nil _; names = All-nil _; distinct = λ i j d less h. absurd (omega (arith, h)) };
  current = tt;
  highest = (low, high);
}
