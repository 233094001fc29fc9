use Rattle.std.proofs.Common.{◌≡◌, ℕ, true, nat_eq, take}
use Rattle.std.specs.Prelude.{Contains}
use Rattle.std.specs.Int.{w32, from_le_bytes}
use Rattle.std.specs.List.{list_any}
use Rattle.dv_rows.specs.Parted.{HasUid}
use Rattle.dv_portion.specs.Surveys.{Adds}
use Rattle.dv_portion.proofs.survey.name_updates.Given as goal

abbrev pub invariant-loop-at : goal.invariant-loop-at
invariant-loop-at l = record {
  named : (uid : ℕ) → HasUid l.rows.rows uid → list_any (λ update. nat_eq (from_le_bytes w32 (take 4 update)) uid) (take l.at l.updates.rows) ≡ true → Contains l.uids.items uid;
  adds : Adds l.rows.rows l.initial.uids.items l.uids.items;
}
