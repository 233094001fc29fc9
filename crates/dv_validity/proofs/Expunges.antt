-- What expunges leave.
use Rattle.std.proofs.Common.{ℕ, Bool, not, refl, sym, subst, arith}
use Rattle.std.specs.Prelude.{map}
use Rattle.std.specs.List.Sorted.{IsStrictlyIncreasing}
use Rattle.std.proofs.lemmas.List.Elements.{All-filter}
use Rattle.std.proofs.lemmas.List.Kept.{IsStrictlyIncreasing-filter}
use Rattle.dv_model.specs.declared.types.Mailbox.{Mailbox}
use Rattle.dv_model.specs.declared.types.Row.{Row}
use Rattle.dv_model.specs.Effects.{without_uids}
use Rattle.dv_model.specs.Mailboxes.{IsRowOf, IsValid}
use Rattle.dv_validity.proofs.Rows.{IsWider, GoesOn, goes_on_filtered, map_filter, rows_in}

pub expunged_valid : (m : Mailbox) (test : ℕ → Bool) → IsValid m → IsValid (without_uids test m)
expunged_valid m test valid =
    let n : Mailbox = without_uids test m in
    let wider : IsWider m n = record { next_uid = omega arith; keywords = omega arith; highest = omega arith } in
    record {
      next_uid = valid.next_uid;
      rising = subst IsStrictlyIncreasing (sym (map_filter (λ (row : Row). row.uid) (λ uid. not (test uid)) m.rows)) (IsStrictlyIncreasing-filter (λ uid. not (test uid)) (map (λ row. row.uid) m.rows) valid.rising);
      rows = All-filter (λ (row : Row). not (test row.uid)) (IsRowOf n) m.rows (rows_in m n m.rows wider refl valid.rows);
      names = valid.names;
      extensions = valid.extensions;
      current = valid.current;
      highest = valid.highest;
    }

pub expunged_goes_on : (m : Mailbox) (test : ℕ → Bool) → GoesOn m (without_uids test m)
expunged_goes_on m test = goes_on_filtered m (without_uids test m) (λ row. not (test row.uid)) refl refl refl refl
