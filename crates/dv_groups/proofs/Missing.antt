-- A UID that was not given out has no row.
use Rattle.std.proofs.Common.{◌≡◌, ℕ, ◌≤◌, Bool, false, ◌&&◌, get_or, ap, arith}
use Rattle.std.proofs.lemmas.Bool.{ne_eqb}
use Rattle.std.proofs.lemmas.List.Folds.{list_any_none}
use Rattle.dv_model.specs.declared.types.Mailbox.{Mailbox}
use Rattle.dv_model.specs.declared.types.Row.{Row}
use Rattle.std.specs.Prelude.{nat_eq}
use Rattle.dv_model.specs.Mailboxes.{IsValid}
use Rattle.dv_model.specs.Sessions.{has_row}

pub not_given : (m : Mailbox) (test : Row → Bool) (uid : ℕ) → IsValid m → m.next_uid ≤ uid → has_row m test uid ≡ false
not_given m test uid valid late =
    list_any_none (λ row. nat_eq row.uid uid && test row) m.rows
    (λ i d less. let below = (valid.rows i d less).uid.1 in ap (λ b. b && test (get_or m.rows i d)) (ne_eqb (get_or m.rows i d).uid uid (λ same. omega arith)))
