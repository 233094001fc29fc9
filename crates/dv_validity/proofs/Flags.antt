-- What changes of rows and of their flags leave.
use Rattle.std.proofs.Common.{◌≡◌, ℕ, Bool, true, false, cond, ◌&&◌, List, nat_le, refl, arith}
use Rattle.std.specs.Prelude.{fold}
use Rattle.dv_model.specs.declared.types.Change.{Change}
use Rattle.dv_model.specs.declared.types.Mailbox.{Mailbox}
use Rattle.dv_model.specs.declared.types.Row.{Row}
use Rattle.dv_model.specs.Effects.{with_bits, with_change, with_changed}
use Rattle.dv_model.specs.Mailboxes.{IsRowOf, IsValid}
use Rattle.dv_validity.proofs.Rows.{GoesOn, fold_keeps_any, goes_on_again, goes_on_mapped, goes_on_same, mapped_valid}

-- ---- the rows that pass a test change

uid_by : (change : Row → Row) → ((row : Row) → (change row).uid ≡ row.uid) → (b : Bool) (row : Row) → (cond b (change row) row).uid ≡ row.uid
uid_by change same true row = same row
uid_by change same false row = refl

row_by : (m : Mailbox) (change : Row → Row) → ((row : Row) → IsRowOf m row → IsRowOf m (change row)) → (b : Bool) (row : Row) → IsRowOf m row → IsRowOf m (cond b (change row) row)
row_by m change keeps true row is = keeps row is
row_by m change keeps false row is = is

modseq_by : (change : Row → Row) → ((row : Row) → (change row).modseq ≡ row.modseq) → (b : Bool) (row : Row) → (cond b (change row) row).modseq ≡ row.modseq
modseq_by change same true row = same row
modseq_by change same false row = refl

pub changed_valid : (m : Mailbox) (test : ℕ → Bool) (change : Row → Row) → ((row : Row) → (change row).uid ≡ row.uid) → ((row : Row) → IsRowOf m row → IsRowOf m (change row)) → IsValid m → IsValid (with_changed test change m)
changed_valid m test change same keeps valid =
    mapped_valid m (λ row. cond (test row.uid) (change row) row) (λ row. uid_by change same (test row.uid) row) (λ row is. row_by m change keeps (test row.uid) row is) valid

pub changed_goes_on : (m : Mailbox) (test : ℕ → Bool) (change : Row → Row) → ((row : Row) → (change row).uid ≡ row.uid) → ((row : Row) → (change row).modseq ≡ row.modseq) → GoesOn m (with_changed test change m)
changed_goes_on m test change same stamp =
    goes_on_mapped m (with_changed test change m) (λ row. cond (test row.uid) (change row) row) (λ row. uid_by change same (test row.uid) row)
    (λ row. modseq_by change stamp (test row.uid) row) refl refl refl refl

-- ---- flags

pub change_valid : (m : Mailbox) (change : Change) → IsValid m → IsValid (with_change m change)
change_valid m change valid =
    changed_valid m (λ uid. nat_le change.first uid && nat_le uid change.last) (λ row. record row { flags = with_bits change.add change.remove row.flags }) (λ row. refl)
    (λ row is. record { uid = is.uid; keywords = is.keywords; parts = is.parts; modseq = is.modseq }) valid

change_goes_on : (m : Mailbox) (change : Change) → GoesOn m (with_change m change)
change_goes_on m change =
    changed_goes_on m (λ uid. nat_le change.first uid && nat_le uid change.last) (λ row. record row { flags = with_bits change.add change.remove row.flags }) (λ row. refl) (λ row. refl)

pub changes_valid : (m : Mailbox) (changes : List Change) → IsValid m → IsValid (fold with_change m changes)
changes_valid m changes valid = fold_keeps_any IsValid with_change change_valid m changes valid

pub changes_go_on : (m : Mailbox) (changes : List Change) → GoesOn m (fold with_change m changes)
changes_go_on m changes =
    fold_keeps_any (GoesOn m) with_change (λ n change is. goes_on_again m n (with_change n change) is (change_goes_on n change)) m changes (goes_on_same m m (omega arith) refl refl refl)
