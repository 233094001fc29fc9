-- A state stays one, where its rows and its modification sequence change.
use Rattle.std.proofs.Common.{◌≡◌, ℕ, ◌/◌, ◌%◌, ◌≤◌, Bool, true, false, cond, List, length, nat_eq, Some, None, refl, sym, ◌∙◌, ap, subst, arith}
use Rattle.std.specs.Prelude.{All}
use Rattle.dv_model.specs.declared.types.Body.{Body}
use Rattle.dv_model.specs.declared.types.Current.{Current}
use Rattle.dv_model.specs.declared.types.Mailbox.{Mailbox}
use Rattle.dv_model.specs.declared.types.Row.{Row}
use Rattle.dv_model.specs.Effects.{on_current, stamped, update_rows, update_size, with_higher}
use Rattle.dv_ext.specs.Tables.{Table, with_table}
use Rattle.dv_ext.specs.Updates.{Updates, updates_of}
use Rattle.dv_rows.specs.Kept as rows
use Rattle.dv_validity.specs.Laws.{IsInRange}
use Rattle.dv_apply.specs.Alike.{IsAlike}
use Rattle.dv_apply.specs.Bodies.{after_body, spare_after}
use Rattle.dv_apply.specs.declared.state.State.{State}
use Rattle.dv_apply.specs.States.{Becomes, HasSpare, IsKept, blank_parts, mailbox_of}
use Rattle.dv_apply.proofs.Changing.{body_valid}
use Rattle.dv_apply.proofs.Extending.{stamped_like}

pub becomes : (old new : State) (body : Body) (n : Mailbox) → IsKept old → IsInRange body → after_body (mailbox_of old) body ≡ Some n → n ≡ mailbox_of new → new.spare ≡ spare_after old.extensions.extensions old.spare body → HasSpare new.spare new → Becomes old body new
becomes old new body n kept range e same spare has =
    let after : after_body (mailbox_of old) body ≡ Some (mailbox_of new) = e ∙ ap Some same in
    record {
      mailbox = after;
      kept = record { valid = body_valid (mailbox_of old) (mailbox_of new) body kept.valid range after; spare = has };
      spare = spare;
    }

-- the rows and the modification sequence are other ones
pub rows_become : (old : State) (body : Body) (after : List Row) (r : rows.Kept) (h : ℕ) → IsKept old → IsInRange body → after_body (mailbox_of old) body ≡ Some (record (with_higher (mailbox_of old)) { rows = after })
    → r.rows ≡ after → h ≡ (with_higher (mailbox_of old)).highest → spare_after old.extensions.extensions old.spare body ≡ old.spare → old.rows.room ≤ r.room → Becomes old body (record old { rows = r; highest = h })
rows_become old body after r h kept range e is high spare room =
    let m : Mailbox = mailbox_of old in
    becomes old (record old { rows = r; highest = h }) body (record (with_higher m) { rows = after }) kept range e
    (ap (λ (rs : List Row). record (with_higher m) { rows = rs }) (sym is) ∙ ap (λ (n : ℕ). record m { rows = r.rows; highest = n }) (sym high))
    (sym spare)
    (record { blank = kept.spare.blank; blanks = kept.spare.blanks; room = omega (arith, kept.spare.room) })

-- the table of extensions, the parts of rows and the modification sequence are other ones
pub table_becomes : (old : State) (body : Body) (after : Table) (r : rows.Kept) (h : ℕ) (made : Mailbox) → IsKept old → IsInRange body
    → after_body (mailbox_of old) body ≡ Some (stamped (mailbox_of old).rows made) → made ≡ with_table after (record (with_higher (mailbox_of old)) { rows = r.rows })
    → IsAlike old.rows.rows r.rows → blank_parts made.extensions ≡ blank_parts old.extensions.extensions → h ≡ (with_higher (mailbox_of old)).highest → spare_after old.extensions.extensions old.spare body ≡ old.spare → old.rows.room ≤ r.room
    → Becomes old body (record old { extensions = after; rows = r; highest = h })
table_becomes old body after r h made kept range e is alike sizes high spare room =
    let m : Mailbox = mailbox_of old in
    let n : Mailbox = with_table after (record (with_higher m) { rows = r.rows }) in
    let blank : blank_parts old.extensions.extensions ≡ blank_parts after.extensions = sym sizes ∙ ap (λ (x : Mailbox). blank_parts x.extensions) is in
    becomes old (record old { extensions = after; rows = r; highest = h }) body n kept range
    (e ∙ ap (λ (x : Mailbox). Some (stamped m.rows x)) is ∙ ap Some (stamped_like m n alike))
    (ap (λ (top : ℕ). with_table after (record m { rows = r.rows; highest = top })) (sym high))
    (sym spare)
    (record { blank = subst (λ (bs : List (List ℕ)). All (λ parts. parts ≡ bs) old.blanks.items) blank kept.spare.blank; blanks = kept.spare.blanks; room = omega (arith, kept.spare.room) })

-- only the parts of rows are others
pub parts_become : (m : Mailbox) (body : Body) (made : Mailbox) (new : List Row) → after_body m body ≡ Some (stamped m.rows made) → made ≡ record (with_higher m) { rows = new } → IsAlike m.rows new
    → after_body m body ≡ Some (record (with_higher m) { rows = new })
parts_become m body made new e is alike = e ∙ ap (λ (x : Mailbox). Some (stamped m.rows x)) is ∙ ap Some (stamped_like m (record (with_higher m) { rows = new }) alike)

pub no_current : (m : Mailbox) (change : Current → Mailbox) → m.current ≡ None → on_current m change ≡ m
no_current m change e = rw e refl

pub some_current : (m : Mailbox) (change : Current → Mailbox) (c : Current) → m.current ≡ Some c → on_current m change ≡ change c
some_current m change c e = rw e refl

size_by : (size : ℕ) (rows : List (List ℕ)) (u : Updates) (b : Bool) → cond b (Some (record { size = size; rows = rows })) None ≡ Some u → u.size ≡ size
size_by size rows u true e = let same : record { size = size; rows = rows } ≡ u = cc in ap (λ (x : Updates). x.size) (sym same)
size_by size rows u false e = absurd cc

pub updates_size : (size : ℕ) (bytes : List ℕ) (u : Updates) → updates_of size bytes ≡ Some u → u.size ≡ size
updates_size size bytes u e = size_by size (update_rows (length bytes / update_size size) (update_size size) bytes) u (nat_eq (length bytes % update_size size) 0) e
