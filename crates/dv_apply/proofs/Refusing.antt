-- A record has no result exactly where it is an append with a refused row.
use Rattle.std.proofs.Common.{◌≡◌, ℕ, Bool, true, false, cond, List, Option, Some, None, refl, ap}
use Rattle.std.specs.Prelude.{IsSome, option_map}
use Rattle.dv_model.specs.declared.types.Body.{Body}
use Rattle.dv_model.specs.declared.types.Body.TheVariants.{Append}
use Rattle.dv_model.specs.declared.types.Mailbox.{Mailbox}
use Rattle.dv_model.specs.declared.types.NewRow.{NewRow}
use Rattle.dv_model.specs.declared.types.Record.{Record}
use Rattle.dv_model.specs.Effects.{after_record, effect, is_request, stamped, with_higher}
use Rattle.dv_apply.specs.Bodies.{Refused, after_body, first_refused, refused_row}
use Rattle.dv_apply.proofs.Appending.{not_appended, rows_in_turn}

none_by : (m : Mailbox) (top : ℕ) (body : Body) (refused : Refused) → refused_row m body ≡ Some refused → after_record m (record { top = top; body = body }) ≡ None
none_by m top (Append rows) refused e = not_appended m rows refused e
none_by m top body refused e = absurd cc

pub refused_none : (m : Mailbox) (r : Record) (refused : Refused) → refused_row m r.body ≡ Some refused → after_record m r ≡ None
refused_none m r refused e = none_by m r.top r.body refused e

made : (m n : Mailbox) (body : Body) (b : Bool) → effect (with_higher m) body ≡ Some n → cond b (Some (with_higher m)) (after_body m body) ≡ None → ⊥
made m n body true e none = absurd cc
made m n body false e none = let some : after_body m body ≡ Some (stamped m.rows n) = ap (option_map (stamped m.rows)) e in absurd cc

append_by : (m : Mailbox) (rows : List NewRow) (o : Option Refused) → first_refused m.next_uid rows ≡ o → after_body m (Append rows) ≡ None → IsSome o
append_by m rows (Some refused) e none = refl
append_by m rows None e none = absurd (made m _ (Append rows) false (rows_in_turn (with_higher m) rows e) none)

only_by : (m : Mailbox) (r : Record) (body : Body) → r.body ≡ body → cond (is_request r) (Some (with_higher m)) (after_body m body) ≡ None → IsSome (refused_row m body)
only_by m r (Append rows) e none = append_by m rows (first_refused m.next_uid rows) refl (by_append (is_request r) none)
  where
    by_append : (b : Bool) → cond b (Some (with_higher m)) (after_body m (Append rows)) ≡ None → after_body m (Append rows) ≡ None
    by_append true none = absurd cc
    by_append false none = none
only_by m r body e none = absurd (made m _ body (is_request r) refl none)

pub refused_only : (m : Mailbox) (r : Record) → after_record m r ≡ None → IsSome (refused_row m r.body)
refused_only m r none = only_by m r r.body refl none
