use Rattle.std.proofs.Common.{◌≡◌, ℕ, ◌-◌, None, fold, take, drop}
use Rattle.dv_model.specs.Effects.{with_row}
use Rattle.dv_model.specs.Mailboxes.{IsValid}
use Rattle.dv_apply.specs.Bodies.{first_refused}
use Rattle.dv_apply.specs.States.{HasSpare, mailbox_of}
use Rattle.dv_apply.proofs.appends.add_all.Given as goal

abbrev pub invariant-loop-row : goal.invariant-loop-row
invariant-loop-row l = record {
  is : mailbox_of l.state ≡ fold with_row (mailbox_of l.initial.state) (take l.row-index l.rows);
  valid : IsValid (mailbox_of l.state);
  new : first_refused l.state.next_uid (drop l.row-index l.rows) ≡ None;
  spare : (n : ℕ) → HasSpare n l.initial.state → HasSpare (n - l.row-index) l.state;
  same : l.state.spare ≡ l.initial.state.spare;
}
