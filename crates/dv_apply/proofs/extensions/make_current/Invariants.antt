use Rattle.std.proofs.Common.{◌≡◌, fold, take}
use Rattle.dv_model.specs.declared.types.Mailbox.{Mailbox}
use Rattle.dv_model.specs.Effects.{with_intro}
use Rattle.dv_model.specs.Mailboxes.{IsValid}
use Rattle.dv_ext.specs.Tables.{with_table}
use Rattle.dv_apply.proofs.extensions.make_current.Given as goal

abbrev pub invariant-loop-intro : goal.invariant-loop-intro
invariant-loop-intro l = record {
  is : (m : Mailbox) → IsValid (with_table l.initial.extensions m) → fold with_intro (with_table l.initial.extensions m) (take l.intro-index l.intros) ≡ with_table l.extensions m;
  list : l.extensions.extensions ≡ l.initial.extensions.extensions;
}
