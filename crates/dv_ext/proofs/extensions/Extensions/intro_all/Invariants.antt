use Rattle.std.proofs.Common.{◌≡◌, true, fold, take}
use Rattle.dv_model.specs.declared.types.Mailbox.{Mailbox}
use Rattle.dv_model.specs.Effects.{with_intro}
use Rattle.dv_model.specs.Mailboxes.{IsValid}
use Rattle.dv_ext.specs.Changes.{HasTable}
use Rattle.dv_ext.specs.Sizes.{sizes_of}
use Rattle.dv_ext.specs.Tables.{IsTable, with_table}
use Rattle.dv_ext.proofs.extensions.Extensions.intro_all.Given as goal

abbrev pub invariant-loop-intro : goal.invariant-loop-intro
invariant-loop-intro l = record {
  has : (m : Mailbox) → IsValid (with_table l.initial.self m) → HasTable l.self (fold with_intro (with_table l.initial.self m) (take l.intro-index l.intros));
  sizes : l.stay ≡ true → sizes_of l.self.extensions ≡ sizes_of l.initial.self.extensions;
  start : IsTable l.initial.self;
  table : IsTable l.self;
}
