-- What a commit of a group does to a store at rest.
use Rattle.std.proofs.Common.{◌≡◌, inl, inr, ⊎_elim, ℕ, List, Result, Ok, Err, OnOk, OnErr, sym, ◌∙◌, subst}
use Rattle.dv_model.specs.declared.types.Mailbox.{Mailbox}
use Rattle.dv_model.specs.Journals.{Log}
use Rattle.dv_shelf.specs.Folders.{Folder}
use Rattle.dv_shelf.proofs.Moments.{weaker}
use Rattle.dv_logfile.specs.declared.commit.Debt.{Debt as LogDebt}
use Rattle.dv_logfile.specs.declared.commit.Debt.TheVariants as log_debt
use Rattle.dv_logfile.specs.Gates.{FromOneOf}
use Rattle.dv_apply.specs.States.{Held}
use Rattle.dv_chain.specs.declared.chain.Chain.{Chain}
use Rattle.dv_chain.specs.Rest as rest
use Rattle.dv_chain.specs.Rest.{IsPending, Rests}
use Rattle.dv_writing.specs.declared.committing.Committed.{Committed}
use Rattle.dv_writing.specs.Commits.{AdvancesChain, CommitsGroup, OpensBeside, owed_after}
use Rattle.dv_writing.specs.Opening.{mark_behind}
use Rattle.dv_files.specs.Texts.{place_of}
use Rattle.dv_writing.specs.Debts.{MayGive, Nothing, Pending, Stands}
use Rattle.dv_writing.specs.Keeping.{Keeps}
use Rattle.dv_writing.specs.Groups.{KeepsNext, WritesGroup, debt_after}
use Rattle.dv_writing.proofs.Kept.{beside_log, kept_same, same_messages}
use Rattle.dv_writing.proofs.Resting.{gives_as}
use Rattle.dv_shelf.specs.Sees.{SeesFolder}

module _ {S : Type 0} (sees : SeesFolder S)
    (text : List ℕ) (log written : Log) (after : Mailbox) (chain next : Chain) (old new : S) (stands : Stands sees log Nothing chain old)
    (pending : IsPending text after chain) (keeps_next : KeepsNext sees log written after old) {E : Type 0} (result : Result Committed E) (value : AdvancesChain text chain next result)
    (group : CommitsGroup sees text after chain next result old new) (now : (c : Folder) → sees.may_leave new c → sees.left_since new (sees.moment old) c) where
  abbrev m : Mailbox
  m = chain.live.mailbox

  -- each folder now keeps both mailboxes
  kept : (c : Folder) → sees.may_leave new c → Keeps log m c × Keeps written after c
  kept c left =
      let from = group.any_moment.each c (now c left) in (
        kept_same log m from.0 c (same_messages m from.0 c (beside_log from.0 c from.2.0)) (stands.keeps from.0 from.1),
        kept_same written after from.0 c (same_messages after from.0 c (beside_log from.0 c from.2.0)) (keeps_next.keeps from.0 from.1),
      )

  gives : (c : Folder) → FromOneOf (sees.may_leave old) (OpensBeside (rest.Pending text after) chain) c → MayGive log (Pending text after written) chain c
  gives c from =
      let one = kept_same log m from.0 c (same_messages m from.0 c (beside_log from.0 c from.2.0)) (stands.keeps from.0 from.1) in
      let other = kept_same written after from.0 c (same_messages after from.0 c (beside_log from.0 c from.2.0)) (keeps_next.keeps from.0 from.1) in
      ⊎_elim (λ opens. inl (gives_as log m (place_of chain) chain c stands.named opens one)) (λ opens. inr (gives_as written after (mark_behind text chain) chain c (keeps_next.named ∙ stands.named) opens other)) from.2.1

  ok_by : (r : Result Committed E) → AdvancesChain text chain next r → OnOk r (Rests sees rest.Nothing next new) → OnOk r (Stands sees written Nothing next new)
  ok_by (Ok x) value rests = record {
    named = keeps_next.named ∙ stands.named ∙ sym value.file.1;
    written = tt {0};
    rests = rests;
    keeps = λ c left. subst (λ (k : Mailbox). Keeps written k c) (sym (value.mailbox after pending)) (kept c left).1;
    owed = λ c left. tt {0};
  }
  ok_by (Err e) value rests = rests

  err_debt : (debt : LogDebt) → next.live ≡ chain.live → Rests sees (owed_after debt text after) next new → Stands sees log (debt_after debt text after written) next new
  err_debt log_debt.None same rests = record {
    named = stands.named ∙ sym value.file.1;
    written = tt {0};
    rests = rests;
    keeps = λ c left. subst (λ (l : Held). Keeps log l.mailbox c) (sym same) (kept c left).0;
    owed = λ c left. tt {0};
  }
  err_debt log_debt.Gate same rests = record {
    named = stands.named ∙ sym value.file.1;
    written = keeps_next.named;
    rests = rests;
    keeps = λ c left. subst (λ (l : Held). Keeps log l.mailbox c) (sym same) (kept c left).0;
    owed = λ c left. (kept c left).1;
  }

  err_by : (r : Result Committed E) → AdvancesChain text chain next r → OnErr r (Rests sees (owed_after next.log.debt text after) next new) → OnErr r (Stands sees log (debt_after next.log.debt text after written) next new)
  err_by (Ok x) value rests = rests
  err_by (Err e) value rests = err_debt next.log.debt value.failed.0 rests

  pub group_written : WritesGroup sees text after log written chain next result old new
  group_written = record {
    ok = ok_by result value group.ok;
    err = err_by result value group.err;
    any_moment = weaker sees old new (FromOneOf (sees.may_leave old) (OpensBeside (rest.Pending text after) chain)) (MayGive log (Pending text after written) chain) group.any_moment gives;
    others = group.others;
  }
