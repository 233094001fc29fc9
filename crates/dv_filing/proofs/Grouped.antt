-- What a commit of a group does to a storage at rest.
use Rattle.std.proofs.Common.{◌≡◌, ◌⊎◌, inl, inr, ⊎_elim, ℕ, List, Option, None, Result, Ok, Err, OnOk, OnErr, refl, sym, ◌∙◌, subst}
use Rattle.dv_model.specs.declared.types.Mailbox.{Mailbox}
use Rattle.dv_shelf.specs.Crashes.{LeavesOnly}
use Rattle.dv_shelf.specs.Folders.{Folder}
use Rattle.dv_shelf.specs.Sees.{SeesFolder}
use Rattle.dv_shelf.proofs.Moments.{weaker}
use Rattle.dv_logfile.specs.declared.commit.Debt.{Debt as LogDebt}
use Rattle.dv_logfile.specs.declared.commit.Debt.TheVariants as log_debt
use Rattle.dv_logfile.specs.Gates.{FromOneOf}
use Rattle.dv_apply.specs.States.{Held}
use Rattle.dv_chain.specs.declared.chain.Chain.{Chain}
use Rattle.dv_chain.specs.Rest.{IsPending, Nothing, Owed, Pending, Rests}
use Rattle.dv_files.specs.Texts.{place_of}
use Rattle.dv_writing.specs.declared.committing.Committed.{Committed}
use Rattle.dv_writing.specs.Commits.{AdvancesChain, CommitsGroup, OpensBeside, owed_after}
use Rattle.dv_writing.specs.Opening.{mark_behind}
use Rattle.dv_writing.proofs.Kept.{beside_log}
use Rattle.dv_filing.specs.Standing.{Fits, Gives, Stands}
use Rattle.dv_filing.proofs.Resting.{texts_same}
use Rattle.dv_maps.specs.Texts.{KeepsTexts, Messages}

module _ {S : Type 0} (sees : SeesFolder S) (text : List ℕ) (messages next : Messages) (after : Mailbox) (chain new_chain : Chain) (old new : S) (stands : Stands sees messages Nothing chain old)
    (pending : IsPending text after chain) (keeps_next : (c : Folder) → sees.may_leave old c → KeepsTexts next after c) (same : (c : Folder) → KeepsTexts messages chain.live.mailbox c → KeepsTexts next chain.live.mailbox c)
    {E : Type 0} (result : Result Committed E) (value : AdvancesChain text chain new_chain result) (group : CommitsGroup sees text after chain new_chain result old new)
    (now : (c : Folder) → sees.may_leave new c → sees.left_since new (sees.moment old) c) where
  abbrev m : Mailbox
  m = chain.live.mailbox

  both : (c : Folder) → FromOneOf (sees.may_leave old) (OpensBeside (Pending text after) chain) c → KeepsTexts messages m c × KeepsTexts next after c
  both c from =
      let mail = (beside_log from.0 c from.2.0).mail in
      (texts_same messages m from.0 c mail (stands.keeps from.0 from.1), texts_same next after from.0 c mail (keeps_next from.0 from.1))

  -- each folder now keeps the texts of both maps
  kept : (c : Folder) → sees.may_leave new c → KeepsTexts messages m c × KeepsTexts next after c
  kept c left = both c (group.any_moment.each c (now c left))

  -- the map from before or that with the group
  abbrev GivesEither : Folder → Type 0
  GivesEither c = Gives messages chain.indexid m (place_of chain) c ⊎ Gives next chain.indexid after (mark_behind text chain) c

  gives : (c : Folder) → FromOneOf (sees.may_leave old) (OpensBeside (Pending text after) chain) c → GivesEither c
  gives c from =
      let keeps = both c from in
      ⊎_elim (λ opens. inl (record { opens = opens; keeps = keeps.0 })) (λ opens. inr (record { opens = opens; keeps = keeps.1 })) from.2.1

  pub group_since : LeavesOnly sees old new GivesEither
  group_since = weaker sees old new (FromOneOf (sees.may_leave old) (OpensBeside (Pending text after) chain)) GivesEither group.any_moment gives

  ok_by : (r : Result Committed E) → AdvancesChain text chain new_chain r → OnOk r (Rests sees Nothing new_chain new) → OnOk r (Stands sees next Nothing new_chain new)
  ok_by (Ok x) value rests = record {
    rests = rests;
    keeps = λ c left. subst (λ (k : Mailbox). KeepsTexts next k c) (sym (value.mailbox after pending)) (kept c left).1;
    pending = λ c left. tt;
  }
  ok_by (Err e) value rests = tt

  pub group_done : OnOk result (Stands sees next Nothing new_chain new)
  group_done = ok_by result value group.ok

  -- what a failed commit leaves
  abbrev LeftBy : Type 0
  LeftBy = (owed : Owed) × Fits None new_chain.live.mailbox owed × (((owed ≡ Nothing) × Stands sees messages owed new_chain new) ⊎ ((owed ≡ Pending text after) × Stands sees next owed new_chain new))

  err_debt : (debt : LogDebt) → new_chain.live ≡ chain.live → Rests sees (owed_after debt text after) new_chain new → LeftBy
  err_debt log_debt.None live rests = (
    Nothing,
    tt,
    inl (
      refl,
      record {
        rests = rests;
        keeps = λ c left. subst (λ (l : Held). KeepsTexts messages l.mailbox c) (sym live) (kept c left).0;
        pending = λ c left. tt;
      },
    ),
  )
  err_debt log_debt.Gate live rests = (
    Pending text after,
    tt,
    inr (
      refl,
      record {
        rests = rests;
        keeps = λ c left. subst (λ (l : Held). KeepsTexts next l.mailbox c) (sym live) (same c (kept c left).0);
        pending = λ c left. (kept c left).1;
      },
    ),
  )

  err_by : (r : Result Committed E) → AdvancesChain text chain new_chain r → OnErr r (Rests sees (owed_after new_chain.log.debt text after) new_chain new) → OnErr r LeftBy
  err_by (Ok x) value rests = tt
  err_by (Err e) value rests = err_debt new_chain.log.debt value.failed.0 rests

  pub group_failed : OnErr result LeftBy
  group_failed = err_by result value group.err
