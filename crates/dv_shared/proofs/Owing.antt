-- Which write the store owes, and what a commit leaves of that.
use Rattle.std.proofs.Common.{◌≡◌, ◌⊎◌, inl, inr, ℕ, ◌≤◌, List, [], ◌∷◌, length, Option, Some, None, Result, Ok, Err, refl, sym, ◌∙◌, ap, subst, arith}
use Rattle.std.specs.Prelude.{Contains, IfSome}
use Rattle.std.proofs.lemmas.List.Quantifiers.{Any-push}
use Rattle.dv_model.specs.declared.types.Command.{Command}
use Rattle.dv_model.specs.declared.types.Mailbox.{Mailbox}
use Rattle.dv_model.specs.declared.types.Mark.{Mark}
use Rattle.dv_model.specs.Journals.{Log}
use Rattle.dv_model.specs.Views.{View, empty_view}
use Rattle.dv_shelf.specs.Sees.{SeesFolder}
use Rattle.dv_files.specs.Texts.{place_of}
use Rattle.dv_front.specs.declared.notes.Note.{Note}
use Rattle.dv_logfile.specs.declared.commit.Debt.TheVariants as log_debt
use Rattle.dv_notes.specs.Logs.{log_of}
use Rattle.dv_plans.specs.declared.fault.StoreFault.{StoreFault}
use Rattle.dv_plans.specs.declared.fault.StoreFault.TheVariants as fault
use Rattle.dv_serving.specs.Places.{begin_at}
use Rattle.dv_serving.proofs.Places.{begin_here}
use Rattle.dv_store.specs.declared.receipt.Receipt.{Receipt}
use Rattle.dv_store.specs.Commits.{IsLeftAt, IsUnwritten, StaysAs, begin_of, text_by, write_at}
use Rattle.dv_store.specs.Rest.{IsAtRest}
use Rattle.dv_store.specs.States.{State}
use Rattle.dv_tries.specs.Commits.{CommitsTold, try_of}
use Rattle.dv_tries.specs.Standing.{IsOwedOf, IsPendingBy, RestsBehind, StandsBehind}
use Rattle.dv_tries.specs.Tries.{Try, end_mark}
use Rattle.dv_tries.proofs.Keeping.{rest_gives_last}
use Rattle.dv_tries.proofs.Standing.{play_with}
use Rattle.dv_writing.specs.Debts.{Debt, Last, Nothing, Pending}
use Rattle.dv_writing.specs.Writes.{MayOweGate, Write, log_with}
use Rattle.dv_shared.specs.Owing.{IsDebtOf, Owes, only}

-- ---- what is owed

module _ {S C : Type 0} (sees : SeesFolder S) (tells : Type 0) (start : Log) (notes : List Note) (store : State S C) (stands : StandsBehind start notes store) where
  abbrev place : Mark
  place = place_of store.chain

  -- the debt of one try is that of some
  one_of : (owed : Option Try) (debt : Debt) → IsDebtOf tells start notes place owed debt → IsOwedOf tells start notes (only owed) place debt
  one_of (Some t) (Pending text after written) is =
      (is.1, Any-push (λ (u : Try). (u.place ≡ length notes) × IsPendingBy tells (log_of start notes) u text after written) [] t (is.0, is.2))
  one_of (Some t) Nothing is = absurd is
  one_of (Some t) (Last new) is = absurd is
  one_of None (Pending text after written) is = absurd is
  one_of None Nothing is = tt
  one_of None (Last new) is = tt

  pub owes_of : (owed : Option Try) (debt : Debt) → IsDebtOf tells start notes place owed debt → IsAtRest sees (log_of start notes) debt store → Owes sees tells start notes owed store
  owes_of owed debt is rests = record {
    debt = debt;
    is = is;
    rests = rests;
    gives = λ c left. rest_gives_last C sees tells start notes (only owed) store c stands (record { debt = debt; owed = one_of owed debt is; rests = rests }) left;
  }

  module _ (tries : List Try) where
    -- the debt of some try is that of one
    some_owed : (debt : Debt) → IsOwedOf tells start notes tries place debt → IsAtRest sees (log_of start notes) debt store → (owed : Option Try) × Owes sees tells start notes owed store × IfSome owed (Contains tries)
    some_owed Nothing is rests = (None, owes_of None Nothing tt rests, tt)
    some_owed (Last new) is rests = (None, owes_of None (Last new) tt rests, tt)
    some_owed (Pending text after written) is rests =
        let any = is.1 in (Some any.1, owes_of (Some any.1) (Pending text after written) (any.4.0, is.0, any.4.1) rests, (any.0, any.2, any.3))

    pub owes_some : RestsBehind sees tells start notes tries store → (owed : Option Try) × Owes sees tells start notes owed store × IfSome owed (Contains tries)
    owes_some behind = some_owed behind.debt behind.owed behind.rests

  -- no group is owed where the log has no debt
  none_owed : store.chain.log.debt ≡ log_debt.None → (debt : Debt) → IsAtRest sees (log_of start notes) debt store → Owes sees tells start notes None store
  none_owed none Nothing rests = owes_of None Nothing tt rests
  none_owed none (Last new) rests = owes_of None (Last new) tt rests
  none_owed none (Pending text after written) rests = let both : log_debt.None ≡ log_debt.Gate = sym none ∙ rests.stands.rests.owes.0 in absurd cc

  pub owes_none : (tries : List Try) → store.chain.log.debt ≡ log_debt.None → RestsBehind sees tells start notes tries store → Owes sees tells start notes None store
  owes_none tries none behind = none_owed none behind.debt behind.rests

-- ---- behind a commit

module _ {S C : Type 0} (sees : SeesFolder S) (tells : Type 0) (start : Log) (notes : List Note) (old : State S C) (stands : StandsBehind start notes old) (owed : Option Try) (owes : Owes sees tells start notes owed old)
    (author : ℕ) (c : Command) (view : View) (upcoming : ℕ → ℕ) (new : State S C) (stands_now : StandsBehind start notes new) where
  abbrev log : Log
  log = log_of start notes

  abbrev m : Mailbox
  m = old.chain.live.mailbox

  abbrev t : Try
  t = try_of (length notes) author c view old upcoming

  -- nothing was written
  pub still_owes : (result : Result Receipt StoreFault) → CommitsTold sees tells c view upcoming old new result → IsUnwritten result → Owes sees tells start notes owed new
  still_owes result told none =
      let stays : StaysAs old new = told.value.unwritten none in
      let same : place_of old.chain ≡ place_of new.chain = ap (λ l. record { file_seq = l.file_seq; offset = l.end }) (sym stays.chain.log) in
      owes_of sees tells start notes new stands_now owed owes.debt (subst (λ (p : Mark). IsDebtOf tells start notes p owed owes.debt) same owes.is) ((told.gives.is log owes.debt author owes.rests).unwritten none)

  -- the disk failed it
  module _ (faults : ℕ) (told : CommitsTold sees tells c view upcoming old new (Err (fault.Disk faults))) where
    abbrev came : ℕ
    came = told.gives.at

    abbrev write : Write
    write = write_at author c view came

    abbrev Left : Type 0
    Left = (left : Option Try) × Owes sees tells start notes left new × ((left ≡ owed) ⊎ (left ≡ None) ⊎ (left ≡ Some t))

    begins : begin_of old.owed old.chain ≡ begin_at (end_mark log)
    begins = begin_here (play_with start notes old stands empty_view) old.owed old.chain stands.rotates stands.place ∙ ap begin_at stands.mark

    none_left : (now : Debt) → IsDebtOf tells start notes (place_of new.chain) None now → IsAtRest sees log now new → Left
    none_left now is rests = (None, owes_of sees tells start notes new stands_now None now is rests, inr (inl refl))

    -- the gate of its group may be open
    gate_left : (now : Debt) → place_of new.chain ≡ begin_of old.owed old.chain → MayOweGate log write (text_by log write m) m now → IsAtRest sees log now new → Left
    gate_left now at (inl none) rests = none_left now (subst (λ (d : Debt). IsDebtOf tells start notes (place_of new.chain) None d) (sym none) tt) rests
    gate_left now at (inr opened) rests =
        let pending : IsPendingBy tells log t (text_by log write m) opened.0 (log_with log write m) =
        record { met = m; was_there = stands.mailbox; dated = record { at = came; small = told.gives.small; clock = told.gives.clock; is = (refl, opened.1, refl) } } in
        let is : IsDebtOf tells start notes (place_of new.chain) (Some t) now = subst (λ (d : Debt). IsDebtOf tells start notes (place_of new.chain) (Some t) d) (sym opened.2) (refl, at ∙ begins, pending) in
        (Some t, owes_of sees tells start notes new stands_now (Some t) now is rests, inr (inr refl))

    by_left : (now : Debt) → IsLeftAt log owes.debt write old new now → IsAtRest sees log now new → Left
    by_left now (inl same) rests =
        let is : IsDebtOf tells start notes (place_of new.chain) owed now =
        subst (λ (d : Debt). IsDebtOf tells start notes (place_of new.chain) owed d) (sym same.2) (subst (λ (p : Mark). IsDebtOf tells start notes p owed owes.debt) (sym same.0) owes.is) in
        (owed, owes_of sees tells start notes new stands_now owed now is rests, inl refl)
    by_left now (inr (inl paid)) rests = none_left now (subst (λ (d : Debt). IsDebtOf tells start notes (place_of new.chain) None d) (sym paid.3) tt) rests
    by_left now (inr (inr (inl last))) rests = none_left now (subst (λ (d : Debt). IsDebtOf tells start notes (place_of new.chain) None d) (sym last.3.1) tt) rests
    by_left now (inr (inr (inr gate))) rests = gate_left now gate.0 gate.2 rests

    pub failed_owes : Left
    failed_owes = let left = (told.gives.is log owes.debt author owes.rests).err in by_left left.0 left.1 left.2
