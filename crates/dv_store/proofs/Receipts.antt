-- What a command's write answers: the limits, the receipt, and what is counted.
use Rattle.std.proofs.Common.{◌≡◌, ◌≢◌, ◌⊎◌, inl, inr, ⊎_elim, ℕ, ◌+◌, ◌-◌, ◌≤◌, List, [], ◌∷◌, ◌++◌, length, take, flat_map, true, Contains, Option, Some, None, Result, Ok, Err, refl, sym, ◌∙◌, ap, subst, arith}
use Rattle.std.specs.Prelude.{IfErr, IfOk, IsSome, OnOk}
use Rattle.std.proofs.lemmas.List.{length-append, take_at}
use Rattle.std.proofs.lemmas.List.Elements.{All-nil}
use Rattle.dv_model.specs.declared.types.Command.{Command}
use Rattle.dv_model.specs.declared.types.Group.{Group}
use Rattle.dv_model.specs.declared.types.GuidRow.{GuidRow}
use Rattle.dv_model.specs.declared.types.Mailbox.{Mailbox}
use Rattle.dv_model.specs.declared.types.Mark.{Mark}
use Rattle.dv_model.specs.declared.types.Record.{Record}
use Rattle.dv_model.specs.declared.types.Reply.{Reply}
use Rattle.dv_model.specs.Effects.{applied}
use Rattle.dv_model.specs.Fresh.{shown_of}
use Rattle.dv_model.specs.Journals.{IsEntry, IsGuid}
use Rattle.dv_model.specs.Sessions.{group_of}
use Rattle.dv_model.specs.Spelling.{group_text, written}
use Rattle.dv_model.specs.Views.{View}
use Rattle.dv_shelf.specs.Clocks.{behind}
use Rattle.dv_logfile.specs.Layout.{closing}
use Rattle.dv_dbox.specs.Mails.{no_guid}
use Rattle.dv_groups.specs.Groups.{HasSizes}
use Rattle.dv_chain.specs.declared.chain.Chain.{Chain}
use Rattle.dv_writing.specs.declared.committing.Committed.{Committed}
use Rattle.dv_writing.specs.Opening.{AreEqual}
use Rattle.dv_files.specs.declared.texts.Turn.{Turn}
use Rattle.dv_files.specs.Texts.{place_of}
use Rattle.dv_lookups.specs.declared.cache_file.CacheFile.{CacheFile}
use Rattle.dv_writing.proofs.Listing.{none_in}
use Rattle.dv_plans.specs.declared.fault.StoreFault.{StoreFault}
use Rattle.dv_plans.specs.declared.fault.StoreFault.TheVariants as fault
use Rattle.dv_plans.specs.declared.plan.Plan.{Plan}
use Rattle.dv_plans.specs.Begins.{TakesReadings as Planned, turns}
use Rattle.dv_plans.specs.Counts.{CountsReads}
use Rattle.dv_plans.specs.Faults.{HasStoreCause}
use Rattle.dv_plans.specs.Limits.{Decides, WhereDecided}
use Rattle.dv_plans.specs.Overs.{DecidesOver, group_over, limit_over}
use Rattle.dv_plans.specs.Plans.{IsPlanOf}
use Rattle.dv_plans.proofs.Naming.{guids_found}
use Rattle.dv_writing.specs.declared.steps.Steps.{Steps}
use Rattle.dv_writing.specs.Ways.{StopsOnWay, ready}
use Rattle.dv_writing.specs.Writes.{CarriesOut}
use Rattle.dv_writing.proofs.Ready.{paid_place}
use Rattle.dv_store.specs.declared.receipt.Receipt.{Receipt}
use Rattle.dv_store.specs.Carried.{HasPlan, MovesMark, carried}
use Rattle.dv_store.specs.Commits.{Commits, CountsFor, CountsMails, IsIdle, IsLimited, IsReceipt, IsUnwritten, StopsAt, TakesFor, TakesReadings, appended_uid, begin_of, cache_behind, idle_receipt}
use Rattle.dv_store.specs.States.{State}
use Rattle.dv_store.proofs.Places.{mark_same, place_same, ready_begins, turns_same}

-- ---- a plan that was carried out

module _ {owed left : Option Turn} {text : List ℕ} {steps : Steps} {old new : Chain} where
  pub carried_done : {E F : Type 0} (done : Committed) → CarriesOut owed left text steps old new {E = E} (Ok done) → CarriesOut owed left text steps old new {E = F} (Ok done)
  carried_done done value = record { mailbox = value.mailbox; mark = value.mark; touched = value.touched; paid = value.paid; failed = tt; place = tt; indexid = value.indexid; owing = value.owing }

  pub carried_failed : {E F : Type 0} (e : E) (f : F) → CarriesOut owed left text steps old new {E = E} (Err e) → CarriesOut owed left text steps old new {E = F} (Err f)
  carried_failed e f value = record { mailbox = λ after pending. tt; mark = tt; touched = tt; paid = tt; failed = value.failed; place = value.place; indexid = value.indexid; owing = value.owing }

  -- nothing is owed behind Ok
  pub carried_paid : (result : Result Receipt StoreFault) → CarriesOut owed left text steps old new (carried result) → OnOk result (left ≡ None)
  carried_paid (Ok receipt) value = value.paid.1
  carried_paid (Err e) value = tt

-- ---- the limits

limited : (A : Type 0) (limit : Option Reply) (group : Group) (e : StoreFault) → Decides {A = A} limit group (Err e) → IsLimited limit group (Err e)
limited A limit group fault.UidsUsedUp is = is
limited A limit group (fault.TooLong bytes) is = is
limited A limit group (fault.Disk faults) is = is
limited A limit group fault.NoMemory is = tt

-- ---- the receipt

module _ (c : Command) (view : View) (before chain : Chain) (same : AreEqual chain before) (owed : Option Turn) where
  pub receipt_idle : (A : Type 0) (mark : Mark) (uid : Option ℕ) → DecidesOver {A = A} c view before (Ok None) → uid ≡ appended_uid c before.live.mailbox → IsReceipt c view owed before chain (idle_receipt mark uid)
  receipt_idle A mark uid decides named = record {
    guid = λ u. no_guid;
    guids = guids_found [] (All-nil (λ (row : GuidRow). IsGuid row.guid));
    group = ap (λ (rs : List Record). record { records = rs }) (sym (none (λ u. no_guid) (λ u. refl)));
    text = refl;
    size = λ other others. ap (λ (rs : List Record). length (flat_map written rs)) (sym (none other others));
    gives = ap Some (sym same.mailbox);
    mark = λ more. absurd (omega (arith, more));
    place = λ more. absurd (omega (arith, more));
    entry = λ more. absurd (omega (arith, more));
    uid = named;
    touched = λ u. (λ has. absurd (none_in u has), λ differs. absurd (differs (ap (λ (m : Mailbox). shown_of m u) (sym same.mailbox))));
  }
    where
      none : (guid : ℕ → List ℕ) → HasSizes guid → (group_over c view before guid).records ≡ []
      none guid sizes = (decides guid sizes).1

  pub receipt_made : (left : Option Turn) (plan : Plan) (uid : Option ℕ) (next : Chain) (receipt : Receipt) → IsPlanOf c view owed chain plan → HasPlan plan uid receipt → uid ≡ appended_uid c before.live.mailbox
      → CarriesOut owed left plan.text plan.steps chain next {E = StoreFault} (Ok (record { mark = receipt.mark; touched = receipt.touched })) → IsReceipt c view owed before next receipt
  receipt_made left plan uid next receipt is has named value = record {
    guid = is.guid;
    guids = is.guids;
    group = has.group ∙ is.group ∙ ap (λ (m : Mailbox). group_of c view m is.guid) same.mailbox;
    text = text_is;
    size = λ other others. ap (λ (t : List ℕ). length t) text_is ∙ ap (λ (g : Group). length (group_text g)) has.group ∙ is.size other others ∙ ap (λ (m : Mailbox). length (group_text (group_of c view m other))) same.mailbox;
    gives = ap (λ (m : Mailbox). applied m receipt.group.records) (sym same.mailbox) ∙ ap (λ (g : Group). applied chain.live.mailbox g.records) has.group ∙ is.gives ∙ ap Some (sym (value.mailbox is.after is.pending));
    mark = λ more. value.mark.0 ∙ mark_same chain before same owed plan.steps.turn is.steps.due is.turn plan.text receipt.group.records some (is.text ∙ ap (λ (g : Group). group_text g ++ closing) (sym has.group));
    place = λ more. value.mark.1;
    entry = λ more author number. subst (λ (g : Group). IsEntry (record { author = author; group = g })) (sym has.group) (is.entry author number);
    uid = has.uid ∙ named;
    touched = λ u. subst (λ (m : Mailbox). (Contains receipt.touched u → shown_of m u ≢ shown_of next.live.mailbox u) × (shown_of m u ≢ shown_of next.live.mailbox u → Contains receipt.touched u)) same.mailbox (value.touched u);
  }
    where
      some : 1 ≤ length receipt.group.records
      some = subst (λ (g : Group). 1 ≤ length g.records) (sym has.group) is.some

      cut : (text : List ℕ) → take (length (text ++ closing) - 4) (text ++ closing) ≡ text
      cut text =
          let e : length (text ++ closing) ≡ length text + 4 = length-append text closing in
          take_at text closing (length (text ++ closing) - 4) (omega (arith, e))

      text_is : receipt.text ≡ group_text receipt.group
      text_is = has.text ∙ ap (λ (t : List ℕ). take (length t - 4) t) is.text ∙ cut (group_text plan.group) ∙ ap group_text (sym has.group)

-- ---- the store

module _ {S C : Type 0} (c : Command) (view : View) (store : State S C) (chain : Chain) (same : AreEqual chain store.chain) (file : CacheFile) (forgot : file ≡ cache_behind c store.cache) where
  -- with what was made ready
  abbrev readied : S → C → State S C
  readied shelf clock = record { shelf = shelf; clock = clock; chain = chain; owed = store.owed; cache = file; mark = store.mark }

  pub commits_refused : (A : Type 0) (e : StoreFault) (shelf : S) (clock : C) → DecidesOver {A = A} c view store.chain (Err e) → Commits c view store (readied shelf clock) (Err e)
  commits_refused A e shelf clock decides = record {
    limit = λ guid sizes. limited A (limit_over c view store.chain guid) (group_over c view store.chain guid) e (decides guid sizes);
    ok = tt;
    paid = tt;
    failed = same.mailbox;
    place = inl (place_same chain store.chain same, refl);
    mark = refl;
    unwritten = λ is. record { chain = same; owed = refl; mark = refl };
    indexid = same.indexid;
    cache = forgot;
  }

  pub commits_idle : (A : Type 0) (mark : Mark) (uid : Option ℕ) (shelf : S) (clock : C) → DecidesOver {A = A} c view store.chain (Ok None) → mark ≡ store.mark → uid ≡ appended_uid c store.chain.live.mailbox → Commits c view store (readied shelf clock) (Ok (idle_receipt mark uid))
  commits_idle A mark uid shelf clock decides at named = record {
    limit = λ guid sizes. (decides guid sizes).0;
    ok = receipt_idle c view store.chain chain same store.owed A mark uid decides named;
    paid = λ some. absurd (omega (arith, some));
    failed = tt;
    place = tt;
    mark = sym at;
    unwritten = λ is. record { chain = same; owed = refl; mark = refl };
    indexid = same.indexid;
    cache = forgot;
  }

  module _ (plan : Plan) (decides : DecidesOver {A = Plan} c view store.chain (Ok (Some plan))) (is : IsPlanOf c view store.owed chain plan) (left : Option Turn) (next : Chain) (shelf : S) (clock : C) (at : Mark) where
    abbrev behind_all : State S C
    behind_all = record { shelf = shelf; clock = clock; chain = next; owed = left; cache = file; mark = at }

    turns_is : IsSome plan.steps.turn → turns store.owed store.chain ≡ true
    turns_is some = sym (turns_same chain store.chain same store.owed) ∙ sym is.turn ∙ some

    place_failed : StopsOnWay store.owed left plan.steps.turn chain next ⊎ ((place_of next ≡ place_of (ready store.owed plan.steps.turn chain)) × (left ≡ None)) → StopsAt store behind_all
    place_failed =
        ⊎_elim
        (⊎_elim (λ stays. inl (ap place_of stays.0 ∙ place_same chain store.chain same, stays.1))
        (λ paid. inr (inl (paid_place store.owed plan.steps.turn chain next is.steps.due paid.1 paid.0 ∙ place_same chain store.chain same, turns_is paid.1))))
        (λ begins. inr (inr (begins.0 ∙ ready_begins chain store.chain same store.owed plan.steps.turn is.steps.due is.turn, begins.1)))

    pub commits_written : (uid : Option ℕ) (faults : ℕ) (result : Result Receipt StoreFault) → uid ≡ appended_uid c store.chain.live.mailbox → IfOk result (HasPlan plan uid) → IfErr result (λ e. e ≡ fault.Disk faults) → CarriesOut store.owed left plan.text plan.steps chain next (carried result)
        → MovesMark store.mark at result → Commits c view store behind_all result
    commits_written uid faults (Ok receipt) named has disk value moves = record {
      limit = λ guid sizes. (decides guid sizes).0;
      ok = receipt_made c view store.chain chain same store.owed left plan uid next receipt is has named value;
      paid = λ some. record { turn = value.paid.1; debt = value.paid.0 };
      failed = tt;
      place = tt;
      mark = moves;
      unwritten = λ none. absurd (let some : 1 ≤ length receipt.group.records = subst (λ (g : Group). 1 ≤ length g.records) (sym has.group) is.some in omega (arith, some, ap length none));
      indexid = value.indexid ∙ same.indexid;
      cache = forgot;
    }
    commits_written uid faults (Err e) named has disk value moves = record {
      limit = λ guid sizes. subst (λ (x : StoreFault). IsLimited (limit_over c view store.chain guid) (group_over c view store.chain guid) (Err x)) (sym disk) (decides guid sizes);
      ok = tt;
      paid = tt;
      failed = ap (λ h. h.mailbox) value.failed ∙ same.mailbox;
      place = place_failed value.place;
      mark = moves;
      unwritten = λ none. absurd (subst (λ (x : StoreFault). IsUnwritten (Err x)) disk none);
      indexid = value.indexid ∙ same.indexid;
      cache = forgot;
    }

-- ---- whether anything was written

pub idle_unwritten : (result : Result Receipt StoreFault) → IsIdle result → IsUnwritten result
idle_unwritten (Ok receipt) is = is
idle_unwritten (Err fault.UidsUsedUp) is = is
idle_unwritten (Err (fault.TooLong bytes)) is = is
idle_unwritten (Err (fault.Disk faults)) is = absurd is
idle_unwritten (Err fault.NoMemory) is = absurd is

pub idle_untouched : (A P : Type 0) (e : StoreFault) → WhereDecided {A = A} (Err e) P → IsIdle (Err e) → P
idle_untouched A P fault.UidsUsedUp is idle = is
idle_untouched A P (fault.TooLong bytes) is idle = is
idle_untouched A P (fault.Disk faults) is idle = absurd idle
idle_untouched A P fault.NoMemory is idle = absurd idle

-- a failure of the disk is behind a write that began
pub disk_written : (faults : ℕ) (result : Result Receipt StoreFault) → IfErr result (λ e. e ≡ fault.Disk faults) → IfErr result (λ e. IsUnwritten (Err e) → ⊥)
disk_written faults (Ok receipt) disk = tt
disk_written faults (Err e) disk = λ none. absurd (subst (λ (x : StoreFault). IsUnwritten (Err x)) disk none)

-- ---- the clock and the message files

pub takes_some : (n : ℕ) (old new : ℕ → ℕ) (records : List Record) → 1 ≤ length records → new ≡ behind old n → TakesFor n old new records
takes_some n old new [] some is = absurd (omega (arith, some))
takes_some n old new (r ∷ rs) some is = is

counts_some : (n before now : ℕ) (records : List Record) → 1 ≤ length records → CountsReads n before now → CountsFor n before now records
counts_some n before now [] some is = absurd (omega (arith, some))
counts_some n before now (r ∷ rs) some is = is

module _ (plan : Plan) (uid : Option ℕ) (some : 1 ≤ length plan.group.records) where
  has_some : (receipt : Receipt) → HasPlan plan uid receipt → 1 ≤ length receipt.group.records
  has_some receipt has = subst (λ (g : Group). 1 ≤ length g.records) (sym has.group) some

  pub plan_written : (faults : ℕ) (result : Result Receipt StoreFault) → IfOk result (HasPlan plan uid) → IfErr result (λ e. e ≡ fault.Disk faults) → IsUnwritten result → ⊥
  plan_written faults (Ok receipt) has disk none = absurd (let more : 1 ≤ length receipt.group.records = has_some receipt has in omega (arith, more, ap length none))
  plan_written faults (Err e) has disk none = disk_written faults (Err e) disk none

  pub readings_taken : (n faults : ℕ) (old new : ℕ → ℕ) (result : Result Receipt StoreFault) → IfOk result (HasPlan plan uid) → IfErr result (λ e. e ≡ fault.Disk faults) → new ≡ behind old n → TakesReadings n old new result
  readings_taken n faults old new (Ok receipt) has disk is = takes_some n old new receipt.group.records (has_some receipt has) is
  readings_taken n faults old new (Err e) has disk is = subst (λ (x : StoreFault). TakesReadings n old new (Err x)) (sym disk) is

  pub mails_counted : (n before mid now : ℕ) (result : Result Receipt StoreFault) → IfOk result (HasPlan plan uid) → CountsReads n before mid → now ≡ mid → CountsMails n before now result
  mails_counted n before mid now (Ok receipt) has read same = counts_some n before now receipt.group.records (has_some receipt has) (subst (CountsReads n before) (sym same) read)
  mails_counted n before mid now (Err e) has read same = (n, omega arith, subst (CountsReads n before) (sym same) read)

pub readings_passed : (A : Type 0) (n : ℕ) (old new : ℕ → ℕ) (e : StoreFault) → Planned {A = A} n old new (Err e) → TakesReadings n old new (Err e)
readings_passed A n old new fault.UidsUsedUp is = is
readings_passed A n old new (fault.TooLong bytes) is = is
readings_passed A n old new (fault.Disk faults) is = is
readings_passed A n old new fault.NoMemory is = is

-- ---- what stands behind a fault

-- an error is passed on
pub passed_cause : {A B : Type 0} (before now : ℕ) (e : StoreFault) → HasStoreCause {A = A} before now (Err e) → HasStoreCause {A = B} before now (Err e)
passed_cause before now fault.UidsUsedUp cause = record { later = cause.later; rose = tt {0} }
passed_cause before now (fault.TooLong bytes) cause = record { later = cause.later; rose = tt {0} }
passed_cause before now (fault.Disk faults) cause = record { later = cause.later; rose = cause.rose }
passed_cause before now fault.NoMemory cause = record { later = cause.later; rose = tt {0} }

-- another call went well before
pub later_cause : {A B : Type 0} (before mid now : ℕ) (x : A) (result : Result B StoreFault) → HasStoreCause before mid (Ok x) → HasStoreCause mid now result → HasStoreCause before now result
later_cause before mid now x (Ok y) first cause = record { later = omega (arith, first.later, cause.later); rose = tt {0} }
later_cause before mid now x (Err fault.UidsUsedUp) first cause = record { later = omega (arith, first.later, cause.later); rose = tt {0} }
later_cause before mid now x (Err (fault.TooLong bytes)) first cause = record { later = omega (arith, first.later, cause.later); rose = tt {0} }
later_cause before mid now x (Err (fault.Disk faults)) first cause = record { later = omega (arith, first.later, cause.later); rose = (cause.rose.0, omega (arith, first.later, cause.rose.1)) }
later_cause before mid now x (Err fault.NoMemory) first cause = record { later = omega (arith, first.later, cause.later); rose = tt {0} }
