-- What a commit and a heal leave of the folder of a chain at rest.
use Rattle.std.proofs.Common.{◌≡◌, ◌≢◌, ◌⊎◌, inl, inr, ⊎_elim, ℕ, ◌+◌, ◌-◌, ◌*◌, ◌≤◌, ◌<◌, true, List, [], ◌∷◌, ◌++◌, length, min, take, Option, Some, Result, Ok, Err, IsOk, OnOk, OnErr, refl, sym, ◌∙◌, ap, subst, arith}
use Rattle.std.specs.Prelude.{slice_index, unwrap_or}
use Rattle.dv_model.specs.declared.types.Mailbox.{Mailbox}
use Rattle.dv_model.specs.declared.types.Mark.{Mark}
use Rattle.dv_model.specs.declared.types.Record.{Record}
use Rattle.dv_model.specs.Effects.{applied}
use Rattle.dv_shelf.specs.declared.shelf.Name.{Name}
use Rattle.dv_shelf.specs.declared.shelf.Name.TheVariants as name
use Rattle.dv_shelf.specs.Crashes.{Follows, LeavesOnly}
use Rattle.dv_shelf.specs.Folders.{Folder, contents, patched, with_file}
use Rattle.dv_shelf.proofs.FolderLemmas.{with_else}
use Rattle.dv_shelf.proofs.Moments.{started, weaker}
use Rattle.dv_shelf.proofs.Torn.{patched_torn}
use Rattle.dv_logfile.specs.declared.commit.Debt.{Debt}
use Rattle.dv_logfile.specs.declared.commit.Debt.TheVariants as debt
use Rattle.dv_logfile.specs.declared.commit.LogFile.{LogFile}
use Rattle.dv_logfile.specs.Commits.{AdvancesLog, LeavesGroup, ReadsHealed, SettlesDebt, ShutsGate, WritesGroup}
use Rattle.dv_logfile.specs.Gates.{AreLong, FromOneOf, IsBeforeOrAfter, IsLeft, IsOpen, IsShut, IsStaged, KeepsFront}
use Rattle.dv_logfile.specs.Layout.{Begins, IsGroupText, Spelled, bytes_at, closing, last_end, longest_log}
use Rattle.dv_logfile.specs.Reading.{HasGroup, HasShutGate, IsAtRest}
use Rattle.dv_logfile.proofs.OneLog.{one_spelling}
use Rattle.dv_logfile.proofs.Reading.{group_stays, shut_behind, shut_stays}
use Rattle.dv_chain.specs.declared.chain.Chain.{Chain}
use Rattle.dv_chain.specs.Openings.{HasBounds, found_of}
use Rattle.dv_chain.specs.Rest.{Holds, HoldsAlone, IsPending, IsResting, Last, Nothing, Owed, Owes, Pending, Rests, cut_at}
use Rattle.dv_chain.proofs.Named.{holds_as}
use Rattle.dv_apply.specs.States.{Held}
use Rattle.dv_openings.specs.Openings.{Finds, IsFound}
use Rattle.dv_writing.specs.Commits.{CommitsGroup, HealsFolder, KeepsOthers, OpensBeside, healed, owed_after}
use Rattle.dv_writing.specs.Opening.{MayOpen, mark_behind}
use Rattle.dv_writing.proofs.Images.{alone_opens, either_opens, group_holds, holds_kept}
use Rattle.dv_writing.proofs.Opened.{may_open}
use Rattle.dv_shelf.specs.Sees.{SeesFolder}

-- ---- the group

front_kept : (e most : ℕ) (old new : Folder) → KeepsFront old e most new → take e (contents new name.Log) ≡ take e (contents old name.Log)
front_kept e most old new kept = ap (λ (file : Option (List ℕ)). take e (unwrap_or file [])) kept.is ∙ kept.front

-- the log's bytes before it stay
pub commit_front : (text : List ℕ) (log next : LogFile) {T E : Type 0} (result : Result T E) (old new : Folder) → log.end < length (contents old name.Log) → WritesGroup text log next result old new
    → take log.end (contents new name.Log) ≡ take log.end (contents old name.Log)
commit_front text log next (Ok x) old new long writes =
    let b = contents old name.Log in
    let least : min log.end (length b) ≡ log.end = omega (arith, long) in
    ap (λ (d : Folder). take log.end (contents d name.Log)) (writes.written (omega (arith, long))) ∙ subst (λ (n : ℕ). take n (patched b log.end text) ≡ take n b) least (patched_torn b log.end text).before
commit_front text log next (Err e) old new long writes =
    ⊎_elim (λ shut. front_kept log.end (log.end + length text) old new shut.kept) (λ staged. front_kept log.end (log.end + length text) old new staged.kept) (writes.failed long)

pub group_of : (text : List ℕ) (after : Mailbox) (chain : Chain) → IsPending text after chain → IsGroupText text
group_of text after chain pending = record { records = pending.records; some = pending.some; spelled = pending.spelled }

-- a text has one group, which makes one mailbox
pub pending_one : (text : List ℕ) (a b : Mailbox) (chain : Chain) → IsPending text a chain → IsPending text b chain → a ≡ b
pending_one text a b chain one other =
    let same = one_spelling one.records other.records text closing closing one.spelled other.spelled refl refl in
    let both : Some a ≡ Some b = sym one.gives ∙ ap (applied chain.live.mailbox) same.1 ∙ other.gives in
    cc

-- ---- a chain of which only the debt is another

pub record IsSame (chain next : Chain) : Type 0 where
  pub live : next.live ≡ chain.live
  pub seq : next.log.file_seq ≡ chain.log.file_seq
  pub end : next.log.end ≡ chain.log.end
  pub count : next.log.count ≡ chain.log.count
  pub indexid : next.indexid ≡ chain.indexid
  pub records : next.records ≡ chain.records

module _ (chain next : Chain) (same : IsSame chain next) where
  pub same_holds : (c : Folder) → Holds chain c → Holds next c
  same_holds c holds = record {
    stands = record {
      header = holds.stands.header;
      records = holds.stands.records;
      begins = subst (λ (k : ℕ). Begins holds.stands.header holds.stands.records k (contents c name.Log)) (sym same.end) holds.stands.begins;
      seq = same.seq ∙ holds.stands.seq;
      count = same.count ∙ holds.stands.count;
      indexid = same.indexid ∙ holds.stands.indexid;
      number = same.records ∙ holds.stands.number;
    };
    opens = subst (λ (k : ℕ). IsFound (cut_at k c) (Finds next.live.mailbox (record { file_seq = next.log.file_seq; offset = k }))) (sym same.end)
        (subst (λ (k : ℕ). IsFound (cut_at chain.log.end c) (Finds next.live.mailbox (record { file_seq = k; offset = chain.log.end }))) (sym same.seq)
        (ap-found c holds.opens));
  }
    where
      ap-found : (c : Folder) → IsFound (cut_at chain.log.end c) (found_of chain) → IsFound (cut_at chain.log.end c) (Finds next.live.mailbox (record { file_seq = chain.log.file_seq; offset = chain.log.end }))
      ap-found c found = subst (λ (l : Held). IsFound (cut_at chain.log.end c) (Finds l.mailbox (record { file_seq = chain.log.file_seq; offset = chain.log.end }))) (sym same.live) found

  pub same_bounds : HasBounds chain → HasBounds next
  same_bounds bounds = record { end = omega (arith, bounds.end, same.end); count = omega (arith, bounds.count, same.end, same.count); named = omega (arith, bounds.named, same.indexid) }

  pub same_pending : (text : List ℕ) (after : Mailbox) → IsPending text after chain → IsPending text after next
  same_pending text after pending = record {
    records = pending.records;
    some = pending.some;
    spelled = pending.spelled;
    gives = ap (λ (l : Held). applied l.mailbox pending.records) same.live ∙ pending.gives;
    room = omega (arith, pending.room, same.end);
  }

  pub same_gate : (c : Folder) → HasShutGate chain.log.end (contents c name.Log) → HasShutGate next.log.end (contents c name.Log)
  same_gate c shut = subst (λ (k : ℕ). HasShutGate k (contents c name.Log)) (sym same.end) shut

  pub same_group : (text : List ℕ) (c : Folder) → HasGroup chain.log.end text (contents c name.Log) → HasGroup next.log.end text (contents c name.Log)
  same_group text c group = subst (λ (k : ℕ). HasGroup k text (contents c name.Log)) (sym same.end) group

-- ---- a commit

module _ {S : Type 0} (sees : SeesFolder S)
    (text : List ℕ) (after : Mailbox) (chain : Chain) (pending : IsPending text after chain) (old new : S) (rest : Rests sees Nothing chain old) where
  abbrev e : ℕ
  e = chain.log.end

  long : AreLong e (sees.may_leave old)
  long c left = (rest.each c left).1.0

  -- an image behind a step from one at rest
  kept_shut : (d c : Folder) → sees.may_leave old d → IsShut d e text c → HoldsAlone chain c
  kept_shut d c left step = (holds_kept chain d c (e + length text) step.kept pending.room (rest.each d left).0, shut_stays d c e text step (rest.each d left).1)

  kept_staged : (d c : Folder) → sees.may_leave old d → IsStaged d e text c → Holds chain c × HasGroup e text (contents c name.Log)
  kept_staged d c left step = (holds_kept chain d c (e + length text) step.kept pending.room (rest.each d left).0, group_stays d c e text step (rest.each d left).1.0)

  since_opens : (d c : Folder) → sees.may_leave old d → IsBeforeOrAfter d e text c → OpensBeside (Pending text after) chain d c
  since_opens d c left step =
      ⊎_elim (λ shut. let is = kept_shut d c left shut in (shut.kept.others, inl (holds_as chain c is.0 (found_of chain) (alone_opens chain c is.0 is.1))))
      (λ staged. let is = kept_staged d c left staged in (staged.kept.others, either_opens chain c is.0 text after pending is.1)) step

  module _ (log : LogFile) {T E : Type 0} (result : Result T E) (crash : LeavesGroup sees text chain.log log result old new) where
    pub commit_since : LeavesOnly sees old new (FromOneOf (sees.may_leave old) (OpensBeside (Pending text after) chain))
    commit_since =
        weaker sees old new _ (FromOneOf (sees.may_leave old) (OpensBeside (Pending text after) chain)) (crash.since long)
        (λ c from. (from.0, from.1, since_opens from.0 c from.1 from.2))

  -- it was done
  pub committed_rests : (next : Chain) → next.live.mailbox ≡ after → next.log.file_seq ≡ chain.log.file_seq → next.log.end + 4 ≡ e + length text
      → (next.log.count ≡ chain.log.count + length pending.records) × (8 * next.log.count ≤ next.log.end) → next.log.debt ≡ debt.None → next.indexid ≡ chain.indexid → next.records ≡ chain.records
      → Follows (λ d c. IsOpen d e text c) (sees.may_leave old) (sees.may_leave new) → Rests sees Nothing next new
  committed_rests next mailbox seq end count debt indexid records opened = record {
    bounds = record { end = omega (arith, pending.room, end); count = count.1; named = omega (arith, rest.bounds.named, indexid) };
    owes = debt;
    each = λ c left.
        let from = opened c left in
        let step = from.2 in
        let holds = holds_kept chain from.0 c (e + length text) step.kept pending.room (rest.each from.0 from.1).0 in
        let there : bytes_at e (length text) (contents c name.Log) ≡ text =
        ap (λ (x : Option (List ℕ)). bytes_at e (length text) (unwrap_or x [])) step.kept.is ∙ step.group in
        let gate = shut_behind from.0 c e text pending.room next.log.end (group_of text after chain pending) step end in
        (group_holds chain c holds text after pending there next mailbox seq (omega (arith, end)) count.0 indexid records, gate);
  }

  -- it failed
  module _ (next : Chain) (same : IsSame chain next) where
    pub failed_rests : (d : Debt) → next.log.debt ≡ d → Follows (λ a c. IsLeft d a e text c) (sees.may_leave old) (sees.may_leave new) → Rests sees (owed_after d text after) next new
    failed_rests debt.None due left = record {
      bounds = same_bounds chain next same rest.bounds;
      owes = due;
      each = λ c there.
          let from = left c there in
          let is = kept_shut from.0 c from.1 from.2 in
          (same_holds chain next same c is.0, same_gate chain next same c is.1);
    }
    failed_rests debt.Gate due left = record {
      bounds = same_bounds chain next same rest.bounds;
      owes = (due, same_pending chain next same text after pending);
      each = λ c there.
          let from = left c there in
          let is = kept_staged from.0 c from.1 from.2 in
          (same_holds chain next same c is.0, same_group chain next same text c is.1);
    }

  -- the files
  pub commit_others : (log : LogFile) {T E : Type 0} (result : Result T E) → sees.may_leave old (sees.files old) → WritesGroup text chain.log log result (sees.files old) (sees.files new) → KeepsOthers (sees.files old) (sees.files new)
  commit_others log (Ok done) here writes n other =
      let is = writes.written (omega (arith, long (sees.files old) here)) in
      ap (λ (d : Folder). d n) is ∙ with_else (sees.files old) name.Log _ n other
  commit_others log (Err fault) here writes n other =
      ⊎_elim (λ shut. shut.kept.others n other) (λ staged. staged.kept.others n other) (writes.failed (long (sees.files old) here))

  -- ---- both exits

  module _ (next : Chain) (indexid : next.indexid ≡ chain.indexid) (records : next.records ≡ chain.records) (here : sees.may_leave old (sees.files old)) where
    pub commit_failed : {T E U F : Type 0} (fault : E) (f : F) → next.live ≡ chain.live → AdvancesLog text chain.log next.log {E = F} (Err f) → WritesGroup text chain.log next.log {T = U} (Err f) (sees.files old) (sees.files new)
        → LeavesGroup sees text chain.log next.log {T = U} (Err f) old new → CommitsGroup sees text after chain next {T = T} (Err fault) old new
    commit_failed {U = U} {F = F} fault f live value bytes crash =
        let same : IsSame chain next = record { live = live; seq = value.file_seq; end = value.kept.0; count = value.kept.1; indexid = indexid; records = records } in
        record {
          ok = tt;
          err = failed_rests next same next.log.debt refl (crash.left long);
          any_moment = commit_since next.log {T = U} {E = F} (Err f) crash;
          others = commit_others next.log {T = U} {E = F} (Err f) here bytes;
        }

    pub commit_done : {T E F : Type 0} (done : T) (mark : Mark) → next.live.mailbox ≡ after → AdvancesLog text chain.log next.log {E = F} (Ok mark) → WritesGroup text chain.log next.log {E = F} (Ok mark) (sees.files old) (sees.files new)
        → LeavesGroup sees text chain.log next.log {E = F} (Ok mark) old new → CommitsGroup sees text after chain next {E = E} (Ok done) old new
    commit_done {F = F} done mark mailbox value bytes crash = record {
      ok = committed_rests next mailbox value.file_seq value.end (value.counted rest.bounds.count pending.records pending.spelled) value.debt indexid records (crash.opened long);
      err = tt;
      any_moment = commit_since next.log {E = F} (Ok mark) crash;
      others = commit_others next.log {E = F} (Ok mark) here bytes;
    }

-- ---- a heal

-- nothing is owed in the log
module _ {S : Type 0} (sees : SeesFolder S) (owed : Owed) (chain : Chain) where
  pub still_heals : (s : S) → healed owed ≡ owed → Rests sees owed chain s → ((c : Folder) → sees.left_since s (sees.moment s) c → sees.may_leave s c)
      → {E : Type 0} → HealsFolder sees owed chain chain {T = Unit {0}} {E = E} (Ok tt) s s
  still_heals s still rest now = record {
    ok = subst (λ (o : Owed). Rests sees o chain s) (sym still) rest;
    err = tt;
    any_moment = started sees s (FromOneOf (sees.may_leave s) (OpensBeside owed chain))
        (λ c left. let is = now c left in (c, is, (λ n other. refl, may_open owed chain c rest.owes (rest.each c is))));
    others = λ n other. refl;
  }

-- a group is
module _ {S : Type 0} (sees : SeesFolder S)
    (text : List ℕ) (after : Mailbox) (chain : Chain) (old new : S) (rest : Rests sees (Pending text after) chain old) where
  abbrev pending-is : IsPending text after chain
  pending-is = rest.owes.1

  pub pending_rest : IsAtRest chain.log.debt chain.log.end text (sees.may_leave old)
  pending_rest = subst (λ (d : Debt). IsAtRest d chain.log.end text (sees.may_leave old)) (sym rest.owes.0) (λ c left. (rest.each c left).1)

  heal_holds : (d c : Folder) → sees.may_leave old d → IsStaged d chain.log.end text c → Holds chain c
  heal_holds d c left step = holds_kept chain d c (chain.log.end + length text) step.kept pending-is.room (rest.each d left).0

  heal_opens : (d c : Folder) → sees.may_leave old d → IsStaged d chain.log.end text c → OpensBeside (Pending text after) chain d c
  heal_opens d c left step = (step.kept.others, either_opens chain c (heal_holds d c left step) text after pending-is (group_stays d c chain.log.end text step (rest.each d left).1.0))

  module _ (next : Chain) (same : IsSame chain next) (now : (c : Folder) → sees.may_leave new c → sees.left_since new (sees.moment old) c) where
    pub pending_heals : {E : Type 0} (result : Result (Unit {0}) E) → OnOk result (next.log.debt ≡ debt.None) → OnErr result (next.log.debt ≡ chain.log.debt)
        → ShutsGate chain.log result (sees.files old) (sees.files new) → ReadsHealed sees text chain.log next.log result old new
        → HealsFolder sees (Pending text after) chain next result old new
    pending_heals (Ok done) paid due shuts reads = record {
      ok = record {
        bounds = same_bounds chain next same rest.bounds;
        owes = paid;
        each = λ c left.
            let from = (reads.since rest.owes.0).each c (now c left) in
            let gate = subst (λ (d : Debt). IsAtRest d next.log.end text (sees.may_leave new)) paid reads.rest in
            (same_holds chain next same c (heal_holds from.0 c from.1 from.2), gate c left);
      };
      err = tt;
      any_moment = weaker sees old new _ (FromOneOf (sees.may_leave old) (OpensBeside (Pending text after) chain)) (reads.since rest.owes.0)
          (λ c from. (from.0, from.1, heal_opens from.0 c from.1 from.2));
      others = λ n other. ap (λ (d : Folder). d n) (shuts.written rest.owes.0) ∙ with_else (sees.files old) name.Log _ n other;
    }
    pending_heals (Err fault) paid due shuts reads = record {
      ok = tt;
      err = record {
        bounds = same_bounds chain next same rest.bounds;
        owes = (due ∙ rest.owes.0, same_pending chain next same text after pending-is);
        each = λ c left.
            let from = (reads.since rest.owes.0).each c (now c left) in
            let group = subst (λ (d : Debt). IsAtRest d next.log.end text (sees.may_leave new)) (due ∙ rest.owes.0) reads.rest in
            (same_holds chain next same c (heal_holds from.0 c from.1 from.2), group c left);
      };
      any_moment = weaker sees old new _ (FromOneOf (sees.may_leave old) (OpensBeside (Pending text after) chain)) (reads.since rest.owes.0)
          (λ c from. (from.0, from.1, heal_opens from.0 c from.1 from.2));
      others = shuts.torn.others;
    }

-- what is owed says which
module _ {S : Type 0} (sees : SeesFolder S) (chain next : Chain) (old new : S) {F : Type 0} (result : Result (Unit {0}) F)
    (live : next.live ≡ chain.live) (indexid : next.indexid ≡ chain.indexid) (records : next.records ≡ chain.records) (value : SettlesDebt chain.log next.log result)
    (nothing : chain.log.debt ≡ debt.None → IsOk result × (new ≡ old)) (only : (c : Folder) → sees.left_since old (sees.moment old) c → sees.may_leave old c) where
  same_chain : next.log.debt ≡ chain.log.debt → next ≡ chain
  same_chain due = λ i. record {
    live = live i;
    log = record { file_seq = value.kept.0 i; end = value.kept.1 i; count = value.kept.2 i; debt = due i };
    indexid = indexid i;
    records = records i;
  }

  nothing_heals : (owed : Owed) → healed owed ≡ owed → chain.log.debt ≡ debt.None → Rests sees owed chain old → HealsFolder sees owed chain next result old new
  nothing_heals owed still none rest = by_result result value.debt (nothing none)
    where
      by_result : (r : Result (Unit {0}) F) → OnOk r (next.log.debt ≡ debt.None) → IsOk r × (new ≡ old) → HealsFolder sees owed chain next {T = Unit {0}} {E = F} r old new
      by_result (Ok done) paid is =
          subst (λ (s : S). HealsFolder sees owed chain next {T = Unit {0}} {E = F} (Ok done) old s) (sym is.1)
          (subst (λ (n : Chain). HealsFolder sees owed chain n {T = Unit {0}} {E = F} (Ok done) old old) (sym (same_chain (paid ∙ sym none)))
          (still_heals sees owed chain old still rest only))
      by_result (Err fault) paid is = absurd cc

  pub heals : (owed : Owed) → Rests sees owed chain old → ShutsGate chain.log result (sees.files old) (sees.files new)
      → ((text : List ℕ) → IsGroupText text → IsAtRest chain.log.debt chain.log.end text (sees.may_leave old) → ReadsHealed sees text chain.log next.log result old new)
      → (sees.moment old ≤ sees.moment new → (c : Folder) → sees.may_leave new c → sees.left_since new (sees.moment old) c) → HealsFolder sees owed chain next result old new
  heals Nothing rest shuts reading now = nothing_heals Nothing refl rest.owes rest
  heals (Last log after) rest shuts reading now = nothing_heals (Last log after) refl rest.owes rest
  heals (Pending text after) rest shuts reading now =
      let reads = reading text (group_of text after chain rest.owes.1) (pending_rest sees text after chain old new rest) in
      let same : IsSame chain next = record { live = live; seq = value.kept.0; end = value.kept.1; count = value.kept.2; indexid = indexid; records = records } in
      pending_heals sees text after chain old new rest next same (now (reads.since rest.owes.0).later) result value.debt value.failed shuts reads
