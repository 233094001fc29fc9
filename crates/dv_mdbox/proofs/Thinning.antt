-- A storage that loses ids that have no reference, over calls one behind the other.
use Rattle.std.proofs.Common.{◌≡◌, ◌⊎◌, inl, inr, ⊎_elim, ℕ, ◌+◌, List, [], Option, Some, None, Result, Ok, Err, OnOk, OnErr, refl, sym, ◌∙◌, ap, subst, arith}
use Rattle.std.specs.Prelude.{IfErr, MatchResult}
use Rattle.dv_model.specs.declared.types.Mailbox.{Mailbox}
use Rattle.dv_model.specs.declared.types.Record.{Record}
use Rattle.dv_model.specs.Effects.{applied}
use Rattle.dv_shelf.specs.Clocks.{behind}
use Rattle.dv_shelf.specs.Crashes.{LeavesOnly}
use Rattle.dv_logfile.specs.declared.commit.LogFile.{LogFile}
use Rattle.dv_shelf.specs.declared.shelf.Name.TheVariants as name
use Rattle.dv_shelf.specs.Folders.{Folder, with_file}
use Rattle.dv_shelf.specs.Sees.{SeesFolder}
use Rattle.dv_shelf.proofs.FolderLemmas.{with_else}
use Rattle.dv_shelf.proofs.Moments.{joined, started, weaker}
use Rattle.dv_chain.specs.declared.chain.Chain.{Chain}
use Rattle.dv_chain.specs.Openings.{OnlyLooks}
use Rattle.dv_chain.specs.Rest.{Nothing, Owed, next_mark}
use Rattle.dv_files.specs.declared.texts.Turn.{Turn}
use Rattle.dv_files.specs.Texts.{place_of}
use Rattle.dv_writing.specs.Repairing.{RepairsChain, RepairsFiles}
use Rattle.dv_filing.specs.declared.steps.Files.{Files}
use Rattle.dv_filing.specs.Clearing.{ClearsQuietly}
use Rattle.dv_filing.specs.Standing.{Fits, Gives, MayGive, PaysQuietly, Stands}
use Rattle.dv_filing.specs.Writes.{IsLeftOwed}
use Rattle.dv_filing.proofs.Resting.{rests_give}
use Rattle.dv_maps.specs.Laws.{IsMap}
use Rattle.dv_maps.specs.Purges.{IsThinned, ThinningsAre}
use Rattle.dv_maps.specs.Storages.{storage_of}
use Rattle.dv_maps.specs.Texts.{Messages}
use Rattle.dv_mdbox.specs.declared.fault.StorageFault.{StorageFault}
use Rattle.dv_mdbox.specs.declared.fault.StorageFault.TheVariants as fault
use Rattle.dv_mdbox.specs.Answers.{IsFailure}
use Rattle.dv_mdbox.specs.Purging.{MayGivePurge, PurgesQuietly, TakesSome, WritesLater}
use Rattle.dv_mdbox.specs.States.{IsAtRest, IsLookedAt, State}
use Rattle.dv_mdbox.specs.Writes.{MayGiveCall, WritesGroup, WritesQuietly, begin_of, mark_after}
use Rattle.dv_mdbox.proofs.Equal.{stands_looked}

-- ---- readings of a clock

no_more : (k : ℕ) → k ≡ 0 + k
no_more k = omega arith

pub takes_none : (old : ℕ → ℕ) → TakesSome old old
takes_none old = (0, λ i k. old (no_more k i))

one_sum : (a b k : ℕ) → a + (b + k) ≡ (a + b) + k
one_sum a b k = omega arith

pub takes_both : (old mid new : ℕ → ℕ) → TakesSome old mid → TakesSome mid new → TakesSome old new
takes_both old mid new one two = (one.0 + two.0, two.1 ∙ ap (λ (f : ℕ → ℕ). behind f two.0) one.1 ∙ (λ i k. old (one_sum one.0 two.0 k i)))

-- ---- the map stays

pub thin_same : (messages : Messages) → ThinningsAre → (m n : Mailbox) → n ≡ m → IsThinned (storage_of messages m) (storage_of messages n)
thin_same messages laws m n is = subst (λ (k : Mailbox). IsThinned (storage_of messages m) (storage_of messages k)) (sym is) (laws.none (storage_of messages m))

-- ---- a storage

module _ {S C : Type 0} (sees : SeesFolder S) (messages : Messages) (laws : ThinningsAre) where
  -- what a rest is said of
  rest_at : (debt : Owed) (old new : State S C) → new.shelf ≡ old.shelf → new.chain ≡ old.chain → new.owed ≡ old.owed → IsAtRest sees messages debt old → IsAtRest sees messages debt new
  rest_at debt old new at on owed rest = record {
    stands = subst (λ (k : Chain). Stands sees messages debt k new.shelf) (sym on) (subst (λ (s : S). Stands sees messages debt old.chain s) (sym at) rest.stands);
    fits = subst (λ (k : Chain). Fits new.owed k.live.mailbox debt) (sym on) (subst (λ (o : Option Turn). Fits o old.chain.live.mailbox debt) (sym owed) rest.fits);
    map = subst (λ (k : Chain). IsMap k.live.mailbox) (sym on) rest.map;
  }

  -- the chain stays
  module _ (old new : State S C) (on : new.chain ≡ old.chain) (rest : IsAtRest sees messages Nothing new) (since : LeavesOnly sees old.shelf new.shelf (MayGivePurge messages Nothing old.chain)) where
    thin : IsThinned (storage_of messages old.chain.live.mailbox) (storage_of messages new.chain.live.mailbox)
    thin = thin_same messages laws old.chain.live.mailbox new.chain.live.mailbox (λ i. (on i).live.mailbox)

    pub quiet_kept : {T E : Type 0} (result : Result T E) → PurgesQuietly sees messages Nothing old new result
    quiet_kept (Ok x) = record { thins = thin; ok = rest; err = tt; any_moment = since }
    quiet_kept (Err e) = record { thins = thin; ok = tt; err = (Nothing, [], new.chain.live.mailbox, rest.map, laws.none (storage_of messages new.chain.live.mailbox), inr (inl (inl refl)), rest); any_moment = since }

  -- nothing was called
  pub quiet_stays : (old new : State S C) → new.shelf ≡ old.shelf → new.chain ≡ old.chain → new.owed ≡ old.owed → ((c : Folder) → sees.left_since old.shelf (sees.moment old.shelf) c → sees.may_leave old.shelf c) → IsAtRest sees messages Nothing old → {T E : Type 0} (result : Result T E)
      → PurgesQuietly sees messages Nothing old new result
  quiet_stays old new at on owed now rest result =
      quiet_kept old new on (rest_at Nothing old new at on owed rest)
      (subst (λ (s : S). LeavesOnly sees old.shelf s (MayGivePurge messages Nothing old.chain)) (sym at)
      (started sees old.shelf (MayGivePurge messages Nothing old.chain) (λ c left. inl (rests_give sees messages Nothing old.chain old.shelf c rest.stands (now c left))))) result

  -- the folder was looked at
  pub quiet_looked : (old new : State S C) → OnlyLooks sees old.shelf new.shelf → new.chain ≡ old.chain → new.owed ≡ old.owed → IsAtRest sees messages Nothing old → {T E : Type 0} (result : Result T E) → PurgesQuietly sees messages Nothing old new result
  quiet_looked old new looks on owed rest result =
      let here : IsAtRest sees messages Nothing (record old { shelf = new.shelf }) = record { stands = stands_looked sees messages Nothing old.chain old.shelf new.shelf looks rest.stands; fits = rest.fits; map = rest.map } in
      quiet_kept old new on (rest_at Nothing (record old { shelf = new.shelf }) new refl on owed here)
      (weaker sees old.shelf new.shelf (sees.may_leave old.shelf) (MayGivePurge messages Nothing old.chain) looks.since (λ c left. inl (rests_give sees messages Nothing old.chain old.shelf c rest.stands left))) result

  -- files were removed
  pub quiet_cleared : (old new : State S C) → IsLookedAt old new → ClearsQuietly sees messages old.chain old.shelf new.shelf → IsAtRest sees messages Nothing old → {T E : Type 0} (result : Result T E) → PurgesQuietly sees messages Nothing old new result
  quiet_cleared old new looked clears rest result =
      let here : IsAtRest sees messages Nothing (record old { shelf = new.shelf }) = record { stands = clears.stands; fits = rest.fits; map = rest.map } in
      quiet_kept old new looked.chain (rest_at Nothing (record old { shelf = new.shelf }) new refl looked.chain looked.owed here)
      (weaker sees old.shelf new.shelf (MayGive messages Nothing old.chain) (MayGivePurge messages Nothing old.chain) clears.since (λ c gives. inl gives)) result

  -- what was owed was paid, or that failed
  module _ (debt : Owed) (old new : State S C) (on : new.chain.live.mailbox ≡ old.chain.live.mailbox) (rest : IsAtRest sees messages debt old) (since : LeavesOnly sees old.shelf new.shelf (MayGive messages debt old.chain)) where
    paid_since : LeavesOnly sees old.shelf new.shelf (MayGivePurge messages debt old.chain)
    paid_since = weaker sees old.shelf new.shelf (MayGive messages debt old.chain) (MayGivePurge messages debt old.chain) since (λ c gives. inl gives)

    paid_map : IsMap new.chain.live.mailbox
    paid_map = subst IsMap (sym on) rest.map

    pub quiet_paid : {T E : Type 0} (x : T) → new.owed ≡ None → Stands sees messages Nothing new.chain new.shelf → PurgesQuietly sees messages debt old new {T = T} {E = E} (Ok x)
    quiet_paid x none stands = record {
      thins = thin_same messages laws old.chain.live.mailbox new.chain.live.mailbox on;
      ok = record { stands = stands; fits = subst (λ (o : Option Turn). Fits o new.chain.live.mailbox Nothing) (sym none) tt; map = paid_map };
      err = tt;
      any_moment = paid_since;
    }

    pub quiet_owed : {T E : Type 0} (e : E) → new.owed ≡ old.owed → Stands sees messages debt new.chain new.shelf → PurgesQuietly sees messages debt old new {T = T} {E = E} (Err e)
    quiet_owed e kept stands =
        let thin = thin_same messages laws old.chain.live.mailbox new.chain.live.mailbox on in
        let fits : Fits new.owed new.chain.live.mailbox debt = subst (λ (m : Mailbox). Fits new.owed m debt) (sym on) (subst (λ (o : Option Turn). Fits o old.chain.live.mailbox debt) (sym kept) rest.fits) in
        record {
          thins = thin;
          ok = tt;
          err = (debt, [], new.chain.live.mailbox, paid_map, laws.none (storage_of messages new.chain.live.mailbox), inl (refl, on), record { stands = stands; fits = fits; map = paid_map });
          any_moment = paid_since;
        }

  -- a group was written, or that failed
  module _ (old : State S C) (rest : IsAtRest sees messages Nothing old) (records : List Record) (after : Mailbox) (gives : applied old.chain.live.mailbox records ≡ Some after) (map : IsMap after) (thins : IsThinned (storage_of messages old.chain.live.mailbox) (storage_of messages after)) (size : ℕ) where
    group_gives : (c : Folder) → MayGiveCall messages messages Nothing after size old.owed old.chain c → MayGivePurge messages Nothing old.chain c
    group_gives c =
        ⊎_elim inl
        (⊎_elim (λ turned. inr (old.chain.live.mailbox, next_mark old.chain, rest.map, laws.none (storage_of messages old.chain.live.mailbox), turned))
        (λ done. inr (after, mark_after (begin_of old.owed old.chain) size, map, thins, done)))

    one_map : (a b : Mailbox) → Some a ≡ Some b → a ≡ b
    one_map a b e = cc

    pub quiet_group : (new : State S C) {T E : Type 0} (result : Result T E) → WritesGroup records old new result → WritesQuietly sees messages messages Nothing after size old new result → PurgesQuietly sees messages Nothing old new result
    quiet_group new (Ok x) value writes =
        let same : new.chain.live.mailbox ≡ after = one_map new.chain.live.mailbox after (sym value.map ∙ gives) in
        record {
          thins = subst (λ (m : Mailbox). IsThinned (storage_of messages old.chain.live.mailbox) (storage_of messages m)) (sym same) thins;
          ok = record { stands = writes.ok.0; fits = writes.ok.1; map = subst IsMap (sym same) map };
          err = tt;
          any_moment = weaker sees old.shelf new.shelf (MayGiveCall messages messages Nothing after size old.owed old.chain) (MayGivePurge messages Nothing old.chain) writes.any_moment group_gives;
        }
    quiet_group new (Err e) value writes =
        let some = writes.err in
        record {
          thins = thin_same messages laws old.chain.live.mailbox new.chain.live.mailbox value.kept.0;
          ok = tt;
          err = (
            some.0,
            some.1,
            after,
            map,
            subst (λ (m : Mailbox). IsThinned (storage_of messages m) (storage_of messages after)) (sym value.kept.0) thins,
            inr (subst (λ (m : Mailbox). IsLeftOwed Nothing some.1 m after some.0) (sym value.kept.0) (⊎_elim (λ way. inl way.0) (λ gate. inr gate.0) some.3)),
            record { stands = ⊎_elim (λ way. way.1) (λ gate. gate.1) some.3; fits = some.2; map = subst IsMap (sym value.kept.0) rest.map },
          );
          any_moment = weaker sees old.shelf new.shelf (MayGiveCall messages messages Nothing after size old.owed old.chain) (MayGivePurge messages Nothing old.chain) writes.any_moment group_gives;
        }

  -- one call and then another
  module _ (debt : Owed) (old mid new : State S C) {A B : Type 0} (x : A) (one : PurgesQuietly sees messages debt old mid {T = A} {E = B} (Ok x)) (id : mid.chain.indexid ≡ old.chain.indexid) where
    later : (c : Folder) → MayGivePurge messages Nothing mid.chain c → MayGivePurge messages debt old.chain c
    later c =
        ⊎_elim (λ gives. inr (mid.chain.live.mailbox, place_of mid.chain, one.ok.map, one.thins, subst (λ (n : ℕ). Gives messages n mid.chain.live.mailbox (place_of mid.chain) c) id gives))
        (λ some. inr (some.0, some.1, some.2, laws.both _ _ _ one.thins some.3, subst (λ (n : ℕ). Gives messages n some.0 some.1 c) id some.4))

    pub quiet_then : {T E : Type 0} (result : Result T E) → PurgesQuietly sees messages Nothing mid new result → PurgesQuietly sees messages debt old new result
    quiet_then (Ok y) two = record {
      thins = laws.both _ _ _ one.thins two.thins;
      ok = two.ok;
      err = tt;
      any_moment = joined sees old.shelf mid.shelf new.shelf (MayGivePurge messages debt old.chain) one.any_moment
          (weaker sees mid.shelf new.shelf (MayGivePurge messages Nothing mid.chain) (MayGivePurge messages debt old.chain) two.any_moment later);
    }
    quiet_then (Err e) two =
        let some = two.err in
        record {
          thins = laws.both _ _ _ one.thins two.thins;
          ok = tt;
          err = (some.0, some.1, some.2, some.3, some.4, inr (⊎_elim (λ kept. inl (inl kept.0)) (λ left. left) some.5), some.6);
          any_moment = joined sees old.shelf mid.shelf new.shelf (MayGivePurge messages debt old.chain) one.any_moment
              (weaker sees mid.shelf new.shelf (MayGivePurge messages Nothing mid.chain) (MayGivePurge messages debt old.chain) two.any_moment later);
        }

-- what a call is for says nothing of it
module _ {S C A B T E : Type 0} (sees : SeesFolder S) (messages : Messages) (debt : Owed) (old new : State S C) where
  pub quiet_ok : (x : A) (y : T) → PurgesQuietly sees messages debt old new {T = A} {E = B} (Ok x) → PurgesQuietly sees messages debt old new {T = T} {E = E} (Ok y)
  quiet_ok x y q = record { thins = q.thins; ok = q.ok; err = tt; any_moment = q.any_moment }

  pub quiet_err : (e : B) (f : E) → PurgesQuietly sees messages debt old new {T = A} {E = B} (Err e) → PurgesQuietly sees messages debt old new {T = T} {E = E} (Err f)
  quiet_err e f q = record { thins = q.thins; ok = tt; err = q.err; any_moment = q.any_moment }

-- what is said of a storage that differs in its clock alone
pub quiet_clocked : {S C : Type 0} (sees : SeesFolder S) (messages : Messages) (debt : Owed) (old new : State S C) (clock : C) {T E : Type 0} (result : Result T E) → PurgesQuietly sees messages debt (record old { clock = clock }) new result → PurgesQuietly sees messages debt old new result
quiet_clocked sees messages debt old new clock result q = record { thins = q.thins; ok = q.ok; err = q.err; any_moment = q.any_moment }

-- a repair keeps the number of the log
pub repaired_id : (owed : Option Turn) (old new : Chain) {T E : Type 0} (result : Result T E) → RepairsChain owed old new result → new.indexid ≡ old.indexid
repaired_id None old new result is = is.file.0
repaired_id (Some turn) old new (Ok x) is = ap (λ (k : Chain). k.indexid) is
repaired_id (Some turn) old new (Err e) is = ap (λ (k : Chain). k.indexid) is

-- and the message files
repaired_mails_put : (text : List ℕ) (old new : Folder) → (new ≡ old) ⊎ (new ≡ with_file old name.Log (Some text)) → (file : ℕ) → new (name.Mail file) ≡ old (name.Mail file)
repaired_mails_put text old new is file =
    ⊎_elim (λ same. ap (λ (f : Folder). f (name.Mail file)) same)
    (λ put. ap (λ (f : Folder). f (name.Mail file)) put ∙ with_else old name.Log (Some text) (name.Mail file) (λ e. cc)) is

pub repaired_mails : (owed : Option Turn) (log : LogFile) {T E : Type 0} (result : Result T E) (old new : Folder) → RepairsFiles owed log result old new → (file : ℕ) → new (name.Mail file) ≡ old (name.Mail file)
repaired_mails None log result old new is file = is.others (name.Mail file) (λ e. cc)
repaired_mails (Some turn) log (Ok x) old new is file = repaired_mails_put turn.new old new (inr is) file
repaired_mails (Some turn) log (Err e) old new is file = repaired_mails_put turn.new old new is file

-- ---- a group that isn't written

pub later_stays : {S C : Type 0} (sees : SeesFolder S) (records : List Record) (files : Files) (old : State S C) → ((c : Folder) → sees.left_since old.shelf (sees.moment old.shelf) c → sees.may_leave old.shelf c) → {T E : Type 0} (e : E)
    → WritesLater sees records files old old {T = T} {E = E} (Err e)
later_stays sees records files old now e = λ messages after rest gives through. (
  0,
  (
    record {
      ok = tt;
      err = (Nothing, [], rest.fits, inl (inl refl, rest.stands));
      any_moment = started sees old.shelf (MayGiveCall messages messages Nothing after 0 old.owed old.chain) (λ c left. inl (rests_give sees messages Nothing old.chain old.shelf c rest.stands (now c left)));
    },
    λ n away. refl,
  ),
)

-- ---- what comes of calls that only fail

abbrev IsOutcome : {F : Type 0} → ℕ → Result (Unit {0}) F → Result (Unit {0}) StorageFault → Type 0
IsOutcome n done result = MatchResult done (λ x. result ≡ Ok x) (λ e. result ≡ Err (fault.Disk n))

pub outcome_failure : {F : Type 0} (n : ℕ) (done : Result (Unit {0}) F) (result : Result (Unit {0}) StorageFault) → IsOutcome n done result → IfErr result IsFailure
outcome_failure n (Ok x) result is = subst (λ (r : Result (Unit {0}) StorageFault). IfErr r IsFailure) (sym is) tt
outcome_failure n (Err e) result is = subst (λ (r : Result (Unit {0}) StorageFault). IfErr r IsFailure) (sym is) tt

pub outcome_ok : {F : Type 0} (P : Type 0) (n : ℕ) (done : Result (Unit {0}) F) (result : Result (Unit {0}) StorageFault) → IsOutcome n done result → OnOk done P → OnOk result P
outcome_ok P n (Ok x) result is holds = subst (λ (r : Result (Unit {0}) StorageFault). OnOk r P) (sym is) holds
outcome_ok P n (Err e) result is holds = subst (λ (r : Result (Unit {0}) StorageFault). OnOk r P) (sym is) tt

pub quiet_settled : {S C : Type 0} (sees : SeesFolder S) (messages : Messages) (laws : ThinningsAre) (debt : Owed) (old new : State S C) → new.chain.live.mailbox ≡ old.chain.live.mailbox → IsAtRest sees messages debt old → {F : Type 0} (n : ℕ) (done : Result (Unit {0}) F) (result : Result (Unit {0}) StorageFault)
    → IsOutcome n done result → OnOk done (new.owed ≡ None) → OnErr done (new.owed ≡ old.owed) → PaysQuietly sees messages debt old.chain new.chain done old.shelf new.shelf → PurgesQuietly sees messages debt old new result
quiet_settled sees messages laws debt old new on rest n (Ok x) result is none kept pays = subst (λ (r : Result (Unit {0}) StorageFault). PurgesQuietly sees messages debt old new r) (sym is) (quiet_paid sees messages laws debt old new on rest pays.since x none pays.ok)
quiet_settled sees messages laws debt old new on rest n (Err e) result is none kept pays =
    subst (λ (r : Result (Unit {0}) StorageFault). PurgesQuietly sees messages debt old new r) (sym is) (quiet_owed sees messages laws debt old new on rest pays.since (fault.Disk n) kept pays.err)

pub paid_then : {T F : Type 0} (A B P Q : Type 0) (done : Result T F) → OnOk done (A × P) → OnErr done (B × Q) → OnOk done P × OnErr done Q
paid_then A B P Q (Ok x) paid failed = (paid.1, tt)
paid_then A B P Q (Err e) paid failed = (tt, failed.1)
