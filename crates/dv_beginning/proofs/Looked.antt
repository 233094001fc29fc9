-- A run begins behind a look at the folder.
use Rattle.std.proofs.Common.{◌≡◌, ⊎_elim, inl, inr, ℕ, [], Result, Ok, Err, refl, sym, ◌∙◌, ap, subst}
use Rattle.dv_model.specs.declared.types.OpenFault.{OpenFault}
use Rattle.dv_model.specs.declared.types.OpenFault.TheVariants as fault
use Rattle.dv_model.specs.Journals.{Log}
use Rattle.dv_shelf.specs.Clocks.{behind}
use Rattle.dv_shelf.specs.Crashes.{IsSettled, LeavesOnly}
use Rattle.dv_shelf.specs.Folders.{Folder, IsNew}
use Rattle.dv_openings.specs.Openings.{IsFound}
use Rattle.dv_chain.specs.declared.chain.Chain.{Chain}
use Rattle.dv_chain.specs.Openings.{FaultFound, HasCause, IsOutside, OnlyLooks, UnlessDisk}
use Rattle.dv_chain.proofs.Shelves.{looked_only, looked_then, settled_still}
use Rattle.dv_store.specs.States.{State}
use Rattle.dv_beginning.specs.Begins.{Begins, IsBegun}
use Rattle.dv_beginning.specs.Leaving.{IsUnopened, LeavesUnopened, MayLeave}
use Rattle.dv_serving.specs.NextRuns.{IsTrueFolder}
use Rattle.dv_beginning.specs.Starts.{Starts}
use Rattle.dv_beginning.proofs.Created.{outside_found, outside_none}
use Rattle.dv_beginning.proofs.Opened.{start_may}
use Rattle.dv_beginning.proofs.Starting.{opened_gives, quiet_same}
use Rattle.dv_shelf.specs.Sees.{SeesFolder, SeesTime}

-- what holds in any case
unless_failed : {P : Type 0} (f : OpenFault) → P → UnlessDisk {A = Chain} (Err f) P
unless_failed (fault.Disk faults) is = tt
unless_failed fault.NoMemory is = is
unless_failed fault.NoLog is = is
unless_failed fault.BadLogHeader is = is
unless_failed (fault.BadRecord offset) is = is
unless_failed fault.BadIndex is = is
unless_failed (fault.Gap index log) is = is

-- nothing has happened yet
starts_may : (clock : ℕ → ℕ) (folder : Folder) (start : Log) (used : ℕ) → Starts clock folder start used → IsTrueFolder folder → MayLeave (behind clock used) start [] folder folder
starts_may clock folder start used starts is_true =
    ⊎_elim (λ opened. inr (start_may (behind clock used) start folder (opened_gives folder start opened.0 is_true))) (λ new. inl (new.0, refl)) starts

module _ {S C : Type 0} (sees : SeesFolder S) (ticks : SeesTime C) (clock : ℕ → ℕ) (old mid : S) (settled : IsSettled sees old)
    (looks : OnlyLooks sees old mid) where
  same : sees.files mid ≡ sees.files old
  same = looks.same

  -- ---- behind it

  begun_behind : (store : State S C) → IsTrueFolder (sees.files old) → IsBegun sees ticks clock mid store → IsBegun sees ticks clock old store
  begun_behind store is_true begun =
      let starts : Starts clock (sees.files old) begun.start begun.used = subst (λ (f : Folder). Starts clock f begun.start begun.used) same begun.starts in
      record {
        start = begun.start;
        used = begun.used;
        starts = starts;
        sound = begun.sound;
        rests = begun.rests;
        mailbox = begun.mailbox;
        place = begun.place;
        mark = begun.mark;
        owed = begun.owed;
        readings = begun.readings;
        others = λ n other. begun.others n other ∙ ap (λ (f : Folder). f n) same;
        since = looked_then sees old mid store.shelf (MayLeave (behind clock begun.used) begun.start [] (sees.files old)) settled
            (starts_may clock (sees.files old) begun.start begun.used starts is_true) looks
            (subst (λ (f : Folder). LeavesOnly sees mid store.shelf (MayLeave (behind clock begun.used) begun.start [] f)) same begun.since);
        settled = begun.settled;
      }

  unopened_behind : (f : OpenFault) (new : S) → LeavesUnopened sees clock f mid new → LeavesUnopened sees clock f old new
  unopened_behind f new unopened = record {
    found = subst (λ (d : Folder). FaultFound f (IsFound d)) same unopened.found;
    some = λ is none. unopened.some is (subst IsNew (sym same) none);
    folder = subst (λ (d : Folder). IsUnopened clock d (sees.files new)) same unopened.folder;
    after = λ c left. subst (λ (d : Folder). IsUnopened clock d c) same (unopened.after c left);
    crash = looked_then sees old mid new (IsUnopened clock (sees.files old)) settled (inl (quiet_same (sees.files old) (sees.files old) refl)) looks
        (subst (λ (d : Folder). LeavesOnly sees mid new (IsUnopened clock d)) same unopened.crash);
    next = λ is_true.
        let next = unopened.next (subst IsTrueFolder (sym same) is_true) in
        record { seen = next.seen; after = next.after; crash = looked_then sees old mid new IsTrueFolder settled is_true looks next.crash };
    settled = unopened.settled;
  }

  pub begins_behind : (result : Result (State S C) (S × C × OpenFault)) → IsTrueFolder (sees.files old) → Begins sees ticks clock mid result → Begins sees ticks clock old result
  begins_behind (Ok store) is_true begun = begun_behind store is_true begun
  begins_behind (Err e) is_true unopened = unopened_behind e.2 e.0 unopened

  -- ---- it failed

  pub unlooked : (f : OpenFault) → IsOutside f → LeavesUnopened sees clock f old mid
  unlooked f outside = record {
    found = outside_found f (IsFound (sees.files old)) outside;
    some = λ is none. outside_none f outside is;
    folder = inl (quiet_same (sees.files old) (sees.files mid) same);
    after = λ c left. inl (quiet_same (sees.files old) c (settled c (looks.crash c left)));
    crash = looked_only sees old mid (IsUnopened clock (sees.files old)) settled (inl (quiet_same (sees.files old) (sees.files old) refl)) looks;
    next = λ is_true. record {
      seen = subst IsTrueFolder (sym same) is_true;
      after = λ c left. subst IsTrueFolder (sym (settled c (looks.crash c left))) is_true;
      crash = looked_only sees old mid IsTrueFolder settled is_true looks;
    };
    settled = unless_failed f (settled_still sees old mid settled looks);
  }

-- ---- causes

-- the fault alone says what its cause is
pub cause_told : (A B : Type 0) (before now : ℕ) (f : OpenFault) → HasCause {A = A} before now (Err f) → HasCause {A = B} before now (Err f)
cause_told A B before now (fault.Disk faults) cause = record { later = cause.later; rose = cause.rose }
cause_told A B before now fault.NoMemory cause = record { later = cause.later; rose = tt }
cause_told A B before now fault.NoLog cause = record { later = cause.later; rose = tt }
cause_told A B before now fault.BadLogHeader cause = record { later = cause.later; rose = tt }
cause_told A B before now (fault.BadRecord offset) cause = record { later = cause.later; rose = tt }
cause_told A B before now fault.BadIndex cause = record { later = cause.later; rose = tt }
cause_told A B before now (fault.Gap index log) cause = record { later = cause.later; rose = tt }
