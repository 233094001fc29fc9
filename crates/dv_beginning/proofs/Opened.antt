-- A run begins over a mailbox that was found.
use Rattle.std.proofs.Common.{◌≡◌, inl, inr, ℕ, ◌≤◌, [], None, Ok, Err, refl, sym, ◌∙◌, ap, subst}
use Rattle.dv_model.specs.declared.types.Mailbox.{Mailbox}
use Rattle.dv_model.specs.declared.types.Mark.{Mark}
use Rattle.dv_model.specs.declared.types.OpenFault.{OpenFault}
use Rattle.dv_model.specs.declared.types.OpenFault.TheVariants as fault
use Rattle.dv_model.specs.Journals.{IsSound, Log}
use Rattle.dv_shelf.specs.declared.shelf.Name.TheVariants as name
use Rattle.dv_shelf.specs.Clocks.{behind}
use Rattle.dv_shelf.specs.Folders.{Folder, IsNew}
use Rattle.dv_shelf.proofs.FolderLemmas.{with_else}
use Rattle.dv_shelf.proofs.Moments.{weaker}
use Rattle.dv_openings.specs.TrueCaches.{HasTrueCache}
use Rattle.dv_chain.specs.declared.chain.Chain.{Chain}
use Rattle.dv_chain.specs.Openings.{IsQuiet, LeavesFolder}
use Rattle.dv_files.specs.Texts.{place_of}
use Rattle.dv_writing.specs.Debts.{Fits, Nothing, Stands}
use Rattle.dv_writing.specs.Keeping.{Gives, Keeps}
use Rattle.dv_lookups.specs.Kept.{IsFileOf}
use Rattle.dv_store.specs.Opening.{IsFresh, Opens, OpensQuietly}
use Rattle.dv_store.specs.Rest.{IsAtRest}
use Rattle.dv_store.specs.States.{State}
use Rattle.dv_openings.specs.Numbers.{IsNamed}
use Rattle.dv_serving.specs.NextRuns.{IsTrueFolder}
use Rattle.dv_serial.specs.Places.{MayGive}
use Rattle.dv_beginning.specs.Begins.{IsBegun, start_of}
use Rattle.dv_beginning.specs.Leaving.{IsUnopened, LeavesUnopened, MayLeave}
use Rattle.dv_beginning.specs.Starts.{log_from}
use Rattle.dv_beginning.proofs.TrueFolders.{quiet_true}
use Rattle.dv_beginning.proofs.Starting.{IsTyped, behind_none, gives_quiet, keeps_itself, quiet_same, sound_from}
use Rattle.dv_shelf.specs.Sees.{SeesFolder, SeesTime}

-- ---- any start

-- before the first line
pub start_may : (clock : ℕ → ℕ) (start : Log) (c : Folder) → Gives start start.start start.start_mark c → MayGive clock start [] c
start_may clock start c gives = record { front = []; back = []; lines = refl; gives = inl gives }

-- a store that was opened just now owes nothing
pub fresh_rests : {S C : Type 0} (sees : SeesFolder S) (log : Log) (store : State S C) → IsFresh store → Stands sees log Nothing store.chain store.shelf → IsAtRest sees log Nothing store
fresh_rests {S} {C} sees log store fresh stands = record {
  stands = stands;
  fits = subst (λ (s : State S C). Fits s.owed Nothing) (sym fresh.is) tt;
  cache = subst (λ (s : State S C). IsFileOf (sees.files s.shelf) s.cache) (sym fresh.is) tt;
}

pub fresh_owes : {S C : Type 0} (store : State S C) → IsFresh store → store.owed ≡ None
fresh_owes {S} {C} store fresh = ap (λ (s : State S C). s.owed) fresh.is

pub fresh_mark : {S C : Type 0} (store : State S C) → IsFresh store → store.mark ≡ place_of store.chain
fresh_mark {S} {C} store fresh = ap (λ (s : State S C). s.mark) fresh.is

-- what it starts from is sound
pub sound_start : {S C : Type 0} (sees : SeesFolder S) (store : State S C) → IsFresh store → IsTyped store.chain → IsSound (start_of sees store)
sound_start {S} {C} sees store fresh typed =
    let chain = store.chain in
    let m = chain.live.mailbox in
    let files = sees.files store.shelf in
    subst (λ (mark : Mark). IsSound (log_from chain.indexid m mark files)) (sym (fresh_mark store fresh)) (sound_from chain.indexid m (place_of chain) files typed.valid typed.resets typed.place typed.indexid)

module _ {S C : Type 0} (sees : SeesFolder S) (ticks : SeesTime C) (clock : ℕ → ℕ) (old : S) where
  -- ---- a store

  module _ (store : State S C) (opens : Opens (sees.files old) (Ok store)) (fresh : IsFresh store) (quiet : OpensQuietly sees IsQuiet old (Ok store)) (leaves : LeavesFolder (sees.files old) (sees.files store.shelf) (Ok store.chain)) (typed : IsTyped store.chain) (is_true : IsTrueFolder (sees.files old)) (reads : ticks.tells → ticks.upcoming store.clock ≡ clock) where
    abbrev chain : Chain
    chain = store.chain

    abbrev mailbox : Mailbox
    mailbox = chain.live.mailbox

    abbrev start : Log
    start = log_from chain.indexid mailbox (place_of chain) (sees.files old)

    named : IsNamed (sees.files old) chain.indexid
    named = record { log = opens.chain.file; scanned = opens.chain.scanned; is = opens.chain.indexid }

    cache : HasTrueCache (sees.files old) chain.indexid mailbox
    cache = is_true chain.indexid mailbox (place_of chain) named opens.found

    keeps : Keeps start mailbox (sees.files old)
    keeps = keeps_itself chain.indexid mailbox (place_of chain) (sees.files old) cache

    may : (c : Folder) → IsQuiet (sees.files old) c → MayLeave (behind clock 0) start [] (sees.files old) c
    may c same = inr (start_may (behind clock 0) start c (gives_quiet chain.indexid mailbox (place_of chain) (sees.files old) c named opens.found cache same))

    pub begun_found : IsBegun sees ticks clock old store
    begun_found = record {
      start = start;
      used = 0;
      starts = inl (record { indexid = chain.indexid; mailbox = mailbox; mark = place_of chain; named = named; found = opens.found; is = refl }, refl);
      sound = sound_from chain.indexid mailbox (place_of chain) (sees.files old) typed.valid typed.resets typed.place typed.indexid;
      rests = fresh_rests sees start store fresh (quiet.stands start refl keeps);
      mailbox = refl;
      place = refl;
      mark = fresh_mark store fresh;
      owed = fresh_owes store fresh;
      readings = λ told. reads told ∙ behind_none clock;
      others = λ n other. ap (λ (f : Folder). f n) leaves ∙ with_else (sees.files old) name.Log _ n other;
      since = weaker sees old store.shelf (IsQuiet (sees.files old)) (MayLeave (behind clock 0) start [] (sees.files old)) quiet.since may;
      settled = quiet.settled;
    }

  -- ---- a fault

  fault_quiet : (f : OpenFault) (new : Folder) → LeavesFolder (sees.files old) new (Err f) → IsQuiet (sees.files old) new
  fault_quiet (fault.Disk faults) new leaves = leaves
  fault_quiet fault.NoMemory new leaves = quiet_same (sees.files old) new leaves
  fault_quiet fault.NoLog new leaves = quiet_same (sees.files old) new leaves
  fault_quiet fault.BadLogHeader new leaves = quiet_same (sees.files old) new leaves
  fault_quiet (fault.BadRecord offset) new leaves = quiet_same (sees.files old) new leaves
  fault_quiet fault.BadIndex new leaves = quiet_same (sees.files old) new leaves
  fault_quiet (fault.Gap index log) new leaves = quiet_same (sees.files old) new leaves

  module _ (e : S × C × OpenFault) (opens : Opens (sees.files old) (Err e)) (leaves : LeavesFolder (sees.files old) (sees.files e.0) (Err e.2)) (quiet : OpensQuietly sees IsQuiet old (Err e)) (some : IsNew (sees.files old) → ⊥)
      (now : (t : ℕ) (c : Folder) → t ≤ sees.moment e.0 → sees.may_leave e.0 c → sees.left_since e.0 t c) where
    pub unopened_found : LeavesUnopened sees clock e.2 old e.0
    unopened_found =
        let seen : IsQuiet (sees.files old) (sees.files e.0) = fault_quiet e.2 (sees.files e.0) leaves in
        let after : (c : Folder) → sees.may_leave e.0 c → IsQuiet (sees.files old) c = λ c left. quiet.since.each c (now (sees.moment old) c quiet.since.later left) in
        record {
          found = opens.found;
          some = λ is new. some new;
          folder = inl seen;
          after = λ c left. inl (after c left);
          crash = weaker sees old e.0 (IsQuiet (sees.files old)) (IsUnopened clock (sees.files old)) quiet.since (λ c same. inl same);
          next = λ is_true. record {
            seen = quiet_true (sees.files old) (sees.files e.0) is_true seen;
            after = λ c left. quiet_true (sees.files old) c is_true (after c left);
            crash = weaker sees old e.0 (IsQuiet (sees.files old)) IsTrueFolder quiet.since (λ c same. quiet_true (sees.files old) c is_true same);
          };
          settled = quiet.settled;
        }
