-- A run begins over a mailbox that is made.
use Rattle.std.proofs.Common.{◌≡◌, ⊎_elim, inl, inr, ℕ, ◌≤◌, ◌<◌, ◌^◌, [], Ok, Err, refl, sym, ◌∙◌, ap, subst, arith}
use Rattle.dv_model.specs.declared.types.Mailbox.{Mailbox}
use Rattle.dv_model.specs.declared.types.Mark.{Mark}
use Rattle.dv_model.specs.declared.types.OpenFault.{OpenFault}
use Rattle.dv_model.specs.declared.types.OpenFault.TheVariants as fault
use Rattle.dv_model.specs.Journals.{HasResets, IsU32, Log}
use Rattle.dv_model.specs.Mailboxes.{IsValid}
use Rattle.dv_shelf.specs.declared.shelf.Name.TheVariants as name
use Rattle.dv_shelf.specs.Clocks.{behind}
use Rattle.dv_shelf.specs.Folders.{Folder, IsNew}
use Rattle.dv_shelf.proofs.FolderLemmas.{with_else}
use Rattle.dv_shelf.proofs.Moments.{weaker}
use Rattle.dv_logfile.specs.declared.commit.LogFile.{LogFile}
use Rattle.dv_openings.specs.Openings.{Finds, Found, IsFound}
use Rattle.dv_openings.specs.Rebuilds.{stamp_of}
use Rattle.dv_chain.specs.declared.chain.Chain.{Chain}
use Rattle.dv_chain.specs.Creations.{HasNone, IsFirst, IsOldOrCreated, LeavesCreated, created, first_mailbox}
use Rattle.dv_chain.specs.Openings.{FaultFound, IsOutside, found_of}
use Rattle.dv_files.specs.Texts.{place_of}
use Rattle.dv_writing.specs.Keeping.{Gives, Keeps}
use Rattle.dv_store.specs.Opening.{IsFresh, OpensQuietly}
use Rattle.dv_store.specs.States.{State}
use Rattle.dv_beginning.specs.Begins.{IsBegun}
use Rattle.dv_beginning.specs.Causes.{IsFault}
use Rattle.dv_beginning.specs.Leaving.{IsUnopened, LeavesUnopened, MayLeave}
use Rattle.dv_beginning.specs.Starts.{first_mark, new_log}
use Rattle.dv_beginning.proofs.Opened.{fresh_mark, fresh_owes, fresh_rests, start_may}
use Rattle.dv_serving.specs.NextRuns.{IsTrueFolder}
use Rattle.dv_beginning.proofs.TrueFolders.{created_named, made_true}
use Rattle.dv_beginning.proofs.Starting.{IsTyped, keeps_none, sound_from}
use Rattle.dv_shelf.specs.Sees.{SeesFolder, SeesTime}

pub has_none : (folder : Folder) → IsNew folder → HasNone folder
has_none folder new = record { index = new.index; log = new.log; log2 = new.log2 }

-- memory ran out, or the disk failed: nothing is said of the folder
pub outside_found : (f : OpenFault) (P : Found → Type 0) → IsOutside f → FaultFound f P
outside_found (fault.Disk faults) P is = tt
outside_found fault.NoMemory P is = tt
outside_found fault.NoLog P is = absurd is
outside_found fault.BadLogHeader P is = absurd is
outside_found (fault.BadRecord offset) P is = absurd is
outside_found fault.BadIndex P is = absurd is
outside_found (fault.Gap index log) P is = absurd is

pub outside_none : (f : OpenFault) → IsOutside f → IsFault f → ⊥
outside_none (fault.Disk faults) is found = absurd (omega (arith, found))
outside_none fault.NoMemory is found = absurd (omega (arith, found))
outside_none fault.NoLog is found = absurd is
outside_none fault.BadLogHeader is found = absurd is
outside_none (fault.BadRecord offset) is found = absurd is
outside_none fault.BadIndex is found = absurd is
outside_none (fault.Gap index log) is found = absurd is

module _ {S C : Type 0} (sees : SeesFolder S) (ticks : SeesTime C) (clock : ℕ → ℕ) (old : S) (new : IsNew (sees.files old)) where
  -- ---- a store

  module _ (store : State S C) (first : IsFirst (stamp_of (clock 0)) store.chain) (found : IsFound (sees.files store.shelf) (found_of store.chain)) (fresh : IsFresh store) (leaves : sees.files store.shelf ≡ created (sees.files old) (clock 0))
      (quiet : OpensQuietly sees (λ (f : Folder). IsOldOrCreated f (clock 0)) old (Ok store)) (typed : IsTyped store.chain) (reads : ticks.tells → ticks.upcoming store.clock ≡ behind clock 1) where
    abbrev chain : Chain
    chain = store.chain

    abbrev number : ℕ
    number = stamp_of (clock 0)

    abbrev start : Log
    start = new_log (clock 0) (sees.files old)

    mailbox : first_mailbox number ≡ chain.live.mailbox
    mailbox = sym first.mailbox

    mark : first_mark ≡ place_of chain
    mark = ap (λ (log : LogFile). record { file_seq = log.file_seq; offset = log.end }) (sym first.log)

    gives : (c : Folder) → c ≡ created (sees.files old) (clock 0) → Gives start start.start start.start_mark c
    gives c is = record {
      named = created_named (sees.files old) c (clock 0) (subst IsU32 first.indexid typed.indexid) is;
      opens = subst (λ (d : Folder). IsFound d (Finds (first_mailbox number) first_mark)) (leaves ∙ sym is)
          (subst (λ (k : Mark). IsFound (sees.files store.shelf) (Finds (first_mailbox number) k)) (sym mark) (subst (λ (m : Mailbox). IsFound (sees.files store.shelf) (Finds m (place_of chain))) first.mailbox found));
      keeps = keeps_none start number c;
    }

    may : (c : Folder) → IsOldOrCreated (sees.files old) (clock 0) c → MayLeave (behind clock 1) start [] (sees.files old) c
    may c = ⊎_elim (λ same. inl (new, same)) (λ made. inr (start_may (behind clock 1) start c (gives c made)))

    pub begun_made : IsBegun sees ticks clock old store
    begun_made = record {
      start = start;
      used = 1;
      starts = inr (new, refl, refl);
      sound = sound_from number (first_mailbox number) first_mark (sees.files old) (subst IsValid first.mailbox typed.valid) (subst HasResets first.mailbox typed.resets) (omega arith, omega arith) (subst IsU32 first.indexid typed.indexid);
      rests = fresh_rests sees start store fresh (quiet.stands start (sym first.indexid) (subst (λ (m : Mailbox). Keeps start m (sees.files old)) mailbox (keeps_none start number (sees.files old))));
      mailbox = mailbox;
      place = mark;
      mark = fresh_mark store fresh;
      owed = fresh_owes store fresh;
      readings = reads;
      others = λ n other. ap (λ (f : Folder). f n) leaves ∙ with_else (sees.files old) name.Log _ n other;
      since = weaker sees old store.shelf (IsOldOrCreated (sees.files old) (clock 0)) (MayLeave (behind clock 1) start [] (sees.files old)) quiet.since may;
      settled = quiet.settled;
    }

  -- ---- a fault

  made_or_not : (f : OpenFault) (c : Folder) → LeavesCreated (sees.files old) (clock 0) c (Err f) → IsOldOrCreated (sees.files old) (clock 0) c
  made_or_not (fault.Disk faults) c leaves = leaves
  made_or_not fault.NoMemory c leaves = inl leaves
  made_or_not fault.NoLog c leaves = absurd leaves
  made_or_not fault.BadLogHeader c leaves = absurd leaves
  made_or_not (fault.BadRecord offset) c leaves = absurd leaves
  made_or_not fault.BadIndex c leaves = absurd leaves
  made_or_not (fault.Gap index log) c leaves = absurd leaves

  module _ (e : S × C × OpenFault) (outside : IsOutside e.2) (leaves : LeavesCreated (sees.files old) (clock 0) (sees.files e.0) (Err e.2)) (quiet : OpensQuietly sees (λ (f : Folder). IsOldOrCreated f (clock 0)) old (Err e))
      (now : (t : ℕ) (c : Folder) → t ≤ sees.moment e.0 → sees.may_leave e.0 c → sees.left_since e.0 t c) (small : stamp_of (clock 0) < 2 ^ 32) where
    pub unopened_made : LeavesUnopened sees clock e.2 old e.0
    unopened_made =
        let seen : IsOldOrCreated (sees.files old) (clock 0) (sees.files e.0) = made_or_not e.2 (sees.files e.0) leaves in
        let after : (c : Folder) → sees.may_leave e.0 c → IsOldOrCreated (sees.files old) (clock 0) c = λ c left. quiet.since.each c (now (sees.moment old) c quiet.since.later left) in
        let is_true : (c : Folder) → IsOldOrCreated (sees.files old) (clock 0) c → IsTrueFolder c = λ c either. made_true (sees.files old) c (clock 0) small new either in
        record {
          found = outside_found e.2 (IsFound (sees.files old)) outside;
          some = λ is none. outside_none e.2 outside is;
          folder = inr (new, seen);
          after = λ c left. inr (new, after c left);
          next = λ was. record {
            seen = is_true (sees.files e.0) seen;
            after = λ c left. is_true c (after c left);
            crash = weaker sees old e.0 (IsOldOrCreated (sees.files old) (clock 0)) IsTrueFolder quiet.since is_true;
          };
          settled = quiet.settled;
          crash = weaker sees old e.0 (IsOldOrCreated (sees.files old) (clock 0)) (IsUnopened clock (sees.files old)) quiet.since (λ c either. inr (new, either));
        }
