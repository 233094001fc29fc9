-- What a commit leaves of what is kept: behind want of memory that comes first, behind a receipt, and
-- behind the store's error.
use Rattle.std.proofs.Common.{◌≡◌, ◌⊎◌, inl, ℕ, ◌≤◌, ◌+◌, ◌<◌, true, List, [], ◌∷◌, length, Option, Some, None, Ok, Err, inr, refl, sym, ◌∙◌, ap, subst, arith}
use Rattle.std.proofs.lemmas.List.{length_push}
use Rattle.dv_model.specs.declared.types.Command.{Command}
use Rattle.dv_model.specs.declared.types.Mailbox.{Mailbox}
use Rattle.dv_model.specs.declared.types.Record.{Record}
use Rattle.dv_model.specs.Journals.{IsU32, Log}
use Rattle.dv_model.specs.Views.{View}
use Rattle.dv_shelf.specs.Crashes.{LeavesOnly}
use Rattle.dv_shelf.specs.Folders.{Folder}
use Rattle.dv_shelf.specs.Sees.{SeesFolder}
use Rattle.dv_shelf.proofs.Moments.{started}
use Rattle.dv_chain.specs.Openings.{OnlyLooks}
use Rattle.dv_front.specs.declared.notes.Note.{Note}
use Rattle.dv_generations.specs.Feeds.{Feed, joined, journal}
use Rattle.dv_notes.specs.Logs.{AreNotesOf, log_of, note_of}
use Rattle.dv_plans.specs.declared.fault.StoreFault.{StoreFault}
use Rattle.dv_plans.specs.declared.fault.StoreFault.TheVariants as fault
use Rattle.dv_store.specs.declared.receipt.Receipt.{Receipt}
use Rattle.dv_store.specs.Commits.{Commits, StaysAs}
use Rattle.dv_store.specs.States.{State}
use Rattle.dv_serving.proofs.Looking.{reads_nothing}
use Rattle.dv_tries.specs.Commits.{CommitsTold, MayCommit, notes_behind, selected_with, try_of}
use Rattle.dv_tries.specs.Images.{LeavesSince}
use Rattle.dv_tries.specs.Standing.{RestsBehind, StandsBehind}
use Rattle.dv_tries.specs.Tries.{GivesLast, MayGive, Try, end_mark}
use Rattle.dv_tries.proofs.Keeping.{rest_gives_last}
use Rattle.dv_tries.proofs.Standing.{commits_stand, errors_stand, with_some}
use Rattle.dv_shared.specs.declared.written.Written.{Written}
use Rattle.dv_shared.specs.Committing.{CommitsKept, IsWritten, KeepsWords}
use Rattle.dv_shared.specs.Holding.{Holds}
use Rattle.dv_shared.specs.Kept.{Kept, notes_in}
use Rattle.dv_shared.specs.Owing.{MovesDebt, Owes, OwesBehind}
use Rattle.dv_shared.specs.Writing.{HasOutcome, IsNoted, WroteNothing, with_fault}
use Rattle.dv_shared.proofs.Grown.{fault_tries, holds_now, none_more, none_noted, since_now, some_noted}
use Rattle.dv_shared.proofs.Outcomes.{error_outcome, group_told, is_noted, receipt_outcome}
use Rattle.dv_shared.proofs.Owing.{failed_owes, owes_none, still_owes}

pub stays_same : {S C : Type 0} (store : State S C) → StaysAs store store
stays_same store = record { chain = record { mailbox = refl; log = refl; indexid = refl; records = refl }; owed = refl; mark = refl }

pub same_notes : (old new : Feed) → KeepsWords old new → journal new ≡ journal old
same_notes old new words = ap joined words.parts

module _ {S C : Type 0} (old : Kept S C) (author : ℕ) (c : Command) (before : State S C) (same : before ≡ old.store) where
  -- the notes behind a receipt, whose command met this store
  pub noted_now : (start : Log) (room feed : Feed) (receipt : Receipt) → KeepsWords old.feed room → journal feed ≡ notes_behind start (journal room) author c before (Ok receipt)
      → journal feed ≡ notes_behind start (notes_in old) author c old.store (Ok receipt)
  noted_now start room feed receipt words is =
      is
      ∙ ap (λ (s : State S C). notes_behind start (journal room) author c s (Ok receipt)) same
      ∙ ap (λ (ns : List Note). notes_behind start ns author c old.store (Ok receipt)) (same_notes old.feed room words)

  -- the tries behind an error
  pub tried_now : (view : View) (upcoming : C → ℕ → ℕ) (tries : List Try) (e : StoreFault) → old.count ≡ length (notes_in old)
      → tries ≡ with_fault old.tries (try_of old.count author c view before (upcoming before.clock)) e
      → tries ≡ with_fault old.tries (try_of (length (notes_in old)) author c view old.store (upcoming old.store.clock)) e
  tried_now view upcoming tries e counted is =
      is
      ∙ ap (λ (s : State S C). with_fault old.tries (try_of old.count author c view s (upcoming s.clock)) e) same
      ∙ ap (λ (n : ℕ). with_fault old.tries (try_of n author c view old.store (upcoming old.store.clock)) e) counted

module _ {S C : Type 0} (sees : SeesFolder S) (tells : Type 0) (start : Log) (moment : ℕ) (past : ℕ → Folder → Type 0) (honest : Type 0) (old : Kept S C) (holds : Holds sees tells start moment past honest old) (author : ℕ) (c : Command) (view : View)
    (may : MayCommit author c view) (upcoming : ℕ → ℕ) where
  abbrev notes : List Note
  notes = notes_in old

  abbrev log : Log
  log = log_of start notes

  abbrev m : Mailbox
  m = old.store.chain.live.mailbox

  abbrev t : Try
  t = try_of (length notes) author c view old.store upcoming

  abbrev Step : S → List Note → List Try → Type 0
  Step shelf ns ts = LeavesOnly sees old.store.shelf shelf (λ (d : Folder). GivesLast tells start notes old.tries d ⊎ GivesLast tells start ns ts d)

  -- ---- memory ran out first

  module _ (feed : Feed) (words : KeepsWords old.feed feed) where
    abbrev early : Kept S C
    early = record old { feed = feed }

    same : journal feed ≡ notes
    same = same_notes old.feed feed words

    pub early_holds : Holds sees tells start moment past honest early
    early_holds = record {
      stands = subst (λ (ns : List Note). StandsBehind start ns old.store) (sym same) holds.stands;
      counted = holds.counted ∙ ap (λ (ns : List Note). length ns) (sym same);
      folder = λ h. let folder = holds.folder h in record {
        told = folder.told;
        rests = subst (λ (ns : List Note). RestsBehind sees tells start ns old.tries old.store) (sym same) folder.rests;
        since = subst (λ (ns : List Note). LeavesSince sees moment past old.store.shelf (MayGive tells start ns old.tries)) (sym same) folder.since;
      };
    }

    pub early_value : CommitsKept honest tells start t old early (Err fault.NoMemory)
    early_value = record {
      notes = same;
      tries = refl;
      told = tt;
      stays = λ none. stays_same old.store;
      words = λ is. words;
      pass = λ more. absurd (omega (arith, more, ap (λ (ns : List Note). length ns) same));
    }

    pub early_owes : MovesDebt sees tells start t old early (Err fault.NoMemory)
    early_owes owed owes = (owed, subst (λ (ns : List Note). Owes sees tells start ns owed old.store) (sym same) owes, refl)

  module _ (now : (d : Folder) → sees.left_since old.store.shelf (sees.moment old.store.shelf) d → sees.may_leave old.store.shelf d) where
    pub early_looks : OnlyLooks sees old.store.shelf old.store.shelf
    early_looks = (reads_nothing sees old.store now).looks

    pub early_since : (ns : List Note) → honest → Step old.store.shelf ns old.tries
    early_since ns h =
        started sees old.store.shelf (λ (d : Folder). GivesLast tells start notes old.tries d ⊎ GivesLast tells start ns old.tries d)
        (λ d left. inl (rest_gives_last C sees tells start notes old.tries old.store d holds.stands (holds.folder h).rests (now d left)))

  -- ---- a receipt

  module _ (store : State S C) (receipt : Receipt) (value : Commits c view old.store store (Ok receipt)) (told : sees.tells → CommitsTold sees tells c view upcoming old.store store (Ok receipt)) (offset : IsU32 receipt.mark.offset) where
    abbrev now : List Note
    now = notes_behind start notes author c old.store (Ok receipt)

    abbrev note : Note
    note = note_of log author c receipt.received receipt.group m

    stands_ok : StandsBehind start now store
    stands_ok = commits_stand S C start notes author c view old.store store receipt holds.stands may.author_is value offset

    pub good_ok : AreNotesOf start now
    good_ok = stands_ok.notes_are

    module _ (feed : Feed) (count : ℕ) (noted : journal feed ≡ now) where
      abbrev kept : Kept S C
      kept = record { store = store; feed = feed; count = count; tries = old.tries }

      pub holds_ok : count ≡ length (journal feed) → Holds sees tells start moment past honest kept
      holds_ok counted = holds_now sees tells start moment past honest old holds author c view may upcoming store (Ok receipt) told stands_ok kept refl noted counted refl

      pub since_ok : honest → Step store.shelf (journal feed) old.tries
      since_ok = since_now sees tells start moment past honest old holds author c view may upcoming store (Ok receipt) told stands_ok store.shelf (journal feed) old.tries refl noted refl

      nothing : journal feed ≡ notes → receipt.group.records ≡ []
      nothing same = none_noted notes note receipt.group.records (sym noted ∙ same)

      pub looks_ok : sees.tells → journal feed ≡ notes → OnlyLooks sees old.store.shelf store.shelf
      looks_ok tell same = (told tell).looks (nothing same)

      told_ok : (w : Written) → w ≡ record { mark = receipt.mark; uid = receipt.uid; number = length (journal feed) } → IsWritten start c old kept w
      told_ok w is = record {
        mark = ap (λ (x : Written). x.mark) is ∙ sym value.mark ∙ stands_ok.mark ∙ ap (λ (ns : List Note). end_mark (log_of start ns)) (sym noted);
        uid = ap (λ (x : Written). x.uid) is ∙ value.ok.uid;
        number = ap (λ (x : Written). x.number) is;
      }

      pub value_ok : (w : Written) → w ≡ record { mark = receipt.mark; uid = receipt.uid; number = length (journal feed) } → (receipt.group.records ≡ [] → KeepsWords old.feed feed) → (1 ≤ length receipt.group.records → feed.pass ≡ true)
          → CommitsKept honest tells start t old kept (Ok w)
      value_ok w is none some = record {
        notes = subst (λ (ns : List Note). IsNoted honest tells log t m notes ns) (sym noted)
            (is_noted start notes old.store holds.stands author c view may store receipt value sees tells honest upcoming old.tries (λ h. told (holds.folder h).told) (λ h. (holds.folder h).rests));
        tries = refl;
        told = told_ok w is;
        stays = λ same. value.unwritten (nothing same);
        words = λ same. none (nothing same);
        pass = λ more. some (some_noted notes note receipt.group.records (subst (λ (ns : List Note). length notes < length ns) noted more));
      }

      -- an entry more pays what was owed, and without one that is as before
      pub owes_ok : (w : Written) → honest → count ≡ length (journal feed) → MovesDebt sees tells start t old kept (Ok w)
      owes_ok w h counted owed owes = by_records receipt.group.records refl
        where
          by_records : (rs : List Record) → receipt.group.records ≡ rs → (left : Option Try) × Owes sees tells start (journal feed) left store × OwesBehind notes (journal feed) t owed left (Ok w)
          by_records [] none =
              let same : journal feed ≡ notes = noted ∙ none_more notes note receipt.group.records none in
              let stands_same : StandsBehind start notes store = subst (λ (ns : List Note). StandsBehind start ns store) (sym noted ∙ same) stands_ok in
              let owes_same = still_owes sees tells start notes old.store holds.stands owed owes author c view upcoming store stands_same (Ok receipt) (told (holds.folder h).told) none in
              (owed, subst (λ (ns : List Note). Owes sees tells start ns owed store) (sym same) owes_same, inl (same, refl))
          by_records (r ∷ rs) is =
              let more : 1 ≤ length receipt.group.records = subst (λ (xs : List Record). 1 ≤ length xs) (sym is) (omega arith) in
              let behind = holds_ok counted in
              let longer : length (journal feed) ≡ length notes + 1 = ap (λ (ns : List Note). length ns) (noted ∙ sym (with_some notes note receipt.group.records more)) ∙ length_push notes note in
              (None, owes_none sees tells start (journal feed) store behind.stands old.tries (value.paid more).debt (behind.folder h).rests, inr (longer, refl))

      pub outcome_ok : (w : Written) → honest → HasOutcome start author (selected_with view) c m notes (journal feed) (Ok w)
      outcome_ok w h =
          subst (λ (ns : List Note). HasOutcome start author (selected_with view) c m notes ns (Ok w)) (sym noted)
          (receipt_outcome start notes old.store holds.stands author c view may store receipt value
          (group_told start notes old.store holds.stands author c view may store receipt value sees tells honest upcoming old.tries (λ h. told (holds.folder h).told) (λ h. (holds.folder h).rests) h) w)

  -- ---- an error of the store

  module _ (store : State S C) (e : StoreFault) (value : Commits c view old.store store (Err e)) (told : sees.tells → CommitsTold sees tells c view upcoming old.store store (Err e)) (feed : Feed) (words : KeepsWords old.feed feed) (tries : List Try) (tried : tries ≡ with_fault old.tries t e) where
    abbrev failed : Kept S C
    failed = record { store = store; feed = feed; count = old.count; tries = tries }

    stays : journal feed ≡ notes
    stays = same_notes old.feed feed words

    stands_err : StandsBehind start notes store
    stands_err = errors_stand S C start notes c view old.store store e holds.stands value

    tried_is : tries ≡ with_fault old.tries t e
    tried_is = tried

    pub holds_err : Holds sees tells start moment past honest failed
    holds_err =
        holds_now sees tells start moment past honest old holds author c view may upcoming store (Err e) told stands_err failed refl stays (holds.counted ∙ ap (λ (ns : List Note). length ns) (sym stays))
        (tried ∙ sym (fault_tries old.tries t e))

    pub since_err : honest → Step store.shelf (journal feed) tries
    since_err =
        since_now sees tells start moment past honest old holds author c view may upcoming store (Err e) told stands_err store.shelf (journal feed) tries refl stays
        (tried ∙ sym (fault_tries old.tries t e))

    stays_err : (x : StoreFault) → e ≡ x → WroteNothing {A = Written} notes (journal feed) (Err x) → StaysAs old.store store
    stays_err (fault.Disk faults) is none = absurd none
    stays_err fault.UidsUsedUp is none = (subst (λ (x : StoreFault). Commits c view old.store store (Err x)) is value).unwritten tt
    stays_err (fault.TooLong bytes) is none = (subst (λ (x : StoreFault). Commits c view old.store store (Err x)) is value).unwritten tt
    stays_err fault.NoMemory is none = (subst (λ (x : StoreFault). Commits c view old.store store (Err x)) is value).unwritten tt

    looks_by : (x : StoreFault) → e ≡ x → sees.tells → WroteNothing {A = Written} notes (journal feed) (Err x) → OnlyLooks sees old.store.shelf store.shelf
    looks_by (fault.Disk faults) is tell none = absurd none
    looks_by fault.UidsUsedUp is tell none = (subst (λ (x : StoreFault). CommitsTold sees tells c view upcoming old.store store (Err x)) is (told tell)).looks tt
    looks_by (fault.TooLong bytes) is tell none = (subst (λ (x : StoreFault). CommitsTold sees tells c view upcoming old.store store (Err x)) is (told tell)).looks tt
    looks_by fault.NoMemory is tell none = (subst (λ (x : StoreFault). CommitsTold sees tells c view upcoming old.store store (Err x)) is (told tell)).looks tt

    pub looks_err : sees.tells → WroteNothing {A = Written} notes (journal feed) (Err e) → OnlyLooks sees old.store.shelf store.shelf
    looks_err = looks_by e refl

    pub value_err : CommitsKept honest tells start t old failed (Err e)
    value_err = record {
      notes = stays;
      tries = tried;
      told = tt;
      stays = stays_err e refl;
      words = λ is. words;
      pass = λ more. absurd (omega (arith, more, ap (λ (ns : List Note). length ns) stays));
    }

    -- what is owed then
    owes_by : (x : StoreFault) → e ≡ x → honest → (owed : Option Try) → Owes sees tells start notes owed old.store → (left : Option Try) × Owes sees tells start notes left store × OwesBehind notes (journal feed) t owed left (Err x)
    owes_by (fault.Disk faults) is h owed owes =
        failed_owes sees tells start notes old.store holds.stands owed owes author c view upcoming store stands_err faults (subst (λ (x : StoreFault). CommitsTold sees tells c view upcoming old.store store (Err x)) is (told (holds.folder h).told))
    owes_by fault.UidsUsedUp is h owed owes =
        (owed, still_owes sees tells start notes old.store holds.stands owed owes author c view upcoming store stands_err (Err fault.UidsUsedUp) (subst (λ (x : StoreFault). CommitsTold sees tells c view upcoming old.store store (Err x)) is (told (holds.folder h).told)) tt, refl)
    owes_by (fault.TooLong bytes) is h owed owes =
        (owed, still_owes sees tells start notes old.store holds.stands owed owes author c view upcoming store stands_err (Err (fault.TooLong bytes)) (subst (λ (x : StoreFault). CommitsTold sees tells c view upcoming old.store store (Err x)) is (told (holds.folder h).told)) tt, refl)
    owes_by fault.NoMemory is h owed owes =
        (owed, still_owes sees tells start notes old.store holds.stands owed owes author c view upcoming store stands_err (Err fault.NoMemory) (subst (λ (x : StoreFault). CommitsTold sees tells c view upcoming old.store store (Err x)) is (told (holds.folder h).told)) tt, refl)

    pub owes_err : honest → MovesDebt sees tells start t old failed (Err e)
    owes_err h owed owes =
        let left = owes_by e refl h owed owes in
        (left.0, subst (λ (ns : List Note). Owes sees tells start ns left.0 store) (sym stays) left.1, left.2)

    pub outcome_err : HasOutcome {A = Written} start author (selected_with view) c m notes (journal feed) (Err e)
    outcome_err =
        subst (λ (ns : List Note). HasOutcome {A = Written} start author (selected_with view) c m notes ns (Err e)) (sym stays) (error_outcome start notes old.store holds.stands author c view may store e value)
