-- What is kept still holds behind a commit.
use Rattle.std.proofs.Common.{◌≡◌, ◌⊎◌, ℕ, ◌≤◌, ◌<◌, List, [], ◌∷◌, ◌++◌, length, Ok, Err, Result, refl, sym, ap, subst, arith, append-nil, length-append}
use Rattle.dv_model.specs.declared.types.Command.{Command}
use Rattle.dv_model.specs.declared.types.Record.{Record}
use Rattle.dv_model.specs.Journals.{Log}
use Rattle.dv_model.specs.Views.{View}
use Rattle.dv_shelf.specs.Crashes.{LeavesOnly}
use Rattle.dv_shelf.specs.Folders.{Folder}
use Rattle.dv_shelf.specs.Sees.{SeesFolder}
use Rattle.dv_front.specs.declared.notes.Note.{Note}
use Rattle.dv_plans.specs.declared.fault.StoreFault.{StoreFault}
use Rattle.dv_plans.specs.declared.fault.StoreFault.TheVariants as fault
use Rattle.dv_store.specs.declared.receipt.Receipt.{Receipt}
use Rattle.dv_store.specs.States.{State}
use Rattle.dv_tries.specs.Commits.{CommitsTold, LeavesBehind, MayCommit, notes_behind, tries_behind, try_of, with_records}
use Rattle.dv_tries.specs.Images.{LeavesSince}
use Rattle.dv_tries.specs.Standing.{RestsBehind, StandsBehind}
use Rattle.dv_tries.specs.Tries.{GivesLast, MayGive, Try}
use Rattle.dv_tries.proofs.Growing.{images_go_on}
use Rattle.dv_tries.proofs.Keeping.{commits_keep}
use Rattle.dv_shared.specs.Holding.{Holds}
use Rattle.dv_shared.specs.Kept.{Kept, notes_in}
use Rattle.dv_shared.specs.Writing.{with_fault}

-- ---- lists

-- with no more notes there was no record
pub none_noted : (notes : List Note) (note : Note) (rs : List Record) → with_records notes note rs ≡ notes → rs ≡ []
none_noted notes note [] same = refl
none_noted notes note (r ∷ rs) same = absurd (omega (arith, ap (λ (ns : List Note). length ns) same, length-append notes (note ∷ [])))

-- with more there was one
pub some_noted : (notes : List Note) (note : Note) (rs : List Record) → length notes < length (with_records notes note rs) → 1 ≤ length rs
some_noted notes note [] more = absurd (omega (arith, more))
some_noted notes note (r ∷ rs) more = omega arith

pub none_more : (notes : List Note) (note : Note) (rs : List Record) → rs ≡ [] → with_records notes note rs ≡ notes
none_more notes note [] none = refl
none_more notes note (r ∷ rs) none = absurd cc

grown_records : (notes : List Note) (note : Note) (rs : List Record) → (more : List Note) × (with_records notes note rs ≡ notes ++ more)
grown_records notes note [] = ([], sym (append-nil notes))
grown_records notes note (r ∷ rs) = (note ∷ [], refl)

grown_tries : (tries : List Try) (t : Try) (result : Result Receipt StoreFault) → (later : List Try) × (tries_behind tries t result ≡ tries ++ later)
grown_tries tries t (Ok receipt) = ([], sym (append-nil tries))
grown_tries tries t (Err (fault.Disk faults)) = (t ∷ [], refl)
grown_tries tries t (Err fault.UidsUsedUp) = ([], sym (append-nil tries))
grown_tries tries t (Err (fault.TooLong bytes)) = ([], sym (append-nil tries))
grown_tries tries t (Err fault.NoMemory) = ([], sym (append-nil tries))

pub fault_tries : (tries : List Try) (t : Try) (e : StoreFault) → tries_behind tries t (Err e) ≡ with_fault tries t e
fault_tries tries t (fault.Disk faults) = refl
fault_tries tries t fault.UidsUsedUp = refl
fault_tries tries t (fault.TooLong bytes) = refl
fault_tries tries t fault.NoMemory = refl

module _ {S C : Type 0} where
  grown_notes : (start : Log) (notes : List Note) (author : ℕ) (c : Command) (store : State S C) (result : Result Receipt StoreFault)
      → (more : List Note) × (notes_behind start notes author c store result ≡ notes ++ more)
  grown_notes start notes author c store (Ok receipt) = grown_records notes _ receipt.group.records
  grown_notes start notes author c store (Err e) = ([], sym (append-nil notes))

  module _ (sees : SeesFolder S) (tells : Type 0) (start : Log) (moment : ℕ) (past : ℕ → Folder → Type 0) (honest : Type 0) where
    -- ---- what holds, by its parts

    abbrev HoldsAt : State S C → List Note → ℕ → List Try → Type 0
    HoldsAt store notes count tries =
        StandsBehind start notes store × (count ≡ length notes)
        × (honest → sees.tells × RestsBehind sees tells start notes tries store × LeavesSince sees moment past store.shelf (MayGive tells start notes tries))

    holds_of : (k : Kept S C) → HoldsAt k.store (notes_in k) k.count k.tries → Holds sees tells start moment past honest k
    holds_of k at = record { stands = at.0; counted = at.1; folder = λ h. record { told = (at.2 h).0; rests = (at.2 h).1; since = (at.2 h).2 } }

    holds_by : (store : State S C) (notes : List Note) (tries : List Try) → HoldsAt store notes (length notes) tries → (k : Kept S C) → k.store ≡ store → notes_in k ≡ notes → k.count ≡ length (notes_in k) → k.tries ≡ tries
        → Holds sees tells start moment past honest k
    holds_by store notes tries at k same_store same_notes count same_tries =
        holds_of k
        (subst (λ (s : State S C). HoldsAt s (notes_in k) k.count k.tries) (sym same_store)
        (subst (λ (ts : List Try). HoldsAt store (notes_in k) k.count ts) (sym same_tries)
        (subst (λ (n : ℕ). HoldsAt store (notes_in k) n tries) (sym count)
        (subst (λ (ns : List Note). HoldsAt store ns (length ns) tries) (sym same_notes) at))))

    -- ---- behind a commit

    module _ (old : Kept S C) (holds : Holds sees tells start moment past honest old) (author : ℕ) (c : Command) (view : View) (may : MayCommit author c view) (upcoming : ℕ → ℕ) (store : State S C) (result : Result Receipt StoreFault)
        (told : sees.tells → CommitsTold sees tells c view upcoming old.store store result) (stands : StandsBehind start (notes_behind start (notes_in old) author c old.store result) store) where
      abbrev notes : List Note
      notes = notes_in old

      abbrev t : Try
      t = try_of (length notes) author c view old.store upcoming

      abbrev now : List Note
      now = notes_behind start notes author c old.store result

      abbrev tries_now : List Try
      tries_now = tries_behind old.tries t result

      leaves : honest → LeavesBehind sees tells start notes now old.tries tries_now old.store store
      leaves h = let folder = holds.folder h in commits_keep C sees tells start notes old.tries author c view upcoming old.store store result holds.stands folder.rests may (told folder.told) stands

      abbrev Step : List Note → List Try → Type 0
      Step ns ts = LeavesOnly sees old.store.shelf store.shelf (λ (d : Folder). GivesLast tells start notes old.tries d ⊎ GivesLast tells start ns ts d)

      images : honest → LeavesSince sees moment past store.shelf (MayGive tells start now tries_now)
      images h =
          let more = grown_notes start notes author c old.store result in
          let later = grown_tries old.tries t result in
          let step : Step (notes ++ more.0) (old.tries ++ later.0) = subst (λ (ts : List Try). Step (notes ++ more.0) ts) later.1 (subst (λ (ns : List Note). Step ns tries_now) more.1 (leaves h).since) in
          subst (λ (ns : List Note). LeavesSince sees moment past store.shelf (MayGive tells start ns tries_now)) (sym more.1)
          (subst (λ (ts : List Try). LeavesSince sees moment past store.shelf (MayGive tells start (notes ++ more.0) ts)) (sym later.1)
          (images_go_on sees tells past start notes more.0 old.tries later.0 moment old.store.shelf store.shelf (holds.folder h).since step))

      -- so it does with these notes and tries
      pub holds_now : (k : Kept S C) → k.store ≡ store → notes_in k ≡ now → k.count ≡ length (notes_in k) → k.tries ≡ tries_now → Holds sees tells start moment past honest k
      holds_now = holds_by store now tries_now (stands, refl, λ h. ((holds.folder h).told, (leaves h).rests, images h))

      -- a crash at any moment left the end of the notes from before, or that from behind
      pub since_now : (shelf : S) (ns : List Note) (ts : List Try) → shelf ≡ store.shelf → ns ≡ now → ts ≡ tries_now → honest
          → LeavesOnly sees old.store.shelf shelf (λ (d : Folder). GivesLast tells start notes old.tries d ⊎ GivesLast tells start ns ts d)
      since_now shelf ns ts same_shelf same_notes same_tries h =
          subst (λ (s : S). LeavesOnly sees old.store.shelf s (λ (d : Folder). GivesLast tells start notes old.tries d ⊎ GivesLast tells start ns ts d)) (sym same_shelf)
          (subst (λ (us : List Try). Step ns us) (sym same_tries) (subst (λ (ms : List Note). Step ms tries_now) (sym same_notes) (leaves h).since))
