-- A storage that was opened or made just now.
use Rattle.std.proofs.Common.{◌≡◌, inl, inr, ℕ, List, [], Some, Result, Ok, Err, refl, sym, ◌∙◌, ap, subst}
use Rattle.std.specs.Prelude.{All, IfErr, IfOk}
use Rattle.std.proofs.lemmas.List.Elements.{All-nil}
use Rattle.dv_model.specs.declared.types.Mailbox.{Mailbox}
use Rattle.dv_model.specs.declared.types.OpenFault.{OpenFault}
use Rattle.dv_model.specs.declared.types.OpenFault.TheVariants as fault
use Rattle.dv_model.specs.declared.types.Row.{Row}
use Rattle.dv_shelf.specs.declared.shelf.Name.TheVariants as name
use Rattle.dv_shelf.specs.Crashes.{IsSettled, LeavesOnly}
use Rattle.dv_shelf.specs.Folders.{Folder, IsNew, with_file}
use Rattle.dv_shelf.specs.Sees.{SeesFolder}
use Rattle.dv_shelf.proofs.FolderLemmas.{with_else}
use Rattle.dv_openings.specs.Openings.{IsFound}
use Rattle.dv_openings.specs.Rebuilds.{stamp_of}
use Rattle.dv_chain.specs.declared.chain.Chain.{Chain}
use Rattle.dv_chain.specs.Creations.{HasNone, IsFirst, IsOldOrCreated}
use Rattle.dv_chain.specs.Openings.{Answers, HasBounds, HasCause, IsOutside, IsQuiet, LeavesFolder, OnlyLooks, UnlessDisk, found_of}
use Rattle.dv_chain.specs.Rest.{Nothing, Rests}
use Rattle.dv_chain.proofs.Shelves.{looked_only, looked_then, settled_still}
use Rattle.dv_filing.specs.Standing.{Stands}
use Rattle.dv_filing.proofs.Resting.{texts_same}
use Rattle.dv_maps.specs.Laws.{IsMap}
use Rattle.dv_maps.specs.Texts.{HasText, KeepsTexts, Messages}
use Rattle.dv_mdbox.specs.Opening.{MakesChain, OpensChain, TakesOne, TakesToOpen, TellsFolder}

-- the fault alone says what its cause is
pub cause_passed : (A B : Type 0) (before now : ℕ) (f : OpenFault) → HasCause {A = A} before now (Err f) → HasCause {A = B} before now (Err f)
cause_passed A B before now (fault.Disk faults) cause = record { later = cause.later; rose = cause.rose }
cause_passed A B before now fault.NoMemory cause = record { later = cause.later; rose = tt }
cause_passed A B before now fault.NoLog cause = record { later = cause.later; rose = tt }
cause_passed A B before now fault.BadLogHeader cause = record { later = cause.later; rose = tt }
cause_passed A B before now (fault.BadRecord offset) cause = record { later = cause.later; rose = tt }
cause_passed A B before now fault.BadIndex cause = record { later = cause.later; rose = tt }
cause_passed A B before now (fault.Gap index log) cause = record { later = cause.later; rose = tt }

-- ---- what is told

-- the clock wasn't read
pub takes_nothing : {A : Type 0} (old : ℕ → ℕ) (result : Result A OpenFault) → TakesToOpen old old result
takes_nothing old (Ok x) = inl refl
takes_nothing old (Err (fault.Disk faults)) = inl refl
takes_nothing old (Err fault.NoMemory) = inl refl
takes_nothing old (Err fault.NoLog) = refl
takes_nothing old (Err fault.BadLogHeader) = refl
takes_nothing old (Err (fault.BadRecord offset)) = refl
takes_nothing old (Err fault.BadIndex) = refl
takes_nothing old (Err (fault.Gap index log)) = refl

-- it was read for a storage that is made
pub takes_made : {A : Type 0} (old new : ℕ → ℕ) (result : Result A OpenFault) → IfErr result IsOutside → TakesOne old new → TakesToOpen old new result
takes_made old new (Ok x) outside takes = takes
takes_made old new (Err (fault.Disk faults)) outside takes = takes
takes_made old new (Err fault.NoMemory) outside takes = takes
takes_made old new (Err fault.NoLog) outside takes = absurd outside
takes_made old new (Err fault.BadLogHeader) outside takes = absurd outside
takes_made old new (Err (fault.BadRecord offset)) outside takes = absurd outside
takes_made old new (Err fault.BadIndex) outside takes = absurd outside
takes_made old new (Err (fault.Gap index log)) outside takes = absurd outside

pub tells_found : (folder : Folder) (result : Result Chain OpenFault) → (IsNew folder → ⊥) → Answers found_of result (IsFound folder) → TellsFolder folder result
tells_found folder (Ok chain) some found = inr found
tells_found folder (Err e) some found = (found, inr some)

pub tells_outside : (folder : Folder) (e : OpenFault) → IsOutside e → TellsFolder folder (Err e)
tells_outside folder (fault.Disk faults) is = (tt, inl tt)
tells_outside folder fault.NoMemory is = (tt, inl tt)
tells_outside folder fault.NoLog is = absurd is
tells_outside folder fault.BadLogHeader is = absurd is
tells_outside folder (fault.BadRecord offset) is = absurd is
tells_outside folder fault.BadIndex is = absurd is
tells_outside folder (fault.Gap index log) is = absurd is

pub tells_made : (folder : Folder) (result : Result Chain OpenFault) → IsNew folder → IfErr result IsOutside → TellsFolder folder result
tells_made folder (Ok chain) new outside = inl new
tells_made folder (Err e) new outside = tells_outside folder e outside

pub none_of : (folder : Folder) → IsNew folder → HasNone folder
none_of folder new = record { index = new.index; log = new.log; log2 = new.log2 }

pub bounds_made : (now : ℕ) (result : Result Chain OpenFault) → IfOk result (λ chain. IsFirst (stamp_of now) chain × HasBounds chain) → IfOk result HasBounds
bounds_made now (Ok chain) is = is.1
bounds_made now (Err e) is = tt

module _ {S : Type 0} (sees : SeesFolder S) where
  -- where only the log was replaced, what was kept still is
  stands_opened : (messages : Messages) (chain : Chain) (old : Folder) (new : S) (text : List ℕ) → sees.files new ≡ with_file old name.Log (Some text) → IsSettled sees new → Rests sees Nothing chain new → KeepsTexts messages chain.live.mailbox old
      → Stands sees messages Nothing chain new
  stands_opened messages chain old new text is settled rests keeps = record {
    rests = rests;
    keeps = λ c may.
        texts_same messages chain.live.mailbox old c (λ file. ap (λ (f : Folder). f (name.Mail file)) (settled c may ∙ is) ∙ with_else old name.Log (Some text) (name.Mail file) (λ e. cc)) keeps;
    pending = λ c may. tt;
  }

  -- ---- a log that was opened

  pub opens_chain : (old new : S) (result : Result Chain OpenFault) → Answers found_of result (IsFound (sees.files old)) → LeavesOnly sees old new (IsQuiet (sees.files old)) → UnlessDisk result (IsSettled sees new)
      → LeavesFolder (sees.files old) (sees.files new) result → IfOk result (λ chain. Rests sees Nothing chain new) → OpensChain sees old new result
  opens_chain old new result found since settled files rests = record {
    found = found;
    since = since;
    settled = settled;
    stands = by_result result settled files rests;
  }
    where
      by_result : (r : Result Chain OpenFault) → UnlessDisk r (IsSettled sees new) → LeavesFolder (sees.files old) (sees.files new) r → IfOk r (λ chain. Rests sees Nothing chain new)
          → IfOk r (λ chain. (messages : Messages) → KeepsTexts messages chain.live.mailbox (sees.files old) → Stands sees messages Nothing chain new)
      by_result (Ok chain) settled files rests = λ messages keeps. stands_opened messages chain (sees.files old) new _ files settled rests keeps
      by_result (Err e) settled files rests = tt

  -- ---- one that was made

  new_map : (n : ℕ) (chain : Chain) → IsFirst n chain → IsMap chain.live.mailbox
  new_map n chain first = inr (ap (λ (m : Mailbox). m.extensions) first.mailbox, ap (λ (m : Mailbox). m.rows) first.mailbox)

  no_texts : (messages : Messages) (m : Mailbox) (c : Folder) → m.rows ≡ [] → KeepsTexts messages m c
  no_texts messages m c none = subst (λ (rows : List Row). All (HasText messages m c) rows) (sym none) (All-nil (HasText messages m c))

  pub makes_chain : (old new : S) (now : ℕ) (result : Result Chain OpenFault) → IfOk result (λ chain. IsFirst (stamp_of now) chain × HasBounds chain) → LeavesOnly sees old new (IsOldOrCreated (sees.files old) now) → UnlessDisk result (IsSettled sees new)
      → IfOk result (λ chain. Rests sees Nothing chain new) → MakesChain sees old new result now
  makes_chain old new now result first since settled rests = record {
    first = first_by result first;
    since = since;
    settled = settled;
    stands = stands_by result first rests;
  }
    where
      first_by : (r : Result Chain OpenFault) → IfOk r (λ chain. IsFirst (stamp_of now) chain × HasBounds chain) → IfOk r (λ chain. IsFirst (stamp_of now) chain × IsMap chain.live.mailbox)
      first_by (Ok chain) is = (is.0, new_map (stamp_of now) chain is.0)
      first_by (Err e) is = tt

      stands_by : (r : Result Chain OpenFault) → IfOk r (λ chain. IsFirst (stamp_of now) chain × HasBounds chain) → IfOk r (λ chain. Rests sees Nothing chain new) → IfOk r (λ chain. (messages : Messages) → Stands sees messages Nothing chain new)
      stands_by (Ok chain) is rests = λ messages. record {
        rests = rests;
        keeps = λ c may. no_texts messages chain.live.mailbox c (ap (λ (m : Mailbox). m.rows) is.0.mailbox);
        pending = λ c may. tt;
      }
      stands_by (Err e) is rests = tt

  -- ---- behind a look

  same_quiet : (folder : Folder) → IsQuiet folder folder
  same_quiet folder = record { opens = λ f. (λ x. x, λ x. x); named = λ n. (λ x. x, λ x. x); others = λ n other. refl }

  module _ (old mid : S) (settled : IsSettled sees old) (looks : OnlyLooks sees old mid) where
    pub settled_mid : IsSettled sees mid
    settled_mid = settled_still sees old mid settled looks

    pub opens_behind : (new : S) (result : Result Chain OpenFault) → OpensChain sees mid new result → OpensChain sees old new result
    opens_behind new result opens = record {
      found = subst (λ (f : Folder). Answers found_of result (IsFound f)) looks.same opens.found;
      since = looked_then sees old mid new (IsQuiet (sees.files old)) settled (same_quiet (sees.files old)) looks
          (subst (λ (f : Folder). LeavesOnly sees mid new (IsQuiet f)) looks.same opens.since);
      settled = opens.settled;
      stands = subst (λ (f : Folder). IfOk result (λ chain. (messages : Messages) → KeepsTexts messages chain.live.mailbox f → Stands sees messages Nothing chain new)) looks.same opens.stands;
    }

    pub makes_behind : (new : S) (result : Result Chain OpenFault) (now : ℕ) → MakesChain sees mid new result now → MakesChain sees old new result now
    makes_behind new result now makes = record {
      first = makes.first;
      since = looked_then sees old mid new (IsOldOrCreated (sees.files old) now) settled (inl refl) looks
          (subst (λ (f : Folder). LeavesOnly sees mid new (IsOldOrCreated f now)) looks.same makes.since);
      settled = makes.settled;
      stands = makes.stands;
    }

    outside_settled : (e : OpenFault) → IsOutside e → UnlessDisk {A = Chain} (Err e) (IsSettled sees mid)
    outside_settled fault.NoMemory is = settled_mid
    outside_settled (fault.Disk faults) is = tt
    outside_settled fault.NoLog is = absurd is
    outside_settled fault.BadLogHeader is = absurd is
    outside_settled (fault.BadRecord offset) is = absurd is
    outside_settled fault.BadIndex is = absurd is
    outside_settled (fault.Gap index log) is = absurd is

    outside_found : (e : OpenFault) → IsOutside e → Answers {A = Chain} found_of (Err e) (IsFound (sees.files old))
    outside_found fault.NoMemory is = tt
    outside_found (fault.Disk faults) is = tt
    outside_found fault.NoLog is = absurd is
    outside_found fault.BadLogHeader is = absurd is
    outside_found (fault.BadRecord offset) is = absurd is
    outside_found fault.BadIndex is = absurd is
    outside_found (fault.Gap index log) is = absurd is

    pub opens_unlooked : (e : OpenFault) → IsOutside e → OpensChain sees old mid (Err e)
    opens_unlooked e outside = record {
      found = outside_found e outside;
      since = looked_only sees old mid (IsQuiet (sees.files old)) settled (same_quiet (sees.files old)) looks;
      settled = outside_settled e outside;
      stands = tt;
    }

    pub makes_unlooked : (e : OpenFault) (now : ℕ) → IsOutside e → MakesChain sees old mid (Err e) now
    makes_unlooked e now outside = record {
      first = tt;
      since = looked_only sees old mid (IsOldOrCreated (sees.files old) now) settled (inl refl) looks;
      settled = outside_settled e outside;
      stands = tt;
    }
