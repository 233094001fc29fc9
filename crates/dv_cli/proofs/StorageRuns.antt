-- A run that answers the calls on a storage: how it ends, and what it writes.
use Rattle.std.proofs.Common.{◌≡◌, ◌⊎◌, inr, ⊎_elim, ℕ, ◌≤◌, List, [], ◌++◌, ◌∙◌, Result, Ok, Err, ap, refl, sym, subst, arith}
use Rattle.std.specs.Prelude.{None}
use Rattle.std.proofs.lemmas.List.{append-nil, append_assoc, append_cancel_left}
use Rattle.dv_model.specs.declared.types.Mark.{Mark}
use Rattle.dv_model.specs.declared.types.OpenFault.{OpenFault}
use Rattle.dv_model.specs.declared.types.OpenFault.TheVariants as fault
use Rattle.dv_model.specs.Counts.{Rose}
use Rattle.dv_shelf.specs.Folders.{Folder, IsNew}
use Rattle.dv_shelf.specs.Sees.{SeesFolder}
use Rattle.dv_shelf.specs.Streams.{Appends}
use Rattle.dv_formats.specs.Parsing.{ScriptFault}
use Rattle.dv_openings.specs.Openings as found
use Rattle.dv_openings.specs.Openings.{Finds, Found, IsFound}
use Rattle.dv_chain.specs.Openings.{FaultFound, IsOutside}
use Rattle.dv_maps.specs.Storages.{Storage}
use Rattle.dv_mdbox.specs.Opening.{TakesOne, TakesToOpen}
use Rattle.dv_mdbox_lines.specs.Playing.{MayGo, Tried}
use Rattle.dv_mdbox_lines.specs.Scripts.{Call}
use Rattle.dv_mdbox_lines.specs.Texts.{tried_texts}
use Rattle.dv_mdbox_serving.specs.Following.{failures_of}
use Rattle.dv_mdbox_serving.specs.Opening.{LeavesUnopened}
use Rattle.dv_mdbox_serving.specs.Places.{StartsFrom}
use Rattle.dv_mdbox_serving.specs.Runs as serving
use Rattle.dv_mdbox_serving.specs.Runs.{IfUnopened, IsFinding, RunsCalls, ServesCalls, TellsFolderAt, calls_of}
use Rattle.dv_mdbox_serving.specs.declared.ending.StorageEnd.{StorageEnd}
use Rattle.dv_mdbox_serving.specs.declared.ending.StorageEnd.TheVariants as stored
use Rattle.dv_serving.specs.Faults.{faults_between}
use Rattle.dv_serving.specs.Outputs.{output_with}
use Rattle.dv_serving.specs.Readings.{TakesUpTo}
use Rattle.dv_beginning.specs.Causes.{HasFault, IsFault, TakesForOpening}
use Rattle.dv_beginning.proofs.FoundStarts.{faults_one, found_faultless, found_told}
use Rattle.dv_beginning.proofs.Readings.{takes_none}
use Rattle.dv_cli.specs.declared.ending.End.{End}
use Rattle.dv_cli.specs.declared.ending.End.TheVariants as end
use Rattle.dv_cli.specs.Causes.{AnyRose, ComesFrom, Counts, EndCause, FolderCause, TakesForCalls, TellsFaults}
use Rattle.dv_cli.specs.Endings.{Concludes, status_of, text_of}
use Rattle.dv_cli.specs.Outputs.{AreAnswers, IsStorageOutput}
use Rattle.dv_cli.specs.Running.{end_text, fault_text}
use Rattle.dv_cli.specs.Storing.{RunsStorage, stored_end}
use Rattle.dv_cli.proofs.Served.{no_failures}
use Rattle.dv_cli.proofs.WholeRuns.{WellOr, Writes, told_plainly, unopened_well, unread_not_well}

-- ---- ends

-- what is found in a folder is neither memory nor a failure
outside_none : (f : OpenFault) → IsOutside f → IsFault f → ⊥
outside_none (fault.Disk faults) outside is = omega (arith, is)
outside_none fault.NoMemory outside is = omega (arith, is)
outside_none fault.NoLog outside is = outside
outside_none fault.BadLogHeader outside is = outside
outside_none (fault.BadRecord offset) outside is = outside
outside_none fault.BadIndex outside is = outside
outside_none (fault.Gap index log) outside is = outside

-- where a map is found no fault is
finding_faultless : (folder : Folder) (f : Found) → IsFinding f → IsFound folder f → HasFault folder → ⊥
finding_faultless folder (Finds m mark) is there has = found_told folder m mark there has
finding_faultless folder found.NoLog is there has = is
finding_faultless folder found.BadLogHeader is there has = is
finding_faultless folder (found.BadRecord offset) is there has = is
finding_faultless folder found.BadIndex is there has = is
finding_faultless folder (found.Gap index log) is there has = is

-- a fault that is found is told, and calls that are answered find none
pub stored_faults : (folder : Folder) (how : StorageEnd) → TellsFolderAt folder how → TellsFaults folder (stored_end how)
stored_faults folder (stored.Answered mark groups) tells = λ has.
    ⊎_elim (λ new. has.some new) (λ map. finding_faultless folder map.0 map.1 map.2 has) tells
stored_faults folder (stored.Unopened f) tells = λ is.
    (tells.0, ⊎_elim (λ outside. absurd (outside_none f outside is)) (λ some. some) tells.1)
stored_faults folder stored.NoMemory tells = tt
stored_faults folder stored.Sink tells = tt

module _ (shelf shelf_now out out_now : ℕ) (later : (shelf ≤ shelf_now) × (out ≤ out_now)) where
  abbrev Caused : StorageEnd → Type 0
  Caused how = serving.EndCause how (faults_between shelf shelf_now) (faults_between out out_now)

  unopened_cause : (f : OpenFault) → Caused (stored.Unopened f) → FolderCause shelf shelf_now out out_now (end.Unopened f)
  unopened_cause (fault.Disk faults) cause = cause
  unopened_cause fault.NoMemory cause = tt
  unopened_cause fault.NoLog cause = tt
  unopened_cause fault.BadLogHeader cause = tt
  unopened_cause (fault.BadRecord offset) cause = tt
  unopened_cause fault.BadIndex cause = tt
  unopened_cause (fault.Gap index log) cause = tt

  pub stored_cause : (how : StorageEnd) → Caused how → EndCause shelf shelf_now out out_now (stored_end how)
  stored_cause (stored.Answered mark groups) cause = record { later = later; cause = tt }
  stored_cause (stored.Unopened f) cause = record { later = later; cause = unopened_cause f cause }
  stored_cause stored.NoMemory cause = record { later = later; cause = tt }
  stored_cause stored.Sink cause = record { later = later; cause = cause }

-- ---- the clock

taken_one : (old new : ℕ → ℕ) → TakesOne old new → TakesUpTo 1 old new
taken_one old new takes = ⊎_elim (λ same. takes_none 1 old new same) (λ is. (1, omega arith, is)) takes

unopened_takes : (old new : ℕ → ℕ) (f : OpenFault) → TakesToOpen {A = Unit {0}} old new (Err f) → TakesForOpening old new {A = Unit {0}} (Err f)
unopened_takes old new (fault.Disk faults) takes = taken_one old new takes
unopened_takes old new fault.NoMemory takes = taken_one old new takes
unopened_takes old new fault.NoLog takes = takes
unopened_takes old new fault.BadLogHeader takes = takes
unopened_takes old new (fault.BadRecord offset) takes = takes
unopened_takes old new fault.BadIndex takes = takes
unopened_takes old new (fault.Gap index log) takes = takes

pub stored_takes : (old new : ℕ → ℕ) (how : StorageEnd) → serving.TakesByEnd how old new → TakesForCalls old new (stored_end how)
stored_takes old new (stored.Answered mark groups) takes = tt
stored_takes old new (stored.Unopened f) takes = unopened_takes old new f takes
stored_takes old new stored.NoMemory takes = tt
stored_takes old new stored.Sink takes = tt

-- ---- what is written

-- where a run starts no fault is found
start_faultless : (folder : Folder) (start : Storage) (f : OpenFault) → StartsFrom folder start → IsFault f → (IsNew folder → ⊥) → FaultFound f (IsFound folder) → ⊥
start_faultless folder start f starts is some there =
    ⊎_elim (λ gives. found_faultless folder gives.mailbox gives.mark f gives.gives.opens.found is there) (λ new. some new.0) starts

module _ {S : Type 0} (sees : SeesFolder S) (base faults : ℕ) (calls : List Call) (told : Type 0) (taken between taken_now : List ℕ) (old new : S) (tells : told) (still : Rose base faults → ⊥) where
  abbrev IsWritten : Type 0
  IsWritten = Writes taken taken_now (IsStorageOutput (Ok calls) (sees.files old))

  abbrev Serving : Storage → StorageEnd → Type 0
  Serving start how = ServesCalls sees start (faults_between base faults) calls how (output_with told taken between) old new

  module _ (mark : Mark) (groups : ℕ) (last : Appends between taken_now (end_text mark groups)) where
    -- over one storage
    answers_from : (start : Storage) → Serving start (stored.Answered mark groups) → (text : List ℕ) × Appends taken taken_now text × AreAnswers start calls text
    answers_from start serves =
        let t = serves.tried in
        let all : t.answered ++ t.left ≡ t.answered = ap (λ (ls : List Tried). t.answered ++ ls) t.ends.1 ∙ append-nil t.answered in
        let texts = tried_texts t.answered in
        let written : Appends taken between texts = t.output tells in (
          texts ++ end_text mark groups,
          last ∙ ap (λ (bs : List ℕ). bs ++ end_text mark groups) written ∙ append_assoc taken texts (end_text mark groups),
          record {
            tried = t.answered;
            of = t.parts ∙ ap (λ (cs : List Call). calls_of t.answered ++ cs) t.ends.0 ∙ append-nil (calls_of t.answered);
            may = subst (MayGo start) all t.may;
            each = t.each;
            failures = ap failures_of (sym all) ∙ no_failures base faults (failures_of (t.answered ++ t.left)) t.failures still;
            mark = mark;
            groups = groups;
            written = t.ends.2;
            is = refl;
          },
        )

    -- and over any other from which it starts
    answered : ((start : Storage) → StartsFrom (sees.files old) start → Serving start (stored.Answered mark groups)) → (HasFault (sees.files old) → ⊥)
        → (start : Storage) → StartsFrom (sees.files old) start → IsWritten
    answered serves none start starts =
        let one = answers_from start (serves start starts) in (
          one.0,
          one.1,
          (
            λ other also.
                let answers = answers_from other (serves other also) in
                subst (AreAnswers other calls) (append_cancel_left taken answers.0 one.0 (sym answers.1 ∙ one.1)) answers.2,
            λ f is some there. absurd (none (record { fault = f; is = is; found = there; some = some })),
          ),
        )

  -- the fault of the folder
  unopened : (f : OpenFault) → IsFault f → between ≡ taken → LeavesUnopened sees f old new → Appends between taken_now (fault_text f) → IsWritten
  unopened f is none leaves last =
      let some : IsNew (sees.files old) → ⊥ = ⊎_elim (λ outside. absurd (outside_none f outside is)) (λ there. there) leaves.some in (
        fault_text f,
        last ∙ ap (λ (bs : List ℕ). bs ++ fault_text f) none,
        (
          λ start starts. absurd (start_faultless (sees.files old) start f starts is some leaves.found),
          λ g g-is there found. ap fault_text (faults_one (sees.files old) f g is g-is leaves.found found),
        ),
      )

  module _ (status : ℕ) (before now : Counts) (quiet : AnyRose before now → ⊥) (not-four : status ≡ 4 → ⊥)
      (of : HasFault (sees.files old) ⊎ ((start : Storage) × StartsFrom (sees.files old) start)) where
    by_how : (how : StorageEnd) → TellsFaults (sees.files old) (stored_end how)
        → ((start : Storage) → StartsFrom (sees.files old) start → RunsCalls sees start (faults_between base faults) calls how (output_with told taken between) old new)
        → IfUnopened sees how (output_with told taken between) old new
        → ComesFrom before now (stored_end how) → status ≡ status_of (stored_end how)
        → Appends between taken_now (text_of (stored_end how)) → IsWritten
    by_how (stored.Answered mark groups) finds runs none cause is last =
        ⊎_elim (λ has. absurd (finds has)) (λ starts. answered mark groups last runs finds starts.0 starts.1) of
    by_how (stored.Unopened f) finds runs none cause is last =
        ⊎_elim (λ well. unopened f well.1 (none.0 tells) none.1 last)
        (⊎_elim (λ four. absurd (not-four four)) (λ rose. absurd (quiet rose)))
        (unopened_well status before now f cause is)
    by_how stored.NoMemory finds runs none cause is last = absurd (not-four is)
    by_how stored.Sink finds runs none cause is last = absurd (quiet (inr (inr cause)))

    -- without want of memory and with nothing failed
    pub storage_output : (e : End) → TellsFaults (sees.files old) e → WellOr status e before now
        → RunsStorage sees (faults_between base faults) calls e (output_with told taken between) old new
        → ComesFrom before now e → Concludes e status between taken_now → (status ≡ 7 → ⊥) → IsWritten
    storage_output e finds well runs cause concludes not-seven =
        let plain = told_plainly e status between taken_now concludes not-four not-seven in
        ⊎_elim (λ unread.
        ⊎_elim (λ w. absurd (unread_not_well e w.1 unread.0)) (⊎_elim (λ four. absurd (not-four four)) (λ rose. absurd (quiet rose))) well)
        (λ answers.
        by_how answers.how (subst (TellsFaults (sees.files old)) answers.is finds) answers.runs answers.unopened (subst (ComesFrom before now) answers.is cause) (plain.0 ∙ ap status_of answers.is)
        (subst (λ (x : End). Appends between taken_now (text_of x)) answers.is plain.1))
        runs

-- ---- by what the script says

pub storage_script : (read : Result (List Call) ScriptFault) (folder : Folder) (old new : List ℕ)
    → ((calls : List Call) → read ≡ Ok calls → Writes old new (IsStorageOutput (Ok calls) folder))
    → ((f : ScriptFault) → read ≡ Err f → Writes old new (IsStorageOutput (Err f) folder))
    → Writes old new (IsStorageOutput read folder)
storage_script (Ok calls) folder old new good bad = good calls refl
storage_script (Err f) folder old new good bad = bad f refl
