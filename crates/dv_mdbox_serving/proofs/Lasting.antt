-- Calls of several runs.
use Rattle.std.proofs.Common.{◌≡◌, ◌⊎◌, inl, inr, ⊎_elim, ℕ, ◌+◌, ◌≤◌, List, [], ◌∷◌, ◌++◌, Option, Some, None, refl, sym, ◌∙◌, ap, subst, append_assoc}
use Rattle.std.specs.Prelude.{count_by}
use Rattle.std.proofs.lemmas.List.{append-nil}
use Rattle.std.proofs.lemmas.List.Elements.{All-nil}
use Rattle.dv_model.specs.declared.types.OpenFault.{OpenFault}
use Rattle.dv_model.specs.Journals.{IsU32}
use Rattle.dv_shelf.specs.declared.shelf.Name.TheVariants as name
use Rattle.dv_shelf.specs.Folders.{Folder, IsNew}
use Rattle.dv_shelf.specs.Sees.{SeesFolder}
use Rattle.dv_shelf.proofs.Moments.{weaker}
use Rattle.dv_logfile.specs.Scans.{BadHeader, BadSpot, Good, IsScanned, Missing, Scanned}
use Rattle.dv_openings.specs.Numbers.{IsNamed}
use Rattle.dv_openings.specs.Openings.{NoLog, Snapshot, found_in}
use Rattle.dv_chain.specs.Creations.{IsOldOrCreated}
use Rattle.dv_chain.specs.Openings.{IsQuiet}
use Rattle.dv_maps.specs.Storages.{Storage}
use Rattle.dv_mdbox_lines.specs.declared.answers.Answer.{Answer}
use Rattle.dv_mdbox_lines.specs.Laws.{dropped_one, made, new_storage}
use Rattle.dv_mdbox_lines.specs.Playing.{MayAnswer, MayCome, MayGo, Tried, behind, behind_call, done_by, references}
use Rattle.dv_mdbox_lines.specs.Scripts.{Call, Copy, Drop, Get, Purge, Save}
use Rattle.dv_mdbox_lines.proofs.Behind.{counts_are_true, messages_are_kept, parts}
use Rattle.dv_mdbox_serving.specs.Calls.{tried_of}
use Rattle.dv_serving.specs.Faults.{Faults}
use Rattle.dv_serving.specs.Outputs.{Output}
use Rattle.dv_mdbox_serving.specs.declared.ending.StorageEnd.{StorageEnd}
use Rattle.dv_mdbox_serving.specs.Laws.{BeginsNext, CountsGoOn, GoesOn, IsMadeBy, IsNextStart, MessagesGoOn, NextRunsBegin}
use Rattle.dv_mdbox_serving.specs.Opening.{IsUnopened, LeavesUnopened}
use Rattle.dv_mdbox_serving.specs.Places.{GivesBehind, GivesNext, GivesStorage, IsDoneHere, MayGive, MayLeave, MayMake, StartsFrom, done_answer}
use Rattle.dv_mdbox_serving.specs.Runs.{ServesCalls}
use Rattle.dv_mdbox_serving.proofs.Giving.{behind_may}
use Rattle.dv_mdbox_serving.proofs.Going.{behind_on, go_on}
use Rattle.dv_mdbox_serving.proofs.Opened.{created_gives, new_none, no_log_found, quiet_gives}

-- the calls since the storage was made
pub made_on : (earlier calls : List Tried) (start : Storage) → IsMadeBy earlier start → MayGo start calls → IsMadeBy (earlier ++ calls) (behind start calls)
made_on earlier calls start is may = record {
  may = go_on earlier calls new_storage is.may (subst (λ (s : Storage). MayGo s calls) (sym is.is) may);
  is = behind_on earlier calls new_storage ∙ ap (λ (s : Storage). behind s calls) is.is;
}

pub counts_go_on : CountsGoOn
counts_go_on earlier calls start is may id =
    let all = made_on earlier calls start is may in
    subst (λ (s : Storage). references s id + count_by (dropped_one id) (earlier ++ calls) ≡ count_by (made id) (earlier ++ calls)) all.is (counts_are_true (earlier ++ calls) all.may id)

pub messages_go_on : MessagesGoOn
messages_go_on earlier calls start is may front back save message id same saved some gone told answers =
    let all = made_on earlier calls start is may in
    let last : behind start calls ≡ behind new_storage (front ++ save ∷ back) = sym all.is ∙ ap (behind new_storage) same in
    messages_are_kept front back save message id (subst (MayGo new_storage) same all.may) saved (subst (λ (s : Storage). 1 ≤ references s id) last some) gone told (subst (λ (s : Storage). MayAnswer s (Get id) gone told) last answers)

-- ---- what a call may make

-- a call of this kind makes it
pub record IsMadeOf (of : Call) (s made : Storage) : Type 0 where
  pub call : Tried
  pub same : call.call ≡ of
  pub come : MayCome s call
  pub is : behind_call s call ≡ made

done_next : (call : Call) (s made : Storage) → behind_call s (tried_of call (Some (done_answer call s)) []) ≡ done_by call s → IsDoneHere call s made → IsMadeOf call s made
done_next call s made does done = record {
  call = tried_of call (Some (done_answer call s)) [];
  same = refl;
  come = record { answer = done.0; gone = All-nil (λ id. references s id ≡ 0); purge = λ no. refl };
  is = does ∙ sym done.1;
}

made_next : (call : Call) (told : Option Answer) (s made : Storage) → MayMake call told s made → IsMadeOf call s made
made_next Purge told s made makes = record { call = tried_of Purge None makes.0; same = refl; come = record { answer = tt; gone = makes.1; purge = λ no. absurd (no tt) }; is = sym makes.2 }
made_next (Get id) told s made makes = absurd makes
made_next (Save message) told s made makes = done_next (Save message) s made refl makes.1
made_next (Copy id) told s made makes = done_next (Copy id) s made refl makes.1
made_next (Drop id) told s made makes = done_next (Drop id) s made refl makes.1

-- ---- a next run

-- a folder without a storage, that opens to the same, has none
pub new_quiet : (old c : Folder) → IsNew old → IsQuiet old c → IsNew c
new_quiet old c new quiet = record {
  index = quiet.others name.Index (λ e. cc) ∙ new.index;
  log = no_log;
  log2 = quiet.others name.Log2 (λ e. cc) ∙ new.log2;
  mail = λ n. quiet.others (name.Mail n) (λ e. cc) ∙ new.mail n;
}
  where
    unnamed : (indexid : ℕ) → IsNamed old indexid → ⊥
    unnamed indexid named = subst (λ (file : Option (List ℕ)). IsScanned file (Good named.log)) new.log named.scanned

    by_scan : (scanned : Scanned) (rotated : Scanned) (index : Option Snapshot) → IsScanned (c name.Log) scanned → NoLog ≡ found_in scanned rotated index → c name.Log ≡ None
    by_scan Missing rotated index there is = missing (c name.Log) there
      where
        missing : (file : Option (List ℕ)) → IsScanned file Missing → file ≡ None
        missing None is = refl
        missing (Some b) is = absurd is
    by_scan BadHeader rotated index there is = absurd cc
    by_scan (BadSpot place) rotated index there is = absurd cc
    by_scan (Good file) rotated index there is = absurd (unnamed file.header.indexid ((quiet.named file.header.indexid).1 (record { log = file; scanned = there; is = refl })))

    no_log : c name.Log ≡ None
    no_log = let found = (quiet.opens NoLog).0 (no_log_found old new) in by_scan found.log found.rotated found.index found.log_file found.is

module _ (earlier : List Tried) (start : Storage) (is : IsMadeBy earlier start) (c : Folder) where
  abbrev Next : List Tried → Type 0
  Next calls = (s : Storage) × (since : List Tried) × IsMadeBy (earlier ++ since) s × GoesOn calls since × GivesStorage s c

  none_more : (calls : List Tried) → calls ++ [] ≡ calls
  none_more calls = append-nil calls

  from_next : (calls front back : List Tried) → calls ≡ front ++ back → MayGo start front → GivesNext (behind start front) back c → Next calls
  from_next calls front [] parts may gives = (
    behind start front,
    front,
    made_on earlier front start is may,
    record { front = front; back = []; last = []; parts = parts; makes = tt; is = sym (none_more front) },
    gives,
  )
  from_next calls front (t ∷ back) parts may gives =
      ⊎_elim
      (λ before. (
        behind start front,
        front,
        made_on earlier front start is may,
        record { front = front; back = t ∷ back; last = []; parts = parts; makes = tt; is = sym (none_more front) },
        before,
      ))
      (λ made.
      let next = made_next t.call t.answer (behind start front) made.0 made.1 in
      let all = made_on (earlier ++ front) (next.call ∷ []) (behind start front) (made_on earlier front start is may) (next.come, tt) in
      let joined : (earlier ++ front) ++ next.call ∷ [] ≡ earlier ++ (front ++ next.call ∷ []) = append_assoc earlier front (next.call ∷ []) in (
        made.0,
        front ++ next.call ∷ [],
        subst (λ (calls : List Tried). IsMadeBy calls made.0) joined (subst (λ (s : Storage). IsMadeBy ((earlier ++ front) ++ next.call ∷ []) s) next.is all),
        record { front = front; back = t ∷ back; last = next.call ∷ []; parts = parts; makes = next.same; is = refl },
        made.2,
      )) gives

  pub from_may : (calls : List Tried) → MayGo start calls → MayGive start calls c → Next calls
  from_may calls may gives =
      let cut = parts gives.front gives.back start (subst (MayGo start) gives.parts may) in
      from_next calls gives.front gives.back gives.parts cut.first gives.gives

pub next_runs_begin : NextRunsBegin
next_runs_begin earlier calls start is may c =
    ⊎_elim (λ gives. from_may earlier start is c calls may (behind_may start calls may c gives)) (λ gives. from_may earlier start is c calls may gives)

-- ---- what a run leaves

module _ (earlier : List Tried) (start : Storage) (is : IsMadeBy earlier start) where
  pub next_start : (c : Folder) → StartsFrom c start → IsNextStart earlier c
  next_start c starts = (start, [], subst (λ (calls : List Tried). IsMadeBy calls start) (sym (append-nil earlier)) is, starts)

  -- behind calls, or between them
  next_behind : (calls : List Tried) → MayGo start calls → (c : Folder) → GivesBehind start calls c ⊎ MayGive start calls c → IsNextStart earlier c
  next_behind calls may c gives =
      let next = next_runs_begin earlier calls start is may c gives in
      (next.0, next.1, next.2, inl next.4)

  -- a folder that had no storage begins a new one
  starts_new : (old : Folder) → IsNew old → StartsFrom old start → start ≡ new_storage
  starts_new old new starts = ⊎_elim (λ gives. absurd (new_none old gives.mailbox gives.mark new gives.gives.opens.found)) (λ none. none.1) starts

  next_during : (calls : List Tried) → MayGo start calls → (old : Folder) → StartsFrom old start → (c : Folder) → MayLeave start calls old c → IsNextStart earlier c
  next_during calls may old starts c =
      ⊎_elim (λ same. next_start c (subst (λ (f : Folder). StartsFrom f start) (sym same.1) starts)) (λ gives. next_behind calls may c (inr gives))

  -- where none was opened
  next_unopened : (old : Folder) → StartsFrom old start → (c : Folder) → IsUnopened old c → IsNextStart earlier c
  next_unopened old starts c left = next_start c (⊎_elim quiet made left)
    where
      quiet : IsQuiet old c → StartsFrom c start
      quiet same = ⊎_elim (λ gives. inl (quiet_gives start old c gives same)) (λ none. inr (new_quiet old c none.0 same, none.1)) starts

      made : IsNew old × ((now : ℕ) × IsU32 now × IsOldOrCreated old now c) → StartsFrom c start
      made some =
          ⊎_elim (λ same. subst (λ (f : Folder). StartsFrom f start) (sym same) starts)
          (λ put. inl (subst (λ (s : Storage). GivesStorage s c) (sym (starts_new old some.0 starts)) (created_gives old c some.1.0 some.1.1 some.0 put))) some.1.2

  module _ {S : Type 0} (sees : SeesFolder S) (old new : S) (starts : StartsFrom (sees.files old) start) where
    pub served_next : (faults : Faults) (calls : List Call) (e : StorageEnd) (out : Output) → ServesCalls sees start faults calls e out old new → BeginsNext sees earlier old new
    served_next faults calls e out serves =
        let tried = serves.tried.answered ++ serves.tried.left in
        let may = serves.tried.may in
        record {
          now = next_behind tried may (sees.files new) (inl serves.folder);
          after = λ c left. next_behind tried may c (inl (serves.after c left));
          crash = weaker sees old new (MayLeave start tried (sees.files old)) (IsNextStart earlier) serves.crash (next_during tried may (sees.files old) starts);
        }

    pub unopened_next : (f : OpenFault) → LeavesUnopened sees f old new → BeginsNext sees earlier old new
    unopened_next f leaves = record {
      now = next_unopened (sees.files old) starts (sees.files new) leaves.folder;
      after = λ c left. next_unopened (sees.files old) starts c (leaves.after c left);
      crash = weaker sees old new (IsUnopened (sees.files old)) (IsNextStart earlier) leaves.crash (next_unopened (sees.files old) starts);
    }
