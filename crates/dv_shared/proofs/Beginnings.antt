-- What is kept when a run begins holds.
use Rattle.std.proofs.Common.{◌≡◌, inl, inr, ⊎_elim, ℕ, ◌≤◌, List, [], false, Some, None, refl, sym, ◌∙◌, ap, subst, arith, append-nil}
use Rattle.dv_model.specs.declared.types.Entry.{Entry}
use Rattle.dv_model.specs.Journals.{Log}
use Rattle.dv_shelf.specs.Folders.{Folder}
use Rattle.dv_shelf.specs.Sees.{SeesFolder}
use Rattle.dv_notes.specs.Logs.{log_of}
use Rattle.dv_notes.proofs.Logs.{mailbox_at_end}
use Rattle.dv_notes.proofs.Writes.{mark_at_end}
use Rattle.dv_writing.specs.Debts.{Nothing}
use Rattle.dv_store.specs.Rest.{IsAtRest}
use Rattle.dv_store.specs.States.{State}
use Rattle.dv_tries.specs.Images.{LeavesSince}
use Rattle.dv_tries.specs.Standing.{StandsBehind}
use Rattle.dv_tries.specs.Tries.{GivesLog, MayGive}
use Rattle.dv_shared.specs.Beginning.{Begins, first_kept}
use Rattle.dv_serving.proofs.Counting.{rose_none}
use Rattle.dv_shared.specs.Holding.{Balances, Holds, HoldsFolder, KeepsSettled}
use Rattle.dv_shared.specs.Kept.{Kept}
use Rattle.dv_shared.specs.Owing.{Owes}
use Rattle.dv_shared.proofs.Owing.{owes_of}

-- the log of no notes is the start
pub log_none : (start : Log) → log_of start [] ≡ start
log_none start = ap (λ (es : List Entry). record start { entries = es }) (append-nil start.entries)

since_weaker : {S : Type 0} (sees : SeesFolder S) (moment : ℕ) (past : ℕ → Folder → Type 0) (new : S) (P Q : Folder → Type 0) → ((c : Folder) → P c → Q c)
    → LeavesSince sees moment past new P → LeavesSince sees moment past new Q
since_weaker sees moment past new P Q also since = record {
  later = since.later;
  each = λ c left. also c (since.each c left);
  before = λ t c le left. ⊎_elim inl (λ p. inr (also c p)) (since.before t c le left);
}

module _ {S C : Type 0} (sees : SeesFolder S) (tells : Type 0) (start : Log) (moment : ℕ) (past : ℕ → Folder → Type 0) (honest : Type 0) (store : State S C) (begins : Begins sees start moment past honest store) where
  first_stands : StandsBehind start [] store
  first_stands = record {
    notes_are = record { sound = begins.start_is.sound; fresh = begins.start_is.fresh; good = tt };
    rotates = begins.start_is.rotates;
    mailbox = mailbox_at_end start [] begins.start_is.fresh ∙ ap Some (sym begins.mailbox);
    mark = begins.mark ∙ sym (mark_at_end start [] begins.start_is.fresh begins.start_is.rotates);
    begun = false;
    place = (begins.place, begins.owed);
    indexid = begins.indexid;
  }

  first_gives : (c : Folder) → GivesLog start c → MayGive tells start [] [] c
  first_gives c gives = inl (0, omega arith, subst (λ (l : Log). GivesLog l c) (sym (log_none start)) gives)

  first_folder : honest → HoldsFolder sees tells start moment past (first_kept store)
  first_folder h =
      let folder = begins.folder h in
      record {
        told = folder.told;
        rests = record { debt = Nothing; owed = tt; rests = subst (λ (l : Log). IsAtRest sees l Nothing store) (sym (log_none start)) folder.rests };
        since = since_weaker sees moment past store.shelf (GivesLog start) (MayGive tells start [] []) first_gives folder.since;
      }

  pub first_holds : Holds sees tells start moment past honest (first_kept store)
  first_holds = record { stands = first_stands; counted = refl; folder = first_folder }

  -- it owes nothing
  pub owes_first : honest → Owes sees tells start [] None store
  owes_first h =
      owes_of sees tells start [] store first_stands None Nothing tt (subst (λ (l : Log). IsAtRest sees l Nothing store) (sym (log_none start)) (begins.folder h).rests)

  pub holds_first : (k : Kept S C) → k ≡ first_kept store → Holds sees tells start moment past honest k
  holds_first k is = subst (λ (x : Kept S C). Holds sees tells start moment past honest x) (sym is) first_holds

  -- its shelf is settled
  pub settled_first : (count : ℕ) (k : Kept S C) → k ≡ first_kept store → KeepsSettled sees count honest k
  settled_first count k is = subst (λ (x : Kept S C). KeepsSettled sees count honest x) (sym is) (λ h stayed. (begins.folder h).settled)

-- and its ledgers have counted nothing
pub balances_first : {S C : Type 0} (sees : SeesFolder S) (count wrote refused : ℕ) (store : State S C) (k : Kept S C) → k ≡ first_kept store → count ≤ sees.fault_count store.shelf → wrote ≡ 0 → refused ≡ 0
    → Balances sees count wrote (record { kept = k; refused = refused })
balances_first {S} {C} sees count wrote refused store k is later none_wrote none_refused =
    subst (λ (x : Kept S C). Balances sees count wrote (record { kept = x; refused = refused })) (sym is)
    (subst (λ (n : ℕ). Balances sees count wrote (record { kept = first_kept store; refused = n })) (sym none_refused)
    (record { wrote_all = none_wrote; few = rose_none count (sees.fault_count store.shelf) later; tries = omega arith }))
