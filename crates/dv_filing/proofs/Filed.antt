-- What the writing of a storage's file leaves.
use Rattle.std.proofs.Common.{◌≡◌, ◌≢◌, inl, inr, ⊎_elim, ℕ, ◌≤◌, List, length, Option, Some, None, Result, Ok, Err, OnOk, OnErr, refl, sym, ◌∙◌, ap, subst, arith}
use Rattle.dv_shelf.specs.declared.shelf.Name.{Name}
use Rattle.dv_shelf.specs.declared.shelf.Name.TheVariants as name
use Rattle.dv_shelf.specs.Causes.{HasCause}
use Rattle.dv_shelf.specs.Crashes.{Elapses, Follows, FollowsNone, LeavesOnly}
use Rattle.dv_shelf.specs.Folders.{ChangesOnly, Folder, TornFile, contents, patched, with_file}
use Rattle.dv_shelf.specs.Sees.{SeesFolder}
use Rattle.dv_shelf.proofs.FolderLemmas.{nothing_changes, with_else, with_file_is, with_here}
use Rattle.dv_shelf.proofs.Moments.{goes_on, started}
use Rattle.dv_logfile.specs.Gates.{FromOneOf}
use Rattle.dv_logfile.specs.Settling.{StaysSettled}
use Rattle.dv_logfile.proofs.Settling.{rose_settled}
use Rattle.dv_chain.specs.declared.chain.Chain.{Chain}
use Rattle.dv_chain.specs.Rest.{Nothing}
use Rattle.dv_files.proofs.Beside.{KeepsIndex, put_beside, resting_beside}
use Rattle.dv_files.specs.Leavings.{IsPut, Leaves, Puts}
use Rattle.dv_files.proofs.Replacing.{puts_either}
use Rattle.dv_model.specs.declared.types.Mailbox.{Mailbox}
use Rattle.dv_filing.specs.declared.steps.Files.{Files}
use Rattle.dv_filing.specs.declared.steps.Files.TheVariants as files
use Rattle.dv_filing.specs.Files.{HasFile, HasText, IsNamed, IsWriting, IsWritten, WritesFiles}
use Rattle.dv_filing.specs.Standing.{Stands}
use Rattle.dv_filing.specs.Writes.{KeepsThrough}
use Rattle.dv_maps.specs.Texts.{KeepsTexts, Messages}

-- ---- a text

torn_same : (at n : ℕ) (file : Option (List ℕ)) → TornFile at n file file
torn_same at n None = tt {0}
torn_same at n (Some b) = record { before = refl; behind = refl; no_shorter = omega arith; no_longer = omega arith }

module _ {S : Type 0} (sees : SeesFolder S) (file at : ℕ) (text : List ℕ) (old mid : S) (now : (c : Folder) → sees.left_since old (sees.moment old) c → sees.may_leave old c)
    (time : Elapses (sees.moment old) (sees.moment mid) (sees.left_since old) (sees.left_since mid) (sees.may_leave mid))
    (crash : Follows (ChangesOnly (name.Mail file) (TornFile at (length text))) (sees.may_leave old) (sees.may_leave mid)) where
  abbrev step : Folder → Folder → Type 0
  step = ChangesOnly (name.Mail file) (TornFile at (length text))

  once : LeavesOnly sees old mid (FromOneOf (sees.may_leave old) step)
  once =
      goes_on sees old old mid (FromOneOf (sees.may_leave old) step) (sees.may_leave mid)
      (started sees old (FromOneOf (sees.may_leave old) step) (λ c left. (c, now c left, nothing_changes c (name.Mail file) (TornFile at (length text)) (torn_same at (length text) (c (name.Mail file)))))) time crash

  -- the write failed
  pub text_failed : {T E : Type 0} (e : E) → ChangesOnly (name.Mail file) (TornFile at (length text)) (sees.files old) (sees.files mid) → WritesFiles sees (files.Text file at text) {T = T} {E = E} (Err e) old mid
  text_failed e torn = record {
    since = once;
    follows = crash;
    written = tt;
    others = λ n other. torn.others n other;
  }

  -- it was done, and then the sync was or wasn't
  module _ (new : S) (wrote : sees.files mid ≡ with_file (sees.files old) (name.Mail file) (Some (patched (contents (sees.files old) (name.Mail file)) at text))) (same : sees.files new ≡ sees.files mid)
      (still : FollowsNone (sees.may_leave mid) (sees.may_leave new)) (later : Elapses (sees.moment mid) (sees.moment new) (sees.left_since mid) (sees.left_since new) (sees.may_leave new)) where
    follows : (c : Folder) → sees.may_leave new c → (d : Folder) × sees.may_leave old d × step d c
    follows c left = crash c (still c left)

    here : (c : Folder) → c (name.Mail file) ≡ sees.files new (name.Mail file) → c (name.Mail file) ≡ Some (patched (contents (sees.files old) (name.Mail file)) at text)
    here c is = is ∙ ap (λ (f : Folder). f (name.Mail file)) (same ∙ wrote) ∙ with_here (sees.files old) (name.Mail file) (Some (patched (contents (sees.files old) (name.Mail file)) at text))

    pub text_written : {T E : Type 0} (result : Result T E) → OnOk result ((c : Folder) → sees.may_leave new c → c (name.Mail file) ≡ sees.files new (name.Mail file)) → WritesFiles sees (files.Text file at text) result old new
    text_written {T = T} {E = E} result durable = record {
      since = goes_on sees old mid new (FromOneOf (sees.may_leave old) step) (sees.may_leave new) once later follows;
      follows = follows;
      written = by_result result durable;
      others = λ n other. ap (λ (f : Folder). f n) (same ∙ wrote) ∙ with_else (sees.files old) (name.Mail file) _ n other;
    }
      where
        by_result : (r : Result T E) → OnOk r ((c : Folder) → sees.may_leave new c → c (name.Mail file) ≡ sees.files new (name.Mail file))
            → OnOk r ((c : Folder) → sees.may_leave new c → (d : Folder) × sees.may_leave old d × IsWritten (files.Text file at text) (sees.files old) d c)
        by_result (Ok x) is = λ c left.
            let from = follows c left in
            (from.0, from.1, record { there = here c (is c left); others = from.2.others })
        by_result (Err e) is = tt

    pub text_settled : {T E : Type 0} (result : Result T E) → HasCause (sees.fault_count mid) (sees.fault_count new) result → sees.fault_count old ≤ sees.fault_count mid
        → OnOk result ((c : Folder) → sees.may_leave new c → c (name.Mail file) ≡ sees.files new (name.Mail file)) → StaysSettled sees old new
    text_settled (Ok x) cause less durable = λ stayed settled c left.
        let from = follows c left in
        let step_is = subst (λ (d : Folder). ChangesOnly (name.Mail file) (TornFile at (length text)) d c) (settled from.0 from.1) from.2 in
        with_file_is (sees.files old) c (name.Mail file) _ (here c (durable c left)) step_is.others ∙ sym (same ∙ wrote)
    text_settled (Err e) cause less durable = λ stayed settled. absurd (stayed (let rose = cause.rose in omega (arith, rose, less)))

-- ---- a file

file_named : (file : ℕ) (text : List ℕ) (d c : Folder) → c ≡ with_file d (name.Mail file) (Some text) → HasFile file text d c
file_named file text d c is = record {
  there = ap (λ (f : Folder). f (name.Mail file)) is ∙ with_here d (name.Mail file) (Some text);
  others = λ n other. ap (λ (f : Folder). f n) is ∙ with_else d (name.Mail file) (Some text) n other;
}

put_others : (file : ℕ) (text : List ℕ) (d c : Folder) (n : Name) → n ≢ name.Mail file → IsPut (name.Mail file) text d c → c n ≡ d n
put_others file text d c n other put = ⊎_elim (λ same. ap (λ (f : Folder). f n) same) (λ is. (file_named file text d c is).others n other) put

pub file_written : {S : Type 0} (sees : SeesFolder S) (file : ℕ) (text : List ℕ) (old new : S) {T E : Type 0} (result : Result T E) → Leaves sees (Puts (name.Mail file) text result) (IsPut (name.Mail file) text) old new
    → WritesFiles sees (files.File file text) result old new
file_written sees file text old new {T} {E} result leaves = record {
  since = leaves.since;
  follows = λ c left.
      let from = leaves.crash c left in
      (from.0, from.1, puts_either (name.Mail file) text result from.0 c from.2);
  written = by_result result leaves.crash;
  others = λ n other. put_others file text (sees.files old) (sees.files new) n other (puts_either (name.Mail file) text result (sees.files old) (sees.files new) leaves.seen);
}
  where
    by_result : (r : Result T E) → Follows (Puts (name.Mail file) text r) (sees.may_leave old) (sees.may_leave new)
        → OnOk r ((c : Folder) → sees.may_leave new c → (d : Folder) × sees.may_leave old d × IsWritten (files.File file text) (sees.files old) d c)
    by_result (Ok x) crash = λ c left.
        let from = crash c left in
        (from.0, from.1, file_named file text from.0 c from.2)
    by_result (Err e) crash = tt

-- ---- none

pub none_written : {S : Type 0} (sees : SeesFolder S) (s : S) → ((c : Folder) → sees.left_since s (sees.moment s) c → sees.may_leave s c) → {E : Type 0} → WritesFiles sees files.Nothing {T = Unit {0}} {E = E} (Ok tt) s s
none_written sees s now = record {
  since = started sees s (FromOneOf (sees.may_leave s) (IsWriting files.Nothing)) (λ c left. (c, now c left, refl));
  follows = λ c left. (c, left, refl);
  written = λ c left. (c, left, refl);
  others = λ n other. refl;
}

-- ---- a storage at rest

pub writing_beside : (steps : Files) (d c : Folder) → IsWriting steps d c → KeepsIndex d c
writing_beside files.Nothing d c is = record { index = ap (λ (f : Folder). f name.Index) is; log = ap (λ (f : Folder). f name.Log) is; log2 = ap (λ (f : Folder). f name.Log2) is }
writing_beside (files.Text file at text) d c is = record { index = is.others name.Index (λ e. cc); log = is.others name.Log (λ e. cc); log2 = is.others name.Log2 (λ e. cc) }
writing_beside (files.File file text) d c is = put_beside file text d c is

module _ {S : Type 0} (sees : SeesFolder S) (messages next : Messages) (chain : Chain) (steps : Files) (after : Mailbox) (old new : S) (stands : Stands sees messages Nothing chain old)
    (through : KeepsThrough messages next chain.live.mailbox after steps) {T E : Type 0} (result : Result T E) (writes : WritesFiles sees steps result old new) where
  -- it stays at rest
  pub filed_stands : Stands sees messages Nothing chain new
  filed_stands = record {
    rests = record {
      bounds = stands.rests.bounds;
      owes = stands.rests.owes;
      each = λ c left.
          let from = writes.follows c left in
          resting_beside chain from.0 c (writing_beside steps from.0 c from.2) Nothing (stands.rests.each from.0 from.1);
    };
    keeps = λ c left.
        let from = writes.follows c left in
        through.stays from.0 c from.2 (stands.keeps from.0 from.1);
    pending = λ c left. tt;
  }
