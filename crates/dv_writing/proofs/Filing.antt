-- The files that are written or removed before a group.
use Rattle.std.proofs.Common.{◌≡◌, ◌≢◌, inr, ⊎_elim, ℕ, Bool, true, false, ◌||◌, cond, List, [], ◌∷◌, Some, None, Result, Ok, Err, OnOk, refl, sym, ◌∙◌, ap, arith}
use Rattle.std.specs.Prelude.{Contains, length, take}
use Rattle.std.proofs.lemmas.List.{take_all}
use Rattle.std.proofs.lemmas.List.Elements.{Contains-append_cases}
use Rattle.dv_model.specs.declared.types.Mailbox.{Mailbox}
use Rattle.dv_model.specs.Journals.{Log}
use Rattle.dv_shelf.specs.declared.shelf.Name.{Name}
use Rattle.dv_shelf.specs.declared.shelf.Name.TheVariants as name
use Rattle.dv_shelf.specs.Folders.{Folder, has_name, same_name, with_file}
use Rattle.dv_shelf.proofs.FolderLemmas.{is_same, with_else, with_here}
use Rattle.dv_shelf.proofs.Moments.{started}
use Rattle.dv_chain.specs.declared.chain.Chain.{Chain}
use Rattle.dv_files.specs.Leavings.{IsPut, Leaves, Puts}
use Rattle.dv_files.proofs.Replacing.{puts_either}
use Rattle.dv_files.specs.Writing.{IsSweeping, IsSwept, mail_names, swept}
use Rattle.dv_files.proofs.Beside.{none_named}
use Rattle.dv_files.proofs.Removing.{sweep_stays}
use Rattle.dv_writing.specs.Debts.{MayGive, Nothing, Stands}
use Rattle.dv_writing.proofs.Resting.{rests_give}
use Rattle.dv_writing.specs.Quiet.{IsQuiet}
use Rattle.dv_writing.specs.Renewals.{IsRenewing, Renews, renewed, with_index}
use Rattle.dv_writing.proofs.Listing.{none_in, one_in}
use Rattle.dv_writing.proofs.Renewing.{put_else}
use Rattle.dv_writing.specs.declared.steps.Files.TheVariants as kind
use Rattle.dv_writing.specs.declared.steps.Renewal.{Renewal}
use Rattle.dv_writing.specs.Steps.{HasFiles, HoldsFiles, IsNamed, KeepsUnnamed}
use Rattle.dv_shelf.specs.Sees.{SeesFolder}

-- ---- none

pub none_written : {S : Type 0} (sees : SeesFolder S) (m : Mailbox) (shelf : S) → HasFiles sees m kind.Nothing shelf
none_written sees m shelf = record { seen = tt; crash = λ c left. tt }

pub none_quiet : {S : Type 0} (sees : SeesFolder S) (log : Log) (chain : Chain) (shelf : S) → Stands sees log Nothing chain shelf
    → ((c : Folder) → sees.left_since shelf (sees.moment shelf) c → sees.may_leave shelf c) → IsQuiet sees log chain shelf shelf
none_quiet sees log chain shelf stands now = record {
  any_moment = started sees shelf (MayGive log Nothing chain) (λ c left. rests_give sees log Nothing chain shelf c stands (now c left));
  stands = stands;
}

-- ---- a message file

module _ {S : Type 0} (sees : SeesFolder S) (m : Mailbox) (text : List ℕ) (old new : S) where
  abbrev n : Name
  n = name.Mail m.next_uid

  put_holds : (d c : Folder) → c ≡ with_file d n (Some text) → HoldsFiles m (kind.Message text) c
  put_holds d c is = ap (λ (f : Folder). f n) is ∙ with_here d n (Some text)

  pub message_written : {T E : Type 0} (result : Result T E) → Leaves sees (Puts n text result) (IsPut n text) old new → OnOk result (HasFiles sees m (kind.Message text) new)
  message_written (Ok x) leaves = record {
    seen = put_holds (sees.files old) (sees.files new) leaves.seen;
    crash = λ c left.
        let from = leaves.crash c left in
        put_holds from.0 c from.2;
  }
  message_written (Err e) leaves = tt

  pub message_others : {T E : Type 0} (result : Result T E) → Leaves sees (Puts n text result) (IsPut n text) old new → KeepsUnnamed m (kind.Message text) (sees.files old) (sees.files new)
  message_others result leaves k unnamed = put_else n k text (sees.files old) (sees.files new) (λ e. unnamed e) (puts_either n text result (sees.files old) (sees.files new) leaves.seen)

-- ---- the files of a check

or_true : (b : Bool) → (b || true) ≡ true
or_true true = refl
or_true false = refl

pub named_true : (uids : List ℕ) (uid : ℕ) → Contains uids uid → has_name (mail_names uids) (name.Mail uid) ≡ true
named_true [] uid has = absurd (none_in uid has)
named_true (u ∷ uids) uid has =
    ⊎_elim (λ here. ap (λ (b : Bool). b || has_name (mail_names uids) (name.Mail uid)) (is_same (name.Mail u) (name.Mail uid) (ap (λ (v : ℕ). name.Mail v) (one_in u uid here))))
    (λ later. ap (λ (b : Bool). same_name (name.Mail u) (name.Mail uid) || b) (named_true uids uid later) ∙ or_true (same_name (name.Mail u) (name.Mail uid)))
    (Contains-append_cases (u ∷ []) uids uid has)

renews_some : {T E : Type 0} (index cache : List ℕ) (result : Result T E) (d c : Folder) → Renews index cache result d c → IsRenewing index cache d c
renews_some index cache (Ok x) d c is = inr (inr is)
renews_some index cache (Err e) d c some = some

-- the files but the index and the cache file
renewed_else : (index cache : List ℕ) (d c : Folder) (k : Name) → k ≢ name.Index → k ≢ name.Cache → IsRenewing index cache d c → c k ≡ d k
renewed_else index cache d c k first second some =
    ⊎_elim (λ same. ap (λ (f : Folder). f k) same)
    (λ more. ⊎_elim (λ one. ap (λ (f : Folder). f k) one ∙ at_index) (λ both. ap (λ (f : Folder). f k) both ∙ with_else (with_index index d) name.Cache (Some cache) k second ∙ at_index) more) some
  where
    at_index : with_index index d k ≡ d k
    at_index = with_else d name.Index (Some index) k first

pub swept_else : (uids : List ℕ) (d c : Folder) (k : Name) → ((uid : ℕ) → name.Mail uid ≢ k) → IsSweeping uids d c → c k ≡ d k
swept_else uids d c k other some = ap (λ (f : Folder). f k) some.1 ∙ ap (λ (b : Bool). cond b None (d k)) (none_named k other (take some.0 uids))

module _ (m : Mailbox) (renewal : Renewal) where
  abbrev gone : List ℕ
  gone = renewal.gone

  check_holds : (d e c : Folder) → IsSwept gone d e → c ≡ renewed renewal.index renewal.cache e → HoldsFiles m (kind.Check renewal) c
  check_holds d e c swept is = (
    λ uid has.
        renewed_else renewal.index renewal.cache e c (name.Mail uid) (λ q. cc) (λ q. cc) (inr (inr is)) ∙ ap (λ (f : Folder). f (name.Mail uid)) swept
        ∙ ap (λ (b : Bool). cond b None (d (name.Mail uid))) (named_true gone uid has),
    ap (λ (f : Folder). f name.Index) is ∙ with_else (with_index renewal.index e) name.Cache (Some renewal.cache) name.Index (λ q. cc) ∙ with_here e name.Index (Some renewal.index),
    ap (λ (f : Folder). f name.Cache) is ∙ with_here (with_index renewal.index e) name.Cache (Some renewal.cache),
  )

  pub sweep_unnamed : (d c : Folder) → IsSweeping gone d c → (n : Name) → (IsNamed m (kind.Check renewal) n → ⊥) → c n ≡ d n
  sweep_unnamed d c some (name.Mail uid) unnamed = sweep_stays uid gone d c unnamed some
  sweep_unnamed d c some name.Index unnamed = absurd (unnamed tt)
  sweep_unnamed d c some name.Cache unnamed = absurd (unnamed tt)
  sweep_unnamed d c some name.Log unnamed = swept_else gone d c name.Log (λ uid q. cc) some
  sweep_unnamed d c some name.Log2 unnamed = swept_else gone d c name.Log2 (λ uid q. cc) some

  renew_unnamed : (d c : Folder) → IsRenewing renewal.index renewal.cache d c → (n : Name) → (IsNamed m (kind.Check renewal) n → ⊥) → c n ≡ d n
  renew_unnamed d c some (name.Mail uid) unnamed = renewed_else renewal.index renewal.cache d c (name.Mail uid) (λ q. cc) (λ q. cc) some
  renew_unnamed d c some name.Index unnamed = absurd (unnamed tt)
  renew_unnamed d c some name.Cache unnamed = absurd (unnamed tt)
  renew_unnamed d c some name.Log unnamed = renewed_else renewal.index renewal.cache d c name.Log (λ q. cc) (λ q. cc) some
  renew_unnamed d c some name.Log2 unnamed = renewed_else renewal.index renewal.cache d c name.Log2 (λ q. cc) (λ q. cc) some

  module _ {S T E : Type 0} (sees : SeesFolder S) (old mid new : S) (result : Result T E)
      (first : Leaves sees (IsSwept gone) (IsSweeping gone) old mid)
      (second : Leaves sees (Renews renewal.index renewal.cache result) (IsRenewing renewal.index renewal.cache) mid new) where
    pub check_written : OnOk result (HasFiles sees m (kind.Check renewal) new)
    check_written = by_result result second
      where
        by_result : (r : Result T E) → Leaves sees (Renews renewal.index renewal.cache r) (IsRenewing renewal.index renewal.cache) mid new → OnOk r (HasFiles sees m (kind.Check renewal) new)
        by_result (Ok x) leaves = record {
          seen = check_holds (sees.files old) (sees.files mid) (sees.files new) first.seen leaves.seen;
          crash = λ c left.
              let two = leaves.crash c left in
              let one = first.crash two.0 two.1 in
              check_holds one.0 two.0 c one.2 two.2;
        }
        by_result (Err e) leaves = tt

    pub check_others : KeepsUnnamed m (kind.Check renewal) (sees.files old) (sees.files new)
    check_others n unnamed =
        renew_unnamed (sees.files mid) (sees.files new) (renews_some renewal.index renewal.cache result (sees.files mid) (sees.files new) second.seen) n unnamed
        ∙ sweep_unnamed (sees.files old) (sees.files mid) (length gone, first.seen ∙ ap (λ (us : List ℕ). swept us (sees.files old)) (sym (take_all (length gone) gone (omega arith)))) n unnamed
