-- Which lines ask the store.
use Rattle.std.proofs.Common.{◌≡◌, ◌⊎◌, inl, inr, ◌<◌, ℕ, zero, suc, Bool, true, false, List, [], ◌∷◌, Some, None, Option, refl, sym, ap, subst, ◌∙◌, arith}
use Rattle.std.specs.Prelude.{Contains, Err, IfOk, Ok, OnErr, Result, slice_get, if◌then◌else◌}
use Rattle.std.proofs.lemmas.List.Elements.{All-weaker}
use Rattle.std.proofs.lemmas.Option.{get_or_from_slice_get, slice_get_within}
use Rattle.dv_maildrop.specs.declared.types.Asked.{Asked}
use Rattle.dv_maildrop.specs.declared.types.Asked.TheVariants as asked_of
use Rattle.dv_maildrop.specs.declared.types.Listed.{Listed}
use Rattle.dv_maildrop.specs.declared.types.PopLine.{PopLine}
use Rattle.dv_maildrop.specs.declared.types.PopLine.TheVariants as line
use Rattle.dv_maildrop.specs.declared.types.Found.{Found}
use Rattle.dv_maildrop.specs.declared.types.Found.TheVariants as found
use Rattle.dv_maildrop.specs.declared.types.Removal.{Removal}
use Rattle.dv_maildrop.specs.declared.types.Removal.TheVariants as removal
use Rattle.dv_maildrop.specs.Answers.{Store, answer, answer_by, found_answer, removal_answer}
use Rattle.dv_model.specs.Journals.{Log}
use Rattle.dv_model.specs.Sessions.{State}
use Rattle.dv_member.specs.Members.{Member}
use Rattle.dv_pop3.specs.Clients.{IsGiven, IsListing, KeepsOn}
use Rattle.dv_pop3.specs.Findings.{IsCut, IsFound, IsHeld, Leaves, Removes, Says}
use Rattle.dv_maildrop.specs.Maildrops.{Transaction, asked, asked_message, asked_removal, behind, is_marked, row_at, row_of}

-- a line that asks for a message leaves the maildrop as it is
removal_not_message : (ks : List ℕ) (row : Listed) → asked_removal ks ≡ asked_of.Message row → ⊥
removal_not_message [] row e = absurd cc
removal_not_message (k ∷ ks) row e = absurd cc

message_not_removal : (o : Option Listed) → asked_message o ≡ asked_of.Removal → ⊥
message_not_removal None e = absurd cc
message_not_removal (Some row) e = absurd cc

pub message_same : (m : Transaction) (l : PopLine) (row : Listed) → asked m l ≡ asked_of.Message row → behind m l ≡ m
message_same m (line.Retr k) row e = refl
message_same m line.Quit row e = absurd (removal_not_message m.marked row e)
message_same m line.Stat row e = absurd cc
message_same m (line.List k) row e = absurd cc
message_same m (line.Uidl k) row e = absurd cc
message_same m (line.Dele k) row e = absurd cc
message_same m line.Noop row e = absurd cc
message_same m line.Rset row e = absurd cc
message_same m line.Bad row e = absurd cc

-- and QUIT alone asks for the removal
pub removal_quits : (m : Transaction) (l : PopLine) → asked m l ≡ asked_of.Removal → behind m l ≡ behind m line.Quit
removal_quits m (line.Retr k) e = absurd (message_not_removal (row_of m k) e)
removal_quits m line.Quit e = refl
removal_quits m line.Stat e = absurd cc
removal_quits m (line.List k) e = absurd cc
removal_quits m (line.Uidl k) e = absurd cc
removal_quits m (line.Dele k) e = absurd cc
removal_quits m line.Noop e = absurd cc
removal_quits m line.Rset e = absurd cc
removal_quits m line.Bad e = absurd cc

-- ---- the message that is asked is a listed one

contains_at : (rows : List Listed) (k : ℕ) (row : Listed) → slice_get rows k ≡ Some row → Contains rows row
contains_at rows k row e = (k, slice_get_within rows k row e, get_or_from_slice_get rows k row row e)

message_is : (o : Option Listed) (row : Listed) → asked_message o ≡ asked_of.Message row → o ≡ Some row
message_is None row e = absurd cc
message_is (Some x) row e = cc

at_listed : (rows : List Listed) (k : ℕ) (row : Listed) → row_at rows k ≡ Some row → Contains rows row
at_listed rows zero row e = absurd cc
at_listed rows (suc k) row e = contains_at rows k row e

unmarked_at : (b : Bool) (o : Option Listed) (row : Listed) → (if b then None else o) ≡ Some row → o ≡ Some row
unmarked_at true o row e = absurd cc
unmarked_at false o row e = e

pub message_listed : (m : Transaction) (l : PopLine) (row : Listed) → asked m l ≡ asked_of.Message row → Contains m.rows row
message_listed m (line.Retr k) row e = at_listed m.rows k row (unmarked_at (is_marked m k) (row_at m.rows k) row (message_is (row_of m k) row e))
message_listed m line.Quit row e = absurd (removal_not_message m.marked row e)
message_listed m line.Stat row e = absurd cc
message_listed m (line.List k) row e = absurd cc
message_listed m (line.Uidl k) row e = absurd cc
message_listed m (line.Dele k) row e = absurd cc
message_listed m line.Noop row e = absurd cc
message_listed m line.Rset row e = absurd cc
message_listed m line.Bad row e = absurd cc

-- ---- answers and what is left, by what the line asks

abbrev says_of : Found → Removal → Store
says_of f r = record { message = λ uid. f; removal = r }

module _ (start : Log) (count : ℕ) (m : Transaction) (l : PopLine) (old new : Member) where
  abbrev HasAnswer : List ℕ → Type 0
  HasAnswer t = (store : Store) × (t ≡ answer store m l) × Says start count m store (asked m l) old new

  pub own_answered : {E : Type 0} (result : Result (List ℕ) E) → asked m l ≡ asked_of.Nothing → new ≡ old → IfOk result (λ t. (store : Store) → t ≡ answer store m l) → IfOk result HasAnswer
  own_answered (Ok t) none same is = (says_of found.Gone removal.Done, is (says_of found.Gone removal.Done), subst (λ (a : Asked). Says start count m (says_of found.Gone removal.Done) a old new) (sym none) same)
  own_answered (Err e) none same is = tt

  pub own_left : {A E : Type 0} (result : Result A E) → asked m l ≡ asked_of.Nothing → new ≡ old → OnErr result (Leaves start count m (asked m l) old new)
  own_left (Ok t) none same = tt
  own_left (Err e) none same = subst (λ (a : Asked). Leaves start count m a old new) (sym none) same

  pub message_answered : {E : Type 0} (result : Result (List ℕ) E) (row : Listed) → asked m l ≡ asked_of.Message row → IfOk result (λ t. (f : Found) × (t ≡ found_answer row f) × IsFound start count row.uid f old new) → IfOk result HasAnswer
  message_answered (Ok t) row e (f, is, one) =
      let store : Store = says_of f removal.Done in
      (store, is ∙ ap (λ (a : Asked). answer_by store m l a) (sym e), subst (λ (a : Asked). Says start count m store a old new) (sym e) one)
  message_answered (Err x) row e is = tt

  pub message_left : {A E : Type 0} (result : Result A E) (row : Listed) → asked m l ≡ asked_of.Message row → OnErr result (IsHeld old new ⊎ ((f : Found) × IsFound start count row.uid f old new)) → OnErr result (Leaves start count m (asked m l) old new)
  message_left (Ok t) row e left = tt
  message_left (Err x) row e left = subst (λ (a : Asked). Leaves start count m a old new) (sym e) left

  pub removal_answered : {E : Type 0} (result : Result (List ℕ) E) → asked m l ≡ asked_of.Removal → IfOk result (λ t. (r : Removal) × (t ≡ removal_answer r) × Removes start count m r old new) → IfOk result HasAnswer
  removal_answered (Ok t) e (r, is, one) =
      let store : Store = says_of found.Gone r in
      (store, is ∙ ap (λ (a : Asked). answer_by store m l a) (sym e), subst (λ (a : Asked). Says start count m store a old new) (sym e) one)
  removal_answered (Err x) e is = tt

  pub removal_left : {A E : Type 0} (result : Result A E) → asked m l ≡ asked_of.Removal → OnErr result (Leaves start count m asked_of.Removal old new) → OnErr result (Leaves start count m (asked m l) old new)
  removal_left (Ok t) e left = tt
  removal_left (Err x) e left = subst (λ (a : Asked). Leaves start count m a old new) (sym e) left

-- a listed message was given out
pub listed_given : (rows : List Listed) (x : State) (row : Listed) → IsListing rows x → Contains rows row → IsGiven row x
listed_given rows x row listing (k, less, is) = (listing.selected, subst (λ (r : Listed). r.uid < x.view.next_uid) is (listing.given k row less))

pub listing_later : (rows : List Listed) (x y : State) → IsListing rows x → KeepsOn x y → IsListing rows y
listing_later rows x y listing later = record {
  selected = later.selected;
  given = All-weaker (λ (row : Listed). row.uid < x.view.next_uid) (λ (row : Listed). row.uid < y.view.next_uid) (λ row low. omega (arith, low, later.next_uid)) rows listing.given;
}

pub removal_less : (start : Log) (count : ℕ) (m : Transaction) (old new : Member) → IsHeld old new ⊎ IsCut start m old new → Leaves start count m asked_of.Removal old new
removal_less start count m old new (inl held) = inl held
removal_less start count m old new (inr cut) = inr (inl cut)
