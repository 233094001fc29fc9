-- Which rows a session is to be told of after records were applied, by their UIDs alone.
use Rattle.std.specs.Prelude.{◌≡◌, ◌≢◌, ◌⊎◌, ℕ, ◌<◌, ◌≤◌, true, List, [], ◌∷◌, ◌++◌, map, fold, All, Option, IfSome, IsSome, option_map, option_to_list, nat_eq, nat_lt, if◌then◌else◌}
use Rattle.std.specs.List.Sorted.{IsStrictlyIncreasing}
use Rattle.dv_model.specs.declared.types.Fresh.{Fresh}
use Rattle.dv_model.specs.declared.types.Mailbox.{Mailbox}
use Rattle.dv_model.specs.declared.types.Shown.{Shown}
use Rattle.dv_model.specs.Views.{View, row_of, shown, shows_uid}

-- what is shown of the mailbox's row of a UID
abbrev pub shown_of : Mailbox → ℕ → Option Shown
shown_of m uid = option_map shown (row_of m uid)

-- what is shown of the UID's row differs, or only one of the mailboxes has the row
abbrev pub IsTouched : Mailbox → Mailbox → ℕ → Type 0
IsTouched old new uid = shown_of old uid ≢ shown_of new uid

-- one UID's row is put among rows by rising UID, in place of the one that stands there, or taken out
abbrev pub with_fresh : List Shown → Fresh → List Shown
with_fresh [] f = option_to_list f.row
with_fresh (s ∷ rows) f =
    if nat_lt s.uid f.uid then s ∷ with_fresh rows f
    else (if nat_eq s.uid f.uid then option_to_list f.row ++ rows else option_to_list f.row ++ s ∷ rows)

-- the rows whose UIDs aren't in the list, and those that the list gives, by rising UID
abbrev pub patched : List Shown → List Fresh → List Shown
patched rows fresh = fold with_fresh rows fresh

-- a row beside the UID that it is of, with places in a table of so many names
pub record IsFreshRow (names uid : ℕ) (s : Shown) : Type 0 where
  pub is : s.uid ≡ uid
  pub keywords : IsStrictlyIncreasing s.keywords × All (λ k. k < names) s.keywords

-- Changes that a view can follow to a mailbox with this UIDNEXT and so many keyword names: UIDs rise and were given out,
-- and one that has a row was shown or is new.
pub record AreFresh (view : View) (next_uid names : ℕ) (fresh : List Fresh) : Type 0 where
  pub later : view.next_uid ≤ next_uid
  pub rising : IsStrictlyIncreasing (map (λ f. f.uid) fresh)
  pub given : All (λ f. (1 ≤ f.uid) × (f.uid < next_uid)) fresh
  pub rows : All (λ f. IfSome f.row (IsFreshRow names f.uid)) fresh
  pub known : All (λ f. IsSome f.row → (shows_uid view f.uid ≡ true) ⊎ (view.next_uid ≤ f.uid)) fresh
