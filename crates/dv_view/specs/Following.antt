-- How a view follows changes that are given by UID.
use Rattle.std.specs.Prelude.{◌≡◌, ℕ, suc, Bool, true, not, ◌&&◌, List, [], ◌∷◌, ◌++◌, map, filter, find, position, Option, Some, None, is_some, ◌≤◌, ◌⊎◌, All, IfSome, IsSome, option_map, option_to_list, nat_eq, unwrap_or}
use Rattle.std.specs.List.{list_any}
use Rattle.std.specs.List.Sorted.{IsStrictlyIncreasing}
use Rattle.dv_model.specs.declared.types.Fresh.{Fresh}
use Rattle.dv_model.specs.declared.types.Mailbox.{Mailbox}
use Rattle.dv_model.specs.declared.types.Shown.{Shown}
use Rattle.dv_model.specs.declared.types.Step.{Step}
use Rattle.dv_model.specs.declared.types.Step.TheVariants.{Held, Full}
use Rattle.dv_model.specs.Fresh.{patched}
use Rattle.dv_model.specs.Mailboxes.{IsValid}
use Rattle.dv_model.specs.Views.{View, shown, shows_uid}

-- a mailbox to which the changes lead: with this UIDNEXT and table it shows the view's rows with the changes
pub record IsPatched (view : View) (uid_next : ℕ) (table : List (List ℕ)) (fresh : List Fresh) (m : Mailbox) : Type 0 where
  pub valid : IsValid m
  pub rows : map shown m.rows ≡ patched view.rows fresh
  pub next_uid : m.next_uid ≡ uid_next
  pub names : m.keywords ≡ table

-- the changes of which a step tells: no row leaves by a Held one
abbrev pub told_of : Step → List Fresh → List Fresh
told_of Held fresh = filter (λ f. is_some f.row) fresh
told_of Full fresh = fresh

-- the rows behind the step
abbrev pub rows_after : Step → List Shown → List Fresh → List Shown
rows_after step rows fresh = patched rows (told_of step fresh)

-- the rows that the changes give
abbrev pub given : List Fresh → List Shown
given [] = []
given (f ∷ fresh) = option_to_list f.row ++ given fresh

-- a row as it was given, or as it was
abbrev pub renewed : List Shown → Shown → Shown
renewed made s = unwrap_or (find (λ t. nat_eq t.uid s.uid) made) s

-- the UID's row has left
abbrev pub has_left : List Fresh → ℕ → Bool
has_left fresh uid = list_any (λ f. nat_eq f.uid uid && not (is_some f.row)) fresh

-- the number, counted from 1, of the row that has left, where there is one
abbrev pub left_number : List Shown → Fresh → Option ℕ
left_number rows f = number f.row
  where
    number : Option Shown → Option ℕ
    number (Some s) = None
    number None = option_map suc (position (λ s. nat_eq s.uid f.uid) rows)

-- UIDs that rise, and each row beside its own
pub record AreGiven (fresh : List Fresh) : Type 0 where
  pub rising : IsStrictlyIncreasing (map (λ f. f.uid) fresh)
  pub own : All (λ f. IfSome f.row (λ s. s.uid ≡ f.uid)) fresh

-- each row that is given was shown, or its UID is this one or above
abbrev pub AreKnown : List Shown → ℕ → List Fresh → Type 0
AreKnown rows from fresh = All (λ f. IsSome f.row → (shows_uid (record { rows = rows; next_uid = from }) f.uid ≡ true) ⊎ (from ≤ f.uid)) fresh
