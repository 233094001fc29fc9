-- One entry of a folder changes.
use Rattle.std.proofs.Common.{◌≡◌, ◌≢◌, ◌⊎◌, inl, inr, Bool, true, false, cond, refl, sym, ap}
use Rattle.dv_shelf.specs.declared.shelf.Name.{Name}
use Rattle.dv_shelf.specs.Folders.{same_name}
use Rattle.dv_shelf.proofs.FolderLemmas.{same_is, is_same}
use Rattle.dv_system.specs.Entries.{At}
use Rattle.dv_system.specs.Disks.{with_named}

pub named_here : (named : Name → At) (name : Name) (at : At) → with_named named name at name ≡ at
named_here named name at = ap (λ (b : Bool). cond b at (named name)) (is_same name name refl)

pub named_else : (named : Name → At) (name : Name) (at : At) (n : Name) → n ≢ name → with_named named name at n ≡ named n
named_else named name at n other = by_name (same_name name n) refl
  where
    by_name : (b : Bool) → same_name name n ≡ b → cond b at (named n) ≡ named n
    by_name true same = absurd (other (sym (same_is name n same)))
    by_name false away = refl

-- names that are one, or not
pub by_names : (a b : Name) → (a ≡ b) ⊎ (a ≢ b)
by_names a b = by_same (same_name a b) refl
  where
    by_same : (t : Bool) → same_name a b ≡ t → (a ≡ b) ⊎ (a ≢ b)
    by_same true same = inl (same_is a b same)
    by_same false other = inr (λ e. let yes : same_name a b ≡ true = is_same a b e in cc)
