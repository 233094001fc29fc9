-- Ranges that have the same UIDs, and changes that do the same.
use Rattle.std.proofs.Common.{◌≡◌, ◌⊎◌, inl, inr, ℕ, ◌-◌, ◌^◌, ◌<◌, Bool, true, List, [], ◌∷◌, map, refl, sym, ◌∙◌, ap, arith}
use Rattle.std.specs.Prelude.{All, ◌||◌, fold}
use Rattle.std.specs.List.{list_any}
use Rattle.std.proofs.lemmas.List.Elements.{All-tail}
use Rattle.dv_model.specs.declared.types.Change.{Change}
use Rattle.dv_model.specs.declared.types.Pair.{Pair}
use Rattle.dv_model.specs.declared.types.Row.{Row}
use Rattle.dv_ranges.specs.Ranges.{flags_after, pair_of}
use Rattle.dv_rows.proofs.FlagChanges.{all_in_turn}
use Rattle.dv_rows.specs.Noted.{has}
use Rattle.dv_validity.specs.Laws.{changed_flags, restamped}

-- ---- ranges

-- by another test that agrees
pub by_other : {A H : Type 0} (a b : Bool) → a ≡ b → A ⊎ (H × (a ≡ true)) → A ⊎ (H × (b ≡ true))
by_other a b same (inl before) = inl before
by_other a b same (inr named) = inr (named.0, sym same ∙ named.1)

-- the ranges of changes
pub any_of_pairs : (uid : ℕ) (changes : List Change) → list_any (has (λ (p : Pair). p.first) (λ (p : Pair). p.last) uid) (map pair_of changes) ≡ list_any (has (λ (c : Change). c.first) (λ (c : Change). c.last) uid) changes
any_of_pairs uid [] = refl
any_of_pairs uid (c ∷ cs) = ap (λ (b : Bool). has (λ (x : Change). x.first) (λ (x : Change). x.last) uid c || b) (any_of_pairs uid cs)

-- ---- changes of flags

same_row : (joined changes : List Change) (row : Row) → flags_after row.uid row.flags joined ≡ flags_after row.uid row.flags changes → fold changed_flags row joined ≡ fold changed_flags row changes
same_row joined changes row same =
    all_in_turn row joined ∙ ap (λ (flags : ℕ). record row { flags = flags }) same ∙ sym (all_in_turn row changes)

pub same_flags : (n : ℕ) (joined changes : List Change) (rows : List Row) → All (λ row. row.uid < 2 ^ 32 - 1) rows → ((uid flags : ℕ) → uid < 2 ^ 32 → flags_after uid flags joined ≡ flags_after uid flags changes)
    → map (λ row. restamped n row (fold changed_flags row joined)) rows ≡ map (λ row. restamped n row (fold changed_flags row changes)) rows
same_flags n joined changes [] low same = refl
same_flags n joined changes (row ∷ rows) low same =
    let here : row.uid < 2 ^ 32 - 1 = low 0 row (omega arith) in
    ap (λ (after : Row). restamped n row after ∷ map (λ r. restamped n r (fold changed_flags r joined)) rows) (same_row joined changes row (same row.uid row.flags (omega arith)))
    ∙ ap (λ (rs : List Row). restamped n row (fold changed_flags row changes) ∷ rs) (same_flags n joined changes rows (All-tail (λ (r : Row). r.uid < 2 ^ 32 - 1) row rows low) same)
