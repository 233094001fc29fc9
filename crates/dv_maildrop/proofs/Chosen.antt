-- Rows that are chosen by their flags.
use Rattle.std.proofs.Common.{◌≡◌, ℕ, suc, ◌+◌, ◌<◌, Bool, true, false, cond, List, [], ◌∷◌, ◌++◌, ◌∙◌, length, drop, get_or, refl, ap, sym, arith, add-one, append_assoc}
use Rattle.std.specs.Prelude.{filter}
use Rattle.std.specs.List.{enumerate_from}
use Rattle.std.proofs.Math.Seq.{drop-cons}
use Rattle.dv_maildrop.specs.declared.types.Listed.{Listed}
use Rattle.dv_maildrop.specs.Counts.{chosen}
use Rattle.dv_script.specs.Extending.{Extends}

-- one row after another
pub chosen_more : (test : Bool → Bool) (n i : ℕ) (rows : List Listed) (flags : List Bool) (d : Listed) (f : Bool) → i < length rows → length flags ≡ length rows
    → chosen test n (drop i rows) (drop i flags)
    ≡ cond (test (get_or flags i f)) ((n, get_or rows i d) ∷ chosen test (n + 1) (drop (i + 1) rows) (drop (i + 1) flags)) (chosen test (n + 1) (drop (i + 1) rows) (drop (i + 1) flags))
chosen_more test n i rows flags d f less same =
    let here : i < length flags = omega arith in
    rw (drop-cons rows i d, drop-cons flags i f, add-one i) refl

-- where the flags tell which numbers are so, the rows are chosen by their numbers
pub chosen_by : (test : Bool → Bool) (p : ℕ → Bool) (n : ℕ) (rows : List Listed) (flags : List Bool) → length flags ≡ length rows
    → ((i : ℕ) → i < length rows → get_or flags i false ≡ p (n + i))
    → chosen test n rows flags ≡ filter (λ row. test (p row.0)) (enumerate_from n rows)
chosen_by test p n [] flags same each = refl
chosen_by test p n (row ∷ rows) [] same each = absurd (omega (arith, same))
chosen_by test p n (row ∷ rows) (flag ∷ flags) same each =
    let here : flag ≡ p n = each 0 (omega arith) ∙ ap p (omega arith) in
    let others = chosen_by test p (n + 1) rows flags (omega (arith, same)) (λ i less. each (suc i) (omega (arith, less)) ∙ ap p (omega arith)) in
    rw (here, others) refl

-- ---- a loop over rows and flags that adds something of each row that is chosen

module _ {A : Type 0} (F : List (ℕ × Listed) → List A) (h : ℕ × Listed → List A) (first : (x : ℕ × Listed) (xs : List (ℕ × Listed)) → F (x ∷ xs) ≡ h x ++ F xs)
    (test : Bool → Bool) (n i : ℕ) (rows : List Listed) (flags : List Bool) (d : Listed) (f : Bool) (so_far all : List A) (less : i < length rows) (same : length flags ≡ length rows) where
  -- the row is chosen
  pub added : test (get_or flags i f) ≡ true → so_far ++ F (chosen test n (drop i rows) (drop i flags)) ≡ all
      → (so_far ++ h (n, get_or rows i d)) ++ F (chosen test (n + 1) (drop (i + 1) rows) (drop (i + 1) flags)) ≡ all
  added here whole =
      let xs = chosen test (n + 1) (drop (i + 1) rows) (drop (i + 1) flags) in
      let x : ℕ × Listed = (n, get_or rows i d) in
      let is : chosen test n (drop i rows) (drop i flags) ≡ x ∷ xs = chosen_more test n i rows flags d f less same ∙ ap (λ (b : Bool). cond b (x ∷ xs) xs) here in
      append_assoc so_far (h x) (F xs) ∙ ap (λ (t : List A). so_far ++ t) (sym (first x xs) ∙ ap F (sym is)) ∙ whole

  -- the row is passed by
  pub passed : test (get_or flags i f) ≡ false → so_far ++ F (chosen test n (drop i rows) (drop i flags)) ≡ all
      → so_far ++ F (chosen test (n + 1) (drop (i + 1) rows) (drop (i + 1) flags)) ≡ all
  passed other whole =
      let xs = chosen test (n + 1) (drop (i + 1) rows) (drop (i + 1) flags) in
      let x : ℕ × Listed = (n, get_or rows i d) in
      let is : chosen test n (drop i rows) (drop i flags) ≡ xs = chosen_more test n i rows flags d f less same ∙ ap (λ (b : Bool). cond b (x ∷ xs) xs) other in
      ap (λ (ys : List (ℕ × Listed)). so_far ++ F ys) (sym is) ∙ whole

-- any row
abbrev pub some_row : Listed
some_row = record { uid = 0; size = 0 }

-- ---- a text that grows

pub extends_more : (old so_far new more : List ℕ) → Extends old so_far → new ≡ so_far ++ more → Extends old new
extends_more old so_far new more before is =
    record { more = before.more ++ more; is = is ∙ ap (λ (t : List ℕ). t ++ more) before.is ∙ append_assoc old before.more more }
