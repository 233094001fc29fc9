-- What is told of one change after another.
use Rattle.std.proofs.Common.{◌≡◌, inl, inr, ℕ, zero, suc, ◌+◌, ◌-◌, ◌<◌, ◌≤◌, Bool, true, false, cond, not, ◌&&◌, ◌||◌, List, [], ◌∷◌, ◌++◌, length, get_or, map, take, drop, refl, sym, ◌∙◌, ap, subst, arith, append-nil, length-append, length-drop}
use Rattle.std.proofs.lemmas.Bool.{eq-eqb, or_right}
use Rattle.std.specs.Prelude.{option_to_list}
use Rattle.std.specs.List.{AllByRecursion, list_any}
use Rattle.std.proofs.lemmas.List.{drop_more, length-take}
use Rattle.std.proofs.lemmas.Slice.Eq.{bytes_eq-Decides}
use Rattle.dv_model.specs.declared.types.Fresh.{Fresh}
use Rattle.dv_model.specs.declared.types.Reply.{Reply}
use Rattle.dv_model.specs.declared.types.Reply.TheVariants as reply
use Rattle.dv_model.specs.declared.types.Shown.{Shown}
use Rattle.dv_model.specs.declared.types.Step.{Step}
use Rattle.dv_model.specs.declared.types.Step.TheVariants.{Held, Full}
use Rattle.dv_model.specs.Fresh.{patched}
use Rattle.dv_model.specs.Views.{same_row}
use Rattle.dv_model.proofs.Clients.{IsOne, each_is_one, each_weaker, shows}
use Rattle.dv_view.specs.declared.telling.Telling.{Telling}
use Rattle.dv_view.specs.declared.telling.Told.{Told}
use Rattle.dv_view.specs.Following.{AreGiven, rows_after, told_of}
use Rattle.dv_view.specs.Tells.{shows_all, told_rows}
use Rattle.dv_view.specs.Told.{GoesOn, IsPlace, IsToldTo, row_of, tells, without}
use Rattle.dv_view.proofs.Losing.{all_shown}
use Rattle.dv_view.proofs.Patching.{Rises}
use Rattle.dv_view.proofs.Placing.{patched_step, rises_drop, rises_of, rises_told}

each_take : {X : Type 0} (P : X → Type 0) (k : ℕ) (xs : List X) → AllByRecursion P xs → AllByRecursion P (take k xs)
each_take P zero xs each = tt
each_take P (suc k) [] each = tt
each_take P (suc k) (x ∷ xs) each = (each.0, each_take P k xs each.1)

each_drop : {X : Type 0} (P : X → Type 0) (k : ℕ) (xs : List X) → AllByRecursion P xs → AllByRecursion P (drop k xs)
each_drop P zero xs each = each
each_drop P (suc k) [] each = tt
each_drop P (suc k) (x ∷ xs) each = each_drop P k xs each.1

-- ---- rows that are as they were

row_same : (s : Shown) → same_row s s ≡ true
row_same s =
    let uid = eq-eqb s.uid s.uid refl in
    let flags = eq-eqb s.flags s.flags refl in
    let keywords = (bytes_eq-Decides s.keywords s.keywords).1 refl in
    rw (uid, flags, keywords) refl

one_same : (rows : List Shown) (s : Shown) → IsOne s rows → list_any (same_row s) rows ≡ true
one_same [] s one = absurd one
one_same (x ∷ rows) s (inl e) = ap (λ b. b || list_any (same_row s) rows) (ap (same_row s) (sym e) ∙ row_same s)
one_same (x ∷ rows) s (inr one) = ap (λ b. same_row s x || b) (one_same rows s one) ∙ or_right (same_row s x) true refl

all_same : (rows : List Shown) → AllByRecursion (λ s. list_any (same_row s) rows ≡ true) rows
all_same rows = each_weaker (λ s. IsOne s rows) (λ s. list_any (same_row s) rows ≡ true) (one_same rows) rows (each_is_one rows rows (λ s one. one))

module _ (rows : List Shown) where
  changes_behind : (n : ℕ) (front rest : List Shown) → AllByRecursion (λ s. list_any (same_row s) rows ≡ true) front → told_rows rows n (front ++ rest) ≡ told_rows rows (n + length front) rest
  changes_behind n [] rest each = let same : n ≡ n + 0 = omega arith in ap (λ k. told_rows rows k rest) same
  changes_behind n (s ∷ front) rest each =
      let same : n + 1 + length front ≡ n + suc (length front) = omega arith in
      rw each.0 (changes_behind (n + 1) front rest each.1 ∙ ap (λ k. told_rows rows k rest) same)

  shows_behind : (front rest : List Shown) → AllByRecursion (λ s. shows rows s.uid ≡ true) front → shows_all rows (front ++ rest) ≡ shows_all rows rest
  shows_behind [] rest each = refl
  shows_behind (s ∷ front) rest each = rw each.0 (shows_behind front rest each.1)

  module _ (new : List Shown) where
    pub passed : (from k : ℕ) (rest : List Shown) (told : Telling) → k ≤ length (drop from rows) → GoesOn rows new (take k (drop from rows) ++ rest) told
        → GoesOn rows new rest (record told { from = told.from + k; number = told.number + k })
    passed from k rest told le goes =
        let front = take k (drop from rows) in
        let long : length (take k (drop from rows)) ≡ k = length-take k (drop from rows) ∙ omega arith in
        record {
          changes = ap (λ n. map row_of told.told.items ++ told_rows rows (told.number + n) rest) (sym long)
              ∙ ap (λ (cs : List (ℕ × Shown)). map row_of told.told.items ++ cs) (sym (changes_behind told.number front rest (each_take (λ (s : Shown). list_any (same_row s) rows ≡ true) k (drop from rows) (each_drop (λ (s : Shown). list_any (same_row s) rows ≡ true) from rows (all_same rows)))))
              ∙ goes.changes;
          growth = ap (λ b. not told.grows && b) (sym (shows_behind front rest (each_take (λ (s : Shown). shows rows s.uid ≡ true) k (drop from rows) (each_drop (λ (s : Shown). shows rows s.uid ≡ true) from rows (all_shown rows))))) ∙ goes.growth;
          count = omega (arith, goes.count, long, length-append front rest);
        }

-- ---- one change

told_one : (step : Step) (f : Fresh) (fresh : List Fresh) → tells step f ≡ true → told_of step (f ∷ fresh) ≡ f ∷ told_of step fresh
told_one Held f fresh e = rw e refl
told_one Full f fresh e = refl

untold_one : (step : Step) (f : Fresh) (fresh : List Fresh) → tells step f ≡ false → told_of step (f ∷ fresh) ≡ told_of step fresh
untold_one Held f fresh e = rw e refl
untold_one Full f fresh e = absurd cc

told_none : (step : Step) → told_of step [] ≡ []
told_none Held = refl
told_none Full = refl

module _ (step : Step) (fresh : List Fresh) (given : AreGiven fresh) (at : ℕ) (f : Fresh) (less : at < length fresh) (is : f ≡ get_or fresh at f) where
  next_is : drop at fresh ≡ f ∷ drop (at + 1) fresh
  next_is = drop_more fresh at f less ∙ ap (λ g. g ∷ drop (at + 1) fresh) (sym is)

  pub next_untold : (rows : List Shown) → tells step f ≡ false → rows_after step rows (drop at fresh) ≡ rows_after step rows (drop (at + 1) fresh)
  next_untold rows e = ap (λ fs. patched rows (told_of step fs)) next_is ∙ ap (patched rows) (untold_one step f (drop (at + 1) fresh) e)

  pub next_told : (rows : List Shown) (k : ℕ) → tells step f ≡ true → IsPlace rows f.uid k
      → rows_after step rows (drop at fresh) ≡ take k rows ++ (option_to_list f.row ++ patched (without f.uid (drop k rows)) (told_of step (drop (at + 1) fresh)))
  next_told rows k e place =
      let rises : Rises 0 (f ∷ drop (at + 1) fresh) = subst (Rises 0) next_is (rises_drop 0 at fresh (rises_of fresh given)) in
      ap (λ fs. patched rows (told_of step fs)) next_is
      ∙ ap (patched rows) (told_one step f (drop (at + 1) fresh) e)
      ∙ patched_step rows f (told_of step (drop (at + 1) fresh)) 0 k (rises.0, rises.1, rises_told step (f.uid + 1) (drop (at + 1) fresh) rises.2) place

pub goes_left : (old new rest : List Shown) (told after : Telling) → after ≡ record told { from = after.from } → GoesOn old new rest told → GoesOn old new rest after
goes_left old new rest told after is goes =
    subst (GoesOn old new rest) (sym is) (record { changes = goes.changes; growth = goes.growth; count = goes.count })

-- all changes were told
pub record IsFinished (rows new : List Shown) (told : Telling) : Type 0 where
  pub changes : map row_of told.told.items ≡ told_rows rows 1 new
  pub growth : not told.grows ≡ shows_all rows new
  pub count : told.number + (length rows - told.from) ≡ 1 + length new

drop_end : {X : Type 0} (xs : List X) → drop (length xs) xs ≡ []
drop_end [] = refl
drop_end (x ∷ xs) = drop_end xs

and_true : (b : Bool) → (b && true) ≡ b
and_true true = refl
and_true false = refl

pub finished : (step : Step) (rows : List Shown) (fresh : List Fresh) (told : Telling) → IsToldTo step rows fresh (length fresh) told
    → IsFinished rows (rows_after step rows fresh) told
finished step rows fresh told is =
    let rest : rows_after step (drop told.from rows) (drop (length fresh) fresh) ≡ drop told.from rows =
    ap (λ fs. patched (drop told.from rows) (told_of step fs)) (drop_end fresh) ∙ ap (patched (drop told.from rows)) (told_none step) in
    let goes = subst (λ rs. GoesOn rows (rows_after step rows fresh) rs told) rest is.rest in
    let same : drop told.from rows ++ [] ≡ drop told.from rows = append-nil (drop told.from rows) in
    let long : length (drop told.from rows) ≡ length rows - told.from = length-drop told.from rows in
    record {
      changes = sym (append-nil (map row_of told.told.items))
          ∙ ap (λ (cs : List (ℕ × Shown)). map row_of told.told.items ++ cs) (sym (ap (told_rows rows told.number) (sym same) ∙ changes_behind rows told.number (drop told.from rows) [] (each_drop (λ (s : Shown). list_any (same_row s) rows ≡ true) told.from rows (all_same rows))))
          ∙ goes.changes;
      growth = sym (and_true (not told.grows)) ∙ ap (λ b. not told.grows && b) (sym (ap (shows_all rows) (sym same) ∙ shows_behind rows (drop told.from rows) [] (each_drop (λ (s : Shown). shows rows s.uid ≡ true) told.from rows (all_shown rows)))) ∙ goes.growth;
      count = omega (arith, goes.count, long);
    }

drop_empty : {X : Type 0} (j : ℕ) → ◌≡◌ {A = List X} (drop j []) []
drop_empty zero = refl
drop_empty (suc j) = refl

drop_plus : {X : Type 0} (n k : ℕ) (xs : List X) → drop k (drop n xs) ≡ drop (n + k) xs
drop_plus zero k xs = let same : k ≡ 0 + k = omega arith in ap (λ j. drop j xs) same
drop_plus {X = X} (suc n) k xs = let same : suc (n + k) ≡ suc n + k = omega arith in by_rows xs (drop_plus n k) ∙ ap (λ j. drop j xs) same
  where
    by_rows : (ys : List X) → ((zs : List X) → drop k (drop n zs) ≡ drop (n + k) zs) → drop k (drop (suc n) ys) ≡ drop (suc (n + k)) ys
    by_rows [] rest = drop_empty k
    by_rows (y ∷ ys) rest = rest ys

-- the change was told, and its row is left behind
pub one_told : (step : Step) (rows : List Shown) (fresh : List Fresh) (at : ℕ) (f : Fresh) (from k : ℕ) (told after : Telling)
    → told.from ≡ from + k
    → GoesOn rows (rows_after step rows fresh) (patched (without f.uid (drop k (drop from rows))) (told_of step (drop (at + 1) fresh))) told
    → drop after.from rows ≡ without f.uid (drop told.from rows)
    → after ≡ record told { from = after.from }
    → after.from ≤ length rows
    → IsToldTo step rows fresh (at + 1) after
one_told step rows fresh at f from k told after place goes behind is inside =
    let same : without f.uid (drop k (drop from rows)) ≡ drop after.from rows =
    ap (without f.uid) (drop_plus from k rows ∙ ap (λ n. drop n rows) (sym place)) ∙ sym behind in
    record {
      inside = inside;
      rest = goes_left rows (rows_after step rows fresh) (rows_after step (drop after.from rows) (drop (at + 1) fresh)) told after is
          (subst (λ rs. GoesOn rows (rows_after step rows fresh) (patched rs (told_of step (drop (at + 1) fresh))) told) same goes);
    }

-- the FETCHes of the rows of which was told
pub fetches : (f : ℕ × Shown → Reply) (told : List Told) → map (λ t. f (row_of t)) told ≡ map f (map row_of told)
fetches f [] = refl
fetches f (t ∷ told) = ap (λ rs. f (row_of t) ∷ rs) (fetches f told)

-- ---- how many rows there are

module _ (rows new : List Shown) (told : Telling) (is : IsFinished rows new told) (removed : List Reply) where
  pub grown : told.grows ≡ true → removed ++ reply.Exists (told.number + (length rows - told.from) - 1) ∷ [] ≡ removed ++ cond (shows_all rows new) [] (reply.Exists (length new) ∷ [])
  grown e =
      let count : told.number + (length rows - told.from) - 1 ≡ length new = omega (arith, is.count) in
      let some : shows_all rows new ≡ false = sym is.growth ∙ ap not e in
      ap (λ n. removed ++ reply.Exists n ∷ []) count ∙ ap (λ b. removed ++ cond b [] (reply.Exists (length new) ∷ [])) (sym some)

  pub not_grown : told.grows ≡ false → removed ≡ removed ++ cond (shows_all rows new) [] (reply.Exists (length new) ∷ [])
  not_grown e =
      let none : shows_all rows new ≡ true = sym is.growth ∙ ap not e in
      sym (append-nil removed) ∙ ap (λ b. removed ++ cond b [] (reply.Exists (length new) ∷ [])) (sym none)
