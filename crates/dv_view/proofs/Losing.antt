-- The numbers of the rows that have left, from the changes alone.
use Rattle.std.proofs.Common.{◌≡◌, ◌⊎◌, inl, inr, ℕ, suc, ◌+◌, ◌-◌, ◌<◌, ◌≤◌, Bool, true, false, cond, not, ◌&&◌, ◌||◌, List, [], ◌∷◌, ◌++◌, length, get_or, ltb, take, Some, None, Option, refl, sym, ◌∙◌, ap, arith, append_assoc, append-nil}
use Rattle.std.specs.Prelude.{map, filter, is_some, nat_eq, option_map, option_to_list, position, reverse}
use Rattle.std.specs.List.{AllByRecursion, list_any, position_or_len}
use Rattle.std.proofs.lemmas.Bool.{cases_lt, le-ltb, lt-ltb, or_parts, eqb-true, eq-eqb, or_right}
use Rattle.std.proofs.lemmas.Bool.Decides.{nat_tests}
use Rattle.std.proofs.lemmas.List.{map-append, reverse-append, take_more}
use Rattle.dv_model.specs.declared.types.Fresh.{Fresh}
use Rattle.dv_model.specs.declared.types.Reply.{Reply}
use Rattle.dv_model.specs.declared.types.Reply.TheVariants as reply
use Rattle.dv_model.specs.declared.types.Shown.{Shown}
use Rattle.dv_model.specs.declared.types.Step.TheVariants.{Held}
use Rattle.dv_model.specs.Fresh.{patched}
use Rattle.dv_model.specs.Views.{numbers}
use Rattle.dv_model.proofs.Clients.{Above, IsOne, each_is_one, each_weaker, false_is_not_true, not_same_back, shows}
use Rattle.dv_view.specs.Following.{has_left, left_number, rows_after, told_of}
use Rattle.dv_view.specs.Tells.{removals_of}
use Rattle.dv_view.proofs.Finding.{any_by_place, any_is_found}
use Rattle.dv_view.proofs.Followed.{has_none, left_is}
use Rattle.dv_view.proofs.Patching.{Rises, at_uid, change_of, now, patched_at}
use Rattle.dv_view.proofs.Placing.{left_none, rises_some}

-- ---- each row of a list is shown

one_shown : (rows : List Shown) (s : Shown) → IsOne s rows → shows rows s.uid ≡ true
one_shown [] s one = absurd one
one_shown (x ∷ rows) s (inl e) = ap (λ b. b || shows rows s.uid) (eq-eqb x.uid s.uid (ap (λ (t : Shown). t.uid) (sym e)))
one_shown (x ∷ rows) s (inr one) = ap (λ b. nat_eq x.uid s.uid || b) (one_shown rows s one) ∙ or_right (nat_eq x.uid s.uid) true refl

pub all_shown : (rows : List Shown) → AllByRecursion (λ s. shows rows s.uid ≡ true) rows
all_shown rows = each_weaker (λ s. IsOne s rows) (λ s. shows rows s.uid ≡ true) (one_shown rows) rows (each_is_one rows rows (λ s one. one))

-- ---- which rows left

numbers_same : (p q : Shown → Bool) (k : ℕ) (rows : List Shown) → AllByRecursion (λ s. p s ≡ q s) rows → numbers p k rows ≡ numbers q k rows
numbers_same p q k [] each = refl
numbers_same p q k (s ∷ rows) each =
    ap (λ b. cond b ((k, s) ∷ numbers p (k + 1) rows) (numbers p (k + 1) rows)) each.0
    ∙ ap (λ rest. cond (q s) ((k, s) ∷ rest) rest) (numbers_same p q (k + 1) rows each.1)

module _ (rows : List Shown) (fresh : List Fresh) (above : Above 0 rows) (rises : Rises 0 fresh) where
  gone_is : (s : Shown) → shows rows s.uid ≡ true → not (shows (patched rows fresh) s.uid) ≡ has_left fresh s.uid
  gone_is s here =
      ap not (any_is_found (λ (t : Shown). nat_eq t.uid s.uid) (patched rows fresh) ∙ ap is_some (patched_at 0 0 s.uid rows fresh above (omega arith) rises))
      ∙ by_change (change_of s.uid fresh) (at_uid s.uid rows) refl
      ∙ sym (left_is 0 s.uid fresh rises)
    where
      by_change : (o : Option Fresh) (r : Option Shown) → at_uid s.uid rows ≡ r → not (is_some (now o r)) ≡ has_none o
      by_change (Some f) r e = refl
      by_change None (Some t) e = refl
      by_change None None e = false_is_not_true (sym (any_is_found (λ (t : Shown). nat_eq t.uid s.uid) rows ∙ ap is_some e) ∙ here)

  gone_numbers : numbers (λ s. not (shows (patched rows fresh) s.uid)) 1 rows ≡ numbers (λ s. has_left fresh s.uid) 1 rows
  gone_numbers = numbers_same (λ s. not (shows (patched rows fresh) s.uid)) (λ s. has_left fresh s.uid) 1 rows
      (each_weaker (λ s. shows rows s.uid ≡ true) (λ s. not (shows (patched rows fresh) s.uid) ≡ has_left fresh s.uid) gone_is rows (all_shown rows))

-- ---- places

abbrev place : ℕ → List Shown → Option ℕ
place u rows = position (λ s. nat_eq s.uid u) rows

place_head : (u : ℕ) (s : Shown) (rows : List Shown) → nat_eq s.uid u ≡ true → place u (s ∷ rows) ≡ Some 0
place_head u s rows e = rw e (ap (λ c. cond c (Some 0) None) (lt-ltb 0 (suc (length rows)) (omega arith)))

place_tail : (u : ℕ) (s : Shown) (rows : List Shown) → nat_eq s.uid u ≡ false → place u (s ∷ rows) ≡ option_map suc (place u rows)
place_tail u s rows e = rw e (by_order (position_or_len (λ (t : Shown). nat_eq t.uid u) rows) (length rows) (cases_lt (position_or_len (λ (t : Shown). nat_eq t.uid u) rows) (length rows)))
  where
    by_order : (n k : ℕ) → (n < k) ⊎ (k ≤ n) → cond (ltb (1 + n) (suc k)) (Some (1 + n)) None ≡ option_map suc (cond (ltb n k) (Some n) None)
    by_order n k (inl less) =
        let next : 1 + n ≡ suc n = omega arith in
        ap (λ c. cond c (Some (1 + n)) None) (lt-ltb (1 + n) (suc k) (omega arith)) ∙ ap (λ i. Some i) next ∙ sym (ap (λ c. option_map suc (cond c (Some n) None)) (lt-ltb n k less))
    by_order n k (inr le) = ap (λ c. cond c (Some (1 + n)) None) (le-ltb (1 + n) (suc k) (omega arith)) ∙ sym (ap (λ c. option_map suc (cond c (Some n) None)) (le-ltb n k le))

place_none : (n u : ℕ) (rows : List Shown) → Above n rows → u < n → place u rows ≡ None
place_none n u [] above less = refl
place_none n u (s ∷ rows) above less =
    place_tail u s rows (not_same_back s.uid u (omega (arith, above.0, less)))
    ∙ ap (option_map suc) (place_none (s.uid + 1) u rows above.1 (omega (arith, above.0, less)))

-- the number, from k on, of the row that has left
abbrev left_from_by : ℕ → List Shown → ℕ → Option Shown → List ℕ
left_from_by k rows u (Some s) = []
left_from_by k rows u None = option_to_list (option_map (λ i. k + i) (place u rows))

abbrev lost_from : ℕ → List Shown → List Fresh → List ℕ
lost_from k rows [] = []
lost_from k rows (f ∷ fresh) = left_from_by k rows f.uid f.row ++ lost_from k rows fresh

lost_none : (k : ℕ) (fresh : List Fresh) → lost_from k [] fresh ≡ []
lost_none k [] = refl
lost_none k (f ∷ fresh) = by_row f.row (lost_none k fresh)
  where
    by_row : (row : Option Shown) → lost_from k [] fresh ≡ [] → left_from_by k [] f.uid row ++ lost_from k [] fresh ≡ []
    by_row (Some s) rest = rest
    by_row None rest = rest

next_from : (k u : ℕ) (rows : List Shown) → option_to_list (option_map (λ i. k + i) (option_map suc (place u rows))) ≡ option_to_list (option_map (λ i. k + 1 + i) (place u rows))
next_from k u rows = by_place (place u rows)
  where
    by_place : (o : Option ℕ) → option_to_list (option_map (λ i. k + i) (option_map suc o)) ≡ option_to_list (option_map (λ i. k + 1 + i) o)
    by_place (Some i) = let same : k + suc i ≡ k + 1 + i = omega arith in ap (λ n. n ∷ []) same
    by_place None = refl

-- behind the first row the numbers are one higher
lost_more : (k n m : ℕ) (s : Shown) (rows : List Shown) (fresh : List Fresh) → Above (s.uid + 1) rows → Rises m fresh
    → lost_from k (s ∷ rows) fresh ≡ cond (has_left fresh s.uid) (k ∷ []) [] ++ lost_from (k + 1) rows fresh
lost_more k n m s rows [] above rises = refl
lost_more k n m s rows (f ∷ fresh) above rises =
    by_row f.row (nat_eq f.uid s.uid) refl (cases_lt f.uid s.uid) (lost_more k n (f.uid + 1) s rows fresh above rises.2)
  where
    swap : (a b : ℕ) (c : Bool) → nat_eq a b ≡ c → nat_eq b a ≡ c
    swap a b c e = grind (arith, nat_tests, e)

    -- the change is of another row
    by_other : (row : Option Shown) → nat_eq f.uid s.uid ≡ false → (f.uid < s.uid) ⊎ (s.uid ≤ f.uid) → (b : Bool) → (s.uid ≤ f.uid → b ≡ false)
        → left_from_by k (s ∷ rows) f.uid row ++ (cond b (k ∷ []) [] ++ lost_from (k + 1) rows fresh) ≡ cond b (k ∷ []) [] ++ (left_from_by (k + 1) rows f.uid row ++ lost_from (k + 1) rows fresh)
    by_other (Some t) e o b none = refl
    by_other None e (inl less) b none =
        let behind = place_none (s.uid + 1) f.uid rows above (omega arith) in
        let here = place_tail f.uid s rows (swap f.uid s.uid false e) ∙ ap (option_map suc) behind in
        rw (here, behind) refl
    by_other None e (inr le) b none =
        rw (none le) (ap (λ ns. ns ++ lost_from (k + 1) rows fresh) (ap (λ o. option_to_list (option_map (λ i. k + i) o)) (place_tail f.uid s rows (swap f.uid s.uid false e)) ∙ next_from k f.uid rows))

    -- it is of this row
    by_same : (row : Option Shown) → nat_eq f.uid s.uid ≡ true → (b : Bool) → b ≡ false
        → left_from_by k (s ∷ rows) f.uid row ++ (cond b (k ∷ []) [] ++ lost_from (k + 1) rows fresh) ≡ cond (not (is_some row) || b) (k ∷ []) [] ++ (left_from_by (k + 1) rows f.uid row ++ lost_from (k + 1) rows fresh)
    by_same (Some t) e b none = refl
    by_same None e b none =
        let same = eqb-true f.uid s.uid e in
        let behind = place_none (s.uid + 1) f.uid rows above (omega (arith, same)) in
        let here = place_head f.uid s rows (swap f.uid s.uid true e) in
        let number : k + 0 ≡ k = omega arith in
        rw (none, here, behind, number) refl

    by_row : (row : Option Shown) (c : Bool) → nat_eq f.uid s.uid ≡ c → (f.uid < s.uid) ⊎ (s.uid ≤ f.uid)
        → lost_from k (s ∷ rows) fresh ≡ cond (has_left fresh s.uid) (k ∷ []) [] ++ lost_from (k + 1) rows fresh
        → left_from_by k (s ∷ rows) f.uid row ++ lost_from k (s ∷ rows) fresh ≡ cond ((c && not (is_some row)) || has_left fresh s.uid) (k ∷ []) [] ++ (left_from_by (k + 1) rows f.uid row ++ lost_from (k + 1) rows fresh)
    by_row row true e o rest =
        let same = eqb-true f.uid s.uid e in
        ap (λ ns. left_from_by k (s ∷ rows) f.uid row ++ ns) rest ∙ by_same row e (has_left fresh s.uid) (left_none (f.uid + 1) s.uid fresh rises.2 (omega (arith, same)))
    by_row row false e o rest =
        ap (λ ns. left_from_by k (s ∷ rows) f.uid row ++ ns) rest ∙ by_other row e o (has_left fresh s.uid) (λ le. left_none (f.uid + 1) s.uid fresh rises.2 (omega arith))

lost_numbers : (k n m : ℕ) (rows : List Shown) (fresh : List Fresh) → Above n rows → Rises m fresh → map (λ row. row.0) (numbers (λ s. has_left fresh s.uid) k rows) ≡ lost_from k rows fresh
lost_numbers k n m [] fresh above rises = sym (lost_none k fresh)
lost_numbers k n m (s ∷ rows) fresh above rises =
    by_test (has_left fresh s.uid)
    ∙ ap (λ ns. cond (has_left fresh s.uid) (k ∷ []) [] ++ ns) (lost_numbers (k + 1) (s.uid + 1) m rows fresh above.1 rises)
    ∙ sym (lost_more k n m s rows fresh above.1 rises)
  where
    by_test : (b : Bool) → map (λ row. row.0) (cond b ((k, s) ∷ numbers (λ s. has_left fresh s.uid) (k + 1) rows) (numbers (λ s. has_left fresh s.uid) (k + 1) rows)) ≡ cond b (k ∷ []) [] ++ map (λ row. row.0) (numbers (λ s. has_left fresh s.uid) (k + 1) rows)
    by_test true = refl
    by_test false = refl

-- ---- the numbers of the changes, one after another

abbrev pub lost : List Shown → List Fresh → List ℕ
lost rows [] = []
lost rows (f ∷ fresh) = option_to_list (left_number rows f) ++ lost rows fresh

lost_is : (rows : List Shown) (fresh : List Fresh) → lost_from 1 rows fresh ≡ lost rows fresh
lost_is rows [] = refl
lost_is rows (f ∷ fresh) = ap (λ ns. left_from_by 1 rows f.uid f.row ++ ns) (lost_is rows fresh) ∙ ap (λ ns. ns ++ lost rows fresh) (by_row f.row (place f.uid rows))
  where
    by_row : (row : Option Shown) (o : Option ℕ) → elim row [ Some s ↦ [] | None ↦ option_to_list (option_map (λ i. 1 + i) o) ] ≡ option_to_list (elim row [ Some s ↦ None | None ↦ option_map suc o ])
    by_row (Some s) o = refl
    by_row None (Some i) = let next : 1 + i ≡ suc i = omega arith in ap (λ n. n ∷ []) next
    by_row None None = refl

abbrev pub expunges : List ℕ → List Reply
expunges ns = map (λ n. reply.Expunge n) (reverse ns)

map_first : (rows : List (ℕ × Shown)) → map (λ row. reply.Expunge row.0) (reverse rows) ≡ expunges (map (λ row. row.0) rows)
map_first [] = refl
map_first (row ∷ rows) =
    ap (map (λ r. reply.Expunge r.0)) (reverse-append (row ∷ []) rows) ∙ map-append (λ r. reply.Expunge r.0) (reverse rows) (row ∷ [])
    ∙ ap (λ rs. rs ++ reply.Expunge row.0 ∷ []) (map_first rows)
    ∙ sym (ap (map (λ n. reply.Expunge n)) (reverse-append (row.0 ∷ []) (map (λ r. r.0) rows)) ∙ map-append (λ n. reply.Expunge n) (reverse (map (λ r. r.0) rows)) (row.0 ∷ []))

pub lost_said : (rows : List Shown) (fresh : List Fresh) → Above 0 rows → Rises 0 fresh → removals_of (patched rows fresh) rows ≡ expunges (lost rows fresh)
lost_said rows fresh above rises =
    ap (λ ns. map (λ row. reply.Expunge row.0) (reverse ns)) (gone_numbers rows fresh above rises)
    ∙ map_first (numbers (λ s. has_left fresh s.uid) 1 rows)
    ∙ ap expunges (lost_numbers 1 0 0 rows fresh above rises ∙ lost_is rows fresh)

-- no row leaves by a Held step
some_lost : (rows : List Shown) (fresh : List Fresh) → lost rows (filter (λ f. is_some f.row) fresh) ≡ []
some_lost rows [] = refl
some_lost rows (f ∷ fresh) = by_row f.row refl (some_lost rows fresh)
  where
    by_row : (row : Option Shown) → f.row ≡ row → lost rows (filter (λ g. is_some g.row) fresh) ≡ [] → lost rows (cond (is_some row) (f ∷ filter (λ g. is_some g.row) fresh) (filter (λ g. is_some g.row) fresh)) ≡ []
    by_row (Some s) is rest = rw is rest
    by_row None is rest = rest

pub held_said : (rows : List Shown) (fresh : List Fresh) → Above 0 rows → Rises 0 fresh → removals_of (rows_after Held rows fresh) rows ≡ []
held_said rows fresh above rises = lost_said rows (told_of Held fresh) above (rises_some 0 fresh rises) ∙ ap expunges (some_lost rows fresh)

lost_append : (rows : List Shown) (xs ys : List Fresh) → lost rows (xs ++ ys) ≡ lost rows xs ++ lost rows ys
lost_append rows [] ys = refl
lost_append rows (f ∷ xs) ys = ap (λ ns. option_to_list (left_number rows f) ++ ns) (lost_append rows xs ys) ∙ sym (append_assoc (option_to_list (left_number rows f)) (lost rows xs) (lost rows ys))

-- the changes before the last one
pub lost_last : (rows : List Shown) (fresh : List Fresh) (at : ℕ) (f : Fresh) (o : Option ℕ) → 0 < at → at ≤ length fresh → get_or fresh (at - 1) f ≡ f → left_number rows f ≡ o
    → expunges (lost rows (take at fresh)) ≡ map (λ n. reply.Expunge n) (option_to_list o) ++ expunges (lost rows (take (at - 1) fresh))
lost_last rows fresh at f o some inside is number =
    let same : at - 1 + 1 ≡ at = omega arith in
    ap (λ n. expunges (lost rows (take n fresh))) (sym same)
    ∙ ap (λ fs. expunges (lost rows fs)) (take_more fresh (at - 1) f (omega arith) ∙ ap (λ g. take (at - 1) fresh ++ g ∷ []) is)
    ∙ ap expunges (lost_append rows (take (at - 1) fresh) (f ∷ []) ∙ ap (λ ns. lost rows (take (at - 1) fresh) ++ ns) (append-nil (option_to_list (left_number rows f)) ∙ ap option_to_list number))
    ∙ by_number o
  where
    by_number : (o : Option ℕ) → expunges (lost rows (take (at - 1) fresh) ++ option_to_list o) ≡ map (λ n. reply.Expunge n) (option_to_list o) ++ expunges (lost rows (take (at - 1) fresh))
    by_number (Some n) = ap (map (λ n. reply.Expunge n)) (reverse-append (lost rows (take (at - 1) fresh)) (n ∷ []))
    by_number None = ap expunges (append-nil (lost rows (take (at - 1) fresh)))

-- ---- where no row of the view has left

pub none_left : (rows : List Shown) (u : ℕ) → shows rows u ≡ true → (fresh : List Fresh) → list_any (λ f. is_some (left_number rows f)) fresh ≡ false → has_left fresh u ≡ false
none_left rows u here [] none = refl
none_left rows u here (f ∷ fresh) none =
    let parts = or_parts (is_some (left_number rows f)) (list_any (λ (g : Fresh). is_some (left_number rows g)) fresh) none in
    by_row f.row refl (nat_eq f.uid u) refl parts.0 (none_left rows u here fresh parts.1)
  where
    some_map : (o : Option ℕ) → is_some (option_map suc o) ≡ is_some o
    some_map (Some i) = refl
    some_map None = refl

    by_row : (row : Option Shown) → f.row ≡ row → (c : Bool) → nat_eq f.uid u ≡ c → is_some (left_number rows f) ≡ false → has_left fresh u ≡ false → ((c && not (is_some row)) || has_left fresh u) ≡ false
    by_row row is false e none rest = rest
    by_row (Some s) is true e none rest = rest
    by_row None is true e none rest =
        let number : left_number rows f ≡ option_map suc (place f.uid rows) = rw is refl in
        let same = eqb-true f.uid u e in
        false_is_not_true (sym none ∙ ap is_some number ∙ some_map (place f.uid rows) ∙ sym (any_by_place (λ (s : Shown). nat_eq s.uid f.uid) rows (place f.uid rows) refl) ∙ ap (shows rows) same ∙ here)

pub all_stay : (rows : List Shown) (fresh : List Fresh) → list_any (λ f. is_some (left_number rows f)) fresh ≡ false → filter (λ s. not (has_left fresh s.uid)) rows ≡ rows
all_stay rows fresh none = by_rows rows (all_shown rows)
  where
    by_rows : (part : List Shown) → AllByRecursion (λ s. shows rows s.uid ≡ true) part → filter (λ s. not (has_left fresh s.uid)) part ≡ part
    by_rows [] each = refl
    by_rows (s ∷ part) each =
        let stays : has_left fresh s.uid ≡ false = none_left rows s.uid each.0 fresh none in
        rw stays (ap (λ rs. s ∷ rs) (by_rows part each.1))
