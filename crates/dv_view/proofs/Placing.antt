-- Changes by rising UID: where one stands, and what it does to the rows from its place on.
use Rattle.std.proofs.Common.{◌≡◌, ◌⊎◌, inl, inr, ℕ, zero, suc, ◌+◌, ◌-◌, ◌<◌, ◌≤◌, Bool, true, false, cond, not, ◌&&◌, ◌||◌, List, [], ◌∷◌, ◌++◌, length, get_or, ltb, take, drop, Some, None, Option, refl, sym, ◌∙◌, ap, subst, arith, append_assoc, length-drop}
use Rattle.std.specs.Prelude.{IfSome, map, filter, is_some, nat_eq, nat_lt, option_to_list}
use Rattle.std.specs.List.{AllByRecursion}
use Rattle.std.specs.List.Sorted.{IsStrictlyIncreasing, IsPartitionedBy, IsPartitionPoint}
use Rattle.std.proofs.lemmas.Bool.{cases_lt, ltb-true, ltb-false}
use Rattle.std.proofs.lemmas.Bool.Decides.{nat_tests}
use Rattle.std.proofs.lemmas.List.{append-nil, drop_more, get_or-drop}
use Rattle.std.proofs.lemmas.List.Sorted.{IsPartitionedBy-ltb}
use Rattle.dv_model.specs.declared.types.Fresh.{Fresh}
use Rattle.dv_model.specs.declared.types.Shown.{Shown}
use Rattle.dv_model.specs.declared.types.Step.{Step}
use Rattle.dv_model.specs.declared.types.Step.TheVariants.{Held, Full}
use Rattle.dv_model.specs.Fresh.{patched, with_fresh}
use Rattle.dv_model.proofs.Clients.{each_of_all, not_same, not_same_back, rising_tail}
use Rattle.dv_view.specs.Following.{AreGiven, has_left, told_of}
use Rattle.dv_view.specs.Orders.{AreRising}
use Rattle.dv_view.specs.Told.{IsPlace, without}
use Rattle.dv_view.proofs.Patching.{Rises, rises_lower}
use Rattle.dv_view.proofs.Rising.{apart}

-- ---- rising changes

rising_behind : (first : Fresh) (rest : List Fresh) → IsStrictlyIncreasing (map (λ f. f.uid) (first ∷ rest)) → AllByRecursion (λ f. IfSome f.row (λ s. s.uid ≡ f.uid)) rest → Rises (first.uid + 1) rest
rising_behind first [] up own = tt
rising_behind first (next ∷ rest) up own =
    let step = up 0 (omega arith) in (omega (arith, step), own.0, rising_behind next rest (rising_tail first.uid (map (λ (f : Fresh). f.uid) (next ∷ rest)) up) own.1)

pub rises_of : (fresh : List Fresh) → AreGiven fresh → Rises 0 fresh
rises_of fresh are = by_rows fresh are.rising (each_of_all (λ (f : Fresh). IfSome f.row (λ s. s.uid ≡ f.uid)) fresh are.own)
  where
    by_rows : (fresh : List Fresh) → IsStrictlyIncreasing (map (λ f. f.uid) fresh) → AllByRecursion (λ f. IfSome f.row (λ s. s.uid ≡ f.uid)) fresh → Rises 0 fresh
    by_rows [] up own = tt
    by_rows (f ∷ fresh) up own = (omega arith, own.0, rising_behind f fresh up own.1)

pub rises_drop : (n k : ℕ) (fresh : List Fresh) → Rises n fresh → Rises n (drop k fresh)
rises_drop n zero fresh rises = rises
rises_drop n (suc k) [] rises = tt
rises_drop n (suc k) (f ∷ fresh) rises = rises_lower n (f.uid + 1) (drop k fresh) (omega (arith, rises.0)) (rises_drop (f.uid + 1) k fresh rises.2)

pub rises_some : (n : ℕ) (fresh : List Fresh) → Rises n fresh → Rises n (filter (λ f. is_some f.row) fresh)
rises_some n [] rises = tt
rises_some n (f ∷ fresh) rises = by_row (is_some f.row) (rises_some (f.uid + 1) fresh rises.2)
  where
    by_row : (b : Bool) → Rises (f.uid + 1) (filter (λ f. is_some f.row) fresh) → Rises n (cond b (f ∷ filter (λ f. is_some f.row) fresh) (filter (λ f. is_some f.row) fresh))
    by_row true rest = (rises.0, rises.1, rest)
    by_row false rest = rises_lower n (f.uid + 1) (filter (λ f. is_some f.row) fresh) (omega (arith, rises.0)) rest

pub rises_told : (step : Step) (n : ℕ) (fresh : List Fresh) → Rises n fresh → Rises n (told_of step fresh)
rises_told Held n fresh rises = rises_some n fresh rises
rises_told Full n fresh rises = rises

-- ---- which row has left

pub left_none : (n uid : ℕ) (fresh : List Fresh) → Rises n fresh → uid < n → has_left fresh uid ≡ false
left_none n uid [] rises less = refl
left_none n uid (f ∷ fresh) rises less = rw (not_same_back f.uid uid (omega (arith, rises.0, less))) (left_none (f.uid + 1) uid fresh rises.2 (omega (arith, rises.0, less)))

-- no change before this place is of the UID
pub left_from : (fresh : List Fresh) (uid at : ℕ) → ((k : ℕ) (d : Fresh) → k < at → (get_or fresh k d).uid < uid) → has_left fresh uid ≡ has_left (drop at fresh) uid
left_from fresh uid zero low = refl
left_from [] uid (suc at) low = refl
left_from (f ∷ fresh) uid (suc at) low =
    rw (not_same f.uid uid (low 0 f (omega arith))) (left_from fresh uid at (λ k d less. low (suc k) d (omega (arith, less))))

pub left_at : (fresh : List Fresh) (uid at : ℕ) (f : Fresh) → Rises 0 fresh → ((k : ℕ) (d : Fresh) → k < at → (get_or fresh k d).uid < uid) → at < length fresh → f ≡ get_or fresh at f → uid ≤ f.uid
    → has_left fresh uid ≡ (nat_eq f.uid uid && not (is_some f.row))
left_at fresh uid at f rises low less is le =
    let rest : Rises 0 (get_or fresh at f ∷ drop (at + 1) fresh) = subst (Rises 0) (drop_more fresh at f less) (rises_drop 0 at fresh rises) in
    let uid_is : f.uid ≡ (get_or fresh at f).uid = ap (λ (g : Fresh). g.uid) is in
    left_from fresh uid at low
    ∙ ap (λ fs. has_left fs uid) (drop_more fresh at f less ∙ ap (λ g. g ∷ drop (at + 1) fresh) (sym is))
    ∙ ap (λ b. (nat_eq f.uid uid && not (is_some f.row)) || b) (left_none ((get_or fresh at f).uid + 1) uid (drop (at + 1) fresh) rest.2 (omega (arith, uid_is, le)))
    ∙ or_false (nat_eq f.uid uid && not (is_some f.row))
  where
    or_false : (b : Bool) → (b || false) ≡ b
    or_false true = refl
    or_false false = refl

-- no change is of the UID
pub left_past : (fresh : List Fresh) (uid at : ℕ) → ((k : ℕ) (d : Fresh) → k < at → (get_or fresh k d).uid < uid) → length fresh ≤ at → has_left fresh uid ≡ false
left_past [] uid at low le = refl
left_past (f ∷ fresh) uid zero low le = absurd (omega (arith, le))
left_past (f ∷ fresh) uid (suc at) low le = rw (not_same f.uid uid (low 0 f (omega arith))) (left_past fresh uid at (λ k d less. low (suc k) d (omega (arith, less))) (omega (arith, le)))

uids_rise : (fresh : List Fresh) → Rises 0 fresh → (i j : ℕ) (d : Fresh) → i ≤ j → j < length fresh → (get_or fresh i d).uid ≤ (get_or fresh j d).uid
uids_rise fresh rises zero zero d le less = omega arith
uids_rise [] rises i j d le less = absurd (omega (arith, less))
uids_rise (f ∷ fresh) rises zero (suc j) d le less = let low = past (f.uid + 1) fresh j d rises.2 (omega (arith, less)) in omega arith
  where
    past : (n : ℕ) (fresh : List Fresh) (j : ℕ) (d : Fresh) → Rises n fresh → j < length fresh → n ≤ (get_or fresh j d).uid
    past n [] j d rises less = absurd (omega (arith, less))
    past n (f ∷ fresh) zero d rises less = rises.0
    past n (f ∷ fresh) (suc j) d rises less = let low = past (f.uid + 1) fresh j d rises.2 (omega (arith, less)) in let first = rises.0 in omega arith
uids_rise (f ∷ fresh) rises (suc i) zero d le less = absurd (omega (arith, le))
uids_rise (f ∷ fresh) rises (suc i) (suc j) d le less = uids_rise fresh (rises_lower 0 (f.uid + 1) fresh (omega arith) rises.2) i j d (omega (arith, le)) (omega (arith, less))

pub changes_split : (fresh : List Fresh) (uid : ℕ) → AreGiven fresh → IsPartitionedBy (λ (f : Fresh). ltb f.uid uid) fresh
changes_split fresh uid are = IsPartitionedBy-ltb (λ (f : Fresh). f.uid) fresh uid (λ i j d le less. uids_rise fresh (rises_of fresh are) i j d le less)

-- ---- the rows from a place on

pub rest_split : (rows : List Shown) (from uid : ℕ) → AreRising rows → IsPartitionedBy (λ (s : Shown). ltb s.uid uid) (drop from rows)
rest_split rows from uid are =
    IsPartitionedBy-ltb (λ (s : Shown). s.uid) (drop from rows) uid (λ i j d le less. by_order i j d le less (cases_lt i j))
  where
    by_order : (i j : ℕ) (d : Shown) → i ≤ j → j < length (drop from rows) → (i < j) ⊎ (j ≤ i) → (get_or (drop from rows) i d).uid ≤ (get_or (drop from rows) j d).uid
    by_order i j d le less (inl up) =
        let long : length (drop from rows) ≡ length rows - from = length-drop from rows in
        let low = apart rows are (from + i) (from + j) d (omega arith) (omega (arith, less, long)) in
        let first : (get_or (drop from rows) i d).uid ≡ (get_or rows (from + i) d).uid = ap (λ (s : Shown). s.uid) (get_or-drop from rows i d) in
        let second : (get_or (drop from rows) j d).uid ≡ (get_or rows (from + j) d).uid = ap (λ (s : Shown). s.uid) (get_or-drop from rows j d) in
        omega arith
    by_order i j d le less (inr down) =
        let same : i ≡ j = omega arith in
        subst (λ k. (get_or (drop from rows) i d).uid ≤ (get_or (drop from rows) k d).uid) same (omega arith)

pub is_place : (rows : List Shown) (uid at : ℕ) → at ≤ length rows → IsPartitionPoint (λ (s : Shown). ltb s.uid uid ≡ true) (λ (s : Shown). ltb s.uid uid ≡ false) rows at → IsPlace rows uid at
is_place rows uid at le place = (le, ((λ k d from less. ltb-true (get_or rows k d).uid uid (place.0 k d from less)), (λ k d from less. ltb-false (get_or rows k d).uid uid (place.1 k d from less))))

-- ---- a change among the rows

-- the changes are of UIDs behind these rows
pub patched_behind : (n : ℕ) (front rows : List Shown) (fresh : List Fresh) → AllByRecursion (λ s. s.uid < n) front → Rises n fresh → patched (front ++ rows) fresh ≡ front ++ patched rows fresh
patched_behind n front rows [] low rises = refl
patched_behind n front rows (f ∷ fresh) low rises =
    ap (λ rs. patched rs fresh) (one front low) ∙ patched_behind n front (with_fresh rows f) fresh low (rises_lower n (f.uid + 1) fresh (omega (arith, rises.0)) rises.2)
  where
    one : (front : List Shown) → AllByRecursion (λ s. s.uid < n) front → with_fresh (front ++ rows) f ≡ front ++ with_fresh rows f
    one [] low = refl
    one (s ∷ front) low =
        let first = low.0 in
        let from = rises.0 in
        let test : nat_lt s.uid f.uid ≡ true = grind (arith, nat_tests, first, from) in
        rw test (ap (λ rs. s ∷ rs) (one front low.1))

-- the rows before the place stay as they are
with_from : (rows : List Shown) (f : Fresh) (at : ℕ) → ((k : ℕ) (d : Shown) → k < at → (get_or rows k d).uid < f.uid) → at ≤ length rows → with_fresh rows f ≡ take at rows ++ with_fresh (drop at rows) f
with_from rows f zero low le = refl
with_from [] f (suc at) low le = absurd (omega (arith, le))
with_from (s ∷ rows) f (suc at) low le =
    let less : s.uid < f.uid = low 0 s (omega arith) in
    let test : nat_lt s.uid f.uid ≡ true = grind (arith, nat_tests, less) in
    rw test (ap (λ rs. s ∷ rs) (with_from rows f at (λ k d h. low (suc k) d (omega (arith, h))) (omega (arith, le))))

with_here : (rows : List Shown) (f : Fresh) → ((d : Shown) → 0 < length rows → f.uid ≤ (get_or rows 0 d).uid) → with_fresh rows f ≡ option_to_list f.row ++ without f.uid rows
with_here [] f high = sym (append-nil (option_to_list f.row))
with_here (s ∷ rows) f high =
    let le : f.uid ≤ s.uid = high s (omega arith) in
    let test : nat_lt s.uid f.uid ≡ false = grind (arith, nat_tests, le) in
    rw test (by_test (nat_eq s.uid f.uid))
  where
    by_test : (b : Bool) → cond b (option_to_list f.row ++ rows) (option_to_list f.row ++ s ∷ rows) ≡ option_to_list f.row ++ cond b rows (s ∷ rows)
    by_test true = refl
    by_test false = refl

low_take : (rows : List Shown) (uid at : ℕ) → ((k : ℕ) (d : Shown) → k < at → (get_or rows k d).uid < uid) → at ≤ length rows → AllByRecursion (λ s. s.uid < uid) (take at rows)
low_take rows uid zero low le = tt
low_take [] uid (suc at) low le = absurd (omega (arith, le))
low_take (s ∷ rows) uid (suc at) low le = (low 0 s (omega arith), low_take rows uid at (λ k d h. low (suc k) d (omega (arith, h))) (omega (arith, le)))

own_low : (f : Fresh) (row : Option Shown) (low : List Shown) → IfSome row (λ s. s.uid ≡ f.uid) → AllByRecursion (λ s. s.uid < f.uid) low → AllByRecursion (λ s. s.uid < f.uid + 1) (low ++ option_to_list row)
own_low f None [] own all = tt
own_low f (Some s) [] own all = (omega (arith, own), tt)
own_low f row (s ∷ low) own all = let first = all.0 in (omega arith, own_low f row low own all.1)

-- the rows before the place, what is given, and the rows behind with the other changes
pub patched_step : (rows : List Shown) (f : Fresh) (fresh : List Fresh) (n at : ℕ) → Rises n (f ∷ fresh) → IsPlace rows f.uid at
    → patched rows (f ∷ fresh) ≡ take at rows ++ (option_to_list f.row ++ patched (without f.uid (drop at rows)) fresh)
patched_step rows f fresh n at rises place =
    let low : (k : ℕ) (d : Shown) → k < at → (get_or rows k d).uid < f.uid = λ k d less. place.1.0 k d (omega arith) less in
    let high : (d : Shown) → 0 < length (drop at rows) → f.uid ≤ (get_or (drop at rows) 0 d).uid =
    λ d some. let long : length (drop at rows) ≡ length rows - at = length-drop at rows in
    subst (λ (s : Shown). f.uid ≤ s.uid) (sym (get_or-drop at rows 0 d)) (place.1.1 (at + 0) d (omega arith) (omega (arith, some, long))) in
    ap (λ rs. patched rs fresh) (with_from rows f at low place.0 ∙ ap (λ rs. take at rows ++ rs) (with_here (drop at rows) f high) ∙ sym (append_assoc (take at rows) (option_to_list f.row) (without f.uid (drop at rows))))
    ∙ patched_behind (f.uid + 1) (take at rows ++ option_to_list f.row) (without f.uid (drop at rows)) fresh (own_low f f.row (take at rows) rises.1 (low_take rows f.uid at low place.0)) rises.2
    ∙ append_assoc (take at rows) (option_to_list f.row) (patched (without f.uid (drop at rows)) fresh)
