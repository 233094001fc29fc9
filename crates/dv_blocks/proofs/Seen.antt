-- Rows with their sets of keywords.
use Rattle.std.proofs.Common.{◌≡◌, ◌∙◌, ◌⊎◌, inl, inr, ℕ, zero, suc, ◌+◌, ◌<◌, ◌≤◌, List, [], ◌∷◌, ◌++◌, length, get_or, map, ap, sym, refl, subst, arith}
use Rattle.std.specs.Prelude.{All}
use Rattle.std.proofs.lemmas.List.{get_or-map, length-map, map_push}
use Rattle.dv_model.specs.declared.types.Row.{Row}
use Rattle.dv_model.specs.Effects.{with_item}
use Rattle.dv_validity.proofs.Items.{map_with_item}
use Rattle.dv_validity.proofs.Rows.{map_map}
use Rattle.dv_blocks.specs.Cells.{Cell, with_values}
use Rattle.dv_blocks.specs.Shared.{AreLess, AreShared, Due, IsHeld, IsReleased, Rows, cut, due_of, how_many, how_many_held, one_at, row_of, set_of, uses_of, with_set}
use Rattle.dv_blocks.specs.declared.chunk.Pending.{Pending}
use Rattle.dv_blocks.specs.declared.sets.Held.{Held}
use Rattle.dv_blocks.proofs.Sharing.{has_own, many_append, many_item, one_here}

abbrev with_words : List ℕ → Row → Row
with_words l r = record { uid = r.uid; flags = r.flags; keywords = l; parts = r.parts; modseq = r.modseq }

-- rows are the same where the sets that they have are
pub rows_same : (s t : List Held) (sizes : List ℕ) (cells : List Cell) → ((k : ℕ) → 0 < how_many k cells → set_of t k ≡ set_of s k) → map (row_of t sizes) cells ≡ map (row_of s sizes) cells
rows_same s t sizes [] same = refl
rows_same s t sizes (c ∷ cells) same =
    let own = has_own (c ∷ cells) 0 c (omega arith) in
    let here : row_of t sizes c ≡ row_of s sizes c = ap (λ (l : List ℕ). with_words l (row_of s sizes c)) (same c.words (omega arith)) in
    ap (λ (r : Row). r ∷ map (row_of t sizes) cells) here
    ∙ ap (λ l. row_of s sizes c ∷ l) (rows_same s t sizes cells (λ k some. same k (omega arith)))

-- sets that are counted are used where rows have them
pub used : {hs : List Pending} → (s : List Held) (cells : List Cell) (k : ℕ) → AreShared hs s cells → 0 < how_many (suc k) cells → 0 < uses_of s (suc k)
used s cells k are some = let same = are.uses k in omega arith

-- ---- keywords that are held for rows

abbrev pub due_with : ℕ → List ℕ → Due
due_with at keywords = record { at = at; keywords = keywords }

dues_same : (s t : List Held) (hs : List Pending) → ((k : ℕ) → 0 < how_many_held k hs → set_of t k ≡ set_of s k) → map (due_of t) hs ≡ map (due_of s) hs
dues_same s t [] same = refl
dues_same s t (p ∷ hs) same =
    let one = one_here p.words in
    let here : due_of t p ≡ due_of s p = ap (due_with p.at) (same p.words (omega arith)) in
    ap (λ d. d ∷ map (due_of t) hs) here ∙ ap (λ l. due_of s p ∷ l) (dues_same s t hs (λ k some. same k (omega arith)))

used_held : {hs : List Pending} → (s : List Held) (cells : List Cell) (k : ℕ) → AreShared hs s cells → 0 < how_many_held (suc k) hs → 0 < uses_of s (suc k)
used_held s cells k are some = let same = are.uses k in omega arith

pub dues_held : (hs : List Pending) (s t : List Held) (n : ℕ) (places : List ℕ) (cells : List Cell) → AreShared hs s cells → IsHeld s t n places → map (due_of t) hs ≡ map (due_of s) hs
dues_held hs s t n places cells are is = dues_same s t hs by_number
  where
    by_number : (k : ℕ) → 0 < how_many_held k hs → set_of t k ≡ set_of s k
    by_number zero some = refl
    by_number (suc k) some = is.others (suc k) (used_held s cells k are some)

pub dues_released : (hs : List Pending) (s t : List Held) (n : ℕ) (cells : List Cell) → AreShared hs t cells → IsReleased s t n → map (due_of t) hs ≡ map (due_of s) hs
dues_released hs s t n cells are is = dues_same s t hs by_number
  where
    by_number : (k : ℕ) → 0 < how_many_held k hs → set_of t k ≡ set_of s k
    by_number zero some = refl
    by_number (suc k) some = is.others (suc k) (used_held t cells k are some)

pub dues_less : (hs : List Pending) (s t : List Held) (gone cells : List Cell) → AreShared hs t cells → AreLess s t gone → map (due_of t) hs ≡ map (due_of s) hs
dues_less hs s t gone cells are is = dues_same s t hs by_number
  where
    by_number : (k : ℕ) → 0 < how_many_held k hs → set_of t k ≡ set_of s k
    by_number zero some = refl
    by_number (suc k) some = is.others (suc k) (used_held t cells k are some)

-- rows, the sizes of their parts, and what is held for them
abbrev pub kept_rows : List ℕ → List Row → List Due → Rows
kept_rows sizes rows held = record { sizes = sizes; rows = rows; held = held }

-- what equals shared sets is shared
pub same_shared : (hs ks : List Pending) (s t : List Held) (cells : List Cell) → ks ≡ hs → t ≡ s → AreShared hs s cells → AreShared ks t cells
same_shared hs ks s t cells e h are = subst (λ (l : List Pending). AreShared l t cells) (sym e) (subst (λ (l : List Held). AreShared hs l cells) (sym h) are)

-- ---- a set more

pub after_hold : {hs : List Pending} → (s t : List Held) (n : ℕ) (places : List ℕ) (cells : List Cell) → AreShared hs s cells → IsHeld s t n places → (k : ℕ) → 0 < how_many k cells → set_of t k ≡ set_of s k
after_hold s t n places cells are is zero some = refl
after_hold s t n places cells are is (suc k) some = is.others (suc k) (used s cells k are some)

pub held_shared : {hs : List Pending} → (s t : List Held) (n : ℕ) (places : List ℕ) (cells made : List Cell) → AreShared hs s cells → IsHeld s t n places → ((k : ℕ) → how_many k made ≡ how_many k cells + one_at n k) → AreShared hs t made
held_shared s t n places cells made are is more = record {
  uses = λ k. let a = are.uses k in let b = is.uses k in let c = more (suc k) in omega arith;
  freed = is.freed are.freed;
}

-- a set that was held is released again
pub back : {hs : List Pending} → (s t u : List Held) (n : ℕ) (places : List ℕ) (cells : List Cell) → AreShared hs s cells → IsHeld s t n places → IsReleased t u n → AreShared hs u cells
back s t u n places cells are is gone = record {
  uses = λ k. let a = are.uses k in let b = is.uses k in let c = gone.uses k in omega arith;
  freed = gone.freed (is.freed are.freed);
}

pub after_back : {hs : List Pending} → (s t u : List Held) (n : ℕ) (places : List ℕ) (cells : List Cell) → AreShared hs s cells → IsHeld s t n places → IsReleased t u n → (k : ℕ) → 0 < how_many k cells → set_of u k ≡ set_of s k
after_back s t u n places cells are is gone zero some = refl
after_back s t u n places cells are is gone (suc k) some =
    let again = back s t u n places cells are is gone in
    gone.others (suc k) (used u cells k again some) ∙ is.others (suc k) (used s cells k are some)

-- a number that is held can be released
pub may_leave : (s t : List Held) (n : ℕ) (places : List ℕ) → IsHeld s t n places → (n ≡ 0) ⊎ (0 < uses_of t n)
may_leave s t zero places is = inl refl
may_leave s t (suc k) places is = let more = is.uses k in let one = one_here (suc k) in inr (omega arith)

-- ---- a row more

abbrev of_words : List ℕ → Cell → List ℕ → Row
of_words l c sizes = record { uid = c.uid; flags = c.flags; keywords = l; parts = cut sizes c.part; modseq = c.modseq }

pub pushed_many : (cells : List Cell) (c : Cell) (n k : ℕ) → c.words ≡ n → how_many k (cells ++ c ∷ []) ≡ how_many k cells + one_at n k
pushed_many cells c n k e = many_append k cells (c ∷ []) ∙ (let same : one_at c.words k ≡ one_at n k = ap (λ m. one_at m k) e in omega arith)

pub pushed_rows : {hs : List Pending} → (s t : List Held) (n : ℕ) (places sizes : List ℕ) (cells : List Cell) (c : Cell) → AreShared hs s cells → IsHeld s t n places → c.words ≡ n → map (row_of t sizes) (cells ++ c ∷ []) ≡ map (row_of s sizes) cells ++ record { uid = c.uid; flags = c.flags; keywords = places; parts = cut sizes c.part; modseq = c.modseq } ∷ []
pushed_rows s t n places sizes cells c are is e =
    let same : set_of t c.words ≡ places = ap (set_of t) e ∙ is.here in
    map_push (row_of t sizes) cells c
    ∙ ap (λ l. l ++ row_of t sizes c ∷ []) (rows_same s t sizes cells (after_hold s t n places cells are is))
    ∙ ap (λ (l : List ℕ). map (row_of s sizes) cells ++ of_words l c sizes ∷ []) same

-- ---- a row with another set

pub set_shared : {hs : List Pending} → (s t u : List Held) (f m n at : ℕ) (places : List ℕ) (cells : List Cell) (d : Cell) → at < length cells → AreShared hs s cells → IsHeld s t n places → IsReleased t u (get_or cells at d).words → AreShared hs u (with_item at (with_values f m n) cells)
set_shared s t u f m n at places cells d h are is gone = record {
  uses = λ k.
      let a = are.uses k in let b = is.uses k in let c = gone.uses k in
      let e = many_item (suc k) at (with_values f m n) cells d h in
      omega arith;
  freed = gone.freed (is.freed are.freed);
}

set_used : {hs : List Pending} → (s t u : List Held) (f m n at : ℕ) (places : List ℕ) (cells : List Cell) (d : Cell) → at < length cells → AreShared hs s cells → IsHeld s t n places → IsReleased t u (get_or cells at d).words → (k : ℕ) → 0 < how_many k (with_item at (with_values f m n) cells) → set_of u k ≡ set_of t k
set_used s t u f m n at places cells d h are is gone zero some = refl
set_used s t u f m n at places cells d h are is gone (suc k) some =
    gone.others (suc k) (used u (with_item at (with_values f m n) cells) k (set_shared s t u f m n at places cells d h are is gone) some)

pub set_rows : {hs : List Pending} → (s t u : List Held) (f m n at : ℕ) (places sizes : List ℕ) (cells : List Cell) (d : Cell) → at < length cells → AreShared hs s cells → IsHeld s t n places → IsReleased t u (get_or cells at d).words → map (row_of u sizes) (with_item at (with_values f m n) cells) ≡ with_item at (with_set f m places) (map (row_of s sizes) cells)
set_rows s t u f m n at places sizes cells d h are is gone =
    rows_same t u sizes (with_item at (with_values f m n) cells) (set_used s t u f m n at places cells d h are is gone)
    ∙ map_with_item (row_of t sizes) (with_values f m n) (with_set f m (set_of t n)) (λ c. refl) at cells
    ∙ ap (λ l. with_item at (with_set f m (set_of t n)) l) (rows_same s t sizes cells (after_hold s t n places cells are is))
    ∙ ap (λ l. with_item at (with_set f m l) (map (row_of s sizes) cells)) is.here

-- the set of a row can be released
pub own_leaves : {hs : List Pending} → (s t : List Held) (n at : ℕ) (places : List ℕ) (cells : List Cell) (d : Cell) → at < length cells → AreShared hs s cells → IsHeld s t n places → ((get_or cells at d).words ≡ 0) ⊎ (0 < uses_of t (get_or cells at d).words)
own_leaves s t n at places cells d h are is = by_number (get_or cells at d).words (has_own cells at d h)
  where
    by_number : (k : ℕ) → 1 ≤ how_many k cells → (k ≡ 0) ⊎ (0 < uses_of t k)
    by_number zero some = inl refl
    by_number (suc k) some = let a = are.uses k in let b = is.uses k in inr (omega arith)

-- ---- a row with other flags, and with other parts

pub map_item_at : {X Y : Type 0} (g : X → Y) (f : X → X) (h : Y → Y) (k : ℕ) (xs : List X) (d : X) → k < length xs → g (f (get_or xs k d)) ≡ h (g (get_or xs k d)) → map g (with_item k f xs) ≡ with_item k h (map g xs)
map_item_at g f h k [] d less same = refl
map_item_at g f h zero (x ∷ xs) d less same = ap (λ y. y ∷ map g xs) same
map_item_at g f h (suc k) (x ∷ xs) d less same = ap (λ l. g x ∷ l) (map_item_at g f h k xs d (omega arith) same)

pub flags_shared : {hs : List Pending} → (s : List Held) (g : Cell → Cell) (at : ℕ) (cells : List Cell) (d : Cell) → at < length cells → (g (get_or cells at d)).words ≡ (get_or cells at d).words → AreShared hs s cells → AreShared hs s (with_item at g cells)
flags_shared s g at cells d h same are = record {
  uses = λ k.
      let a = are.uses k in
      let e = many_item (suc k) at g cells d h in
      let b : one_at (g (get_or cells at d)).words (suc k) ≡ one_at (get_or cells at d).words (suc k) = ap (λ n. one_at n (suc k)) same in
      omega arith;
  freed = are.freed;
}

-- ---- rows as they are seen

pub from_map : {X Y : Type 0} (P : Y → Type 0) (f : X → Y) (xs : List X) (e : Y) → All P (map f xs) → All (λ x. P (f x)) xs
from_map P f xs e all k d h =
    let many = length-map xs f in
    subst P (get_or-map f xs k d e h) (all k e (subst (λ n. k < n) (sym many) h))

-- their UIDs
pub uids_seen : (s : List Held) (sizes : List ℕ) (cells : List Cell) → map (λ (r : Row). r.uid) (map (row_of s sizes) cells) ≡ map (λ (c : Cell). c.uid) cells
uids_seen s sizes cells = map_map (λ (r : Row). r.uid) (row_of s sizes) cells

abbrev pub row_with : ℕ → ℕ → List ℕ → List (List ℕ) → ℕ → Row
row_with uid flags keywords parts modseq = record { uid = uid; flags = flags; keywords = keywords; parts = parts; modseq = modseq }

-- a row that is read value by value
pub same_row : (s : List Held) (sizes : List ℕ) (c : Cell) (u f m : ℕ) (ks : List ℕ) (ps : List (List ℕ)) → u ≡ c.uid → f ≡ c.flags → m ≡ c.modseq → ks ≡ set_of s c.words → ps ≡ cut sizes c.part → row_of s sizes c ≡ row_with u f ks ps m
same_row s sizes c u f m ks ps a b d e g = sym
    (ap (λ n. row_with n f ks ps m) a ∙ ap (λ n. row_with c.uid n ks ps m) b ∙ ap (λ l. row_with c.uid c.flags l ps m) e
    ∙ ap (λ l. row_with c.uid c.flags (set_of s c.words) l m) g ∙ ap (λ n. row_with c.uid c.flags (set_of s c.words) (cut sizes c.part) n) d)
