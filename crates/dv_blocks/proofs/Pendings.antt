-- Sets that are held for rows, and put into them.
use Rattle.std.proofs.Common.{◌≡◌, ◌∙◌, ◌⊎◌, inl, inr, ℕ, zero, suc, ◌+◌, ◌<◌, ◌≤◌, List, [], ◌∷◌, ◌++◌, length, get_or, map, ap, refl, arith}
use Rattle.dv_model.specs.Effects.{with_item}
use Rattle.dv_blocks.specs.Cells.{Cell, with_values}
use Rattle.dv_blocks.specs.Shared.{AreShared, IsHeld, IsReleased, cut, how_many, how_many_held, one_at, row_of, set_of, uses_of, with_keywords}
use Rattle.dv_blocks.specs.declared.chunk.Pending.{Pending}
use Rattle.dv_blocks.specs.declared.sets.Held.{Held}
use Rattle.dv_blocks.proofs.Seen.{map_item_at, row_with, rows_same, used}
use Rattle.dv_blocks.proofs.Sharing.{has_own, many_item, one_here}

held_more : (n : ℕ) (hs : List Pending) (p : Pending) → how_many_held n (hs ++ p ∷ []) ≡ how_many_held n hs + one_at p.words n
held_more n [] p = omega arith
held_more n (h ∷ hs) p = let rest = held_more n hs p in omega arith

-- one more is held
pub more_held : (hs : List Pending) (p : Pending) (s t : List Held) (places : List ℕ) (cells : List Cell) → AreShared hs s cells → IsHeld s t p.words places → AreShared (hs ++ p ∷ []) t cells
more_held hs p s t places cells are is = record {
  uses = λ k. let a = are.uses k in let b = is.uses k in let e = held_more (suc k) hs p in omega arith;
  freed = is.freed are.freed;
}

-- what is held can be released, and so can a row's own
pub held_leaves : (hs : List Pending) (p : Pending) (s : List Held) (cells : List Cell) → AreShared (p ∷ hs) s cells → (p.words ≡ 0) ⊎ (0 < uses_of s p.words)
held_leaves hs p s cells are = by_number p.words refl
  where
    by_number : (n : ℕ) → p.words ≡ n → (n ≡ 0) ⊎ (0 < uses_of s n)
    by_number zero e = inl refl
    by_number (suc n) e =
        let a = are.uses n in
        let one : one_at p.words (suc n) ≡ 1 = ap (λ m. one_at m (suc n)) e ∙ one_here (suc n) in
        inr (omega arith)

pub own_leaves_too : (hs : List Pending) (s : List Held) (cells : List Cell) (at : ℕ) (d : Cell) → at < length cells → AreShared hs s cells → ((get_or cells at d).words ≡ 0) ⊎ (0 < uses_of s (get_or cells at d).words)
own_leaves_too hs s cells at d h are = by_number (get_or cells at d).words (has_own cells at d h)
  where
    by_number : (k : ℕ) → 1 ≤ how_many k cells → (k ≡ 0) ⊎ (0 < uses_of s k)
    by_number zero some = inl refl
    by_number (suc k) some = let a = are.uses k in inr (omega arith)

-- it is put into a row
pub put_shared : (hs : List Pending) (p : Pending) (s u : List Held) (f m at : ℕ) (cells : List Cell) (d : Cell) → at < length cells → AreShared (p ∷ hs) s cells → IsReleased s u (get_or cells at d).words → AreShared hs u (with_item at (with_values f m p.words) cells)
put_shared hs p s u f m at cells d h are gone = record {
  uses = λ k. let a = are.uses k in let b = gone.uses k in let e = many_item (suc k) at (with_values f m p.words) cells d h in omega arith;
  freed = gone.freed are.freed;
}

pub put_seen : (hs : List Pending) (p : Pending) (s u : List Held) (f m at : ℕ) (sizes : List ℕ) (cells : List Cell) (d : Cell) → at < length cells → AreShared (p ∷ hs) s cells → IsReleased s u (get_or cells at d).words → f ≡ (get_or cells at d).flags
    → map (row_of u sizes) (with_item at (with_values f m p.words) cells) ≡ with_item at (with_keywords m (set_of s p.words)) (map (row_of s sizes) cells)
put_seen hs p s u f m at sizes cells d h are gone e =
    let x : Cell = get_or cells at d in
    rows_same s u sizes (with_item at (with_values f m p.words) cells) by_number
    ∙ map_item_at (row_of s sizes) (with_values f m p.words) (with_keywords m (set_of s p.words)) at cells d h (ap (λ n. row_with x.uid n (set_of s p.words) (cut sizes x.part) m) e)
  where
    by_number : (k : ℕ) → 0 < how_many k (with_item at (with_values f m p.words) cells) → set_of u k ≡ set_of s k
    by_number zero some = refl
    by_number (suc k) some = gone.others (suc k) (used u (with_item at (with_values f m p.words) cells) k (put_shared hs p s u f m at cells d h are gone) some)

-- it is let go
pub gone_shared : (hs : List Pending) (p : Pending) (s u : List Held) (cells : List Cell) → AreShared (p ∷ hs) s cells → IsReleased s u p.words → AreShared hs u cells
gone_shared hs p s u cells are gone = record {
  uses = λ k. let a = are.uses k in let b = gone.uses k in omega arith;
  freed = gone.freed are.freed;
}

pub gone_seen : (hs : List Pending) (p : Pending) (s u : List Held) (sizes : List ℕ) (cells : List Cell) → AreShared (p ∷ hs) s cells → IsReleased s u p.words → map (row_of u sizes) cells ≡ map (row_of s sizes) cells
gone_seen hs p s u sizes cells are gone = rows_same s u sizes cells by_number
  where
    by_number : (k : ℕ) → 0 < how_many k cells → set_of u k ≡ set_of s k
    by_number zero some = refl
    by_number (suc k) some = gone.others (suc k) (used u cells k (gone_shared hs p s u cells are gone) some)

pub item_past : {X : Type 0} (f : X → X) (k : ℕ) (xs : List X) → length xs ≤ k → with_item k f xs ≡ xs
item_past f k [] h = refl
item_past f zero (x ∷ xs) h = absurd (omega arith)
item_past f (suc k) (x ∷ xs) h = ap (λ l. x ∷ l) (item_past f k xs (omega arith))

abbrev pub no_pending : Pending
no_pending = record { at = 0; words = 0 }
