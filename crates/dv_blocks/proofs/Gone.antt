-- Rows that leave, and their sets of keywords.
use Rattle.std.proofs.Common.{◌≡◌, ◌∙◌, ◌⊎◌, inl, inr, ℕ, zero, suc, ◌+◌, ◌<◌, ◌≤◌, List, [], ◌∷◌, ◌++◌, length, get_or, map, take, drop, ap, sym, refl, subst, arith}
use Rattle.std.specs.List.{between, remove_range}
use Rattle.std.proofs.lemmas.List.{drop_more}
use Rattle.std.proofs.lemmas.List.Edits.{between_more, between_none, split_between}
use Rattle.dv_blocks.specs.Cells.{Cell}
use Rattle.dv_blocks.specs.Shared.{AreLess, AreShared, IsReleased, how_many, one_at, row_of, set_of, uses_of}
use Rattle.dv_blocks.specs.declared.chunk.Pending.{Pending}
use Rattle.dv_blocks.specs.declared.sets.Held.{Held}
use Rattle.dv_blocks.proofs.Seen.{rows_same, used}
use Rattle.dv_blocks.proofs.Sharing.{many_append, one_here}
use Rattle.dv_blocks.proofs.Sides.{map_removed}

pub none_less : (s : List Held) (cells : List Cell) (from : ℕ) → AreLess s s (between from from cells)
none_less s cells from = record {
  others = λ k h. refl;
  uses = λ k. let none : how_many (suc k) (between from from cells) ≡ 0 = ap (how_many (suc k)) (between_none cells from) in omega arith;
  freed = λ f. f;
}

less_others : (s t u : List Held) (gone : List Cell) (n : ℕ) → AreLess s t gone → IsReleased t u n → (k : ℕ) → 0 < uses_of u k → set_of u k ≡ set_of s k
less_others s t u gone n less is zero some = refl
less_others s t u gone n less is (suc k) some = is.others (suc k) some ∙ less.others (suc k) (let a = is.uses k in omega arith)

one_less : (s t u : List Held) (gone : List Cell) (c : Cell) → AreLess s t gone → IsReleased t u c.words → AreLess s u (gone ++ c ∷ [])
one_less s t u gone c less is = record {
  others = less_others s t u gone c.words less is;
  uses = λ k. let a = is.uses k in let b = less.uses k in let d = many_append (suc k) gone (c ∷ []) in omega arith;
  freed = λ f. is.freed (less.freed f);
}

-- one row of the loop
pub more_less : (s t u : List Held) (cells : List Cell) (from at : ℕ) (d : Cell) → from ≤ at → at < length cells → AreLess s t (between from at cells) → IsReleased t u (get_or cells at d).words → AreLess s u (between from (at + 1) cells)
more_less s t u cells from at d h k less is =
    subst (AreLess s u) (sym (between_more cells from at d h k)) (one_less s t u (between from at cells) (get_or cells at d) less is)

-- the set of the next one can be released
pub next_leaves : {hs : List Pending} → (s t : List Held) (cells : List Cell) (from at : ℕ) (d : Cell) → from ≤ at → at < length cells → AreShared hs s cells → AreLess s t (between from at cells) → ((get_or cells at d).words ≡ 0) ⊎ (0 < uses_of t (get_or cells at d).words)
next_leaves s t cells from at d h k are less = by_number (get_or cells at d).words refl
  where
    by_number : (n : ℕ) → (get_or cells at d).words ≡ n → (n ≡ 0) ⊎ (0 < uses_of t n)
    by_number zero e = inl refl
    by_number (suc n) e =
        let all = ap (how_many (suc n)) (split_between cells from at h) in
        let a = many_append (suc n) (take from cells) (between from at cells ++ drop at cells) in
        let b = many_append (suc n) (between from at cells) (drop at cells) in
        let c : how_many (suc n) (drop at cells) ≡ one_at (get_or cells at d).words (suc n) + how_many (suc n) (drop (at + 1) cells) = ap (how_many (suc n)) (drop_more cells at d k) in
        let o : one_at (get_or cells at d).words (suc n) ≡ 1 = ap (λ m. one_at m (suc n)) e ∙ one_here (suc n) in
        let u = are.uses n in
        let l = less.uses n in
        inr (omega arith)

many_left : (n i j : ℕ) (cells : List Cell) → i ≤ j → how_many n cells ≡ how_many n (remove_range cells i j) + how_many n (between i j cells)
many_left n i j cells h =
    let all = ap (how_many n) (split_between cells i j h) in
    let a = many_append n (take i cells) (between i j cells ++ drop j cells) in
    let b = many_append n (between i j cells) (drop j cells) in
    let c = many_append n (take i cells) (drop j cells) in
    omega arith

pub left_shared : {hs : List Pending} → (s t : List Held) (cells : List Cell) (i j : ℕ) → i ≤ j → AreShared hs s cells → AreLess s t (between i j cells) → AreShared hs t (remove_range cells i j)
left_shared s t cells i j h are less = record {
  uses = λ k. let a = are.uses k in let b = less.uses k in let c = many_left (suc k) i j cells h in omega arith;
  freed = less.freed are.freed;
}

left_used : {hs : List Pending} → (s t : List Held) (cells : List Cell) (i j : ℕ) → i ≤ j → AreShared hs s cells → AreLess s t (between i j cells) → (k : ℕ) → 0 < how_many k (remove_range cells i j) → set_of t k ≡ set_of s k
left_used s t cells i j h are less zero some = refl
left_used s t cells i j h are less (suc k) some = less.others (suc k) (used t (remove_range cells i j) k (left_shared s t cells i j h are less) some)

pub left_rows : {hs : List Pending} → (s t : List Held) (sizes : List ℕ) (cells : List Cell) (i j : ℕ) → i ≤ j → AreShared hs s cells → AreLess s t (between i j cells) → map (row_of t sizes) (remove_range cells i j) ≡ remove_range (map (row_of s sizes) cells) i j
left_rows s t sizes cells i j h are less =
    rows_same s t sizes (remove_range cells i j) (left_used s t cells i j h are less)
    ∙ sym (map_removed (row_of s sizes) cells (map (row_of s sizes) cells) i j refl)
