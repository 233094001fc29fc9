-- Rows that leave blocks.
use Rattle.std.proofs.Common.{◌≡◌, ◌∙◌, ◌⊎◌, inl, inr, ℕ, zero, suc, ◌+◌, ◌-◌, ◌^◌, ◌<◌, ◌≤◌, min, Bool, true, false, List, [], ◌∷◌, ◌++◌, length, get_or, map, set, take, drop, ap, sym, refl, subst, arith}
use Rattle.std.specs.Prelude.{All, filter}
use Rattle.std.specs.List.{remove_range}
use Rattle.std.specs.List.Sorted.{IsStrictlyIncreasing}
use Rattle.std.proofs.lemmas.Bool.{cases_lt, cond-false, cond-true, ltb-false, ltb-true}
use Rattle.std.proofs.lemmas.List.{append-nil, append_assoc, drop_all, drop_min, drop_more, get_or-append_right, get_or_append_left, get_or_at, get_or-drop, get_or-take, length-append, length-drop, length-take-le, nil_from_length, set_at, take_all, take-append-drop, take_min, take_more}
use Rattle.std.proofs.lemmas.List.Elements.{All-append, All-cons, All-drop, All-filter, All-head, All-nil, All-tail, All-take, All-weaker, filter_passes}
use Rattle.dv_blocks.specs.Cells.{Cell}
use Rattle.dv_blocks.specs.Chunks.{AreBlocks, AreChunks, AreRising, IsChunk, AreCounted, cells_of, has_rows, left_from, left_in, lowered, noted, starts_from, uids_of}
use Rattle.dv_blocks.specs.declared.chunk.Chunk.{Chunk}
use Rattle.dv_blocks.proofs.Found.{far}
use Rattle.dv_blocks.proofs.Sides.{map_removed}

-- ---- lists

take_both : {X : Type 0} (n : ℕ) (xs ys : List X) → take n (xs ++ ys) ≡ take n xs ++ take (n - length xs) ys
take_both zero xs ys = let none : 0 ≡ 0 - length xs = omega arith in ap (λ m. take m ys) none
take_both (suc n) [] ys = let same : suc n ≡ suc n - 0 = omega arith in ap (λ m. take m ys) same
take_both (suc n) (x ∷ xs) ys =
    let same : n - length xs ≡ suc n - suc (length xs) = omega arith in
    ap (λ l. x ∷ l) (take_both n xs ys) ∙ ap (λ m. x ∷ (take n xs ++ take m ys)) same

drop_both : {X : Type 0} (n : ℕ) (xs ys : List X) → drop n (xs ++ ys) ≡ drop n xs ++ drop (n - length xs) ys
drop_both zero xs ys = let none : 0 ≡ 0 - length xs = omega arith in ap (λ m. xs ++ drop m ys) none
drop_both (suc n) [] ys = let same : suc n ≡ suc n - 0 = omega arith in ap (λ m. drop m ys) same
drop_both (suc n) (x ∷ xs) ys =
    let same : n - length xs ≡ suc n - suc (length xs) = omega arith in
    drop_both n xs ys ∙ ap (λ m. drop n xs ++ drop m ys) same

swapped : {X : Type 0} (a b c d : List X) → (b ≡ []) ⊎ (c ≡ []) → (a ++ b) ++ (c ++ d) ≡ (a ++ c) ++ (b ++ d)
swapped a b c d (inl e) =
    ap (λ l. (a ++ l) ++ (c ++ d)) e ∙ ap (λ l. l ++ (c ++ d)) (append-nil a) ∙ sym (append_assoc a c d) ∙ ap (λ l. (a ++ c) ++ (l ++ d)) (sym e)
swapped a b c d (inr e) =
    ap (λ l. (a ++ b) ++ (l ++ d)) e ∙ append_assoc a b d ∙ ap (λ l. l ++ (b ++ d)) (sym (append-nil a)) ∙ ap (λ l. (a ++ l) ++ (b ++ d)) (sym e)

either_way : {X : Type 0} (xs ys : List X) (i j : ℕ) → i ≤ j → (length xs < i) ⊎ (i ≤ length xs) → (take (i - length xs) ys ≡ []) ⊎ (drop j xs ≡ [])
either_way xs ys i j h (inl more) = inr (drop_all j xs (omega arith))
either_way xs ys i j h (inr less) = let none : i - length xs ≡ 0 = omega arith in inl (ap (λ m. take m ys) none)

-- what leaves a list leaves its parts
pub removed_both : {X : Type 0} (xs ys : List X) (i j : ℕ) → i ≤ j → remove_range (xs ++ ys) i j ≡ remove_range xs i j ++ remove_range ys (i - length xs) (j - length xs)
removed_both xs ys i j h =
    ap (λ l. l ++ drop j (xs ++ ys)) (take_both i xs ys) ∙ ap (λ l. (take i xs ++ take (i - length xs) ys) ++ l) (drop_both j xs ys)
    ∙ swapped (take i xs) (take (i - length xs) ys) (drop j xs) (drop (j - length xs) ys) (either_way xs ys i j h (cases_lt (length xs) i))

-- as far as there are items
pub capped : {X : Type 0} (xs : List X) (i j : ℕ) → remove_range xs (min i (length xs)) (min j (length xs)) ≡ remove_range xs i j
capped xs i j = ap (λ l. l ++ drop (min j (length xs)) xs) (take_min i xs) ∙ ap (λ l. take i xs ++ l) (drop_min j xs)

-- ---- rows leave their blocks

-- as far as there are items
pub up_to : {X : Type 0} (xs : List X) (i j k : ℕ) → i ≤ k → k ≡ min j (length xs) → remove_range xs i k ≡ remove_range xs i j
up_to xs i j k h e = ap (λ m. take i xs ++ drop m xs) e ∙ ap (λ l. take i xs ++ l) (drop_min j xs)

nothing : (i j : ℕ) → remove_range {X = Cell} [] i j ≡ []
nothing zero zero = refl
nothing zero (suc j) = refl
nothing (suc i) zero = refl
nothing (suc i) (suc j) = refl

pub cells_left : (i j : ℕ) (cs : List Chunk) → i ≤ j → cells_of (left_from i j cs) ≡ remove_range (cells_of cs) i j
cells_left i j [] h = sym (nothing i j)
cells_left i j (c ∷ cs) h =
    ap (λ l. l ++ cells_of (left_from (i - length c.block.cells) (j - length c.block.cells) cs)) (capped c.block.cells i j)
    ∙ ap (λ l. remove_range c.block.cells i j ++ l) (cells_left (i - length c.block.cells) (j - length c.block.cells) cs (omega arith))
    ∙ sym (removed_both c.block.cells (cells_of cs) i j h)

pub left_both : (i j : ℕ) (cs ds : List Chunk) → left_from i j (cs ++ ds) ≡ left_from i j cs ++ left_from (i - length (cells_of cs)) (j - length (cells_of cs)) ds
left_both i j [] ds =
    let low : i ≡ i - 0 = omega arith in
    let high : j ≡ j - 0 = omega arith in
    ap (λ k. left_from k j ds) low ∙ ap (λ k. left_from (i - 0) k ds) high
left_both i j (b ∷ cs) ds =
    let sum = length-append b.block.cells (cells_of cs) in
    let low : i - length b.block.cells - length (cells_of cs) ≡ i - length (b.block.cells ++ cells_of cs) = omega (arith, sum) in
    let high : j - length b.block.cells - length (cells_of cs) ≡ j - length (b.block.cells ++ cells_of cs) = omega (arith, sum) in
    let rest = left_from (i - length b.block.cells) (j - length b.block.cells) cs in
    ap (λ l. left_in i j b ∷ l) (left_both (i - length b.block.cells) (j - length b.block.cells) cs ds)
    ∙ ap (λ k. left_in i j b ∷ (rest ++ left_from k (j - length b.block.cells - length (cells_of cs)) ds)) low
    ∙ ap (λ k. left_in i j b ∷ (rest ++ left_from (i - length (b.block.cells ++ cells_of cs)) k ds)) high

pub left_long : (i j : ℕ) (cs : List Chunk) → length (left_from i j cs) ≡ length cs
left_long i j [] = refl
left_long i j (c ∷ cs) = ap suc (left_long (i - length c.block.cells) (j - length c.block.cells) cs)

-- the block that the loop has come to
pub left_there : (i j k : ℕ) (cs now : List Chunk) (x : Chunk) → k < length cs → now ≡ left_from i j (take k cs) ++ drop k cs → x ≡ get_or now k x → x ≡ get_or cs k x
left_there i j k cs now x h is read =
    let done = left_from i j (take k cs) in
    let c = get_or cs k x in
    let rest = drop (k + 1) cs in
    let split : now ≡ done ++ (c ∷ rest) = is ∙ ap (λ t. done ++ t) (drop_more cs k x h) in
    let long : length done ≡ k = left_long i j (take k cs) ∙ length-take-le k cs (omega arith) in
    read ∙ ap (λ t. get_or t k x) split ∙ get_or_at done c rest x k long

-- one block of the loop
pub left_more : (i j low high k : ℕ) (cs now : List Chunk) (x : Chunk) → k < length cs → now ≡ left_from i j (take k cs) ++ drop k cs → low ≡ i - length (cells_of (take k cs)) → high ≡ j - length (cells_of (take k cs)) → x ≡ get_or now k x → set now k (left_in low high x) ≡ left_from i j (take (k + 1) cs) ++ drop (k + 1) cs
left_more i j low high k cs now x h is l g read =
    let done = left_from i j (take k cs) in
    let c = get_or cs k x in
    let rest = drop (k + 1) cs in
    let split : now ≡ done ++ (c ∷ rest) = is ∙ ap (λ t. done ++ t) (drop_more cs k x h) in
    let long : length done ≡ k = left_long i j (take k cs) ∙ length-take-le k cs (omega arith) in
    let here : x ≡ c = left_there i j k cs now x h is read in
    let made : Chunk → Chunk = left_in low high in
    let wanted : left_from i j (take (k + 1) cs) ≡ done ++ made c ∷ [] =
    ap (left_from i j) (take_more cs k x h) ∙ left_both i j (take k cs) (c ∷ [])
    ∙ ap (λ n. done ++ left_from n (j - length (cells_of (take k cs))) (c ∷ [])) (sym l) ∙ ap (λ n. done ++ left_from low n (c ∷ [])) (sym g) in
    ap (λ t. set t k (made x)) split ∙ set_at done c rest (made x) k long ∙ ap (λ t. done ++ (made t ∷ rest)) here
    ∙ sym (append_assoc done (made c ∷ []) rest) ∙ ap (λ t. t ++ rest) (sym wanted)

-- ---- other blocks stay

-- the first UIDs of blocks are at hand
abbrev pub AreNoted : List Chunk → Type 0
AreNoted cs = All (λ (c : Chunk). c.first ≡ get_or (map (λ (x : Cell). x.uid) c.block.cells) 0 0) cs

abbrev chunk_with : ℕ → ℕ → List Cell → Chunk
chunk_with n w cells = record { first = n; block = record { width = w; cells = cells } }

same_left : (i j : ℕ) (c : Chunk) → c.first ≡ get_or (map (λ (x : Cell). x.uid) c.block.cells) 0 0 → remove_range c.block.cells i j ≡ c.block.cells → left_in i j c ≡ c
same_left i j c e h =
    let kept : remove_range c.block.cells (min i (length c.block.cells)) (min j (length c.block.cells)) ≡ c.block.cells = capped c.block.cells i j ∙ h in
    ap noted (ap (chunk_with c.first c.block.width) kept) ∙ ap (λ n. chunk_with n c.block.width c.block.cells) (sym e)

pub kept_past : {X : Type 0} (xs : List X) (i j : ℕ) → i ≤ j → length xs ≤ i → remove_range xs i j ≡ xs
kept_past xs i j h k = ap (λ l. l ++ drop j xs) (take_all i xs k) ∙ ap (λ l. xs ++ l) (drop_all j xs (omega arith)) ∙ append-nil xs

pub before_stay : (i j : ℕ) (cs : List Chunk) → i ≤ j → AreNoted cs → length (cells_of cs) ≤ i → left_from i j cs ≡ cs
before_stay i j [] h noted_all k = refl
before_stay i j (c ∷ cs) h noted_all k =
    let sum = length-append c.block.cells (cells_of cs) in
    let here = same_left i j c (All-head (λ (x : Chunk). x.first ≡ get_or (map (λ (y : Cell). y.uid) x.block.cells) 0 0) c cs noted_all) (kept_past c.block.cells i j h (omega (arith, sum))) in
    let rest = before_stay (i - length c.block.cells) (j - length c.block.cells) cs (omega arith) (All-tail (λ (x : Chunk). x.first ≡ get_or (map (λ (y : Cell). y.uid) x.block.cells) 0 0) c cs noted_all) (omega (arith, sum)) in
    ap (λ x. x ∷ left_from (i - length c.block.cells) (j - length c.block.cells) cs) here ∙ ap (λ l. c ∷ l) rest

kept_none : {X : Type 0} (xs : List X) (i j : ℕ) → i ≡ 0 → j ≡ 0 → remove_range xs i j ≡ xs
kept_none xs i j a b = ap (λ k. take k xs ++ drop j xs) a ∙ ap (λ k. drop k xs) b

pub behind_stay : (i j : ℕ) (cs : List Chunk) → i ≡ 0 → j ≡ 0 → AreNoted cs → left_from i j cs ≡ cs
behind_stay i j [] a b noted_all = refl
behind_stay i j (c ∷ cs) a b noted_all =
    let here = same_left i j c (All-head (λ (x : Chunk). x.first ≡ get_or (map (λ (y : Cell). y.uid) x.block.cells) 0 0) c cs noted_all) (kept_none c.block.cells i j a b) in
    let rest = behind_stay (i - length c.block.cells) (j - length c.block.cells) cs (omega arith) (omega arith) (All-tail (λ (x : Chunk). x.first ≡ get_or (map (λ (y : Cell). y.uid) x.block.cells) 0 0) c cs noted_all) in
    ap (λ x. x ∷ left_from (i - length c.block.cells) (j - length c.block.cells) cs) here ∙ ap (λ l. c ∷ l) rest

pub are_noted : (w : ℕ) (cs : List Chunk) → All (IsChunk w) cs → AreNoted cs
are_noted w cs all = All-weaker (IsChunk w) (λ (c : Chunk). c.first ≡ get_or (map (λ (x : Cell). x.uid) c.block.cells) 0 0) (λ c one. one.first) cs all

-- before the first block from which rows leave
pub begins : (w i j k : ℕ) (cs : List Chunk) → i ≤ j → All (IsChunk w) cs → length (cells_of (take k cs)) ≤ i → cs ≡ left_from i j (take k cs) ++ drop k cs
begins w i j k cs h all less =
    sym (take-append-drop k cs) ∙ ap (λ l. l ++ drop k cs) (sym (before_stay i j (take k cs) h (All-take (λ (c : Chunk). c.first ≡ get_or (map (λ (x : Cell). x.uid) c.block.cells) 0 0) k cs (are_noted w cs all)) less))

-- behind the last one
pub ends : (w i j k : ℕ) (cs : List Chunk) → i ≤ j → All (IsChunk w) cs → j ≤ length (cells_of (take k cs)) → left_from i j (take k cs) ++ drop k cs ≡ left_from i j cs
ends w i j k cs h all more =
    ap (λ l. left_from i j (take k cs) ++ l)
    (sym (behind_stay (i - length (cells_of (take k cs))) (j - length (cells_of (take k cs))) (drop k cs) (omega arith) (omega arith) (All-drop (λ (c : Chunk). c.first ≡ get_or (map (λ (x : Cell). x.uid) c.block.cells) 0 0) k cs (are_noted w cs all))))
    ∙ sym (left_both i j (take k cs) (drop k cs)) ∙ ap (left_from i j) (take-append-drop k cs)

-- ---- blocks without rows leave

kept_one : (c : Chunk) (cs : List Chunk) (b : Bool) → has_rows c ≡ b → cells_of (filter has_rows cs) ≡ cells_of cs → cells_of (filter has_rows (c ∷ cs)) ≡ cells_of (c ∷ cs)
kept_one c cs true e rest = ap cells_of (cond-true (has_rows c) (c ∷ filter has_rows cs) (filter has_rows cs) e) ∙ ap (λ l. c.block.cells ++ l) rest
kept_one c cs false e rest =
    let none : length c.block.cells ≡ 0 = let less = ltb-false 0 (length c.block.cells) e in omega arith in
    ap cells_of (cond-false (has_rows c) (c ∷ filter has_rows cs) (filter has_rows cs) e) ∙ rest ∙ ap (λ l. l ++ cells_of cs) (sym (nil_from_length c.block.cells none))

pub cells_kept : (cs : List Chunk) → cells_of (filter has_rows cs) ≡ cells_of cs
cells_kept [] = refl
cells_kept (c ∷ cs) = kept_one c cs (has_rows c) refl (cells_kept cs)

-- ---- blocks are counted

at_most : (a b : ℕ) → min a b ≤ b
at_most a b = omega arith

low_numbers : (i n l : ℕ) → min n i + min (i - n) l ≡ min (n + l) i
low_numbers i n l = omega arith

high_numbers : (j n l : ℕ) → n - j + (l - min (j - n) l) ≡ n + l - j
high_numbers j n l = omega arith

sums : (a b c d e f : ℕ) → a + c ≡ e → b + d ≡ f → a + b + (c + d) ≡ e + f
sums a b c d e f g h = omega arith

numbers : (i j n l : ℕ) → min n i + (n - j) + (min (i - n) l + (l - min (j - n) l)) ≡ min (n + l) i + (n + l - j)
numbers i j n l = sums (min n i) (n - j) (min (i - n) l) (l - min (j - n) l) (min (n + l) i) (n + l - j) (low_numbers i n l) (high_numbers j n l)

left_some : (cells : List Cell) (i j n : ℕ) → i ≤ j → lowered i j n + length (remove_range cells (min (i - n) (length cells)) (min (j - n) (length cells))) ≡ lowered i j (n + length cells)
left_some cells i j n h =
    let a = length-append (take (min (i - n) (length cells)) cells) (drop (min (j - n) (length cells)) cells) in
    let b = length-take-le (min (i - n) (length cells)) cells (at_most (i - n) (length cells)) in
    let c = length-drop (min (j - n) (length cells)) cells in
    ap (λ m. min n i + (n - j) + m) (a ∙ ap (λ m. m + length (drop (min (j - n) (length cells)) cells)) b ∙ ap (λ m. min (i - n) (length cells) + m) c) ∙ numbers i j n (length cells)

lowered_from : (i j n : ℕ) (cs : List Chunk) → i ≤ j → starts_from (lowered i j n) (left_from (i - n) (j - n) cs) ≡ map (lowered i j) (starts_from n cs)
lowered_from i j n [] h = refl
lowered_from i j n (c ∷ cs) h =
    let low : i - n - length c.block.cells ≡ i - (n + length c.block.cells) = omega arith in
    let high : j - n - length c.block.cells ≡ j - (n + length c.block.cells) = omega arith in
    ap (λ l. lowered i j n ∷ l)
    (ap (λ m. starts_from m (left_from (i - n - length c.block.cells) (j - n - length c.block.cells) cs)) (left_some c.block.cells i j n h)
    ∙ ap (λ m. starts_from (lowered i j (n + length c.block.cells)) (left_from m (j - n - length c.block.cells) cs)) low
    ∙ ap (λ m. starts_from (lowered i j (n + length c.block.cells)) (left_from (i - (n + length c.block.cells)) m cs)) high
    ∙ lowered_from i j (n + length c.block.cells) cs h)

-- the starts behind it all
pub lowered_starts : (i j : ℕ) (ns : List ℕ) (cs : List Chunk) → i ≤ j → AreCounted ns cs → AreCounted (map (lowered i j) ns) (left_from i j cs)
lowered_starts i j ns cs h e =
    let none : lowered i j 0 ≡ 0 = omega arith in
    let low : i - 0 ≡ i = omega arith in
    let high : j - 0 ≡ j = omega arith in
    ap (map (lowered i j)) e ∙ sym (lowered_from i j 0 cs h) ∙ ap (λ n. starts_from n (left_from (i - 0) (j - 0) cs)) none
    ∙ ap (λ n. starts_from 0 (left_from n (j - 0) cs)) low ∙ ap (λ n. starts_from 0 (left_from i n cs)) high

-- ---- they stay blocks

wide_left : (w i j : ℕ) (cs : List Chunk) → All (λ (c : Chunk). c.block.width ≡ w) cs → All (λ (c : Chunk). c.block.width ≡ w) (left_from i j cs)
wide_left w i j [] all = All-nil (λ (c : Chunk). c.block.width ≡ w)
wide_left w i j (c ∷ cs) all =
    All-cons (λ (x : Chunk). x.block.width ≡ w) (left_in i j c) (left_from (i - length c.block.cells) (j - length c.block.cells) cs)
    (All-head (λ (x : Chunk). x.block.width ≡ w) c cs all)
    (wide_left w (i - length c.block.cells) (j - length c.block.cells) cs (All-tail (λ (x : Chunk). x.block.width ≡ w) c cs all))

noted_left : (i j : ℕ) (cs : List Chunk) → AreNoted (left_from i j cs)
noted_left i j [] = All-nil (λ (c : Chunk). c.first ≡ get_or (map (λ (x : Cell). x.uid) c.block.cells) 0 0)
noted_left i j (c ∷ cs) =
    All-cons (λ (x : Chunk). x.first ≡ get_or (map (λ (y : Cell). y.uid) x.block.cells) 0 0) (left_in i j c) (left_from (i - length c.block.cells) (j - length c.block.cells) cs)
    refl (noted_left (i - length c.block.cells) (j - length c.block.cells) cs)

each_chunk : (w : ℕ) (cs : List Chunk) → All (λ (c : Chunk). c.block.width ≡ w) cs → AreNoted cs → All (λ (c : Chunk). has_rows c ≡ true) cs → All (IsChunk w) cs
each_chunk w cs wide noted_all filled k d h = record {
  wide = wide k d h;
  filled = ltb-true 0 (length (get_or cs k d).block.cells) (filled k d h);
  first = noted_all k d h;
}

gap_low : (us : List ℕ) (i j k : ℕ) → k < i → i ≤ length us → get_or (remove_range us i j) k 0 ≡ get_or us k 0
gap_low us i j k h inside =
    let long = length-take-le i us inside in
    get_or_append_left (take i us) (drop j us) 0 k (omega arith) ∙ get_or-take i us k 0 h

gap_high : (us : List ℕ) (i j k : ℕ) → i ≤ k → i ≤ length us → get_or (remove_range us i j) k 0 ≡ get_or us (j + (k - i)) 0
gap_high us i j k h inside =
    get_or-append_right (take i us) (drop j us) i k 0 (length-take-le i us inside) h ∙ get_or-drop j us (k - i) 0

rising_within : (us : List ℕ) (i j : ℕ) → i ≤ j → i ≤ length us → IsStrictlyIncreasing us → IsStrictlyIncreasing (remove_range us i j)
rising_within us i j h inside up k less =
    let long = length-append (take i us) (drop j us) in
    let front = length-take-le i us inside in
    let behind = length-drop j us in
    elim (cases_lt (k + 1) i) [
      | inl low ↦
          let a = gap_low us i j k (omega arith) inside in
          let b = gap_low us i j (k + 1) low inside in
          let c = far us up k (k + 1) (omega arith) (omega arith) in
          omega arith
      | inr high ↦ elim (cases_lt k i) [
        | inl last ↦
            let a = gap_low us i j k last inside in
            let b = gap_high us i j (k + 1) (omega arith) inside in
            let c = far us up k (j + (k + 1 - i)) (omega arith) (omega arith) in
            omega arith
        | inr past ↦
            let a = gap_high us i j k past inside in
            let b = gap_high us i j (k + 1) (omega arith) inside in
            let c = far us up (j + (k - i)) (j + (k + 1 - i)) (omega arith) (omega arith) in
            omega arith
      ]
    ]

pub rising_left : (us : List ℕ) (i j : ℕ) → i ≤ j → AreRising us → AreRising (remove_range us i j)
rising_left us i j h are = record {
  rising = subst IsStrictlyIncreasing (capped us i j) (rising_within us (min i (length us)) (min j (length us)) (omega arith) (omega arith) are.rising);
  below = All-append (λ u. u < 2 ^ 32 - 1) (take i us) (drop j us) (All-take (λ u. u < 2 ^ 32 - 1) i us are.below) (All-drop (λ u. u < 2 ^ 32 - 1) j us are.below);
}

pub uids_left : (i j : ℕ) (cells : List Cell) → remove_range (map (λ (c : Cell). c.uid) cells) i j ≡ map (λ (c : Cell). c.uid) (remove_range cells i j)
uids_left i j cells = map_removed (λ (c : Cell). c.uid) cells (map (λ (c : Cell). c.uid) cells) i j refl

pub rising_cells : (i j : ℕ) (cs : List Chunk) → i ≤ j → AreRising (uids_of cs) → AreRising (uids_of (left_from i j cs))
rising_cells i j cs h are = subst AreRising (uids_left i j (cells_of cs) ∙ ap (map (λ (c : Cell). c.uid)) (sym (cells_left i j cs h))) (rising_left (uids_of cs) i j h are)

-- where each block has rows still
pub are_left : (w i j : ℕ) (cs : List Chunk) → i ≤ j → AreChunks w cs → All (λ (c : Chunk). has_rows c ≡ true) (left_from i j cs) → AreChunks w (left_from i j cs)
are_left w i j cs h are filled = record {
  each = each_chunk w (left_from i j cs) (wide_left w i j cs (All-weaker (IsChunk w) (λ (c : Chunk). c.block.width ≡ w) (λ c one. one.wide) cs are.each)) (noted_left i j cs) filled;
  rising = rising_cells i j cs h are.rising;
}

-- where those without rows leave
pub are_closed : (w i j : ℕ) (cs : List Chunk) → i ≤ j → AreChunks w cs → AreChunks w (filter has_rows (left_from i j cs))
are_closed w i j cs h are =
    let left = left_from i j cs in
    record {
      each = each_chunk w (filter has_rows left)
          (All-filter has_rows (λ (c : Chunk). c.block.width ≡ w) left (wide_left w i j cs (All-weaker (IsChunk w) (λ (c : Chunk). c.block.width ≡ w) (λ c one. one.wide) cs are.each)))
          (All-filter has_rows (λ (c : Chunk). c.first ≡ get_or (map (λ (x : Cell). x.uid) c.block.cells) 0 0) left (noted_left i j cs)) (filter_passes has_rows left);
      rising = subst AreRising (ap (map (λ (c : Cell). c.uid)) (sym (cells_kept left))) (rising_cells i j cs h are.rising);
    }

-- what equals blocks is blocks
pub same_blocks : (w : ℕ) (ns ms : List ℕ) (cs ds : List Chunk) → ms ≡ ns → ds ≡ cs → AreBlocks w ns cs → AreBlocks w ms ds
same_blocks w ns ms cs ds e h are = subst (λ l. AreBlocks w l ds) (sym e) (subst (AreBlocks w ns) (sym h) are)
