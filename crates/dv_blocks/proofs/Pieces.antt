-- Strings of one length, one after another.
use Rattle.std.proofs.Common.{◌≡◌, ◌∙◌, ℕ, zero, suc, ◌+◌, ◌-◌, ◌*◌, ◌<◌, ◌≤◌, List, [], ◌∷◌, ◌++◌, length, get_or, set, take, drop, ap, sym, refl, subst, arith, append_assoc}
use Rattle.std.proofs.Math.Nat.{mul-le-mul_right}
use Rattle.std.proofs.lemmas.List.{drop_at, drop-append-le, get_or_at, length-append, length-drop, length-take-le, set_split, take_all, take_at, take-append-drop, take-append-le}
use Rattle.std.specs.List.{remove_range}
use Rattle.dv_blocks.specs.Cells.{Strings, pieces}

-- strings of this length
abbrev pub strings : ℕ → List (List ℕ) → Strings
strings width items = record { width = width; items = items }

-- so many of them lie within more
pub within : (i n w : ℕ) → i ≤ n → i * w ≤ n * w
within i n w h = mul-le-mul_right w h

pub one_within : (i n w : ℕ) → i < n → i * w + w ≤ n * w
one_within i n w h = let step : i + 1 ≤ n = omega arith in let more : (i + 1) * w ≤ n * w = mul-le-mul_right w step in let is : (i + 1) * w ≡ i * w + w = omega arith in omega arith

pub many : (n w : ℕ) (bytes : List ℕ) → length (pieces n w bytes) ≡ n
many zero w bytes = refl
many (suc n) w bytes = ap suc (many n w (drop w bytes))

-- those of two strings of bytes
pub joined : (i k w : ℕ) (xs ys : List ℕ) → length xs ≡ i * w → pieces (i + k) w (xs ++ ys) ≡ pieces i w xs ++ pieces k w ys
joined zero k w [] ys e = let is : 0 + k ≡ k = omega arith in ap (λ m. pieces m w ys) is
joined zero k w (x ∷ xs) ys e = absurd (omega arith)
joined (suc i) k w xs ys e =
    let long : w ≤ length xs = omega arith in
    let rest : length (drop w xs) ≡ i * w = length-drop w xs ∙ omega arith in
    let first : take w (xs ++ ys) ≡ take w xs = take-append-le w xs ys long in
    let behind : drop w (xs ++ ys) ≡ drop w xs ++ ys = drop-append-le w xs ys long in
    let more : pieces (i + k) w (drop w xs ++ ys) ≡ pieces i w (drop w xs) ++ pieces k w ys = joined i k w (drop w xs) ys rest in
    let sum : suc i + k ≡ suc (i + k) = omega arith in
    ap (λ m. pieces m w (xs ++ ys)) sum ∙ ap (λ p. p ∷ pieces (i + k) w (drop w (xs ++ ys))) first ∙ ap (λ b. take w xs ∷ pieces (i + k) w b) behind ∙ ap (λ l. take w xs ∷ l) more

-- a string of bytes, cut in two
cut : (n i w : ℕ) (bytes : List ℕ) → i ≤ n → length bytes ≡ n * w → pieces n w bytes ≡ pieces i w (take (i * w) bytes) ++ pieces (n - i) w (drop (i * w) bytes)
cut n i w bytes h e =
    let inside : i * w ≤ length bytes = subst (λ m. i * w ≤ m) (sym e) (within i n w h) in
    let sum : i + (n - i) ≡ n = omega arith in
    ap (λ m. pieces m w bytes) (sym sum) ∙ ap (pieces (i + (n - i)) w) (sym (take-append-drop (i * w) bytes))
    ∙ joined i (n - i) w (take (i * w) bytes) (drop (i * w) bytes) (length-take-le (i * w) bytes inside)

pub front : (n i w : ℕ) (bytes : List ℕ) → i ≤ n → length bytes ≡ n * w → take i (pieces n w bytes) ≡ pieces i w (take (i * w) bytes)
front n i w bytes h e =
    ap (take i) (cut n i w bytes h e) ∙ take_at (pieces i w (take (i * w) bytes)) (pieces (n - i) w (drop (i * w) bytes)) i (many i w (take (i * w) bytes))

pub behind : (n i w : ℕ) (bytes : List ℕ) → i ≤ n → length bytes ≡ n * w → drop i (pieces n w bytes) ≡ pieces (n - i) w (drop (i * w) bytes)
behind n i w bytes h e =
    ap (drop i) (cut n i w bytes h e) ∙ drop_at (pieces i w (take (i * w) bytes)) (pieces (n - i) w (drop (i * w) bytes)) i (many i w (take (i * w) bytes))

-- one string more
pub pushed : (n w : ℕ) (bytes part : List ℕ) → length bytes ≡ n * w → length part ≡ w → pieces (n + 1) w (bytes ++ part) ≡ pieces n w bytes ++ part ∷ []
pushed n w bytes part e h =
    joined n 1 w bytes part e ∙ ap (λ p. pieces n w bytes ++ p ∷ []) (take_all w part (omega arith))

-- without those between two places
pub removed : (n i j w : ℕ) (bytes : List ℕ) → i ≤ j → j ≤ n → length bytes ≡ n * w → pieces (n - (j - i)) w (remove_range bytes (i * w) (j * w)) ≡ remove_range (pieces n w bytes) i j
removed n i j w bytes h k e =
    let inside : i * w ≤ length bytes = subst (λ m. i * w ≤ m) (sym e) (within i n w (omega arith)) in
    let sum : n - (j - i) ≡ i + (n - j) = omega arith in
    ap (λ m. pieces m w (remove_range bytes (i * w) (j * w))) sum
    ∙ joined i (n - j) w (take (i * w) bytes) (drop (j * w) bytes) (length-take-le (i * w) bytes inside)
    ∙ ap (λ l. l ++ pieces (n - j) w (drop (j * w) bytes)) (sym (front n i w bytes (omega arith) e))
    ∙ ap (λ l. take i (pieces n w bytes) ++ l) (sym (behind n j w bytes k e))

shared : (a b c d w : ℕ) → a + b ≡ c + d → a * w + b * w ≡ c * w + d * w
shared a b c d w h = let sum : (a + b) * w ≡ (c + d) * w = ap (λ m. m * w) h in omega arith

-- how long what is left is
pub left : (n i j w : ℕ) (bytes : List ℕ) → i ≤ j → j ≤ n → length bytes ≡ n * w → length (remove_range bytes (i * w) (j * w)) ≡ (n - (j - i)) * w
left n i j w bytes h k e =
    let low : i * w ≤ j * w = within i j w h in
    let high : j * w ≤ n * w = within j n w k in
    let split : (n - (j - i)) * w + j * w ≡ i * w + n * w = shared (n - (j - i)) j i n w (omega arith) in
    let front_long : length (take (i * w) bytes) ≡ i * w = length-take-le (i * w) bytes (omega arith) in
    let rest_long = length-drop (j * w) bytes in
    length-append (take (i * w) bytes) (drop (j * w) bytes) ∙ omega arith

-- other bytes in the place of a string
pub put_at : (n i w : ℕ) (bytes part : List ℕ) → i < n → length bytes ≡ n * w → length part ≡ w → pieces n w (take (i * w) bytes ++ part ++ drop (i * w + w) bytes) ≡ set (pieces n w bytes) i part
put_at n i w bytes part h e p =
    let inside : i * w ≤ length bytes = subst (λ m. i * w ≤ m) (sym e) (within i n w (omega arith)) in
    let next : (i + 1) * w ≡ i * w + w = omega arith in
    let sum : n ≡ (i + 1) + (n - (i + 1)) = omega arith in
    let long : length (take (i * w) bytes ++ part) ≡ (i + 1) * w =
    length-append (take (i * w) bytes) part ∙ (let l = length-take-le (i * w) bytes inside in omega arith) in
    let first = take (i * w) bytes in
    let front_long : length first ≡ i * w = length-take-le (i * w) bytes inside in
    let rest = pieces (n - (i + 1)) w (drop (i * w + w) bytes) in
    let same : i + 1 ≡ suc i = omega arith in
    let after : rest ≡ drop (suc i) (pieces n w bytes) =
    ap (λ m. pieces (n - (i + 1)) w (drop m bytes)) (sym next) ∙ sym (behind n (i + 1) w bytes (omega arith) e) ∙ ap (λ m. drop m (pieces n w bytes)) same in
    ap (λ m. pieces m w (first ++ part ++ drop (i * w + w) bytes)) sum
    ∙ joined (i + 1) (n - (i + 1)) w (first ++ part) (drop (i * w + w) bytes) long
    ∙ ap (λ l. l ++ rest) (pushed i w first part front_long p)
    ∙ append_assoc (pieces i w first) (part ∷ []) rest
    ∙ ap (λ l. l ++ (part ∷ rest)) (sym (front n i w bytes (omega arith) e))
    ∙ ap (λ l. take i (pieces n w bytes) ++ (part ∷ l)) after
    ∙ sym (set_split (pieces n w bytes) i part (let m = many n w bytes in omega arith))

-- the string at a place
pub at_place : (n i w : ℕ) (bytes d : List ℕ) → i < n → length bytes ≡ n * w → get_or (pieces n w bytes) i d ≡ take w (drop (i * w) bytes)
at_place n i w bytes d h e =
    let more : n - i ≡ suc (n - (i + 1)) = omega arith in
    let rest = drop (i * w) bytes in
    ap (λ l. get_or l i d) (cut n i w bytes (omega arith) e ∙ ap (λ m. pieces i w (take (i * w) bytes) ++ pieces m w rest) more)
    ∙ get_or_at (pieces i w (take (i * w) bytes)) (take w rest) (pieces (n - (i + 1)) w (drop w rest)) d i (many i w (take (i * w) bytes))

-- as many bytes as before
pub put_long : (n i w : ℕ) (bytes part : List ℕ) → i < n → length bytes ≡ n * w → length part ≡ w → length (take (i * w) bytes ++ part ++ drop (i * w + w) bytes) ≡ n * w
put_long n i w bytes part h e p =
    let inside : i * w + w ≤ n * w = one_within i n w h in
    let first : length (take (i * w) bytes) ≡ i * w = length-take-le (i * w) bytes (omega arith) in
    let rest = length-drop (i * w + w) bytes in
    let front_long = length-append (take (i * w) bytes) part in
    length-append (take (i * w) bytes ++ part) (drop (i * w + w) bytes) ∙ omega arith
