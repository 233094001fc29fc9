-- Reading step by step: what a step took begins the bytes.
use Rattle.std.proofs.Common.{◌≡◌, ℕ, zero, suc, ◌^◌, ◌<◌, ◌≤◌, true, false, List, [], ◌∷◌, ◌++◌, length, All, Option, Some, None, flat_map, refl, sym, ◌∙◌, ap, subst, arith, append_assoc}
use Rattle.std.specs.Fmt.{decimal}
use Rattle.std.proofs.lemmas.Bool.{eq-eqb}
use Rattle.std.proofs.lemmas.Bool.Decides.{nat_tests}
use Rattle.std.proofs.lemmas.List.{append-nil, length-append}
use Rattle.std.proofs.lemmas.List.Elements.{All-cons, All-head, All-nil, All-tail}
use Rattle.dv_formats.specs.Parsing.{◌>>=◌, after, before, from, number_of}
use Rattle.dv_commands.proofs.Base.{after_is, bind_some, parted, some_is}
use Rattle.dv_commands.proofs.Numbers.{number_complete, number_sound}
use Rattle.dv_commands.proofs.Words.{IsDigit, Stops, all_goes_on, before_again, digits_are, from_again, goes_on}
use Rattle.dv_replies.specs.Reading.{behind_else, each_behind, is_no_digit, number_at}

-- ---- a text that begins the bytes

pub else_then : {B P : Type 0} (text b : List ℕ) (read : List ℕ → Option B) (other : Option B) (y : B) → behind_else (after text b) read other ≡ Some y
    → ((rest : List ℕ) → b ≡ text ++ rest → read rest ≡ Some y → P) → (other ≡ Some y → P) → P
else_then {B} {P} text b read other y e go none = by_case (after text b) refl e
  where
    by_case : (r : Option (List ℕ)) → after text b ≡ r → behind_else r read other ≡ Some y → P
    by_case (Some rest) is g = go rest (after_is text b rest is) g
    by_case None is g = none g

-- ---- numbers

pub number_takes : (limit : ℕ) (b : List ℕ) (y : ℕ × List ℕ) → number_at limit b ≡ Some y → (y.0 < limit) × (b ≡ decimal y.0 ++ y.1)
unfolding number_at
number_takes limit b y e =
    let n = bind_some (number_of limit (before is_no_digit b)) (λ n. Some (n, from is_no_digit b)) y e in
    let is = number_sound limit (before is_no_digit b) n.0 n.1 in
    subst (λ (z : ℕ × List ℕ). (z.0 < limit) × (b ≡ decimal z.0 ++ z.1)) (some_is (n.0, from is_no_digit b) y n.2) (is.0, parted is_no_digit b ∙ ap (λ t. t ++ from is_no_digit b) is.1)

pub number_then : {B P : Type 0} (limit : ℕ) (b : List ℕ) (f : ℕ × List ℕ → Option B) (y : B) → (number_at limit b >>= f) ≡ Some y
    → ((n : ℕ) (rest : List ℕ) → n < limit → b ≡ decimal n ++ rest → f (n, rest) ≡ Some y → P) → P
number_then limit b f y e go =
    let one = bind_some (number_at limit b) f y e in
    let is = number_takes limit b one.0 one.1 in
    go one.0.0 one.0.1 is.0 is.1 one.2

digit_goes : (b : ℕ) → IsDigit b → is_no_digit b ≡ false
digit_goes b is = both b is.0 is.1
  where
    both : (b : ℕ) → 48 ≤ b → b ≤ 57 → is_no_digit b ≡ false
    both b low high = grind (arith, nat_tests)

pub digits_go_on : (n : ℕ) → n < 2 ^ 64 → goes_on is_no_digit (decimal n) ≡ true
digits_go_on n small = all_goes_on is_no_digit IsDigit digit_goes (decimal n) (digits_are n small)

pub number_again : (limit n : ℕ) (rest : List ℕ) → limit ≤ 2 ^ 64 → n < limit → Stops is_no_digit rest → number_at limit (decimal n ++ rest) ≡ Some (n, rest)
unfolding number_at
number_again limit n rest wide less stops =
    let go = digits_go_on n (omega (arith, wide, less)) in
    rw (before_again is_no_digit (decimal n) rest go stops, number_complete limit (decimal n) n wide less refl, from_again is_no_digit (decimal n) rest go stops) refl

-- ---- lists

-- the items that a separator stands before
abbrev pub list_text : {A : Type 0} → (A → List ℕ) → ℕ → List A → List ℕ
list_text f s items = flat_map (λ a. s ∷ f a) items

pub each_takes : {A : Type 0} (f : A → List ℕ) (P : A → Type 0) (s : ℕ) (read : List ℕ → Option (A × List ℕ))
    → ((b : List ℕ) (y : A × List ℕ) → read b ≡ Some y → P y.0 × (b ≡ f y.0 ++ y.1))
    → (most : ℕ) (so_far : List A) (b : List ℕ) (y : List A × List ℕ) → each_behind (s ∷ []) read most so_far b ≡ Some y
    → (items : List A) × All P items × (y.0 ≡ so_far ++ items) × (b ≡ list_text f s items ++ y.1)
unfolding each_behind
each_takes f P s read law zero so_far b y e = absurd cc
each_takes f P s read law (suc most) so_far b y e = else_then (s ∷ []) b _ _ y e
    (λ rest is g.
    let x = bind_some (read rest) (λ next. each_behind (s ∷ []) read most (so_far ++ next.0 ∷ []) next.1) y g in
    let one = law rest x.0 x.1 in
    let others = each_takes f P s read law most (so_far ++ x.0.0 ∷ []) x.0.1 y x.2 in
    let joined = is ∙ ap (λ t. s ∷ t) (one.1 ∙ ap (λ t. f x.0.0 ++ t) others.3 ∙ sym (append_assoc (f x.0.0) (list_text f s others.0) y.1)) in
    (x.0.0 ∷ others.0, All-cons P x.0.0 others.0 one.0 others.1, others.2 ∙ append_assoc so_far (x.0.0 ∷ []) others.0, joined))
    (λ g. let same = some_is (so_far, b) y g in ([], All-nil P, ap (λ z. z.0) (sym same) ∙ sym (append-nil so_far), ap (λ z. z.1) same))

each_step : {A : Type 0} (read : List ℕ → Option (A × List ℕ)) (most s : ℕ) (so_far : List A) (t rest : List ℕ) (x : A) → read t ≡ Some (x, rest)
    → each_behind (s ∷ []) read (suc most) so_far (s ∷ t) ≡ each_behind (s ∷ []) read most (so_far ++ x ∷ []) rest
unfolding each_behind
each_step read most s so_far t rest x is = rw (eq-eqb s s refl) (rw is refl)

pub each_again : {A : Type 0} (f : A → List ℕ) (P : A → Type 0) (s : ℕ) (Q : List ℕ → Type 0) (read : List ℕ → Option (A × List ℕ))
    → ((a : A) (rest : List ℕ) → P a → Q rest → read (f a ++ rest) ≡ Some (a, rest)) → ((t : List ℕ) → Q (s ∷ t))
    → (items so_far : List A) (rest : List ℕ) (most : ℕ) → All P items → Q rest → after (s ∷ []) rest ≡ None → length items < most
    → each_behind (s ∷ []) read most so_far (list_text f s items ++ rest) ≡ Some (so_far ++ items, rest)
unfolding each_behind
each_again f P s Q read law stop items so_far rest zero all q none few = absurd (omega (arith, few))
each_again f P s Q read law stop [] so_far rest (suc most) all q none few = rw none (ap (λ xs. Some (xs, rest)) (sym (append-nil so_far)))
each_again f P s Q read law stop (a ∷ items) so_far rest (suc most) all q none few =
    let tail = list_text f s items ++ rest in
    let whole : list_text f s (a ∷ items) ++ rest ≡ s ∷ (f a ++ tail) = ap (λ t. s ∷ t) (append_assoc (f a) (list_text f s items) rest) in
    let first = law a tail (All-head P a items all) (stopped items) in
    let others = each_again f P s Q read law stop items (so_far ++ a ∷ []) rest most (All-tail P a items all) q none (omega (arith, few)) in
    ap (each_behind (s ∷ []) read (suc most) so_far) whole ∙ each_step read most s so_far (f a ++ tail) tail a first ∙ others ∙ ap (λ xs. Some (xs, rest)) (append_assoc so_far (a ∷ []) items)
  where
    stopped : (xs : List _) → Q (list_text f s xs ++ rest)
    stopped [] = q
    stopped (x ∷ xs) = stop ((f x ++ list_text f s xs) ++ rest)

-- no more items than bytes
pub list_long : {A : Type 0} (f : A → List ℕ) (s : ℕ) (items : List A) (rest : List ℕ) → 1 ≤ length rest → length items < length (list_text f s items ++ rest)
list_long f s [] rest some = omega (arith, some)
list_long f s (a ∷ items) rest some =
    let others = list_long f s items rest some in
    let whole : length (list_text f s (a ∷ items) ++ rest) ≡ suc (length (f a ++ (list_text f s items ++ rest))) = ap (λ t. suc (length t)) (append_assoc (f a) (list_text f s items) rest) in
    omega (arith, others, whole, length-append (f a) (list_text f s items ++ rest))
