-- Texts in which a byte of another kind ends each part: numbers, words and lists of them.
use Rattle.std.proofs.Common.{◌≡◌, ◌⊎◌, inl, inr, ℕ, ◌^◌, ◌<◌, ◌≤◌, List, [], ◌∷◌, ◌++◌, length, drop, All, map, flat_map, refl, sym, ◌∙◌, ap, subst, arith, append_assoc}
use Rattle.std.specs.Fmt.{decimal}
use Rattle.std.proofs.lemmas.Fmt.{decimal_injective, decimal_is_IsNumeral}
use Rattle.std.proofs.lemmas.List.{append-nil, get_or_default}
use Rattle.std.proofs.lemmas.List.Elements.{All-head, All-tail}
use Rattle.std.proofs.lemmas.Str.Parse.{digit_at}
use Rattle.dv_model.specs.Texts.{literal, spaced, with_commas}
use Rattle.dv_formats.proofs.Texts.{head_one, parts_one}

-- a text that doesn't begin with a byte of this kind
abbrev pub Stops : (ℕ → Type 0) → List ℕ → Type 0
Stops P [] = Unit {0}
Stops P (b ∷ text) = P b → ⊥

-- bytes of one kind, up to the first of another
pub apart : (P : ℕ → Type 0) (a c x y : List ℕ) → All P a → All P c → Stops P x → Stops P y
    → a ++ x ≡ c ++ y → (a ≡ c) × (x ≡ y)
apart P [] [] x y p q r s e = (refl, e)
apart P [] (b ∷ c) [] y p q r s e = cc
apart P [] (b ∷ c) (d ∷ x) y p q r s e = absurd (r (subst P (sym (head_one d b x (c ++ y) e)) (All-head P b c q)))
apart P (b ∷ a) [] x [] p q r s e = cc
apart P (b ∷ a) [] x (d ∷ y) p q r s e = absurd (s (subst P (head_one b d (a ++ x) y e) (All-head P b a p)))
apart P (b ∷ a) (d ∷ c) x y p q r s e =
    let first = head_one b d (a ++ x) (c ++ y) e in
    let rest = apart P a c x y (All-tail P b a p) (All-tail P d c q) r s (ap (drop 1) e) in
    (ap (λ z. z ∷ a) first ∙ ap (λ zs. d ∷ zs) rest.0, rest.1)

-- ---- numbers

abbrev pub IsDigit : ℕ → Type 0
IsDigit b = (48 ≤ b) × (b ≤ 57)

pub are_digits : (n : ℕ) → n < 2 ^ 64 → All IsDigit (decimal n)
are_digits n small = λ k d less.
    let at = digit_at (decimal n) k (decimal_is_IsNumeral n small).0.1 less in
    subst IsDigit (get_or_default (decimal n) k 0 d less) (at.0, at.1)

pub number_one : (m n : ℕ) (x y : List ℕ) → m < 2 ^ 64 → n < 2 ^ 64 → Stops IsDigit x
    → Stops IsDigit y
    → decimal m ++ x ≡ decimal n ++ y → (m ≡ n) × (x ≡ y)
number_one m n x y p q r s e =
    let both = apart IsDigit (decimal m) (decimal n) x y (are_digits m p) (are_digits n q) r s e in
    (decimal_injective m n p q both.0, both.1)

-- bytes behind their number
pub literal_one : (a c x y : List ℕ) → length a < 2 ^ 64 → length c < 2 ^ 64
    → literal a ++ x ≡ literal c ++ y → (a ≡ c) × (x ≡ y)
literal_one a c x y p q e =
    let left : (decimal (length a) ++ 125 ∷ 10 ∷ a) ++ x ≡ decimal (length a) ++ 125 ∷ 10 ∷ (a ++ x) = append_assoc (decimal (length a)) (125 ∷ 10 ∷ a) x in
    let right : (decimal (length c) ++ 125 ∷ 10 ∷ c) ++ y ≡ decimal (length c) ++ 125 ∷ 10 ∷ (c ++ y) = append_assoc (decimal (length c)) (125 ∷ 10 ∷ c) y in
    let both = number_one (length a) (length c) (125 ∷ 10 ∷ (a ++ x)) (125 ∷ 10 ∷ (c ++ y)) p q (λ d. omega (arith, d.1)) (λ d. omega (arith, d.1))
    (sym left ∙ ap (drop 1) (sym (brace a x) ∙ e ∙ brace c y) ∙ right) in
    parts_one a c x y both.0 (ap (drop 2) both.1)
  where
    brace : (b z : List ℕ) → literal b ++ z ≡ 123 ∷ ((decimal (length b) ++ 125 ∷ 10 ∷ b) ++ z)
    brace b z = ap (λ t. 123 ∷ (t ++ z)) (append_assoc (decimal (length b)) (125 ∷ []) (10 ∷ b))

-- ---- lists: a separator before each, and an end

abbrev pub EndsBy : ℕ → ℕ → List ℕ → Type 0
EndsBy separator end [] = ⊥
EndsBy separator end (b ∷ text) = (b ≡ separator) ⊎ (b ≡ end)

pub ends_by : {A : Type 0} (f : A → List ℕ) (separator end : ℕ) (items : List A) (x : List ℕ)
    → EndsBy separator end (flat_map (λ a. separator ∷ f a) items ++ end ∷ x)
ends_by f separator end [] x = inr refl
ends_by f separator end (a ∷ items) x = inl refl

-- a text that ends so doesn't begin with a byte of another kind
pub stops_by : (P : ℕ → Type 0) (separator end : ℕ) (x : List ℕ) → (P separator → ⊥) → (P end → ⊥)
    → EndsBy separator end x → Stops P x
stops_by P separator end [] p q ends = tt
stops_by P separator end (b ∷ x) p q (inl same) = λ is. p (subst P same is)
stops_by P separator end (b ∷ x) p q (inr same) = λ is. q (subst P same is)

-- where an item's text is its own before each separator and end, a list's text is the list's
pub list_one : {A : Type 0} (f : A → List ℕ) (separator end : ℕ) (P : A → Type 0)
    → (separator ≡ end → ⊥)
    → ((a c : A) (x y : List ℕ) → P a → P c → EndsBy separator end x → EndsBy separator end y → f a ++ x ≡ f c ++ y → (a ≡ c) × (x ≡ y))
    → (items others : List A) (x y : List ℕ) → All P items → All P others
    → flat_map (λ a. separator ∷ f a) items ++ end ∷ x ≡ flat_map (λ a. separator ∷ f a) others ++ end ∷ y
    → (items ≡ others) × (x ≡ y)
list_one f separator end P apart one [] [] x y p q e = (refl, ap (drop 1) e)
list_one f separator end P apart one [] (c ∷ others) x y p q e = absurd (apart (sym (head_one end separator x ((f c ++ flat_map (λ a. separator ∷ f a) others) ++ end ∷ y) e)))
list_one f separator end P apart one (a ∷ items) [] x y p q e = absurd (apart (head_one separator end ((f a ++ flat_map (λ a. separator ∷ f a) items) ++ end ∷ x) y e))
list_one f separator end P apart one (a ∷ items) (c ∷ others) x y p q e =
    let behind = flat_map (λ a. separator ∷ f a) items ++ end ∷ x in
    let more = flat_map (λ a. separator ∷ f a) others ++ end ∷ y in
    let left = append_assoc (f a) (flat_map (λ a. separator ∷ f a) items) (end ∷ x) in
    let right = append_assoc (f c) (flat_map (λ a. separator ∷ f a) others) (end ∷ y) in
    let first = one a c behind more (All-head P a items p) (All-head P c others q) (ends_by f separator end items x) (ends_by f separator end others y) (sym left ∙ ap (drop 1) e ∙ right) in
    let rest = list_one f separator end P apart one items others x y (All-tail P a items p) (All-tail P c others q) first.1 in
    (ap (λ z. z ∷ items) first.0 ∙ ap (λ zs. c ∷ zs) rest.0, rest.1)

-- numbers with such a separator
pub numbers_one : (separator end : ℕ) (ms ns : List ℕ) (x y : List ℕ) → (separator ≡ end → ⊥)
    → (IsDigit separator → ⊥) → (IsDigit end → ⊥) → All (λ n. n < 2 ^ 32) ms
    → All (λ n. n < 2 ^ 32) ns
    → flat_map (λ n. separator ∷ decimal n) ms ++ end ∷ x ≡ flat_map (λ n. separator ∷ decimal n) ns ++ end ∷ y
    → (ms ≡ ns) × (x ≡ y)
numbers_one separator end ms ns x y apart p q = list_one decimal separator end (λ n. n < 2 ^ 32) apart
    (λ m n a c small fits r s. number_one m n a c (omega (arith, small)) (omega (arith, fits)) (stops_by IsDigit separator end a p q r) (stops_by IsDigit separator end c p q s)) ms ns x y

-- ---- the first one stands without a separator

pub spaced_map : {A : Type 0} (f : A → List ℕ) (w : List ℕ) (items : List A)
    → spaced (w ∷ map f items) ≡ w ++ flat_map (λ a. 32 ∷ f a) items
spaced_map f w [] = sym (append-nil w)
spaced_map f w (a ∷ items) = ap (λ t. w ++ 32 ∷ t) (spaced_map f (f a) items)

pub spaced_words : (w : List ℕ) (ws : List (List ℕ))
    → spaced (w ∷ ws) ≡ w ++ flat_map (λ v. 32 ∷ v) ws
spaced_words w [] = sym (append-nil w)
spaced_words w (v ∷ vs) = ap (λ t. w ++ 32 ∷ t) (spaced_words v vs)

pub comma_words : (n : ℕ) (ns : List ℕ)
    → with_commas (n ∷ ns) ≡ decimal n ++ flat_map (λ m. 44 ∷ decimal m) ns
comma_words n [] = sym (append-nil (decimal n))
comma_words n (m ∷ ns) = append_assoc (decimal n) (44 ∷ []) (with_commas (m ∷ ns)) ∙ ap (λ t. decimal n ++ 44 ∷ t) (comma_words m ns)
