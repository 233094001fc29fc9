-- The first line of a text, with its end.
use Rattle.std.proofs.Common.{◌≡◌, ◌⊎◌, inl, inr, ℕ, zero, suc, ◌-◌, ◌<◌, Bool, true, false, not, ◌&&◌, List, [], ◌∷◌, ◌++◌, length, get_or, take, drop, Contains, Option, Some, None, codes, refl, sym, ◌∙◌, ap, subst, arith, append_assoc, nat_eq}
use Rattle.std.specs.List.{position_or_len}
use Rattle.std.specs.Str.Lines.{strip_carriage_return}
use Rattle.std.proofs.lemmas.Bool.{and_parts, eq-eqb, eqb-true}
use Rattle.std.proofs.lemmas.List.{append-nil, get_or-append_right, length-append, take_at}
use Rattle.std.proofs.lemmas.List.Folds.{list_all-append}
use Rattle.dv_formats.specs.Scripts.{IsLineEnd}
use Rattle.dv_formats.specs.Parsing.{after, before, first_line, from, is_byte}
use Rattle.dv_commands.proofs.Base.{after_is, parted}
use Rattle.dv_commands.proofs.Words.{Stops, append_goes_on, before_again, from_again, goes_on}

-- what stands before the first byte of a kind has none, and what stands from it on begins with it
parts : (test : ℕ → Bool) (b : List ℕ) → (goes_on test (before test b) ≡ true) × Stops test (from test b)
parts test [] = (refl, tt)
parts test (x ∷ b) = by_test (test x) refl (parts test b)
  where
    by_test : (t : Bool) → test x ≡ t → (goes_on test (before test b) ≡ true) × Stops test (from test b)
        → (goes_on test (before test (x ∷ b)) ≡ true) × Stops test (from test (x ∷ b))
    by_test true is others = rw is (refl, is)
    by_test false is others =
        let k : position_or_len test (x ∷ b) ≡ suc (position_or_len test b) = rw is (omega arith) in
        let first : goes_on test (x ∷ before test b) ≡ true = rw is others.0 in
        subst (λ n. (goes_on test (take n (x ∷ b)) ≡ true) × Stops test (drop n (x ∷ b))) (sym k) (first, others.1)

last_one : (n : ℕ) (p : List ℕ) → length p ≡ suc n → get_or p n 0 ≡ 13 → p ≡ take n p ++ 13 ∷ []
last_one n [] long e = absurd (omega (arith, long))
last_one zero (x ∷ []) long e = ap (λ y. y ∷ []) e
last_one zero (x ∷ y ∷ p) long e = absurd (omega (arith, long))
last_one (suc n) (x ∷ p) long e = ap (λ t. x ∷ t) (last_one n p (omega (arith, long)) e)

-- a line end with what stands behind it, or the script's end
abbrev pub IsEndedBy : List ℕ → List ℕ → Type 0
IsEndedBy ending rest = IsLineEnd ending ⊎ ((ending ≡ []) × (rest ≡ []))

pub record FirstIs (b : List ℕ) (x : List ℕ × List ℕ) : Type 0 where
  pub ending : List ℕ
  pub whole : b ≡ x.0 ++ (ending ++ x.1)
  pub ended : IsEndedBy ending x.1
  pub free : goes_on (is_byte 10) x.0 ≡ true

stripped : (part : List ℕ) → goes_on (is_byte 10) part ≡ true
    → (ending : List ℕ) × IsLineEnd ending × ((rest : List ℕ) → part ++ 10 ∷ rest ≡ strip_carriage_return part ++ (ending ++ rest)) × (goes_on (is_byte 10) (strip_carriage_return part) ≡ true)
stripped [] free = (10 ∷ [], inl refl, (λ rest. refl), refl)
stripped (x ∷ p) free = by_test (nat_eq (get_or part (length part - 1) 0) 13) refl
  where
    part : List ℕ
    part = x ∷ p

    n : ℕ
    n = length (x ∷ p) - 1

    by_test : (t : Bool) → nat_eq (get_or (x ∷ p) (length (x ∷ p) - 1) 0) 13 ≡ t
        → (ending : List ℕ) × IsLineEnd ending × ((rest : List ℕ) → (x ∷ p) ++ 10 ∷ rest ≡ strip_carriage_return (x ∷ p) ++ (ending ++ rest)) × (goes_on (is_byte 10) (strip_carriage_return (x ∷ p)) ≡ true)
    by_test true is =
        let m = length (x ∷ p) - 1 in
        let init = take m (x ∷ p) in
        let same : strip_carriage_return (x ∷ p) ≡ init = rw is refl in
        let last : x ∷ p ≡ init ++ 13 ∷ [] = last_one m (x ∷ p) (omega arith) (eqb-true (get_or (x ∷ p) m 0) 13 is) in
        let both : (goes_on (is_byte 10) init && goes_on (is_byte 10) (13 ∷ [])) ≡ true = sym (list_all-append (λ b. not (is_byte 10 b)) init (13 ∷ [])) ∙ ap (goes_on (is_byte 10)) (sym last) ∙ free in (
          13 ∷ 10 ∷ [],
          inr refl,
          (λ rest. ap (λ t. t ++ 10 ∷ rest) last ∙ append_assoc init (13 ∷ []) (10 ∷ rest) ∙ ap (λ t. t ++ 13 ∷ 10 ∷ rest) (sym same)),
          ap (goes_on (is_byte 10)) same ∙ (and_parts (goes_on (is_byte 10) init) (goes_on (is_byte 10) (13 ∷ [])) both).0,
        )
    by_test false is =
        let same : strip_carriage_return (x ∷ p) ≡ x ∷ p = rw is refl in
        (10 ∷ [], inl refl, (λ rest. ap (λ t. t ++ 10 ∷ rest) (sym same)), ap (goes_on (is_byte 10)) same ∙ free)

pub first_is : (b : List ℕ) → FirstIs b (first_line b)
first_is b = by_feed (after (codes "\n") (from (is_byte 10) b)) refl
  where
    none : (end : List ℕ) → Stops (is_byte 10) end → after (codes "\n") end ≡ None → end ≡ []
    none [] stops e = refl
    none (y ∷ ys) stops e = absurd (let some : after (codes "\n") (y ∷ ys) ≡ Some ys = rw stops refl in let both = sym some ∙ e in cc)

    by_feed : (r : Option (List ℕ)) → after (codes "\n") (from (is_byte 10) b) ≡ r → FirstIs b (first_line b)
    by_feed None is =
        let split = parts (is_byte 10) b in
        let end = none (from (is_byte 10) b) split.1 is in
        let all : b ≡ before (is_byte 10) b = parted (is_byte 10) b ∙ ap (λ t. before (is_byte 10) b ++ t) end ∙ append-nil (before (is_byte 10) b) in
        let same : ◌≡◌ {A = List ℕ × List ℕ} (first_line b) (b, []) = rw is refl in
        subst (FirstIs b) (sym same) (record { ending = []; whole = sym (append-nil b); ended = inr (refl, refl); free = ap (goes_on (is_byte 10)) all ∙ split.0 })
    by_feed (Some rest) is =
        let part = before (is_byte 10) b in
        let split = parts (is_byte 10) b in
        let cut = stripped part split.0 in
        let same : ◌≡◌ {A = List ℕ × List ℕ} (first_line b) (strip_carriage_return part, rest) = rw is refl in
        let whole : b ≡ part ++ 10 ∷ rest = parted (is_byte 10) b ∙ ap (λ t. part ++ t) (after_is (codes "\n") (from (is_byte 10) b) rest is) in
        subst (FirstIs b) (sym same) (record { ending = cut.0; whole = whole ∙ cut.2 rest; ended = inl cut.1; free = cut.3 })

-- no line feed stands in what has none
pub feedless : (text : List ℕ) → goes_on (is_byte 10) text ≡ true → Contains text 10 → ⊥
feedless text free is = at text free is.0 is.1 is.2
  where
    at : (t : List ℕ) → goes_on (is_byte 10) t ≡ true → (k : ℕ) → k < length t → get_or t k 10 ≡ 10 → ⊥
    at [] go k less e = omega (arith, less)
    at (x ∷ t) go zero less e = let first = (and_parts (not (is_byte 10 x)) (goes_on (is_byte 10) t) go).0 in let none : not (is_byte 10 10) ≡ true = subst (λ y. not (is_byte 10 y) ≡ true) e first in cc
    at (x ∷ t) go (suc k) less e = at t (and_parts (not (is_byte 10 x)) (goes_on (is_byte 10) t) go).1 k (omega (arith, less)) e

-- ---- a line with its end is read as the first one

returned : (t : List ℕ) → strip_carriage_return (t ++ 13 ∷ []) ≡ t
returned t =
    let n : length (t ++ 13 ∷ []) - 1 ≡ length t = omega (arith, length-append t (13 ∷ [])) in
    let last : get_or (t ++ 13 ∷ []) (length (t ++ 13 ∷ []) - 1) 0 ≡ 13 = ap (λ i. get_or (t ++ 13 ∷ []) i 0) n ∙ get_or-append_right t (13 ∷ []) (length t) (length t) 0 refl (omega arith) ∙ ap (λ i. get_or (13 ∷ []) i 0) (same_less (length t)) in
    let init : take (length (t ++ 13 ∷ []) - 1) (t ++ 13 ∷ []) ≡ t = ap (λ i. take i (t ++ 13 ∷ [])) n ∙ take_at t (13 ∷ []) (length t) refl in
    rw (eq-eqb (get_or (t ++ 13 ∷ []) (length (t ++ 13 ∷ []) - 1) 0) 13 last) init
  where
    same_less : (n : ℕ) → n - n ≡ 0
    same_less n = omega arith

feed_here : (t rest : List ℕ) → goes_on (is_byte 10) t ≡ true → ◌≡◌ {A = List ℕ × List ℕ} (first_line (t ++ 10 ∷ rest)) (strip_carriage_return t, rest)
feed_here t rest free = rw (from_again (is_byte 10) t (10 ∷ rest) free refl) (rw (before_again (is_byte 10) t (10 ∷ rest) free refl) refl)

both_here : (t rest : List ℕ) → goes_on (is_byte 10) t ≡ true → ◌≡◌ {A = List ℕ × List ℕ} (first_line (t ++ 13 ∷ 10 ∷ rest)) (t, rest)
both_here t rest free =
    let part = t ++ 13 ∷ [] in
    ap first_line (sym (append_assoc t (13 ∷ []) (10 ∷ rest))) ∙ feed_here part rest (append_goes_on (is_byte 10) t (13 ∷ []) free refl) ∙ ap (λ u. (u, rest)) (returned t)

last_here : (t : List ℕ) → goes_on (is_byte 10) t ≡ true → ◌≡◌ {A = List ℕ × List ℕ} (first_line t) (t, [])
last_here t free = ap first_line (sym (append-nil t)) ∙ rw (from_again (is_byte 10) t [] free tt) (ap (λ u. (u, [])) (append-nil t))

-- a carriage return that the line has may belong to its end
pub read_first : (t ending rest : List ℕ) → goes_on (is_byte 10) t ≡ true → IsEndedBy ending rest → (P : List ℕ × List ℕ → Type 0)
    → P (strip_carriage_return t, rest) → P (t, rest) → P (first_line (t ++ (ending ++ rest)))
read_first t ending rest free (inl (inl feed)) P less whole = subst P (sym (ap (λ e. first_line (t ++ (e ++ rest))) feed ∙ feed_here t rest free)) less
read_first t ending rest free (inl (inr both)) P less whole = subst P (sym (ap (λ e. first_line (t ++ (e ++ rest))) both ∙ both_here t rest free)) whole
read_first t ending rest free (inr none) P less whole =
    let same : ◌≡◌ {A = List ℕ × List ℕ} (first_line (t ++ (ending ++ rest))) (t, rest) = ap (λ e. first_line (t ++ (e ++ rest))) none.0 ∙ ap (λ r. first_line (t ++ r)) none.1 ∙ ap first_line (append-nil t) ∙ last_here t free ∙ ap (λ r. (t, r)) (sym none.1) in
    subst P (sym same) whole

-- what has no line feed goes on
pub free_of_feeds : (t : List ℕ) → (Contains t 10 → ⊥) → goes_on (is_byte 10) t ≡ true
free_of_feeds [] none = refl
free_of_feeds (x ∷ t) none = by_test (nat_eq x 10) refl (free_of_feeds t (λ has. none (suc has.0, omega (arith, has.1), has.2)))
  where
    by_test : (f : Bool) → nat_eq x 10 ≡ f → goes_on (is_byte 10) t ≡ true → goes_on (is_byte 10) (x ∷ t) ≡ true
    by_test true is others = absurd (none (0, omega arith, eqb-true x 10 is))
    by_test false is others = rw (is, others) refl
