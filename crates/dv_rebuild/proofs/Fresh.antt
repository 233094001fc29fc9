-- The number of a rebuilt log is used by no file.
use Rattle.std.proofs.Common.{◌≡◌, ◌≢◌, ℕ, zero, suc, ◌+◌, ◌^◌, ◌<◌, ◌≤◌, ◌⊎◌, inl, inr, ⊎_elim, true, false, Bool, nat_eq, List, [], ◌∷◌, length, refl, sym, subst, arith}
use Rattle.std.specs.Prelude.{if◌then◌else◌, ◌||◌}
use Rattle.std.specs.List.{list_any, IsDistinct}
use Rattle.std.proofs.lemmas.Bool.{eqb-true, eqb-false, ne_eqb}
use Rattle.std.proofs.lemmas.Cmp.{nat_eq_equiv}
use Rattle.std.proofs.lemmas.Map.Made.{length-le_from_is_member}
use Rattle.dv_model.specs.Sessions.{next_number}
use Rattle.dv_openings.specs.Rebuilds.{raised_while}

-- a number that a log may have
abbrev IsNumber : ℕ → Type 0
IsNumber n = (1 ≤ n) × (n < 2 ^ 32)

-- so many numbers behind a number, and it
abbrev behind : ℕ → ℕ → List ℕ
behind zero n = n ∷ []
behind (suc k) n = n ∷ behind k (next_number n)

-- the next number is the first behind the last, else one more
data Next (n m : ℕ) : Type 0 where
  First : n ≡ 4294967295 → m ≡ 1 → Next n m
  More : n < 4294967295 → m ≡ n + 1 → Next n m

next : (n : ℕ) → IsNumber n → Next n (next_number n)
next n is = by_last (nat_eq n 4294967295) refl
  where
    by_last : (b : Bool) → nat_eq n 4294967295 ≡ b → Next n (if b then 1 else n + 1)
    by_last true e = First (eqb-true n 4294967295 e) refl
    by_last false e =
        let other : n ≢ 4294967295 = eqb-false n 4294967295 e in
        More (omega (arith, is.1, other)) refl

is_next : (n m : ℕ) → IsNumber n → Next n m → IsNumber m
is_next n m is (First e f) = (omega (arith, f), omega (arith, f))
is_next n m is (More e f) = (omega (arith, f), omega (arith, f, e))

one_apart : (a b : ℕ) → Next a b → a ≢ b
one_apart a b (First e f) = λ is. omega (arith, is, e, f)
one_apart a b (More e f) = λ is. omega (arith, is, f)

two_apart : (a b c : ℕ) → IsNumber a → Next a b → Next b c → a ≢ c
two_apart a b c is (First e f) (First g h) = λ same. omega (arith, same, e, f, g, h)
two_apart a b c is (First e f) (More g h) = λ same. omega (arith, same, e, f, g, h)
two_apart a b c is (More e f) (First g h) = λ same. omega (arith, same, e, f, g, h)
two_apart a b c is (More e f) (More g h) = λ same. omega (arith, same, e, f, g, h)

three_apart : (a b c d : ℕ) → IsNumber a → Next a b → Next b c → Next c d → a ≢ d
three_apart a b c d is (First e f) (First g h) last = λ same. omega (arith, f, g)
three_apart a b c d is (First e f) (More g h) (First i j) = λ same. omega (arith, f, h, i)
three_apart a b c d is (First e f) (More g h) (More i j) = λ same. omega (arith, same, e, f, h, j)
three_apart a b c d is (More e f) (First g h) (First i j) = λ same. omega (arith, h, i)
three_apart a b c d is (More e f) (First g h) (More i j) = λ same. omega (arith, same, f, g, h, j)
three_apart a b c d is (More e f) (More g h) (First i j) = λ same. omega (arith, same, f, h, i, j)
three_apart a b c d is (More e f) (More g h) (More i j) = λ same. omega (arith, same, f, h, j)

distinct : (k n : ℕ) → k ≤ 3 → IsNumber n → IsDistinct nat_eq (behind k n)
unfolding IsDistinct
distinct zero n few is = (tt, tt)
distinct (suc zero) n few is = ((ne_eqb n (next_number n) (one_apart n (next_number n) (next n is)), tt), (tt, tt))
distinct (suc (suc zero)) n few is =
    let b = next_number n in
    let one = next n is in
    let two = next b (is_next n b is one) in (
      (ne_eqb n b (one_apart n b one), (ne_eqb n (next_number b) (two_apart n b (next_number b) is one two), tt)),
      distinct (suc zero) b (omega arith) (is_next n b is one),
    )
distinct (suc (suc (suc zero))) n few is =
    let b = next_number n in
    let c = next_number b in
    let one = next n is in
    let is_b = is_next n b is one in
    let two = next b is_b in
    let three = next c (is_next b c is_b two) in (
      (ne_eqb n b (one_apart n b one), (ne_eqb n c (two_apart n b c is one two), (ne_eqb n (next_number c) (three_apart n b c (next_number c) is one two three), tt))),
      distinct (suc (suc zero)) b (omega arith) is_b,
    )
distinct (suc (suc (suc (suc k)))) n few is = absurd (omega (arith, few))

-- where the number found is used, so are all before it
abbrev AllUsed : List ℕ → List ℕ → ℕ → Type 0
AllUsed used [] n = list_any (nat_eq n) used ≡ true
AllUsed used (one ∷ more) n = (list_any (nat_eq n) used ≡ true) × AllUsed used more (next_number n)

all_used : (used more : List ℕ) (n : ℕ) → list_any (nat_eq (raised_while used more n)) used ≡ true → AllUsed used more n
all_used used [] n is = is
all_used used (one ∷ more) n is = by_used (λ there. all_used used more (next_number n) there) (list_any (nat_eq n) used) refl is
  where
    by_used : (list_any (nat_eq (raised_while used more (next_number n))) used ≡ true → AllUsed used more (next_number n)) → (b : Bool) → list_any (nat_eq n) used ≡ b → list_any (nat_eq (if b then raised_while used more (next_number n) else n)) used ≡ true → (list_any (nat_eq n) used ≡ true) × AllUsed used more (next_number n)
    by_used others true e there = (e, others there)
    by_used others false e there = absurd cc

either_true : (a b : Bool) → (a || b) ≡ true → (a ≡ true) ⊎ (b ≡ true)
either_true true b is = inl refl
either_true false b is = inr is

used_each : (used more : List ℕ) (n q : ℕ) → AllUsed used more n → list_any (nat_eq q) (behind (length more) n) ≡ true → list_any (nat_eq q) used ≡ true
used_each used [] n q all there = ⊎_elim (λ e. subst (λ (k : ℕ). list_any (nat_eq k) used ≡ true) (sym (eqb-true q n e)) all) (λ e. absurd cc) (either_true (nat_eq q n) false there)
used_each used (one ∷ more) n q all there =
    ⊎_elim (λ e. subst (λ (k : ℕ). list_any (nat_eq k) used ≡ true) (sym (eqb-true q n e)) all.0) (λ e. used_each used more (next_number n) q all.1 e)
    (either_true (nat_eq q n) (list_any (nat_eq q) (behind (length more) (next_number n))) there)

behind_long : (k n : ℕ) → length (behind k n) ≡ k + 1
behind_long zero n = refl
behind_long (suc k) n = omega (arith, behind_long k (next_number n))

pub not_used : (used : List ℕ) (n : ℕ) → length used ≤ 3 → IsNumber n → list_any (nat_eq (raised_while used used n)) used ≡ false
not_used used n few is = by_used (list_any (nat_eq (raised_while used used n)) used) refl
  where
    by_used : (b : Bool) → list_any (nat_eq (raised_while used used n)) used ≡ b → b ≡ false
    by_used false e = refl
    by_used true e =
        let all = all_used used used n e in
        let fits : length (behind (length used) n) ≤ length used = length-le_from_is_member nat_eq_equiv (behind (length used) n) used (distinct (length used) n few is) (λ q there. used_each used used n q all there) in
        absurd (omega (arith, fits, behind_long (length used) n))
