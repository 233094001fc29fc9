-- Reading line by line.
use Rattle.std.proofs.Common.{◌≡◌, ℕ, zero, suc, ◌+◌, ◌-◌, ◌<◌, ◌≤◌, Bool, true, false, cond, List, [], ◌∷◌, ◌++◌, length, take, Ok, Err, refl, sym, ◌∙◌, ap, arith, nat_eq}
use Rattle.std.specs.Prelude.{count_by}
use Rattle.std.proofs.lemmas.Bool.{eq-eqb, eqb-false, eqb-true, ne_eqb}
use Rattle.std.proofs.lemmas.List.{length-append, take_at}
use Rattle.std.proofs.lemmas.List.Sums.{sum_by-append, sum_by-cons}
use Rattle.dv_formats.specs.Scripts.{NamedLine}
use Rattle.dv_formats.specs.Parsing.{LineFault, TakenLine, as_list, fault_at, feeds_before, first_line, is_byte, line_at, lines_at}

-- ---- line feeds

abbrev once : Bool → ℕ
once t = cond t 1 0

pub count_append : (p : ℕ → Bool) (xs ys : List ℕ) → count_by p (xs ++ ys) ≡ count_by p xs + count_by p ys
count_append p xs ys = sum_by-append (λ x. once (p x)) xs ys

turned : (m n : ℕ) → nat_eq m n ≡ nat_eq n m
turned m n = by_test (nat_eq n m) refl
  where
    by_test : (t : Bool) → nat_eq n m ≡ t → nat_eq m n ≡ t
    by_test true is = eq-eqb m n (sym (eqb-true n m is))
    by_test false is = ne_eqb m n (λ same. eqb-false n m is (sym same))

same_feeds : (xs : List ℕ) → count_by (is_byte 10) xs ≡ count_by (nat_eq 10) xs
same_feeds [] = refl
same_feeds (x ∷ xs) = omega (arith, sum_by-cons (λ y. once (is_byte 10 y)) x xs, sum_by-cons (λ y. once (nat_eq 10 y)) x xs, ap once (turned x 10), same_feeds xs)

-- those of what was taken are counted
pub feeds_are : (part rest : List ℕ) → feeds_before (part ++ rest) rest ≡ count_by (nat_eq 10) part
feeds_are part rest =
    let size : length (part ++ rest) - length rest ≡ length part = omega (arith, length-append part rest) in
    let taken : take (length (part ++ rest) - length rest) (part ++ rest) ≡ part = ap (λ n. take n (part ++ rest)) size ∙ take_at part rest (length part) refl in
    ap (count_by (is_byte 10)) taken ∙ same_feeds part

-- ---- one line more

pub step : (most k : ℕ) (lines : List NamedLine) (names : List (List ℕ)) (b : List ℕ) (taken : TakenLine) → 1 ≤ length b → length b ≤ most
    → line_at names (first_line b).0 (first_line b).1 ≡ Ok taken
    → lines_at most k lines names b ≡ lines_at (most - 1) (k + feeds_before b taken.2) (lines ++ as_list taken.0) taken.1 taken.2
unfolding lines_at
step most k lines names [] taken some enough read = absurd (omega (arith, some))
step zero k lines names (x ∷ b) taken some enough read = absurd (omega (arith, enough))
step (suc most) k lines names (x ∷ b) taken some enough read =
    let fewer : suc most - 1 ≡ most = omega arith in
    rw read (ap (λ n. lines_at n (k + feeds_before (x ∷ b) taken.2) (lines ++ as_list taken.0) taken.1 taken.2) (sym fewer))

pub faulty : (most k : ℕ) (lines : List NamedLine) (names : List (List ℕ)) (rest : List ℕ) (fault : LineFault) → 0 < length rest → length rest ≤ most
    → line_at names (first_line rest).0 (first_line rest).1 ≡ Err fault → lines_at most k lines names rest ≡ Err (fault_at k fault)
unfolding lines_at
faulty most k lines names [] fault some enough e = absurd (omega (arith, some))
faulty zero k lines names (x ∷ rest) fault some enough e = absurd (omega (arith, enough))
faulty (suc most) k lines names (x ∷ rest) fault some enough e = rw e refl

pub none_left : (most k : ℕ) (lines : List NamedLine) (names : List (List ℕ)) → lines_at most k lines names [] ≡ Ok lines
unfolding lines_at
none_left zero k lines names = refl
none_left (suc most) k lines names = refl
