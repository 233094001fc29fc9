-- The sessions that a generated script names.
use Rattle.std.proofs.Common.{◌≡◌, ◌<◌, ◌≤◌, ◌+◌, ◌%◌, ◌++◌, ◌∷◌, [], ◌∙◌, ℕ, List, zero, suc, Bool, true, false, cond, ◌||◌, nat_le, length, drop, fold, map, ap, refl, sym, arith}
use Rattle.std.specs.Prelude.{decimal}
use Rattle.std.specs.List.{list_any, range_with_len}
use Rattle.std.specs.Str.{bytes_eq}
use Rattle.std.proofs.Math.Nat.{mod-lt}
use Rattle.std.proofs.lemmas.Bool.{leb-false, leb-true}
use Rattle.std.proofs.lemmas.Fmt.{decimal_injective}
use Rattle.std.proofs.lemmas.List.Folds.{list_any-append}
use Rattle.std.proofs.lemmas.List.FromFn.{length-map-range_with_len, map-range_with_len_more}
use Rattle.std.proofs.lemmas.List.Sums.{fold-append}
use Rattle.std.proofs.lemmas.Slice.Eq.{bytes_eq-Decides}
use Rattle.dv_formats.specs.Generators.{command_drawn, commands_from, generated, session_name}
use Rattle.dv_formats.specs.Scripts.{and_session, sessions_of}
use Rattle.dv_gen.specs.Lines.{selected}

abbrev names : ℕ → List (List ℕ)
names n = map session_name (range_with_len 1 n)

one_name : (n : ℕ) → names (suc n) ≡ names n ++ session_name (suc n) ∷ []
one_name n =
    let more : suc n ≡ n + 1 = omega arith in
    ap names more ∙ map-range_with_len_more session_name 1 n (suc n) (omega arith)

one_selected : (n : ℕ) → map selected (range_with_len 1 (suc n)) ≡ map selected (range_with_len 1 n) ++ selected (suc n) ∷ []
one_selected n =
    let more : suc n ≡ n + 1 = omega arith in
    ap (λ m. map selected (range_with_len 1 m)) more ∙ map-range_with_len_more selected 1 n (suc n) (omega arith)

-- ---- names

or_none : (t : Bool) → t ≡ false → (t || false) ≡ false
or_none t is = ap (λ b. b || false) is

or_last : (t other : Bool) → other ≡ true → (t || (other || false)) ≡ true
or_last true other is = refl
or_last false other is = or_first other is
  where
    or_first : (other : Bool) → other ≡ true → (other || false) ≡ true
    or_first other is = ap (λ b. b || false) is

-- names of other numbers are others
others : (m j : ℕ) → j < m → m ≤ 64 → bytes_eq (session_name m) (session_name j) ≡ false
others m j less few = by_test (bytes_eq (session_name m) (session_name j)) refl
  where
    by_test : (t : Bool) → bytes_eq (session_name m) (session_name j) ≡ t → t ≡ false
    by_test false is = refl
    by_test true is =
        let same : decimal m ≡ decimal j = ap (drop 1) ((bytes_eq-Decides (session_name m) (session_name j)).0 is) in
        absurd (omega (arith, less, decimal_injective m j (omega (arith, few)) (omega (arith, few, less)) same))

new_name : (m n : ℕ) → n < m → m ≤ 64 → list_any (bytes_eq (session_name m)) (names n) ≡ false
new_name m zero less few = refl
new_name m (suc n) less few =
    let test = bytes_eq (session_name m) in
    ap (list_any test) (one_name n) ∙ list_any-append test (names n) (session_name (suc n) ∷ [])
    ∙ ap (λ t. t || (test (session_name (suc n)) || false)) (new_name m n (omega (arith, less)) few)
    ∙ or_none (test (session_name (suc n))) (others m (suc n) less few)

known_name : (k n : ℕ) → 1 ≤ k → k ≤ n → list_any (bytes_eq (session_name k)) (names n) ≡ true
known_name k zero one most = absurd (omega (arith, one, most))
known_name k (suc n) one most =
    ap (list_any (bytes_eq (session_name k))) (one_name n) ∙ list_any-append (bytes_eq (session_name k)) (names n) (session_name (suc n) ∷ [])
    ∙ by_size (nat_le k n) refl (λ less. known_name k n one less)
  where
    by_size : (t : Bool) → nat_le k n ≡ t → (k ≤ n → list_any (bytes_eq (session_name k)) (names n) ≡ true)
        → (list_any (bytes_eq (session_name k)) (names n) || (bytes_eq (session_name k) (session_name (suc n)) || false)) ≡ true
    by_size true is before = ap (λ t. t || (bytes_eq (session_name k) (session_name (suc n)) || false)) (before (leb-true k n is))
    by_size false is before =
        let same : k ≡ suc n = omega (arith, most, leb-false k n is) in
        or_last (list_any (bytes_eq (session_name k)) (names n)) (bytes_eq (session_name k) (session_name (suc n))) ((bytes_eq-Decides (session_name k) (session_name (suc n))).1 (ap session_name same))

-- ---- lines

selects_name : (n : ℕ) → n ≤ 64 → fold and_session [] (map selected (range_with_len 1 n)) ≡ names n
selects_name zero few = refl
selects_name (suc n) few =
    ap (fold and_session []) (one_selected n)
    ∙ fold-append and_session [] (map selected (range_with_len 1 n)) (selected (suc n) ∷ [])
    ∙ ap (λ ns. and_session ns (selected (suc n))) (selects_name n (omega (arith, few)))
    ∙ ap (λ t. cond t (names n) (names n ++ session_name (suc n) ∷ [])) (new_name (suc n) n (omega arith) few)
    ∙ sym (one_name n)

commands_name : (sessions i count state : ℕ) → 1 ≤ sessions → fold and_session (names sessions) (commands_from sessions i count state) ≡ names sessions
commands_name sessions i zero state some = refl
commands_name sessions i (suc count) state some =
    let one = command_drawn i state in
    let name = session_name (i % sessions + 1) in
    let less : i % sessions < sessions = mod-lt i (omega (arith, some)) in
    ap (λ t. fold and_session (cond t (names sessions) (names sessions ++ name ∷ [])) (commands_from sessions (i + 1) count one.1)) (known_name (i % sessions + 1) sessions (omega arith) (omega (arith, less)))
    ∙ commands_name sessions (i + 1) count one.1 some

-- as many sessions as are told
pub sessions_are : (seed count sessions : ℕ) → 1 ≤ sessions → sessions ≤ 64 → length (sessions_of (generated seed count sessions)) ≡ sessions
sessions_are seed count sessions some few =
    ap length
    (fold-append and_session [] (map selected (range_with_len 1 sessions)) (commands_from sessions 0 count seed)
    ∙ ap (λ ns. fold and_session ns (commands_from sessions 0 count seed)) (selects_name sessions few)
    ∙ commands_name sessions 0 count seed some)
    ∙ length-map-range_with_len session_name 1 sessions
