-- The names of a script's sessions are apart, and each line's is among them.
use Rattle.std.proofs.Common.{◌≡◌, ℕ, zero, suc, ◌+◌, ◌<◌, ◌≤◌, Bool, true, false, cond, List, [], ◌∷◌, ◌++◌, length, get_or, nat_eq, refl, sym, ◌∙◌, ap, arith}
use Rattle.std.specs.Prelude.{⊤, ◌||◌, fold}
use Rattle.std.specs.List.{AllByRecursion, list_any}
use Rattle.std.specs.Str.{bytes_eq}
use Rattle.std.proofs.lemmas.Bool.Decides.{nat_tests}
use Rattle.std.proofs.lemmas.Slice.Eq.{bytes_eq-Decides}
use Rattle.dv_formats.specs.Scripts.{NamedLine, and_session, sessions_of}
use Rattle.dv_serving.specs.Scripts.{number_among}

-- ---- equal bytes

pub same_bytes : (a : List ℕ) → bytes_eq a a ≡ true
same_bytes a = (bytes_eq-Decides a a).1 refl

pub equal_bytes : (a b : List ℕ) → bytes_eq a b ≡ true → a ≡ b
equal_bytes a b e = (bytes_eq-Decides a b).0 e

pub turned : (a b : List ℕ) → bytes_eq a b ≡ bytes_eq b a
turned a b = by_test (bytes_eq a b) (bytes_eq b a) refl refl
  where
    by_test : (s t : Bool) → bytes_eq a b ≡ s → bytes_eq b a ≡ t → bytes_eq a b ≡ bytes_eq b a
    by_test true true e f = e ∙ sym f
    by_test false false e f = e ∙ sym f
    by_test true false e f = e ∙ sym ((bytes_eq-Decides b a).1 (sym (equal_bytes a b e)))
    by_test false true e f = (bytes_eq-Decides a b).1 (sym (equal_bytes b a f)) ∙ sym f

-- ---- names that are apart

-- none is this name
abbrev pub Lacks : List (List ℕ) → List ℕ → Type 0
Lacks [] name = ⊤
Lacks (first ∷ names) name = (bytes_eq name first ≡ false) × Lacks names name

-- no two are the same
abbrev pub AreApart : List (List ℕ) → Type 0
AreApart [] = ⊤
AreApart (name ∷ names) = Lacks names name × AreApart names

pub lacks_by : (names : List (List ℕ)) (name : List ℕ) → list_any (bytes_eq name) names ≡ false
    → Lacks names name
lacks_by [] name none = tt
lacks_by (first ∷ names) name none =
    by_test (bytes_eq name first) refl none (λ e. lacks_by names name e)
  where
    by_test : (t : Bool) → bytes_eq name first ≡ t → (t || list_any (bytes_eq name) names) ≡ false
        → (list_any (bytes_eq name) names ≡ false → Lacks names name) → Lacks (first ∷ names) name
    by_test true e f rest = absurd cc
    by_test false e f rest = (e, rest f)

lacks_more : (names : List (List ℕ)) (name last : List ℕ) → Lacks names name
    → bytes_eq name last ≡ false → Lacks (names ++ last ∷ []) name
lacks_more [] name last none other = (other, tt)
lacks_more (first ∷ names) name last none other = (none.0, lacks_more names name last none.1 other)

apart_more : (names : List (List ℕ)) (last : List ℕ) → AreApart names → Lacks names last
    → AreApart (names ++ last ∷ [])
apart_more [] last apart none = (tt, tt)
apart_more (first ∷ names) last apart none =
    (lacks_more names first last apart.0 (turned first last ∙ none.0), apart_more names last apart.1 none.1)

pub lacks_at : (names : List (List ℕ)) (name : List ℕ) (k : ℕ) (d : List ℕ) → Lacks names name
    → k < length names → bytes_eq name (get_or names k d) ≡ false
lacks_at [] name k d none less = absurd (omega (arith, less))
lacks_at (first ∷ names) name zero d none less = none.0
lacks_at (first ∷ names) name (suc k) d none less =
    lacks_at names name k d none.1 (omega (arith, less))

apart_behind : (names : List (List ℕ)) (lines : List NamedLine) → AreApart names
    → AreApart (fold and_session names lines)
apart_behind names [] apart = apart
apart_behind names (line ∷ lines) apart =
    by_test (list_any (bytes_eq line.0) names) refl (λ more is. apart_behind more lines is)
  where
    by_test : (t : Bool) → list_any (bytes_eq line.0) names ≡ t
        → ((more : List (List ℕ)) → AreApart more → AreApart (fold and_session more lines))
        → AreApart (fold and_session (cond t names (names ++ line.0 ∷ [])) lines)
    by_test true e rest = rest names apart
    by_test false e rest =
        rest (names ++ line.0 ∷ []) (apart_more names line.0 apart (lacks_by names line.0 e))

-- the sessions of a script are
pub sessions_apart : (lines : List NamedLine) → AreApart (sessions_of lines)
sessions_apart lines = apart_behind [] lines tt

-- ---- numbers

number_from_one : (names : List (List ℕ)) (name : List ℕ) → 1 ≤ number_among names name
number_from_one [] name = omega arith
number_from_one (first ∷ names) name = by_test (bytes_eq name first)
  where
    by_test : (t : Bool) → 1 ≤ cond t 1 (1 + number_among names name)
    by_test true = omega arith
    by_test false = omega arith

-- a name has the number of a session just where it is that session's
pub number_test : (names : List (List ℕ)) (name : List ℕ) (k : ℕ) (d : List ℕ) → AreApart names
    → k < length names
    → nat_eq (number_among names name) (k + 1) ≡ bytes_eq name (get_or names k d)
number_test [] name k d apart less = absurd (omega (arith, less))
number_test (first ∷ names) name zero d apart less = by_test (bytes_eq name first)
  where
    by_test : (t : Bool) → nat_eq (cond t 1 (1 + number_among names name)) (0 + 1) ≡ t
    by_test true = refl
    by_test false = let up = number_from_one names name in grind (arith, nat_tests)
number_test (first ∷ names) name (suc k) d apart less =
    by_test (bytes_eq name first) refl (number_test names name k d apart.1 (omega (arith, less)))
  where
    other : bytes_eq name first ≡ true → bytes_eq name (get_or names k d) ≡ false
    other e =
        ap (λ n. bytes_eq n (get_or names k d)) (equal_bytes name first e)
        ∙ lacks_at names first k d apart.0 (omega (arith, less))

    by_test : (t : Bool) → bytes_eq name first ≡ t
        → nat_eq (number_among names name) (k + 1) ≡ bytes_eq name (get_or names k d)
        → nat_eq (cond t 1 (1 + number_among names name)) (suc k + 1) ≡ bytes_eq name (get_or names k d)
    by_test true e rest = grind (arith, nat_tests) ∙ sym (other e)
    by_test false e rest = grind (arith, nat_tests) ∙ rest

-- ---- each line is of a session

known_more : (names : List (List ℕ)) (name last : List ℕ) → list_any (bytes_eq name) names ≡ true
    → list_any (bytes_eq name) (names ++ last ∷ []) ≡ true
known_more [] name last known = absurd cc
known_more (first ∷ names) name last known =
    by_test (bytes_eq name first) known (λ e. known_more names name last e)
  where
    by_test : (t : Bool) → (t || list_any (bytes_eq name) names) ≡ true
        → (list_any (bytes_eq name) names ≡ true → list_any (bytes_eq name) (names ++ last ∷ []) ≡ true)
        → (t || list_any (bytes_eq name) (names ++ last ∷ [])) ≡ true
    by_test true e rest = refl
    by_test false e rest = rest e

known_last : (names : List (List ℕ)) (name : List ℕ)
    → list_any (bytes_eq name) (names ++ name ∷ []) ≡ true
known_last [] name = rw (same_bytes name) refl
known_last (first ∷ names) name = by_test (bytes_eq name first) (known_last names name)
  where
    by_test : (t : Bool) → list_any (bytes_eq name) (names ++ name ∷ []) ≡ true
        → (t || list_any (bytes_eq name) (names ++ name ∷ [])) ≡ true
    by_test true rest = refl
    by_test false rest = rest

known_behind : (names : List (List ℕ)) (name : List ℕ) (lines : List NamedLine)
    → list_any (bytes_eq name) names ≡ true
    → list_any (bytes_eq name) (fold and_session names lines) ≡ true
known_behind names name [] known = known
known_behind names name (line ∷ lines) known =
    by_test (list_any (bytes_eq line.0) names) (λ more is. known_behind more name lines is)
  where
    by_test : (t : Bool)
        → ((more : List (List ℕ)) → list_any (bytes_eq name) more ≡ true
        → list_any (bytes_eq name) (fold and_session more lines) ≡ true)
        → list_any (bytes_eq name) (fold and_session (cond t names (names ++ line.0 ∷ [])) lines) ≡ true
    by_test true rest = rest names known
    by_test false rest = rest (names ++ line.0 ∷ []) (known_more names name line.0 known)

-- each line's session is among these names
abbrev pub AreKnown : List (List ℕ) → List NamedLine → Type 0
AreKnown names lines = AllByRecursion (λ (l : NamedLine). list_any (bytes_eq l.0) names ≡ true) lines

known_from : (names : List (List ℕ)) (lines : List NamedLine)
    → AreKnown (fold and_session names lines) lines
known_from names [] = tt
known_from names (line ∷ lines) =
    by_test (list_any (bytes_eq line.0) names) refl (λ more. known_from more lines)
  where
    by_test : (t : Bool) → list_any (bytes_eq line.0) names ≡ t
        → ((more : List (List ℕ)) → AreKnown (fold and_session more lines) lines)
        → (list_any (bytes_eq line.0) (fold and_session (cond t names (names ++ line.0 ∷ [])) lines) ≡ true)
        × AreKnown (fold and_session (cond t names (names ++ line.0 ∷ [])) lines) lines
    by_test true e rest = (known_behind names line.0 lines e, rest names)
    by_test false e rest =
        (known_behind (names ++ line.0 ∷ []) line.0 lines (known_last names line.0), rest (names ++ line.0 ∷ []))

pub lines_known : (lines : List NamedLine) → AreKnown (sessions_of lines) lines
lines_known lines = known_from [] lines

-- so its number is one of theirs
pub number_within : (names : List (List ℕ)) (name : List ℕ) → list_any (bytes_eq name) names ≡ true
    → (1 ≤ number_among names name) × (number_among names name ≤ length names)
number_within [] name known = absurd cc
number_within (first ∷ names) name known =
    by_test (bytes_eq name first) known (λ e. number_within names name e)
  where
    by_test : (t : Bool) → (t || list_any (bytes_eq name) names) ≡ true
        → (list_any (bytes_eq name) names ≡ true
        → (1 ≤ number_among names name) × (number_among names name ≤ length names))
        → (1 ≤ cond t 1 (1 + number_among names name))
        × (cond t 1 (1 + number_among names name) ≤ length (first ∷ names))
    by_test true e rest = (omega arith, omega arith)
    by_test false e rest = (omega arith, omega (arith, (rest e).1))
