-- Sessions are found by their numbers.
use Rattle.std.proofs.Common.{◌≡◌, ℕ, ◌<◌, Bool, true, false, cond, List, [], ◌∷◌, ◌++◌, length, map, get_or, nat_eq, Option, Some, None, refl, sym, ◌∙◌, ap, subst, arith}
use Rattle.std.specs.Prelude.{find, is_some, position, option_map, slice_get, slice_set}
use Rattle.std.specs.List.{position_or_len}
use Rattle.std.specs.Option.{option_or}
use Rattle.std.proofs.Math.Path.{fun_ext}
use Rattle.std.proofs.lemmas.Bool.Decides.{nat_tests}
use Rattle.std.proofs.lemmas.List.{map-append}
use Rattle.std.proofs.lemmas.List.Folds.{find-append, find-set, find_past}
use Rattle.std.proofs.lemmas.List.Quantifiers.{position-Some}
use Rattle.std.proofs.lemmas.Option.{slice_get_read}
use Rattle.dv_view.proofs.Finding.{any_by_place, any_is_found, found_at, found_nowhere}
use Rattle.dv_interleavings.specs.Worlds.{Session}
use Rattle.dv_world.specs.declared.kept.Seat.{Seat}
use Rattle.dv_world.specs.Shapes.{session_at, session_of, seated}
use Rattle.dv_world.proofs.Lists.{find_map, find_passes}

abbrev pub is_of : ℕ → Seat → Bool
is_of s seat = nat_eq seat.number s

-- the session of a number is that of the first seat
pub at_is : (seats : List Seat) (s : ℕ) → session_at (map seated seats) s ≡ option_map session_of (find (is_of s) seats)
at_is seats s = ap (option_map (λ (one : ℕ × Session). one.1)) (find_map seated (λ (one : ℕ × Session). nat_eq one.0 s) seats) ∙ again (find (is_of s) seats)
  where
    again : (o : Option Seat) → option_map (λ (one : ℕ × Session). one.1) (option_map seated o) ≡ option_map session_of o
    again None = refl
    again (Some seat) = refl

pub found : (seats : List Seat) (s k : ℕ) (seat : Seat) → position (is_of s) seats ≡ Some k → slice_get seats k ≡ Some seat → session_at (map seated seats) s ≡ Some (session_of seat)
found seats s k seat at is = at_is seats s ∙ ap (option_map session_of) (found_at (is_of s) seats k seat at is)

pub none : (seats : List Seat) (s : ℕ) → position (is_of s) seats ≡ None → session_at (map seated seats) s ≡ None
none seats s at = at_is seats s ∙ ap (option_map session_of) (found_nowhere (is_of s) seats at)

-- the place is the first
first_place : (seats : List Seat) (s k : ℕ) → position (is_of s) seats ≡ Some k → (d : Seat) → k ≡ position_or_len (is_of s) seats
first_place seats s k at d = let is = position-Some (is_of s) seats k d at in grind (arith, at)

-- the seat that is read there
pub there_is : (seats : List Seat) (s k : ℕ) (seat : Seat) → position (is_of s) seats ≡ Some k → seat ≡ get_or seats k seat → slice_get seats k ≡ Some seat
there_is seats s k seat at is = slice_get_read seats (length seats) k seat refl (position-Some (is_of s) seats k seat at).0 is

-- one session is changed
pub replaced : (seats : List Seat) (s k : ℕ) (d seat : Seat) → position (is_of s) seats ≡ Some k → seat.number ≡ s
    → session_at (map seated (slice_set seats k seat)) ≡ (λ t. cond (nat_eq s t) (Some (session_of seat)) (session_at (map seated seats) t))
replaced seats s k d seat at number = fun_ext (λ t. by_test t (nat_eq s t) refl)
  where
    is : (k < length seats) × (is_of s (get_or seats k d) ≡ true) × ((j : ℕ) → j < k → is_of s (get_or seats j d) ≡ false)
    is = position-Some (is_of s) seats k d at

    by_test : (t : ℕ) (b : Bool) → nat_eq s t ≡ b → session_at (map seated (slice_set seats k seat)) t ≡ cond b (Some (session_of seat)) (session_at (map seated seats) t)
    by_test t true same =
        let e : t ≡ s = grind (arith, nat_tests) in
        at_is (slice_set seats k seat) t
        ∙ ap (λ (n : ℕ). option_map session_of (find (is_of n) (slice_set seats k seat))) e
        ∙ ap (option_map session_of) (find-set (is_of s) seats k seat (first_place seats s k at d) is.0 (ap (λ n. nat_eq n s) number ∙ grind (arith, nat_tests)))
    by_test t false differs =
        at_is (slice_set seats k seat) t
        ∙ ap (option_map session_of) (find_past (is_of t) seats k seat d (grind (arith, nat_tests, is.1)) (ap (λ n. nat_eq n t) number ∙ differs))
        ∙ sym (at_is seats t)

-- one session is new
pub added : (seats : List Seat) (seat : Seat) → session_at (map seated seats) seat.number ≡ None
    → session_at (map seated (seats ++ seat ∷ [])) ≡ (λ t. cond (nat_eq seat.number t) (Some (session_of seat)) (session_at (map seated seats) t))
added seats seat absent = fun_ext (λ t. at_is (seats ++ seat ∷ []) t ∙ ap (option_map session_of) (find-append (is_of t) seats (seat ∷ [])) ∙ by_test t (nat_eq seat.number t) refl)
  where
    no_other : (o : Option Seat) → option_or o None ≡ o
    no_other None = refl
    no_other (Some x) = refl

    no_first : (o other : Option Seat) → option_map session_of o ≡ None → option_or o other ≡ other
    no_first None other e = refl
    no_first (Some x) other e = absurd cc

    by_test : (t : ℕ) (b : Bool) → nat_eq seat.number t ≡ b
        → option_map session_of (option_or (find (is_of t) seats) (cond b (Some seat) None)) ≡ cond b (Some (session_of seat)) (session_at (map seated seats) t)
    by_test t true same =
        let e : t ≡ seat.number = grind (arith, nat_tests) in
        ap (option_map session_of) (no_first (find (is_of t) seats) (Some seat) (sym (at_is seats t) ∙ ap (session_at (map seated seats)) e ∙ absent))
    by_test t false differs = ap (option_map session_of) (no_other (find (is_of t) seats)) ∙ sym (at_is seats t)

-- the session that is found has the number
pub number_is : (seats : List Seat) (s k : ℕ) (seat : Seat) → position (is_of s) seats ≡ Some k → slice_get seats k ≡ Some seat → seat.number ≡ s
number_is seats s k seat at is = let passes = find_passes (is_of s) seats seat (found_at (is_of s) seats k seat at is) in grind (arith, nat_tests, passes)

-- there is a session of the number
pub some_there : (seats : List Seat) (s : ℕ) → is_some (position (is_of s) seats) ≡ true → (session : Session) × (session_at (map seated seats) s ≡ Some session)
some_there seats s some = by_found (find (is_of s) seats) refl (sym (any_is_found (is_of s) seats) ∙ any_by_place (is_of s) seats (position (is_of s) seats) refl ∙ some)
  where
    by_found : (o : Option Seat) → find (is_of s) seats ≡ o → is_some (find (is_of s) seats) ≡ true → (session : Session) × (session_at (map seated seats) s ≡ Some session)
    by_found None e is = let never : false ≡ true = sym (ap is_some e) ∙ is in absurd cc
    by_found (Some seat) e is = (session_of seat, at_is seats s ∙ ap (option_map session_of) e)

pub none_of : {X : Type 0} (o : Option X) → is_some o ≡ false → o ≡ None
none_of None e = refl
none_of (Some x) e = absurd cc
