-- Pieces of a list, and ranges of UIDs.
use Rattle.std.proofs.Common.{◌≡◌, ℕ, zero, suc, ◌+◌, ◌-◌, ◌/◌, ◌≤◌, Bool, true, false, cond, List, [], ◌∷◌, length, take, drop, nat_eq, refl, arith, length-take}
use Rattle.std.specs.Prelude.{All}
use Rattle.std.proofs.lemmas.Bool.Decides.{nat_tests}
use Rattle.std.proofs.lemmas.List.Elements.{All-cons, All-drop, All-head, All-nil, All-tail, All-take}
use Rattle.dv_model.specs.declared.types.Pair.{Pair}
use Rattle.dv_model.specs.Sessions.{first_pieces, piece_size, pieces, ranges_of, with_uid}
use Rattle.dv_model.specs.Spelling.{AreEnds, IsUid}

-- ---- pieces

-- at most as many items as a piece has, each as in the list
pub record IsPiece {X : Type 0} (P : X → Type 0) (xs : List X) : Type 0 where
  pub short : length xs ≤ 65536
  pub each : All P xs

first_pieces_are : {X : Type 0} (P : X → Type 0) (k : ℕ) (xs : List X) → All P xs → All (IsPiece P) (first_pieces k xs)
first_pieces_are P zero xs all = All-nil (IsPiece P)
first_pieces_are P (suc k) xs all =
    All-cons (IsPiece P) (take piece_size xs) (first_pieces k (drop piece_size xs))
    (record { short = omega (arith, length-take piece_size xs); each = All-take P piece_size xs all })
    (first_pieces_are P k (drop piece_size xs) (All-drop P piece_size xs all))

pub pieces_are : {X : Type 0} (P : X → Type 0) (xs : List X) → All P xs → All (IsPiece P) (pieces xs)
pieces_are P xs all = first_pieces_are P ((length xs + (piece_size - 1)) / piece_size) xs all

-- ---- ranges

abbrev pub IsRange : Pair → Type 0
IsRange pair = AreEnds pair.first pair.last

pub one_range : (uid : ℕ) → IsUid uid → All IsRange (record { first = uid; last = uid } ∷ [])
one_range uid is = All-cons IsRange (record { first = uid; last = uid }) [] (is.0, omega arith, omega (arith, is.1)) (All-nil IsRange)

with_uid_ranges : (uid : ℕ) (pairs : List Pair) → IsUid uid → All IsRange pairs → All IsRange (with_uid uid pairs)
with_uid_ranges uid [] is all = one_range uid is
with_uid_ranges uid (pair ∷ pairs) is all = by_test (nat_eq (uid + 1) pair.first) refl
  where
    first : IsRange pair
    first = All-head IsRange pair pairs all

    by_test : (b : Bool) → nat_eq (uid + 1) pair.first ≡ b
        → All IsRange (cond b (record { first = uid; last = pair.last } ∷ pairs) (record { first = uid; last = uid } ∷ pair ∷ pairs))
    by_test true same =
        let e : uid + 1 ≡ pair.first = grind (arith, nat_tests) in
        All-cons IsRange (record { first = uid; last = pair.last }) pairs (is.0, omega (arith, first.1), first.2) (All-tail IsRange pair pairs all)
    by_test false other = All-cons IsRange (record { first = uid; last = uid }) (pair ∷ pairs) (is.0, omega arith, omega (arith, is.1)) all

pub ranges_are : (uids : List ℕ) → All IsUid uids → All IsRange (ranges_of uids)
ranges_are [] all = All-nil IsRange
ranges_are (uid ∷ uids) all = with_uid_ranges uid (ranges_of uids) (All-head IsUid uid uids all) (ranges_are uids (All-tail IsUid uid uids all))
