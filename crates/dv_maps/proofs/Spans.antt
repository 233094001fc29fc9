-- A UID is in the ranges of a list exactly where the list has it.
use Rattle.std.proofs.Common.{◌≡◌, ℕ, ◌+◌, ◌≤◌, Bool, true, false, cond, List, [], ◌∷◌, nat_eq, refl, ◌∙◌, ap, arith}
use Rattle.std.specs.Prelude.{◌||◌, ◌&&◌, All, nat_le}
use Rattle.std.specs.List.{list_any}
use Rattle.std.proofs.lemmas.Bool.Decides.{nat_tests}
use Rattle.std.proofs.lemmas.List.Elements.{All-head, All-tail}
use Rattle.dv_model.specs.declared.types.Pair.{Pair}
use Rattle.dv_model.specs.Effects.{is_in_pairs}
use Rattle.dv_model.specs.Sessions.{ranges_of, with_uid}
use Rattle.dv_model.specs.Spelling.{IsUid}
use Rattle.dv_validity.proofs.Pieces.{IsRange, ranges_are}

one_uid : (uid u : ℕ) → (nat_le uid u && nat_le u uid) ≡ nat_eq u uid
one_uid uid u = grind (arith, nat_tests)

one_more : (uid first last u : ℕ) → uid + 1 ≡ first → first ≤ last → (nat_le uid u && nat_le u last) ≡ (nat_eq u uid || (nat_le first u && nat_le u last))
one_more uid first last u next order = grind (arith, nat_tests)

or_same : (a b c : Bool) → ((a || b) || c) ≡ (a || (b || c))
or_same true b c = refl
or_same false b c = refl

in_more : (uid u : ℕ) (pairs : List Pair) → All IsRange pairs → is_in_pairs (with_uid uid pairs) u ≡ (nat_eq u uid || is_in_pairs pairs u)
in_more uid u [] all = ap (λ (b : Bool). b || false) (one_uid uid u)
in_more uid u (pair ∷ pairs) all = by_test (nat_eq (uid + 1) pair.first) refl
  where
    by_test : (b : Bool) → nat_eq (uid + 1) pair.first ≡ b
        → is_in_pairs (cond b (record { first = uid; last = pair.last } ∷ pairs) (record { first = uid; last = uid } ∷ pair ∷ pairs)) u
        ≡ (nat_eq u uid || is_in_pairs (pair ∷ pairs) u)
    by_test true same =
        let e : uid + 1 ≡ pair.first = grind (arith, nat_tests) in
        let order : pair.first ≤ pair.last = (All-head IsRange pair pairs all).1 in
        ap (λ (b : Bool). b || is_in_pairs pairs u) (one_more uid pair.first pair.last u e order)
        ∙ or_same (nat_eq u uid) (nat_le pair.first u && nat_le u pair.last) (is_in_pairs pairs u)
    by_test false other = ap (λ (b : Bool). b || is_in_pairs (pair ∷ pairs) u) (one_uid uid u)

pub in_ranges : (uids : List ℕ) → All IsUid uids → (u : ℕ) → is_in_pairs (ranges_of uids) u ≡ list_any (nat_eq u) uids
in_ranges [] all u = refl
in_ranges (uid ∷ uids) all u =
    let tail = All-tail IsUid uid uids all in
    in_more uid u (ranges_of uids) (ranges_are uids tail) ∙ ap (λ (b : Bool). nat_eq u uid || b) (in_ranges uids tail u)
