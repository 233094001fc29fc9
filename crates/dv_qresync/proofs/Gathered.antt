-- Ranges of UIDs: what is in them, and how they are gathered from the highest down.
use Rattle.std.proofs.Common.{◌≡◌, ◌≢◌, ◌⊎◌, inl, inr, ℕ, zero, suc, ◌+◌, ◌-◌, ◌<◌, ◌≤◌, Bool, true, false, cond, ◌&&◌, ◌||◌, List, [], ◌∷◌, ◌++◌, length, get_or, nat_eq, take, Some, refl, sym, ◌∙◌, ap, subst, arith}
use Rattle.std.specs.Prelude.{All, Any, filter, flat_map, map, max, min, nat_le, reverse, slice_get}
use Rattle.std.specs.List.{AllByRecursion, list_any, range_with_len}
use Rattle.std.proofs.lemmas.Bool.{and_from, and_left, and_parts, and_right, cases_lt, eq-eqb, eqb-true, le-leb, leb-true, lt-leb, ne_eqb, not_from_false, not_from_true, or_from, or_left}
use Rattle.std.proofs.lemmas.Bool.Decides.{nat_tests}
use Rattle.std.proofs.lemmas.List.{append-nil, get_or-map, get_or_append_left, get_or_push, length-append, length-map, length_push, reverse-append}
use Rattle.std.proofs.lemmas.List.Elements.{All-cons, All-head, All-nil, All-tail, All-weaker, filter-append}
use Rattle.std.proofs.lemmas.List.Concat.{flat_map-append}
use Rattle.std.proofs.lemmas.List.Folds.{Any-from_list_any, list_any-append, list_any_at, list_any_more, list_any_none}
use Rattle.std.proofs.lemmas.List.Kept.{AllPairs-from_increasing}
use Rattle.std.proofs.lemmas.Option.{get_or_from_slice_get}
use Rattle.dv_model.specs.declared.types.Mailbox.{Mailbox}
use Rattle.dv_model.specs.declared.types.Pair.{Pair}
use Rattle.dv_model.specs.declared.types.Row.{Row}
use Rattle.dv_model.specs.declared.types.Span.{Span}
use Rattle.dv_model.specs.Effects.{is_in_pair, is_in_pairs}
use Rattle.dv_model.specs.Mailboxes.{IsRowOf, IsValid}
use Rattle.dv_model.specs.Sessions.{ranges_of, with_uid}
use Rattle.dv_model.specs.Sets.{end_value, is_in_set, is_in_span}
use Rattle.dv_ranges.specs.Ranges.{AreFrom, ArePairsApart}
use Rattle.dv_qresync.specs.Answers.{given_uids, gone_ranges, is_gone, is_no_row}
use Rattle.dv_ranges.proofs.Apart.{end, front as front_of}
use Rattle.dv_qresync.specs.Ranges.{AreBefore, AreBehind, IsUidBefore, IsWithin, free_uids, uids_of, with_uids}
use Rattle.dv_qresync.specs.Replicas.{span_of}

-- ---- UIDs in front of ranges

pub with_uids_append : (xs ys : List ℕ) (pairs : List Pair) → with_uids (xs ++ ys) pairs ≡ with_uids xs (with_uids ys pairs)
with_uids_append [] ys pairs = refl
with_uids_append (x ∷ xs) ys pairs = ap (with_uid x) (with_uids_append xs ys pairs)

pub ranges_are : (uids : List ℕ) → with_uids uids [] ≡ ranges_of uids
ranges_are [] = refl
ranges_are (uid ∷ uids) = ap (with_uid uid) (ranges_are uids)

-- a range in front of ranges
abbrev pub with_range : ℕ → ℕ → List Pair → List Pair
with_range first last [] = record { first = first; last = last } ∷ []
with_range first last (p ∷ ps) = cond (nat_eq (last + 1) p.first) (record { first = first; last = p.last } ∷ ps) (record { first = first; last = last } ∷ p ∷ ps)

one_uid : (uid : ℕ) (pairs : List Pair) → with_uid uid pairs ≡ with_range uid uid pairs
one_uid uid [] = refl
one_uid uid (p ∷ ps) = refl

abbrev pub one : ℕ → ℕ → Pair
one first last = record { first = first; last = last }

front : (first last : ℕ) (pairs : List Pair) → with_uid first (with_range (first + 1) last pairs) ≡ with_range first last pairs
front first last [] = ap (λ (b : Bool). cond b (one first last ∷ []) (one first first ∷ one (first + 1) last ∷ [])) (eq-eqb (first + 1) (first + 1) refl)
front first last (p ∷ ps) = by_test (nat_eq (last + 1) p.first)
  where
    by_test : (b : Bool) → with_uid first (cond b (one (first + 1) p.last ∷ ps) (one (first + 1) last ∷ p ∷ ps)) ≡ cond b (one first p.last ∷ ps) (one first last ∷ p ∷ ps)
    by_test true = ap (λ (b : Bool). cond b (one first p.last ∷ ps) (one first first ∷ one (first + 1) p.last ∷ ps)) (eq-eqb (first + 1) (first + 1) refl)
    by_test false = ap (λ (b : Bool). cond b (one first last ∷ p ∷ ps) (one first first ∷ one (first + 1) last ∷ p ∷ ps)) (eq-eqb (first + 1) (first + 1) refl)

block : (n first last : ℕ) (pairs : List Pair) → first + n ≡ last → with_uids (range_with_len first (suc n)) pairs ≡ with_range first last pairs
block zero first last pairs is = let same : first ≡ last = omega arith in one_uid first pairs ∙ ap (λ l. with_range first l pairs) same
block (suc n) first last pairs is = ap (with_uid first) (block n (first + 1) last pairs (omega arith)) ∙ front first last pairs

pub range_put : (range : Pair) (pairs : List Pair) → range.first ≤ range.last → with_uids (uids_of range) pairs ≡ with_range range.first range.last pairs
range_put range pairs le =
    let many : range.last + 1 - range.first ≡ suc (range.last - range.first) = omega arith in
    ap (λ n. with_uids (range_with_len range.first n) pairs) many ∙ block (range.last - range.first) range.first range.last pairs (omega arith)

pub no_range : (range : Pair) → range.last < range.first → uids_of range ≡ []
no_range range less = let none : range.last + 1 - range.first ≡ 0 = omega arith in ap (range_with_len range.first) none

reverse_more : (xs : List Pair) (x : Pair) → reverse (xs ++ x ∷ []) ≡ x ∷ reverse xs
reverse_more xs x = reverse-append xs (x ∷ [])

-- a range is put in front of no other
pub put_first : (range : Pair) (old mid new : List Pair) → range.first ≤ range.last → old ≡ [] → mid ≡ [] → new ≡ mid ++ range ∷ [] → reverse new ≡ with_uids (uids_of range) (reverse old)
put_first range old mid new some none left is =
    ap reverse is ∙ ap (λ (ps : List Pair). reverse (ps ++ range ∷ [])) left ∙ sym (ap (λ (ps : List Pair). with_uids (uids_of range) (reverse ps)) none ∙ range_put range [] some)

-- or of one with which it is joined
pub put_joined : (range next : Pair) (old mid new : List Pair) → range.first ≤ range.last → old ≡ mid ++ next ∷ [] → new ≡ mid ++ one range.first next.last ∷ [] → range.last + 1 ≡ next.first
    → reverse new ≡ with_uids (uids_of range) (reverse old)
put_joined range next old mid new some was is joins =
    ap reverse is ∙ reverse_more mid (one range.first next.last)
    ∙ sym (ap (λ (ps : List Pair). with_uids (uids_of range) (reverse ps)) was
    ∙ ap (with_uids (uids_of range)) (reverse_more mid next)
    ∙ range_put range (next ∷ reverse mid) some
    ∙ ap (λ (b : Bool). cond b (one range.first next.last ∷ reverse mid) (range ∷ next ∷ reverse mid)) (eq-eqb (range.last + 1) next.first joins))

-- or of one from which it stays apart
pub put_apart : (range next : Pair) (old mid new : List Pair) → range.first ≤ range.last → old ≡ mid ++ next ∷ [] → new ≡ (mid ++ next ∷ []) ++ range ∷ [] → (range.last + 1 ≡ next.first → ⊥)
    → reverse new ≡ with_uids (uids_of range) (reverse old)
put_apart range next old mid new some was is apart =
    ap reverse is ∙ reverse_more (mid ++ next ∷ []) range ∙ ap (λ (ps : List Pair). range ∷ ps) (reverse_more mid next)
    ∙ sym (ap (λ (ps : List Pair). with_uids (uids_of range) (reverse ps)) was
    ∙ ap (with_uids (uids_of range)) (reverse_more mid next)
    ∙ range_put range (next ∷ reverse mid) some
    ∙ ap (λ (b : Bool). cond b (one range.first next.last ∷ reverse mid) (range ∷ next ∷ reverse mid)) (ne_eqb (range.last + 1) next.first apart))

-- ---- numbers from one on

pub split : (a m n k b : ℕ) → m + n ≡ k → a + m ≡ b → range_with_len a k ≡ range_with_len a m ++ range_with_len b n
split a zero n k b all next = let many : k ≡ n = omega arith in let same : a ≡ b = omega arith in ap (range_with_len a) many ∙ ap (λ c. range_with_len c n) same
split a (suc m) n k b all next =
    let many : k ≡ suc (m + n) = omega arith in
    ap (range_with_len a) many ∙ ap (λ ks. a ∷ ks) (split (a + 1) m n (m + n) b refl (omega arith))

pub whole : (test : ℕ → Bool) (n a b : ℕ) → a + n ≡ b → ((k : ℕ) → a ≤ k → k < b → test k ≡ true) → filter test (range_with_len a n) ≡ range_with_len a n
whole test zero a b end each = refl
whole test (suc n) a b end each =
    ap (λ c. cond c (a ∷ filter test (range_with_len (a + 1) n)) (filter test (range_with_len (a + 1) n))) (each a (omega arith) (omega arith))
    ∙ ap (λ ks. a ∷ ks) (whole test n (a + 1) b (omega arith) (λ k le less. each k (omega arith) less))

pub none : (test : ℕ → Bool) (n a b : ℕ) → a + n ≡ b → ((k : ℕ) → a ≤ k → k < b → test k ≡ false) → filter test (range_with_len a n) ≡ []
none test zero a b end each = refl
none test (suc n) a b end each =
    ap (λ c. cond c (a ∷ filter test (range_with_len (a + 1) n)) (filter test (range_with_len (a + 1) n))) (each a (omega arith) (omega arith))
    ∙ none test n (a + 1) b (omega arith) (λ k le less. each k (omega arith) less)

pub alike : (p q : ℕ → Bool) (n a b : ℕ) → a + n ≡ b → ((k : ℕ) → a ≤ k → k < b → p k ≡ q k) → filter p (range_with_len a n) ≡ filter q (range_with_len a n)
alike p q zero a b end each = refl
alike p q (suc n) a b end each =
    ap (λ c. cond c (a ∷ filter p (range_with_len (a + 1) n)) (filter p (range_with_len (a + 1) n))) (each a (omega arith) (omega arith))
    ∙ ap (λ ks. cond (q a) (a ∷ ks) ks) (alike p q n (a + 1) b (omega arith) (λ k le less. each k (omega arith) less))

-- ---- the UIDs of ranges that rise

abbrev AreAbove : ℕ → List Pair → Type 0
AreAbove low pairs = AreFrom (λ (p : Pair). p.first) (λ (p : Pair). p.last) low pairs

not_below : (low u : ℕ) (pairs : List Pair) → AreAbove low pairs → u < low → is_in_pairs pairs u ≡ false
not_below low u [] are less = refl
not_below low u (p ∷ ps) are less =
    or_from (is_in_pair u p) (is_in_pairs ps u) (and_left (nat_le p.first u) (nat_le u p.last) (lt-leb p.first u (omega (arith, are.0))))
    (not_below (p.last + 1) u ps are.2 (omega (arith, are.0, are.1)))

pub all_uids : (low n end : ℕ) (pairs : List Pair) → low + n ≡ end → AreAbove low pairs → All (λ p. p.last < end) pairs → filter (is_in_pairs pairs) (range_with_len low n) ≡ flat_map uids_of pairs
all_uids low n end [] is are ends = none (is_in_pairs []) n low end is (λ k le less. refl)
all_uids low n end (p ∷ ps) is are ends =
    let above : low ≤ p.first = are.0 in
    let some : p.first ≤ p.last = are.1 in
    let inside : p.last < end = All-head (λ (q : Pair). q.last < end) p ps ends in
    let test : ℕ → Bool = is_in_pairs (p ∷ ps) in
    ap (filter test) (split low (p.first - low) (end - p.first) n p.first (omega arith) (omega arith))
    ∙ filter-append test (range_with_len low (p.first - low)) (range_with_len p.first (end - p.first))
    ∙ ap (λ us. us ++ filter test (range_with_len p.first (end - p.first)))
    (none test (p.first - low) low p.first (omega arith)
    (λ k le less. or_from (is_in_pair k p) (is_in_pairs ps k) (and_left (nat_le p.first k) (nat_le k p.last) (lt-leb p.first k less)) (not_below (p.last + 1) k ps are.2 (omega arith))))
    ∙ ap (filter test) (split p.first (p.last + 1 - p.first) (end - (p.last + 1)) (end - p.first) (p.last + 1) (omega arith) (omega arith))
    ∙ filter-append test (uids_of p) (range_with_len (p.last + 1) (end - (p.last + 1)))
    ∙ ap (λ us. us ++ filter test (range_with_len (p.last + 1) (end - (p.last + 1))))
    (whole test (p.last + 1 - p.first) p.first (p.last + 1) (omega arith)
    (λ k le less. or_left (is_in_pair k p) (is_in_pairs ps k) (and_from (nat_le p.first k) (nat_le k p.last) (le-leb p.first k le) (le-leb k p.last (omega arith)))))
    ∙ ap (λ us. uids_of p ++ us)
    (alike test (is_in_pairs ps) (end - (p.last + 1)) (p.last + 1) end (omega arith)
    (λ k le less. ap (λ (b : Bool). b || is_in_pairs ps k) (and_right (nat_le p.first k) (nat_le k p.last) (lt-leb k p.last (omega arith))))
    ∙ all_uids (p.last + 1) (end - (p.last + 1)) end ps (omega arith) are.2 (All-tail (λ (q : Pair). q.last < end) p ps ends))

-- ---- which of them are gone

filter_both : (p q : ℕ → Bool) (xs : List ℕ) → filter (λ x. p x && q x) xs ≡ filter q (filter p xs)
filter_both p q [] = refl
filter_both p q (x ∷ xs) = by_test (p x) (filter_both p q xs)
  where
    by_test : (b : Bool) → filter (λ x. p x && q x) xs ≡ filter q (filter p xs) → cond (b && q x) (x ∷ filter (λ x. p x && q x) xs) (filter (λ x. p x && q x) xs) ≡ filter q (cond b (x ∷ filter p xs) (filter p xs))
    by_test true others = ap (λ ys. cond (q x) (x ∷ ys) ys) others
    by_test false others = others

free_each : (m : Mailbox) (pairs : List Pair) → filter (is_no_row m) (flat_map uids_of pairs) ≡ flat_map (free_uids m) pairs
free_each m [] = refl
free_each m (p ∷ ps) = filter-append (is_no_row m) (uids_of p) (flat_map uids_of ps) ∙ ap (λ us. free_uids m p ++ us) (free_each m ps)

from_one : (star : ℕ) (pairs : List Pair) → ArePairsApart pairs → All (IsWithin star) pairs → AreAbove 1 pairs
from_one star [] are within = tt
from_one star (p ∷ ps) are within = let here = All-head (IsWithin star) p ps within in (here.0, here.1, are.2)

pub gone_is : (m : Mailbox) (known : List Span) (pairs : List Pair) → ArePairsApart pairs → All (IsWithin (m.next_uid - 1)) pairs
    → ((n : ℕ) → 1 ≤ n → n ≤ m.next_uid - 1 → is_in_pairs pairs n ≡ is_in_set (m.next_uid - 1) known n)
    → flat_map (free_uids m) pairs ≡ filter (is_gone m known) (given_uids m)
gone_is m known pairs are within same =
    let star : ℕ = m.next_uid - 1 in
    sym (free_each m pairs)
    ∙ ap (filter (is_no_row m)) (sym (all_uids 1 star (1 + star) pairs refl (from_one star pairs are within) (All-weaker (IsWithin star) (λ (p : Pair). p.last < 1 + star) (λ p w. let le = w.2 in omega arith) pairs within)))
    ∙ ap (filter (is_no_row m)) (alike (is_in_pairs pairs) (is_in_set star known) star 1 (1 + star) refl (λ k le less. same k le (omega arith)))
    ∙ sym (filter_both (is_in_set star known) (is_no_row m) (range_with_len 1 star))

-- ---- which UIDs no row has

pub free_of : (m : Mailbox) (u : ℕ) → ((k : ℕ) (d : Row) → k < length m.rows → (get_or m.rows k d).uid ≢ u) → is_no_row m u ≡ true
free_of m u other = not_from_false (list_any (λ (row : Row). nat_eq row.uid u) m.rows) (list_any_none (λ (row : Row). nat_eq row.uid u) m.rows (λ k d h. ne_eqb (get_or m.rows k d).uid u (other k d h)))

pub taken_of : (m : Mailbox) (k : ℕ) (d : Row) (u : ℕ) → k < length m.rows → (get_or m.rows k d).uid ≡ u → is_no_row m u ≡ false
taken_of m k d u h is = not_from_true (list_any (λ (row : Row). nat_eq row.uid u) m.rows) (list_any_at (λ (row : Row). nat_eq row.uid u) m.rows k d h (eq-eqb (get_or m.rows k d).uid u is))

pub rows_rise : (m : Mailbox) → IsValid m → (i j : ℕ) (d : Row) → i < j → j < length m.rows → (get_or m.rows i d).uid < (get_or m.rows j d).uid
rows_rise m valid i j d less h =
    let uids : List ℕ = map (λ (row : Row). row.uid) m.rows in
    let many : length (map (λ (row : Row). row.uid) m.rows) ≡ length m.rows = length-map m.rows (λ (row : Row). row.uid) in
    let first : get_or (map (λ (row : Row). row.uid) m.rows) i 0 ≡ (get_or m.rows i d).uid = get_or-map (λ (row : Row). row.uid) m.rows i d 0 (omega arith) in
    let second : get_or (map (λ (row : Row). row.uid) m.rows) j 0 ≡ (get_or m.rows j d).uid = get_or-map (λ (row : Row). row.uid) m.rows j d 0 h in
    let up : get_or (map (λ (row : Row). row.uid) m.rows) i 0 < get_or (map (λ (row : Row). row.uid) m.rows) j 0 = AllPairs-from_increasing uids valid.rising i j 0 less (omega arith) in
    omega arith

-- ---- free UIDs are put in front from the last one down

-- what is behind one of them
abbrev pub free_behind : Mailbox → ℕ → ℕ → List ℕ
free_behind m last end = filter (is_no_row m) (range_with_len (last + 1) (end - last))

-- those from one on that are all free
pub free_more : (m : Mailbox) (from last end : ℕ) (pairs begun : List Pair) → from ≤ last + 1 → last ≤ end → ((u : ℕ) → from ≤ u → u ≤ last → is_no_row m u ≡ true)
    → pairs ≡ with_uids (free_behind m last end) begun
    → with_uids (range_with_len from (last + 1 - from)) pairs ≡ with_uids (filter (is_no_row m) (range_with_len from (end + 1 - from))) begun
free_more m from last end pairs begun low high free is =
    ap (with_uids (range_with_len from (last + 1 - from))) is
    ∙ sym (with_uids_append (range_with_len from (last + 1 - from)) (free_behind m last end) begun)
    ∙ ap (λ us. with_uids (us ++ free_behind m last end) begun) (sym (whole (is_no_row m) (last + 1 - from) from (last + 1) (omega arith) (λ k le less. free k le (omega arith))))
    ∙ ap (λ us. with_uids us begun) (sym (filter-append (is_no_row m) (range_with_len from (last + 1 - from)) (range_with_len (last + 1) (end - last))))
    ∙ ap (λ us. with_uids (filter (is_no_row m) us) begun) (sym (split from (last + 1 - from) (end - last) (end + 1 - from) (last + 1) (omega arith) (omega arith)))

-- one that isn't
pub free_skip : (m : Mailbox) (u end : ℕ) → 1 ≤ u → u ≤ end → is_no_row m u ≡ false → filter (is_no_row m) (range_with_len (u + 1) (end + 1 - (u + 1))) ≡ free_behind m (u - 1) end
free_skip m u end low high taken =
    let next : u - 1 + 1 ≡ u = omega arith in
    let many : end - (u - 1) ≡ suc (end + 1 - (u + 1)) = omega arith in
    sym (ap (λ n. filter (is_no_row m) (range_with_len n (end - (u - 1)))) next
    ∙ ap (λ n. filter (is_no_row m) (range_with_len u n)) many
    ∙ ap (λ b. cond b (u ∷ filter (is_no_row m) (range_with_len (u + 1) (end + 1 - (u + 1)))) (filter (is_no_row m) (range_with_len (u + 1) (end + 1 - (u + 1))))) taken)

-- ---- what is in ranges of UIDs

-- a range ends no earlier than it begins
abbrev pub Ends : Pair → Type 0
Ends pair = pair.first ≤ pair.last

one_in : (uid u : ℕ) → (nat_le uid u && nat_le u uid) ≡ nat_eq u uid
one_in uid u = grind (arith, nat_tests)

joined_in : (uid u first last : ℕ) → uid + 1 ≡ first → first ≤ last → (nat_le uid u && nat_le u last) ≡ (nat_eq u uid || (nat_le first u && nat_le u last))
joined_in uid u first last next ends = grind (arith, nat_tests)

or_again : (a b c : Bool) → (a || b || c) ≡ (a || (b || c))
or_again true b c = refl
or_again false b c = refl

with_uid_ends : (uid : ℕ) (pairs : List Pair) → AllByRecursion Ends pairs → AllByRecursion Ends (with_uid uid pairs)
with_uid_ends uid [] each = (omega arith, tt)
with_uid_ends uid (pair ∷ pairs) each = by_test (nat_eq (uid + 1) pair.first) refl
  where
    by_test : (b : Bool) → nat_eq (uid + 1) pair.first ≡ b → AllByRecursion Ends (cond b (record { first = uid; last = pair.last } ∷ pairs) (record { first = uid; last = uid } ∷ pair ∷ pairs))
    by_test true same =
        let next : uid + 1 ≡ pair.first = eqb-true (uid + 1) pair.first same in
        let ends : pair.first ≤ pair.last = each.0 in (omega arith, each.1)
    by_test false other = (omega arith, each)

in_with_uid : (uid u : ℕ) (pairs : List Pair) → AllByRecursion Ends pairs → is_in_pairs (with_uid uid pairs) u ≡ (nat_eq u uid || is_in_pairs pairs u)
in_with_uid uid u [] each = ap (λ (b : Bool). b || false) (one_in uid u)
in_with_uid uid u (pair ∷ pairs) each = by_test (nat_eq (uid + 1) pair.first) refl
  where
    by_test : (b : Bool) → nat_eq (uid + 1) pair.first ≡ b
        → is_in_pairs (cond b (record { first = uid; last = pair.last } ∷ pairs) (record { first = uid; last = uid } ∷ pair ∷ pairs)) u ≡ (nat_eq u uid || (is_in_pair u pair || is_in_pairs pairs u))
    by_test true same =
        ap (λ (b : Bool). b || is_in_pairs pairs u) (joined_in uid u pair.first pair.last (eqb-true (uid + 1) pair.first same) each.0)
        ∙ or_again (nat_eq u uid) (is_in_pair u pair) (is_in_pairs pairs u)
    by_test false other = ap (λ (b : Bool). b || (is_in_pair u pair || is_in_pairs pairs u)) (one_in uid u)

pub ranges_end : (uids : List ℕ) → AllByRecursion Ends (ranges_of uids)
ranges_end [] = tt
ranges_end (uid ∷ uids) = with_uid_ends uid (ranges_of uids) (ranges_end uids)

-- the ranges of some UIDs have no other
pub in_ranges : (uids : List ℕ) (u : ℕ) → is_in_pairs (ranges_of uids) u ≡ list_any (nat_eq u) uids
in_ranges [] u = refl
in_ranges (uid ∷ uids) u = in_with_uid uid u (ranges_of uids) (ranges_end uids) ∙ ap (λ (b : Bool). nat_eq u uid || b) (in_ranges uids u)

span_has : (first last u : ℕ) → first ≤ last → (nat_le (min first last) u && nat_le u (max first last)) ≡ (nat_le first u && nat_le u last)
span_has first last u le =
    let low : min first last ≡ first = omega arith in
    let high : max first last ≡ last = omega arith in
    ap (λ n. nat_le n u && nat_le u (max first last)) low ∙ ap (λ n. nat_le first u && nat_le u n) high

-- as a set they have the same
pub in_spans : (star u : ℕ) (pairs : List Pair) → AllByRecursion Ends pairs → is_in_set star (map span_of pairs) u ≡ is_in_pairs pairs u
in_spans star u [] each = refl
in_spans star u (p ∷ ps) each =
    ap (λ (b : Bool). b || is_in_set star (map span_of ps) u) (span_has p.first p.last u each.0) ∙ ap (λ (b : Bool). is_in_pair u p || b) (in_spans star u ps each.1)

-- ---- the loops

-- the last of some ranges is taken out
pub flat_last : (m : Mailbox) (left : List Pair) (pair : Pair) (ranges : List Pair) → with_uids (flat_map (free_uids m) (left ++ pair ∷ [])) ranges ≡ with_uids (flat_map (free_uids m) left) (with_uids (free_uids m pair) ranges)
flat_last m left pair ranges =
    ap (λ us. with_uids us ranges) (flat_map-append (free_uids m) left (pair ∷ []) ∙ ap (λ us. flat_map (free_uids m) left ++ us) (append-nil (free_uids m pair)))
    ∙ with_uids_append (flat_map (free_uids m) left) (free_uids m pair) ranges

-- a range has its own ends
has_first : (pairs : List Pair) (k : ℕ) (d : Pair) → k < length pairs → Ends (get_or pairs k d) → is_in_pairs pairs (get_or pairs k d).first ≡ true
has_first pairs k d h ends =
    list_any_at (is_in_pair (get_or pairs k d).first) pairs k d h (and_from (nat_le (get_or pairs k d).first (get_or pairs k d).first) (nat_le (get_or pairs k d).first (get_or pairs k d).last) (le-leb (get_or pairs k d).first (get_or pairs k d).first (omega arith)) (le-leb (get_or pairs k d).first (get_or pairs k d).last ends))

has_last : (pairs : List Pair) (k : ℕ) (d : Pair) → k < length pairs → Ends (get_or pairs k d) → is_in_pairs pairs (get_or pairs k d).last ≡ true
has_last pairs k d h ends =
    list_any_at (is_in_pair (get_or pairs k d).last) pairs k d h (and_from (nat_le (get_or pairs k d).first (get_or pairs k d).last) (nat_le (get_or pairs k d).last (get_or pairs k d).last) (le-leb (get_or pairs k d).first (get_or pairs k d).last ends) (le-leb (get_or pairs k d).last (get_or pairs k d).last (omega arith)))

inside : (star n : ℕ) (pairs : List Pair) → All (IsWithin star) pairs → is_in_pairs pairs n ≡ true → (1 ≤ n) × (n ≤ star)
inside star n pairs within is = here (Any-from_list_any (is_in_pair n) pairs is)
  where
    here : Any (λ (p : Pair). is_in_pair n p ≡ true) pairs → (1 ≤ n) × (n ≤ star)
    here (k, p, h, at, has) =
        let w : IsWithin star p = subst (IsWithin star) at (within k p h) in
        let ends = and_parts (nat_le p.first n) (nat_le n p.last) has in
        let low : p.first ≤ n = leb-true p.first n ends.0 in
        let high : n ≤ p.last = leb-true n p.last ends.1 in
        (omega (arith, w.0), omega (arith, w.2))

all_ends : (low : ℕ) (pairs : List Pair) → AreAbove low pairs → All Ends pairs
all_ends low [] are = All-nil Ends
all_ends low (p ∷ ps) are = All-cons Ends p ps are.1 (all_ends (p.last + 1) ps are.2)

-- joined ranges are within the same bounds
pub joined_within : (star : ℕ) (pairs joined : List Pair) → All (IsWithin star) pairs → ArePairsApart joined → ((n : ℕ) → is_in_pairs joined n ≡ is_in_pairs pairs n) → All (IsWithin star) joined
joined_within star pairs joined within are same k d h =
    let ends : Ends (get_or joined k d) = all_ends 0 joined are k d h in
    let first = inside star (get_or joined k d).first pairs within (sym (same (get_or joined k d).first) ∙ has_first joined k d h ends) in
    let last = inside star (get_or joined k d).last pairs within (sym (same (get_or joined k d).last) ∙ has_last joined k d h ends) in
    (first.0, ends, last.1)

-- one range is apart
pub few_apart : (star : ℕ) (pairs : List Pair) → All (IsWithin star) pairs → length pairs ≤ 1 → ArePairsApart pairs
few_apart star [] within few = tt
few_apart star (p ∷ []) within few = let w = All-head (IsWithin star) p [] within in (omega arith, w.1, tt)
few_apart star (p ∷ q ∷ ps) within few = absurd (omega (arith, few))

-- ---- a set's ranges within bounds

or_nothing : (b : Bool) → (b || false) ≡ b
or_nothing true = refl
or_nothing false = refl

clip_low : (a n : ℕ) → 1 ≤ n → nat_le (max a 1) n ≡ nat_le a n
clip_low a n low = grind (arith, nat_tests)

clip_high : (b n star : ℕ) → n ≤ star → nat_le n (min b star) ≡ nat_le n b
clip_high b n star high = grind (arith, nat_tests)

pub in_clipped : (low high star n : ℕ) → 1 ≤ n → n ≤ star → (nat_le (max low 1) n && nat_le n (min high star)) ≡ (nat_le low n && nat_le n high)
in_clipped low high star n from to = ap (λ b. b && nat_le n (min high star)) (clip_low low n from) ∙ ap (λ b. nat_le low n && b) (clip_high high n star to)

none_between : (low high star n : ℕ) → min high star < max low 1 → 1 ≤ n → n ≤ star → (nat_le low n && nat_le n high) ≡ false
none_between low high star n none from to = sym (in_clipped low high star n from to) ∙ by_order (cases_lt n (max low 1))
  where
    by_order : (n < max low 1) ⊎ (max low 1 ≤ n) → (nat_le (max low 1) n && nat_le n (min high star)) ≡ false
    by_order (inl less) = and_left (nat_le (max low 1) n) (nat_le n (min high star)) (lt-leb (max low 1) n less)
    by_order (inr more) = and_right (nat_le (max low 1) n) (nat_le n (min high star)) (lt-leb n (min high star) (omega arith))

abbrev pub low_end : ℕ → Span → ℕ
low_end star span = min (end_value star span.from) (end_value star span.to)

abbrev pub high_end : ℕ → Span → ℕ
high_end star span = max (end_value star span.from) (end_value star span.to)

-- one range of the set more
pub clipped_more : (star : ℕ) (set : List Span) (i : ℕ) (d : Span) (pairs : List Pair) (pair : Pair) → i < length set
    → pair.first ≡ max (low_end star (get_or set i d)) 1 → pair.last ≡ min (high_end star (get_or set i d)) star
    → ((n : ℕ) → 1 ≤ n → n ≤ star → is_in_pairs pairs n ≡ is_in_set star (take i set) n)
    → (n : ℕ) → 1 ≤ n → n ≤ star → is_in_pairs (pairs ++ pair ∷ []) n ≡ is_in_set star (take (i + 1) set) n
clipped_more star set i d pairs pair h first last so_far n from to =
    list_any-append (is_in_pair n) pairs (pair ∷ [])
    ∙ ap (λ b. b || (is_in_pair n pair || false)) (so_far n from to)
    ∙ ap (λ b. is_in_set star (take i set) n || b) (or_nothing (is_in_pair n pair)
    ∙ ap (λ a. nat_le a n && nat_le n pair.last) first ∙ ap (λ b. nat_le (max (low_end star (get_or set i d)) 1) n && nat_le n b) last
    ∙ in_clipped (low_end star (get_or set i d)) (high_end star (get_or set i d)) star n from to)
    ∙ sym (list_any_more (λ (span : Span). is_in_span star span n) set i d h)

-- one that has no such number
pub clipped_none : (star : ℕ) (set : List Span) (i : ℕ) (d : Span) (pairs : List Pair) → i < length set
    → min (high_end star (get_or set i d)) star < max (low_end star (get_or set i d)) 1
    → ((n : ℕ) → 1 ≤ n → n ≤ star → is_in_pairs pairs n ≡ is_in_set star (take i set) n)
    → (n : ℕ) → 1 ≤ n → n ≤ star → is_in_pairs pairs n ≡ is_in_set star (take (i + 1) set) n
clipped_none star set i d pairs h none so_far n from to =
    so_far n from to
    ∙ sym (list_any_more (λ (span : Span). is_in_span star span n) set i d h
    ∙ ap (λ b. is_in_set star (take i set) n || b) (none_between (low_end star (get_or set i d)) (high_end star (get_or set i d)) star n none from to)
    ∙ or_nothing (is_in_set star (take i set) n))

-- ---- ranges as a set without empty ones

-- one range more
pub spans_more : (pairs : List Pair) (i : ℕ) (d : Pair) (spans : List Span) → i < length pairs → Ends (get_or pairs i d)
    → ((star uid : ℕ) → is_in_set star spans uid ≡ is_in_pairs (take i pairs) uid)
    → (star uid : ℕ) → is_in_set star (spans ++ span_of (get_or pairs i d) ∷ []) uid ≡ is_in_pairs (take (i + 1) pairs) uid
spans_more pairs i d spans h ends so_far star uid =
    list_any-append (λ (span : Span). is_in_span star span uid) spans (span_of (get_or pairs i d) ∷ [])
    ∙ ap (λ b. b || (is_in_span star (span_of (get_or pairs i d)) uid || false)) (so_far star uid)
    ∙ ap (λ b. is_in_pairs (take i pairs) uid || b) (or_nothing (is_in_span star (span_of (get_or pairs i d)) uid) ∙ span_has (get_or pairs i d).first (get_or pairs i d).last uid ends)
    ∙ sym (list_any_more (is_in_pair uid) pairs i d h)

-- an empty one
pub spans_none : (pairs : List Pair) (i : ℕ) (d : Pair) (spans : List Span) → i < length pairs → (get_or pairs i d).last < (get_or pairs i d).first
    → ((star uid : ℕ) → is_in_set star spans uid ≡ is_in_pairs (take i pairs) uid)
    → (star uid : ℕ) → is_in_set star spans uid ≡ is_in_pairs (take (i + 1) pairs) uid
spans_none pairs i d spans h none so_far star uid =
    so_far star uid
    ∙ sym (list_any_more (is_in_pair uid) pairs i d h
    ∙ ap (λ b. is_in_pairs (take i pairs) uid || b) (empty (cases_lt uid (get_or pairs i d).first))
    ∙ or_nothing (is_in_pairs (take i pairs) uid))
  where
    empty : (uid < (get_or pairs i d).first) ⊎ ((get_or pairs i d).first ≤ uid) → is_in_pair uid (get_or pairs i d) ≡ false
    empty (inl less) = and_left (nat_le (get_or pairs i d).first uid) (nat_le uid (get_or pairs i d).last) (lt-leb (get_or pairs i d).first uid less)
    empty (inr more) = and_right (nat_le (get_or pairs i d).first uid) (nat_le uid (get_or pairs i d).last) (lt-leb uid (get_or pairs i d).last (omega arith))

-- ---- a range is gone through from its last UID down

-- the UIDs behind one were gone through, and the rows from a place on
pub record Gathers (m : Mailbox) (range : Pair) (begun : List Pair) (place last : ℕ) (ranges : List Pair) : Type 0 where
  pub inside : place ≤ length m.rows
  pub behind : AreBehind last place m.rows
  pub low : range.first ≤ last + 1
  pub high : last ≤ range.last
  pub are : reverse ranges ≡ with_uids (free_behind m last range.last) (reverse begun)

pub gathers_start : (m : Mailbox) (range : Pair) (begun : List Pair) (place : ℕ) → IsWithin (m.next_uid - 1) range → place ≤ length m.rows → AreBehind range.last place m.rows → Gathers m range begun place range.last begun
gathers_start m range begun place within inside behind =
    let none : range.last - range.last ≡ 0 = omega arith in
    record {
      inside = inside;
      behind = behind;
      low = omega (arith, within.1);
      high = omega arith;
      are = sym (ap (λ n. with_uids (filter (is_no_row m) (range_with_len (range.last + 1) n)) (reverse begun)) none);
    }

module _ (m : Mailbox) (valid : IsValid m) (range : Pair) (within : IsWithin (m.next_uid - 1) range) (begun : List Pair) (place last : ℕ) (ranges : List Pair) (so_far : Gathers m range begun place last ranges) where
  -- a row that stands behind the range
  pub gathers_over : (uid : ℕ) → IsUidBefore m place range.first uid → last < uid → Gathers m range begun (place - 1) last ranges
  gathers_over uid before less =
      record {
        inside = omega (arith, so_far.inside);
        behind = λ k d le h. by_place k d h (cases_lt k place) le;
        low = so_far.low;
        high = so_far.high;
        are = so_far.are;
      }
    where
      by_place : (k : ℕ) (d : Row) → k < length m.rows → (k < place) ⊎ (place ≤ k) → place - 1 ≤ k → last < (get_or m.rows k d).uid
      by_place k d h (inr from) le = so_far.behind k d from h
      by_place k d h (inl under) le =
          let same : place - 1 ≡ k = omega arith in
          let is : (get_or m.rows (place - 1) d).uid ≡ uid = before.is d in
          let here : (get_or m.rows k d).uid ≡ uid = ap (λ j. (get_or m.rows j d).uid) (sym same) ∙ is in
          omega arith

  -- no row has a UID above that of the row before the place, up to the last one
  free_above : (uid : ℕ) → IsUidBefore m place range.first uid → (u : ℕ) → uid + 1 ≤ u → u ≤ last → is_no_row m u ≡ true
  free_above uid before u low high = free_of m u (λ k d h same. by_place k d h same (cases_lt k place))
    where
      by_order : (k : ℕ) (d : Row) → k < length m.rows → (get_or m.rows k d).uid ≡ u → (get_or m.rows (place - 1) d).uid ≡ uid → (k < place - 1) ⊎ (place - 1 ≤ k) → k < place → ⊥
      by_order k d h same is (inl less) under = let up = rows_rise m valid k (place - 1) d less (omega (arith, so_far.inside, before.some)) in absurd (omega arith)
      by_order k d h same is (inr from) under =
          let at : place - 1 ≡ k = omega arith in
          let here : (get_or m.rows k d).uid ≡ uid = ap (λ j. (get_or m.rows j d).uid) (sym at) ∙ is in
          absurd (omega arith)

      by_place : (k : ℕ) (d : Row) → k < length m.rows → (get_or m.rows k d).uid ≡ u → (k < place) ⊎ (place ≤ k) → ⊥
      by_place k d h same (inr from) = let up = so_far.behind k d from h in absurd (omega arith)
      by_place k d h same (inl under) = by_order k d h same (before.is d) (cases_lt k (place - 1)) under

  -- a row of the range
  pub gathers_more : (uid : ℕ) (more : List Pair) → IsUidBefore m place range.first uid → uid ≤ last → reverse more ≡ with_uids (uids_of (one (uid + 1) last)) (reverse ranges) → Gathers m range begun (place - 1) (uid - 1) more
  gathers_more uid more before le put =
      let some : 1 ≤ place = before.some in
      let from : range.first ≤ uid = before.from in
      let first : 1 ≤ range.first = within.0 in
      let end : last ≤ range.last = so_far.high in
      record {
        inside = omega (arith, so_far.inside);
        behind = λ k d le h. by_place k d h (cases_lt k place) le;
        low = omega arith;
        high = omega arith;
        are =
            put
            ∙ free_more m (uid + 1) last range.last (reverse ranges) (reverse begun) (omega arith) end (free_above uid before) so_far.are
            ∙ ap (λ us. with_uids us (reverse begun)) (free_skip m uid range.last (omega arith) (omega arith) (taken_of m (place - 1) no_row uid (omega (arith, so_far.inside)) (before.is no_row)));
      }
    where
      no_row : Row
      no_row = record { uid = 0; flags = 0; keywords = []; parts = []; modseq = 0 }

      by_place : (k : ℕ) (d : Row) → k < length m.rows → (k < place) ⊎ (place ≤ k) → place - 1 ≤ k → uid - 1 < (get_or m.rows k d).uid
      by_place k d h (inr from) low = let up = so_far.behind k d from h in let first : 1 ≤ range.first = within.0 in let one' : range.first ≤ uid = before.from in omega arith
      by_place k d h (inl under) low =
          let same : place - 1 ≡ k = omega arith in
          let here : (get_or m.rows k d).uid ≡ uid = ap (λ j. (get_or m.rows j d).uid) (sym same) ∙ before.is d in
          let first : 1 ≤ range.first = within.0 in
          let one' : range.first ≤ uid = before.from in
          omega arith

  -- no row is left in the range
  pub gathers_end : (more : List Pair) → AreBefore range.first place m.rows → reverse more ≡ with_uids (uids_of (one range.first last)) (reverse ranges) → reverse more ≡ with_uids (free_uids m range) (reverse begun)
  gathers_end more before put =
      put
      ∙ free_more m range.first last range.last (reverse ranges) (reverse begun) so_far.low so_far.high free so_far.are
    where
      by_place : (u k : ℕ) (d : Row) → range.first ≤ u → u ≤ last → k < length m.rows → (get_or m.rows k d).uid ≡ u → (k < place) ⊎ (place ≤ k) → ⊥
      by_place u k d low high h same (inl under) = let less = before k d under h in absurd (omega arith)
      by_place u k d low high h same (inr from) = let up = so_far.behind k d from h in absurd (omega arith)

      free : (u : ℕ) → range.first ≤ u → u ≤ last → is_no_row m u ≡ true
      free u low high = free_of m u (λ k d h same. by_place u k d low high h same (cases_lt k place))

  pub gathers_behind : (low : ℕ) → low < range.first → AreBehind low place m.rows
  gathers_behind low less k d from h = let up = so_far.behind k d from h in let le : range.first ≤ last + 1 = so_far.low in omega arith

-- ---- all ranges are gone through, the last one first

-- these are left
pub record Leaves (m : Mailbox) (known pairs : List Pair) (place : ℕ) (ranges : List Pair) : Type 0 where
  pub apart : ArePairsApart pairs
  pub within : All (IsWithin (m.next_uid - 1)) pairs
  pub inside : place ≤ length m.rows
  pub behind : All (λ (p : Pair). AreBehind p.last place m.rows) pairs
  pub are : with_uids (flat_map (free_uids m) pairs) (reverse ranges) ≡ ranges_of (flat_map (free_uids m) known)

pub leaves_start : (m : Mailbox) (known : List Pair) (place : ℕ) → ArePairsApart known → All (IsWithin (m.next_uid - 1)) known → place ≡ length m.rows → Leaves m known known place []
leaves_start m known place apart within all =
    record {
      apart = apart;
      within = within;
      inside = omega arith;
      behind = λ j p h k d from inside. absurd (omega (arith, from, inside, all));
      are = ranges_are (flat_map (free_uids m) known);
    }

pub leaves_more : (m : Mailbox) (known pairs left : List Pair) (pair : Pair) (place at : ℕ) (ranges more : List Pair) → Leaves m known pairs place ranges → pairs ≡ left ++ pair ∷ []
    → at ≤ length m.rows → ((low : ℕ) → low < pair.first → AreBehind low at m.rows) → reverse more ≡ with_uids (free_uids m pair) (reverse ranges)
    → Leaves m known left at more
leaves_more m known pairs left pair place at ranges more so_far was inside behind put =
    let apart : ArePairsApart (left ++ pair ∷ []) = subst ArePairsApart was so_far.apart in
    let ends = end (λ (p : Pair). p.first) (λ (p : Pair). p.last) 0 left pair apart in
    record {
      apart = front_of (λ (p : Pair). p.first) (λ (p : Pair). p.last) 0 left (pair ∷ []) apart;
      within = All-front (IsWithin (m.next_uid - 1)) left pair (subst (All (IsWithin (m.next_uid - 1))) was so_far.within);
      inside = inside;
      behind = λ j p h. behind (get_or left j p).last (ends.2 j p h);
      are =
          ap (with_uids (flat_map (free_uids m) left)) put
          ∙ sym (flat_last m left pair (reverse ranges))
          ∙ ap (λ (ps : List Pair). with_uids (flat_map (free_uids m) ps) (reverse ranges)) (sym was)
          ∙ so_far.are;
    }
  where
    All-front : (P : Pair → Type 0) (xs : List Pair) (x : Pair) → All P (xs ++ x ∷ []) → All P xs
    All-front P xs x all k d h = subst P (get_or_append_left xs (x ∷ []) d k h) (all k d (omega (arith, h, length-append xs (x ∷ []))))

-- the last one is within bounds, and the rows from the place on are behind it
pub leaves_last : (m : Mailbox) (known pairs left : List Pair) (pair : Pair) (place : ℕ) (ranges : List Pair) → Leaves m known pairs place ranges → pairs ≡ left ++ pair ∷ []
    → IsWithin (m.next_uid - 1) pair × AreBehind pair.last place m.rows
leaves_last m known pairs left pair place ranges so_far was =
    let at : get_or pairs (length left) pair ≡ pair = ap (λ (ps : List Pair). get_or ps (length left) pair) was ∙ get_or_push left pair pair (length left) refl in
    let inside : length left < length pairs = omega (arith, ap length was, length_push left pair) in
    (subst (IsWithin (m.next_uid - 1)) at (so_far.within (length left) pair inside), subst (λ (p : Pair). AreBehind p.last place m.rows) at (so_far.behind (length left) pair inside))

pub leaves_end : (m : Mailbox) (known : List Pair) (uids : List Span) (pairs : List Pair) (place : ℕ) (ranges : List Pair) → Leaves m known pairs place ranges → pairs ≡ []
    → ArePairsApart known → All (IsWithin (m.next_uid - 1)) known
    → ((n : ℕ) → 1 ≤ n → n ≤ m.next_uid - 1 → is_in_pairs known n ≡ is_in_set (m.next_uid - 1) uids n)
    → reverse ranges ≡ gone_ranges m uids
leaves_end m known uids pairs place ranges so_far none apart within same =
    sym (ap (λ (ps : List Pair). with_uids (flat_map (free_uids m) ps) (reverse ranges)) none) ∙ so_far.are ∙ ap ranges_of (gone_is m uids known apart within same)

-- a range of one UID
pub one_put : (uid : ℕ) (pairs : List Pair) → with_uids (uids_of (one uid uid)) pairs ≡ with_uid uid pairs
one_put uid pairs = let many : uid + 1 - uid ≡ 1 = omega arith in ap (λ n. with_uids (range_with_len uid n) pairs) many

-- ---- the row before a place

pub uid_is_before : (m : Mailbox) → IsValid m → (place first : ℕ) (row : Row) → 1 ≤ place → place ≤ length m.rows → slice_get m.rows (place - 1) ≡ Some row → first ≤ row.uid → IsUidBefore m place first row.uid
uid_is_before m valid place first row some inside there from =
    let at : get_or m.rows (place - 1) row ≡ row = get_or_from_slice_get m.rows (place - 1) row row there in
    let is : IsRowOf m row = subst (IsRowOf m) at (valid.rows (place - 1) row (omega arith)) in
    record { some = some; from = from; given = is.uid.1; is = λ d. ap (λ (r : Row). r.uid) (get_or_from_slice_get m.rows (place - 1) row d there) }

pub none_before : (m : Mailbox) → IsValid m → (place first : ℕ) (row : Row) → 1 ≤ place → place ≤ length m.rows → slice_get m.rows (place - 1) ≡ Some row → row.uid < first → AreBefore first place m.rows
none_before m valid place first row some inside there less k d under h = by_order (cases_lt k (place - 1))
  where
    by_order : (k < place - 1) ⊎ (place - 1 ≤ k) → (get_or m.rows k d).uid < first
    by_order (inl below) =
        let at : get_or m.rows (place - 1) d ≡ row = get_or_from_slice_get m.rows (place - 1) row d there in
        let uid : (get_or m.rows (place - 1) d).uid ≡ row.uid = ap (λ (r : Row). r.uid) at in
        let up = rows_rise m valid k (place - 1) d below (omega arith) in
        omega arith
    by_order (inr from) =
        let same : place - 1 ≡ k = omega arith in
        let at : get_or m.rows k d ≡ row = ap (λ j. get_or m.rows j d) (sym same) ∙ get_or_from_slice_get m.rows (place - 1) row d there in
        let uid : (get_or m.rows k d).uid ≡ row.uid = ap (λ (r : Row). r.uid) at in
        omega arith
