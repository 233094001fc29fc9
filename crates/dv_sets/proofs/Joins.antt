-- Ranges that begin in rising order are joined one by one, and a number is found among the joined ones by halves.
use Rattle.std.proofs.Common.{◌≡◌, ◌⊎◌, inl, inr, ℕ, ◌+◌, ◌-◌, ◌<◌, ◌≤◌, Bool, true, false, List, [], ◌∷◌, ◌++◌, length, get_or, take, refl, sym, ◌∙◌, ap, subst, arith, ltb}
use Rattle.std.specs.Prelude.{All, min, max, nat_le, ◌&&◌, ◌||◌, if◌then◌else◌}
use Rattle.std.specs.List.Sorted.{IsNonDecreasingBy, IsPartitionPoint}
use Rattle.std.proofs.lemmas.Bool.{and_from, and_left, and_right, cases_lt, le-leb, leb-false, leb-true, lt-leb, ltb-false, ltb-true}
use Rattle.std.proofs.lemmas.List.{append-nil, get_or_default, get_or-take, length-take}
use Rattle.std.proofs.lemmas.List.Elements.{All-push, All-weaker}
use Rattle.std.proofs.lemmas.List.Folds.{list_any-append, list_any_at, list_any_none}
use Rattle.std.proofs.lemmas.List.Sorted.{IsNonDecreasingBy-push}
use Rattle.dv_model.specs.declared.types.End.TheVariants.{Number}
use Rattle.dv_model.specs.declared.types.Span.{Span}
use Rattle.dv_model.specs.Sets.{end_value, is_in_set, is_in_span}
use Rattle.dv_sets.specs.declared.joining.Range.{Range}
use Rattle.dv_sets.specs.Joined.{AreApart, IsPlain, high_of, is_in_range, is_in_ranges, low_of, piece}

-- ---- a range of numbers

-- it has the numbers from its lower end up to the upper one
plain_has : (span : Span) (star n : ℕ) → IsPlain span → is_in_span star span n ≡ (nat_le (low_of span) n && nat_le n (high_of span))
plain_has span star n plain =
    let ordered = plain.ordered in
    let from = plain.from star in
    let to = plain.to star in
    let low : min (end_value star span.from) (end_value star span.to) ≡ low_of span = omega arith in
    let high : max (end_value star span.from) (end_value star span.to) ≡ high_of span = omega arith in
    ap (λ (k : ℕ). nat_le k n && nat_le n (max (end_value star span.from) (end_value star span.to))) low
    ∙ ap (λ (k : ℕ). nat_le (low_of span) n && nat_le n k) high

has : (span : Span) (star n : ℕ) → IsPlain span → low_of span ≤ n → n ≤ high_of span → is_in_span star span n ≡ true
has span star n plain low high = plain_has span star n plain ∙ and_from (nat_le (low_of span) n) (nat_le n (high_of span)) (le-leb (low_of span) n low) (le-leb n (high_of span) high)

lacks : (span : Span) (star n : ℕ) → IsPlain span → (n < low_of span) ⊎ (high_of span < n) → is_in_span star span n ≡ false
lacks span star n plain (inl below) = plain_has span star n plain ∙ and_left _ (nat_le n (high_of span)) (lt-leb (low_of span) n below)
lacks span star n plain (inr above) = plain_has span star n plain ∙ and_right (nat_le (low_of span) n) _ (lt-leb n (high_of span) above)

-- ---- one range more

-- The joined ranges end before the next number, and up to it they have the numbers of all ranges.
pub record IsJoined (xs : List Range) (next : ℕ) (made : List Span) : Type 0 where
  pub apart : AreApart made
  pub ends : All (λ span. high_of span < next) made
  pub same : (star n : ℕ) → n < next → is_in_set star made n ≡ is_in_ranges xs n

module _ (xs : List Range) (rising : IsNonDecreasingBy (λ (r : Range). r.low) xs) where
  outside : (n : ℕ) (r : Range) → (n < r.low) ⊎ (r.high < n) → is_in_range n r ≡ false
  outside n r (inl below) = and_left _ (nat_le n r.high) (lt-leb r.low n below)
  outside n r (inr above) = and_right (nat_le r.low n) _ (lt-leb n r.high above)

  -- no range has a number behind the first ones and before the next one
  before : (j next : ℕ) (d : Range) → j < length xs → All (λ (r : Range). r.high < next) (take j xs)
      → (n : ℕ) → next ≤ n → n < (get_or xs j d).low → is_in_ranges xs n ≡ false
  before j next d here done n le less = list_any_none (is_in_range n) xs (λ m e inside. outside n (get_or xs m e) (by m e inside (cases_lt m j)))
    where
      by : (m : ℕ) (e : Range) → m < length xs → (m < j) ⊎ (j ≤ m) → (n < (get_or xs m e).low) ⊎ ((get_or xs m e).high < n)
      by m e inside (inl early) =
          let low = subst (λ (r : Range). r.high < next) (get_or-take j xs m e early) (done m e (omega (arith, early, inside, length-take j xs))) in
          inr (omega arith)
      by m e inside (inr late) =
          let up : (get_or xs j e).low ≤ (get_or xs m e).low = rising j m e late inside in
          let same = ap (λ (r : Range). r.low) (get_or_default xs j e d here) in
          inl (omega arith)

  -- nor has a joined one a number behind them
  behind : (next : ℕ) (made : List Span) → IsJoined xs next made → (star n : ℕ) → next ≤ n → is_in_set star made n ≡ false
  behind next made joined star n le =
      list_any_none (λ span. is_in_span star span n) made (λ m e inside. let end = joined.ends m e inside in lacks (get_or made m e) star n (joined.apart.plain m e inside) (inr (omega arith)))

  pub joined_none : IsJoined xs 0 []
  joined_none = record {
    apart = record { plain = λ m e inside. absurd (omega (arith, inside)); lows = λ i j d le inside. absurd (omega (arith, inside)); highs = λ i j d le inside. absurd (omega (arith, inside)) };
    ends = λ m e inside. absurd (omega (arith, inside));
    same = λ star n less. absurd (omega arith);
  }

  module _ (j next : ℕ) (x : Range) (made : List Span) (less : j < length xs) (is : x ≡ get_or xs j x) (done : All (λ (r : Range). r.high < next) (take j xs)) (joined : IsJoined xs next made) where
    abbrev low : ℕ
    low = max x.low next

    abbrev span : Span
    span = record { from = Number (max x.low next); to = Number x.high }

    within : (n : ℕ) → x.low ≤ n → n ≤ x.high → is_in_ranges xs n ≡ true
    within n le small = list_any_at (is_in_range n) xs j x less (subst (λ (r : Range). is_in_range n r ≡ true) is (and_from (nat_le x.low n) (nat_le n x.high) (le-leb x.low n le) (le-leb n x.high small)))

    none : (n : ℕ) → next ≤ n → n < x.low → is_in_ranges xs n ≡ false
    none n le small = before j next x less done n le (subst (λ (r : Range). n < r.low) is small)

    -- the range has numbers from here on
    some : low ≤ x.high → IsJoined xs (max next (x.high + 1)) (made ++ span ∷ [])
    some fits = record {
      apart = record {
        plain = All-push IsPlain made span joined.apart.plain plain;
        lows = IsNonDecreasingBy-push low_of made span joined.apart.lows (λ d filled.
            let end = joined.ends (length made - 1) d (omega arith) in
            let ordered = (joined.apart.plain (length made - 1) d (omega arith)).ordered in
            omega arith);
        highs = IsNonDecreasingBy-push high_of made span joined.apart.highs (λ d filled. let end = joined.ends (length made - 1) d (omega arith) in omega arith);
      };
      ends = All-push (λ s. high_of s < max next (x.high + 1)) made span (All-weaker (λ s. high_of s < next) (λ s. high_of s < max next (x.high + 1)) (λ s end. omega arith) made joined.ends) (omega arith);
      same = λ star n small. list_any-append (λ s. is_in_span star s n) made (span ∷ []) ∙ by star n small (cases_lt n next);
    }
      where
        plain : IsPlain span
        plain = record { from = λ star. refl; to = λ star. refl; ordered = fits }

        or_nothing : (b : Bool) → (b || false) ≡ b
        or_nothing true = refl
        or_nothing false = refl

        last : (star n : ℕ) (b c : Bool) → is_in_set star made n ≡ b → is_in_span star span n ≡ c → (is_in_set star made n || is_in_set star (span ∷ []) n) ≡ (b || c)
        last star n b c e f = ap (λ (t : Bool). t || is_in_set star (span ∷ []) n) e ∙ ap (λ (t : Bool). b || t) (or_nothing (is_in_span star span n) ∙ f)

        by_low : (star n : ℕ) → next ≤ n → n ≤ x.high → (n < x.low) ⊎ (x.low ≤ n) → (is_in_set star made n || is_in_set star (span ∷ []) n) ≡ is_in_ranges xs n
        by_low star n le small (inl early) = last star n false false (behind next made joined star n le) (lacks span star n plain (inl (omega arith))) ∙ sym (none n le early)
        by_low star n le small (inr late) = last star n false true (behind next made joined star n le) (has span star n plain (omega arith) small) ∙ sym (within n late small)

        by : (star n : ℕ) → n < max next (x.high + 1) → (n < next) ⊎ (next ≤ n) → (is_in_set star made n || is_in_set star (span ∷ []) n) ≡ is_in_ranges xs n
        by star n small (inl early) =
            last star n (is_in_ranges xs n) false (joined.same star n early) (lacks span star n plain (inl (omega arith))) ∙ or_nothing (is_in_ranges xs n)
        by star n small (inr late) = by_low star n late (omega arith) (cases_lt n x.low)

    -- it has none
    empty : x.high < low → IsJoined xs (max next (x.high + 1)) made
    empty short = record {
      apart = joined.apart;
      ends = All-weaker (λ s. high_of s < next) (λ s. high_of s < max next (x.high + 1)) (λ s end. omega arith) made joined.ends;
      same = λ star n small. by star n small (cases_lt n next);
    }
      where
        by : (star n : ℕ) → n < max next (x.high + 1) → (n < next) ⊎ (next ≤ n) → is_in_set star made n ≡ is_in_ranges xs n
        by star n small (inl early) = joined.same star n early
        by star n small (inr late) = behind next made joined star n late ∙ sym (none n late (omega arith))

    pub joined_more : IsJoined xs (max next (x.high + 1)) (made ++ piece next x)
    joined_more = by (nat_le low x.high) refl
      where
        by : (b : Bool) → nat_le low x.high ≡ b → IsJoined xs (max next (x.high + 1)) (made ++ (if b then span ∷ [] else []))
        by true e = some (leb-true low x.high e)
        by false e = subst (IsJoined xs (max next (x.high + 1))) (sym (append-nil made)) (empty (leb-false low x.high e))

  -- behind the last range there are no numbers
  pub joined_all : (next : ℕ) (made : List Span) → All (λ (r : Range). r.high < next) xs → IsJoined xs next made → (star n : ℕ) → is_in_set star made n ≡ is_in_ranges xs n
  joined_all next made done joined star n = by (cases_lt n next)
    where
      by : (n < next) ⊎ (next ≤ n) → is_in_set star made n ≡ is_in_ranges xs n
      by (inl early) = joined.same star n early
      by (inr late) = behind next made joined star n late ∙ sym (list_any_none (is_in_range n) xs (λ m e inside. outside n (get_or xs m e) (inr (let end = done m e inside in omega arith))))

-- ---- by halves

-- the first range that doesn't end before the number has it, or else none has
module _ (set : List Span) (n at : ℕ) (apart : AreApart set) (point : IsPartitionPoint (λ (s : Span). ltb (high_of s) n ≡ true) (λ (s : Span). ltb (high_of s) n ≡ false) set at) where
  pub none_behind : length set ≤ at → (star : ℕ) → is_in_set star set n ≡ false
  none_behind all star = list_any_none (λ span. is_in_span star span n) set (λ m e inside.
      let end = ltb-true (high_of (get_or set m e)) n (point.0 m e (omega arith) (omega arith)) in
      lacks (get_or set m e) star n (apart.plain m e inside) (inr end))

  pub first_has : (s : Span) → at < length set → s ≡ get_or set at s → (star : ℕ) → nat_le (low_of s) n ≡ is_in_set star set n
  first_has s here is star = by (cases_lt n (low_of s))
    where
      high : n ≤ high_of s
      high = ltb-false (high_of s) n (subst (λ (t : Span). ltb (high_of t) n ≡ false) (sym is) (point.1 at s (omega arith) here))

      plain : IsPlain s
      plain = subst IsPlain (sym is) (apart.plain at s here)

      by : (n < low_of s) ⊎ (low_of s ≤ n) → nat_le (low_of s) n ≡ is_in_set star set n
      by (inl below) =
          lt-leb (low_of s) n below
          ∙ sym (list_any_none (λ span. is_in_span star span n) set (λ m e inside. lacks (get_or set m e) star n (apart.plain m e inside) (each m e inside (cases_lt m at))))
        where
          each : (m : ℕ) (e : Span) → m < length set → (m < at) ⊎ (at ≤ m) → (n < low_of (get_or set m e)) ⊎ (high_of (get_or set m e) < n)
          each m e inside (inl early) = inr (ltb-true (high_of (get_or set m e)) n (point.0 m e (omega arith) early))
          each m e inside (inr late) =
              let up = apart.lows at m e late inside in
              let same = ap low_of (get_or_default set at e s here) in
              let here_low = ap low_of is in
              inl (omega arith)
      by (inr above) =
          le-leb (low_of s) n above
          ∙ sym (list_any_at (λ span. is_in_span star span n) set at s here (subst (λ (t : Span). is_in_span star t n ≡ true) is (has s star n plain above high)))
