-- What disjoint changes do at a UID.
use Rattle.std.proofs.Common.{◌≡◌, ◌⊎◌, inl, inr, ℕ, ◌+◌, ◌-◌, ◌<◌, ◌≤◌, Bool, true, false, cond, List, [], ◌∷◌, ◌++◌, drop, Some, sym, refl, ◌∙◌, ap, subst, arith}
use Rattle.std.specs.Prelude.{All, ◌&&◌, bit_and, bit_or, max, min, nat_le, nat_lt, slice_get}
use Rattle.std.specs.Int.{bit_at}
use Rattle.std.proofs.lemmas.Bool.Decides.{nat_tests}
use Rattle.std.proofs.lemmas.List.Elements.{All-cons, All-tail, All-weaker}
use Rattle.std.proofs.lemmas.List.Sums.{fold-append}
use Rattle.std.proofs.lemmas.Nat.{and_le_r}
use Rattle.std.proofs.lemmas.Nat.Bits.{bit_at_and, bit_at_or, same_from_bits}
use Rattle.dv_model.specs.declared.types.Change.{Change}
use Rattle.dv_model.specs.Effects.{with_bits}
use Rattle.dv_ranges.specs.Ranges.{AreChangesApart, AreFrom, flags_after, flags_behind}
use Rattle.dv_ranges.proofs.Apart.{ends, first_of}

-- ---- one change

missed : (uid flags : ℕ) (c : Change) → (uid < c.first) ⊎ (c.last < uid) → flags_behind uid flags c ≡ flags
missed uid flags c out = grind (arith, nat_tests)

met : (uid flags : ℕ) (c : Change) → c.first ≤ uid → uid ≤ c.last → flags_behind uid flags c ≡ with_bits c.add c.remove flags
met uid flags c low high = grind (arith, nat_tests)

-- ---- changes that rise

pub ahead : (uid flags low : ℕ) (xs : List Change) → AreFrom (λ (x : Change). x.first) (λ (x : Change). x.last) low xs → uid < low → flags_after uid flags xs ≡ flags
ahead uid flags low [] are less = refl
ahead uid flags low (x ∷ xs) are less =
    ap (λ (f : ℕ). flags_after uid f xs) (missed uid flags x (inl (omega (arith, are.0))))
    ∙ ahead uid flags (x.last + 1) xs are.2 (omega (arith, are.0, are.1))

pub behind : (uid flags : ℕ) (xs : List Change) → All (λ x. x.last < uid) xs → flags_after uid flags xs ≡ flags
behind uid flags [] all = refl
behind uid flags (x ∷ xs) all =
    ap (λ (f : ℕ). flags_after uid f xs) (missed uid flags x (inr (first_of (λ x. x.last < uid) x xs all)))
    ∙ behind uid flags xs (All-tail (λ x. x.last < uid) x xs all)

-- ---- the first of them

pub begins : (xs : List Change) (x : Change) → Some x ≡ slice_get xs 0 → xs ≡ x ∷ drop 1 xs
begins [] x e = absurd cc
begins (y ∷ ys) x e = let same : x ≡ y = cc in ap (λ (z : Change). z ∷ ys) (sym same)

module _ (xs : List Change) (x : Change) (at : Some x ≡ slice_get xs 0) (are : AreChangesApart xs) where
  listed : AreChangesApart (x ∷ drop 1 xs)
  listed = subst AreChangesApart (begins xs x at) are

  pub before_first : (uid flags : ℕ) → uid < x.first → flags_after uid flags xs ≡ flags
  before_first uid flags less =
      ap (flags_after uid flags) (begins xs x at)
      ∙ ahead uid flags x.first (x ∷ drop 1 xs) (omega arith, listed.1, listed.2) less

  pub at_first : (uid flags : ℕ) → x.first ≤ uid → uid ≤ x.last → flags_after uid flags xs ≡ with_bits x.add x.remove flags
  at_first uid flags low high =
      ap (flags_after uid flags) (begins xs x at)
      ∙ ap (λ (f : ℕ). flags_after uid f (drop 1 xs)) (met uid flags x low high)
      ∙ ahead uid (with_bits x.add x.remove flags) (x.last + 1) (drop 1 xs) listed.2 (omega arith)

  -- the first one ends first
  pub end_later : All (λ y. x.last ≤ y.last) xs
  end_later =
      subst (All (λ y. x.last ≤ y.last)) (sym (begins xs x at))
      (All-cons (λ y. x.last ≤ y.last) x (drop 1 xs) (omega arith)
      (All-weaker (λ y. x.last + 1 ≤ y.last) (λ y. x.last ≤ y.last) (λ y h. omega arith) (drop 1 xs) (ends (λ (c : Change). c.first) (λ (c : Change). c.last) (x.last + 1) (drop 1 xs) listed.2)))

  pub others_end_later : All (λ y. x.last + 1 ≤ y.last) (drop 1 xs)
  others_end_later = ends (λ (c : Change). c.first) (λ (c : Change). c.last) (x.last + 1) (drop 1 xs) listed.2

  pub some_uid : x.first ≤ x.last
  some_uid = listed.1

-- ---- one more behind them

by_test : (b : Bool) (done old : ℕ) (act : ℕ → ℕ) (flags : ℕ) → (b ≡ true → old ≡ flags) → cond b (act old) old ≡ cond b (act flags) old
by_test true done old act flags same = ap act (same refl)
by_test false done old act flags same = refl

same_test : (from until uid : ℕ) → from < until → (nat_le from uid && nat_le uid (until - 1)) ≡ (nat_le from uid && nat_lt uid until)
same_test from until uid some = grind (arith, nat_tests)

within : (from until uid : ℕ) → (nat_le from uid && nat_lt uid until) ≡ true → from ≤ uid
within from until uid e = grind (arith, nat_tests)

pub piece : (old : List Change) (from until add remove uid flags : ℕ) → from < until → All (λ x. x.last < from) old
    → flags_after uid flags (old ++ record { first = from; last = until - 1; add = add; remove = remove } ∷ [])
    ≡ cond (nat_le from uid && nat_lt uid until) (with_bits add remove flags) (flags_after uid flags old)
piece old from until add remove uid flags some before =
    fold-append (flags_behind uid) flags old (record { first = from; last = until - 1; add = add; remove = remove } ∷ [])
    ∙ ap (λ (b : Bool). cond b (with_bits add remove (flags_after uid flags old)) (flags_after uid flags old)) (same_test from until uid some)
    ∙ by_test (nat_le from uid && nat_lt uid until) 0 (flags_after uid flags old) (with_bits add remove) flags
    (λ e. behind uid flags old (All-weaker (λ x. x.last < from) (λ x. x.last < uid) (λ x h. let low = within from until uid e in omega arith) old before))

pub none : (old : List Change) (from until uid flags : ℕ) → All (λ x. x.last < from) old
    → flags_after uid flags old ≡ cond (nat_le from uid && nat_lt uid until) flags (flags_after uid flags old)
none old from until uid flags before = by (nat_le from uid && nat_lt uid until) refl
  where
    by : (b : Bool) → (nat_le from uid && nat_lt uid until) ≡ b → flags_after uid flags old ≡ cond b flags (flags_after uid flags old)
    by true e = behind uid flags old (All-weaker (λ x. x.last < from) (λ x. x.last < uid) (λ x h. let low = within from until uid e in omega arith) old before)
    by false e = refl

-- ---- two changes of bits in turn

lattice : (f a b c d : ℕ) → max (min f (min b d)) (max (min a d) c) ≡ max (min (max (min f b) a) d) c
lattice f a b c d = omega arith

pub twice : (flags a r b s : ℕ) → with_bits (bit_or (bit_and a (255 - s)) b) (255 - bit_and (255 - r) (255 - s)) flags ≡ with_bits b s (with_bits a r flags)
twice flags a r b s =
    let k = bit_and (255 - r) (255 - s) in
    let low : k ≤ 255 = omega (arith, and_le_r (255 - r) (255 - s)) in
    let back : 255 - (255 - k) ≡ k = omega arith in
    ap (λ (n : ℕ). bit_or (bit_and flags n) (bit_or (bit_and a (255 - s)) b)) back
    ∙ same_from_bits (bit_or (bit_and flags k) (bit_or (bit_and a (255 - s)) b)) (with_bits b s (with_bits a r flags)) (λ i. by i)
  where
    by : (i : ℕ) → bit_at (bit_or (bit_and flags (bit_and (255 - r) (255 - s))) (bit_or (bit_and a (255 - s)) b)) i ≡ bit_at (with_bits b s (with_bits a r flags)) i
    by i = simp (bit_at_or, bit_at_and) (lattice (bit_at flags i) (bit_at a i) (bit_at (255 - r) i) (bit_at b i) (bit_at (255 - s) i))
