-- Numbers that rise, and where one stands among them.
use Rattle.std.proofs.Common.{◌≡◌, ◌⊎◌, inl, inr, ℕ, zero, suc, ◌+◌, ◌<◌, ◌≤◌, Bool, true, false, cond, ◌||◌, ltb, List, [], ◌∷◌, ◌++◌, length, get_or, drop, take, Some, None, refl, sym, ap, subst, ◌∙◌, arith}
use Rattle.std.specs.Prelude.{nat_eq, slice_get}
use Rattle.std.specs.List.{AllByRecursion}
use Rattle.std.specs.List.Sorted.{IsPartitionedBy}
use Rattle.std.proofs.lemmas.Bool.{cases_lt, eqb-true, eq-eqb, ne_eqb}
use Rattle.std.proofs.lemmas.List.Sorted.{IsPartitionedBy-ltb}
use Rattle.dv_live.specs.Turning.{RiseFrom, behind, has_uid, starts_with}

pub rise_lower : (k n : ℕ) (us : List ℕ) → k ≤ n → RiseFrom n us → RiseFrom k us
rise_lower k n [] le up = tt
rise_lower k n (u ∷ us) le up = (omega (arith, up.0), up.1)

from_on : (n : ℕ) (us : List ℕ) (j d : ℕ) → RiseFrom n us → j < length us → n ≤ get_or us j d
from_on n [] j d up less = absurd (omega (arith, less))
from_on n (u ∷ us) zero d up less = up.0
from_on n (u ∷ us) (suc j) d up less =
    let rest = from_on (u + 1) us j d up.1 (omega (arith, less)) in
    omega (arith, up.0, rest)

never_fall : (n : ℕ) (us : List ℕ) → RiseFrom n us → (i j d : ℕ) → i ≤ j → j < length us → get_or us i d ≤ get_or us j d
never_fall n [] up i j d le less = absurd (omega (arith, less))
never_fall n (u ∷ us) up zero zero d le less = omega arith
never_fall n (u ∷ us) up zero (suc j) d le less =
    let rest = from_on (u + 1) us j d up.1 (omega (arith, less)) in
    omega (arith, rest)
never_fall n (u ∷ us) up (suc i) zero d le less = absurd (omega (arith, le))
never_fall n (u ∷ us) up (suc i) (suc j) d le less = never_fall (u + 1) us up.1 i j d (omega (arith, le)) (omega (arith, less))

pub splits : (n : ℕ) (us : List ℕ) (uid : ℕ) → RiseFrom n us → IsPartitionedBy (λ (u : ℕ). ltb u uid) us
splits n us uid up = IsPartitionedBy-ltb (λ (u : ℕ). u) us uid (λ i j d le less. never_fall n us up i j d le less)

pub before_place : (us : List ℕ) (uid at : ℕ) → ((k : ℕ) → k < at → k < length us → get_or us k 0 < uid) → AllByRecursion (λ u. u < uid) (take at us)
before_place us uid zero low = tt
before_place [] uid (suc at) low = tt
before_place (u ∷ us) uid (suc at) low = (low 0 (omega arith) (omega arith), before_place us uid at (λ k less inside. low (suc k) (omega arith) (omega arith)))

pub from_place : (n : ℕ) (us : List ℕ) (uid at : ℕ) → RiseFrom n us → (at < length us → uid ≤ get_or us at 0) → RiseFrom uid (drop at us)
from_place n [] uid zero up from = tt
from_place n [] uid (suc at) up from = tt
from_place n (u ∷ us) uid zero up from = (from (omega arith), up.1)
from_place n (u ∷ us) uid (suc at) up from = from_place (u + 1) us uid at up.1 (λ less. from (omega arith))

-- none is below the first that may be
pub none_below : (n u : ℕ) (us : List ℕ) → RiseFrom n us → u < n → has_uid us u ≡ false
none_below n u [] up less = refl
none_below n u (v ∷ us) up less =
    let more : n ≤ v = up.0 in
    rw (ne_eqb v u (λ e. omega (arith, more, less, e))) (none_below (v + 1) u us up.1 (omega (arith, more, less)))

-- none of lesser ones is this
pub none_before : (uid : ℕ) (front rest : List ℕ) → AllByRecursion (λ u. u < uid) front → has_uid (front ++ rest) uid ≡ has_uid rest uid
none_before uid [] rest low = refl
none_before uid (u ∷ front) rest low = let less : u < uid = low.0 in rw (ne_eqb u uid (λ e. omega (arith, less, e))) (none_before uid front rest low.1)

pub behind_above : (uid : ℕ) (us : List ℕ) → RiseFrom (uid + 1) us → behind uid us ≡ us
behind_above uid [] up = refl
behind_above uid (u ∷ us) up = let more : uid + 1 ≤ u = up.0 in rw (ne_eqb u uid (λ e. omega (arith, more, e))) refl

pub behind_rises : (uid : ℕ) (us : List ℕ) → RiseFrom uid us → RiseFrom (uid + 1) (behind uid us)
behind_rises uid [] up = tt
behind_rises uid (u ∷ us) up = by_test (nat_eq u uid) refl
  where
    by_test : (b : Bool) → nat_eq u uid ≡ b → RiseFrom (uid + 1) (cond b us (u ∷ us))
    by_test true e = subst (λ v. RiseFrom (v + 1) us) (eqb-true u uid e) up.1
    by_test false e = let more : uid ≤ u = up.0 in (by_order (cases_lt uid u), up.1)
      where
        by_order : (uid < u) ⊎ (u ≤ uid) → uid + 1 ≤ u
        by_order (inl less) = omega (arith, less)
        by_order (inr le) = let more : uid ≤ u = up.0 in let same : u ≡ uid = omega (arith, le, more) in absurd (let f : true ≡ false = sym (eq-eqb u uid same) ∙ e in cc)

-- ---- the first

pub starts_some : (us : List ℕ) (u uid : ℕ) → slice_get us 0 ≡ Some u → starts_with us uid ≡ nat_eq u uid
starts_some [] u uid is = absurd cc
starts_some (v ∷ us) u uid is = let same : v ≡ u = cc in ap (λ w. nat_eq w uid) same

pub starts_none : (us : List ℕ) (uid : ℕ) → slice_get us 0 ≡ None → starts_with us uid ≡ false
starts_none [] uid is = refl
starts_none (v ∷ us) uid is = absurd cc

-- of those from a UID on it is one only as the first
pub first_or_none : (uid : ℕ) (us : List ℕ) → RiseFrom uid us → has_uid us uid ≡ starts_with us uid
first_or_none uid [] up = refl
first_or_none uid (u ∷ us) up = by_test (nat_eq u uid)
  where
    later : has_uid us uid ≡ false
    later = let more : uid ≤ u = up.0 in none_below (u + 1) uid us up.1 (omega (arith, more))

    by_test : (b : Bool) → (b || has_uid us uid) ≡ b
    by_test true = refl
    by_test false = later

pub behind_first : (uid : ℕ) (us : List ℕ) → starts_with us uid ≡ true → behind uid us ≡ drop 1 us
behind_first uid [] is = refl
behind_first uid (u ∷ us) is = rw is refl

pub behind_other : (uid : ℕ) (us : List ℕ) → starts_with us uid ≡ false → behind uid us ≡ us
behind_other uid [] is = refl
behind_other uid (u ∷ us) is = rw is refl

pub some_first : (uid : ℕ) (us : List ℕ) → starts_with us uid ≡ true → 1 ≤ length us
some_first uid [] is = absurd cc
some_first uid (u ∷ us) is = omega arith
