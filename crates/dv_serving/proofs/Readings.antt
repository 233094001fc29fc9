-- Readings of a clock that need not tell them.
use Rattle.std.proofs.Common.{◌≡◌, ℕ, ◌+◌, ◌-◌, ◌<◌, ◌≤◌, ◌^◌, Bool, true, false, nat_eq, nat_lt, refl, sym, ◌∙◌, ap, subst, arith}
use Rattle.std.specs.Prelude.{if◌then◌else◌}
use Rattle.std.proofs.Math.Path.{fun_ext}
use Rattle.std.proofs.lemmas.Bool.Decides.{nat_tests}
use Rattle.dv_model.specs.Journals.{IsU32}
use Rattle.dv_shelf.specs.Clocks.{behind}
use Rattle.dv_plans.proofs.Dated.{cut, cut_same, cut_small}
use Rattle.dv_serving.specs.Readings.{AreAlike, AreReadings, AtReadings}

-- ---- what holds at readings

-- of a clock that tells it holds at its own
pub told_readings : {tells : Type 0} {upcoming : ℕ → ℕ} {Holds : (ℕ → ℕ) → Type 0} → AtReadings tells upcoming Holds → tells → Holds upcoming
told_readings {Holds = Holds} dated reads = subst Holds (fun_ext (dated.told reads)) dated.holds

-- something else follows
pub readings_give : {tells : Type 0} {upcoming : ℕ → ℕ} {Holds Gives : (ℕ → ℕ) → Type 0} → AtReadings tells upcoming Holds
    → ((clock : ℕ → ℕ) → AreReadings clock → (tells → (n : ℕ) → clock n ≡ upcoming n) → Holds clock → Gives clock) → AtReadings tells upcoming Gives
readings_give dated give = record { clock = dated.clock; small = dated.small; told = dated.told; holds = give dated.clock dated.small dated.told dated.holds }

-- over these, more is said
pub readings_more : {tells : Type 0} {upcoming : ℕ → ℕ} {Holds More Gives : (ℕ → ℕ) → Type 0} (dated : AtReadings tells upcoming Holds) → AtReadings tells dated.clock More → ((clock : ℕ → ℕ) → More clock → Gives clock)
    → AtReadings tells upcoming Gives
readings_more dated more give = record {
  clock = more.clock;
  small = more.small;
  told = λ reads n. more.told reads n ∙ dated.told reads n;
  holds = give more.clock more.holds;
}

-- ---- readings of 32 bits

abbrev pub cut_all : (ℕ → ℕ) → ℕ → ℕ
cut_all upcoming n = cut (upcoming n)

module _ (tells : Type 0) (upcoming : ℕ → ℕ) (bound : (n : ℕ) → tells → upcoming n < 2 ^ 32) where
  pub cut_told : tells → (n : ℕ) → cut_all upcoming n ≡ upcoming n
  cut_told reads n = cut_same (upcoming n) (bound n reads)

  cut_are : AreReadings (cut_all upcoming)
  cut_are = λ n. cut_small (upcoming n)

  -- what holds at any readings that are the clock's where it tells
  pub any_readings : {Holds : (ℕ → ℕ) → Type 0} → ((clock : ℕ → ℕ) → (tells → clock ≡ upcoming) → Holds clock) → AtReadings tells upcoming Holds
  any_readings all = record { clock = cut_all upcoming; small = cut_are; told = cut_told; holds = all (cut_all upcoming) (λ reads. fun_ext (cut_told reads)) }

-- ---- one reading more

-- with this reading at a place
abbrev pub with_reading : (ℕ → ℕ) → ℕ → ℕ → ℕ → ℕ
with_reading clock place at n = if nat_eq n place then at else clock n

module _ (clock : ℕ → ℕ) (place at : ℕ) where
  by_place : (P : ℕ → Type 0) (n : ℕ) (b : Bool) → nat_eq n place ≡ b → (n ≡ place → P at) → ((n ≡ place → ⊥) → P (clock n)) → P (if b then at else clock n)
  by_place P n true is there apart = there (grind (arith, nat_tests, is))
  by_place P n false is there apart = apart (λ same. grind (arith, nat_tests, is, same))

  pub reading_there : with_reading clock place at place ≡ at
  reading_there = by_place (λ m. m ≡ at) place (nat_eq place place) refl (λ same. refl) (λ apart. absurd (apart refl))

  pub reading_else : (n : ℕ) → n < place → with_reading clock place at n ≡ clock n
  reading_else n less = by_place (λ m. m ≡ clock n) n (nat_eq n place) refl (λ same. absurd (omega (arith, less, same))) (λ apart. refl)

  pub reading_alike : (used : ℕ) → used ≤ place → AreAlike used (with_reading clock place at) clock
  reading_alike used le = λ n less. reading_else n (omega (arith, le, less))

  pub reading_small : AreReadings clock → IsU32 at → AreReadings (with_reading clock place at)
  reading_small small one = λ n. by_place IsU32 n (nat_eq n place) refl (λ same. one) (λ apart. small n)

  pub reading_told : at ≡ clock place → (n : ℕ) → with_reading clock place at n ≡ clock n
  reading_told is n = by_place (λ m. m ≡ clock n) n (nat_eq n place) refl (λ same. is ∙ ap clock (sym same)) (λ apart. refl)

-- what holds where this is the first reading
pub first_reading : (tells : Type 0) (upcoming : ℕ → ℕ) → ((n : ℕ) → tells → upcoming n < 2 ^ 32) → {Holds : (ℕ → ℕ) → Type 0} (at : ℕ) → IsU32 at → (tells → at ≡ upcoming 0)
    → ((tells → with_reading (cut_all upcoming) 0 at ≡ upcoming) → Holds (with_reading (cut_all upcoming) 0 at)) → AtReadings tells upcoming Holds
first_reading tells upcoming bound at small known one = record {
  clock = with_reading (cut_all upcoming) 0 at;
  small = reading_small (cut_all upcoming) 0 at (cut_are tells upcoming bound) small;
  told = same;
  holds = one (λ reads. fun_ext (same reads));
}
  where
    same : tells → (n : ℕ) → with_reading (cut_all upcoming) 0 at n ≡ upcoming n
    same reads n = reading_told (cut_all upcoming) 0 at (known reads ∙ sym (cut_told tells upcoming bound reads 0)) n ∙ cut_told tells upcoming bound reads n

-- ---- readings, and then others

-- the first so many, and then these
abbrev pub readings_then : (ℕ → ℕ) → ℕ → (ℕ → ℕ) → ℕ → ℕ
readings_then first used rest n = if nat_lt n used then first n else rest (n - used)

module _ (first : ℕ → ℕ) (used : ℕ) (rest : ℕ → ℕ) where
  by_order : (P : ℕ → Type 0) (n : ℕ) (b : Bool) → nat_lt n used ≡ b → (n < used → P (first n)) → (used ≤ n → P (rest (n - used))) → P (if b then first n else rest (n - used))
  by_order P n true is there apart = there (grind (arith, nat_tests, is))
  by_order P n false is there apart = apart (grind (arith, nat_tests, is))

  pub then_alike : AreAlike used (readings_then first used rest) first
  then_alike = λ n less. by_order (λ m. m ≡ first n) n (nat_lt n used) refl (λ l. refl) (λ le. absurd (omega (arith, less, le)))

  pub then_small : AreReadings first → AreReadings rest → AreReadings (readings_then first used rest)
  then_small one other = λ n. by_order IsU32 n (nat_lt n used) refl (λ less. one n) (λ le. other (n - used))

  pub then_told : ((n : ℕ) → rest n ≡ behind first used n) → (n : ℕ) → readings_then first used rest n ≡ first n
  then_told same n = by_order (λ m. m ≡ first n) n (nat_lt n used) refl (λ less. refl) (λ le. let back : used + (n - used) ≡ n = omega (arith, le) in same (n - used) ∙ ap first back)

  -- the others are behind them
  pub then_behind : behind (readings_then first used rest) used ≡ rest
  then_behind = fun_ext (λ k. by_order (λ m. m ≡ rest k) (used + k) (nat_lt (used + k) used) refl (λ less. absurd (omega (arith, less))) (λ le. let back : used + k - used ≡ k = omega arith in ap rest back))

-- ---- readings that are alike

pub alike_less : (few many : ℕ) (one other : ℕ → ℕ) → few ≤ many → AreAlike many one other → AreAlike few one other
alike_less few many one other le alike = λ n less. alike n (omega (arith, le, less))

pub alike_back : (used : ℕ) (one other : ℕ → ℕ) → AreAlike used one other → AreAlike used other one
alike_back used one other alike = λ n less. sym (alike n less)

pub alike_then : (used : ℕ) (one mid other : ℕ → ℕ) → AreAlike used one mid → AreAlike used mid other → AreAlike used one other
alike_then used one mid other first second = λ n less. first n less ∙ second n less

pub alike_behind : (n used : ℕ) (one other : ℕ → ℕ) → AreAlike (n + used) one other → AreAlike used (behind one n) (behind other n)
alike_behind n used one other alike = λ k less. alike (n + k) (omega (arith, less))
