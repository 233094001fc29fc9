-- How the counts that failures tell rise.
use Rattle.std.proofs.Common.{◌≡◌, ℕ, ◌+◌, ◌≤◌, List, [], ◌∷◌, ◌++◌, length, sym, ◌∙◌, ap, subst, arith}
use Rattle.std.specs.Prelude.{All, flat_map, min}
use Rattle.std.proofs.lemmas.List.Concat.{flat_map-append}
use Rattle.std.proofs.lemmas.List.Elements.{All-cons, All-nil}
use Rattle.dv_model.specs.Counts.{Rose, RoseBy, last_count}
use Rattle.dv_playing.specs.Laws.{FailuresRise, RiseFrom, failure_of, failures_of}
use Rattle.dv_playing.specs.Playing.{Attempt}

-- a count that rose from one that isn't less rose
pub rose_from : (low mid n : ℕ) → low ≤ mid → Rose mid n → Rose low n
rose_from low mid n less rose = by last_count rose
  where
    by : (last : ℕ) → min (mid + 1) last ≤ n → min (low + 1) last ≤ n
    by last rose = omega arith

-- or from one that rose
rose_again : (low mid n : ℕ) → Rose low mid → Rose mid n → Rose low n
rose_again low mid n first rose = by last_count first rose
  where
    by : (last : ℕ) → min (low + 1) last ≤ mid → min (mid + 1) last ≤ n → min (low + 1) last ≤ n
    by last first rose = omega arith

pub rise_from : (low mid high : ℕ) (ns : List ℕ) → low ≤ mid → RiseFrom mid ns high → RiseFrom low ns high
rise_from low mid high [] less rise = omega arith
rise_from low mid high (n ∷ ns) less rise = (rose_from low mid n less rise.0, rise.1)

-- more of them behind
pub rise_on : (low mid high : ℕ) (ns ms : List ℕ) → RiseFrom low ns mid → RiseFrom mid ms high → RiseFrom low (ns ++ ms) high
rise_on low mid high [] ms first more = rise_from low mid high ms first more
rise_on low mid high (n ∷ ns) ms first more = (first.0, rise_on n mid high ns ms first.1 more)

pub rise_more : (low mid high : ℕ) (ns : List ℕ) → RiseFrom low ns mid → mid ≤ high → RiseFrom low ns high
rise_more low mid high [] rise less = omega arith
rise_more low mid high (n ∷ ns) rise less = (rise.0, rise_more n mid high ns rise.1 less)

rises_by : (n low mid high : ℕ) → Rose low mid → RoseBy n mid high → RoseBy (n + 1) low high
rises_by n low mid high first more = by last_count first more
  where
    by : (last : ℕ) → min (low + 1) last ≤ mid → min (mid + n) last ≤ high → min (low + (n + 1)) last ≤ high
    by last first more = omega arith

pub rise_counts : (low high : ℕ) (ns : List ℕ) → RiseFrom low ns high → RoseBy (length ns) low high
rise_counts low high [] rise = by last_count
  where
    by : (last : ℕ) → min (low + 0) last ≤ high
    by last = omega (arith, rise)
rise_counts low high (n ∷ ns) rise =
    let longer : length ns + 1 ≡ length (n ∷ ns) = omega arith in
    subst (λ (k : ℕ). RoseBy k low high) longer (rises_by (length ns) low n high rise.0 (rise_counts n high ns rise.1))

above_all : (low mid high : ℕ) (ns : List ℕ) → Rose low mid → RiseFrom mid ns high → All (Rose low) ns
above_all low mid high [] rose rise = All-nil (Rose low)
above_all low mid high (n ∷ ns) rose rise =
    All-cons (Rose low) n ns (rose_again low mid n rose rise.0) (above_all low n high ns (rose_again low mid n rose rise.0) rise.1)

pub all_above : (low high : ℕ) (ns : List ℕ) → RiseFrom low ns high → All (Rose low) ns
all_above low high [] rise = All-nil (Rose low)
all_above low high (n ∷ ns) rise = All-cons (Rose low) n ns rise.0 (above_all low n high ns rise.0 rise.1)

-- where there is one the count rose
pub rose_over : (low high n : ℕ) (ns : List ℕ) → RiseFrom low (n ∷ ns) high → Rose low high
rose_over low high n [] rise = by last_count rise.0 rise.1
  where
    by : (last : ℕ) → min (low + 1) last ≤ n → n ≤ high → min (low + 1) last ≤ high
    by last rose less = omega arith
rose_over low high n (m ∷ ns) rise = rose_again low n high rise.0 (rose_over n high m ns rise.1)

pub failures_rise : FailuresRise
failures_rise low high ns rise = (rise_counts low high ns rise, all_above low high ns rise)

-- ---- of lines

pub failures_append : (attempts more : List Attempt) → failures_of (attempts ++ more) ≡ failures_of attempts ++ failures_of more
failures_append attempts more = flat_map-append (λ (a : Attempt). failure_of a.outcome) attempts more
