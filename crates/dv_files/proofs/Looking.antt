-- What is read of message files, one behind the other, and what its failures are behind.
use Rattle.std.proofs.Common.{◌≡◌, ℕ, suc, ◌+◌, Result, Ok, Err, IsErrOf, ◌∙◌, ap, subst, arith}
use Rattle.dv_shelf.specs.Causes.{HasCauseOf}
use Rattle.dv_shelf.specs.Folders.{counted}
use Rattle.dv_files.specs.Reading.{after_reads}

-- one read more
pub reads_more : (before mid now n : ℕ) → mid ≡ after_reads before n → now ≡ counted mid 1 → now ≡ after_reads before (n + 1)
reads_more before mid now n so_far is =
    let step : suc n ≡ n + 1 = omega arith in
    is ∙ ap (λ (k : ℕ). counted k 1) so_far ∙ ap (λ (k : ℕ). after_reads before k) step

module _ {E : Type 0} (failed : E) where
  -- an answer that isn't this error has no failure behind it
  pub count_same : {T : Type 0} (before now : ℕ) (result : Result T E) (x : T) → result ≡ Ok x → HasCauseOf failed before now result → now ≡ before
  count_same before now result x is cause = cause.same (λ e. cc)

  -- calls that failed in nothing go before
  pub cause_behind : {T : Type 0} (before mid now : ℕ) (result : Result T E) → mid ≡ before → HasCauseOf failed mid now result → HasCauseOf failed before now result
  cause_behind before mid now result same cause = subst (λ (k : ℕ). HasCauseOf failed k now result) same cause

  -- an error is passed on
  pub cause_passed : {A B : Type 0} (before now : ℕ) (inner : Result A E) (outer : Result B E) (y : E) → inner ≡ Err y → outer ≡ Err y → HasCauseOf failed before now inner → HasCauseOf failed before now outer
  cause_passed before now inner outer y one other cause = record {
    later = cause.later;
    rose = λ is.
        let e : y ≡ failed = cc in
        cause.rose (one ∙ ap Err e);
    same = λ not.
        cause.same (λ is.
        let e : y ≡ failed = cc in
        not (other ∙ ap Err e));
  }

  -- nothing was called, or nothing failed
  pub cause_none : {T : Type 0} (before now : ℕ) (result : Result T E) → (IsErrOf result failed → ⊥) → now ≡ before → HasCauseOf failed before now result
  cause_none before now result not same = record { later = omega (arith, same); rose = λ is. absurd (not is); same = λ n. same }
