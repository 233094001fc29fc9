-- Parts of a write, one behind the other, and interruptions that are still to come.
use Rattle.std.proofs.Common.{◌≡◌, ℕ, suc, zero, ◌+◌, ◌<◌, ◌≤◌, true, false, cond, List, [], ◌∷◌, ◌++◌, length, take, drop, Some, Result, Ok, Err, refl, sym, ◌∙◌, ap, subst, arith, add-one, append_assoc, length-drop}
use Rattle.std.specs.Prelude.{slice_get, count_by, IfOk}
use Rattle.std.proofs.lemmas.List.Sums.{sum_by-cons}
use Rattle.dv_streams.specs.declared.calls.CallFault.{CallFault}
use Rattle.dv_streams.specs.declared.calls.CallFault.TheVariants as fault
use Rattle.dv_streams.specs.declared.mem_calls.Event.{Event}
use Rattle.dv_streams.specs.declared.mem_calls.Event.TheVariants.{Takes, Interrupted, Failed}
use Rattle.dv_streams.specs.Calls.{IsCounted, TakesSome}
use Rattle.dv_streams.specs.Channels.{is_interruption, Leaves}

take_both : (m n : ℕ) (xs : List ℕ) → take m xs ++ take n (drop m xs) ≡ take (m + n) xs
take_both zero n xs = ap (λ (k : ℕ). take k xs) (omega arith)
take_both (suc m) n [] = none n (suc m + n)
  where
    none : (a b : ℕ) → take {A = ℕ} a [] ≡ take {A = ℕ} b []
    none zero zero = refl
    none zero (suc b) = refl
    none (suc a) zero = refl
    none (suc a) (suc b) = refl
take_both (suc m) n (x ∷ xs) = let one : suc m + n ≡ suc (m + n) = omega arith in rw one (ap (λ (l : List ℕ). x ∷ l) (take_both m n xs))

-- a part more was taken
pub more_taken : (old mid new rest bytes : List ℕ) (done count now : ℕ) → rest ≡ drop done bytes → mid ≡ old ++ take done bytes → new ≡ mid ++ take count rest → now ≡ done + count
    → new ≡ old ++ take now bytes
more_taken old mid new rest bytes done count now is was more sum =
    let joined : take done bytes ++ take count (drop done bytes) ≡ take now bytes = take_both done count bytes ∙ ap (λ (k : ℕ). take k bytes) (sym sum) in
    more ∙ ap (λ (l : List ℕ). l ++ take count rest) was ∙ ap (λ (l : List ℕ). (old ++ take done bytes) ++ take count l) is
    ∙ append_assoc old (take done bytes) (take count (drop done bytes)) ∙ ap (λ (l : List ℕ). old ++ l) joined

-- what a call says of its answer
pub took : {E : Type 0} (old new bytes : List ℕ) (r : Result ℕ E) (n : ℕ) → r ≡ Ok n → TakesSome old new bytes r → (new ≡ old ++ take n bytes) × (0 < length bytes → 0 < n)
took old new bytes r n is takes = subst (TakesSome old new bytes) is takes

pub cut_counted : (failed now some left : ℕ) (e : CallFault) → e ≡ fault.Interrupted → IsCounted {T = ℕ} failed now some left (Err e) → (now ≡ failed) × (left < some)
cut_counted failed now some left e is counted = subst (λ (x : CallFault). IsCounted {T = ℕ} failed now some left (Err x)) is counted

pub ok_bound : {E : Type 0} (r : Result ℕ E) (n : ℕ) (rest bytes : List ℕ) (done : ℕ) → r ≡ Ok n → IfOk r (λ k. k ≤ length rest) → rest ≡ drop done bytes → done ≤ length bytes → done + n ≤ length bytes
ok_bound r n rest bytes done is bound back le =
    let few : n ≤ length rest = subst (λ (x : Result ℕ _). IfOk x (λ k. k ≤ length rest)) is bound in
    omega (arith, few, ap length back, length-drop done bytes, le)

-- ---- events in memory

count_cons : (x : Event) (xs : List Event) → count_by is_interruption (x ∷ xs) ≡ cond (is_interruption x) 1 0 + count_by is_interruption xs
count_cons x xs = sum_by-cons (λ (e : Event). cond (is_interruption e) 1 0) x xs

rest_of : (listed : List Event) (next : ℕ) (event : Event) → slice_get listed next ≡ Some event
    → count_by is_interruption (drop next listed) ≡ cond (is_interruption event) 1 0 + count_by is_interruption (drop (next + 1) listed)
rest_of [] next event is = absurd (cc)
rest_of (x ∷ xs) zero event is =
    let same : x ≡ event = cc in
    count_cons x xs ∙ ap (λ (e : Event). cond (is_interruption e) 1 0 + count_by is_interruption xs) same
rest_of (x ∷ xs) (suc n) event is =
    let e : drop (suc n + 1) (x ∷ xs) ≡ drop (n + 1) xs = ap (λ (k : ℕ). drop k (x ∷ xs)) (add-one (suc n)) ∙ ap (λ (k : ℕ). drop k xs) (sym (add-one n)) in
    rest_of xs n event is ∙ ap (λ (l : List Event). cond (is_interruption event) 1 0 + count_by is_interruption l) (sym e)

pub next_leaves : (listed : List Event) (next : ℕ) (event : Event) → slice_get listed next ≡ Some event
    → Leaves (count_by is_interruption (drop next listed)) (count_by is_interruption (drop (next + 1) listed)) event
next_leaves listed next (Takes most) is = omega (arith, rest_of listed next (Takes most) is)
next_leaves listed next Interrupted is = omega (arith, rest_of listed next Interrupted is)
next_leaves listed next Failed is = omega (arith, rest_of listed next Failed is)
