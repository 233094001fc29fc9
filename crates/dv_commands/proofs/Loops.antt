-- Reading several, as a loop does.
use Rattle.std.proofs.Common.{◌≡◌, ℕ, suc, ◌-◌, ◌+◌, ◌≤◌, ◌<◌, List, [], ◌∷◌, ◌++◌, Option, Some, None, codes, refl, sym, ap, ◌∙◌, append_assoc, arith}
use Rattle.dv_sets.specs.declared.end.ParseEnd.{ParseEnd}
use Rattle.dv_sets.specs.declared.end.ParseEnd.TheVariants.{Bad, NoMemory}
use Rattle.dv_formats.specs.Parsing.{◌>>=◌, after, several}
use Rattle.dv_commands.specs.Reads.{Fails}

-- what was read before, and what is still read
abbrev pub with_front : {A : Type 0} → List A → Option (List A × List ℕ) → Option (List A × List ℕ)
with_front front read = read >>= λ x. Some (front ++ x.0, x.1)

regroup : {A : Type 0} (front : List A) (x : A) (read : Option (List A × List ℕ)) → with_front front (read >>= λ others. Some (x ∷ others.0, others.1)) ≡ with_front (front ++ x ∷ []) read
regroup front x (Some y) = ap (λ xs. Some (xs, y.1)) (simp append_assoc)
regroup front x None = refl

-- one more was read, and a space follows
pub goes_on : {A : Type 0} (read : List ℕ → Option (A × List ℕ)) (front : List A) (count i : ℕ) (b : List ℕ) (x : A) (end next : List ℕ) (total : Option (List A × List ℕ))
    → i < count → read b ≡ Some (x, end) → after (codes " ") end ≡ Some next
    → with_front front (several read (count - i) b) ≡ total
    → with_front (front ++ x ∷ []) (several read (count - (i + 1)) next) ≡ total
unfolding several
goes_on read front count i b x end next total lt h space so_far =
    let k : count - i ≡ suc (count - (i + 1)) = omega arith in
    let one : with_front front (several read (count - i) b) ≡ with_front (front ++ x ∷ []) (several read (count - (i + 1)) next) = rw (k, h, space) (regroup front x (several read (count - (i + 1)) next)) in
    sym one ∙ so_far

-- one more was read, and it is the last one
pub ends : {A : Type 0} (read : List ℕ → Option (A × List ℕ)) (front : List A) (count i : ℕ) (b : List ℕ) (x : A) (end : List ℕ) (total : Option (List A × List ℕ))
    → i < count → read b ≡ Some (x, end) → after (codes " ") end ≡ None
    → with_front front (several read (count - i) b) ≡ total
    → total ≡ Some (front ++ x ∷ [], end)
unfolding several
ends read front count i b x end total lt h none so_far =
    let k : count - i ≡ suc (count - (i + 1)) = omega arith in
    let one : with_front front (several read (count - i) b) ≡ Some (front ++ x ∷ [], end) = rw (k, h, none) refl in
    sym so_far ∙ one

pub fails : {A : Type 0} (e : ParseEnd) (read : List ℕ → Option (A × List ℕ)) (front : List A) (count i : ℕ) (b : List ℕ) (total : Option (List A × List ℕ))
    → i < count → Fails e (read b) → with_front front (several read (count - i) b) ≡ total
    → Fails e total
unfolding several
fails NoMemory read front count i b total lt h so_far = tt
fails Bad read front count i b total lt h so_far =
    let k : count - i ≡ suc (count - (i + 1)) = omega arith in
    let one : with_front front (several read (count - i) b) ≡ None = rw (k, h) refl in
    sym so_far ∙ one

-- there are too many
pub too_many : {A : Type 0} (read : List ℕ → Option (A × List ℕ)) (front : List A) (count i : ℕ) (b : List ℕ) (total : Option (List A × List ℕ))
    → count ≤ i → with_front front (several read (count - i) b) ≡ total → total ≡ None
unfolding several
too_many read front count i b total le so_far =
    let k : count - i ≡ 0 = omega arith in
    let one : with_front front (several read (count - i) b) ≡ None = rw k refl in
    sym so_far ∙ one

-- nothing was read before
pub starts : {A : Type 0} (read : Option (List A × List ℕ)) → with_front [] read ≡ read
starts None = refl
starts (Some x) = refl
