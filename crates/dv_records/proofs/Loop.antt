-- Reading one item after another, as a loop does.
use Rattle.std.proofs.Common.{◌≡◌, ℕ, ◌+◌, ◌<◌, ◌≤◌, List, [], ◌∷◌, ◌++◌, length, get_or, take, drop, Option, Some, None, Err, refl, sym, ap, subst, ◌∙◌, append_assoc, arith, inl, inr}
use Rattle.std.proofs.lemmas.Bool.{cases_lt}
use Rattle.std.proofs.lemmas.List.{append-nil, length-take, get_or-drop, get_or-take, get_or_past}
use Rattle.dv_model.specs.Spelling.{InTurn}
use Rattle.dv_records.specs.declared.fault.DecodeEnd.{DecodeEnd}
use Rattle.dv_records.specs.declared.fault.DecodeEnd.TheVariants.{Fault, NoMemory}
use Rattle.dv_records.specs.Fronts.{IsReader, Reads, GivesFront}

abbrev pub IsBytes : List ℕ → Type 0
IsBytes b = (i : ℕ) → get_or b i 0 < 256

pub IsBytes-drop : (n : ℕ) (b : List ℕ) → IsBytes b → IsBytes (drop n b)
IsBytes-drop n b fits i = rw get_or-drop (fits (n + i))

pub IsBytes-take : (n : ℕ) (b : List ℕ) → IsBytes b → IsBytes (take n b)
IsBytes-take n b fits i =
    elim (cases_lt i n) [
      | inl lt ↦ rw (get_or-take n b i 0 lt) (fits i)
      | inr le ↦ rw (get_or_past (take n b) i 0 (omega (arith, length-take n b))) (omega arith)
    ]

-- the items that were read make up the bytes in front of the rest, and nothing else does
pub record IsReadTo {A : Type 0} (size : A → ℕ) (Is : A → List ℕ → Type 0) (b : List ℕ) (front : List A) (rest : List ℕ) : Type 0 where
  pub is : (xs : List A) → InTurn size Is xs rest → InTurn size Is (front ++ xs) b
  pub only : (ys : List A) → InTurn size Is ys b
      → (xs : List A) × (ys ≡ front ++ xs) × InTurn size Is xs rest
  pub fits : IsBytes rest

pub starts : {A : Type 0} (size : A → ℕ) (Is : A → List ℕ → Type 0) (b : List ℕ) → IsBytes b
    → IsReadTo size Is b [] b
starts size Is b fits = record { is = λ xs h. h; only = λ ys h. (ys, refl, h); fits = fits }

pub shorter : {A : Type 0} (size : A → ℕ) (Is : A → List ℕ → Type 0) (at : List ℕ → Option A)
    → IsReader size Is at → (b : List ℕ) (x : A) → IsBytes b → at b ≡ Some x
    → (1 ≤ size x) × (size x ≤ length b)
shorter size Is at reader b x fits is =
    let front : length (take (size x) b) ≡ size x = reader.sized x _ (reader.takes x b fits is) in
    (reader.positive x, omega (arith, length-take (size x) b))

some_is : {A : Type 0} (o : Option A) (x y : A) → o ≡ Some x → o ≡ Some y → x ≡ y
some_is o x y p q = cc

next : {A : Type 0} (size : A → ℕ) (Is : A → List ℕ → Type 0) (at : List ℕ → Option A)
    → IsReader size Is at → (ys front zs : List A) (rest : List ℕ) (x : A) → 1 ≤ length rest
    → at rest ≡ Some x
    → ys ≡ front ++ zs → InTurn size Is zs rest
    → (xs : List A) × (ys ≡ (front ++ x ∷ []) ++ xs) × InTurn size Is xs (drop (size x) rest)
next size Is at reader ys front [] rest x long found e is = let none : length rest ≡ 0 = ap length is in absurd (omega arith)
next {A = A} size Is at reader ys front (z ∷ zs) rest x long found e is =
    let same : z ≡ x = some_is (at rest) z x (reader.again z rest is.0) found in
    let here : ys ≡ front ++ x ∷ zs = e ∙ ap (λ (y : A). front ++ y ∷ zs) same in
    (zs, here ∙ sym (append_assoc front (x ∷ []) zs), subst (λ (y : A). InTurn size Is zs (drop (size y) rest)) same is.1)

pub goes_on : {A : Type 0} (size : A → ℕ) (Is : A → List ℕ → Type 0) (at : List ℕ → Option A)
    → IsReader size Is at → (b : List ℕ) (front : List A) (rest : List ℕ) (x : A) (n : ℕ)
    → IsReadTo size Is b front rest → at rest ≡ Some x → n ≡ size x
    → IsReadTo size Is b (front ++ x ∷ []) (drop n rest)
goes_on {A = A} size Is at reader b front rest x n so_far found e =
    let fits = shorter size Is at reader rest x so_far.fits found in
    let step : IsReadTo size Is b (front ++ x ∷ []) (drop (size x) rest) = record {
      is = λ xs h. subst (λ (ys : List A). InTurn size Is ys b) (sym (append_assoc front (x ∷ []) xs)) (so_far.is (x ∷ xs) (reader.takes x rest so_far.fits found, h));
      only = λ ys h. let p = so_far.only ys h in next size Is at reader ys front p.0 rest x (omega arith) found p.1 p.2;
      fits = IsBytes-drop (size x) rest so_far.fits;
    } in
    subst (λ (k : ℕ). IsReadTo size Is b (front ++ x ∷ []) (drop k rest)) (sym e) step

pub none_begins : {A : Type 0} (size : A → ℕ) (Is : A → List ℕ → Type 0) (at : List ℕ → Option A)
    → IsReader size Is at → (zs : List A) (rest : List ℕ) → 1 ≤ length rest → at rest ≡ None
    → InTurn size Is zs rest → ⊥
none_begins size Is at reader [] rest long none is = let e : length rest ≡ 0 = ap length is in omega arith
none_begins size Is at reader (z ∷ zs) rest long none is = let found = reader.again z rest is.0 in cc

-- where no item begins the rest, no items make up the bytes
pub fails : {A : Type 0} (size : A → ℕ) (Is : A → List ℕ → Type 0) (at : List ℕ → Option A)
    → IsReader size Is at → (b : List ℕ) (front : List A) (rest : List ℕ) (e : DecodeEnd)
    → IsReadTo size Is b front rest → 1 ≤ length rest → GivesFront size (Err e) (at rest)
    → Reads (λ (ys : List A). InTurn size Is ys b) (Err e)
fails size Is at reader b front rest NoMemory so_far long gives = tt
fails size Is at reader b front rest (Fault f) so_far long gives = (gives.0, λ ys h. let p = so_far.only ys h in none_begins size Is at reader p.0 rest long gives.1 p.2)

pub is_done : {A : Type 0} (size : A → ℕ) (Is : A → List ℕ → Type 0) (b : List ℕ) (front : List A)
    (rest : List ℕ)
    → IsReadTo size Is b front rest → rest ≡ [] → InTurn size Is front b
is_done {A = A} size Is b front rest so_far none = subst (λ (xs : List A). InTurn size Is xs b) (append-nil front) (so_far.is [] none)

-- no item makes up no bytes
pub needs_bytes : {A : Type 0} (size : A → ℕ) (Is : A → List ℕ → Type 0) (at : List ℕ → Option A)
    → IsReader size Is at → (xs : List A) (b : List ℕ) → b ≡ [] → 1 ≤ length xs
    → InTurn size Is xs b → ⊥
needs_bytes size Is at reader [] b none some is = omega arith
needs_bytes size Is at reader (x ∷ xs) b none some is =
    let n : length (take (size x) b) ≡ size x = reader.sized x _ is.0 in
    let e : length b ≡ 0 = ap length none in
    omega (arith, length-take (size x) b, reader.positive x)

-- bytes are spelled by one list of items
pub in_turn-one : {A : Type 0} (size : A → ℕ) (Is : A → List ℕ → Type 0) (at : List ℕ → Option A)
    → IsReader size Is at → (xs ys : List A) (b : List ℕ) → InTurn size Is xs b
    → InTurn size Is ys b → xs ≡ ys
in_turn-one size Is at reader [] [] b p q = refl
in_turn-one size Is at reader [] (y ∷ ys) b p q = absurd (needs_bytes size Is at reader (y ∷ ys) b p (omega arith) q)
in_turn-one size Is at reader (x ∷ xs) [] b p q = absurd (needs_bytes size Is at reader (x ∷ xs) b q (omega arith) p)
in_turn-one {A = A} size Is at reader (x ∷ xs) (y ∷ ys) b p q =
    let same : y ≡ x = some_is (at b) y x (reader.again y b q.0) (reader.again x b p.0) in
    let rest : InTurn size Is ys (drop (size x) b) = subst (λ (z : A). InTurn size Is ys (drop (size z) b)) same q.1 in
    let others : xs ≡ ys = in_turn-one size Is at reader xs ys (drop (size x) b) p.1 rest in
    cc
