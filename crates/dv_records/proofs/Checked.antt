-- Whether a record stands at a place, by the sizes of its items.
use Rattle.std.proofs.Common.{◌≡◌, ℕ, ◌+◌, ◌≤◌, Bool, true, false, eqb, List, [], ◌∷◌, ◌++◌, length, get_or, take, drop, Option, Some, None, refl, sym, ap, subst, ◌∙◌, arith, inl, inr}
use Rattle.std.proofs.lemmas.Bool.{eqb-true, eqb-false}
use Rattle.std.proofs.lemmas.Option.{same_Some}
use Rattle.std.proofs.lemmas.List.{length-take, take-append-drop}
use Rattle.dv_model.specs.declared.types.Body.{Body}
use Rattle.dv_model.specs.declared.types.Body.TheVariants.{ExtReset, KeywordUpdate}
use Rattle.dv_model.specs.declared.types.How.{How}
use Rattle.dv_model.specs.declared.types.Record.{Record}
use Rattle.dv_model.specs.Spelling.{InTurn, Spells, ArePairs, padded}
use Rattle.dv_records.specs.Faults.{HoldsRecord, IsBodyOf}
use Rattle.dv_records.specs.Fronts.{IsReader, IsKeywordFront, Tells, front_size, half_at, word_at}
use Rattle.dv_records.proofs.Codes.{of_ext_reset, of_keyword_update}
use Rattle.dv_records.proofs.Fronts.{half_read}
use Rattle.dv_records.proofs.Keywords.{front_of}
use Rattle.dv_records.proofs.Loop.{IsBytes, IsReadTo, starts, shorter, goes_on, is_done, none_begins}
use Rattle.dv_records.proofs.Readings.{one_reading}
use Rattle.dv_records.proofs.Resets.{reset_of_four, reset_of_eight}

-- ---- one item behind another

-- some items make up the bytes in front of the rest
pub record IsCheckedTo {A : Type 0} (size : A → ℕ) (Is : A → List ℕ → Type 0) (b : List ℕ) (rest : List ℕ) : Type 0 where
  pub front : List A
  pub read : IsReadTo size Is b front rest

pub check_starts : {A : Type 0} (size : A → ℕ) (Is : A → List ℕ → Type 0) (b : List ℕ) → IsBytes b → IsCheckedTo size Is b b
check_starts size Is b fits = record { front = []; read = starts size Is b fits }

front_is : {A : Type 0} (size : A → ℕ) (n : ℕ) (o : Option A) → Some n ≡ front_size size o → (x : A) × (o ≡ Some x) × (n ≡ size x)
front_is size n None e = absurd cc
front_is size n (Some x) e = (x, refl, same_Some n (size x) e)

no_front : {A : Type 0} (size : A → ℕ) (o : Option A) → None ≡ front_size size o → o ≡ None
no_front size None e = refl
no_front size (Some x) e = absurd cc

-- what passing an item does
pub record Passes {A : Type 0} (size : A → ℕ) (Is : A → List ℕ → Type 0) (b rest : List ℕ) (n : ℕ) : Type 0 where
  pub some : 1 ≤ n
  pub inside : n ≤ length rest
  pub then : IsCheckedTo size Is b (drop n rest)

pub passes_item : {A : Type 0} (size : A → ℕ) (Is : A → List ℕ → Type 0) (at : List ℕ → Option A)
    → IsReader size Is at → (b rest : List ℕ) (n : ℕ) → IsCheckedTo size Is b rest
    → Some n ≡ front_size size (at rest) → Passes size Is b rest n
passes_item size Is at reader b rest n so_far e =
    let x = front_is size n (at rest) e in
    let fits = shorter size Is at reader rest x.0 so_far.read.fits x.1 in
    record {
      some = omega (arith, fits.0, x.2);
      inside = omega (arith, fits.1, x.2);
      then = record { front = so_far.front ++ x.0 ∷ []; read = goes_on size Is at reader b so_far.front rest x.0 n so_far.read x.1 x.2 };
    }

pub no_item : {A : Type 0} (size : A → ℕ) (Is : A → List ℕ → Type 0) (at : List ℕ → Option A)
    → IsReader size Is at → (b rest : List ℕ) → IsCheckedTo size Is b rest → 1 ≤ length rest
    → None ≡ front_size size (at rest) → (ys : List A) → InTurn size Is ys b → ⊥
no_item size Is at reader b rest so_far long e = λ ys is.
    let p = so_far.read.only ys is in
    none_begins size Is at reader p.0 rest long (no_front size (at rest) e) p.2

pub all_items : {A : Type 0} (size : A → ℕ) (Is : A → List ℕ → Type 0) (b rest : List ℕ)
    → IsCheckedTo size Is b rest → rest ≡ [] → (ys : List A) × InTurn size Is ys b
all_items size Is b rest so_far none = (so_far.front, is_done size Is b so_far.front rest so_far.read none)

pub some_items : {A : Type 0} (size : A → ℕ) (Is : A → List ℕ → Type 0) (b : List ℕ) → 1 ≤ length b → (xs : List A) → InTurn size Is xs b → 1 ≤ length xs
some_items size Is b some [] is = absurd (omega (arith, ap length is))
some_items size Is b some (x ∷ xs) is = omega arith

-- ---- the payload

pub told : {A : Type 0} (Is : A → Type 0) (t : Bool) → Tells Is t → t ≡ true → (x : A) × Is x
told Is true is e = is
told Is false is e = absurd cc

pub not_told : {A : Type 0} (Is : A → Type 0) (t : Bool) → Tells Is t → t ≡ false → (x : A) → Is x → ⊥
not_told Is true is e = absurd cc
not_told Is false is e = is

pub some_told : {A : Type 0} (Is : List A → Type 0) (t : Bool) → ((xs : List A) → Is xs → 1 ≤ length xs) → Tells Is t → Tells (λ xs. (1 ≤ length xs) × Is xs) t
some_told Is true some is = (is.0, (some is.0 is.1, is.1))
some_told Is false some is = λ xs both. is xs both.1

-- by the items of the code's bodies
pub body_told : {A : Type 0} (Is : A → Type 0) (make : A → Body) (code : ℕ) (b : List ℕ) (t : Bool)
    → ((x : A) → Is x → IsBodyOf code b (make x))
    → ((body : Body) → IsBodyOf code b body → (x : A) × (body ≡ make x) × Is x)
    → Tells Is t → Tells (IsBodyOf code b) t
body_told Is make code b true makes of is = (make is.0, makes is.0 is.1)
body_told Is make code b false makes of is = λ body has. let x = of body has in is x.0 x.2

-- the code is this one
pub coded : (n code : ℕ) (b : List ℕ) (t : Bool) → code ≡ n → Tells (IsBodyOf n b) t → Tells (IsBodyOf code b) t
coded n code b t e is = subst (λ (k : ℕ). Tells (IsBodyOf k b) t) (sym e) is

pub reset_four : (b : List ℕ) (t : Bool) → IsBytes b → length b ≡ 4 → t ≡ true → Tells (IsBodyOf 0x80 b) t
reset_four b true fits size e = (ExtReset (word_at b 0) 0, (refl, reset_of_four b fits size))
reset_four b false fits size e = absurd cc

pub reset_told : (b : List ℕ) (t : Bool) → IsBytes b → (length b ≡ 4 → ⊥) → eqb (length b) 8 ≡ t → Tells (IsBodyOf 0x80 b) t
reset_told b true fits other e = (ExtReset (word_at b 0) (get_or b 4 0), (refl, reset_of_eight b fits (eqb-true (length b) 8 e)))
reset_told b false fits other e = λ body is.
    let x = of_ext_reset b body is in
    elim x.3.1 [
      | inl long ↦ eqb-false (length b) 8 e long.0
      | inr short ↦ other (ap length short.0)
    ]

-- ---- keywords

name_size : (how : How) (name : List ℕ) (n : ℕ) (b : List ℕ) → IsKeywordFront how name n b → half_at (drop 2 b) 0 ≡ length name
name_size how name n b is = half_read (drop 2 b) _ 0 (2 + length name) (length name) (omega arith) is.fields refl (omega (arith, is.keyword.size.1))

pub no_keyword : (b : List ℕ) → ((how : How) (name : List ℕ) (n : ℕ) → IsKeywordFront how name n b → ⊥) → Tells (IsBodyOf 0x400 b) false
no_keyword b none = λ body is.
    let k = of_keyword_update b body is in
    none k.0 k.1 (padded (4 + length k.1)) (front_of k.0 k.1 k.2 b k.4)

pub keyword_told : (b : List ℕ) (how : How) (name : List ℕ) (n : ℕ) (t : Bool) → IsKeywordFront how name n b
    → Tells (λ pairs. ArePairs pairs (drop n b)) t → Tells (IsBodyOf 0x400 b) t
keyword_told b how name n true front is = (
  KeywordUpdate how name is.0,
  (
    refl,
    record {
      size = omega (arith, front.taken, front.long);
      modify_type = front.modify_type;
      fields = front.fields;
      keyword = front.keyword;
      ranges = subst (λ (k : ℕ). ArePairs is.0 (drop k b)) front.taken is.1;
    },
  ),
)
keyword_told b how name n false front is = λ body has.
    let k = of_keyword_update b body has in
    let other = front_of k.0 k.1 k.2 b k.4 in
    let same : padded (4 + length k.1) ≡ n = omega (arith, front.taken, name_size how name n b front, name_size k.0 k.1 (padded (4 + length k.1)) b other) in
    is k.2 (subst (λ (m : ℕ). ArePairs k.2 (drop m b)) same k.4.ranges)

-- ---- the record

-- the record that is held is the one that stands there
pub is_behind : (n : ℕ) (b : List ℕ) → HoldsRecord n b → (r : Record) (text rest : List ℕ) → Spells r text → b ≡ text ++ rest → n ≡ length text
is_behind n b held r text rest spells e =
    let one = one_reading held.0 r (take n b) text (drop n b) rest held.1.1 spells (take-append-drop n b ∙ e) in
    omega (arith, length-take n b, held.1.0, ap length one.0)
