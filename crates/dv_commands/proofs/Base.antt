-- Reading step by step.
use Rattle.std.proofs.Common.{◌≡◌, ℕ, ◌-◌, Bool, true, false, cond, List, ◌++◌, length, take, drop, Option, Some, None, refl, sym, ◌∙◌, ap, arith}
use Rattle.std.specs.List.{position_or_len}
use Rattle.std.specs.Str.{bytes_eq}
use Rattle.std.proofs.lemmas.List.{take-append-drop, take_at, drop_at, length-append}
use Rattle.std.proofs.lemmas.Slice.Eq.{bytes_eq-Decides}
use Rattle.dv_formats.specs.Parsing.{◌>>=◌, after, ahead_of, before, from}

-- a step that gave something
pub bind_some : {A B : Type 0} (r : Option A) (f : A → Option B) (y : B) → (r >>= f) ≡ Some y → (x : A) × (r ≡ Some x) × (f x ≡ Some y)
bind_some (Some x) f y e = (x, refl, e)
bind_some None f y e = absurd cc

pub some_is : {A : Type 0} (x y : A) → Some x ≡ Some y → x ≡ y
some_is x y e = cc

-- a test that held
pub if_some : {A : Type 0} (t : Bool) (x y : A) → cond t (Some x) None ≡ Some y → (t ≡ true) × (x ≡ y)
if_some true x y e = (refl, cc)
if_some false x y e = absurd cc

-- ---- texts at the front and at the end

pub after_is : (text b rest : List ℕ) → after text b ≡ Some rest → b ≡ text ++ rest
after_is text b rest e =
    let is = if_some (bytes_eq (take (length text) b) text) (drop (length text) b) rest e in
    sym (take-append-drop (length text) b) ∙ ap (λ t. t ++ drop (length text) b) ((bytes_eq-Decides (take (length text) b) text).0 is.0) ∙ ap (λ t. text ++ t) is.1

pub after_again : (text rest : List ℕ) → after text (text ++ rest) ≡ Some rest
after_again text rest =
    let same : bytes_eq (take (length text) (text ++ rest)) text ≡ true = (bytes_eq-Decides (take (length text) (text ++ rest)) text).1 (take_at text rest (length text) refl) in
    rw (same, drop_at text rest (length text) refl) refl

pub ahead_is : (text b front : List ℕ) → ahead_of text b ≡ Some front → b ≡ front ++ text
ahead_is text b front e =
    let n = length b - length text in
    let is = if_some (bytes_eq (drop n b) text) (take n b) front e in
    sym (take-append-drop n b) ∙ ap (λ t. take n b ++ t) ((bytes_eq-Decides (drop n b) text).0 is.0) ∙ ap (λ t. t ++ text) is.1

pub ahead_again : (text front : List ℕ) → ahead_of text (front ++ text) ≡ Some front
ahead_again text front =
    let b = front ++ text in
    let n : length b - length text ≡ length front = omega (arith, length-append front text) in
    let end : drop (length b - length text) b ≡ text = ap (λ k. drop k b) n ∙ drop_at front text (length front) refl in
    let start : take (length b - length text) b ≡ front = ap (λ k. take k b) n ∙ take_at front text (length front) refl in
    let same : bytes_eq (drop (length b - length text) b) text ≡ true = (bytes_eq-Decides (drop (length b - length text) b) text).1 end in
    rw (same, start) refl

-- ---- one step after another

pub after_then : {B P : Type 0} (text b : List ℕ) (f : List ℕ → Option B) (y : B) → (after text b >>= f) ≡ Some y
    → ((rest : List ℕ) → b ≡ text ++ rest → f rest ≡ Some y → P) → P
after_then {B} {P} text b f y e go = by_case (after text b) refl e
  where
    by_case : (r : Option (List ℕ)) → after text b ≡ r → (r >>= f) ≡ Some y → P
    by_case (Some rest) is g = go rest (after_is text b rest is) g
    by_case None is g = absurd cc

-- what is read in parts, up to what stops it
pub parted : (test : ℕ → Bool) (b : List ℕ) → b ≡ before test b ++ from test b
parted test b = sym (take-append-drop (position_or_len test b) b)
