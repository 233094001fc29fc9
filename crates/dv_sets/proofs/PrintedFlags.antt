-- What is printed of flags is a text of those flags.
use Rattle.std.proofs.Common.{◌≡◌, inl, inr, ℕ, zero, suc, ◌<◌, Bool, true, false, cond, ◌&&◌, List, [], ◌∷◌, ◌++◌, length, All, fold, Option, Some, None, codes, refl, sym, ◌∙◌, ap, subst, arith, nat_eq, nat_lt}
use Rattle.std.specs.Prelude.{bit_and, bit_or}
use Rattle.std.specs.List.{list_all, list_any}
use Rattle.std.specs.Str.{bytes_eq}
use Rattle.std.proofs.lemmas.Bool.{eqb-true, ltb-true, and_parts, eqb-false}
use Rattle.std.proofs.lemmas.List.Elements.{All-append, All-cons, All-head, All-nil, All-tail}
use Rattle.dv_model.specs.Names.{IsName}
use Rattle.dv_model.specs.Texts.{flag_when, flag_words}
use Rattle.dv_formats.specs.Printing.{flags_text}
use Rattle.dv_formats.specs.Scripts.{AreFlags, IsFlag, flag_bit, with_flag}

abbrev State : Type 0
State = ℕ × List (List ℕ)

-- ---- five system flags

-- the numbers below so many
abbrev below : ℕ → List ℕ
below zero = []
below (suc n) = n ∷ below n

at_below : (test : ℕ → Bool) (most n : ℕ) → list_all test (below most) ≡ true → n < most → test n ≡ true
at_below test zero n all less = absurd (omega (arith, less))
at_below test (suc most) n all less =
    let is = and_parts (test most) (list_all test (below most)) all in
    by_last is.0 (at_below test most n is.1) (nat_eq n most) refl
  where
    by_last : test most ≡ true → (n < most → test n ≡ true) → (t : Bool) → nat_eq n most ≡ t → test n ≡ true
    by_last last others true same = subst (λ k. test k ≡ true) (sym (eqb-true n most same)) last
    by_last last others false other = others (omega (arith, less, eqb-false n most other))

abbrev named_alone : ℕ → Bool
named_alone n = nat_eq (fold with_flag (0, []) (flag_words n)).0 n && nat_eq (length (fold with_flag (0, []) (flag_words n)).1) 0

all_named_alone : list_all named_alone (below 32) ≡ true
all_named_alone = refl

abbrev stays_below : ℕ → Bool
stays_below n = nat_lt (bit_or n 1) 32 && nat_lt (bit_or n 2) 32 && nat_lt (bit_or n 4) 32 && nat_lt (bit_or n 8) 32 && nat_lt (bit_or n 16) 32

all_stay_below : list_all stays_below (below 32) ≡ true
all_stay_below = refl

abbrev joined_with : ℕ → ℕ → Bool
joined_with bit n = nat_lt (bit_or n bit) 32

pub stays : (bit n : ℕ) → list_all (joined_with bit) (below 32) ≡ true → n < 32 → bit_or n bit < 32
stays bit n all less = ltb-true (bit_or n bit) 32 (at_below (joined_with bit) 32 n all less)

alone : (n : ℕ) → n < 32 → ◌≡◌ {A = State} (fold with_flag (0, []) (flag_words n)) (n, [])
alone n less =
    let is = and_parts (nat_eq (fold with_flag (0, []) (flag_words n)).0 n) (nat_eq (length (fold with_flag (0, []) (flag_words n)).1) 0) (at_below named_alone 32 n all_named_alone less) in
    same (fold with_flag (0, []) (flag_words n)) (eqb-true (fold with_flag (0, []) (flag_words n)).0 n is.0) (eqb-true (length (fold with_flag (0, []) (flag_words n)).1) 0 is.1)
  where
    empty : (xs : List (List ℕ)) → length xs ≡ 0 → xs ≡ []
    empty [] e = refl
    empty (x ∷ xs) e = absurd (omega (arith, e))

    same : (s : State) → s.0 ≡ n → length s.1 ≡ 0 → s ≡ (n, [])
    same s p q = λ i. (p i, empty s.1 q i)

-- a system flag's bit is one of five
bit_is : (word : List ℕ) (bit : ℕ) → flag_bit word ≡ Some bit → (P : ℕ → Type 0) → P 1 → P 2 → P 4 → P 8 → P 16 → P bit
bit_is word bit e P one two four eight sixteen = by_one (bytes_eq word (codes "\\Answered")) e
  where
    some : (x : ℕ) → Some x ≡ Some bit → P x → P bit
    some x f p = subst P (some_is x bit f) p
      where
        some_is : (a b : ℕ) → Some a ≡ Some b → a ≡ b
        some_is a b g = cc

    by_sixteen : (t : Bool) → cond t (Some 16) None ≡ Some bit → P bit
    by_sixteen true f = some 16 f sixteen
    by_sixteen false f = absurd cc

    by_eight : (t : Bool) → cond t (Some 8) (cond (bytes_eq word (codes "\\Draft")) (Some 16) None) ≡ Some bit → P bit
    by_eight true f = some 8 f eight
    by_eight false f = by_sixteen (bytes_eq word (codes "\\Draft")) f

    by_four : (t : Bool) → cond t (Some 4) (cond (bytes_eq word (codes "\\Seen")) (Some 8) (cond (bytes_eq word (codes "\\Draft")) (Some 16) None)) ≡ Some bit → P bit
    by_four true f = some 4 f four
    by_four false f = by_eight (bytes_eq word (codes "\\Seen")) f

    by_two : (t : Bool) → cond t (Some 2) (cond (bytes_eq word (codes "\\Deleted")) (Some 4) (cond (bytes_eq word (codes "\\Seen")) (Some 8) (cond (bytes_eq word (codes "\\Draft")) (Some 16) None))) ≡ Some bit → P bit
    by_two true f = some 2 f two
    by_two false f = by_four (bytes_eq word (codes "\\Deleted")) f

    by_one : (t : Bool) → cond t (Some 1) (cond (bytes_eq word (codes "\\Flagged")) (Some 2) (cond (bytes_eq word (codes "\\Deleted")) (Some 4) (cond (bytes_eq word (codes "\\Seen")) (Some 8) (cond (bytes_eq word (codes "\\Draft")) (Some 16) None)))) ≡ Some bit → P bit
    by_one true f = some 1 f one
    by_one false f = by_two (bytes_eq word (codes "\\Flagged")) f

-- ---- keywords

fold_append : (xs ys : List (List ℕ)) (s : State) → fold with_flag s (xs ++ ys) ≡ fold with_flag (fold with_flag s xs) ys
fold_append [] ys s = refl
fold_append (x ∷ xs) ys s = fold_append xs ys (with_flag s x)

-- five system flags, and names that are each named once
pub record IsNamed (s : State) : Type 0 where
  pub flags : s.0 < 32
  pub names : All IsName s.1
  pub once : (n : ℕ) → ◌≡◌ {A = State} (fold with_flag (n, []) s.1) (n, s.1)

none_named : IsNamed (0, [])
none_named = record { flags = omega arith; names = All-nil IsName; once = λ n. refl }

one_named : (s : State) (word : List ℕ) → IsNamed s → IsFlag word → IsNamed (with_flag s word)
one_named s word so_far is = by_bit (flag_bit word) refl
  where
    by_new : (t : Bool) → list_any (bytes_eq word) s.1 ≡ t → flag_bit word ≡ None → IsName word
        → IsNamed (s.0, cond t s.1 (s.1 ++ word ∷ []))
    by_new true known bit name = so_far
    by_new false known bit name = record {
      flags = so_far.flags;
      names = All-append IsName s.1 (word ∷ []) so_far.names (All-cons IsName word [] name (All-nil IsName));
      once = λ n. fold_append s.1 (word ∷ []) (n, []) ∙ ap (λ x. with_flag x word) (so_far.once n) ∙ rw (bit, known) refl;
    }

    name_of : flag_bit word ≡ None → IsFlag word → IsName word
    name_of none (inl (bit, e)) = let both = sym none ∙ e in absurd cc
    name_of none (inr name) = name

    by_bit : (r : Option ℕ) → flag_bit word ≡ r → IsNamed (with_flag s word)
    by_bit (Some bit) same =
        let less : bit_or s.0 bit < 32 = bit_is word bit same (λ b. bit_or s.0 b < 32) (stays 1 s.0 refl so_far.flags) (stays 2 s.0 refl so_far.flags) (stays 4 s.0 refl so_far.flags) (stays 8 s.0 refl so_far.flags) (stays 16 s.0 refl so_far.flags) in
        let added : IsNamed (bit_or s.0 bit, s.1) = record { flags = less; names = so_far.names; once = so_far.once } in
        rw same added
    by_bit None same = rw same (by_new (list_any (bytes_eq word) s.1) refl same (name_of same is))

all_named : (words : List (List ℕ)) (s : State) → IsNamed s → All IsFlag words → IsNamed (fold with_flag s words)
all_named [] s so_far all = so_far
all_named (w ∷ words) s so_far all = all_named words (with_flag s w) (one_named s w so_far (All-head IsFlag w words all)) (All-tail IsFlag w words all)

-- ---- the printed list

flag_when_is : (t : Bool) (name : List ℕ) → IsFlag name → All IsFlag (cond t [] (name ∷ []))
flag_when_is true name is = All-nil IsFlag
flag_when_is false name is = All-cons IsFlag name [] is (All-nil IsFlag)

flag_words_are : (n : ℕ) → All IsFlag (flag_words n)
flag_words_are n =
    let answered : IsFlag (codes "\\Answered") = inl (1, refl) in
    let flagged : IsFlag (codes "\\Flagged") = inl (2, refl) in
    let deleted : IsFlag (codes "\\Deleted") = inl (4, refl) in
    let seen : IsFlag (codes "\\Seen") = inl (8, refl) in
    let draft : IsFlag (codes "\\Draft") = inl (16, refl) in
    let a = flag_when n 1 (codes "\\Answered") in
    let f = flag_when n 2 (codes "\\Flagged") in
    let d = flag_when n 4 (codes "\\Deleted") in
    let s = flag_when n 8 (codes "\\Seen") in
    let r = flag_when n 16 (codes "\\Draft") in
    All-append IsFlag (a ++ f ++ d ++ s) r (All-append IsFlag (a ++ f ++ d) s (All-append IsFlag (a ++ f) d (All-append IsFlag a f (flag_when_is (nat_eq (bit_and n 1) 0) (codes "\\Answered") answered) (flag_when_is (nat_eq (bit_and n 2) 0) (codes "\\Flagged") flagged)) (flag_when_is (nat_eq (bit_and n 4) 0) (codes "\\Deleted") deleted)) (flag_when_is (nat_eq (bit_and n 8) 0) (codes "\\Seen") seen)) (flag_when_is (nat_eq (bit_and n 16) 0) (codes "\\Draft") draft)

names_are : (names : List (List ℕ)) → All IsName names → All IsFlag names
names_are [] all = All-nil IsFlag
names_are (x ∷ xs) all = All-cons IsFlag x xs (inr (All-head IsName x xs all)) (names_are xs (All-tail IsName x xs all))

pub flags_printed : (flags : ℕ) (keywords : List (List ℕ)) (b : List ℕ) → AreFlags flags keywords b → AreFlags flags keywords (flags_text flags keywords)
flags_printed flags keywords b is =
    let named : IsNamed (flags, keywords) = subst IsNamed is.named (all_named is.words (0, []) none_named is.each) in
    record {
      words = flag_words flags ++ keywords;
      each = All-append IsFlag (flag_words flags) keywords (flag_words_are flags) (names_are keywords named.names);
      named = fold_append (flag_words flags) keywords (0, []) ∙ ap (λ s. fold with_flag s keywords) (alone flags named.flags) ∙ named.once flags;
      text = refl;
    }
