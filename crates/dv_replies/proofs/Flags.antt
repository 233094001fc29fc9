-- Flag lists: system flags in the order of their bits, and keywords behind them.
use Rattle.std.proofs.Common.{◌≡◌, ℕ, zero, suc, ◌<◌, ◌≤◌, Bool, true, false, cond, not, ◌&&◌, List, [], ◌∷◌, ◌++◌, length, All, Option, Some, None, codes, refl, sym, ◌∙◌, ap, subst, arith, append_assoc, nat_eq, nat_lt}
use Rattle.std.specs.Prelude.{bit_or}
use Rattle.std.specs.List.{list_all}
use Rattle.std.specs.Str.{bytes_eq}
use Rattle.std.proofs.lemmas.Bool.{agree_below_at, and_parts, eqb-true, ltb-true}
use Rattle.std.proofs.lemmas.List.{append-nil, length-append}
use Rattle.std.proofs.lemmas.List.Elements.{All-append, All-cons, All-head, All-nil, All-tail}
use Rattle.std.proofs.lemmas.List.Folds.{list_all-append}
use Rattle.std.proofs.lemmas.Slice.Eq.{bytes_eq-Decides}
use Rattle.dv_model.specs.declared.types.Value.{Value}
use Rattle.dv_model.specs.declared.types.Value.TheVariants as value
use Rattle.dv_model.specs.Names.{IsName, IsNameByte}
use Rattle.dv_model.specs.Texts.{flag_words, spaced, value_text}
use Rattle.dv_formats.specs.Parsing.{◌>>=◌, after, before, from, is_name, is_stop}
use Rattle.dv_formats.specs.Replies.{IsValue}
use Rattle.dv_formats.specs.Scripts.{flag_bit}
use Rattle.dv_commands.proofs.Base.{after_then, bind_some, if_some, parted, some_is}
use Rattle.dv_commands.proofs.Grammar.{name_complete, name_sound}
use Rattle.dv_commands.proofs.Joined.{three}
use Rattle.dv_commands.proofs.Plain.{system_word}
use Rattle.dv_commands.proofs.Words.{before_again, from_again, goes_on, name_goes_on}
use Rattle.dv_replies.specs.Reading.{behind_else, flag_behind, flag_list_at, flags_at}
use Rattle.dv_replies.proofs.Steps.{else_then}

abbrev State : Type 0
State = ℕ × List (List ℕ)

-- five system flags, and names
abbrev IsGood : State → Type 0
IsGood s = (s.0 < 32) × All IsName s.1

abbrev words_of : State → List (List ℕ)
words_of s = flag_words s.0 ++ s.1

-- ---- words that are the same

words_eq : List (List ℕ) → List (List ℕ) → Bool
words_eq [] [] = true
words_eq (w ∷ ws) (v ∷ vs) = bytes_eq w v && words_eq ws vs
words_eq ws vs = false

are_same : (ws vs : List (List ℕ)) → words_eq ws vs ≡ true → ws ≡ vs
unfolding words_eq
are_same [] [] e = refl
are_same [] (v ∷ vs) e = absurd cc
are_same (w ∷ ws) [] e = absurd cc
are_same (w ∷ ws) (v ∷ vs) e =
    let both = and_parts (bytes_eq w v) (words_eq ws vs) e in
    ap (λ x. x ∷ ws) ((bytes_eq-Decides w v).0 both.0) ∙ ap (λ xs. v ∷ xs) (are_same ws vs both.1)

-- ---- a system flag

-- each is one of five, with its bit
system_flag : (word : List ℕ) (bit : ℕ) → flag_bit word ≡ Some bit → (P : List ℕ → ℕ → Type 0)
    → P (codes "\\Answered") 1 → P (codes "\\Flagged") 2 → P (codes "\\Deleted") 4 → P (codes "\\Seen") 8 → P (codes "\\Draft") 16 → P word bit
system_flag word bit e P one two four eight sixteen =
    system_word word bit e (λ w. flag_bit w ≡ Some bit → P w bit)
    (λ f. subst (P (codes "\\Answered")) (some_is 1 bit f) one)
    (λ f. subst (P (codes "\\Flagged")) (some_is 2 bit f) two)
    (λ f. subst (P (codes "\\Deleted")) (some_is 4 bit f) four)
    (λ f. subst (P (codes "\\Seen")) (some_is 8 bit f) eight)
    (λ f. subst (P (codes "\\Draft")) (some_is 16 bit f) sixteen) e

-- a flag above all others comes last
abbrev comes_last : List ℕ → ℕ → ℕ → Bool
comes_last word bit n = words_eq (flag_words (bit_or n bit)) (flag_words n ++ word ∷ []) && nat_lt (bit_or n bit) 32

abbrev ComesLast : List ℕ → ℕ → Type 0
ComesLast word bit = (n : ℕ) → n < bit → (flag_words (bit_or n bit) ≡ flag_words n ++ word ∷ []) × (bit_or n bit < 32)

last_by : (word : List ℕ) (bit n : ℕ) → comes_last word bit n ≡ true → (flag_words (bit_or n bit) ≡ flag_words n ++ word ∷ []) × (bit_or n bit < 32)
last_by word bit n e =
    let both = and_parts (words_eq (flag_words (bit_or n bit)) (flag_words n ++ word ∷ [])) (nat_lt (bit_or n bit) 32) e in
    (are_same (flag_words (bit_or n bit)) (flag_words n ++ word ∷ []) both.0, ltb-true (bit_or n bit) 32 both.1)

system_last : (word : List ℕ) (bit : ℕ) → flag_bit word ≡ Some bit → ComesLast word bit
unfolding words_eq
system_last word bit e = system_flag word bit e ComesLast
    (λ n less. last_by (codes "\\Answered") 1 n (agree_below_at (comes_last (codes "\\Answered") 1) (λ k. true) 1 n refl less))
    (λ n less. last_by (codes "\\Flagged") 2 n (agree_below_at (comes_last (codes "\\Flagged") 2) (λ k. true) 2 n refl less))
    (λ n less. last_by (codes "\\Deleted") 4 n (agree_below_at (comes_last (codes "\\Deleted") 4) (λ k. true) 4 n refl less))
    (λ n less. last_by (codes "\\Seen") 8 n (agree_below_at (comes_last (codes "\\Seen") 8) (λ k. true) 8 n refl less))
    (λ n less. last_by (codes "\\Draft") 16 n (agree_below_at (comes_last (codes "\\Draft") 16) (λ k. true) 16 n refl less))

-- ---- one word more

empty : (xs : List (List ℕ)) → nat_eq (length xs) 0 ≡ true → xs ≡ []
empty [] e = refl
empty (x ∷ xs) e = absurd (omega (arith, eqb-true (suc (length xs)) 0 e))

one_more : (s t : State) (word : List ℕ) → flag_behind s word ≡ Some t → IsGood s → IsGood t × (words_of t ≡ words_of s ++ word ∷ [])
one_more s t word e good = by_bit (flag_bit word) refl
  where
    by_system : (bit : ℕ) → flag_bit word ≡ Some bit → cond (nat_lt s.0 bit && nat_eq (length s.1) 0) (Some (bit_or s.0 bit, s.1)) None ≡ Some t
        → IsGood t × (words_of t ≡ words_of s ++ word ∷ [])
    by_system bit is f =
        let tested = if_some (nat_lt s.0 bit && nat_eq (length s.1) 0) (bit_or s.0 bit, s.1) t f in
        let both = and_parts (nat_lt s.0 bit) (nat_eq (length s.1) 0) tested.0 in
        let last = system_last word bit is s.0 (ltb-true s.0 bit both.0) in
        let none = empty s.1 both.1 in
        let left : flag_words (bit_or s.0 bit) ++ s.1 ≡ flag_words s.0 ++ word ∷ [] = ap (λ xs. flag_words (bit_or s.0 bit) ++ xs) none ∙ append-nil (flag_words (bit_or s.0 bit)) ∙ last.0 in
        let right : words_of s ≡ flag_words s.0 = ap (λ xs. flag_words s.0 ++ xs) none ∙ append-nil (flag_words s.0) in
        subst (λ (z : State). IsGood z × (words_of z ≡ words_of s ++ word ∷ [])) tested.1 ((last.1, good.1), left ∙ ap (λ xs. xs ++ word ∷ []) (sym right))

    by_name : cond (is_name word) (Some (s.0, s.1 ++ word ∷ [])) None ≡ Some t → IsGood t × (words_of t ≡ words_of s ++ word ∷ [])
    by_name f =
        let tested = if_some (is_name word) (s.0, s.1 ++ word ∷ []) t f in
        let names = All-append IsName s.1 (word ∷ []) good.1 (All-cons IsName word [] (name_sound word tested.0) (All-nil IsName)) in
        subst (λ (z : State). IsGood z × (words_of z ≡ words_of s ++ word ∷ [])) tested.1 ((good.0, names), sym (append_assoc (flag_words s.0) s.1 (word ∷ [])))

    by_bit : (r : Option ℕ) → flag_bit word ≡ r → IsGood t × (words_of t ≡ words_of s ++ word ∷ [])
    by_bit (Some bit) is = by_system bit is (sym (rw is refl) ∙ e)
    by_bit None is = by_name (sym (rw is refl) ∙ e)

-- ---- what is read of words begins the bytes

abbrev pub FlagsAre : State → List ℕ → State × List ℕ → Type 0
FlagsAre s b y = (w : List ℕ) × (ws : List (List ℕ)) × IsGood y.0 × (words_of y.0 ≡ words_of s ++ w ∷ ws) × (b ≡ spaced (w ∷ ws) ++ y.1)

flags_take : (most : ℕ) (s : State) (b : List ℕ) (y : State × List ℕ) → flags_at most s b ≡ Some y → IsGood s → FlagsAre s b y
unfolding flags_at
flags_take zero s b y e good = absurd cc
flags_take (suc most) s b y e good =
    let word = before is_stop b in
    let end = from is_stop b in
    let one = bind_some (flag_behind s word) (λ more. behind_else (after (codes " ") end) (λ rest. flags_at most more rest) (Some (more, end))) y e in
    let more = one_more s one.0 word one.1 good in
    else_then (codes " ") end _ _ y one.2
    (λ rest is f.
    let others = flags_take most one.0 rest y f more.0 in
    let words : words_of y.0 ≡ words_of s ++ word ∷ (others.0 ∷ others.1) = others.3 ∙ ap (λ t. t ++ others.0 ∷ others.1) more.1 ∙ append_assoc (words_of s) (word ∷ []) (others.0 ∷ others.1) in
    let text : b ≡ spaced (word ∷ (others.0 ∷ others.1)) ++ y.1 = parted is_stop b ∙ ap (λ t. word ++ t) (is ∙ ap (λ t. 32 ∷ t) others.4) ∙ sym (append_assoc word (32 ∷ spaced (others.0 ∷ others.1)) y.1) in
    (word, others.0 ∷ others.1, others.2, words, text))
    (λ f. subst (FlagsAre s b) (some_is (one.0, end) y f) (word, [], more.0, more.1, parted is_stop b))

abbrev ValueIs : List ℕ → Value × List ℕ → Type 0
ValueIs b y = IsValue y.0 × (b ≡ value_text y.0 ++ y.1)

flags_whole : (s : State) (b c d rest : List ℕ) (ws : List (List ℕ)) → b ≡ codes "FLAGS (" ++ c → c ≡ spaced ws ++ d → d ≡ codes ")" ++ rest → ws ≡ words_of s
    → b ≡ value_text (value.Flags s.0 s.1) ++ rest
flags_whole s b c d rest ws p q r same = rw (p, q, r, same) (sym (three (codes "FLAGS (") (spaced (words_of s)) (codes ")") rest))

pub flag_list_takes : (b c : List ℕ) (y : Value × List ℕ) → b ≡ codes "FLAGS (" ++ c → flag_list_at c ≡ Some y → ValueIs b y
unfolding flag_list_at
flag_list_takes b c y p e = else_then (codes ")") c _ _ y e
    (λ rest q f. subst (ValueIs b) (some_is (value.Flags 0 [], rest) y f) ((omega arith, All-nil IsName), rw (p, q) refl))
    (λ f.
    let list = bind_some (flags_at (length c) (0, []) c) (λ list. after (codes ")") list.1 >>= λ rest. Some (value.Flags list.0.0 list.0.1, rest)) y f in
    let is = flags_take (length c) (0, []) c list.0 list.1 (omega arith, All-nil IsName) in
    after_then (codes ")") list.0.1 _ y list.2 (λ rest r g.
    subst (ValueIs b) (some_is (value.Flags list.0.0.0 list.0.0.1, rest) y g) (is.2, flags_whole list.0.0 b c list.0.1 rest (is.0 ∷ is.1) p is.4 r (sym is.3))))

-- ---- words of flags and keywords are read

-- all of these words, one behind another
abbrev adds : State → List (List ℕ) → Option State
adds s [] = Some s
adds s (w ∷ ws) = flag_behind s w >>= λ t. adds t ws

adds_append : (s : State) (ws vs : List (List ℕ)) → adds s (ws ++ vs) ≡ (adds s ws >>= λ t. adds t vs)
adds_append s [] vs = refl
adds_append s (w ∷ ws) vs = by_first (flag_behind s w) (λ t. adds_append t ws vs)
  where
    by_first : (r : Option State) → ((t : State) → adds t (ws ++ vs) ≡ (adds t ws >>= λ u. adds u vs))
        → (r >>= λ t. adds t (ws ++ vs)) ≡ ((r >>= λ t. adds t ws) >>= λ t. adds t vs)
    by_first None others = refl
    by_first (Some t) others = others t

abbrev is_alone : ℕ → Option State → Bool
is_alone n None = false
is_alone n (Some s) = nat_eq s.0 n && nat_eq (length s.1) 0

alone : (n : ℕ) (r : Option State) → is_alone n r ≡ true → r ≡ Some (n, [])
alone n None e = absurd cc
alone n (Some s) e =
    let both = and_parts (nat_eq s.0 n) (nat_eq (length s.1) 0) e in
    λ i. Some (eqb-true s.0 n both.0 i, empty s.1 both.1 i)

system_adds : (n : ℕ) → n < 32 → adds (0, []) (flag_words n) ≡ Some (n, [])
system_adds n less = alone n (adds (0, []) (flag_words n)) (agree_below_at (λ k. is_alone k (adds (0, []) (flag_words k))) (λ k. true) 32 n refl less)

-- a name isn't a system flag's
no_bit : (name : List ℕ) → IsName name → flag_bit name ≡ None
no_bit name is = by_bit (flag_bit name) refl
  where
    no_slash : (w : List ℕ) → IsName (92 ∷ w) → ⊥
    no_slash w is = (All-head IsNameByte 92 w is.bytes).plain (4, omega arith, refl)

    by_bit : (r : Option ℕ) → flag_bit name ≡ r → r ≡ None
    by_bit None e = refl
    by_bit (Some bit) e = absurd (system_word name bit e (λ w. IsName w → ⊥) (no_slash (codes "Answered")) (no_slash (codes "Flagged")) (no_slash (codes "Deleted")) (no_slash (codes "Seen")) (no_slash (codes "Draft")) is)

name_behind : (s : State) (name : List ℕ) → IsName name → flag_behind s name ≡ Some (s.0, s.1 ++ name ∷ [])
name_behind s name is = rw (no_bit name is) (rw (name_complete name is) refl)

names_add : (n : ℕ) (so_far names : List (List ℕ)) → All IsName names → adds (n, so_far) names ≡ Some (n, so_far ++ names)
names_add n so_far [] all = ap (λ xs. Some (n, xs)) (sym (append-nil so_far))
names_add n so_far (name ∷ names) all =
    rw (name_behind (n, so_far) name (All-head IsName name names all)) (names_add n (so_far ++ name ∷ []) names (All-tail IsName name names all) ∙ ap (λ xs. Some (n, xs)) (append_assoc so_far (name ∷ []) names))

all_add : (s : State) → IsGood s → adds (0, []) (words_of s) ≡ Some s
all_add s good =
    adds_append (0, []) (flag_words s.0) s.1 ∙ ap (λ r. r >>= λ t. adds t s.1) (system_adds s.0 good.0) ∙ names_add s.0 [] s.1 good.1

all_go : (s : State) → IsGood s → list_all (goes_on is_stop) (words_of s) ≡ true
all_go s good = list_all-append (goes_on is_stop) (flag_words s.0) s.1 ∙ rw (system_go s.0 good.0, names_go s.1 good.1) refl
  where
    system_go : (n : ℕ) → n < 32 → list_all (goes_on is_stop) (flag_words n) ≡ true
    system_go n less = agree_below_at (λ k. list_all (goes_on is_stop) (flag_words k)) (λ k. true) 32 n refl less

    names_go : (names : List (List ℕ)) → All IsName names → list_all (goes_on is_stop) names ≡ true
    names_go [] all = refl
    names_go (name ∷ names) all = rw (name_goes_on name (All-head IsName name names all), names_go names (All-tail IsName name names all)) refl

flags_again : (w : List ℕ) (ws : List (List ℕ)) (s t : State) (rest : List ℕ) (most : ℕ) → list_all (goes_on is_stop) (w ∷ ws) ≡ true
    → adds s (w ∷ ws) ≡ Some t → length ws < most → flags_at most s (spaced (w ∷ ws) ++ 41 ∷ rest) ≡ Some (t, 41 ∷ rest)
unfolding flags_at
flags_again w ws s t rest zero go e few = absurd (omega (arith, few))
flags_again w [] s t rest (suc most) go e few =
    let is = and_parts (goes_on is_stop w) true go in
    let one = bind_some (flag_behind s w) (λ t. adds t []) t e in
    rw (before_again is_stop w (41 ∷ rest) is.0 refl, from_again is_stop w (41 ∷ rest) is.0 refl) (rw one.1 (ap (λ x. Some (x, 41 ∷ rest)) (some_is one.0 t one.2)))
flags_again w (v ∷ ws) s t rest (suc most) go e few =
    let is = and_parts (goes_on is_stop w) (list_all (goes_on is_stop) (v ∷ ws)) go in
    let one = bind_some (flag_behind s w) (λ t. adds t (v ∷ ws)) t e in
    let tail = 32 ∷ (spaced (v ∷ ws) ++ 41 ∷ rest) in
    let others = flags_again v ws one.0 t rest most is.1 one.2 (omega (arith, few)) in
    ap (flags_at (suc most) s) (append_assoc w (32 ∷ spaced (v ∷ ws)) (41 ∷ rest))
    ∙ rw (before_again is_stop w tail is.0 refl, from_again is_stop w tail is.0 refl) (rw one.1 others)

-- a word that is added has a byte, and doesn't begin with a parenthesis
no_close : (w : List ℕ) (s t : State) (tail : List ℕ) → flag_behind s w ≡ Some t → goes_on is_stop w ≡ true → after (codes ")") (w ++ tail) ≡ None
unfolding is_name
no_close [] s t tail e go = absurd cc
no_close (b ∷ w) s t tail e go = by_test (nat_eq b 41) refl (and_parts (not (is_stop b)) (goes_on is_stop w) go).0
  where
    by_test : (test : Bool) → nat_eq b 41 ≡ test → not (is_stop b) ≡ true → after (codes ")") (b ∷ w ++ tail) ≡ None
    by_test true same is = absurd (let same_byte = eqb-true b 41 same in let none : not (is_stop 41) ≡ true = subst (λ x. not (is_stop x) ≡ true) same_byte is in cc)
    by_test false same is = rw same refl

words_long : (ws : List (List ℕ)) (rest : List ℕ) → length ws ≤ length (spaced ws ++ 41 ∷ rest)
words_long [] rest = omega arith
words_long (w ∷ []) rest = omega (arith, length-append w (41 ∷ rest))
words_long (w ∷ v ∷ ws) rest = omega (arith, words_long (v ∷ ws) rest, length-append (w ++ 32 ∷ spaced (v ∷ ws)) (41 ∷ rest), length-append w (32 ∷ spaced (v ∷ ws)), length-append (spaced (v ∷ ws)) (41 ∷ rest))

flag_list_by : (ws : List (List ℕ)) (s : State) (rest : List ℕ) → list_all (goes_on is_stop) ws ≡ true → adds (0, []) ws ≡ Some s
    → flag_list_at (spaced ws ++ 41 ∷ rest) ≡ Some (value.Flags s.0 s.1, rest)
unfolding flag_list_at
flag_list_by [] s rest go e = ap (λ (z : State). Some (value.Flags z.0 z.1, rest)) (some_is (0, []) s e)
flag_list_by (w ∷ ws) s rest go e =
    let whole = spaced (w ∷ ws) ++ 41 ∷ rest in
    let one = bind_some (flag_behind (0, []) w) (λ t. adds t ws) s e in
    let is = and_parts (goes_on is_stop w) (list_all (goes_on is_stop) ws) go in
    let few : length ws < length whole = omega (arith, words_long (w ∷ ws) rest) in
    rw (closed ws one.0 one.1 is.0) (rw (flags_again w ws (0, []) s rest (length whole) go e few) refl)
  where
    closed : (vs : List (List ℕ)) (t : State) → flag_behind (0, []) w ≡ Some t → goes_on is_stop w ≡ true → after (codes ")") (spaced (w ∷ vs) ++ 41 ∷ rest) ≡ None
    closed [] t is go = no_close w (0, []) t (41 ∷ rest) is go
    closed (v ∷ vs) t is go = ap (after (codes ")")) (append_assoc w (32 ∷ spaced (v ∷ vs)) (41 ∷ rest)) ∙ no_close w (0, []) t (32 ∷ (spaced (v ∷ vs) ++ 41 ∷ rest)) is go

pub flag_list_again : (flags : ℕ) (keywords : List (List ℕ)) (rest : List ℕ) → IsValue (value.Flags flags keywords)
    → flag_list_at (spaced (flag_words flags ++ keywords) ++ 41 ∷ rest) ≡ Some (value.Flags flags keywords, rest)
flag_list_again flags keywords rest is =
    let s : State = (flags, keywords) in
    flag_list_by (words_of s) s rest (all_go s is) (all_add s is)
