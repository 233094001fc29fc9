-- What the grammar has is read: words, items and lists.
use Rattle.std.proofs.Common.{◌≡◌, inl, inr, ℕ, zero, suc, ◌^◌, ◌<◌, ◌≤◌, Bool, true, false, not, List, [], ◌∷◌, ◌++◌, length, All, take, drop, Option, Some, None, codes, refl, sym, ◌∙◌, ap, subst, arith, nat_eq, append_assoc}
use Rattle.std.specs.List.{AllZip, list_all, position_or_len}
use Rattle.std.specs.Fmt.{decimal}
use Rattle.std.proofs.lemmas.Bool.{le-leb, ne_eqb, and_parts}
use Rattle.std.proofs.lemmas.Fmt.{decimal_is_IsNumeral}
use Rattle.std.proofs.lemmas.List.{drop_at, length-append, get_or_default, take_at}
use Rattle.std.proofs.lemmas.List.Elements.{All-head, All-tail}
use Rattle.std.proofs.lemmas.List.Folds.{list_all-append}
use Rattle.std.proofs.lemmas.Str.Parse.{digit_at}
use Rattle.dv_model.specs.declared.types.End.{End}
use Rattle.dv_model.specs.declared.types.End.TheVariants.{Number, Star}
use Rattle.dv_model.specs.declared.types.Item.{Item}
use Rattle.dv_model.specs.declared.types.Item.TheVariants as item
use Rattle.dv_model.specs.declared.types.Span.{Span}
use Rattle.dv_model.specs.Names.{IsName, IsNameByte}
use Rattle.dv_model.specs.Texts.{spaced}
use Rattle.dv_formats.specs.Scripts.{IsEnd, IsFieldName, IsItem, IsSet, IsSpan, is_field_byte, joined}
use Rattle.dv_formats.specs.Parsing.{after, before, field_at, from, is_field_name, is_stop, item_at, plain_item, several}

-- ---- up to what stops a word

-- nothing, or a byte that passes the test
abbrev pub Stops : (ℕ → Bool) → List ℕ → Type 0
Stops test [] = Unit {0}
Stops test (b ∷ bs) = test b ≡ true

-- no byte passes the test
abbrev pub goes_on : (ℕ → Bool) → List ℕ → Bool
goes_on test w = list_all (λ b. not (test b)) w

pub place_again : (test : ℕ → Bool) (w rest : List ℕ) → goes_on test w ≡ true → Stops test rest → position_or_len test (w ++ rest) ≡ length w
place_again test [] [] all stops = refl
place_again test [] (b ∷ rest) all stops = rw stops refl
place_again test (x ∷ w) rest all stops =
    let is = and_parts (not (test x)) (goes_on test w) all in
    let others = place_again test w rest is.1 stops in
    rw is.0 (omega (arith, others))

pub before_again : (test : ℕ → Bool) (w rest : List ℕ) → goes_on test w ≡ true → Stops test rest → before test (w ++ rest) ≡ w
before_again test w rest all stops = ap (λ n. take n (w ++ rest)) (place_again test w rest all stops) ∙ take_at w rest (length w) refl

pub from_again : (test : ℕ → Bool) (w rest : List ℕ) → goes_on test w ≡ true → Stops test rest → from test (w ++ rest) ≡ rest
from_again test w rest all stops = ap (λ n. drop n (w ++ rest)) (place_again test w rest all stops) ∙ drop_at w rest (length w) refl

-- ---- which words go on

pub all_goes_on : (test : ℕ → Bool) (P : ℕ → Type 0) → ((b : ℕ) → P b → test b ≡ false) → (w : List ℕ) → All P w → goes_on test w ≡ true
all_goes_on test P each [] all = refl
all_goes_on test P each (x ∷ w) all = rw (each x (All-head P x w all), all_goes_on test P each w (All-tail P x w all)) refl

not_stop : (b : ℕ) → (b ≡ 32 → ⊥) → (b ≡ 41 → ⊥) → is_stop b ≡ false
not_stop b space close = rw (ne_eqb b 32 space, ne_eqb b 41 close) refl

name_byte : (b : ℕ) → IsNameByte b → is_stop b ≡ false
name_byte b is = not_stop b (λ e. omega (arith, is.printable, e)) (λ e. is.plain (1, omega arith, sym e))

pub name_goes_on : (name : List ℕ) → IsName name → goes_on is_stop name ≡ true
name_goes_on name is = all_goes_on is_stop IsNameByte name_byte name is.bytes

field_byte : (b : ℕ) → is_field_byte b ≡ true → is_stop b ≡ false
field_byte b is = not_stop b (λ e. space (subst (λ x. is_field_byte x ≡ true) e is)) (λ e. close (subst (λ x. is_field_byte x ≡ true) e is))
  where
    space : is_field_byte 32 ≡ true → ⊥
    space e = cc

    close : is_field_byte 41 ≡ true → ⊥
    close e = cc

pub field_goes_on : (name : List ℕ) → IsFieldName name → goes_on is_stop name ≡ true
field_goes_on name is = all_goes_on is_stop (λ n. is_field_byte n ≡ true) field_byte name is.bytes

abbrev pub IsDigit : ℕ → Type 0
IsDigit b = (48 ≤ b) × (b ≤ 57)

pub digits_are : (n : ℕ) → n < 2 ^ 64 → All IsDigit (decimal n)
digits_are n small = λ k d less.
    let at = digit_at (decimal n) k (decimal_is_IsNumeral n small).0.1 less in
    subst IsDigit (get_or_default (decimal n) k 0 d less) (omega (arith, at), omega (arith, at))

pub number_goes_on : (n : ℕ) → n < 2 ^ 64 → goes_on is_stop (decimal n) ≡ true
number_goes_on n small = all_goes_on is_stop IsDigit (λ b is. not_stop b (λ e. omega (arith, is, e)) (λ e. omega (arith, is, e))) (decimal n) (digits_are n small)

end_goes_on : (end : End) (b : List ℕ) → IsEnd end b → goes_on is_stop b ≡ true
end_goes_on (Number n) b is = subst (λ t. goes_on is_stop t ≡ true) (sym is.2) (number_goes_on n (omega (arith, is.1)))
end_goes_on Star b is = subst (λ t. goes_on is_stop t ≡ true) (sym is) refl

pub append_goes_on : (test : ℕ → Bool) (v w : List ℕ) → goes_on test v ≡ true → goes_on test w ≡ true → goes_on test (v ++ w) ≡ true
append_goes_on test v w p q = list_all-append (λ b. not (test b)) v w ∙ rw (p, q) refl

span_goes_on : (span : Span) (b : List ℕ) → IsSpan span b → goes_on is_stop b ≡ true
span_goes_on span b (inl w) = subst (λ t. goes_on is_stop t ≡ true) (sym w.text) (append_goes_on is_stop (w.from ++ codes ":") w.to (append_goes_on is_stop w.from (codes ":") (end_goes_on span.from w.from w.ends.0) refl) (end_goes_on span.to w.to w.ends.1))
span_goes_on span b (inr s) = end_goes_on span.from b s.1

spans_go_on : (set : List Span) (texts : List (List ℕ)) → AllZip IsSpan set texts → goes_on is_stop (joined (codes ",") texts) ≡ true
spans_go_on [] [] all = refl
spans_go_on [] (t ∷ ts) all = absurd all
spans_go_on (s ∷ set) [] all = absurd all
spans_go_on (s ∷ []) (t ∷ []) all = span_goes_on s t all.0
spans_go_on (s ∷ []) (t ∷ u ∷ ts) all = absurd all.1
spans_go_on (s ∷ r ∷ set) (t ∷ []) all = absurd all.1
spans_go_on (s ∷ r ∷ set) (t ∷ u ∷ ts) all = append_goes_on is_stop (t ++ codes ",") (joined (codes ",") (u ∷ ts)) (append_goes_on is_stop t (codes ",") (span_goes_on s t all.0) refl) (spans_go_on (r ∷ set) (u ∷ ts) all.1)

pub set_goes_on : (set : List Span) (b : List ℕ) → IsSet set b → goes_on is_stop b ≡ true
set_goes_on set b is = subst (λ t. goes_on is_stop t ≡ true) (sym is.text) (spans_go_on set is.spans is.each)

-- ---- lists

no_space : (rest : List ℕ) → (b : ℕ) → nat_eq b 32 ≡ false → after (codes " ") (b ∷ rest) ≡ None
no_space rest b other = rw other refl

-- what stands behind a list isn't a space
abbrev pub IsBehind : List ℕ → Type 0
IsBehind rest = Stops is_stop rest × (after (codes " ") rest ≡ None)

pub several_again : {A : Type 0} (R : A → List ℕ → Type 0) (read : List ℕ → Option (A × List ℕ))
    → ((x : A) (w rest : List ℕ) → R x w → Stops is_stop rest → read (w ++ rest) ≡ Some (x, rest))
    → (xs : List A) (ws : List (List ℕ)) (most : ℕ) (rest : List ℕ) → AllZip R xs ws → 1 ≤ length xs → length xs ≤ most → IsBehind rest
    → several read most (spaced ws ++ rest) ≡ Some (xs, rest)
unfolding several
several_again R read each [] ws most rest all some few behind = absurd (omega (arith, some))
several_again R read each (x ∷ xs) [] most rest all some few behind = absurd all
several_again R read each (x ∷ xs) (w ∷ ws) zero rest all some few behind = absurd (omega (arith, few))
several_again R read each (x ∷ []) (w ∷ []) (suc most) rest all some few behind = rw (each x w rest all.0 behind.0, behind.1) refl
several_again R read each (x ∷ []) (w ∷ v ∷ ws) (suc most) rest all some few behind = absurd all.1
several_again R read each (x ∷ y ∷ xs) (w ∷ []) (suc most) rest all some few behind = absurd all.1
several_again R read each (x ∷ y ∷ xs) (w ∷ v ∷ ws) (suc most) rest all some few behind =
    let others = several_again R read each (y ∷ xs) (v ∷ ws) most rest all.1 (omega arith) (omega (arith, few)) behind in
    let text = spaced (v ∷ ws) ++ rest in
    ap (several read (suc most)) (append_assoc w (32 ∷ spaced (v ∷ ws)) rest) ∙ rw (each x w (32 ∷ text) all.0 refl) (rw others refl)

-- ---- items

item_word : (w rest : List ℕ) (one : Item) → goes_on is_stop w ≡ true → Stops is_stop rest → after (codes "FIELD ") (w ++ rest) ≡ None
    → plain_item w ≡ Some one → item_at (w ++ rest) ≡ Some (one, rest)
unfolding item_at
item_word w rest one all stops none is = rw (none, before_again is_stop w rest all stops, from_again is_stop w rest all stops, is) refl

pub field_test : (name : List ℕ) → IsFieldName name → is_field_name name ≡ true
unfolding is_field_name
field_test name is = rw (le-leb 1 (length name) is.size.0, le-leb (length name) 64 is.size.1, all_test name is.bytes) refl
  where
    all_test : (w : List ℕ) → All (λ n. is_field_byte n ≡ true) w → list_all is_field_byte w ≡ true
    all_test [] all = refl
    all_test (x ∷ w) all = rw (All-head (λ n. is_field_byte n ≡ true) x w all, all_test w (All-tail (λ n. is_field_byte n ≡ true) x w all)) refl

field_again : (name rest : List ℕ) → IsFieldName name → Stops is_stop rest → field_at (name ++ rest) ≡ Some (item.Field name, rest)
field_again name rest is stops = rw (before_again is_stop name rest (field_goes_on name is) stops, from_again is_stop name rest (field_goes_on name is) stops, field_test name is) refl

pub item_again : (one : Item) (w rest : List ℕ) → IsItem one w → Stops is_stop rest → item_at (w ++ rest) ≡ Some (one, rest)
unfolding item_at
item_again item.Flags w rest is stops = subst (λ t. item_at (t ++ rest) ≡ Some (item.Flags, rest)) (sym is) (item_word (codes "FLAGS") rest item.Flags refl stops refl refl)
item_again item.Size w rest is stops = subst (λ t. item_at (t ++ rest) ≡ Some (item.Size, rest)) (sym is) (item_word (codes "RFC822.SIZE") rest item.Size refl stops refl refl)
item_again item.Body w rest is stops = subst (λ t. item_at (t ++ rest) ≡ Some (item.Body, rest)) (sym is) (item_word (codes "BODY[]") rest item.Body refl stops refl refl)
item_again item.Modseq w rest is stops = subst (λ t. item_at (t ++ rest) ≡ Some (item.Modseq, rest)) (sym is) (item_word (codes "MODSEQ") rest item.Modseq refl stops refl refl)
item_again (item.Field name) w rest is stops =
    let text : w ++ rest ≡ codes "FIELD " ++ (name ++ rest) = ap (λ t. t ++ rest) is.1 ∙ append_assoc (codes "FIELD ") name rest in
    ap item_at text ∙ field_again name rest is.0 stops

-- a list of one
pub one_again : {A : Type 0} (read : List ℕ → Option (A × List ℕ)) (most : ℕ) (x : A) (b rest : List ℕ) → 1 ≤ most
    → read b ≡ Some (x, rest) → after (codes " ") rest ≡ None → several read most b ≡ Some (x ∷ [], rest)
unfolding several
one_again read zero x b rest some e none = absurd (omega (arith, some))
one_again read (suc most) x b rest some e none = rw (e, none) refl

-- words are no more than the bytes of their list, and one
pub spaced_long : (ws : List (List ℕ)) → length ws ≤ suc (length (spaced ws))
spaced_long [] = omega arith
spaced_long (w ∷ []) = omega arith
spaced_long (w ∷ v ∷ ws) = omega (arith, spaced_long (v ∷ ws), length-append w (32 ∷ spaced (v ∷ ws)))
