-- What the grammar has is read: search keys.
use Rattle.std.proofs.Common.{◌≡◌, ℕ, ◌^◌, ◌<◌, Bool, true, false, cond, List, [], ◌∷◌, ◌++◌, length, All, Option, Some, None, codes, refl, sym, ◌∙◌, subst, arith, nat_eq}
use Rattle.std.specs.List.{list_all}
use Rattle.std.specs.Fmt.{decimal}
use Rattle.std.proofs.lemmas.Bool.{eqb-true, ne_eqb}
use Rattle.std.proofs.lemmas.List.Elements.{All-head, All-tail}
use Rattle.dv_model.specs.declared.types.Key.{Key}
use Rattle.dv_model.specs.declared.types.Key.TheVariants as key
use Rattle.dv_model.specs.declared.types.Span.{Span}
use Rattle.dv_model.specs.Names.{IsName}
use Rattle.dv_formats.specs.Scripts.{IsFieldName, IsSet, flag_key, is_quotable}
use Rattle.dv_formats.specs.Parsing.{after, at_word, header_key, is_byte, is_stop, key_layer, keyword_key, larger_key, one_of, plain_key, several, uid_key, valued_key, word_key}
use Rattle.dv_commands.proofs.Base.{some_is}
use Rattle.dv_commands.proofs.Grammar.{name_complete, set_complete}
use Rattle.dv_commands.proofs.Numbers.{number_complete}
use Rattle.dv_commands.proofs.Words.{Stops, all_goes_on, before_again, field_goes_on, field_test, from_again, goes_on, name_goes_on, number_goes_on, set_goes_on}

abbrev Reader : Type 0
Reader = List ℕ → Option (Key × List ℕ)

-- ---- flags

-- a flag's word is one of five
pub flag_word : (n : ℕ) (word : List ℕ) → flag_key n ≡ Some word → (P : ℕ → List ℕ → Type 0)
    → P 1 (codes "ANSWERED") → P 2 (codes "FLAGGED") → P 4 (codes "DELETED") → P 8 (codes "SEEN") → P 16 (codes "DRAFT") → P n word
flag_word n word e P one two four eight sixteen = by_one (nat_eq n 1) refl e
  where
    is : (m : ℕ) (w : List ℕ) → nat_eq n m ≡ true → Some w ≡ Some word → P m w → P n word
    is m w same f p = subst (λ x. P x word) (sym (eqb-true n m same)) (subst (P m) (some_is w word f) p)

    by_sixteen : (t : Bool) → nat_eq n 16 ≡ t → cond t (Some (codes "DRAFT")) None ≡ Some word → P n word
    by_sixteen true same f = is 16 (codes "DRAFT") same f sixteen
    by_sixteen false same f = absurd cc

    by_eight : (t : Bool) → nat_eq n 8 ≡ t → cond t (Some (codes "SEEN")) (cond (nat_eq n 16) (Some (codes "DRAFT")) None) ≡ Some word → P n word
    by_eight true same f = is 8 (codes "SEEN") same f eight
    by_eight false same f = by_sixteen (nat_eq n 16) refl f

    by_four : (t : Bool) → nat_eq n 4 ≡ t → cond t (Some (codes "DELETED")) (cond (nat_eq n 8) (Some (codes "SEEN")) (cond (nat_eq n 16) (Some (codes "DRAFT")) None)) ≡ Some word → P n word
    by_four true same f = is 4 (codes "DELETED") same f four
    by_four false same f = by_eight (nat_eq n 8) refl f

    by_two : (t : Bool) → nat_eq n 2 ≡ t → cond t (Some (codes "FLAGGED")) (cond (nat_eq n 4) (Some (codes "DELETED")) (cond (nat_eq n 8) (Some (codes "SEEN")) (cond (nat_eq n 16) (Some (codes "DRAFT")) None))) ≡ Some word → P n word
    by_two true same f = is 2 (codes "FLAGGED") same f two
    by_two false same f = by_four (nat_eq n 4) refl f

    by_one : (t : Bool) → nat_eq n 1 ≡ t → cond t (Some (codes "ANSWERED")) (cond (nat_eq n 2) (Some (codes "FLAGGED")) (cond (nat_eq n 4) (Some (codes "DELETED")) (cond (nat_eq n 8) (Some (codes "SEEN")) (cond (nat_eq n 16) (Some (codes "DRAFT")) None)))) ≡ Some word → P n word
    by_one true same f = is 1 (codes "ANSWERED") same f one
    by_one false same f = by_two (nat_eq n 2) refl f

-- ---- keys without keys inside

-- no key of another kind begins here
pub record IsPlain (b : List ℕ) : Type 0 where
  pub parenthesis : after (codes "(") b ≡ None
  pub not_key : after (codes "NOT ") b ≡ None
  pub or_key : after (codes "OR ") b ≡ None
  pub header : after (codes "HEADER ") b ≡ None

layer_word : (inner : Reader) (b : List ℕ) → IsPlain b → key_layer inner b ≡ word_key b
unfolding key_layer
layer_word inner b is = rw is.parenthesis (rw is.not_key (rw is.or_key (rw is.header refl)))

plain_again : (inner : Reader) (w rest : List ℕ) (k : Key) → IsPlain (w ++ rest) → goes_on is_stop w ≡ true → Stops is_stop rest → plain_key w ≡ Some k
    → key_layer inner (w ++ rest) ≡ Some (k, rest)
unfolding word_key
plain_again inner w rest k plain all stops is =
    layer_word inner (w ++ rest) plain ∙ rw (before_again is_stop w rest all stops, is) (rw (from_again is_stop w rest all stops) refl)

valued_again : (inner : Reader) (w rest : List ℕ) → IsPlain (w ++ 32 ∷ rest) → goes_on is_stop w ≡ true → plain_key w ≡ None
    → key_layer inner (w ++ 32 ∷ rest) ≡ valued_key (w ++ 32 ∷ rest)
unfolding word_key
valued_again inner w rest plain all is =
    layer_word inner (w ++ 32 ∷ rest) plain ∙ rw (before_again is_stop w (32 ∷ rest) all refl, is) refl

at_word_again : (read : List ℕ → Option Key) (w rest : List ℕ) (k : Key) → goes_on is_stop w ≡ true → Stops is_stop rest → read w ≡ Some k
    → at_word read (w ++ rest) ≡ Some (k, rest)
at_word_again read w rest k all stops is = rw (before_again is_stop w rest all stops, is) (rw (from_again is_stop w rest all stops) refl)

plain_here : {b : List ℕ} → after (codes "(") b ≡ None → after (codes "NOT ") b ≡ None → after (codes "OR ") b ≡ None → after (codes "HEADER ") b ≡ None → IsPlain b
plain_here p n o h = record { parenthesis = p; not_key = n; or_key = o; header = h }

pub all_again : (inner : Reader) (rest : List ℕ) → Stops is_stop rest → key_layer inner (codes "ALL" ++ rest) ≡ Some (key.All, rest)
unfolding plain_key
all_again inner rest stops = plain_again inner (codes "ALL") rest key.All (plain_here refl refl refl refl) refl stops refl

pub has_again : (inner : Reader) (n : ℕ) (word rest : List ℕ) → flag_key n ≡ Some word → Stops is_stop rest → key_layer inner (word ++ rest) ≡ Some (key.Has n, rest)
unfolding plain_key
has_again inner n word rest e stops = flag_word n word e (λ m w. key_layer inner (w ++ rest) ≡ Some (key.Has m, rest))
    (plain_again inner (codes "ANSWERED") rest (key.Has 1) (plain_here refl refl refl refl) refl stops refl)
    (plain_again inner (codes "FLAGGED") rest (key.Has 2) (plain_here refl refl refl refl) refl stops refl)
    (plain_again inner (codes "DELETED") rest (key.Has 4) (plain_here refl refl refl refl) refl stops refl)
    (plain_again inner (codes "SEEN") rest (key.Has 8) (plain_here refl refl refl refl) refl stops refl)
    (plain_again inner (codes "DRAFT") rest (key.Has 16) (plain_here refl refl refl refl) refl stops refl)

pub lacks_again : (inner : Reader) (n : ℕ) (word rest : List ℕ) → flag_key n ≡ Some word → Stops is_stop rest → key_layer inner ((codes "UN" ++ word) ++ rest) ≡ Some (key.Lacks n, rest)
unfolding plain_key
lacks_again inner n word rest e stops = flag_word n word e (λ m w. key_layer inner ((codes "UN" ++ w) ++ rest) ≡ Some (key.Lacks m, rest))
    (plain_again inner (codes "UNANSWERED") rest (key.Lacks 1) (plain_here refl refl refl refl) refl stops refl)
    (plain_again inner (codes "UNFLAGGED") rest (key.Lacks 2) (plain_here refl refl refl refl) refl stops refl)
    (plain_again inner (codes "UNDELETED") rest (key.Lacks 4) (plain_here refl refl refl refl) refl stops refl)
    (plain_again inner (codes "UNSEEN") rest (key.Lacks 8) (plain_here refl refl refl refl) refl stops refl)
    (plain_again inner (codes "UNDRAFT") rest (key.Lacks 16) (plain_here refl refl refl refl) refl stops refl)

pub keyword_again : (inner : Reader) (name rest : List ℕ) → IsName name → Stops is_stop rest → key_layer inner (codes "KEYWORD " ++ (name ++ rest)) ≡ Some (key.Keyword name, rest)
unfolding plain_key valued_key
keyword_again inner name rest is stops =
    valued_again inner (codes "KEYWORD") (name ++ rest) (plain_here refl refl refl refl) refl refl
    ∙ at_word_again keyword_key name rest (key.Keyword name) (name_goes_on name is) stops (rw (name_complete name is) refl)

pub uid_again : (inner : Reader) (set : List Span) (text rest : List ℕ) → IsSet set text → Stops is_stop rest → key_layer inner (codes "UID " ++ (text ++ rest)) ≡ Some (key.Uid set, rest)
unfolding plain_key valued_key
uid_again inner set text rest is stops =
    valued_again inner (codes "UID") (text ++ rest) (plain_here refl refl refl refl) refl refl
    ∙ at_word_again uid_key text rest (key.Uid set) (set_goes_on set text is) stops (rw (set_complete text set is) refl)

pub larger_again : (inner : Reader) (n : ℕ) (rest : List ℕ) → n < 2 ^ 32 → Stops is_stop rest → key_layer inner (codes "LARGER " ++ (decimal n ++ rest)) ≡ Some (key.Larger n, rest)
unfolding plain_key valued_key
larger_again inner n rest small stops =
    valued_again inner (codes "LARGER") (decimal n ++ rest) (plain_here refl refl refl refl) refl refl
    ∙ at_word_again larger_key (decimal n) rest (key.Larger n) (number_goes_on n (omega (arith, small))) stops (rw (number_complete (2 ^ 32) (decimal n) n (omega arith) small refl) refl)

quotable : (b : ℕ) → is_quotable b ≡ true → is_byte 34 b ≡ false
quotable b is = ne_eqb b 34 (λ e. quote (subst (λ x. is_quotable x ≡ true) e is))
  where
    quote : is_quotable 34 ≡ true → ⊥
    quote e = cc

all_quotable : (text : List ℕ) → All (λ n. is_quotable n ≡ true) text → list_all is_quotable text ≡ true
all_quotable [] all = refl
all_quotable (x ∷ text) all = rw (All-head (λ n. is_quotable n ≡ true) x text all, all_quotable text (All-tail (λ n. is_quotable n ≡ true) x text all)) refl

pub header_again : (inner : Reader) (name text rest : List ℕ) → IsFieldName name → All (λ n. is_quotable n ≡ true) text
    → key_layer inner (codes "HEADER " ++ (name ++ 32 ∷ 34 ∷ (text ++ 34 ∷ rest))) ≡ Some (key.Header name text, rest)
unfolding key_layer header_key
header_again inner name text rest is all =
    let go = all_goes_on (is_byte 34) (λ n. is_quotable n ≡ true) quotable text all in
    let behind = 32 ∷ 34 ∷ (text ++ 34 ∷ rest) in
    rw (before_again is_stop name behind (field_goes_on name is) refl, field_test name is, from_again is_stop name behind (field_goes_on name is) refl)
    (rw (before_again (is_byte 34) text (34 ∷ rest) go refl, all_quotable text all, from_again (is_byte 34) text (34 ∷ rest) go refl) refl)

-- ---- keys with keys inside

pub not_again : (inner : Reader) (text rest : List ℕ) (k : Key) → inner (text ++ rest) ≡ Some (k, rest) → key_layer inner (codes "NOT " ++ (text ++ rest)) ≡ Some (key.Not k, rest)
unfolding key_layer
not_again inner text rest k is = rw is refl

pub or_again : (inner : Reader) (first second rest : List ℕ) (one other : Key) → inner (first ++ 32 ∷ (second ++ rest)) ≡ Some (one, 32 ∷ (second ++ rest)) → inner (second ++ rest) ≡ Some (other, rest)
    → key_layer inner (codes "OR " ++ (first ++ 32 ∷ (second ++ rest))) ≡ Some (key.Or one other, rest)
unfolding key_layer
or_again inner first second rest one other is too = rw is (rw too refl)

pub nested_again : (inner : Reader) (text rest : List ℕ) (keys : List Key) → several inner (length (text ++ 41 ∷ rest)) (text ++ 41 ∷ rest) ≡ Some (keys, 41 ∷ rest)
    → key_layer inner (codes "(" ++ (text ++ 41 ∷ rest)) ≡ Some (one_of keys, rest)
unfolding key_layer
nested_again inner text rest keys is = rw is refl
