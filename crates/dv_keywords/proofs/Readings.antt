-- A table is read name by name.
use Rattle.std.proofs.Common.{◌≡◌, ◌≢◌, ℕ, ◌+◌, ◌^◌, ◌<◌, ◌≤◌, true, false, List, [], ◌∷◌, ◌++◌, length, get_or, take, drop, All, AllPairs, Contains, Option, Some, None, refl, sym, ◌∙◌, ap, subst, arith, append_assoc}
use Rattle.std.specs.List.{flat_map}
use Rattle.std.specs.Prelude.{is_some}
use Rattle.std.specs.Str.{bytes_eq}
use Rattle.std.proofs.lemmas.Bool.{false≢true, true≢false}
use Rattle.std.proofs.lemmas.List.{append-nil, length-take, length-drop, length-append, take-append-drop, take-take, drop-take, flat_map_more, get_or_append_left, get_or_at, length_push}
use Rattle.std.proofs.lemmas.List.Elements.{All-contains, All-head, All-push, All-tail, Contains-append_right}
use Rattle.std.proofs.lemmas.List.Quantifiers.{all_pairs_push, position-Some}
use Rattle.std.proofs.lemmas.Slice.Eq.{bytes_eq-Decides}
use Rattle.dv_model.specs.Effects.{place_of}
use Rattle.dv_model.specs.Names.{IsName}
use Rattle.dv_model.specs.Spelling.{padded}
use Rattle.dv_formats.specs.Snapshots.{keyword_text}
use Rattle.dv_formats.proofs.Texts.{AreShort, names_one}
use Rattle.dv_keywords.specs.Tables.{IsNameAt, IsTableAt}
use Rattle.dv_keywords.proofs.Lookup.{is_new}

-- a name's text begins no other's
pub name_one : (n m : List ℕ) (b c : List ℕ) → IsName n → IsName m → keyword_text n ++ b ≡ keyword_text m ++ c → (n ≡ m) × (b ≡ c)
name_one n m b c p q e =
    let single : (x : List ℕ) → flat_map keyword_text (x ∷ []) ≡ keyword_text x = λ x. append-nil (keyword_text x) in
    let joined = ap (λ t. t ++ b) (single n) ∙ e ∙ ap (λ t. t ++ c) (sym (single m)) in
    let both = names_one (n ∷ []) (m ∷ []) b c refl (omega (arith, p.size.1), tt) (omega (arith, q.size.1), tt) joined in
    (head_is n m both.0, both.1)
  where
    head_is : (x y : List ℕ) → x ∷ [] ≡ y ∷ [] → x ≡ y
    head_is x y h = cc

pub are_short : (names : List (List ℕ)) → All IsName names → AreShort names
are_short [] all = tt
are_short (n ∷ ns) all = let first = All-head IsName n ns all in (omega (arith, first.size.1), are_short ns (All-tail IsName n ns all))

-- names that begin bytes are the first of more names that do
pub first_of : (ns ms : List (List ℕ)) (b c : List ℕ) → length ns ≤ length ms → All IsName ns → All IsName ms → flat_map keyword_text ns ++ b ≡ flat_map keyword_text ms ++ c
    → (xs : List (List ℕ)) × (ms ≡ ns ++ xs) × (b ≡ flat_map keyword_text xs ++ c)
first_of [] ms b c le p q e = (ms, refl, e)
first_of (n ∷ ns) [] b c le p q e = absurd (omega (arith, le))
first_of (n ∷ ns) (m ∷ ms) b c le p q e =
    let joined = sym (append_assoc (keyword_text n) (flat_map keyword_text ns) b) ∙ e ∙ append_assoc (keyword_text m) (flat_map keyword_text ms) c in
    let here = name_one n m (flat_map keyword_text ns ++ b) (flat_map keyword_text ms ++ c) (All-head IsName n ns p) (All-head IsName m ms q) joined in
    let rest = first_of ns ms b c (omega (arith, le)) (All-tail IsName n ns p) (All-tail IsName m ms q) here.1 in
    (rest.0, ap (λ x. x ∷ ms) (sym here.0) ∙ ap (λ xs. n ∷ xs) rest.1, rest.2)

-- bytes are a table's text and what follows it
pub table_front : (count : ℕ) (names : List (List ℕ)) (n : ℕ) (b : List ℕ) → IsTableAt count names n b → flat_map keyword_text names ++ drop n b ≡ b
table_front count names n b is = ap (λ t. t ++ drop n b) (sym is.text) ∙ take-append-drop n b

pub table_size : (count : ℕ) (names : List (List ℕ)) (n : ℕ) (b : List ℕ) → IsTableAt count names n b → n ≡ length (flat_map keyword_text names)
table_size count names n b is = omega (arith, is.size, length-take n b, ap length is.text)

-- at most one table of a count begins any bytes
pub one_table : (count : ℕ) (names others : List (List ℕ)) (n m : ℕ) (b : List ℕ) → IsTableAt count names n b → IsTableAt count others m b → (names ≡ others) × (n ≡ m)
one_table count names others n m b p q =
    let same = names_one names others (drop n b) (drop m b) (p.counted ∙ sym q.counted) (are_short names p.table.valid) (are_short others q.table.valid) (table_front count names n b p ∙ sym (table_front count others m b q)) in
    (same.0, table_size count names n b p ∙ ap (λ ns. length (flat_map keyword_text ns)) same.0 ∙ sym (table_size count others m b q))

-- ---- as a loop does

-- the first bytes are the text of so many names
pub record IsReadTo (b : List ℕ) (names : List (List ℕ)) (at : ℕ) (done : ℕ) : Type 0 where
  pub valid : All IsName names
  pub distinct : AllPairs (λ x y. x ≢ y) names
  pub counted : length names ≡ done
  pub size : at ≤ length b
  pub text : take at b ≡ flat_map keyword_text names

read_front : (b : List ℕ) (names : List (List ℕ)) (at done : ℕ) → IsReadTo b names at done → flat_map keyword_text names ++ drop at b ≡ b
read_front b names at done is = ap (λ t. t ++ drop at b) (sym is.text) ∙ take-append-drop at b

-- a table of more names has a next one, whose text stands here
record HasNext (b : List ℕ) (names : List (List ℕ)) (at : ℕ) (others : List (List ℕ)) : Type 0 where
  next : List ℕ
  later : List (List ℕ)
  rest : List ℕ
  is : IsName next
  parts : others ≡ names ++ next ∷ later
  here : drop at b ≡ keyword_text next ++ rest

goes_on : (count : ℕ) (b : List ℕ) (names : List (List ℕ)) (at done : ℕ) → IsReadTo b names at done → done < count → (others : List (List ℕ)) (n : ℕ) → IsTableAt count others n b → HasNext b names at others
goes_on count b names at done so_far less others n is =
    let more = first_of names others (drop at b) (drop n b) (omega (arith, so_far.counted, is.counted)) so_far.valid is.table.valid (read_front b names at done so_far ∙ sym (table_front count others n b is)) in
    by_rest more.0 more.1 more.2
  where
    by_rest : (xs : List (List ℕ)) → others ≡ names ++ xs → drop at b ≡ flat_map keyword_text xs ++ drop n b → HasNext b names at others
    by_rest [] e f = let none : length others ≡ length names = ap length (e ∙ append-nil names) in absurd (omega (arith, none, so_far.counted, is.counted))
    by_rest (x ∷ xs) e f =
        let there : Contains others x = subst (λ ys. Contains ys x) (sym e) (Contains-append_right names (x ∷ xs) x (0, omega arith, refl)) in
        record {
          next = x;
          later = xs;
          rest = flat_map keyword_text xs ++ drop n b;
          is = All-contains IsName others x is.table.valid there;
          parts = e;
          here = f ∙ append_assoc (keyword_text x) (flat_map keyword_text xs) (drop n b);
        }

-- no table begins the bytes where no name follows
pub no_name : (count : ℕ) (b : List ℕ) (names : List (List ℕ)) (at done : ℕ) → IsReadTo b names at done → done < count
    → ((name rest : List ℕ) → IsName name → drop at b ≡ keyword_text name ++ rest → ⊥) → (others : List (List ℕ)) (n : ℕ) → IsTableAt count others n b → ⊥
no_name count b names at done so_far less none others n is =
    let next = goes_on count b names at done so_far less others n is in
    none next.next next.rest next.is next.here

some_of : (o : Option ℕ) → is_some o ≡ true → (k : ℕ) × (o ≡ Some k)
some_of (Some k) e = (k, refl)
some_of None e = absurd (false≢true e)

pub none_of : (o : Option ℕ) → is_some o ≡ false → o ≡ None
none_of (Some k) e = absurd (true≢false e)
none_of None e = refl

-- nor where a name follows that was read before
pub doubled : (count : ℕ) (b : List ℕ) (names : List (List ℕ)) (at done : ℕ) → IsReadTo b names at done → done < count
    → (name : List ℕ) → IsNameAt (drop at b) name → is_some (place_of names name) ≡ true → (others : List (List ℕ)) (n : ℕ) → IsTableAt count others n b → ⊥
doubled count b names at done so_far less name found known others n is =
    let place = (some_of (place_of names name) known).0 in
    let next = goes_on count b names at done so_far less others n is in
    let m = padded (2 + length name) in
    let joined = ap (λ t. t ++ drop m (drop at b)) (sym found.text) ∙ take-append-drop m (drop at b) ∙ next.here in
    let same = name_one name next.next (drop m (drop at b)) next.rest found.is next.is joined in
    let first = position-Some (bytes_eq name) names place [] (some_of (place_of names name) known).1 in
    let before : name ≡ get_or names place [] = (bytes_eq-Decides name (get_or names place [])).0 first.1 in
    let early : get_or (names ++ next.next ∷ next.later) place [] ≡ name = get_or_append_left names (next.next ∷ next.later) [] place first.0 ∙ sym before in
    let late : get_or (names ++ next.next ∷ next.later) (length names) [] ≡ next.next = get_or_at names next.next next.later [] (length names) refl in
    let apart : AllPairs (λ x y. x ≢ y) (names ++ next.next ∷ next.later) = subst (λ ys. AllPairs (λ x y. x ≢ y) ys) next.parts is.table.distinct in
    apart place (length names) [] first.0 (omega (arith, length-append names (next.next ∷ next.later))) (early ∙ same.0 ∙ sym late)

-- a new name is one more
pub one_more : (b : List ℕ) (names : List (List ℕ)) (at done : ℕ) → IsReadTo b names at done → (name : List ℕ) → IsNameAt (drop at b) name → is_some (place_of names name) ≡ false
    → IsReadTo b (names ++ name ∷ []) (at + padded (2 + length name)) (done + 1)
one_more b names at done so_far name found new =
    let m = padded (2 + length name) in
    let split : take (at + m) b ≡ take at b ++ take m (drop at b) =
    sym (take-append-drop at (take (at + m) b)) ∙ ap (λ t. t ++ drop at (take (at + m) b)) (take-take at (at + m) b (omega arith)) ∙ ap (λ t. take at b ++ t) (drop-take at m b) in
    record {
      valid = All-push IsName names name so_far.valid found.is;
      distinct = all_pairs_push (λ x y. x ≢ y) names name so_far.distinct (is_new names name (none_of (place_of names name) new));
      counted = omega (arith, so_far.counted, length_push names name);
      size = omega (arith, so_far.size, found.size, length-drop at b);
      text = split ∙ ap (λ t. t ++ take m (drop at b)) so_far.text ∙ ap (λ t. flat_map keyword_text names ++ t) found.text ∙ flat_map_more keyword_text [] names name;
    }

pub starts : (b : List ℕ) → IsReadTo b [] 0 0
starts b = record { valid = λ k d below. absurd (omega (arith, below)); distinct = λ i j d less below. absurd (omega (arith, below)); counted = refl; size = omega arith; text = refl }

pub is_done : (count : ℕ) (b : List ℕ) (names : List (List ℕ)) (at : ℕ) → count < 2 ^ 32 → IsReadTo b names at count → IsTableAt count names at b
is_done count b names at small is = record {
  table = record { valid = is.valid; distinct = is.distinct; few = omega (arith, is.counted, small) };
  counted = is.counted;
  size = is.size;
  text = is.text;
}
