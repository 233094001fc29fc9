-- Keys of a text nest no deeper than the text's grammar lets them.
use Rattle.std.proofs.Common.{◌≡◌, inl, inr, ℕ, suc, ◌≤◌, List, [], ◌∷◌, ◌-◌, Bool, true, false, ◌&&◌, refl, sym, ap, ◌∙◌, arith}
use Rattle.std.specs.Prelude.{fold, map, max, nat_le}
use Rattle.std.specs.List.{list_all}
use Rattle.std.proofs.lemmas.Bool.{and_from, and_parts, false≢true, le-leb, leb-true}
use Rattle.dv_model.specs.declared.types.Key.{Key, out-Key, roll-Key, roll-out-Key, fold-roll-Key}
use Rattle.dv_model.specs.declared.types.Key.TheOpen.{Key-F}
use Rattle.dv_model.specs.declared.types.Key.TheVariants as key
use Rattle.dv_formats.specs.Scripts.{AreKeys, AreSought, IsKey, IsWord, key_levels}
use Rattle.dv_search.specs.Nesting.{level_step, levels_of, most_levels}

max_least : (a b c : ℕ) → a ≤ c → b ≤ c → max a b ≤ c
max_least a b c le le_too = omega arith

-- a key as its outermost layer is
layered : (key : Key) (layer : Key-F Key) → out-Key key ≡ layer → levels_of key ≡ levels_of (roll-Key layer)
layered key layer is = ap levels_of (sym (roll-out-Key key) ∙ ap roll-Key is)

-- a key that has none inside
word_level : (layer : Key-F Key) (b : List ℕ) → IsWord layer b → levels_of (roll-Key layer) ≡ 1
word_level Key-F.All b is = fold-roll-Key ℕ level_step Key-F.All
word_level (Key-F.Has n) b is = fold-roll-Key ℕ level_step (Key-F.Has n)
word_level (Key-F.Lacks n) b is = fold-roll-Key ℕ level_step (Key-F.Lacks n)
word_level (Key-F.Keyword name) b is = fold-roll-Key ℕ level_step (Key-F.Keyword name)
word_level (Key-F.Uid set) b is = fold-roll-Key ℕ level_step (Key-F.Uid set)
word_level (Key-F.Larger n) b is = fold-roll-Key ℕ level_step (Key-F.Larger n)
word_level (Key-F.Header name text) b is = fold-roll-Key ℕ level_step (Key-F.Header name text)
word_level (Key-F.Not key) b is = absurd is
word_level (Key-F.Or one other) b is = absurd is
word_level (Key-F.And keys) b is = absurd is

-- ---- the keys of a text

mutual
  shallow : (key : Key) (levels : ℕ) (b : List ℕ) → IsKey key levels b → levels_of key ≤ levels
  shallow key _ b (IsKey.word {levels = levels} is) =
      let one : levels_of key ≡ 1 = layered key (out-Key key) (λ _. out-Key key) ∙ word_level (out-Key key) b is in
      omega arith
  shallow key _ b (IsKey.negated {inner = inside} {levels = levels} {text = text} is inner text_is) =
      let deep : levels_of key ≡ suc (levels_of inside) = layered key (Key-F.Not inside) is ∙ fold-roll-Key ℕ level_step (Key-F.Not inside) in
      let less = shallow inside levels text inner in
      omega arith
  shallow key _ b (IsKey.either {one = one} {other = other} {levels = levels} {first = first} {second = second} is left right text_is) =
      let deep : levels_of key ≡ suc (max (levels_of one) (levels_of other)) = layered key (Key-F.Or one other) is ∙ fold-roll-Key ℕ level_step (Key-F.Or one other) in
      let less = max_least (levels_of one) (levels_of other) levels (shallow one levels first left) (shallow other levels second right) in
      omega arith
  shallow key _ b (IsKey.several {keys = keys} {levels = levels} {texts = texts} is some each text_is) =
      let deep : levels_of key ≡ suc (fold max 0 (map levels_of keys)) = layered key (Key-F.And keys) is ∙ fold-roll-Key ℕ level_step (Key-F.And keys) in
      let less = all_shallow 0 keys levels texts (omega arith) each in
      omega arith
  shallow key _ b (IsKey.within {levels = levels} {text = text} inner text_is) =
      let less = shallow key levels text inner in
      omega arith

  all_shallow : (n : ℕ) (keys : List Key) (levels : ℕ) (texts : List (List ℕ)) → n ≤ levels → AreKeys keys levels texts → fold max n (map levels_of keys) ≤ levels
  all_shallow n _ levels _ le AreKeys.none = le
  all_shallow n _ levels _ le (AreKeys.more {key = key} {keys = keys} {text = text} {texts = texts} is others) = all_shallow (max n (levels_of key)) keys levels texts (max_least n (levels_of key) levels le (shallow key levels text is)) others

-- the keys of a SEARCH
pub sought_levels : (key : Key) (b : List ℕ) → AreSought key b → levels_of key ≤ most_levels
sought_levels key b (inl one) = let less = shallow key key_levels b one in omega arith
sought_levels key b (inr several) =
    let keys = several.0 in
    let texts = several.1 in
    let deep : levels_of key ≡ suc (fold max 0 (map levels_of keys)) = layered key (Key-F.And keys) several.2 ∙ fold-roll-Key ℕ level_step (Key-F.And keys) in
    let less = all_shallow 0 keys key_levels texts (omega arith) several.4 in
    omega arith

-- ---- whether a key nests within so many levels

same_tests : (a b : Bool) → (a ≡ true → b ≡ true) → (b ≡ true → a ≡ true) → a ≡ b
same_tests true b to from = sym (to refl)
same_tests false true to from = absurd (false≢true (from refl))
same_tests false false to from = refl

below : (n levels : ℕ) → 1 ≤ levels → nat_le (suc n) levels ≡ nat_le n (levels - 1)
below n levels some = same_tests (nat_le (suc n) levels) (nat_le n (levels - 1)) (λ e. le-leb n (levels - 1) (omega (arith, leb-true (suc n) levels e))) (λ e. le-leb (suc n) levels (omega (arith, leb-true n (levels - 1) e)))

max_within : (levels a b : ℕ) → nat_le (max a b) levels ≡ (nat_le a levels && nat_le b levels)
max_within levels a b =
    same_tests (nat_le (max a b) levels) (nat_le a levels && nat_le b levels)
    (λ e. and_from (nat_le a levels) (nat_le b levels) (le-leb a levels (omega (arith, leb-true (max a b) levels e))) (le-leb b levels (omega (arith, leb-true (max a b) levels e))))
    (λ e. let both = and_parts (nat_le a levels) (nat_le b levels) e in le-leb (max a b) levels (max_least a b levels (leb-true a levels both.0) (leb-true b levels both.1)))

and_grouped : (a b c : Bool) → ((a && b) && c) ≡ (a && (b && c))
and_grouped true b c = refl
and_grouped false b c = refl

deepest_within : (levels n : ℕ) (keys : List Key) → nat_le (fold max n (map levels_of keys)) levels ≡ (nat_le n levels && list_all (λ key. nat_le (levels_of key) levels) keys)
deepest_within levels n [] = same_tests (nat_le n levels) (nat_le n levels && true) (λ e. and_from (nat_le n levels) true e refl) (λ e. (and_parts (nat_le n levels) true e).0)
deepest_within levels n (key ∷ keys) =
    deepest_within levels (max n (levels_of key)) keys ∙ ap (λ b. b && list_all (λ key. nat_le (levels_of key) levels) keys) (max_within levels n (levels_of key)) ∙ and_grouped (nat_le n levels) (nat_le (levels_of key) levels) (list_all (λ key. nat_le (levels_of key) levels) keys)

pub within-And : (keys : List Key) (levels : ℕ) → 1 ≤ levels → nat_le (levels_of (key.And keys)) levels ≡ list_all (λ key. nat_le (levels_of key) (levels - 1)) keys
within-And keys levels some =
    ap (λ k. nat_le (levels_of k) levels) (sym (key.rolls-And keys)) ∙ ap (λ n. nat_le n levels) (fold-roll-Key ℕ level_step (Key-F.And keys)) ∙ below (fold max 0 (map levels_of keys)) levels some ∙ deepest_within (levels - 1) 0 keys ∙ ap (λ b. b && list_all (λ key. nat_le (levels_of key) (levels - 1)) keys) (le-leb 0 (levels - 1) (omega arith))
