-- What is printed of a key is a text of that key.
use Rattle.std.proofs.Common.{◌≡◌, inl, inr, ℕ, suc, ◌≤◌, List, [], ◌++◌, length, map, codes, refl, sym, ◌∙◌, ap, subst, append_assoc}
use Rattle.std.specs.Prelude.{unwrap_or}
use Rattle.dv_model.specs.declared.types.Key.{Key, fold-roll-Key, out-Key, roll-Key, roll-out-Key}
use Rattle.dv_model.specs.declared.types.Key.TheOpen.{Key-F}
use Rattle.dv_model.specs.Texts.{spaced}
use Rattle.dv_formats.specs.Printing.{key_step, key_text, set_text, sought_text}
use Rattle.dv_formats.specs.Scripts.{AreKeys, AreSought, IsKey, IsWord, key_levels}
use Rattle.dv_sets.proofs.Reread.{printed_set}

-- a key's text, by its outermost layer
layer_text : (k : Key) (layer : Key-F Key) → out-Key k ≡ layer → key_text k ≡ key_text (roll-Key layer)
layer_text k layer is = ap key_text (sym (roll-out-Key k) ∙ ap roll-Key is)

-- ---- keys that have none inside

word_printed : (layer : Key-F Key) (b : List ℕ) → IsWord layer b → IsWord layer (key_text (roll-Key layer))
word_printed Key-F.All b is = fold-roll-Key (List ℕ) key_step Key-F.All
word_printed (Key-F.Has n) b is = (is.0, is.1, fold-roll-Key (List ℕ) key_step (Key-F.Has n) ∙ ap (λ r. unwrap_or r []) is.1)
word_printed (Key-F.Lacks n) b is = (is.0, is.1, fold-roll-Key (List ℕ) key_step (Key-F.Lacks n) ∙ ap (λ r. codes "UN" ++ unwrap_or r []) is.1)
word_printed (Key-F.Keyword name) b is = (is.0, fold-roll-Key (List ℕ) key_step (Key-F.Keyword name))
word_printed (Key-F.Uid set) b is = (set_text set, printed_set set is.0 is.1, fold-roll-Key (List ℕ) key_step (Key-F.Uid set))
word_printed (Key-F.Larger n) b is = (is.0, fold-roll-Key (List ℕ) key_step (Key-F.Larger n))
word_printed (Key-F.Header name text) b is =
    let quoted = codes "\"" ++ text ++ codes "\"" in
    (is.0, (quoted, (is.1.1.0, refl), fold-roll-Key (List ℕ) key_step (Key-F.Header name text) ∙ regroup))
  where
    regroup : codes "HEADER " ++ name ++ codes " \"" ++ text ++ codes "\"" ≡ codes "HEADER " ++ name ++ codes " " ++ (codes "\"" ++ text ++ codes "\"")
    regroup = append_assoc (codes "HEADER " ++ name ++ codes " \"") text (codes "\"")
        ∙ append_assoc (codes "HEADER " ++ name) (codes " \"") (text ++ codes "\"")
        ∙ sym (append_assoc (codes "HEADER " ++ name) (codes " ") (codes "\"" ++ text ++ codes "\""))
word_printed (Key-F.Not k) b is = absurd is
word_printed (Key-F.Or k l) b is = absurd is
word_printed (Key-F.And ks) b is = absurd is

-- ---- a level more

mutual
  deeper : (k : Key) (levels : ℕ) (b : List ℕ) → IsKey k levels b → IsKey k (suc levels) b
  deeper k _ b (IsKey.word is) = IsKey.word is
  deeper k _ b (IsKey.negated {inner = inside} {levels = levels} {text = text} is inner same) = IsKey.negated is (deeper inside levels text inner) same
  deeper k _ b (IsKey.either {one = one} {other = other} {levels = levels} {first = first} {second = second} is left right same) = IsKey.either is (deeper one levels first left) (deeper other levels second right) same
  deeper k _ b (IsKey.several {keys = keys} {levels = levels} {texts = texts} is some each same) = IsKey.several is some (all_deeper keys levels texts each) same
  deeper k _ b (IsKey.within {levels = levels} {text = text} inner same) = IsKey.within (deeper k levels text inner) same

  all_deeper : (keys : List Key) (levels : ℕ) (texts : List (List ℕ)) → AreKeys keys levels texts → AreKeys keys (suc levels) texts
  all_deeper _ levels _ AreKeys.none = AreKeys.none
  all_deeper _ levels _ (AreKeys.more {key = k} {keys = keys} {text = text} {texts = texts} is others) = AreKeys.more (deeper k levels text is) (all_deeper keys levels texts others)

-- ---- keys with keys inside

mutual
  key_printed : (k : Key) (levels : ℕ) (b : List ℕ) → IsKey k levels b → IsKey k levels (key_text k)
  key_printed k _ b (IsKey.word is) = IsKey.word (subst (IsWord (out-Key k)) (ap key_text (roll-out-Key k)) (word_printed (out-Key k) b is))
  key_printed k _ b (IsKey.negated {inner = inside} {levels = levels} {text = text} is inner same) =
      IsKey.negated is (key_printed inside levels text inner) (layer_text k (Key-F.Not inside) is ∙ fold-roll-Key (List ℕ) key_step (Key-F.Not inside))
  key_printed k _ b (IsKey.either {one = one} {other = other} {levels = levels} {first = first} {second = second} is left right same) =
      IsKey.either is (key_printed one levels first left) (key_printed other levels second right) (layer_text k (Key-F.Or one other) is ∙ fold-roll-Key (List ℕ) key_step (Key-F.Or one other))
  key_printed k _ b (IsKey.several {keys = keys} {levels = levels} {texts = texts} is some each same) =
      IsKey.several is some (keys_printed keys levels texts each) (layer_text k (Key-F.And keys) is ∙ fold-roll-Key (List ℕ) key_step (Key-F.And keys))
  key_printed k _ b (IsKey.within {levels = levels} {text = text} inner same) = deeper k levels (key_text k) (key_printed k levels text inner)

  keys_printed : (keys : List Key) (levels : ℕ) (texts : List (List ℕ)) → AreKeys keys levels texts → AreKeys keys levels (map key_text keys)
  keys_printed _ levels _ AreKeys.none = AreKeys.none
  keys_printed _ levels _ (AreKeys.more {key = k} {keys = keys} {text = text} {texts = texts} is others) = AreKeys.more (key_printed k levels text is) (keys_printed keys levels texts others)

-- several keys that a text has in parentheses
inside : (k : Key) (keys : List Key) (levels : ℕ) (b : List ℕ) → IsKey k levels b → out-Key k ≡ Key-F.And keys
    → (2 ≤ length keys) × AreKeys keys levels (map key_text keys)
inside k keys _ b (IsKey.word is) same = absurd (subst (λ layer. IsWord layer b) same is)
inside k keys _ b (IsKey.negated is inner text) same = let both = sym is ∙ same in absurd cc
inside k keys _ b (IsKey.either is left right text) same = let both = sym is ∙ same in absurd cc
inside k keys _ b (IsKey.several {keys = others} {levels = levels} {texts = texts} is some each text) same =
    let one : others ≡ keys = and_is others keys (sym is ∙ same) in
    subst (λ ks. (2 ≤ length ks) × AreKeys ks (suc levels) (map key_text ks)) one (some, all_deeper others levels (map key_text others) (keys_printed others levels texts each))
  where
    and_is : (x y : List Key) → ◌≡◌ {A = Key-F Key} (Key-F.And x) (Key-F.And y) → x ≡ y
    and_is x y e = cc
inside k keys _ b (IsKey.within {levels = levels} {text = text} inner text_is) same =
    let found = inside k keys levels text inner same in
    (found.0, all_deeper keys levels (map key_text keys) found.1)

pub sought_printed : (k : Key) (b : List ℕ) → AreSought k b → AreSought k (sought_text k)
sought_printed k b (inr is) = inr (is.0, map key_text is.0, is.2, is.3, keys_printed is.0 key_levels is.1 is.4, printed is.0 is.2)
  where
    printed : (keys : List Key) → out-Key k ≡ Key-F.And keys → sought_text k ≡ spaced (map key_text keys)
    printed keys same = rw same refl
sought_printed k b (inl is) = by_layer (out-Key k) refl
  where
    alone : (layer : Key-F Key) → out-Key k ≡ layer → ◌≡◌ (sought_text k) (key_text k) → AreSought k (sought_text k)
    alone layer same text = inl (subst (IsKey k key_levels) (sym text) (key_printed k key_levels b is))

    by_layer : (layer : Key-F Key) → out-Key k ≡ layer → AreSought k (sought_text k)
    by_layer (Key-F.And keys) same = let found = inside k keys key_levels b is same in inr (keys, map key_text keys, same, found.0, found.1, rw same refl)
    by_layer Key-F.All same = alone Key-F.All same (rw same refl)
    by_layer (Key-F.Has n) same = alone (Key-F.Has n) same (rw same refl)
    by_layer (Key-F.Lacks n) same = alone (Key-F.Lacks n) same (rw same refl)
    by_layer (Key-F.Keyword name) same = alone (Key-F.Keyword name) same (rw same refl)
    by_layer (Key-F.Uid set) same = alone (Key-F.Uid set) same (rw same refl)
    by_layer (Key-F.Larger n) same = alone (Key-F.Larger n) same (rw same refl)
    by_layer (Key-F.Header name text) same = alone (Key-F.Header name text) same (rw same refl)
    by_layer (Key-F.Not one) same = alone (Key-F.Not one) same (rw same refl)
    by_layer (Key-F.Or one other) same = alone (Key-F.Or one other) same (rw same refl)
