-- What the grammar has is read: keys in keys.
use Rattle.std.proofs.Common.{◌≡◌, inl, inr, ℕ, zero, suc, Bool, ◌-◌, ◌≤◌, List, [], ◌∷◌, ◌++◌, length, Option, Some, codes, refl, sym, ◌∙◌, ap, arith, append_assoc}
use Rattle.std.proofs.lemmas.List.{append-nil, length-append}
use Rattle.dv_model.specs.declared.types.Command.TheVariants as command
use Rattle.dv_model.specs.declared.types.Key.{Key, out-Key, roll-Key, roll-out-Key}
use Rattle.dv_model.specs.declared.types.Key.TheOpen.{Key-F}
use Rattle.dv_model.specs.declared.types.Key.TheVariants as key
use Rattle.dv_model.specs.declared.types.Key.TheVariants.{rolls-All, rolls-Has, rolls-Lacks, rolls-Keyword, rolls-Uid, rolls-Larger, rolls-Header, rolls-Not, rolls-Or, rolls-And}
use Rattle.dv_model.specs.Texts.{spaced}
use Rattle.dv_formats.specs.Scripts.{AreKeys, AreSought, IsKey, IsWord, key_levels}
use Rattle.dv_formats.specs.Parsing.{◌>>=◌, ended, is_stop, key_at, key_layer, one_of, plain_key, search_of, several, valued_key, word_key}
use Rattle.dv_commands.specs.Keys.{key_of}
use Rattle.dv_commands.proofs.KeyWords.{all_again, has_again, header_again, keyword_again, lacks_again, larger_again, nested_again, not_again, or_again, uid_again}
use Rattle.dv_commands.proofs.Words.{IsBehind, Stops, one_again, spaced_long}

-- a key that has none inside
word_again : (inner : List ℕ → Option (Key × List ℕ)) (layer : Key-F Key) (b rest : List ℕ) → IsWord layer b → Stops is_stop rest
    → key_layer inner (b ++ rest) ≡ Some (roll-Key layer, rest)
word_again inner Key-F.All b rest is stops = ap (λ t. key_layer inner (t ++ rest)) is ∙ all_again inner rest stops ∙ ap (λ k. Some (k, rest)) (sym rolls-All)
word_again inner (Key-F.Has n) b rest is stops = ap (λ t. key_layer inner (t ++ rest)) is.2 ∙ has_again inner n is.0 rest is.1 stops ∙ ap (λ k. Some (k, rest)) (sym (rolls-Has n))
word_again inner (Key-F.Lacks n) b rest is stops = ap (λ t. key_layer inner (t ++ rest)) is.2 ∙ lacks_again inner n is.0 rest is.1 stops ∙ ap (λ k. Some (k, rest)) (sym (rolls-Lacks n))
word_again inner (Key-F.Keyword name) b rest is stops = ap (λ t. key_layer inner (t ++ rest)) is.1 ∙ keyword_again inner name rest is.0 stops ∙ ap (λ k. Some (k, rest)) (sym (rolls-Keyword name))
word_again inner (Key-F.Uid set) b rest is stops = ap (λ t. key_layer inner (t ++ rest)) is.2 ∙ uid_again inner set is.0 rest is.1 stops ∙ ap (λ k. Some (k, rest)) (sym (rolls-Uid set))
word_again inner (Key-F.Larger n) b rest is stops = ap (λ t. key_layer inner (t ++ rest)) is.1 ∙ larger_again inner n rest is.0 stops ∙ ap (λ k. Some (k, rest)) (sym (rolls-Larger n))
word_again inner (Key-F.Header name text) b rest is stops =
    let same : b ++ rest ≡ codes "HEADER " ++ (name ++ 32 ∷ 34 ∷ (text ++ 34 ∷ rest)) = ap (λ t. t ++ rest) (is.1.2 ∙ ap (λ q. codes "HEADER " ++ name ++ codes " " ++ q) is.1.1.1)
    ∙ append_assoc (codes "HEADER " ++ name ++ codes " ") (34 ∷ (text ++ 34 ∷ [])) rest
    ∙ ap (λ t. codes "HEADER " ++ t) (append_assoc name (32 ∷ []) (34 ∷ ((text ++ 34 ∷ []) ++ rest)))
    ∙ ap (λ t. codes "HEADER " ++ (name ++ 32 ∷ 34 ∷ t)) (append_assoc text (34 ∷ []) rest) in
    ap (key_layer inner) same ∙ header_again inner name text rest is.0 is.1.1.0 ∙ ap (λ k. Some (k, rest)) (sym (rolls-Header name text))
word_again inner (Key-F.Not k) b rest is stops = absurd is
word_again inner (Key-F.Or k l) b rest is stops = absurd is
word_again inner (Key-F.And ks) b rest is stops = absurd is

as_key : (k : Key) (layer : Key-F Key) → out-Key k ≡ layer → roll-Key layer ≡ k
as_key k layer is = ap roll-Key (sym is) ∙ roll-out-Key k

one_of_more : (keys : List Key) → 2 ≤ length keys → one_of keys ≡ key.And keys
one_of_more [] some = absurd (omega (arith, some))
one_of_more (k ∷ []) some = absurd (omega (arith, some))
one_of_more (k ∷ l ∷ keys) some = refl

keys_long : (keys : List Key) (levels : ℕ) (texts : List (List ℕ)) → AreKeys keys levels texts → length keys ≡ length texts
keys_long _ levels _ AreKeys.none = refl
keys_long _ levels _ (AreKeys.more {keys = keys} {texts = texts} is others) = ap suc (keys_long keys levels texts others)

more_again : {A : Type 0} (read : List ℕ → Option (A × List ℕ)) (most : ℕ) (x : A) (xs : List A) (w t rest : List ℕ) → 1 ≤ most
    → read (w ++ 32 ∷ (t ++ rest)) ≡ Some (x, 32 ∷ (t ++ rest)) → several read (most - 1) (t ++ rest) ≡ Some (xs, rest)
    → several read most ((w ++ 32 ∷ t) ++ rest) ≡ Some (x ∷ xs, rest)
unfolding several
more_again read zero x xs w t rest some first others = absurd (omega (arith, some))
more_again read (suc most) x xs w t rest some first others =
    let fewer : suc most - 1 ≡ most = omega arith in
    let left : several read most (t ++ rest) ≡ Some (xs, rest) = ap (λ n. several read n (t ++ rest)) (sym fewer) ∙ others in
    ap (several read (suc most)) (append_assoc w (32 ∷ t) rest) ∙ rw first (rw left refl)

-- what is read of a text, whatever stands behind it
abbrev IsRead : Key → ℕ → List ℕ → Type 0
IsRead k levels text = (rest : List ℕ) → Stops is_stop rest → key_at levels (text ++ rest) ≡ Some (k, rest)

layered : (k : Key) (levels : ℕ) (b text rest : List ℕ) (layer : Key-F Key) → b ++ rest ≡ text → out-Key k ≡ layer
    → key_layer (key_at levels) text ≡ Some (roll-Key layer, rest) → key_at (suc levels) (b ++ rest) ≡ Some (k, rest)
unfolding key_at
layered k levels b text rest layer same is read = ap (key_layer (key_at levels)) same ∙ read ∙ ap (λ x. Some (x, rest)) (as_key k layer is)

nested : (k : Key) (levels : ℕ) (b text rest : List ℕ) (keys : List Key) → b ≡ codes "(" ++ text ++ codes ")" → one_of keys ≡ k
    → several (key_at levels) (length (text ++ 41 ∷ rest)) (text ++ 41 ∷ rest) ≡ Some (keys, 41 ∷ rest) → key_at (suc levels) (b ++ rest) ≡ Some (k, rest)
unfolding key_at
nested k levels b text rest keys same is read =
    let whole : b ++ rest ≡ codes "(" ++ (text ++ 41 ∷ rest) = ap (λ t. t ++ rest) same ∙ simp append_assoc in
    ap (key_layer (key_at levels)) whole ∙ nested_again (key_at levels) text rest keys read ∙ ap (λ x. Some (x, rest)) is

mutual
  pub key_again : (k : Key) (levels : ℕ) (b : List ℕ) → IsKey k levels b → IsRead k levels b
  key_again k _ b (IsKey.word {levels = levels} is) rest stops = layered k levels b (b ++ rest) rest (out-Key k) refl refl (word_again (key_at levels) (out-Key k) b rest is stops)
  key_again k _ b (IsKey.negated {inner = inside} {levels = levels} {text = text} is inner same) rest stops =
      layered k levels b (codes "NOT " ++ (text ++ rest)) rest (Key-F.Not inside) (ap (λ t. t ++ rest) same) is (not_again (key_at levels) text rest inside (key_again inside levels text inner rest stops) ∙ ap (λ x. Some (x, rest)) (sym (rolls-Not inside)))
  key_again k _ b (IsKey.either {one = one} {other = other} {levels = levels} {first = first} {second = second} is left right same) rest stops =
      layered k levels b (codes "OR " ++ (first ++ 32 ∷ (second ++ rest))) rest (Key-F.Or one other) (ap (λ t. t ++ rest) same ∙ simp append_assoc) is (or_again (key_at levels) first second rest one other (key_again one levels first left (32 ∷ (second ++ rest)) refl) (key_again other levels second right rest stops) ∙ ap (λ x. Some (x, rest)) (sym (rolls-Or one other)))
  key_again k _ b (IsKey.several is some AreKeys.none same) rest stops = absurd (omega (arith, some))
  key_again k _ b (IsKey.several is some (AreKeys.more {key = one} {keys = keys} {levels = levels} {text = text} {texts = texts} first others) same) rest stops =
      let whole = spaced (text ∷ texts) ++ 41 ∷ rest in
      let few : suc (length keys) ≤ length whole = omega (arith, keys_long keys levels texts others, spaced_long (text ∷ texts), length-append (spaced (text ∷ texts)) (41 ∷ rest)) in
      nested k levels b (spaced (text ∷ texts)) rest (one ∷ keys) same (one_of_more (one ∷ keys) some ∙ sym (rolls-And (one ∷ keys)) ∙ as_key k (Key-F.And (one ∷ keys)) is) (keys_again levels one keys text texts (length whole) (41 ∷ rest) (key_again one levels text first) others few (refl, refl))
  key_again k _ b (IsKey.within {levels = levels} {text = text} inner same) rest stops =
      let few : 1 ≤ length (text ++ 41 ∷ rest) = omega (arith, length-append text (41 ∷ rest)) in
      nested k levels b text rest (k ∷ []) same refl (one_again (key_at levels) (length (text ++ 41 ∷ rest)) k (text ++ 41 ∷ rest) (41 ∷ rest) few (key_again k levels text inner (41 ∷ rest) refl) refl)

  pub keys_again : (levels : ℕ) (k : Key) (keys : List Key) (text : List ℕ) (texts : List (List ℕ)) (most : ℕ) (rest : List ℕ) → IsRead k levels text → AreKeys keys levels texts
      → suc (length keys) ≤ most → IsBehind rest → several (key_at levels) most (spaced (text ∷ texts) ++ rest) ≡ Some (k ∷ keys, rest)
  keys_again levels k _ text _ most rest first AreKeys.none few behind = one_again (key_at levels) most k (text ++ rest) rest (omega (arith, few)) (first rest behind.0) behind.1
  keys_again levels k _ text _ most rest first (AreKeys.more {key = one} {keys = keys} {text = next} {texts = texts} is others) few behind =
      more_again (key_at levels) most k (one ∷ keys) text (spaced (next ∷ texts)) rest (omega (arith, few)) (first (32 ∷ (spaced (next ∷ texts) ++ rest)) refl) (keys_again levels one keys next texts (most - 1) rest (key_again one levels next is) others (omega (arith, few)) behind)

-- a key has a byte at least
key_bytes : (k : Key) (levels : ℕ) (b : List ℕ) → key_at levels b ≡ Some (k, []) → 1 ≤ length b
unfolding key_at key_layer word_key plain_key valued_key
key_bytes k zero b e = absurd cc
key_bytes k (suc levels) [] e = absurd cc
key_bytes k (suc levels) (x ∷ b) e = omega arith

-- keys have as many bytes as there are keys
key_some : (k : Key) (levels : ℕ) (b : List ℕ) → IsKey k levels b → 1 ≤ length b
key_some k levels b is = key_bytes k levels b (ap (key_at levels) (sym (append-nil b)) ∙ key_again k levels b is [] tt)

fits : (k : Key) (keys : List Key) (text : List ℕ) (texts : List (List ℕ)) → IsKey k key_levels text → AreKeys keys key_levels texts
    → suc (length keys) ≤ length (spaced (text ∷ texts))
fits k _ text _ is AreKeys.none = key_some k key_levels text is
fits k _ text _ is (AreKeys.more {key = one} {keys = keys} {text = next} {texts = texts} first others) =
    omega (arith, fits one keys next texts first others, length-append text (32 ∷ spaced (next ∷ texts)))

-- the keys of a SEARCH
several_sought : (k : Key) (b : List ℕ) → AreSought k b → (keys : List Key) × (several (key_at key_levels) (length b) b ≡ Some (keys, [])) × (one_of keys ≡ k)
several_sought k b (inl is) =
    let read : key_at key_levels b ≡ Some (k, []) = ap (key_at key_levels) (sym (append-nil b)) ∙ key_again k key_levels b is [] tt in
    (k ∷ [], one_again (key_at key_levels) (length b) k b [] (key_bytes k key_levels b read) read refl, refl)
several_sought k b (inr is) = by_keys is.0 is.1 is.2 is.3 is.4 is.5
  where
    by_keys : (keys : List Key) (texts : List (List ℕ)) → out-Key k ≡ Key-F.And keys → 2 ≤ length keys → AreKeys keys key_levels texts → b ≡ spaced texts
        → (found : List Key) × (several (key_at key_levels) (length b) b ≡ Some (found, [])) × (one_of found ≡ k)
    by_keys _ _ same some AreKeys.none text_is = absurd (omega (arith, some))
    by_keys _ _ same some (AreKeys.more {key = one} {keys = keys} {text = text} {texts = texts} first others) text_is =
        let whole = spaced (text ∷ texts) in
        let few : suc (length keys) ≤ length whole = fits one keys text texts first others in
        let read : several (key_at key_levels) (length whole) (whole ++ []) ≡ Some (one ∷ keys, []) = keys_again key_levels one keys text texts (length whole) [] (key_again one key_levels text first) others few (tt, refl) in
        let at : several (key_at key_levels) (length b) b ≡ Some (one ∷ keys, []) = ap (λ t. several (key_at key_levels) (length t) t) text_is ∙ ap (several (key_at key_levels) (length whole)) (sym (append-nil whole)) ∙ read in
        (one ∷ keys, at, one_of_more (one ∷ keys) some ∙ sym (rolls-And (one ∷ keys)) ∙ as_key k (Key-F.And (one ∷ keys)) same)

pub sought_again : (by_uid : Bool) (k : Key) (b : List ℕ) → AreSought k b → search_of by_uid b ≡ Some (command.Search by_uid k)
unfolding search_of
sought_again by_uid k b is =
    let keys = several_sought k b is in
    rw keys.1 (ap (λ x. Some (command.Search by_uid x)) keys.2)

-- the whole text is one key
pub whole_key_again : (k : Key) (b : List ℕ) → IsKey k key_levels b → key_of b ≡ Some k
whole_key_again k b is =
    let read : key_at key_levels b ≡ Some (k, []) = ap (key_at key_levels) (sym (append-nil b)) ∙ key_again k key_levels b is [] tt in
    ap (λ r. r >>= λ found. ended found.1 found.0) read
