-- What is read is of the grammar: search keys.
use Rattle.std.proofs.Common.{◌≡◌, inl, inr, ℕ, zero, suc, ◌^◌, ◌≤◌, Bool, true, false, cond, List, [], ◌∷◌, ◌++◌, length, Option, Some, None, codes, refl, sym, ◌∙◌, ap, subst, arith, append_assoc}
use Rattle.std.specs.List.{AllZip, list_all}
use Rattle.std.specs.Str.{bytes_eq}
use Rattle.std.proofs.lemmas.List.{append-nil}
use Rattle.std.proofs.lemmas.List.Sums.{AllPass-from_list_all}
use Rattle.std.proofs.lemmas.Slice.Eq.{bytes_eq-Decides}
use Rattle.dv_model.specs.declared.types.Command.{Command}
use Rattle.dv_model.specs.declared.types.Command.TheVariants as command
use Rattle.dv_model.specs.declared.types.Key.{Key, out-Key, roll-Key, out-roll-Key}
use Rattle.dv_model.specs.declared.types.Key.TheOpen.{Key-F}
use Rattle.dv_model.specs.declared.types.Key.TheVariants as key
use Rattle.dv_model.specs.declared.types.Key.TheVariants.{rolls-All, rolls-Has, rolls-Lacks, rolls-Keyword, rolls-Uid, rolls-Larger, rolls-Header, rolls-Not, rolls-Or, rolls-And}
use Rattle.dv_model.specs.Texts.{spaced}
use Rattle.dv_formats.specs.Scripts.{AreKeys, AreSought, IsKey, IsWord, flag_key, is_quotable, key_levels}
use Rattle.dv_formats.specs.Parsing.{◌>>=◌, after, at_word, before, ended, from, header_key, is_byte, is_field_name, is_name, is_stop, key_at, key_flag, key_layer, keyword_key, larger_key, number_of, one_of, plain_key, search_of, set_of, several, uid_key, valued_key, word_key}
use Rattle.dv_commands.specs.Keys.{key_of}
use Rattle.dv_commands.proofs.Base.{after_is, after_then, bind_some, if_some, parted, some_is}
use Rattle.dv_commands.proofs.Grammar.{name_sound, set_sound}
use Rattle.dv_commands.proofs.Names.{field_sound}
use Rattle.dv_commands.proofs.Numbers.{number_sound}
use Rattle.dv_grammar.proofs.Lists.{AreFronts, IsFront, several_sound}

-- ---- keys by their layers

as_layer : (k : Key) (layer : Key-F Key) → roll-Key layer ≡ k → out-Key k ≡ layer
as_layer k layer is = ap out-Key (sym is) ∙ out-roll-Key layer

-- a key that has none inside, by its layer
worded : (k : Key) (layer : Key-F Key) (levels : ℕ) (b : List ℕ) → roll-Key layer ≡ k → IsWord layer b → IsKey k (suc levels) b
worded k layer levels b rolls is = IsKey.word (subst (λ l. IsWord l b) (sym (as_layer k layer rolls)) is)

abbrev KeyIs : ℕ → List ℕ → Key × List ℕ → Type 0
KeyIs levels b y = IsFront (λ k w. IsKey k levels w) b y

-- ---- a flag's word

flag_sound : (w : List ℕ) (n : ℕ) → key_flag w ≡ Some n → flag_key n ≡ Some w
flag_sound w n e = by_answered (bytes_eq w (codes "ANSWERED")) refl e
  where
    is : (text : List ℕ) (bit : ℕ) → bytes_eq w text ≡ true → Some bit ≡ Some n → flag_key bit ≡ Some text → flag_key n ≡ Some w
    is text bit same f key_is = ap flag_key (sym (some_is bit n f)) ∙ key_is ∙ ap Some (sym ((bytes_eq-Decides w text).0 same))

    by_draft : (t : Bool) → bytes_eq w (codes "DRAFT") ≡ t → cond t (Some 16) None ≡ Some n → flag_key n ≡ Some w
    by_draft true same f = is (codes "DRAFT") 16 same f refl
    by_draft false same f = absurd cc

    by_seen : (t : Bool) → bytes_eq w (codes "SEEN") ≡ t → cond t (Some 8) (cond (bytes_eq w (codes "DRAFT")) (Some 16) None) ≡ Some n → flag_key n ≡ Some w
    by_seen true same f = is (codes "SEEN") 8 same f refl
    by_seen false same f = by_draft (bytes_eq w (codes "DRAFT")) refl f

    by_deleted : (t : Bool) → bytes_eq w (codes "DELETED") ≡ t → cond t (Some 4) (cond (bytes_eq w (codes "SEEN")) (Some 8) (cond (bytes_eq w (codes "DRAFT")) (Some 16) None)) ≡ Some n → flag_key n ≡ Some w
    by_deleted true same f = is (codes "DELETED") 4 same f refl
    by_deleted false same f = by_seen (bytes_eq w (codes "SEEN")) refl f

    by_flagged : (t : Bool) → bytes_eq w (codes "FLAGGED") ≡ t → cond t (Some 2) (cond (bytes_eq w (codes "DELETED")) (Some 4) (cond (bytes_eq w (codes "SEEN")) (Some 8) (cond (bytes_eq w (codes "DRAFT")) (Some 16) None))) ≡ Some n → flag_key n ≡ Some w
    by_flagged true same f = is (codes "FLAGGED") 2 same f refl
    by_flagged false same f = by_deleted (bytes_eq w (codes "DELETED")) refl f

    by_answered : (t : Bool) → bytes_eq w (codes "ANSWERED") ≡ t → cond t (Some 1) (cond (bytes_eq w (codes "FLAGGED")) (Some 2) (cond (bytes_eq w (codes "DELETED")) (Some 4) (cond (bytes_eq w (codes "SEEN")) (Some 8) (cond (bytes_eq w (codes "DRAFT")) (Some 16) None)))) ≡ Some n → flag_key n ≡ Some w
    by_answered true same f = is (codes "ANSWERED") 1 same f refl
    by_answered false same f = by_flagged (bytes_eq w (codes "FLAGGED")) refl f

-- ---- keys without keys inside

plain_sound : (levels : ℕ) (w : List ℕ) (k : Key) → plain_key w ≡ Some k → IsKey k (suc levels) w
unfolding plain_key
plain_sound levels w k e = by_all (bytes_eq w (codes "ALL")) refl
  where
    by_lack : (r : Option (List ℕ)) → bytes_eq w (codes "ALL") ≡ false → after (codes "UN") w ≡ r → IsKey k (suc levels) w
    by_lack (Some flag) other is =
        let bit = bind_some (key_flag flag) (λ bit. Some (key.Lacks bit)) k (sym (rw (other, is) refl) ∙ e) in
        worded k (Key-F.Lacks bit.0) levels w (rolls-Lacks bit.0 ∙ some_is (key.Lacks bit.0) k bit.2) (flag, flag_sound flag bit.0 bit.1, after_is (codes "UN") w flag is)
    by_lack None other is =
        let bit = bind_some (key_flag w) (λ bit. Some (key.Has bit)) k (sym (rw (other, is) refl) ∙ e) in
        worded k (Key-F.Has bit.0) levels w (rolls-Has bit.0 ∙ some_is (key.Has bit.0) k bit.2) (w, flag_sound w bit.0 bit.1, refl)

    by_all : (t : Bool) → bytes_eq w (codes "ALL") ≡ t → IsKey k (suc levels) w
    by_all true is = worded k Key-F.All levels w (rolls-All ∙ some_is key.All k (sym (rw is refl) ∙ e)) ((bytes_eq-Decides w (codes "ALL")).0 is)
    by_all false other = by_lack (after (codes "UN") w) other refl

-- a word and its value
at_word_sound : (levels : ℕ) (text b rest : List ℕ) (read : List ℕ → Option Key) (y : Key × List ℕ) → b ≡ text ++ rest → at_word read rest ≡ Some y
    → ((w : List ℕ) (k : Key) → read w ≡ Some k → IsKey k (suc levels) (text ++ w)) → KeyIs (suc levels) b y
at_word_sound levels text b rest read y same e law =
    let one = bind_some (read (before is_stop rest)) (λ k. Some (k, from is_stop rest)) y e in
    let whole : b ≡ (text ++ before is_stop rest) ++ from is_stop rest = same ∙ ap (λ t. text ++ t) (parted is_stop rest) ∙ sym (append_assoc text (before is_stop rest) (from is_stop rest)) in
    subst (KeyIs (suc levels) b) (some_is (one.0, from is_stop rest) y one.2) (text ++ before is_stop rest, law (before is_stop rest) one.0 one.1, whole)

keyword_sound : (levels : ℕ) (w : List ℕ) (k : Key) → keyword_key w ≡ Some k → IsKey k (suc levels) (codes "KEYWORD " ++ w)
keyword_sound levels w k e =
    let tested = if_some (is_name w) (key.Keyword w) k e in
    worded k (Key-F.Keyword w) levels (codes "KEYWORD " ++ w) (rolls-Keyword w ∙ tested.1) (name_sound w tested.0, refl)

uid_sound : (levels : ℕ) (w : List ℕ) (k : Key) → uid_key w ≡ Some k → IsKey k (suc levels) (codes "UID " ++ w)
uid_sound levels w k e =
    let set = bind_some (set_of w) (λ set. Some (key.Uid set)) k e in
    worded k (Key-F.Uid set.0) levels (codes "UID " ++ w) (rolls-Uid set.0 ∙ some_is (key.Uid set.0) k set.2) (w, set_sound w set.0 set.1, refl)

larger_sound : (levels : ℕ) (w : List ℕ) (k : Key) → larger_key w ≡ Some k → IsKey k (suc levels) (codes "LARGER " ++ w)
larger_sound levels w k e =
    let n = bind_some (number_of (2 ^ 32) w) (λ n. Some (key.Larger n)) k e in
    let is = number_sound (2 ^ 32) w n.0 n.1 in
    worded k (Key-F.Larger n.0) levels (codes "LARGER " ++ w) (rolls-Larger n.0 ∙ some_is (key.Larger n.0) k n.2) (is.0, ap (λ t. codes "LARGER " ++ t) is.1)

valued_sound : (levels : ℕ) (b : List ℕ) (y : Key × List ℕ) → valued_key b ≡ Some y → KeyIs (suc levels) b y
unfolding valued_key
valued_sound levels b y e = by_keyword (after (codes "KEYWORD ") b) refl
  where
    by_larger : (r : Option (List ℕ)) → after (codes "KEYWORD ") b ≡ None → after (codes "UID ") b ≡ None → after (codes "LARGER ") b ≡ r → KeyIs (suc levels) b y
    by_larger (Some rest) one two is = at_word_sound levels (codes "LARGER ") b rest larger_key y (after_is (codes "LARGER ") b rest is) (sym (rw (one, two, is) refl) ∙ e) (larger_sound levels)
    by_larger None one two is = absurd (let none : None ≡ Some y = sym (rw (one, two, is) refl) ∙ e in cc)

    by_uid : (r : Option (List ℕ)) → after (codes "KEYWORD ") b ≡ None → after (codes "UID ") b ≡ r → KeyIs (suc levels) b y
    by_uid (Some rest) one is = at_word_sound levels (codes "UID ") b rest uid_key y (after_is (codes "UID ") b rest is) (sym (rw (one, is) refl) ∙ e) (uid_sound levels)
    by_uid None one is = by_larger (after (codes "LARGER ") b) one is refl

    by_keyword : (r : Option (List ℕ)) → after (codes "KEYWORD ") b ≡ r → KeyIs (suc levels) b y
    by_keyword (Some rest) is = at_word_sound levels (codes "KEYWORD ") b rest keyword_key y (after_is (codes "KEYWORD ") b rest is) (sym (rw is refl) ∙ e) (keyword_sound levels)
    by_keyword None is = by_uid (after (codes "UID ") b) is refl

word_sound : (levels : ℕ) (b : List ℕ) (y : Key × List ℕ) → word_key b ≡ Some y → KeyIs (suc levels) b y
unfolding word_key
word_sound levels b y e = by_plain (plain_key (before is_stop b)) refl
  where
    by_plain : (r : Option Key) → plain_key (before is_stop b) ≡ r → KeyIs (suc levels) b y
    by_plain (Some k) is = subst (KeyIs (suc levels) b) (some_is (k, from is_stop b) y (sym (rw is refl) ∙ e)) (before is_stop b, plain_sound levels (before is_stop b) k is, parted is_stop b)
    by_plain None is = valued_sound levels b y (sym (rw is refl) ∙ e)

-- HEADER behind its word
header_whole : (name text b c d e f rest : List ℕ) → b ≡ codes "HEADER " ++ c → c ≡ name ++ d → d ≡ codes " \"" ++ e → e ≡ text ++ f → f ≡ codes "\"" ++ rest
    → b ≡ (codes "HEADER " ++ name ++ codes " " ++ (codes "\"" ++ text ++ codes "\"")) ++ rest
header_whole name text b c d e f rest p q r s t =
    rw (p, q, r, s, t) (sym (append_assoc (codes "HEADER " ++ name ++ codes " ") (codes "\"" ++ text ++ codes "\"") rest
    ∙ append_assoc (codes "HEADER " ++ name) (codes " ") ((codes "\"" ++ text ++ codes "\"") ++ rest)
    ∙ append_assoc (codes "HEADER ") name (32 ∷ ((codes "\"" ++ text ++ codes "\"") ++ rest))
    ∙ ap (λ x. codes "HEADER " ++ (name ++ 32 ∷ x)) (append_assoc (codes "\"" ++ text) (codes "\"") rest ∙ append_assoc (codes "\"") text (34 ∷ rest))))

header_sound : (levels : ℕ) (b c : List ℕ) (y : Key × List ℕ) → b ≡ codes "HEADER " ++ c → header_key c ≡ Some y → KeyIs (suc levels) b y
unfolding header_key
header_sound levels b c y p e =
    let one = bind_some (cond (is_field_name (before is_stop c)) (Some (before is_stop c)) None) _ y e in
    let named = if_some (is_field_name (before is_stop c)) (before is_stop c) one.0 one.1 in
    after_then (codes " \"") (from is_stop c) _ y one.2 (λ d q e.
    let quoted = bind_some (cond (list_all is_quotable (before (is_byte 34) d)) (Some (before (is_byte 34) d)) None) _ y e in
    let tested = if_some (list_all is_quotable (before (is_byte 34) d)) (before (is_byte 34) d) quoted.0 quoted.1 in
    after_then (codes "\"") (from (is_byte 34) d) _ y quoted.2 (λ rest r e.
    let name = before is_stop c in
    let text = before (is_byte 34) d in
    let whole = header_whole name text b c (from is_stop c) d (from (is_byte 34) d) rest p (parted is_stop c) q (parted (is_byte 34) d) r in
    let quote = codes "\"" ++ text ++ codes "\"" in
    let k : Key = key.Header name text in
    let is : IsKey k (suc levels) (codes "HEADER " ++ name ++ codes " " ++ quote) = worded k (Key-F.Header name text) levels (codes "HEADER " ++ name ++ codes " " ++ quote) (rolls-Header name text)
    (field_sound name named.0, (quote, (AllPass-from_list_all is_quotable text tested.0, refl), refl)) in
    let same : (key.Header one.0 quoted.0, rest) ≡ y = some_is (key.Header one.0 quoted.0, rest) y e in
    subst (KeyIs (suc levels) b) (ap (λ n. (key.Header n text, rest)) named.1 ∙ ap (λ t. (key.Header one.0 t, rest)) tested.1 ∙ same) (codes "HEADER " ++ name ++ codes " " ++ quote, is, whole)))

-- ---- keys in keys

are_keys : (levels : ℕ) (keys : List Key) (ws : List (List ℕ)) → AllZip (λ k w. IsKey k levels w) keys ws → AreKeys keys levels ws
are_keys levels [] [] all = AreKeys.none
are_keys levels [] (w ∷ ws) all = absurd all
are_keys levels (k ∷ keys) [] all = absurd all
are_keys levels (k ∷ keys) (w ∷ ws) all = AreKeys.more all.0 (are_keys levels keys ws all.1)

-- one in parentheses, or several
within : (levels most : ℕ) (b c d rest : List ℕ) (keys : List Key) → b ≡ codes "(" ++ c → AreFronts (λ k w. IsKey k levels w) most c (keys, d) → d ≡ codes ")" ++ rest
    → KeyIs (suc levels) b (one_of keys, rest)
within levels most b c d rest keys p are q = by_keys keys are.words are.each are.some (p ∙ ap (λ t. codes "(" ++ t) (are.text ∙ ap (λ t. spaced are.words ++ t) q))
  where
    by_keys : (ks : List Key) (ws : List (List ℕ)) → AllZip (λ k w. IsKey k levels w) ks ws → 1 ≤ length ks → b ≡ codes "(" ++ (spaced ws ++ (codes ")" ++ rest)) → KeyIs (suc levels) b (one_of ks, rest)
    by_keys [] ws all some same = absurd (omega (arith, some))
    by_keys (k ∷ []) [] all some same = absurd all
    by_keys (k ∷ []) (w ∷ []) all some same = (codes "(" ++ w ++ codes ")", IsKey.within all.0 refl, same ∙ sym (append_assoc (codes "(" ++ w) (codes ")") rest))
    by_keys (k ∷ []) (w ∷ v ∷ ws) all some same = absurd all.1
    by_keys (k ∷ l ∷ ks) ws all some same =
        let keys = k ∷ l ∷ ks in
        (codes "(" ++ spaced ws ++ codes ")", IsKey.several (as_layer (key.And keys) (Key-F.And keys) (rolls-And keys)) (omega arith) (are_keys levels keys ws all) refl, same ∙ sym (append_assoc (codes "(" ++ spaced ws) (codes ")") rest))

negated : (levels : ℕ) (b c : List ℕ) (x : Key × List ℕ) → b ≡ codes "NOT " ++ c → KeyIs levels c x → KeyIs (suc levels) b (key.Not x.0, x.1)
negated levels b c x p is =
    (codes "NOT " ++ is.0, IsKey.negated (as_layer (key.Not x.0) (Key-F.Not x.0) (rolls-Not x.0)) is.1 refl, p ∙ ap (λ t. codes "NOT " ++ t) is.2 ∙ sym (append_assoc (codes "NOT ") is.0 x.1))

either : (levels : ℕ) (b c d : List ℕ) (x z : Key × List ℕ) → b ≡ codes "OR " ++ c → KeyIs levels c x → x.1 ≡ codes " " ++ d → KeyIs levels d z → KeyIs (suc levels) b (key.Or x.0 z.0, z.1)
either levels b c d x z p one space other =
    let text = codes "OR " ++ one.0 ++ codes " " ++ other.0 in
    let whole : b ≡ text ++ z.1 = p ∙ ap (λ t. codes "OR " ++ t) (one.2 ∙ ap (λ t. one.0 ++ t) (space ∙ ap (λ t. 32 ∷ t) other.2))
    ∙ sym (append_assoc (codes "OR " ++ one.0 ++ codes " ") other.0 z.1 ∙ append_assoc (codes "OR " ++ one.0) (codes " ") (other.0 ++ z.1) ∙ append_assoc (codes "OR ") one.0 (32 ∷ (other.0 ++ z.1))) in
    (text, IsKey.either (as_layer (key.Or x.0 z.0) (Key-F.Or x.0 z.0) (rolls-Or x.0 z.0)) one.1 other.1 refl, whole)

module _ (levels : ℕ) (inner : List ℕ → Option (Key × List ℕ)) (law : (b : List ℕ) (y : Key × List ℕ) → inner b ≡ Some y → KeyIs levels b y) (b : List ℕ) (y : Key × List ℕ) where
  parenthesis_sound : (rest : List ℕ) → b ≡ codes "(" ++ rest → (several inner (length rest) rest >>= λ keys. after (codes ")") keys.1 >>= λ behind. Some (one_of keys.0, behind)) ≡ Some y → KeyIs (suc levels) b y
  parenthesis_sound rest p e =
      let keys = bind_some (several inner (length rest) rest) (λ keys. after (codes ")") keys.1 >>= λ behind. Some (one_of keys.0, behind)) y e in
      let are = several_sound (λ k w. IsKey k levels w) inner law (length rest) rest keys.0 keys.1 in
      after_then (codes ")") keys.0.1 _ y keys.2 (λ behind q f. subst (KeyIs (suc levels) b) (some_is (one_of keys.0.0, behind) y f) (within levels (length rest) b rest keys.0.1 behind keys.0.0 p are q))

  not_sound : (rest : List ℕ) → b ≡ codes "NOT " ++ rest → (inner rest >>= λ inside. Some (key.Not inside.0, inside.1)) ≡ Some y → KeyIs (suc levels) b y
  not_sound rest p e =
      let one = bind_some (inner rest) (λ inside. Some (key.Not inside.0, inside.1)) y e in
      subst (KeyIs (suc levels) b) (some_is (key.Not one.0.0, one.0.1) y one.2) (negated levels b rest one.0 p (law rest one.0 one.1))

  or_sound : (rest : List ℕ) → b ≡ codes "OR " ++ rest → (inner rest >>= λ one. after (codes " ") one.1 >>= λ second. inner second >>= λ other. Some (key.Or one.0 other.0, other.1)) ≡ Some y → KeyIs (suc levels) b y
  or_sound rest p e =
      let one = bind_some (inner rest) (λ one. after (codes " ") one.1 >>= λ second. inner second >>= λ other. Some (key.Or one.0 other.0, other.1)) y e in
      after_then (codes " ") one.0.1 _ y one.2 (λ d space e.
      let other = bind_some (inner d) (λ other. Some (key.Or one.0.0 other.0, other.1)) y e in
      subst (KeyIs (suc levels) b) (some_is (key.Or one.0.0 other.0.0, other.0.1) y other.2) (either levels b rest d one.0 other.0 p (law rest one.0 one.1) space (law d other.0 other.1)))

  layer_sound : key_layer inner b ≡ Some y → KeyIs (suc levels) b y
  unfolding key_layer
  layer_sound e = by_parenthesis (after (codes "(") b) refl
    where
      by_header : (r : Option (List ℕ)) → after (codes "(") b ≡ None → after (codes "NOT ") b ≡ None → after (codes "OR ") b ≡ None → after (codes "HEADER ") b ≡ r → KeyIs (suc levels) b y
      by_header (Some rest) one two three is = header_sound levels b rest y (after_is (codes "HEADER ") b rest is) (sym (rw (one, two, three, is) refl) ∙ e)
      by_header None one two three is = word_sound levels b y (sym (rw (one, two, three, is) refl) ∙ e)

      by_or : (r : Option (List ℕ)) → after (codes "(") b ≡ None → after (codes "NOT ") b ≡ None → after (codes "OR ") b ≡ r → KeyIs (suc levels) b y
      by_or (Some rest) one two is = or_sound rest (after_is (codes "OR ") b rest is) (sym (rw (one, two, is) refl) ∙ e)
      by_or None one two is = by_header (after (codes "HEADER ") b) one two is refl

      by_not : (r : Option (List ℕ)) → after (codes "(") b ≡ None → after (codes "NOT ") b ≡ r → KeyIs (suc levels) b y
      by_not (Some rest) one is = not_sound rest (after_is (codes "NOT ") b rest is) (sym (rw (one, is) refl) ∙ e)
      by_not None one is = by_or (after (codes "OR ") b) one is refl

      by_parenthesis : (r : Option (List ℕ)) → after (codes "(") b ≡ r → KeyIs (suc levels) b y
      by_parenthesis (Some rest) is = parenthesis_sound rest (after_is (codes "(") b rest is) (sym (rw is refl) ∙ e)
      by_parenthesis None is = by_not (after (codes "NOT ") b) is refl

pub key_sound : (levels : ℕ) (b : List ℕ) (y : Key × List ℕ) → key_at levels b ≡ Some y → IsFront (λ k w. IsKey k levels w) b y
unfolding key_at
key_sound zero b y e = absurd cc
key_sound (suc levels) b y e = layer_sound levels (key_at levels) (key_sound levels) b y e

pub sought_sound : (by_uid : Bool) (b : List ℕ) (c : Command) → search_of by_uid b ≡ Some c → (k : Key) × AreSought k b × (c ≡ command.Search by_uid k)
unfolding search_of
sought_sound by_uid b c e =
    let keys = bind_some (several (key_at key_levels) (length b) b) (λ keys. ended keys.1 (command.Search by_uid (one_of keys.0))) c e in
    let are = several_sound (λ k w. IsKey k key_levels w) (key_at key_levels) (key_sound key_levels) (length b) b keys.0 keys.1 in
    by_end keys.0 are keys.2
  where
    by_keys : (ks : List Key) (ws : List (List ℕ)) → AllZip (λ k w. IsKey k key_levels w) ks ws → 1 ≤ length ks → b ≡ spaced ws → AreSought (one_of ks) b
    by_keys [] ws all some same = absurd (omega (arith, some))
    by_keys (k ∷ []) [] all some same = absurd all
    by_keys (k ∷ []) (w ∷ []) all some same = inl (subst (IsKey k key_levels) (sym same) all.0)
    by_keys (k ∷ []) (w ∷ v ∷ ws) all some same = absurd all.1
    by_keys (k ∷ l ∷ ks) ws all some same =
        let keys = k ∷ l ∷ ks in
        inr (keys, ws, as_layer (key.And keys) (Key-F.And keys) (rolls-And keys), omega arith, are_keys key_levels keys ws all, same)

    by_end : (x : List Key × List ℕ) → AreFronts (λ k w. IsKey k key_levels w) (length b) b x → ended x.1 (command.Search by_uid (one_of x.0)) ≡ Some c → (k : Key) × AreSought k b × (c ≡ command.Search by_uid k)
    by_end (ks, []) are f = (one_of ks, by_keys ks are.words are.each are.some (are.text ∙ append-nil (spaced are.words)), sym (some_is (command.Search by_uid (one_of ks)) c f))
    by_end (ks, n ∷ rest) are f = absurd cc

-- the whole text is one key
pub whole_key_sound : (b : List ℕ) (k : Key) → key_of b ≡ Some k → IsKey k key_levels b
whole_key_sound b k e =
    let read = bind_some (key_at key_levels b) (λ found. ended found.1 found.0) k e in
    by_end read.0 (key_sound key_levels b read.0 read.1) read.2
  where
    by_end : (x : Key × List ℕ) → KeyIs key_levels b x → ended x.1 x.0 ≡ Some k → IsKey k key_levels b
    by_end (found, []) is f =
        let same : b ≡ is.0 = is.2 ∙ append-nil is.0 in
        subst (λ (key : Key). IsKey key key_levels b) (some_is found k f) (subst (IsKey found key_levels) (sym same) is.1)
    by_end (found, n ∷ rest) is f = absurd cc
