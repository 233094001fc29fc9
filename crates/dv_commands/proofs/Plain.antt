-- The texts of commands have no control byte.
use Rattle.std.proofs.Common.{◌≡◌, inl, inr, ℕ, ◌^◌, ◌<◌, ◌≤◌, Bool, true, false, cond, ◌&&◌, List, [], ◌∷◌, ◌++◌, All, Option, Some, None, codes, refl, sym, ◌∙◌, ap, subst, arith, nat_eq, nat_le}
use Rattle.std.specs.List.{AllZip, list_all}
use Rattle.std.specs.Fmt.{decimal}
use Rattle.std.specs.Str.{bytes_eq}
use Rattle.std.proofs.lemmas.Bool.{le-leb, leb-true, and_parts}
use Rattle.std.proofs.lemmas.Bool.Decides.{nat_tests}
use Rattle.std.proofs.lemmas.List.Elements.{All-head, All-tail}
use Rattle.std.proofs.lemmas.List.Folds.{list_all-append}
use Rattle.std.proofs.lemmas.Slice.Eq.{bytes_eq-Decides}
use Rattle.dv_model.specs.declared.types.Command.{Command}
use Rattle.dv_model.specs.declared.types.Command.TheVariants as command
use Rattle.dv_model.specs.declared.types.End.{End}
use Rattle.dv_model.specs.declared.types.End.TheVariants.{Number, Star}
use Rattle.dv_model.specs.declared.types.How.{How}
use Rattle.dv_model.specs.declared.types.How.TheVariants.{Add, Remove, Replace}
use Rattle.dv_model.specs.declared.types.Item.{Item}
use Rattle.dv_model.specs.declared.types.Item.TheVariants as item
use Rattle.dv_model.specs.declared.types.Key.{Key, out-Key}
use Rattle.dv_model.specs.declared.types.Key.TheOpen.{Key-F}
use Rattle.dv_model.specs.declared.types.Span.{Span}
use Rattle.dv_model.specs.Names.{IsName, IsNameByte}
use Rattle.dv_model.specs.Texts.{spaced}
use Rattle.dv_formats.specs.Scripts.{AreFlags, AreKeys, AreSought, IsAppendStart, IsCommand, IsEnd, IsFieldName, IsFlag, IsItem, IsKey, IsModifier, IsSet, IsSpan, IsWord, flag_bit, how_text, is_field_byte, is_quotable, joined, uid_text}
use Rattle.dv_commands.proofs.KeyWords.{flag_word}
use Rattle.dv_commands.proofs.Words.{digits_are}

-- each byte is a space or above it
abbrev pub plain : List ℕ → Bool
plain b = list_all (nat_le 32) b

pub and_plain : (v w : List ℕ) → plain v ≡ true → plain w ≡ true → plain (v ++ w) ≡ true
and_plain v w p q = list_all-append (nat_le 32) v w ∙ rw (p, q) refl

pub all_plain : (P : ℕ → Type 0) → ((b : ℕ) → P b → 32 ≤ b) → (w : List ℕ) → All P w → plain w ≡ true
all_plain P each [] all = refl
all_plain P each (x ∷ w) all = rw (le-leb 32 x (each x (All-head P x w all)), all_plain P each w (All-tail P x w all)) refl

as_text : (b text : List ℕ) → b ≡ text → plain text ≡ true → plain b ≡ true
as_text b text same is = ap plain same ∙ is

pub number_plain : (n : ℕ) → n < 2 ^ 64 → plain (decimal n) ≡ true
number_plain n small = all_plain (λ b. (48 ≤ b) × (b ≤ 57)) (λ b is. omega (arith, is)) (decimal n) (digits_are n small)

end_plain : (end : End) (b : List ℕ) → IsEnd end b → plain b ≡ true
end_plain (Number n) b is = as_text b (decimal n) is.2 (number_plain n (omega (arith, is.1)))
end_plain Star b is = as_text b (codes "*") is refl

span_plain : (span : Span) (b : List ℕ) → IsSpan span b → plain b ≡ true
span_plain span b (inl w) = as_text b (w.from ++ codes ":" ++ w.to) w.text (and_plain (w.from ++ codes ":") w.to (and_plain w.from (codes ":") (end_plain span.from w.from w.ends.0) refl) (end_plain span.to w.to w.ends.1))
span_plain span b (inr s) = end_plain span.from b s.1

joined_plain : (set : List Span) (texts : List (List ℕ)) → AllZip IsSpan set texts → plain (joined (codes ",") texts) ≡ true
joined_plain [] [] all = refl
joined_plain [] (t ∷ ts) all = absurd all
joined_plain (s ∷ set) [] all = absurd all
joined_plain (s ∷ []) (t ∷ []) all = span_plain s t all.0
joined_plain (s ∷ []) (t ∷ u ∷ ts) all = absurd all.1
joined_plain (s ∷ r ∷ set) (t ∷ []) all = absurd all.1
joined_plain (s ∷ r ∷ set) (t ∷ u ∷ ts) all = and_plain (t ++ codes ",") (joined (codes ",") (u ∷ ts)) (and_plain t (codes ",") (span_plain s t all.0) refl) (joined_plain (r ∷ set) (u ∷ ts) all.1)

set_plain : (set : List Span) (b : List ℕ) → IsSet set b → plain b ≡ true
set_plain set b is = as_text b (joined (codes ",") is.spans) is.text (joined_plain set is.spans is.each)

name_plain : (name : List ℕ) → IsName name → plain name ≡ true
name_plain name is = all_plain IsNameByte (λ b byte. omega (arith, byte.printable)) name is.bytes

field_byte : (b : ℕ) → is_field_byte b ≡ true → 32 ≤ b
field_byte b is = grind (arith, nat_tests)

field_plain : (name : List ℕ) → IsFieldName name → plain name ≡ true
field_plain name is = all_plain (λ n. is_field_byte n ≡ true) field_byte name is.bytes

quotable : (b : ℕ) → is_quotable b ≡ true → 32 ≤ b
quotable b is = leb-true 32 b (and_parts (nat_le 0x20 b) (nat_le b 0x7e) (and_parts (nat_le 0x20 b && nat_le b 0x7e) (cond (nat_eq b 0x22) false (cond (nat_eq b 0x5c) false true)) is).0).0

-- ---- flags

-- a system flag is one of five words
pub system_word : (word : List ℕ) (bit : ℕ) → flag_bit word ≡ Some bit → (P : List ℕ → Type 0) → P (codes "\\Answered") → P (codes "\\Flagged") → P (codes "\\Deleted") → P (codes "\\Seen") → P (codes "\\Draft") → P word
system_word word bit e P one two four eight sixteen = by_one (bytes_eq word (codes "\\Answered")) refl e
  where
    is : (text : List ℕ) → bytes_eq word text ≡ true → P text → P word
    is text same p = subst P (sym ((bytes_eq-Decides word text).0 same)) p

    by_sixteen : (t : Bool) → bytes_eq word (codes "\\Draft") ≡ t → cond t (Some 16) None ≡ Some bit → P word
    by_sixteen true same f = is (codes "\\Draft") same sixteen
    by_sixteen false same f = absurd cc

    by_eight : (t : Bool) → bytes_eq word (codes "\\Seen") ≡ t → cond t (Some 8) (cond (bytes_eq word (codes "\\Draft")) (Some 16) None) ≡ Some bit → P word
    by_eight true same f = is (codes "\\Seen") same eight
    by_eight false same f = by_sixteen (bytes_eq word (codes "\\Draft")) refl f

    by_four : (t : Bool) → bytes_eq word (codes "\\Deleted") ≡ t → cond t (Some 4) (cond (bytes_eq word (codes "\\Seen")) (Some 8) (cond (bytes_eq word (codes "\\Draft")) (Some 16) None)) ≡ Some bit → P word
    by_four true same f = is (codes "\\Deleted") same four
    by_four false same f = by_eight (bytes_eq word (codes "\\Seen")) refl f

    by_two : (t : Bool) → bytes_eq word (codes "\\Flagged") ≡ t → cond t (Some 2) (cond (bytes_eq word (codes "\\Deleted")) (Some 4) (cond (bytes_eq word (codes "\\Seen")) (Some 8) (cond (bytes_eq word (codes "\\Draft")) (Some 16) None))) ≡ Some bit → P word
    by_two true same f = is (codes "\\Flagged") same two
    by_two false same f = by_four (bytes_eq word (codes "\\Deleted")) refl f

    by_one : (t : Bool) → bytes_eq word (codes "\\Answered") ≡ t → cond t (Some 1) (cond (bytes_eq word (codes "\\Flagged")) (Some 2) (cond (bytes_eq word (codes "\\Deleted")) (Some 4) (cond (bytes_eq word (codes "\\Seen")) (Some 8) (cond (bytes_eq word (codes "\\Draft")) (Some 16) None)))) ≡ Some bit → P word
    by_one true same f = is (codes "\\Answered") same one
    by_one false same f = by_two (bytes_eq word (codes "\\Flagged")) refl f

flag_plain : (word : List ℕ) → IsFlag word → plain word ≡ true
flag_plain word (inl (bit, e)) = system_word word bit e (λ w. plain w ≡ true) refl refl refl refl refl
flag_plain word (inr name) = name_plain word name

pub spaced_plain : (P : List ℕ → Type 0) → ((w : List ℕ) → P w → plain w ≡ true) → (words : List (List ℕ)) → All P words → plain (spaced words) ≡ true
spaced_plain P each [] all = refl
spaced_plain P each (w ∷ []) all = each w (All-head P w [] all)
spaced_plain P each (w ∷ v ∷ ws) all = and_plain w (32 ∷ spaced (v ∷ ws)) (each w (All-head P w (v ∷ ws) all)) (spaced_plain P each (v ∷ ws) (All-tail P w (v ∷ ws) all))

flags_plain : (flags : ℕ) (keywords : List (List ℕ)) (b : List ℕ) → AreFlags flags keywords b → plain b ≡ true
flags_plain flags keywords b is = as_text b (codes "(" ++ spaced is.words ++ codes ")") is.text (and_plain (codes "(" ++ spaced is.words) (codes ")") (spaced_plain IsFlag flag_plain is.words is.each) refl)

-- ---- items

item_plain : (one : Item) (b : List ℕ) → IsItem one b → plain b ≡ true
item_plain item.Flags b is = as_text b (codes "FLAGS") is refl
item_plain item.Size b is = as_text b (codes "RFC822.SIZE") is refl
item_plain item.Body b is = as_text b (codes "BODY[]") is refl
item_plain (item.Field name) b is = as_text b (codes "FIELD " ++ name) is.1 (field_plain name is.0)
item_plain item.Modseq b is = as_text b (codes "MODSEQ") is refl

items_plain : (items : List Item) (words : List (List ℕ)) → AllZip IsItem items words → plain (spaced words) ≡ true
items_plain [] [] all = refl
items_plain [] (w ∷ ws) all = absurd all
items_plain (x ∷ xs) [] all = absurd all
items_plain (x ∷ []) (w ∷ []) all = item_plain x w all.0
items_plain (x ∷ []) (w ∷ v ∷ ws) all = absurd all.1
items_plain (x ∷ y ∷ xs) (w ∷ []) all = absurd all.1
items_plain (x ∷ y ∷ xs) (w ∷ v ∷ ws) all = and_plain w (32 ∷ spaced (v ∷ ws)) (item_plain x w all.0) (items_plain (y ∷ xs) (v ∷ ws) all.1)

-- ---- keys

word_plain : (layer : Key-F Key) (b : List ℕ) → IsWord layer b → plain b ≡ true
word_plain Key-F.All b is = as_text b (codes "ALL") is refl
word_plain (Key-F.Has n) b is = as_text b is.0 is.2 (flag_word n is.0 is.1 (λ m w. plain w ≡ true) refl refl refl refl refl)
word_plain (Key-F.Lacks n) b is = as_text b (codes "UN" ++ is.0) is.2 (flag_word n is.0 is.1 (λ m w. plain w ≡ true) refl refl refl refl refl)
word_plain (Key-F.Keyword name) b is = as_text b (codes "KEYWORD " ++ name) is.1 (name_plain name is.0)
word_plain (Key-F.Uid set) b is = as_text b (codes "UID " ++ is.0) is.2 (set_plain set is.0 is.1)
word_plain (Key-F.Larger n) b is = as_text b (codes "LARGER " ++ decimal n) is.1 (number_plain n (omega (arith, is.0)))
word_plain (Key-F.Header name text) b is =
    let inner = all_plain (λ n. is_quotable n ≡ true) quotable text is.1.1.0 in
    let quoted : plain is.1.0 ≡ true = as_text is.1.0 (codes "\"" ++ text ++ codes "\"") is.1.1.1 (and_plain (codes "\"" ++ text) (codes "\"") inner refl) in
    as_text b (codes "HEADER " ++ name ++ codes " " ++ is.1.0) is.1.2 (and_plain (codes "HEADER " ++ name ++ codes " ") is.1.0 (and_plain (codes "HEADER " ++ name) (codes " ") (field_plain name is.0) refl) quoted)
word_plain (Key-F.Not k) b is = absurd is
word_plain (Key-F.Or k l) b is = absurd is
word_plain (Key-F.And ks) b is = absurd is

mutual
  key_plain : (k : Key) (levels : ℕ) (b : List ℕ) → IsKey k levels b → plain b ≡ true
  key_plain k _ b (IsKey.word is) = word_plain (out-Key k) b is
  key_plain k _ b (IsKey.negated {inner = inside} {levels = levels} {text = text} is inner same) = as_text b (codes "NOT " ++ text) same (key_plain inside levels text inner)
  key_plain k _ b (IsKey.either {one = one} {other = other} {levels = levels} {first = first} {second = second} is left right same) =
      as_text b (codes "OR " ++ first ++ codes " " ++ second) same (and_plain (codes "OR " ++ first ++ codes " ") second (and_plain (codes "OR " ++ first) (codes " ") (key_plain one levels first left) refl) (key_plain other levels second right))
  key_plain k _ b (IsKey.several {keys = keys} {levels = levels} {texts = texts} is some each same) =
      as_text b (codes "(" ++ spaced texts ++ codes ")") same (and_plain (codes "(" ++ spaced texts) (codes ")") (keys_plain keys levels texts each) refl)
  key_plain k _ b (IsKey.within {levels = levels} {text = text} inner same) = as_text b (codes "(" ++ text ++ codes ")") same (and_plain (codes "(" ++ text) (codes ")") (key_plain k levels text inner) refl)

  keys_plain : (keys : List Key) (levels : ℕ) (texts : List (List ℕ)) → AreKeys keys levels texts → plain (spaced texts) ≡ true
  keys_plain _ levels _ AreKeys.none = refl
  keys_plain _ levels _ (AreKeys.more {key = k} {keys = keys} {text = text} {texts = texts} is others) = behind text texts (key_plain k levels text is) (keys_plain keys levels texts others)
    where
      behind : (w : List ℕ) (ws : List (List ℕ)) → plain w ≡ true → plain (spaced ws) ≡ true → plain (spaced (w ∷ ws)) ≡ true
      behind w [] p q = p
      behind w (v ∷ ws) p q = and_plain w (32 ∷ spaced (v ∷ ws)) p q

-- ---- commands

uid_plain : (by_uid : Bool) → plain (uid_text by_uid) ≡ true
uid_plain true = refl
uid_plain false = refl

how_plain : (how : How) → plain (how_text how) ≡ true
how_plain Add = refl
how_plain Remove = refl
how_plain Replace = refl

modifier_plain : (since : Option ℕ) (b : List ℕ) → IsModifier since b → plain b ≡ true
modifier_plain None b is = as_text b [] is refl
modifier_plain (Some n) b is = as_text b (codes "(UNCHANGEDSINCE " ++ decimal n ++ codes ") ") is.1 (and_plain (codes "(UNCHANGEDSINCE " ++ decimal n) (codes ") ") (number_plain n (omega (arith, is.0))) refl)

pub command_plain : (c : Command) (b : List ℕ) → IsCommand c b → plain b ≡ true
command_plain command.Select b is = as_text b (codes "SELECT") is refl
command_plain command.Noop b is = as_text b (codes "NOOP") is refl
command_plain command.Check b is = as_text b (codes "CHECK") is refl
command_plain command.Expunge b is = as_text b (codes "EXPUNGE") is refl
command_plain (command.Append flags keywords message) b is = absurd is
command_plain (command.Fetch by_uid set items) b is =
    let front = and_plain (uid_text by_uid) (codes "FETCH ") (uid_plain by_uid) refl in
    let named = and_plain (uid_text by_uid ++ codes "FETCH ") is.set_text front (set_plain set is.set_text is.named) in
    let space = and_plain (uid_text by_uid ++ codes "FETCH " ++ is.set_text) (codes " ") named refl in
    let asked = as_text is.items_text (codes "(" ++ spaced is.asked.words ++ codes ")") is.asked.text (and_plain (codes "(" ++ spaced is.asked.words) (codes ")") (items_plain items is.asked.words is.asked.each) refl) in
    as_text b (uid_text by_uid ++ codes "FETCH " ++ is.set_text ++ codes " " ++ is.items_text) is.text (and_plain (uid_text by_uid ++ codes "FETCH " ++ is.set_text ++ codes " ") is.items_text space asked)
command_plain (command.Store by_uid set how flags keywords since) b is =
    let a = uid_text by_uid ++ codes "STORE " in
    let front = and_plain (uid_text by_uid) (codes "STORE ") (uid_plain by_uid) refl in
    let named = and_plain a is.set_text front (set_plain set is.set_text is.named) in
    let space = and_plain (a ++ is.set_text) (codes " ") named refl in
    let since_is = and_plain (a ++ is.set_text ++ codes " ") is.modifier space (modifier_plain since is.modifier is.unchanged) in
    let how_is = and_plain (a ++ is.set_text ++ codes " " ++ is.modifier) (how_text how) since_is (how_plain how) in
    let last = and_plain (a ++ is.set_text ++ codes " " ++ is.modifier ++ how_text how) (codes " ") how_is refl in
    as_text b (a ++ is.set_text ++ codes " " ++ is.modifier ++ how_text how ++ codes " " ++ is.flags_text) is.text (and_plain (a ++ is.set_text ++ codes " " ++ is.modifier ++ how_text how ++ codes " ") is.flags_text last (flags_plain flags keywords is.flags_text is.stored))
command_plain (command.Search by_uid k) b is =
    let front = and_plain (uid_text by_uid) (codes "SEARCH ") (uid_plain by_uid) refl in
    as_text b (uid_text by_uid ++ codes "SEARCH " ++ is.0) is.2 (and_plain (uid_text by_uid ++ codes "SEARCH ") is.0 front (sought_plain k is.0 is.1))
  where
    sought_plain : (x : Key) (t : List ℕ) → AreSought x t → plain t ≡ true
    sought_plain x t (inl one) = key_plain x _ t one
    sought_plain x t (inr several) = as_text t (spaced several.1) several.5 (keys_plain several.0 _ several.1 several.4)
command_plain (command.UidRemove set) b is = as_text b (codes "UID REMOVE " ++ is.0) is.2 (set_plain set is.0 is.1)

pub append_plain : (flags : ℕ) (keywords : List (List ℕ)) (size : ℕ) (b : List ℕ) → IsAppendStart flags keywords size b → plain b ≡ true
append_plain flags keywords size b is =
    let list = flags_plain flags keywords is.flags_text is.stored in
    let behind = and_plain (codes "APPEND " ++ is.flags_text) (codes " {") list refl in
    let number = and_plain (codes "APPEND " ++ is.flags_text ++ codes " {") (decimal size) behind (number_plain size (omega (arith, is.below))) in
    as_text b (codes "APPEND " ++ is.flags_text ++ codes " {" ++ decimal size ++ codes "}") is.text (and_plain (codes "APPEND " ++ is.flags_text ++ codes " {" ++ decimal size) (codes "}") number refl)
