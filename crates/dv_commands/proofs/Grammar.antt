-- Sets, flags and names: read by definition as the grammar says.
use Rattle.std.proofs.Common.{◌≡◌, ◌↔◌, IsTrue, inl, inr, ℕ, ◌^◌, ◌<◌, ◌≤◌, Bool, true, false, cond, ◌&&◌, List, [], ◌∷◌, ◌++◌, length, All, fold, Option, Some, None, Result, Ok, Err, IfOk, codes, refl, sym, ◌∙◌, ap, subst, arith, nat_eq, nat_le}
use Rattle.std.specs.List.{AllZip, list_all, list_any}
use Rattle.std.specs.Fmt.{decimal}
use Rattle.std.specs.Str.{bytes_eq}
use Rattle.std.proofs.lemmas.Bool.{eqb-true, false≢true, ne_eqb, eq-eqb, leb-true, le-leb, and_parts}
use Rattle.std.proofs.lemmas.Bool.Decides.{nat_tests}
use Rattle.std.proofs.lemmas.List.Folds.{list_any_at}
use Rattle.std.proofs.lemmas.Map.Views.{Contains-from_any}
use Rattle.std.proofs.lemmas.List.Elements.{All-head, All-tail, All-cons, All-nil}
use Rattle.std.proofs.lemmas.Slice.Eq.{bytes_eq-Decides}
use Rattle.dv_model.specs.declared.types.End.{End}
use Rattle.dv_model.specs.declared.types.End.TheVariants.{Number, Star}
use Rattle.dv_model.specs.declared.types.Span.{Span}
use Rattle.dv_model.specs.Names.{IsName, IsNameByte}
use Rattle.dv_model.specs.Texts.{spaced}
use Rattle.dv_formats.specs.Scripts.{AreFlags, IsEnd, IsFlag, IsSet, IsSpan, IsWide, flag_bit, joined, with_flag}
use Rattle.dv_formats.specs.Parsing.{◌>>=◌, after, ahead_of, each_of, end_of, flag_words_of, flags_named, flags_of, is_flag, is_name, is_name_byte, number_of, set_of, span_by, span_of}
use Rattle.dv_sets.specs.Answers.{OnBad}
use Rattle.dv_sets.specs.declared.end.ParseEnd.{ParseEnd}
use Rattle.dv_sets.specs.declared.end.ParseEnd.TheVariants.{Bad, NoMemory}
use Rattle.dv_sets.proofs.EndTexts.{end_is_one}
use Rattle.dv_sets.proofs.Pieces.{joined_split, only_piece, some_piece, split}
use Rattle.dv_sets.proofs.Reading.{SpanPieces, set_each, span_pieces}
use Rattle.dv_sets.proofs.Words.{spaced_joined, words_in, words_of}
use Rattle.dv_commands.specs.Reads.{Gives}
use Rattle.dv_commands.proofs.Base.{after_again, after_is, ahead_again, ahead_is, bind_some, if_some, some_is}
use Rattle.dv_commands.proofs.Numbers.{number_complete, number_sound}

-- ---- ends

end_sound : (b : List ℕ) (end : End) → end_of b ≡ Some end → IsEnd end b
unfolding end_of
end_sound b end e = by_star (bytes_eq b (codes "*")) refl e
  where
    by_zero : (n : ℕ) (t : Bool) → nat_eq n 0 ≡ t → (n < 2 ^ 32) × (b ≡ decimal n)
        → cond t None (Some (Number n)) ≡ Some end → IsEnd end b
    by_zero n true same is f = absurd cc
    by_zero n false same is f = subst (λ x. IsEnd x b) (some_is (Number n) end f) (grind (arith, nat_tests), is.0, is.1)

    by_star : (t : Bool) → bytes_eq b (codes "*") ≡ t
        → cond t (Some Star) (number_of (2 ^ 32) b >>= λ n. cond (nat_eq n 0) None (Some (Number n))) ≡ Some end
        → IsEnd end b
    by_star true same f = subst (λ x. IsEnd x b) (some_is Star end f) ((bytes_eq-Decides b (codes "*")).0 same)
    by_star false same f =
        let n = bind_some (number_of (2 ^ 32) b) (λ n. cond (nat_eq n 0) None (Some (Number n))) end f in
        by_zero n.0 (nat_eq n.0 0) refl (number_sound (2 ^ 32) b n.0 n.1) n.2

end_complete : (b : List ℕ) (end : End) → IsEnd end b → end_of b ≡ Some end
unfolding end_of
end_complete b Star is = rw is refl
end_complete b (Number n) is = by_star (bytes_eq b (codes "*")) refl
  where
    positive : (m : ℕ) → 1 ≤ m → nat_eq m 0 ≡ false
    positive m some = ne_eqb m 0 (λ same. omega (arith, some, same))

    by_star : (t : Bool) → bytes_eq b (codes "*") ≡ t
        → cond t (Some Star) (number_of (2 ^ 32) b >>= λ m. cond (nat_eq m 0) None (Some (Number m))) ≡ Some (Number n)
    by_star true same = let one = end_is_one Star (Number n) b ((bytes_eq-Decides b (codes "*")).0 same) is in absurd cc
    by_star false same = rw (number_complete (2 ^ 32) b n (omega arith) is.1 is.2, positive n is.0) refl

-- ---- ranges

span_in : (ps : List (List ℕ)) (span : Span) → SpanPieces span ps → span_by ps ≡ Some span
span_in [] span is = absurd is
span_in (x ∷ []) span is = rw (end_complete x span.from is.1) (ap (λ to. Some (record { from = span.from; to = to })) is.0)
span_in (x ∷ y ∷ []) span is = rw (end_complete x span.from is.0, end_complete y span.to is.1) refl
span_in (x ∷ y ∷ z ∷ zs) span is = absurd is

span_complete : (b : List ℕ) (span : Span) → IsSpan span b → span_of b ≡ Some span
span_complete b span is = span_in (split 58 b) span (span_pieces span b is)

span_sound : (b : List ℕ) (span : Span) → span_of b ≡ Some span → IsSpan span b
span_sound b span e = by_pieces (split 58 b) refl e
  where
    by_pieces : (ps : List (List ℕ)) → split 58 b ≡ ps → span_by ps ≡ Some span → IsSpan span b
    by_pieces [] same f = absurd cc
    by_pieces (x ∷ []) same f =
        let end = bind_some (end_of x) (λ end. Some (record { from = end; to = end })) span f in
        let is : IsEnd end.0 b = subst (IsEnd end.0) (only_piece 58 b x same) (end_sound x end.0 end.1) in
        subst (λ s. IsSpan s b) (some_is (record { from = end.0; to = end.0 }) span end.2) (inr (refl, is))
    by_pieces (x ∷ y ∷ []) same f =
        let from = bind_some (end_of x) (λ end. end_of y >>= λ to. Some (record { from = end; to = to })) span f in
        let to = bind_some (end_of y) (λ to. Some (record { from = from.0; to = to })) span from.2 in
        let text : b ≡ x ++ codes ":" ++ y = sym (joined_split 58 b) ∙ ap (joined (58 ∷ [])) same in
        let wide : IsWide (record { from = from.0; to = to.0 }) b = record { from = x; to = y; ends = (end_sound x from.0 from.1, end_sound y to.0 to.1); text = text } in
        subst (λ s. IsSpan s b) (some_is (record { from = from.0; to = to.0 }) span to.2) (inl wide)
    by_pieces (x ∷ y ∷ z ∷ zs) same f = absurd cc

-- ---- sets

each_complete : (set : List Span) (ps : List (List ℕ)) → AllZip IsSpan set ps → each_of span_of ps ≡ Some set
each_complete [] [] all = refl
each_complete [] (p ∷ ps) all = absurd all
each_complete (s ∷ set) [] all = absurd all
each_complete (s ∷ set) (p ∷ ps) all = rw (span_complete p s all.0, each_complete set ps all.1) refl

each_sound : (ps : List (List ℕ)) (set : List Span) → each_of span_of ps ≡ Some set → AllZip IsSpan set ps
each_sound [] set e = subst (λ s. AllZip IsSpan s []) (some_is [] set e) tt
each_sound (p ∷ ps) set e =
    let one = bind_some (span_of p) (λ y. each_of span_of ps >>= λ ys. Some (y ∷ ys)) set e in
    let others = bind_some (each_of span_of ps) (λ ys. Some (one.0 ∷ ys)) set one.2 in
    subst (λ s. AllZip IsSpan s (p ∷ ps)) (some_is (one.0 ∷ others.0) set others.2) (span_sound p one.0 one.1, each_sound ps others.0 others.1)

pub set_complete : (b : List ℕ) (set : List Span) → IsSet set b → set_of b ≡ Some set
unfolding set_of
set_complete b set is = each_complete set (split 44 b) (set_each set b is)

pub set_sound : (b : List ℕ) (set : List Span) → set_of b ≡ Some set → IsSet set b
unfolding set_of
set_sound b set e =
    let each = each_sound (split 44 b) set e in
    record { some = some_spans set (split 44 b) each (some_piece 44 b); spans = split 44 b; each = each; text = sym (joined_split 44 b) }
  where
    some_spans : (s : List Span) (ps : List (List ℕ)) → AllZip IsSpan s ps → (ps ≡ [] → ⊥) → 1 ≤ length s
    some_spans [] [] all none = absurd (none refl)
    some_spans [] (p ∷ ps) all none = absurd all
    some_spans (x ∷ s) ps all none = omega arith

-- what is answered of a set is what is read
pub set_gives : (b : List ℕ) (r : Result (List Span) ParseEnd) → IfOk r (λ set. IsSet set b)
    → OnBad r ((set : List Span) → IsSet set b → ⊥) → Gives (λ set. set) r (set_of b)
set_gives b (Ok set) found bad = set_complete b set found
set_gives b (Err NoMemory) found bad = tt
set_gives b (Err Bad) found bad = by_case (set_of b) refl
  where
    by_case : (r : Option (List Span)) → set_of b ≡ r → r ≡ None
    by_case None e = refl
    by_case (Some set) e = absurd (bad set (set_sound b set e))

-- ---- names

name_byte_sound : (n : ℕ) → is_name_byte n ≡ true → IsNameByte n
name_byte_sound n e =
    let all = and_parts (nat_le 0x21 n && nat_le n 0x7e) (cond (list_any (nat_eq n) (codes "(){\"\\%*")) false true) e in
    let bounds = and_parts (nat_le 0x21 n) (nat_le n 0x7e) all.0 in
    record {
      printable = (leb-true 0x21 n bounds.0, leb-true n 0x7e bounds.1);
      plain = λ is. not_both (list_any (nat_eq n) (codes "(){\"\\%*")) (list_any_at (nat_eq n) (codes "(){\"\\%*") is.0 n is.1 (eq-eqb n _ (sym is.2))) all.1;
    }
  where
    not_both : (t : Bool) → t ≡ true → cond t false true ≡ true → ⊥
    not_both true e f = cc
    not_both false e f = cc

name_byte_complete : (n : ℕ) → IsNameByte n → is_name_byte n ≡ true
name_byte_complete n is = by_test (list_any (nat_eq n) (codes "(){\"\\%*")) refl
  where
    by_test : (t : Bool) → list_any (nat_eq n) (codes "(){\"\\%*") ≡ t
        → (nat_le 0x21 n && nat_le n 0x7e && cond t false true) ≡ true
    by_test true e = absurd (is.plain (Contains-from_any {eq = nat_eq} (λ x y same. eqb-true x y same) n (codes "(){\"\\%*") e))
    by_test false e = rw (le-leb 0x21 n is.printable.0, le-leb n 0x7e is.printable.1) refl

all_sound : (p : ℕ → Bool) (P : ℕ → Type 0) → ((n : ℕ) → p n ≡ true → P n) → (xs : List ℕ) → list_all p xs ≡ true → All P xs
all_sound p P each [] e = All-nil P
all_sound p P each (x ∷ xs) e = let is = and_parts (p x) (list_all p xs) e in All-cons P x xs (each x is.0) (all_sound p P each xs is.1)

all_complete : (p : ℕ → Bool) (P : ℕ → Type 0) → ((n : ℕ) → P n → p n ≡ true) → (xs : List ℕ) → All P xs → list_all p xs ≡ true
all_complete p P each [] all = refl
all_complete p P each (x ∷ xs) all = rw (each x (All-head P x xs all), all_complete p P each xs (All-tail P x xs all)) refl

pub name_sound : (name : List ℕ) → is_name name ≡ true → IsName name
unfolding is_name
name_sound name e =
    let all = and_parts (nat_le 1 (length name) && nat_le (length name) 255) (list_all is_name_byte name) e in
    let bounds = and_parts (nat_le 1 (length name)) (nat_le (length name) 255) all.0 in
    record { size = (leb-true 1 (length name) bounds.0, leb-true (length name) 255 bounds.1); bytes = all_sound is_name_byte IsNameByte name_byte_sound name all.1 }

pub name_complete : (name : List ℕ) → IsName name → is_name name ≡ true
unfolding is_name
name_complete name is = rw (le-leb 1 (length name) is.size.0, le-leb (length name) 255 is.size.1, all_complete is_name_byte IsNameByte name_byte_complete name is.bytes) refl

pub name_test : (t : Bool) (name : List ℕ) → (IsTrue t ↔ IsName name) → is_name name ≡ t
name_test true name is = name_complete name (is.0 refl)
name_test false name is = by_case (is_name name) refl
  where
    by_case : (t : Bool) → is_name name ≡ t → t ≡ false
    by_case true e = let no = is.1 (name_sound name e) in absurd (false≢true no)
    by_case false e = refl

-- ---- flags

flag_sound : (word : List ℕ) → is_flag word ≡ true → IsFlag word
flag_sound word e = by_bit (flag_bit word) refl e
  where
    by_bit : (r : Option ℕ) → flag_bit word ≡ r → is_flag word ≡ true → IsFlag word
    by_bit (Some n) is f = inl (n, is)
    by_bit None is f = inr (name_sound word (sym (rw is refl) ∙ f))

flag_complete : (word : List ℕ) → IsFlag word → is_flag word ≡ true
flag_complete word (inl (n, is)) = rw is refl
flag_complete word (inr is) = by_bit (flag_bit word) refl
  where
    by_bit : (r : Option ℕ) → flag_bit word ≡ r → is_flag word ≡ true
    by_bit (Some n) same = rw same refl
    by_bit None same = rw same (name_complete word is)

flags_all : (words : List (List ℕ)) → list_all is_flag words ≡ true → All IsFlag words
flags_all [] e = All-nil IsFlag
flags_all (w ∷ ws) e = let is = and_parts (is_flag w) (list_all is_flag ws) e in All-cons IsFlag w ws (flag_sound w is.0) (flags_all ws is.1)

all_flags : (words : List (List ℕ)) → All IsFlag words → list_all is_flag words ≡ true
all_flags [] all = refl
all_flags (w ∷ ws) all = rw (flag_complete w (All-head IsFlag w ws all), all_flags ws (All-tail IsFlag w ws all)) refl

same_words : (text : List ℕ) → words_in text ≡ flag_words_of text
same_words [] = refl
same_words (b ∷ text) = refl

joins : (text : List ℕ) → spaced (flag_words_of text) ≡ text
joins [] = refl
joins (b ∷ text) = spaced_joined (split 32 (b ∷ text)) ∙ joined_split 32 (b ∷ text)

pub flags_sound : (b : List ℕ) (x : ℕ × List (List ℕ)) → flags_of b ≡ Some x → AreFlags x.0 x.1 b
unfolding flags_of
flags_sound b x e =
    let rest = bind_some (after (codes "(") b) (λ r. ahead_of (codes ")") r >>= λ w. flags_named (flag_words_of w)) x e in
    let text = bind_some (ahead_of (codes ")") rest.0) (λ w. flags_named (flag_words_of w)) x rest.2 in
    let words = flag_words_of text.0 in
    let named = if_some (list_all is_flag words) (fold with_flag (0, []) words) x text.2 in
    let inside : rest.0 ≡ spaced words ++ codes ")" = ahead_is (codes ")") rest.0 text.0 text.1 ∙ ap (λ t. t ++ codes ")") (sym (joins text.0)) in
    record { words = words; each = flags_all words named.0; named = named.1; text = after_is (codes "(") b rest.0 rest.1 ∙ ap (λ t. codes "(" ++ t) inside }

pub flags_complete : (b : List ℕ) (flags : ℕ) (keywords : List (List ℕ)) → AreFlags flags keywords b → flags_of b ≡ Some (flags, keywords)
unfolding flags_of
flags_complete b flags keywords is =
    let text = spaced is.words in
    let words : flag_words_of text ≡ is.words = sym (words_of text is.words is.each refl ∙ same_words text) in
    let front : after (codes "(") b ≡ Some (text ++ codes ")") = ap (after (codes "(")) is.text ∙ after_again (codes "(") (text ++ codes ")") in
    let named : flags_named is.words ≡ Some (flags, keywords) = rw (all_flags is.words is.each, is.named) refl in
    rw (front, ahead_again (codes ")") text, words) named

pub flags_gives : (b : List ℕ) (r : Result (ℕ × List (List ℕ)) ParseEnd) → IfOk r (λ x. AreFlags x.0 x.1 b)
    → OnBad r ((flags : ℕ) (keywords : List (List ℕ)) → AreFlags flags keywords b → ⊥) → Gives (λ x. x) r (flags_of b)
flags_gives b (Ok x) found bad = flags_complete b x.0 x.1 found
flags_gives b (Err NoMemory) found bad = tt
flags_gives b (Err Bad) found bad = by_case (flags_of b) refl
  where
    by_case : (r : Option (ℕ × List (List ℕ))) → flags_of b ≡ r → r ≡ None
    by_case None e = refl
    by_case (Some x) e = absurd (bad x.0 x.1 (flags_sound b x e))
