-- A flag list is read word by word.
use Rattle.std.proofs.Common.{◌≡◌, inl, inr, ℕ, ◌<◌, ◌≤◌, Bool, true, false, not, cond, ◌&&◌, List, [], ◌∷◌, ◌++◌, length, All, Option, Some, None, Bor, Result, Err, codes, take, drop, fold, nat_eq, refl, sym, ◌∙◌, ap, subst, arith, append_assoc}
use Rattle.std.specs.List.{list_all}
use Rattle.std.specs.Option.{MatchOption}
use Rattle.std.specs.Str.{bytes_eq}
use Rattle.std.proofs.lemmas.Bool.{ne_eqb}
use Rattle.std.proofs.lemmas.List.{append_cancel_right, take-append-drop}
use Rattle.std.proofs.lemmas.List.Elements.{All-cons, All-head, All-nil, All-push, All-tail, All-weaker}
use Rattle.std.proofs.lemmas.Slice.Eq.{bytes_eq-Decides}
use Rattle.dv_model.specs.Names.{IsNameByte}
use Rattle.dv_model.specs.Texts.{spaced}
use Rattle.dv_formats.specs.Scripts.{AreFlags, IsFlag, flag_bit, joined, with_flag}
use Rattle.dv_sets.specs.Answers.{Answers, OnBad}
use Rattle.dv_sets.specs.declared.end.ParseEnd.{ParseEnd}
use Rattle.dv_sets.specs.declared.end.ParseEnd.TheVariants.{Bad, NoMemory}
use Rattle.dv_sets.proofs.Pieces.{Lacks, split, one_piece, first_piece, joined_split, split_joined}

-- ---- words

lacks_test : (byte : ℕ) (text : List ℕ) → list_all (λ b. not (nat_eq b byte)) text ≡ true
    → Lacks byte text
lacks_test byte [] e = All-nil (λ b. nat_eq b byte ≡ false)
lacks_test byte (b ∷ text) e = by_test (nat_eq b byte) refl e (lacks_test byte text)
  where
    by_test : (t : Bool) → nat_eq b byte ≡ t
        → (not t && list_all (λ x. not (nat_eq x byte)) text) ≡ true
        → (list_all (λ x. not (nat_eq x byte)) text ≡ true → Lacks byte text)
        → Lacks byte (b ∷ text)
    by_test true same f rest = cc
    by_test false same f rest = All-cons (λ x. nat_eq x byte ≡ false) b text same (rest f)

system_lacks : (word : List ℕ) (n : ℕ) → flag_bit word ≡ Some n → Lacks 32 word
system_lacks word n e = by_answered (bytes_eq word (codes "\\Answered")) refl e
  where
    is_text : (text : List ℕ) → bytes_eq word text ≡ true
        → list_all (λ b. not (nat_eq b 32)) text ≡ true → Lacks 32 word
    is_text text same fine = subst (Lacks 32) (sym ((bytes_eq-Decides word text).0 same)) (lacks_test 32 text fine)

    by_draft : (t : Bool) → bytes_eq word (codes "\\Draft") ≡ t → cond t (Some 16) None ≡ Some n
        → Lacks 32 word
    by_draft true same f = is_text (codes "\\Draft") same refl
    by_draft false same f = cc

    by_seen : (t : Bool) → bytes_eq word (codes "\\Seen") ≡ t
        → cond t (Some 8) (cond (bytes_eq word (codes "\\Draft")) (Some 16) None) ≡ Some n
        → Lacks 32 word
    by_seen true same f = is_text (codes "\\Seen") same refl
    by_seen false same f = by_draft (bytes_eq word (codes "\\Draft")) refl f

    by_deleted : (t : Bool) → bytes_eq word (codes "\\Deleted") ≡ t
        → cond t (Some 4) (cond (bytes_eq word (codes "\\Seen")) (Some 8) (cond (bytes_eq word (codes "\\Draft")) (Some 16) None)) ≡ Some n
        → Lacks 32 word
    by_deleted true same f = is_text (codes "\\Deleted") same refl
    by_deleted false same f = by_seen (bytes_eq word (codes "\\Seen")) refl f

    by_flagged : (t : Bool) → bytes_eq word (codes "\\Flagged") ≡ t
        → cond t (Some 2) (cond (bytes_eq word (codes "\\Deleted")) (Some 4) (cond (bytes_eq word (codes "\\Seen")) (Some 8) (cond (bytes_eq word (codes "\\Draft")) (Some 16) None))) ≡ Some n
        → Lacks 32 word
    by_flagged true same f = is_text (codes "\\Flagged") same refl
    by_flagged false same f = by_deleted (bytes_eq word (codes "\\Deleted")) refl f

    by_answered : (t : Bool) → bytes_eq word (codes "\\Answered") ≡ t
        → cond t (Some 1) (cond (bytes_eq word (codes "\\Flagged")) (Some 2) (cond (bytes_eq word (codes "\\Deleted")) (Some 4) (cond (bytes_eq word (codes "\\Seen")) (Some 8) (cond (bytes_eq word (codes "\\Draft")) (Some 16) None)))) ≡ Some n
        → Lacks 32 word
    by_answered true same f = is_text (codes "\\Answered") same refl
    by_answered false same f = by_flagged (bytes_eq word (codes "\\Flagged")) refl f

word_lacks : (word : List ℕ) → IsFlag word → Lacks 32 word
word_lacks word (inl (n, e)) = system_lacks word n e
word_lacks word (inr is) = All-weaker IsNameByte (λ b. nat_eq b 32 ≡ false) (λ b byte. ne_eqb b 32 (λ same. omega (arith, byte.printable, same))) word is.bytes

no_empty_flag : IsFlag [] → ⊥
no_empty_flag (inl (n, e)) = cc
no_empty_flag (inr is) = omega (arith, is.size)

-- ---- lists of words

pub spaced_joined : (words : List (List ℕ)) → spaced words ≡ joined (32 ∷ []) words
spaced_joined [] = refl
spaced_joined (w ∷ []) = refl
spaced_joined (w ∷ v ∷ vs) = ap (λ t. w ++ 32 ∷ t) (spaced_joined (v ∷ vs)) ∙ sym (append_assoc w (32 ∷ []) (joined (32 ∷ []) (v ∷ vs)))

-- the words of a text that isn't empty are its pieces
spaced_split : (words : List (List ℕ)) → 1 ≤ length words → All IsFlag words
    → split 32 (spaced words) ≡ words
spaced_split words some all = ap (split 32) (spaced_joined words) ∙ split_joined 32 words some (All-weaker IsFlag (Lacks 32) word_lacks words all)

-- the empty text has no words
no_words : (words : List (List ℕ)) → All IsFlag words → spaced words ≡ [] → words ≡ []
no_words [] all e = refl
no_words (w ∷ []) all e = absurd (no_empty_flag (subst IsFlag e (All-head IsFlag w [] all)))
no_words (w ∷ v ∷ vs) all e = absurd (no_append w e)
  where
    no_append : (x : List ℕ) → x ++ 32 ∷ spaced (v ∷ vs) ≡ [] → ⊥
    no_append [] f = cc
    no_append (b ∷ x) f = cc

-- the words of what stands in the parentheses
abbrev pub words_in : List ℕ → List (List ℕ)
words_in [] = []
words_in (b ∷ text) = split 32 (b ∷ text)

pub words_of : (text : List ℕ) (words : List (List ℕ)) → All IsFlag words → spaced words ≡ text
    → words ≡ words_in text
words_of [] words all e = no_words words all e
words_of (b ∷ text) [] all e = cc
words_of (b ∷ text) (w ∷ ws) all e = sym (spaced_split (w ∷ ws) (omega arith) all) ∙ ap (split 32) e

same_inside : (x y : List ℕ) → 40 ∷ x ++ 41 ∷ [] ≡ 40 ∷ y ++ 41 ∷ [] → x ≡ y
same_inside x y e = append_cancel_right x y (41 ∷ []) (ap (drop 1) e)

-- the flags of a text are those of its words
pub flags_words : (flags : ℕ) (keywords : List (List ℕ)) (b text : List ℕ)
    → b ≡ 40 ∷ text ++ 41 ∷ [] → (is : AreFlags flags keywords b) → is.words ≡ words_in text
flags_words flags keywords b text e is = words_of text is.words is.each (same_inside (spaced is.words) text (sym is.text ∙ e))

-- no flags without parentheses
pub no_flags : (b : List ℕ) → ((text : List ℕ) → b ≡ 40 ∷ text ++ 41 ∷ [] → ⊥)
    → (flags : ℕ) (keywords : List (List ℕ)) → AreFlags flags keywords b → ⊥
no_flags b none flags keywords is = none (spaced is.words) is.text

-- a text is of one value of flags and one list of keywords
pub flags_are_one : (f g : ℕ) (k l : List (List ℕ)) (b : List ℕ) → AreFlags f k b → AreFlags g l b → ◌≡◌ {A = ℕ × List (List ℕ)} (f, k) (g, l)
flags_are_one f g k l b p q =
    let same : p.words ≡ q.words = flags_words f k b (spaced q.words) q.text p ∙ sym (flags_words g l b (spaced q.words) q.text q) in
    sym p.named ∙ ap (fold with_flag (0, [])) same ∙ q.named

All-behind : (xs ys : List (List ℕ)) → All IsFlag (xs ++ ys) → All IsFlag ys
All-behind [] ys all = all
All-behind (x ∷ xs) ys all = All-behind xs ys (All-tail IsFlag x (xs ++ ys) all)

-- ---- as a loop does

-- these words were read, and this text is left
pub record IsReadTo (b : List ℕ) (flags : ℕ) (keywords : List (List ℕ)) (text : List ℕ) : Type 0 where
  pub words : List ℕ
  pub inside : b ≡ 40 ∷ words ++ 41 ∷ []
  pub some : 0 < length words
  pub front : List (List ℕ)
  pub each : All IsFlag front
  pub named : ◌≡◌ {A = ℕ × List (List ℕ)} (fold with_flag (0, []) front) (flags, keywords)
  pub parts : split 32 words ≡ front ++ split 32 text

pub starts : (b words : List ℕ) → b ≡ 40 ∷ words ++ 41 ∷ [] → 0 < length words
    → IsReadTo b 0 [] words
starts b words inside some = record { words = words; inside = inside; some = some; front = []; each = All-nil IsFlag; named = refl; parts = refl }

fold_push : (xs : List (List ℕ)) (x : List ℕ) (a : ℕ × List (List ℕ))
    → fold with_flag a (xs ++ x ∷ []) ≡ with_flag (fold with_flag a xs) x
fold_push [] x a = refl
fold_push (y ∷ xs) x a = fold_push xs x (with_flag a y)

-- one more flag
abbrev pub Adds : ℕ → List (List ℕ) → List ℕ → ℕ → List (List ℕ) → Type 0
Adds flags keywords word more others = IsFlag word × ◌≡◌ {A = ℕ × List (List ℕ)} (with_flag (flags, keywords) word) (more, others)

pub one_more : (b : List ℕ) (flags more : ℕ) (keywords others : List (List ℕ))
    (text word rest : List ℕ)
    → IsReadTo b flags keywords text → Lacks 32 word → text ≡ word ++ 32 ∷ rest
    → Adds flags keywords word more others → IsReadTo b more others rest
one_more b flags more keywords others text word rest so_far lacks e adds = record {
  words = so_far.words;
  inside = so_far.inside;
  some = so_far.some;
  front = so_far.front ++ word ∷ [];
  each = All-push IsFlag so_far.front word so_far.each adds.0;
  named = fold_push so_far.front word (0, []) ∙ ap (λ a. with_flag a word) so_far.named ∙ adds.1;
  parts = so_far.parts ∙ ap (λ t. so_far.front ++ t) (first_piece 32 text word rest lacks e) ∙ sym (append_assoc so_far.front (word ∷ []) (split 32 rest));
}

pub last_one : (b : List ℕ) (flags more : ℕ) (keywords others : List (List ℕ)) (text word : List ℕ)
    → IsReadTo b flags keywords text → Lacks 32 word → text ≡ word
    → Adds flags keywords word more others → AreFlags more others b
last_one b flags more keywords others text word so_far lacks e adds =
    let parts : split 32 so_far.words ≡ so_far.front ++ word ∷ [] = so_far.parts ∙ ap (λ t. so_far.front ++ t) (one_piece 32 text word lacks e) in
    let joins : so_far.words ≡ spaced (so_far.front ++ word ∷ []) = sym (joined_split 32 so_far.words) ∙ ap (joined (32 ∷ [])) parts ∙ sym (spaced_joined (so_far.front ++ word ∷ [])) in
    record {
      words = so_far.front ++ word ∷ [];
      each = All-push IsFlag so_far.front word so_far.each adds.0;
      named = fold_push so_far.front word (0, []) ∙ ap (λ a. with_flag a word) so_far.named ∙ adds.1;
      text = so_far.inside ∙ ap (λ t. 40 ∷ t ++ 41 ∷ []) joins;
    }

-- without words there are no flags
pub empty_flags : (b words : List ℕ) → b ≡ 40 ∷ words ++ 41 ∷ [] → length words ≡ 0
    → AreFlags 0 [] b
empty_flags b (x ∷ words) inside e = absurd (omega (arith, e))
empty_flags b [] inside e = record { words = []; each = All-nil IsFlag; named = refl; text = inside }

words_some : (words : List ℕ) → 0 < length words → words_in words ≡ split 32 words
words_some [] some = absurd (omega (arith, some))
words_some (b ∷ words) some = refl

-- a word that is no flag
pub bad_word : (b : List ℕ) (flags : ℕ) (keywords : List (List ℕ)) (text word : List ℕ)
    (rest : Option (Bor (List ℕ)))
    → IsReadTo b flags keywords text → Lacks 32 word
    → MatchOption rest (text ≡ word) (λ r. text ≡ word ++ 32 ∷ r.now)
    → (IsFlag word → ⊥) → (f : ℕ) (k : List (List ℕ)) → AreFlags f k b → ⊥
bad_word b flags keywords text word rest so_far lacks parts none f k is = by_rest rest parts
  where
    whole : is.words ≡ so_far.front ++ split 32 text
    whole = flags_words f k b so_far.words so_far.inside is ∙ words_some so_far.words so_far.some ∙ so_far.parts

    behind : (others : List (List ℕ)) → split 32 text ≡ word ∷ others → ⊥
    behind others e = none (All-head IsFlag word others (All-behind so_far.front (word ∷ others) (subst (All IsFlag) (whole ∙ ap (λ t. so_far.front ++ t) e) is.each)))

    by_rest : (r : Option (Bor (List ℕ)))
        → MatchOption r (text ≡ word) (λ x. text ≡ word ++ 32 ∷ x.now) → ⊥
    by_rest None p = behind [] (one_piece 32 text word lacks p)
    by_rest (Some x) p = behind (split 32 x.now) (first_piece 32 text word x.now lacks p)

-- ---- parentheses

pub inside_is : (b rest text : List ℕ) (n : ℕ) → take 1 b ≡ 40 ∷ [] → rest ≡ drop 1 b
    → drop n rest ≡ 41 ∷ [] → text ≡ take n rest → b ≡ 40 ∷ text ++ 41 ∷ []
inside_is b rest text n first behind last before =
    let front : b ≡ 40 ∷ rest = sym (take-append-drop 1 b) ∙ ap (λ t. t ++ drop 1 b) first ∙ ap (λ t. 40 ∷ t) (sym behind) in
    let end : rest ≡ text ++ 41 ∷ [] = sym (take-append-drop n rest) ∙ ap (λ t. t ++ drop n rest) (sym before) ∙ ap (λ t. text ++ t) last in
    front ∙ ap (λ t. 40 ∷ t) end

-- ---- how a word ends the reading

pub end_bad : (A : Type 0) (P Q : Type 0) (end : ParseEnd) → (P → Q) → OnBad {A = ℕ} (Err end) P → OnBad {A = A} (Err end) Q
end_bad A P Q Bad f p = f p
end_bad A P Q NoMemory f p = tt

pub end_only : (A : Type 0) (P : Type 0) (end : ParseEnd) (answer : Result A ParseEnd) → (P → ⊥) → OnBad {A = ℕ} (Err end) P → Answers {A = A} (Err end) answer
end_only A P Bad answer f p = absurd (f p)
end_only A P NoMemory answer f p = tt

pub end_every : (A : Type 0) (end : ParseEnd) → Answers {A = A} (Err end) (Err Bad)
end_every A Bad = refl
end_every A NoMemory = tt
