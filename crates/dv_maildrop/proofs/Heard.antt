-- What a client has of a message that was sent.
use Rattle.std.proofs.Common.{◌≡◌, ℕ, zero, suc, ◌-◌, ◌<◌, Bool, true, false, cond, List, [], ◌∷◌, ◌++◌, ◌∙◌, length, take, get_or, map, codes, refl, ap, sym, arith, nat_eq, append_assoc, length-append}
use Rattle.std.specs.Prelude.{flat_map, ◌==◌}
use Rattle.std.specs.List.{slice_split, onto_first}
use Rattle.std.specs.Str.Lines.{lines, lines_of_parts, strip_carriage_return}
use Rattle.std.proofs.lemmas.List.{take_at}
use Rattle.std.proofs.lemmas.List.Splits.{length-slice_split}
use Rattle.dv_formats.proofs.Lines.{line_before}
use Rattle.dv_maildrop.specs.declared.types.PopLine.{PopLine}
use Rattle.dv_maildrop.specs.declared.types.PopLine.TheVariants as line
use Rattle.dv_maildrop.specs.declared.types.Listed.{Listed}
use Rattle.std.specs.Prelude.{Option, Some, None}
use Rattle.dv_maildrop.specs.Answers.{last_line}
use Rattle.dv_maildrop.specs.Laws.{behind_all, heard}
use Rattle.dv_maildrop.specs.Maildrops.{Transaction, behind, row_of, with_mark}
use Rattle.dv_maildrop.specs.Messages.{crlf, message_text, stuffed}

-- ---- lines have no line feed

abbrev is_feed : ℕ → Bool
is_feed b = b == 10

abbrev IsPlain : List ℕ → Type 0
IsPlain [] = Unit {0}
IsPlain (b ∷ text) = (is_feed b ≡ false) × IsPlain text

abbrev ArePlain : List (List ℕ) → Type 0
ArePlain [] = Unit {0}
ArePlain (text ∷ texts) = IsPlain text × ArePlain texts

first_plain : (b : ℕ) (parts : List (List ℕ)) → is_feed b ≡ false → ArePlain parts → ArePlain (onto_first b parts)
first_plain b [] e are = ((e, tt), tt)
first_plain b (part ∷ parts) e are = ((e, are.0), are.1)

parts_plain : (text : List ℕ) → ArePlain (slice_split is_feed text)
parts_plain [] = (tt, tt)
parts_plain (b ∷ text) = by_feed (is_feed b) refl (parts_plain text)
  where
    by_feed : (t : Bool) → is_feed b ≡ t → ArePlain (slice_split is_feed text) → ArePlain (cond t ([] ∷ slice_split is_feed text) (onto_first b (slice_split is_feed text)))
    by_feed true e are = (tt, are)
    by_feed false e are = first_plain b (slice_split is_feed text) e are

take_plain : (n : ℕ) (text : List ℕ) → IsPlain text → IsPlain (take n text)
take_plain zero text is = tt
take_plain (suc n) [] is = tt
take_plain (suc n) (b ∷ text) is = (is.0, take_plain n text is.1)

strip_plain : (text : List ℕ) → IsPlain text → IsPlain (strip_carriage_return text)
strip_plain text is = by_test (get_or text (length text - 1) 0 == 13)
  where
    by_test : (t : Bool) → IsPlain (cond t (take (length text - 1) text) text)
    by_test true = take_plain (length text - 1) text is
    by_test false = is

one_plain : (part : List ℕ) (t : Bool) → IsPlain part → ArePlain (cond t [] (part ∷ []))
one_plain part true is = tt
one_plain part false is = (is, tt)

lines_plain : (parts : List (List ℕ)) → ArePlain parts → ArePlain (lines_of_parts parts)
lines_plain [] are = tt
lines_plain (part ∷ []) are = one_plain part (length part == 0) are.0
lines_plain (part ∷ next ∷ parts) are = (strip_plain part are.0, lines_plain (next ∷ parts) are.1)

-- ---- what is sent is split at its line ends

split_plain : (text rest : List ℕ) → IsPlain text → slice_split is_feed (text ++ 10 ∷ rest) ≡ text ∷ slice_split is_feed rest
split_plain [] rest is = refl
split_plain (b ∷ text) rest is = rw (is.0, split_plain text rest is.1) refl

last_is : (text : List ℕ) (b : ℕ) → get_or (text ++ b ∷ []) (length text) 0 ≡ b
last_is [] b = refl
last_is (x ∷ text) b = last_is text b

strip_again : (text : List ℕ) → strip_carriage_return (text ++ 13 ∷ []) ≡ text
strip_again text =
    let size : length (text ++ 13 ∷ []) - 1 ≡ length text = omega (arith, length-append text (13 ∷ [])) in
    by_test (get_or (text ++ 13 ∷ []) (length (text ++ 13 ∷ []) - 1) 0 == 13) (ap (λ n. get_or (text ++ 13 ∷ []) n 0 == 13) size ∙ ap (λ b. b == 13) (last_is text 13))
    (ap (λ n. take n (text ++ 13 ∷ [])) size ∙ take_at text (13 ∷ []) (length text) refl)
  where
    by_test : (t : Bool) → t ≡ true → take (length (text ++ 13 ∷ []) - 1) (text ++ 13 ∷ []) ≡ text → cond t (take (length (text ++ 13 ∷ []) - 1) (text ++ 13 ∷ [])) (text ++ 13 ∷ []) ≡ text
    by_test true e is = is
    by_test false e is = absurd cc

return_plain : (text : List ℕ) → IsPlain text → IsPlain (text ++ 13 ∷ [])
return_plain [] is = (refl, tt)
return_plain (b ∷ text) is = (is.0, return_plain text is.1)

line_again : (text rest : List ℕ) → IsPlain text → lines (text ++ 13 ∷ 10 ∷ rest) ≡ text ∷ lines rest
line_again text rest is =
    let parts = slice_split is_feed rest in
    let some : 0 < length parts = omega (arith, length-slice_split is_feed rest) in
    ap lines (sym (append_assoc text (13 ∷ []) (10 ∷ rest)))
    ∙ ap lines_of_parts (split_plain (text ++ 13 ∷ []) rest (return_plain text is))
    ∙ line_before (text ++ 13 ∷ []) parts some
    ∙ ap (λ (l : List ℕ). l ∷ lines rest) (strip_again text)

stuffed_plain : (text : List ℕ) → IsPlain text → IsPlain (stuffed text)
stuffed_plain [] is = tt
stuffed_plain (b ∷ text) is = by_test (nat_eq b 46)
  where
    by_test : (t : Bool) → IsPlain (cond t (46 ∷ b ∷ text) (b ∷ text))
    by_test true = (refl, is)
    by_test false = is

abbrev sent : List (List ℕ) → List ℕ
sent texts = flat_map (λ line. stuffed line ++ crlf) texts

lines_sent : (texts : List (List ℕ)) (rest : List ℕ) → ArePlain texts → lines (sent texts ++ rest) ≡ map stuffed texts ++ lines rest
lines_sent [] rest are = refl
lines_sent (text ∷ texts) rest are =
    let here = stuffed text in
    ap lines (append_assoc (here ++ crlf) (sent texts) rest ∙ append_assoc here crlf (sent texts ++ rest))
    ∙ line_again here (sent texts ++ rest) (stuffed_plain text are.0)
    ∙ ap (λ (ls : List (List ℕ)). here ∷ ls) (lines_sent texts rest are.1)

-- ---- what a client has of it

heard_again : (texts : List (List ℕ)) → heard (map stuffed texts ++ codes "." ∷ []) ≡ texts
heard_again [] = refl
heard_again ([] ∷ texts) = ap (λ (ls : List (List ℕ)). [] ∷ ls) (heard_again texts)
heard_again ((b ∷ text) ∷ texts) = by_test (nat_eq b 46) refl (heard_again texts)
  where
    by_test : (t : Bool) → nat_eq b 46 ≡ t → heard (map stuffed texts ++ codes "." ∷ []) ≡ texts → heard (cond t (46 ∷ b ∷ text) (b ∷ text) ∷ (map stuffed texts ++ codes "." ∷ [])) ≡ (b ∷ text) ∷ texts
    by_test true e same = ap (λ (ls : List (List ℕ)). (b ∷ text) ∷ ls) same
    by_test false e same = rw e (ap (λ (ls : List (List ℕ)). (b ∷ text) ∷ ls) same)

pub message_heard : (message : List ℕ) → heard (lines (message_text message ++ last_line)) ≡ lines message
message_heard message =
    ap heard (lines_sent (lines message) last_line (lines_plain (slice_split is_feed message) (parts_plain message)))
    ∙ heard_again (lines message)

-- ---- the messages stay

rows_marked : (m : Transaction) (k : ℕ) (row : Option Listed) → (with_mark m k row).rows ≡ m.rows
rows_marked m k None = refl
rows_marked m k (Some row) = refl

rows_behind : (m : Transaction) (c : PopLine) → (behind m c).rows ≡ m.rows
rows_behind m (line.Dele k) = rows_marked m k (row_of m k)
rows_behind m line.Stat = refl
rows_behind m (line.List k) = refl
rows_behind m (line.Uidl k) = refl
rows_behind m (line.Retr k) = refl
rows_behind m line.Noop = refl
rows_behind m line.Rset = refl
rows_behind m line.Quit = refl
rows_behind m line.Bad = refl

pub rows_stay : (m : Transaction) (lines : List PopLine) → (behind_all m lines).rows ≡ m.rows
rows_stay m [] = refl
rows_stay m (c ∷ lines) = rows_stay (behind m c) lines ∙ rows_behind m c
