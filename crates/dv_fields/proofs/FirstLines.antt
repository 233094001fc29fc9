-- The first line of a text.
use Rattle.std.proofs.Common.{◌≡◌, ℕ, suc, ◌+◌, ◌-◌, ◌<◌, ◌≤◌, Bool, true, false, cond, eqb, List, [], ◌∷◌, length, take, drop, get_or, Some, None, refl, sym, ap, ◌∙◌, inl, inr, arith}
use Rattle.std.specs.List.{position, position_or_len, slice_split, onto_first}
use Rattle.std.specs.Str.Lines.{lines, lines_of_parts, strip_carriage_return}
use Rattle.std.proofs.lemmas.Bool.{cases_lt, lt-ltb, le-ltb, eqb-true}
use Rattle.std.proofs.lemmas.List.Splits.{slice_split-cons_yes, slice_split-cons_no, slice_split_first, slice_split_none, length-slice_split}
use Rattle.std.proofs.lemmas.List.Sums.{fails_before_first}
use Rattle.dv_model.specs.Fields.{is_blank, is_continuation}
use Rattle.dv_formats.proofs.Lines.{last_line, line_before}

abbrev is_feed : ℕ → Bool
is_feed b = eqb b 10

-- what a first place says
pub position-some : (p : ℕ → Bool) (xs : List ℕ) (i : ℕ) → position p xs ≡ Some i
    → (position_or_len p xs ≡ i) × (i < length xs)
position-some p xs i e =
    elim (cases_lt (position_or_len p xs) (length xs)) [
      | inl lt ↦ let f : Some (position_or_len p xs) ≡ Some i = rw (lt-ltb _ _ lt) at e in let g : position_or_len p xs ≡ i = cc in (g, omega arith)
      | inr le ↦ let f : None ≡ Some i = rw (le-ltb _ _ le) at e in absurd cc
    ]

pub position-none : (p : ℕ → Bool) (xs : List ℕ) → position p xs ≡ None
    → length xs ≤ position_or_len p xs
position-none p xs e =
    elim (cases_lt (position_or_len p xs) (length xs)) [
      | inl lt ↦ let f : Some (position_or_len p xs) ≡ None = rw (lt-ltb _ _ lt) at e in absurd cc
      | inr le ↦ le
    ]

pub first_line : (text : List ℕ) (i : ℕ) → position (λ b. eqb b 10) text ≡ Some i
    → lines text ≡ strip_carriage_return (take i text) ∷ lines (drop (i + 1) text)
first_line text i e =
    let at = position-some is_feed text i e in
    let here : position_or_len is_feed text < length text = omega (arith, at.0, at.1) in
    let parts = slice_split_first is_feed text 0 here in
    let rest = slice_split is_feed (drop (position_or_len is_feed text + 1) text) in
    let some : 0 < length rest = omega (arith, length-slice_split is_feed (drop (position_or_len is_feed text + 1) text)) in
    let whole : lines text ≡ strip_carriage_return (take (position_or_len is_feed text) text) ∷ lines (drop (position_or_len is_feed text + 1) text) =
    ap lines_of_parts parts ∙ line_before (take (position_or_len is_feed text) text) rest some in
    whole ∙ ap (λ (k : ℕ). strip_carriage_return (take k text) ∷ lines (drop (k + 1) text)) at.0

pub only_line : (text : List ℕ) → position (λ b. eqb b 10) text ≡ None → 0 < length text
    → lines text ≡ text ∷ []
only_line text e some =
    let far = position-none is_feed text e in
    ap lines_of_parts (slice_split_none is_feed text (λ k d h. fails_before_first is_feed text k d (omega arith))) ∙ last_line text some

-- ---- how the first line begins

one_byte : (b : ℕ) (t : Bool) → eqb b 13 ≡ t → is_continuation (cond t [] (b ∷ [])) ≡ is_blank b
one_byte b true e = let is13 : b ≡ 13 = eqb-true _ _ e in rw is13 refl
one_byte b false e = refl

many_bytes : (b c : ℕ) (line : List ℕ) (n : ℕ) (t : Bool) → n ≡ suc (length line)
    → is_continuation (cond t (take n (b ∷ c ∷ line)) (b ∷ c ∷ line)) ≡ is_blank b
many_bytes b c line n true e = rw e refl
many_bytes b c line n false e = refl

stripped_opens : (line : List ℕ)
    → is_continuation (strip_carriage_return line) ≡ is_continuation line
stripped_opens [] = refl
stripped_opens (b ∷ []) = one_byte b (eqb b 13) refl
stripped_opens (b ∷ c ∷ line) = many_bytes b c line (length (b ∷ c ∷ line) - 1) (eqb (get_or (b ∷ c ∷ line) (length (b ∷ c ∷ line) - 1) 0) 13) (omega arith)

part_opens : (b : ℕ) (y : List ℕ) (more : List (List ℕ)) (line : List ℕ) (others : List (List ℕ))
    → lines_of_parts ((b ∷ y) ∷ more) ≡ line ∷ others → is_continuation line ≡ is_blank b
part_opens b y [] line others e =
    let g : (b ∷ y) ∷ [] ≡ line ∷ others = sym (last_line (b ∷ y) (omega arith)) ∙ e in
    let f : b ∷ y ≡ line = cc in
    rw (← f) refl
part_opens b y (z ∷ more) line others e = let f : strip_carriage_return (b ∷ y) ≡ line = cc in rw (← f) (stripped_opens (b ∷ y))

parts_open : (b : ℕ) (parts : List (List ℕ)) (line : List ℕ) (others : List (List ℕ))
    → lines_of_parts (onto_first b parts) ≡ line ∷ others → is_continuation line ≡ is_blank b
parts_open b [] line others e = part_opens b [] [] line others e
parts_open b (y ∷ more) line others e = part_opens b y more line others e

-- the first line begins as the text does
pub line_opens : (text line : List ℕ) (others : List (List ℕ)) → lines text ≡ line ∷ others
    → is_continuation line ≡ is_continuation text
line_opens [] line others e = absurd cc
line_opens (b ∷ text) line others e = by_feed (is_feed b) refl
  where
    by_feed : (t : Bool) → is_feed b ≡ t → is_continuation line ≡ is_blank b
    by_feed true h =
        let is10 : b ≡ 10 = eqb-true _ _ h in
        let f = ap lines_of_parts (slice_split-cons_yes is_feed b text h) in
        let some : 0 < length (slice_split is_feed text) = omega (arith, length-slice_split is_feed text) in
        let g : [] ∷ lines text ≡ line ∷ others = sym (f ∙ line_before [] (slice_split is_feed text) some) ∙ e in
        let nothing : [] ≡ line = cc in
        rw (← nothing, is10) refl
    by_feed false h = parts_open b (slice_split is_feed text) line others (sym (ap lines_of_parts (slice_split-cons_no is_feed b text h)) ∙ e)
