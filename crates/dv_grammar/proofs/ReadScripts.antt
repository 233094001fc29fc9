-- What is read is of the grammar: whole scripts.
use Rattle.std.proofs.Common.{◌≡◌, ◌⊎◌, inl, inr, ℕ, zero, suc, ◌+◌, ◌<◌, ◌≤◌, Bool, true, false, cond, List, [], ◌∷◌, ◌++◌, length, All, fold, Result, Ok, Err, refl, sym, ◌∙◌, ap, subst, arith, append_assoc, nat_eq, nat_lt}
use Rattle.std.specs.Prelude.{count_by}
use Rattle.std.proofs.lemmas.Bool.{ltb-false, ltb-true}
use Rattle.std.proofs.lemmas.Grind.{flat_map-append}
use Rattle.std.proofs.lemmas.List.{append-nil, length-append}
use Rattle.std.proofs.lemmas.List.Elements.{All-append, All-cons, All-head, All-nil, All-tail}
use Rattle.std.proofs.lemmas.List.Sums.{fold-append}
use Rattle.dv_formats.specs.Scripts.{AreBefore, AreEnded, IsBadLine, IsLineEnd, IsPiece, IsScript, IsShortLiteral, IsTooLong, NamedLine, Piece, and_session, line_number, pieces_lines, pieces_text, script_limit, session_limit, sessions_of}
use Rattle.dv_formats.specs.Parsing.{LineFault, ScriptFault, TakenLine, as_list, behind_line, feeds_before, first_line, line_at, lines_at, parsed}
use Rattle.dv_grammar.proofs.Beginnings.{short_taken, taken_short, well_taken}
use Rattle.dv_grammar.proofs.FirstLines.{first_is}
use Rattle.dv_grammar.proofs.ReadLines.{IsRead, bad_short, line_sound, no_ok}
use Rattle.dv_grammar.proofs.Steps.{count_append, feeds_are, none_left}

-- what is read of a script is of the grammar
abbrev pub HasLines : List ℕ → Result (List NamedLine) ScriptFault → Type 0
HasLines script (Ok lines) = IsScript lines script
HasLines script (Err (ScriptFault.BadLine k)) = IsBadLine script k
HasLines script (Err (ScriptFault.ShortLiteral k)) = IsShortLiteral script k
HasLines script (Err ScriptFault.TooLong) = IsTooLong script

-- pieces with line ends, and perhaps a last one without
all_ended : (pieces : List Piece) → All (λ (p : Piece). IsLineEnd p.ending) pieces → AreEnded pieces
all_ended [] all = tt
all_ended (p ∷ []) all = inl (All-head (λ (p : Piece). IsLineEnd p.ending) p [] all)
all_ended (p ∷ q ∷ ps) all = (All-head (λ (p : Piece). IsLineEnd p.ending) p (q ∷ ps) all, all_ended (q ∷ ps) (All-tail (λ (p : Piece). IsLineEnd p.ending) p (q ∷ ps) all))

last_ended : (pieces : List Piece) (last : Piece) → All (λ (p : Piece). IsLineEnd p.ending) pieces → last.ending ≡ [] → 1 ≤ length last.text → AreEnded (pieces ++ last ∷ [])
last_ended [] last all none some = inr (none, some)
last_ended (p ∷ []) last all none some = (All-head (λ (p : Piece). IsLineEnd p.ending) p [] all, inr (none, some))
last_ended (p ∷ q ∷ ps) last all none some =
    (All-head (λ (p : Piece). IsLineEnd p.ending) p (q ∷ ps) all, last_ended (q ∷ ps) last (All-tail (λ (p : Piece). IsLineEnd p.ending) p (q ∷ ps) all) none some)

-- the lines before this place of the script, which are good
record IsAt (script : List ℕ) (k : ℕ) (lines : List NamedLine) (names : List (List ℕ)) (b : List ℕ) : Type 0 where
  size : length script ≤ script_limit
  front : List ℕ
  text : script ≡ front ++ b
  before : AreBefore lines front
  named : names ≡ sessions_of lines
  number : k ≡ line_number front

one_more_text : (pieces : List Piece) (p : Piece) → pieces_text (pieces ++ p ∷ []) ≡ pieces_text pieces ++ (p.text ++ p.ending)
one_more_text pieces p = flat_map-append (λ (q : Piece). q.text ++ q.ending) pieces (p ∷ []) ∙ ap (λ t. pieces_text pieces ++ t) (append-nil (p.text ++ p.ending))

one_more_lines : (pieces : List Piece) (p : Piece) → pieces_lines (pieces ++ p ∷ []) ≡ pieces_lines pieces ++ p.lines
one_more_lines pieces p = flat_map-append (λ (q : Piece). q.lines) pieces (p ∷ []) ∙ ap (λ t. pieces_lines pieces ++ t) (append-nil p.lines)

module _ (script : List ℕ) (k : ℕ) (lines : List NamedLine) (names : List (List ℕ)) (b : List ℕ) (at : IsAt script k lines names b) (taken : TakenLine) (read : IsRead names b taken) where
  abbrev more : List NamedLine
  more = lines ++ as_list taken.0

  few : length (sessions_of more) ≤ session_limit
  few =
      let same : sessions_of more ≡ taken.1 = fold-append and_session [] lines (as_list taken.0) ∙ ap (λ ns. fold and_session ns (as_list taken.0)) (sym at.named) ∙ sym read.named in
      subst (λ ns. length ns ≤ session_limit) (sym same) (read.few (subst (λ ns. length ns ≤ session_limit) (sym at.named) at.before.sessions))

  pieces_are : more ≡ pieces_lines (at.before.pieces ++ read.piece ∷ [])
  pieces_are = ap (λ ls. ls ++ as_list taken.0) at.before.are ∙ ap (λ ls. pieces_lines at.before.pieces ++ ls) (sym read.are) ∙ sym (one_more_lines at.before.pieces read.piece)

  front_is : script ≡ pieces_text (at.before.pieces ++ read.piece ∷ []) ++ taken.2
  front_is = at.text ∙ ap (λ t. t ++ b) at.before.text ∙ ap (λ t. pieces_text at.before.pieces ++ t) (read.whole ∙ sym (append_assoc read.piece.text read.piece.ending taken.2))
      ∙ sym (append_assoc (pieces_text at.before.pieces) (read.piece.text ++ read.piece.ending) taken.2) ∙ ap (λ t. t ++ taken.2) (sym (one_more_text at.before.pieces read.piece))

  each_is : All IsPiece (at.before.pieces ++ read.piece ∷ [])
  each_is = All-append IsPiece at.before.pieces (read.piece ∷ []) at.before.each (All-cons IsPiece read.piece [] read.is (All-nil IsPiece))

  counted : k + feeds_before b taken.2 ≡ line_number (pieces_text (at.before.pieces ++ read.piece ∷ []))
  counted =
      let part = read.piece.text ++ read.piece.ending in
      let old = pieces_text at.before.pieces in
      let whole : b ≡ part ++ taken.2 = read.whole ∙ sym (append_assoc read.piece.text read.piece.ending taken.2) in
      let feeds : feeds_before b taken.2 ≡ count_by (nat_eq 10) part = ap (λ t. feeds_before t taken.2) whole ∙ feeds_are part taken.2 in
      let before : k ≡ 1 + count_by (nat_eq 10) old = at.number ∙ ap line_number at.before.text in
      let after : count_by (nat_eq 10) (pieces_text (at.before.pieces ++ read.piece ∷ [])) ≡ count_by (nat_eq 10) old + count_by (nat_eq 10) part = ap (count_by (nat_eq 10)) (one_more_text at.before.pieces read.piece) ∙ count_append (nat_eq 10) old part in
      omega (arith, feeds, before, after)

  goes_on : IsLineEnd read.piece.ending → IsAt script (k + feeds_before b taken.2) more taken.1 taken.2
  goes_on ends = record {
    size = at.size;
    front = pieces_text (at.before.pieces ++ read.piece ∷ []);
    text = front_is;
    before = record {
      pieces = at.before.pieces ++ read.piece ∷ [];
      each = each_is;
      ended = All-append (λ (p : Piece). IsLineEnd p.ending) at.before.pieces (read.piece ∷ []) at.before.ended (All-cons (λ (p : Piece). IsLineEnd p.ending) read.piece [] ends (All-nil (λ (p : Piece). IsLineEnd p.ending)));
      text = refl;
      are = pieces_are;
      sessions = few;
    };
    named = read.named ∙ ap (λ ns. fold and_session ns (as_list taken.0)) at.named ∙ sym (fold-append and_session [] lines (as_list taken.0));
    number = counted;
  }

  ends_here : 1 ≤ length b → read.piece.ending ≡ [] → taken.2 ≡ [] → IsScript more script
  ends_here some none last = record {
    size = at.size;
    pieces = at.before.pieces ++ read.piece ∷ [];
    each = each_is;
    ended = last_ended at.before.pieces read.piece at.before.ended none (omega (arith, some, ap length read.whole, length-append read.piece.text (read.piece.ending ++ taken.2), length-append read.piece.ending taken.2, ap length none, ap length last));
    text = front_is ∙ ap (λ t. pieces_text (at.before.pieces ++ read.piece ∷ []) ++ t) last ∙ append-nil (pieces_text (at.before.pieces ++ read.piece ∷ []));
    are = pieces_are;
    sessions = few;
  }

  shorter : IsLineEnd read.piece.ending → length taken.2 < length b
  shorter (inl feed) = omega (arith, ap length read.whole, length-append read.piece.text (read.piece.ending ++ taken.2), length-append read.piece.ending taken.2, ap length feed)
  shorter (inr both) = omega (arith, ap length read.whole, length-append read.piece.text (read.piece.ending ++ taken.2), length-append read.piece.ending taken.2, ap length both)

sessions_few : (script : List ℕ) (k : ℕ) (lines : List NamedLine) (names : List (List ℕ)) (b : List ℕ) (at : IsAt script k lines names b) → length names ≤ session_limit
sessions_few script k lines names b at = subst (λ ns. length ns ≤ session_limit) (sym at.named) at.before.sessions

short_here : (script : List ℕ) (k : ℕ) (lines : List NamedLine) (names : List (List ℕ)) (b : List ℕ) → IsAt script k lines names b
    → line_at names (first_line b).0 (first_line b).1 ≡ Err LineFault.short → IsShortLiteral script k
short_here script k lines names b at e = record {
  size = at.size;
  lines = lines;
  front = at.front;
  rest = b;
  text = at.text;
  before = at.before;
  short = taken_short lines names at.named (sessions_few script k lines names b at) b e;
  is = at.number;
}

bad_here : (script : List ℕ) (k : ℕ) (lines : List NamedLine) (names : List (List ℕ)) (b : List ℕ) → IsAt script k lines names b → 1 ≤ length b
    → line_at names (first_line b).0 (first_line b).1 ≡ Err LineFault.bad → IsBadLine script k
bad_here script k lines names b at some e = record {
  size = at.size;
  lines = lines;
  front = at.front;
  rest = b;
  text = at.text;
  before = at.before;
  some = some;
  bad = λ well. let taken = well_taken lines names at.named (sessions_few script k lines names b at) b well in no_ok LineFault.bad taken.0 (sym e ∙ taken.1);
  not_short = λ short. bad_short (sym e ∙ short_taken lines names at.named (sessions_few script k lines names b at) b short);
  is = at.number;
}

done : (script : List ℕ) (k : ℕ) (lines : List NamedLine) (names : List (List ℕ)) → IsAt script k lines names [] → IsScript lines script
done script k lines names at = record {
  size = at.size;
  pieces = at.before.pieces;
  each = at.before.each;
  ended = all_ended at.before.pieces at.before.ended;
  text = at.text ∙ append-nil at.front ∙ at.before.text;
  are = at.before.are;
  sessions = at.before.sessions;
}

lines_sound : (script : List ℕ) (most k : ℕ) (lines : List NamedLine) (names : List (List ℕ)) (b : List ℕ) → length b ≤ most → IsAt script k lines names b → HasLines script (lines_at most k lines names b)
unfolding lines_at
lines_sound script most k lines names [] few at = subst (HasLines script) (sym (none_left most k lines names)) (done script k lines names at)
lines_sound script zero k lines names (x ∷ b) few at = absurd (omega (arith, few))
lines_sound script (suc most) k lines names (x ∷ b) few at = by_line (line_at names (first_line (x ∷ b)).0 (first_line (x ∷ b)).1) refl (λ taken less next. lines_sound script most (k + feeds_before (x ∷ b) taken.2) (lines ++ as_list taken.0) taken.1 taken.2 (omega (arith, few, less)) next)
  where
    by_end : (taken : TakenLine) → (read : IsRead names (x ∷ b) taken)
        → (length taken.2 < length (x ∷ b) → IsAt script (k + feeds_before (x ∷ b) taken.2) (lines ++ as_list taken.0) taken.1 taken.2 → HasLines script (lines_at most (k + feeds_before (x ∷ b) taken.2) (lines ++ as_list taken.0) taken.1 taken.2))
        → IsLineEnd read.piece.ending ⊎ ((read.piece.ending ≡ []) × (taken.2 ≡ []))
        → HasLines script (lines_at most (k + feeds_before (x ∷ b) taken.2) (lines ++ as_list taken.0) taken.1 taken.2)
    by_end taken read others (inl ends) = others (shorter script k lines names (x ∷ b) at taken read ends) (goes_on script k lines names (x ∷ b) at taken read ends)
    by_end taken read others (inr none) =
        let same : lines_at most (k + feeds_before (x ∷ b) taken.2) (lines ++ as_list taken.0) taken.1 taken.2 ≡ Ok (lines ++ as_list taken.0) = ap (lines_at most (k + feeds_before (x ∷ b) taken.2) (lines ++ as_list taken.0) taken.1) none.1 ∙ none_left most (k + feeds_before (x ∷ b) taken.2) (lines ++ as_list taken.0) taken.1 in
        subst (HasLines script) (sym same) (ends_here script k lines names (x ∷ b) at taken read (omega arith) none.0 none.1)

    by_line : (r : Result TakenLine LineFault) → line_at names (first_line (x ∷ b)).0 (first_line (x ∷ b)).1 ≡ r
        → ((taken : TakenLine) → length taken.2 < length (x ∷ b) → IsAt script (k + feeds_before (x ∷ b) taken.2) (lines ++ as_list taken.0) taken.1 taken.2 → HasLines script (lines_at most (k + feeds_before (x ∷ b) taken.2) (lines ++ as_list taken.0) taken.1 taken.2))
        → HasLines script (behind_line k r (λ taken. lines_at most (k + feeds_before (x ∷ b) taken.2) (lines ++ as_list taken.0) taken.1 taken.2))
    by_line (Err LineFault.bad) is others = bad_here script k lines names (x ∷ b) at (omega arith) is
    by_line (Err LineFault.short) is others = short_here script k lines names (x ∷ b) at is
    by_line (Ok taken) is others = let read = line_sound names (x ∷ b) taken (first_is (x ∷ b)) is in by_end taken read (others taken) read.ended

pub script_sound : (script : List ℕ) → HasLines script (parsed script)
unfolding parsed
script_sound script = by_size (nat_lt script_limit (length script)) refl
  where
    by_size : (t : Bool) → nat_lt script_limit (length script) ≡ t → HasLines script (cond t (Err ScriptFault.TooLong) (lines_at (length script) 1 [] [] script))
    by_size true is = ltb-true script_limit (length script) is
    by_size false is = lines_sound script (length script) 1 [] [] script (omega arith) (record {
      size = ltb-false script_limit (length script) is;
      front = [];
      text = refl;
      before = record { pieces = []; each = All-nil IsPiece; ended = All-nil (λ (p : Piece). IsLineEnd p.ending); text = refl; are = refl; sessions = omega arith };
      named = refl;
      number = refl;
    })
