-- What the grammar has is read: whole scripts, and their faults.
use Rattle.std.proofs.Common.{◌≡◌, inl, inr, ℕ, ◌+◌, ◌-◌, ◌<◌, ◌≤◌, List, [], ◌∷◌, ◌++◌, length, All, fold, Result, Ok, Err, codes, refl, sym, ◌∙◌, ap, subst, arith, append_assoc, nat_eq}
use Rattle.std.specs.Prelude.{count_by}
use Rattle.std.proofs.lemmas.Bool.{le-ltb, lt-ltb}
use Rattle.std.proofs.lemmas.List.{append-nil, length-append}
use Rattle.std.proofs.lemmas.List.Concat.{flat_map-cons}
use Rattle.std.proofs.lemmas.List.Elements.{All-cons, All-head, All-nil, All-tail}
use Rattle.std.proofs.lemmas.List.Sums.{fold-append}
use Rattle.dv_formats.specs.Scripts.{AreBefore, AreEnded, IsBadLine, IsLineEnd, IsPiece, IsScript, IsShortLiteral, IsTooLong, NamedLine, Piece, and_session, line_number, pieces_lines, pieces_text, script_limit, session_limit, sessions_of}
use Rattle.dv_formats.specs.Parsing.{LineFault, ScriptFault, TakenLine, fault_at, feeds_before, first_line, line_at, lines_at, parsed}
use Rattle.dv_grammar.proofs.Beginnings.{short_taken, taken_short, taken_well}
use Rattle.dv_grammar.proofs.FirstLines.{IsEndedBy}
use Rattle.dv_grammar.proofs.GrammarLines.{piece_taken}
use Rattle.dv_grammar.proofs.NamedLines.{HasRoom, more_names}
use Rattle.dv_grammar.proofs.Steps.{count_append, faulty, feeds_are, none_left, step}

-- each line has an end, or the script ends with it
abbrev AreEndedBefore : List Piece → List ℕ → Type 0
AreEndedBefore [] rest = Unit {0}
AreEndedBefore (p ∷ pieces) rest =
    (1 ≤ length (p.text ++ p.ending)) × IsEndedBy p.ending (pieces_text pieces ++ rest) × AreEndedBefore pieces rest

ends_some : (p : Piece) → IsLineEnd p.ending → 1 ≤ length (p.text ++ p.ending)
ends_some p (inl feed) = omega (arith, length-append p.text p.ending, ap length feed)
ends_some p (inr both) = omega (arith, length-append p.text p.ending, ap length both)

with_ends : (pieces : List Piece) (rest : List ℕ) → All (λ (p : Piece). IsLineEnd p.ending) pieces → AreEndedBefore pieces rest
with_ends [] rest all = tt
with_ends (p ∷ pieces) rest all =
    let ends = All-head (λ (q : Piece). IsLineEnd q.ending) p pieces all in
    (ends_some p ends, inl ends, with_ends pieces rest (All-tail (λ (q : Piece). IsLineEnd q.ending) p pieces all))

to_the_end : (pieces : List Piece) → AreEnded pieces → AreEndedBefore pieces []
to_the_end [] is = tt
to_the_end (p ∷ []) (inl ends) = (ends_some p ends, inl ends, tt)
to_the_end (p ∷ []) (inr last) = (omega (arith, length-append p.text p.ending, last.1), inr (last.0, refl), tt)
to_the_end (p ∷ q ∷ pieces) is = (ends_some p is.0, inl is.0, to_the_end (q ∷ pieces) is.1)

-- ---- lines one after another

-- a line has one command or none, and so one session more at most
have_room : (names : List (List ℕ)) (p : Piece) → IsPiece p → length (fold and_session names p.lines) ≤ session_limit → All (HasRoom names) p.lines
have_room names p is few = by_kind is
  where
    none : p.lines ≡ [] → All (HasRoom names) p.lines
    none are = subst (All (HasRoom names)) (sym are) (All-nil (HasRoom names))

    one : (line : NamedLine) → p.lines ≡ line ∷ [] → All (HasRoom names) p.lines
    one line are = subst (All (HasRoom names)) (sym are) (All-cons (HasRoom names) line [] (subst (λ ls. length (fold and_session names ls) ≤ session_limit) are few) (All-nil (HasRoom names)))

    by_kind : IsPiece p → All (HasRoom names) p.lines
    by_kind (inl skipped) = none skipped.0
    by_kind (inr (inl (line, are, command))) = one line are
    by_kind (inr (inr empty)) = one _ empty.lines

-- the lines of these pieces are read, and this is left
record IsWalked (most k : ℕ) (lines : List NamedLine) (names : List (List ℕ)) (pieces : List Piece) (rest : List ℕ) : Type 0 where
  left : ℕ
  enough : length rest ≤ left
  same : lines_at most k lines names (pieces_text pieces ++ rest) ≡ lines_at left (k + count_by (nat_eq 10) (pieces_text pieces)) (lines ++ pieces_lines pieces) (fold and_session names (pieces_lines pieces)) rest

walk : (pieces : List Piece) → All IsPiece pieces → (rest : List ℕ) → AreEndedBefore pieces rest → (most k : ℕ) (lines : List NamedLine) (names : List (List ℕ))
    → length (fold and_session names (pieces_lines pieces)) ≤ session_limit → length (pieces_text pieces ++ rest) ≤ most → IsWalked most k lines names pieces rest
walk [] each rest ended most k lines names few enough =
    let same_k : k ≡ k + count_by (nat_eq 10) [] = omega arith in
    record { left = most; enough = enough; same = ap (λ n. lines_at most n lines names rest) same_k ∙ ap (λ ls. lines_at most (k + count_by (nat_eq 10) []) ls names rest) (sym (append-nil lines)) }
walk (p ∷ pieces) each rest ended most k lines names few enough =
    let behind = pieces_text pieces ++ rest in
    let part = p.text ++ p.ending in
    let b = p.text ++ (p.ending ++ behind) in
    let text : pieces_text (p ∷ pieces) ≡ part ++ pieces_text pieces = flat_map-cons (λ (q : Piece). q.text ++ q.ending) p pieces in
    let all_lines : pieces_lines (p ∷ pieces) ≡ p.lines ++ pieces_lines pieces = flat_map-cons (λ (q : Piece). q.lines) p pieces in
    let whole : pieces_text (p ∷ pieces) ++ rest ≡ b = ap (λ t. t ++ rest) text ∙ append_assoc part (pieces_text pieces) rest ∙ append_assoc p.text p.ending behind in
    let next = fold and_session names p.lines in
    let all_names : fold and_session names (pieces_lines (p ∷ pieces)) ≡ fold and_session next (pieces_lines pieces) = ap (fold and_session names) all_lines ∙ fold-append and_session names p.lines (pieces_lines pieces) in
    let few_here : length next ≤ session_limit = omega (arith, few, ap length all_names, more_names (pieces_lines pieces) next) in
    let piece_is = All-head IsPiece p pieces each in
    let taken = piece_taken names p behind piece_is ended.1 (have_room names p piece_is few_here) in
    let size : length b ≡ length part + length behind = ap length (sym (append_assoc p.text p.ending behind)) ∙ length-append part behind in
    let room : length b ≤ most = omega (arith, enough, ap length whole) in
    let feeds : feeds_before b behind ≡ count_by (nat_eq 10) part = ap (λ t. feeds_before t behind) (sym (append_assoc p.text p.ending behind)) ∙ feeds_are part behind in
    let number : k + feeds_before b behind + count_by (nat_eq 10) (pieces_text pieces) ≡ k + count_by (nat_eq 10) (pieces_text (p ∷ pieces)) = omega (arith, feeds, ap (count_by (nat_eq 10)) text, count_append (nat_eq 10) part (pieces_text pieces)) in
    let added : (lines ++ p.lines) ++ pieces_lines pieces ≡ lines ++ pieces_lines (p ∷ pieces) = append_assoc lines p.lines (pieces_lines pieces) ∙ ap (λ ls. lines ++ ls) (sym all_lines) in
    let others = walk pieces (All-tail IsPiece p pieces each) rest ended.2 (most - 1) (k + feeds_before b behind) (lines ++ p.lines) next (omega (arith, few, ap length all_names)) (omega (arith, room, size, ended.0)) in
    record {
      left = others.left;
      enough = others.enough;
      same = ap (lines_at most k lines names) whole
          ∙ step most k lines names b (taken.line, next, behind) (omega (arith, size, ended.0)) room taken.read
          ∙ ap (λ ls. lines_at (most - 1) (k + feeds_before b behind) (lines ++ ls) next behind) taken.are
          ∙ others.same
          ∙ ap (λ n. lines_at others.left n ((lines ++ p.lines) ++ pieces_lines pieces) (fold and_session next (pieces_lines pieces)) rest) number
          ∙ ap (λ ls. lines_at others.left (k + count_by (nat_eq 10) (pieces_text (p ∷ pieces))) ls (fold and_session next (pieces_lines pieces)) rest) added
          ∙ ap (λ ns. lines_at others.left (k + count_by (nat_eq 10) (pieces_text (p ∷ pieces))) (lines ++ pieces_lines (p ∷ pieces)) ns rest) (sym all_names);
    }

-- ---- whole scripts

pub within : (b : List ℕ) → length b ≤ script_limit → parsed b ≡ lines_at (length b) 1 [] [] b
unfolding parsed
within b short = rw (le-ltb script_limit (length b) short) refl

pub beyond : (b : List ℕ) → script_limit < length b → parsed b ≡ Err ScriptFault.TooLong
unfolding parsed
beyond b long = rw (lt-ltb script_limit (length b) long) refl

pub script_read : (script : List ℕ) (lines : List NamedLine) → IsScript lines script → parsed script ≡ Ok lines
script_read script lines is =
    let whole : script ≡ pieces_text is.pieces ++ [] = is.text ∙ sym (append-nil (pieces_text is.pieces)) in
    let few : length (sessions_of (pieces_lines is.pieces)) ≤ session_limit = subst (λ ls. length (sessions_of ls) ≤ session_limit) is.are is.sessions in
    let all = walk is.pieces is.each [] (to_the_end is.pieces is.ended) (length script) 1 [] [] few (omega (arith, ap length whole)) in
    within script is.size ∙ ap (lines_at (length script) 1 [] []) whole ∙ all.same
    ∙ none_left all.left (1 + count_by (nat_eq 10) (pieces_text is.pieces)) (pieces_lines is.pieces) (sessions_of (pieces_lines is.pieces))
    ∙ ap Ok (sym is.are)

-- ---- faults

-- the fault of a line behind good ones is the script's
fault_behind : (script : List ℕ) (lines : List NamedLine) (front rest : List ℕ) (fault : LineFault) → length script ≤ script_limit → script ≡ front ++ rest → AreBefore lines front → 1 ≤ length rest
    → line_at (sessions_of lines) (first_line rest).0 (first_line rest).1 ≡ Err fault → parsed script ≡ Err (fault_at (line_number front) fault)
fault_behind script lines front rest fault size text before some e =
    let pieces = before.pieces in
    let whole : script ≡ pieces_text pieces ++ rest = text ∙ ap (λ t. t ++ rest) before.text in
    let few : length (sessions_of (pieces_lines pieces)) ≤ session_limit = subst (λ ls. length (sessions_of ls) ≤ session_limit) before.are before.sessions in
    let all = walk pieces before.each rest (with_ends pieces rest before.ended) (length script) 1 [] [] few (omega (arith, ap length whole)) in
    let here = subst (λ ls. line_at (sessions_of ls) (first_line rest).0 (first_line rest).1 ≡ Err fault) before.are e in
    within script size ∙ ap (lines_at (length script) 1 [] []) whole ∙ all.same
    ∙ faulty all.left (1 + count_by (nat_eq 10) (pieces_text pieces)) (pieces_lines pieces) (sessions_of (pieces_lines pieces)) rest fault some all.enough here
    ∙ ap (λ t. Err (fault_at (line_number t) fault)) (sym before.text)

pub bad_read : (script : List ℕ) (k : ℕ) → IsBadLine script k → parsed script ≡ Err (ScriptFault.BadLine k)
bad_read script k is = by_line (line_at names (first_line is.rest).0 (first_line is.rest).1) refl
  where
    names : List (List ℕ)
    names = sessions_of is.lines

    by_line : (r : Result TakenLine LineFault) → line_at (sessions_of is.lines) (first_line is.rest).0 (first_line is.rest).1 ≡ r → parsed script ≡ Err (ScriptFault.BadLine k)
    by_line (Ok taken) e = absurd (is.bad (taken_well is.lines (sessions_of is.lines) refl is.before.sessions is.rest taken e))
    by_line (Err LineFault.short) e = absurd (is.not_short (taken_short is.lines (sessions_of is.lines) refl is.before.sessions is.rest e))
    by_line (Err LineFault.bad) e = fault_behind script is.lines is.front is.rest LineFault.bad is.size is.text is.before is.some e ∙ ap (λ n. Err (ScriptFault.BadLine n)) (sym is.is)

pub short_read : (script : List ℕ) (k : ℕ) → IsShortLiteral script k → parsed script ≡ Err (ScriptFault.ShortLiteral k)
short_read script k is =
    let begins = is.short in
    let start = begins.starts in
    let some : 1 ≤ length is.rest = omega (arith, start.named.size, ap length begins.text, length-append (begins.start ++ begins.ending) begins.bytes, length-append begins.start begins.ending, ap length start.text, length-append (begins.session ++ codes " ") start.command_text, length-append begins.session (codes " ")) in
    fault_behind script is.lines is.front is.rest LineFault.short is.size is.text is.before some (short_taken is.lines (sessions_of is.lines) refl is.before.sessions is.rest is.short)
    ∙ ap (λ n. Err (ScriptFault.ShortLiteral n)) (sym is.is)

pub long_read : (script : List ℕ) → IsTooLong script → parsed script ≡ Err ScriptFault.TooLong
long_read script long = beyond script long
