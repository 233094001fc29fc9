-- What a good script says from a place of it on.
use Rattle.std.proofs.Common.{◌≡◌, ◌≢◌, ◌⊎◌, inl, inr, ℕ, zero, suc, ◌+◌, ◌-◌, ◌<◌, ◌≤◌, Bool, true, false, cond, List, [], ◌∷◌, ◌++◌, length, take, drop, Option, Some, None, Result, Ok, Err, codes, nat_lt, is_ok, refl, sym, ◌∙◌, ap, arith, append_assoc}
use Rattle.std.proofs.lemmas.List.{append-nil, length-append}
use Rattle.dv_model.specs.declared.types.Command.{Command}
use Rattle.dv_model.specs.declared.types.Command.TheVariants as command
use Rattle.dv_formats.specs.Scripts.{NamedLine, line_limit}
use Rattle.dv_formats.specs.Parsing.{LineFault, ScriptFault, TakenLine, after, append_of, as_list, behind_line_end, command_at, command_of, fault_at, feeds_before, first_line, is_skipped, line_at, lines_at, literal_at, session_at, with_session}
use Rattle.dv_grammar.proofs.FirstLines.{first_is}
use Rattle.dv_grammar.proofs.ReadLines.{IsRead, line_sound, no_ok as not_ok}
use Rattle.dv_grammar.proofs.Steps.{faulty, none_left, step}
use Rattle.dv_script.specs.declared.types.Line.{Line}
use Rattle.dv_script.specs.Rests.{BeginsCommand, LeavesOut, is_good, is_passed, left_from, lines_from, or_none}
use Rattle.dv_script.specs.Sources.{IsNext, may_name, named}

ok_one : (xs ys : List NamedLine) → ◌≡◌ {A = Result (List NamedLine) ScriptFault} (Ok xs) (Ok ys) → xs ≡ ys
ok_one xs ys e = cc

no_ok : (fault : ScriptFault) (ys : List NamedLine) → ◌≡◌ {A = Result (List NamedLine) ScriptFault} (Err fault) (Ok ys) → ⊥
no_ok fault ys e = cc

-- what was read of a first line
pub read_is : (names : List (List ℕ)) (b : List ℕ) (taken : TakenLine) → line_at names (first_line b).0 (first_line b).1 ≡ Ok taken → IsRead names b taken
read_is names b taken e = line_sound names b taken (first_is b) e

-- a line takes a byte
pub shorter : (names : List (List ℕ)) (b : List ℕ) (taken : TakenLine) → 0 < length b → IsRead names b taken → length taken.2 < length b
shorter names b taken some read = by_end read.ended
  where
    whole : length b ≡ length read.piece.text + (length read.piece.ending + length taken.2)
    whole = ap length read.whole ∙ length-append read.piece.text (read.piece.ending ++ taken.2) ∙ ap (λ n. length read.piece.text + n) (length-append read.piece.ending taken.2)

    by_end : (((read.piece.ending ≡ 10 ∷ []) ⊎ (read.piece.ending ≡ 13 ∷ 10 ∷ [])) ⊎ ((read.piece.ending ≡ []) × (taken.2 ≡ []))) → length taken.2 < length b
    by_end (inl (inl feed)) = omega (arith, whole, ap length feed)
    by_end (inl (inr both)) = omega (arith, whole, ap length both)
    by_end (inr none) = omega (arith, some, ap length none.1)

-- these lines are left, wherever the bytes stand
pub record AreLeft (names : List (List ℕ)) (b : List ℕ) (more : List NamedLine) : Type 0 where
  pub anywhere : (most k : ℕ) (lines : List NamedLine) → length b ≤ most → lines_at most k lines names b ≡ Ok (lines ++ more)

-- one line more before what is left
before_left : (names : List (List ℕ)) (b : List ℕ) (taken : TakenLine) (more : List NamedLine) → 0 < length b
    → line_at names (first_line b).0 (first_line b).1 ≡ Ok taken → AreLeft taken.1 taken.2 more → AreLeft names b (as_list taken.0 ++ more)
before_left names b taken more some read left = record {
  anywhere = λ most k lines enough.
      let less = shorter names b taken some (read_is names b taken read) in
      step most k lines names b taken some enough read
      ∙ left.anywhere (most - 1) (k + feeds_before b taken.2) (lines ++ as_list taken.0) (omega (arith, enough, less))
      ∙ ap Ok (append_assoc lines (as_list taken.0) more);
}

-- what is read behind other lines is left
pub left_is : (most k : ℕ) (lines : List NamedLine) (names : List (List ℕ)) (b : List ℕ) (all : List NamedLine) → length b ≤ most
    → lines_at most k lines names b ≡ Ok all → (more : List NamedLine) × (all ≡ lines ++ more) × AreLeft names b more
left_is most k lines names [] all enough read = (
  [],
  sym (ok_one lines all (sym (none_left most k lines names) ∙ read)) ∙ sym (append-nil lines),
  record { anywhere = λ m n others some. none_left m n others names ∙ ap Ok (sym (append-nil others)) },
)
left_is zero k lines names (x ∷ b) all enough read = absurd (omega (arith, enough))
left_is (suc most) k lines names (x ∷ b) all enough read = by_line (line_at names (first_line (x ∷ b)).0 (first_line (x ∷ b)).1) refl
    (λ taken less onward. left_is most (k + feeds_before (x ∷ b) taken.2) (lines ++ as_list taken.0) taken.1 taken.2 all (omega (arith, enough, less)) onward)
  where
    by_line : (r : Result TakenLine LineFault) → line_at names (first_line (x ∷ b)).0 (first_line (x ∷ b)).1 ≡ r
        → ((taken : TakenLine) → length taken.2 < length (x ∷ b) → lines_at most (k + feeds_before (x ∷ b) taken.2) (lines ++ as_list taken.0) taken.1 taken.2 ≡ Ok all
        → (more : List NamedLine) × (all ≡ (lines ++ as_list taken.0) ++ more) × AreLeft taken.1 taken.2 more)
        → (more : List NamedLine) × (all ≡ lines ++ more) × AreLeft names (x ∷ b) more
    by_line (Err fault) is onward = absurd (no_ok (fault_at k fault) all (sym (faulty (suc most) k lines names (x ∷ b) fault (omega arith) enough is) ∙ read))
    by_line (Ok taken) is onward =
        let less = shorter names (x ∷ b) taken (omega arith) (read_is names (x ∷ b) taken is) in
        let fewer : suc most - 1 ≡ most = omega arith in
        let here = ap (λ n. lines_at n (k + feeds_before (x ∷ b) taken.2) (lines ++ as_list taken.0) taken.1 taken.2) (sym fewer) ∙ sym (step (suc most) k lines names (x ∷ b) taken (omega arith) enough is) ∙ read in
        let rest = onward taken less here in
        (as_list taken.0 ++ rest.0, rest.1 ∙ append_assoc lines (as_list taken.0) rest.0, before_left names (x ∷ b) taken rest.0 (omega arith) is rest.2)

-- good bytes have the lines that are left
pub good_is : (names : List (List ℕ)) (b : List ℕ) → is_good names b ≡ true → lines_from names b ≡ Ok (left_from names b)
good_is names b good = by_read (lines_from names b) refl good
  where
    by_read : (r : Result (List NamedLine) ScriptFault) → lines_from names b ≡ r → is_ok r ≡ true → lines_from names b ≡ Ok (or_none r)
    by_read (Ok lines) is g = is
    by_read (Err fault) is g = absurd cc

pub is_left : (names : List (List ℕ)) (b : List ℕ) (lines : List NamedLine) → lines_from names b ≡ Ok lines → (is_good names b ≡ true) × (left_from names b ≡ lines)
is_left names b lines e = (ap is_ok e, ap or_none e)

-- behind a first line that was read, the others are left
pub record GoesOn (names : List (List ℕ)) (b : List ℕ) (taken : TakenLine) : Type 0 where
  pub good : is_good taken.1 taken.2 ≡ true
  pub left : left_from names b ≡ as_list taken.0 ++ left_from taken.1 taken.2

pub goes_on : (names : List (List ℕ)) (b : List ℕ) (taken : TakenLine) → is_good names b ≡ true → 0 < length b
    → line_at names (first_line b).0 (first_line b).1 ≡ Ok taken → GoesOn names b taken
goes_on names b taken good some read =
    let less = shorter names b taken some (read_is names b taken read) in
    let here = sym (step (length b) 1 [] names b taken some (omega arith) read) ∙ good_is names b good in
    let rest = left_is (length b - 1) (1 + feeds_before b taken.2) (as_list taken.0) taken.1 taken.2 (left_from names b) (omega (arith, less)) here in
    let last = is_left taken.1 taken.2 rest.0 (rest.2.anywhere (length taken.2) 1 [] (omega arith)) in
    record { good = last.0; left = rest.1 ∙ ap (λ ls. as_list taken.0 ++ ls) (sym last.1) }

-- no line of good bytes has a fault
pub no_fault : (names : List (List ℕ)) (b : List ℕ) (fault : LineFault) → is_good names b ≡ true → 0 < length b
    → line_at names (first_line b).0 (first_line b).1 ≡ Err fault → ⊥
no_fault names b fault good some e = no_ok (fault_at 1 fault) (left_from names b) (sym (faulty (length b) 1 [] names b fault some (omega arith) e) ∙ good_is names b good)

-- nothing is left of no bytes
pub ended : (names : List (List ℕ)) (b : List ℕ) → length b ≡ 0 → (is_good names b ≡ true) × (left_from names b ≡ [])
ended names [] empty = is_left names [] [] (none_left 0 1 [] names)
ended names (x ∷ b) empty = absurd (omega (arith, empty))

-- ---- lines with commands

abbrev command_in : Result TakenLine LineFault → Option NamedLine
command_in (Ok taken) = taken.0
command_in (Err fault) = None

some_none : (line : NamedLine) → Some line ≡ None → ⊥
some_none line e = cc

ok_some : (line : NamedLine) (names others : List (List ℕ)) (b rest : List ℕ) → ◌≡◌ {A = Result TakenLine LineFault} (Ok (Some line, names, b)) (Ok (None, others, rest)) → ⊥
ok_some line names others b rest e = some_none line (ap command_in e)

literal_some : (name : List ℕ) (names : List (List ℕ)) (start : (ℕ × List (List ℕ)) × ℕ) (b : List ℕ) (others : List (List ℕ)) (rest : List ℕ) → literal_at name names start b ≡ Ok (None, others, rest) → ⊥
unfolding literal_at
literal_some name names start b others rest e = by_short (nat_lt (length b) start.1) refl
  where
    by_end : (r : Option (List ℕ)) → nat_lt (length b) start.1 ≡ false → behind_line_end (drop start.1 b) ≡ r → ⊥
    by_end None few is = not_ok LineFault.bad (None, others, rest) (sym (rw few (rw is refl)) ∙ e)
    by_end (Some next) few is = ok_some (name, command.Append start.0.0 start.0.1 (take start.1 b)) names others next rest (sym (rw few (rw is refl)) ∙ e)

    by_short : (t : Bool) → nat_lt (length b) start.1 ≡ t → ⊥
    by_short true few = not_ok LineFault.short (None, others, rest) (sym (rw few refl) ∙ e)
    by_short false few = by_end (behind_line_end (drop start.1 b)) few refl

command_some : (name : List ℕ) (names : List (List ℕ)) (text b : List ℕ) (others : List (List ℕ)) (rest : List ℕ) → command_at name names text b ≡ Ok (None, others, rest) → ⊥
unfolding command_at
command_some name names text b others rest e = by_append (after (codes "APPEND ") text) refl
  where
    by_command : (r : Option Command) → after (codes "APPEND ") text ≡ None → command_of text ≡ r → ⊥
    by_command None one two = not_ok LineFault.bad (None, others, rest) (sym (rw one (rw two refl)) ∙ e)
    by_command (Some c) one two = ok_some (name, c) names others b rest (sym (rw one (rw two refl)) ∙ e)

    by_start : (words : List ℕ) (r : Option ((ℕ × List (List ℕ)) × ℕ)) → after (codes "APPEND ") text ≡ Some words → append_of words ≡ r → ⊥
    by_start words None one two = not_ok LineFault.bad (None, others, rest) (sym (rw one (rw two refl)) ∙ e)
    by_start words (Some start) one two = literal_some name names start b others rest (sym (rw one (rw two refl)) ∙ e)

    by_append : (r : Option (List ℕ)) → after (codes "APPEND ") text ≡ r → ⊥
    by_append None one = by_command (command_of text) one refl
    by_append (Some words) one = by_start words (append_of words) one refl

-- a line that isn't passed has a command, unless it has a fault
pub has_command : (names : List (List ℕ)) (text b : List ℕ) (others : List (List ℕ)) (rest : List ℕ) → is_passed text ≡ false → line_at names text b ≡ Ok (None, others, rest) → ⊥
unfolding line_at is_passed
has_command names text b others rest not e = by_long (nat_lt line_limit (length text)) refl
  where
    by_names : (session : List ℕ × List ℕ) (r : Option (List (List ℕ))) → nat_lt line_limit (length text) ≡ false → is_skipped text ≡ false → session_at text ≡ Some session → with_session names session.0 ≡ r → ⊥
    by_names session None one two three four = not_ok LineFault.bad (None, others, rest) (sym (rw one (rw two (rw three (rw four refl)))) ∙ e)
    by_names session (Some all) one two three four = command_some session.0 all session.1 b others rest (sym (rw one (rw two (rw three (rw four refl)))) ∙ e)

    by_session : (r : Option (List ℕ × List ℕ)) → nat_lt line_limit (length text) ≡ false → is_skipped text ≡ false → session_at text ≡ r → ⊥
    by_session None one two three = not_ok LineFault.bad (None, others, rest) (sym (rw one (rw two (rw three refl))) ∙ e)
    by_session (Some session) one two three = by_names session (with_session names session.0) one two three refl

    by_long : (t : Bool) → nat_lt line_limit (length text) ≡ t → ⊥
    by_long true one = not_ok LineFault.bad (None, others, rest) (sym (rw one refl) ∙ e)
    by_long false one = by_session (session_at text) one (sym (rw one refl) ∙ not) refl

-- a line that is passed has none
passed_is : (names : List (List ℕ)) (text b : List ℕ) → is_passed text ≡ true → line_at names text b ≡ Ok (None, names, b)
unfolding line_at is_passed
passed_is names text b is = by_long (nat_lt line_limit (length text)) refl is
  where
    by_long : (t : Bool) → nat_lt line_limit (length text) ≡ t → cond t false (is_skipped text) ≡ true → line_at names text b ≡ Ok (None, names, b)
    by_long true one two = absurd cc
    by_long false one two = rw one (rw two refl)

-- a line is left out
pub leaves_out : (b rest text end : List ℕ) → text ≡ (first_line rest).0 → end ≡ (first_line rest).1 → 0 < length rest → is_passed text ≡ true → LeavesOut b rest → LeavesOut b end
leaves_out b rest text end p q some passed so_far = λ names good.
    let here : is_good names rest ≡ true = ap is_ok (so_far names good) ∙ good in
    let read : line_at names (first_line rest).0 (first_line rest).1 ≡ Ok (None, names, end) = passed_is names (first_line rest).0 (first_line rest).1 (ap is_passed (sym p) ∙ passed) ∙ ap (λ e. Ok (None, names, e)) (sym q) in
    let onward = goes_on names rest (None, names, end) here some read in
    good_is names end onward.good ∙ ap Ok (sym onward.left) ∙ sym (good_is names rest here) ∙ so_far names good

-- ---- the next line

pub none_next : (names others : List (List ℕ)) (b rest : List ℕ) → is_good names b ≡ true → LeavesOut b rest → length rest ≡ 0 → IsNext (left_from names b) None (left_from others [])
none_next names others b rest good out empty = (ap or_none (sym (out names good)) ∙ (ended names rest empty).1, (ended others [] refl).1)

pub some_next : (names : List (List ℕ)) (b rest : List ℕ) (line : Option Line) (others : List (List ℕ)) (next : List ℕ) → is_good names b ≡ true → LeavesOut b rest → 0 < length rest → BeginsCommand rest
    → line_at names (first_line rest).0 (first_line rest).1 ≡ Ok (may_name line, others, next)
    → (is_good others next ≡ true) × IsNext (left_from names b) line (left_from others next)
some_next names b rest None others next good out some begins read = absurd (has_command names (first_line rest).0 (first_line rest).1 others next begins read)
some_next names b rest (Some line) others next good out some begins read =
    let onward = goes_on names rest (Some (named line), others, next) (ap is_ok (out names good) ∙ good) some read in
    (onward.good, ap or_none (sym (out names good)) ∙ onward.left)

pub some_left : (names : List (List ℕ)) (b rest : List ℕ) → is_good names b ≡ true → LeavesOut b rest → 0 < length rest → BeginsCommand rest → left_from names b ≢ []
some_left names b rest good out some begins empty = by_line (line_at names (first_line rest).0 (first_line rest).1) refl
  where
    here : is_good names rest ≡ true
    here = ap is_ok (out names good) ∙ good

    filled : (line : NamedLine) (lines : List NamedLine) → line ∷ lines ≡ [] → ⊥
    filled line lines e = cc

    by_line : (r : Result TakenLine LineFault) → line_at names (first_line rest).0 (first_line rest).1 ≡ r → ⊥
    by_line (Err fault) is = no_fault names rest fault here some is
    by_line (Ok (None, others, next)) is = has_command names (first_line rest).0 (first_line rest).1 others next begins is
    by_line (Ok (Some line, others, next)) is = filled line (left_from others next) (sym (goes_on names rest (Some line, others, next) here some is).left ∙ ap or_none (out names good) ∙ empty)

pub no_fault_next : (names : List (List ℕ)) (b rest : List ℕ) (fault : LineFault) → is_good names b ≡ true → LeavesOut b rest → 0 < length rest
    → line_at names (first_line rest).0 (first_line rest).1 ≡ Err fault → ⊥
no_fault_next names b rest fault good out some e = no_fault names rest fault (ap is_ok (out names good) ∙ good) some e
