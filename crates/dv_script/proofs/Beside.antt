-- A script beside whose sessions one stands that no line names.
use Rattle.std.proofs.Common.{◌≡◌, ◌⊎◌, inl, inr, ⊎_elim, ℕ, suc, zero, ◌+◌, ◌-◌, ◌<◌, ◌≤◌, Bool, true, false, cond, List, [], ◌∷◌, ◌++◌, length, drop, take, fold, Option, Some, None, Result, Ok, Err, codes, nat_lt, refl, sym, ◌∙◌, ap, subst, arith}
use Rattle.std.specs.Prelude.{All, IfOk}
use Rattle.std.specs.List.{list_any}
use Rattle.std.specs.Str.{bytes_eq}
use Rattle.std.proofs.lemmas.Bool.{ltb-false, ltb-true}
use Rattle.std.proofs.lemmas.List.{length-append}
use Rattle.std.proofs.lemmas.List.Elements.{All-head, All-tail}
use Rattle.std.proofs.lemmas.List.Sums.{fold-append}
use Rattle.dv_model.specs.declared.types.Command.{Command}
use Rattle.dv_model.specs.declared.types.Command.TheVariants as command
use Rattle.dv_formats.specs.Scripts.{IsScript, NamedLine, and_session, line_limit, script_limit, session_limit, sessions_of}
use Rattle.dv_formats.specs.Parsing.{LineFault, ScriptFault, TakenLine, after, append_of, as_list, behind_line_end, command_at, command_of, fault_at, feeds_before, first_line, is_skipped, line_at, lines_at, literal_at, parsed, session_at}
use Rattle.dv_grammar.proofs.GrammarScripts.{script_read}
use Rattle.dv_grammar.proofs.NamedLines.{session_takes}
use Rattle.dv_grammar.proofs.ReadScripts.{HasLines, script_sound}
use Rattle.dv_grammar.proofs.Steps.{faulty, none_left, step}
use Rattle.dv_script.specs.declared.types.ScriptEnd.{ScriptEnd}
use Rattle.dv_script.specs.declared.script_lines.Script.{Script}
use Rattle.dv_script.specs.Opened.{OpensAs, lines_left}
use Rattle.dv_script.specs.Rests.{left_from}
use Rattle.dv_script.specs.Sources.{ScriptFails}
use Rattle.dv_script.specs.Beside.{HasName, parsed_among, parsed_beside, unnamed}
use Rattle.dv_script.proofs.LineByLine.{beyond_limit, within_limit}
use Rattle.dv_script.proofs.Rests.{left_is, read_is, shorter}

-- ---- names

not_empty : (name : List ℕ) → 1 ≤ length name → bytes_eq name [] ≡ false
not_empty [] some = absurd (omega (arith, some))
not_empty (x ∷ name) some = refl

known_beside : (name : List ℕ) (names : List (List ℕ)) → 1 ≤ length name → list_any (bytes_eq name) ([] ∷ names) ≡ list_any (bytes_eq name) names
known_beside [] names some = absurd (omega (arith, some))
known_beside (x ∷ name) names some = refl

session_beside : (names : List (List ℕ)) (line : NamedLine) → HasName line → and_session ([] ∷ names) line ≡ [] ∷ and_session names line
session_beside names line named = by_known (list_any (bytes_eq line.0) names) refl
  where
    by_known : (t : Bool) → list_any (bytes_eq line.0) names ≡ t → and_session ([] ∷ names) line ≡ [] ∷ and_session names line
    by_known true is = rw (known_beside line.0 names named, is) refl
    by_known false is = rw (known_beside line.0 names named, is) refl

pub sessions_beside : (lines : List NamedLine) (names : List (List ℕ)) → All HasName lines → fold and_session ([] ∷ names) lines ≡ [] ∷ fold and_session names lines
sessions_beside [] names named = refl
sessions_beside (line ∷ lines) names named =
    ap (λ ns. fold and_session ns lines) (session_beside names line (All-head HasName line lines named))
    ∙ sessions_beside lines (and_session names line) (All-tail HasName line lines named)

-- so there is one name more
pub beside_count : (lines : List NamedLine) → All HasName lines → length (fold and_session unnamed lines) ≡ length (sessions_of lines) + 1
beside_count lines named = ap length (sessions_beside lines [] named) ∙ omega arith

-- without others it is what the script says
pub parsed_is : (b : List ℕ) → parsed b ≡ parsed_among [] b
unfolding parsed
parsed_is b = refl

-- ---- lines

-- what was read behind one name more
abbrev lift : Result TakenLine LineFault → Result TakenLine LineFault
lift (Ok taken) = Ok (taken.0, [] ∷ taken.1, taken.2)
lift (Err fault) = Err fault

literal_beside : (name : List ℕ) (names : List (List ℕ)) (start : (ℕ × List (List ℕ)) × ℕ) (b : List ℕ) → literal_at name ([] ∷ names) start b ≡ lift (literal_at name names start b)
unfolding literal_at
literal_beside name names start b = by_short (nat_lt (length b) start.1) refl
  where
    by_end : (r : Option (List ℕ)) → nat_lt (length b) start.1 ≡ false → behind_line_end (drop start.1 b) ≡ r → literal_at name ([] ∷ names) start b ≡ lift (literal_at name names start b)
    by_end None few is = rw few (rw is refl)
    by_end (Some next) few is = rw few (rw is refl)

    by_short : (t : Bool) → nat_lt (length b) start.1 ≡ t → literal_at name ([] ∷ names) start b ≡ lift (literal_at name names start b)
    by_short true few = rw few refl
    by_short false few = by_end (behind_line_end (drop start.1 b)) few refl

command_beside : (name : List ℕ) (names : List (List ℕ)) (text b : List ℕ) → command_at name ([] ∷ names) text b ≡ lift (command_at name names text b)
unfolding command_at
command_beside name names text b = by_append (after (codes "APPEND ") text) refl
  where
    by_command : (r : Option Command) → after (codes "APPEND ") text ≡ None → command_of text ≡ r → command_at name ([] ∷ names) text b ≡ lift (command_at name names text b)
    by_command None one two = rw one (rw two refl)
    by_command (Some c) one two = rw one (rw two refl)

    by_start : (words : List ℕ) (r : Option ((ℕ × List (List ℕ)) × ℕ)) → after (codes "APPEND ") text ≡ Some words → append_of words ≡ r → command_at name ([] ∷ names) text b ≡ lift (command_at name names text b)
    by_start words None one two = rw one (rw two refl)
    by_start words (Some start) one two = rw one (rw two (literal_beside name names start b))

    by_append : (r : Option (List ℕ)) → after (codes "APPEND ") text ≡ r → command_at name ([] ∷ names) text b ≡ lift (command_at name names text b)
    by_append None one = by_command (command_of text) one refl
    by_append (Some words) one = by_start words (append_of words) one refl

-- the names stay in a command
bad_names : {A : Type 0} (fault : LineFault) (taken : TakenLine) → ◌≡◌ {A = Result TakenLine LineFault} (Err fault) (Ok taken) → A
bad_names fault taken e = absurd cc

ok_names : (line : Option NamedLine) (names : List (List ℕ)) (rest : List ℕ) (taken : TakenLine) → ◌≡◌ {A = Result TakenLine LineFault} (Ok (line, names, rest)) (Ok taken) → taken.1 ≡ names
ok_names line names rest taken e = sym (ap names_in e)
  where
    names_in : Result TakenLine LineFault → List (List ℕ)
    names_in (Ok x) = x.1
    names_in (Err fault) = names

literal_names : (name : List ℕ) (names : List (List ℕ)) (start : (ℕ × List (List ℕ)) × ℕ) (b : List ℕ) (taken : TakenLine) → literal_at name names start b ≡ Ok taken → taken.1 ≡ names
unfolding literal_at
literal_names name names start b taken e = by_short (nat_lt (length b) start.1) refl
  where
    by_end : (r : Option (List ℕ)) → nat_lt (length b) start.1 ≡ false → behind_line_end (drop start.1 b) ≡ r → taken.1 ≡ names
    by_end None few is = bad_names LineFault.bad taken (sym (rw few (rw is refl)) ∙ e)
    by_end (Some next) few is = ok_names (Some (name, command.Append start.0.0 start.0.1 (take start.1 b))) names next taken (sym (rw few (rw is refl)) ∙ e)

    by_short : (t : Bool) → nat_lt (length b) start.1 ≡ t → taken.1 ≡ names
    by_short true few = bad_names LineFault.short taken (sym (rw few refl) ∙ e)
    by_short false few = by_end (behind_line_end (drop start.1 b)) few refl

command_names : (name : List ℕ) (names : List (List ℕ)) (text b : List ℕ) (taken : TakenLine) → command_at name names text b ≡ Ok taken → taken.1 ≡ names
unfolding command_at
command_names name names text b taken e = by_append (after (codes "APPEND ") text) refl
  where
    by_command : (r : Option Command) → after (codes "APPEND ") text ≡ None → command_of text ≡ r → taken.1 ≡ names
    by_command None one two = bad_names LineFault.bad taken (sym (rw one (rw two refl)) ∙ e)
    by_command (Some c) one two = ok_names (Some (name, c)) names b taken (sym (rw one (rw two refl)) ∙ e)

    by_start : (words : List ℕ) (r : Option ((ℕ × List (List ℕ)) × ℕ)) → after (codes "APPEND ") text ≡ Some words → append_of words ≡ r → taken.1 ≡ names
    by_start words None one two = bad_names LineFault.bad taken (sym (rw one (rw two refl)) ∙ e)
    by_start words (Some start) one two = literal_names name names start b taken (sym (rw one (rw two refl)) ∙ e)

    by_append : (r : Option (List ℕ)) → after (codes "APPEND ") text ≡ r → taken.1 ≡ names
    by_append None one = by_command (command_of text) one refl
    by_append (Some words) one = by_start words (append_of words) one refl

-- a line is read alike beside the other session, unless it names the last session that there may be
abbrev IsBeside : List (List ℕ) → List ℕ → List ℕ → Type 0
IsBeside names text b =
    (line_at ([] ∷ names) text b ≡ lift (line_at names text b))
    ⊎ ((line_at ([] ∷ names) text b ≡ Err LineFault.bad) × ((taken : TakenLine) → line_at names text b ≡ Ok taken → session_limit ≤ length taken.1))

line_beside : (names : List (List ℕ)) (text b : List ℕ) → IsBeside names text b
unfolding line_at
line_beside names text b = by_long (nat_lt line_limit (length text)) refl
  where
    by_room : (session : List ℕ × List ℕ) (u v : Bool) → nat_lt line_limit (length text) ≡ false → is_skipped text ≡ false → session_at text ≡ Some session
        → bytes_eq session.0 [] ≡ false → list_any (bytes_eq session.0) names ≡ false
        → nat_lt (length names) session_limit ≡ u → nat_lt (suc (length names)) session_limit ≡ v → IsBeside names text b
    by_room session true true one two three none new few fewer =
        inl (rw (one, two, three, none, new, few, fewer) (command_beside session.0 (names ++ session.0 ∷ []) session.1 b))
    by_room session true false one two three none new few fewer =
        inr (
          rw (one, two, three, none, new, fewer) refl,
          λ taken read.
              let is = command_names session.0 (names ++ session.0 ∷ []) session.1 b taken (sym (rw (one, two, three, new, few) refl) ∙ read) in
              omega (arith, ap length is, length-append names (session.0 ∷ []), ltb-false (suc (length names)) session_limit fewer),
        )
    by_room session false true one two three none new few fewer =
        absurd (omega (arith, ltb-false (length names) session_limit few, ltb-true (suc (length names)) session_limit fewer))
    by_room session false false one two three none new few fewer = inl (rw (one, two, three, none, new, few, fewer) refl)

    by_known : (session : List ℕ × List ℕ) (t : Bool) → nat_lt line_limit (length text) ≡ false → is_skipped text ≡ false → session_at text ≡ Some session → list_any (bytes_eq session.0) names ≡ t → IsBeside names text b
    by_known session true one two three known =
        let none = not_empty session.0 (session_takes text session three).0.size.0 in
        inl (rw (one, two, three, none, known) (command_beside session.0 names session.1 b))
    by_known session false one two three new =
        let none = not_empty session.0 (session_takes text session three).0.size.0 in
        by_room session (nat_lt (length names) session_limit) (nat_lt (suc (length names)) session_limit) one two three none new refl refl

    by_session : (r : Option (List ℕ × List ℕ)) → nat_lt line_limit (length text) ≡ false → is_skipped text ≡ false → session_at text ≡ r → IsBeside names text b
    by_session None one two three = inl (rw (one, two, three) refl)
    by_session (Some session) one two three = by_known session (list_any (bytes_eq session.0) names) one two three refl

    by_skipped : (t : Bool) → nat_lt line_limit (length text) ≡ false → is_skipped text ≡ t → IsBeside names text b
    by_skipped true one two = inl (rw (one, two) refl)
    by_skipped false one two = by_session (session_at text) one two refl

    by_long : (t : Bool) → nat_lt line_limit (length text) ≡ t → IsBeside names text b
    by_long true one = inl (rw one refl)
    by_long false one = by_skipped (is_skipped text) one refl

-- ---- scripts

fold_longer : (lines : List NamedLine) (names : List (List ℕ)) → length names ≤ length (fold and_session names lines)
fold_longer [] names = omega arith
fold_longer (line ∷ lines) names = by_known (list_any (bytes_eq line.0) names) (fold_longer lines (and_session names line))
  where
    by_known : (t : Bool) → length (cond t names (names ++ line.0 ∷ [])) ≤ length (fold and_session (cond t names (names ++ line.0 ∷ [])) lines)
        → length names ≤ length (fold and_session (cond t names (names ++ line.0 ∷ [])) lines)
    by_known true longer = longer
    by_known false longer = omega (arith, longer, length-append names (line.0 ∷ []))

sessions_longer : (before more : List NamedLine) → length (sessions_of before) ≤ length (sessions_of (before ++ more))
sessions_longer before more = omega (arith, fold_longer more (sessions_of before), ap length (fold-append and_session [] before more))

unread : {A : Type 0} (most k : ℕ) (lines : List NamedLine) (names : List (List ℕ)) (b : List ℕ) (fault : LineFault) (all : List NamedLine) → 0 < length b → length b ≤ most
    → line_at names (first_line b).0 (first_line b).1 ≡ Err fault → lines_at most k lines names b ≡ Ok all → A
unread most k lines names b fault all some enough is read =
    let e : Err (fault_at k fault) ≡ Ok all = sym (faulty most k lines names b fault some enough is) ∙ read in
    absurd cc

-- the text of a first line, and what stands behind it
abbrev read_first : List (List ℕ) → List ℕ → Result TakenLine LineFault
read_first names b = line_at names (first_line b).0 (first_line b).1

first_beside : (names : List (List ℕ)) (b : List ℕ) → (read_first ([] ∷ names) b ≡ lift (read_first names b))
    ⊎ ((read_first ([] ∷ names) b ≡ Err LineFault.bad) × ((taken : TakenLine) → read_first names b ≡ Ok taken → session_limit ≤ length taken.1))
first_beside names b = line_beside names (first_line b).0 (first_line b).1

-- what is read beside the other session is read without it
read_without : (most k : ℕ) (lines : List NamedLine) (names : List (List ℕ)) (b : List ℕ) (all : List NamedLine) → length b ≤ most
    → lines_at most k lines ([] ∷ names) b ≡ Ok all → lines_at most k lines names b ≡ Ok all
read_without most k lines names [] all enough read = none_left most k lines names ∙ sym (none_left most k lines ([] ∷ names)) ∙ read
read_without zero k lines names (x ∷ b) all enough read = absurd (omega (arith, enough))
read_without (suc most) k lines names (x ∷ b) all enough read = by_line (read_first names (x ∷ b)) refl
    (λ taken less onward. read_without most (k + feeds_before (x ∷ b) taken.2) (lines ++ as_list taken.0) taken.1 taken.2 all less onward)
  where
    by_line : (r : Result TakenLine LineFault) → read_first names (x ∷ b) ≡ r
        → ((taken : TakenLine) → length taken.2 ≤ most → lines_at most (k + feeds_before (x ∷ b) taken.2) (lines ++ as_list taken.0) ([] ∷ taken.1) taken.2 ≡ Ok all
        → lines_at most (k + feeds_before (x ∷ b) taken.2) (lines ++ as_list taken.0) taken.1 taken.2 ≡ Ok all)
        → lines_at (suc most) k lines names (x ∷ b) ≡ Ok all
    by_line (Err fault) is onward = ⊎_elim
        (λ same. unread (suc most) k lines ([] ∷ names) (x ∷ b) fault all (omega arith) enough (same ∙ ap lift is) read)
        (λ full. unread (suc most) k lines ([] ∷ names) (x ∷ b) LineFault.bad all (omega arith) enough full.0 read) (first_beside names (x ∷ b))
    by_line (Ok taken) is onward = ⊎_elim
        (λ same.
        let less = shorter names (x ∷ b) taken (omega arith) (read_is names (x ∷ b) taken is) in
        let fewer : suc most - 1 ≡ most = omega arith in
        let here = ap (λ n. lines_at n (k + feeds_before (x ∷ b) taken.2) (lines ++ as_list taken.0) ([] ∷ taken.1) taken.2) (sym fewer)
        ∙ sym (step (suc most) k lines ([] ∷ names) (x ∷ b) (taken.0, [] ∷ taken.1, taken.2) (omega arith) enough (same ∙ ap lift is)) ∙ read in
        step (suc most) k lines names (x ∷ b) taken (omega arith) enough is
        ∙ ap (λ n. lines_at n (k + feeds_before (x ∷ b) taken.2) (lines ++ as_list taken.0) taken.1 taken.2) fewer
        ∙ onward taken (omega (arith, enough, less)) here)
        (λ full. unread (suc most) k lines ([] ∷ names) (x ∷ b) LineFault.bad all (omega arith) enough full.0 read) (first_beside names (x ∷ b))

-- and what is read without it of fewer sessions than there may be is read beside it
few_read : (most k : ℕ) (lines : List NamedLine) (names : List (List ℕ)) (b : List ℕ) (all : List NamedLine) → names ≡ sessions_of lines → length (sessions_of all) < session_limit → length b ≤ most
    → lines_at most k lines names b ≡ Ok all → lines_at most k lines ([] ∷ names) b ≡ Ok all
few_read most k lines names [] all named few enough read = none_left most k lines ([] ∷ names) ∙ sym (none_left most k lines names) ∙ read
few_read zero k lines names (x ∷ b) all named few enough read = absurd (omega (arith, enough))
few_read (suc most) k lines names (x ∷ b) all named few enough read = by_line (read_first names (x ∷ b)) refl
    (λ taken next less onward. few_read most (k + feeds_before (x ∷ b) taken.2) (lines ++ as_list taken.0) taken.1 taken.2 all next few less onward)
  where
    by_line : (r : Result TakenLine LineFault) → read_first names (x ∷ b) ≡ r
        → ((taken : TakenLine) → taken.1 ≡ sessions_of (lines ++ as_list taken.0) → length taken.2 ≤ most → lines_at most (k + feeds_before (x ∷ b) taken.2) (lines ++ as_list taken.0) taken.1 taken.2 ≡ Ok all
        → lines_at most (k + feeds_before (x ∷ b) taken.2) (lines ++ as_list taken.0) ([] ∷ taken.1) taken.2 ≡ Ok all)
        → lines_at (suc most) k lines ([] ∷ names) (x ∷ b) ≡ Ok all
    by_line (Err fault) is onward = unread (suc most) k lines names (x ∷ b) fault all (omega arith) enough is read
    by_line (Ok taken) is onward =
        let taken_is = read_is names (x ∷ b) taken is in
        let less = shorter names (x ∷ b) taken (omega arith) taken_is in
        let short : length taken.2 ≤ most = omega (arith, enough, less) in
        let fewer : suc most - 1 ≡ most = omega arith in
        let next : taken.1 ≡ sessions_of (lines ++ as_list taken.0) = taken_is.named ∙ ap (λ ns. fold and_session ns (as_list taken.0)) named ∙ sym (fold-append and_session [] lines (as_list taken.0)) in
        let here = ap (λ n. lines_at n (k + feeds_before (x ∷ b) taken.2) (lines ++ as_list taken.0) taken.1 taken.2) (sym fewer)
        ∙ sym (step (suc most) k lines names (x ∷ b) taken (omega arith) enough is) ∙ read in
        let rest = left_is most (k + feeds_before (x ∷ b) taken.2) (lines ++ as_list taken.0) taken.1 taken.2 all short here in
        let most_named = sessions_longer (lines ++ as_list taken.0) rest.0 in
        ⊎_elim
        (λ same.
        step (suc most) k lines ([] ∷ names) (x ∷ b) (taken.0, [] ∷ taken.1, taken.2) (omega arith) enough (same ∙ ap lift is)
        ∙ ap (λ n. lines_at n (k + feeds_before (x ∷ b) taken.2) (lines ++ as_list taken.0) ([] ∷ taken.1) taken.2) fewer
        ∙ onward taken next short here)
        (λ full. absurd (omega (arith, full.1 taken is, ap length next, most_named, few, ap (λ ls. length (sessions_of ls)) rest.1))) (first_beside names (x ∷ b))

short_read : (names : List (List ℕ)) (b : List ℕ) (lines : List NamedLine) → parsed_among names b ≡ Ok lines → length b ≤ script_limit
short_read names b lines read = by_test (nat_lt script_limit (length b)) refl
  where
    by_test : (t : Bool) → nat_lt script_limit (length b) ≡ t → length b ≤ script_limit
    by_test true long =
        let e : Err ScriptFault.TooLong ≡ Ok lines = sym (beyond_limit names b (ltb-true script_limit (length b) long)) ∙ read in
        absurd cc
    by_test false short = ltb-false script_limit (length b) short

pub beside_read : (b : List ℕ) (lines : List NamedLine) → parsed_beside b ≡ Ok lines → parsed b ≡ Ok lines
beside_read b lines read =
    let short = short_read unnamed b lines read in
    parsed_is b ∙ within_limit [] b short ∙ read_without (length b) 1 [] [] b lines (omega arith) (sym (within_limit unnamed b short) ∙ read)

pub read_beside : (b : List ℕ) (lines : List NamedLine) → parsed b ≡ Ok lines → length (sessions_of lines) < session_limit → parsed_beside b ≡ Ok lines
read_beside b lines read few =
    let short = short_read [] b lines (sym (parsed_is b) ∙ read) in
    within_limit unnamed b short ∙ few_read (length b) 1 [] [] b lines refl few (omega arith) (sym (within_limit [] b short) ∙ sym (parsed_is b) ∙ read)

-- so a good script with so few sessions is opened, and what is opened is of the grammar
pub opens_beside : (b : List ℕ) (result : Result Script ScriptEnd) (lines : List NamedLine) → OpensAs result (parsed_beside b) → IsScript lines b → length (sessions_of lines) < session_limit → OpensAs result (Ok lines)
opens_beside b result lines opens is few = subst (OpensAs result) (read_beside b lines (script_read b lines is) few) opens

pub found_beside : (b : List ℕ) (result : Result Script ScriptEnd) → OpensAs result (parsed_beside b) → IfOk result (λ script. IsScript (lines_left script.lines) b)
found_beside b (Ok script) opens = subst (HasLines b) (beside_read b (lines_left script.lines) opens) (script_sound b)
found_beside b (Err e) opens = tt

-- ---- a cursor at the first line

pub record IsOpened (names : List (List ℕ)) (b : List ℕ) (count : ℕ) : Type 0 where
  pub lines : parsed_beside b ≡ Ok (left_from names b)
  pub count_is : count ≡ length (sessions_of (left_from names b)) + 1

pub opened : (first names : List (List ℕ)) (b : List ℕ) (count : ℕ) → first ≡ unnamed → names ≡ unnamed → parsed_among first b ≡ Ok (left_from first b)
    → count ≡ length (fold and_session first (left_from first b)) → All HasName (left_from first b) → IsOpened names b count
opened first names b count p q read count_is named = record {
  lines = ap (λ ns. parsed_among ns b) (sym p) ∙ read ∙ ap (λ ns. Ok (left_from ns b)) (p ∙ sym q);
  count_is = count_is ∙ ap (λ ns. length (fold and_session ns (left_from ns b))) p
      ∙ beside_count (left_from unnamed b) (subst (λ ns. All HasName (left_from ns b)) p named)
      ∙ ap (λ ns. length (sessions_of (left_from ns b)) + 1) (sym q);
}

-- ---- no other session

pub fails_alone : (first : List (List ℕ)) (b : List ℕ) (e : ScriptEnd) → first ≡ [] → ScriptFails e (parsed_among first b) → ScriptFails e (parsed b)
fails_alone first b e p fails = subst (ScriptFails e) (ap (λ ns. parsed_among ns b) p ∙ sym (parsed_is b)) fails

pub lines_alone : (first names : List (List ℕ)) (b : List ℕ) → first ≡ [] → names ≡ [] → parsed_among first b ≡ Ok (left_from first b) → parsed b ≡ Ok (left_from names b)
lines_alone first names b p q read = parsed_is b ∙ ap (λ ns. parsed_among ns b) (sym p) ∙ read ∙ ap (λ ns. Ok (left_from ns b)) (p ∙ sym q)
