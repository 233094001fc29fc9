-- The lines of a script, one more at a time, and the sessions that they name.
use Rattle.std.proofs.Common.{◌≡◌, ℕ, ◌+◌, ◌-◌, ◌<◌, ◌≤◌, Bool, true, false, List, [], ◌∷◌, ◌++◌, length, get_or, take, drop, map, fold, refl, sym, ◌∙◌, ap, subst, arith, length-append, length-drop, length-take}
use Rattle.std.specs.Prelude.{◌||◌}
use Rattle.std.specs.List.{list_any}
use Rattle.std.specs.Str.{bytes_eq}
use Rattle.std.proofs.lemmas.List.{drop_more, length-map, map-append, map_more, take-append-drop, take_more}
use Rattle.std.proofs.lemmas.List.Sums.{count_by-le-length, fold-append}
use Rattle.std.proofs.lemmas.Slice.Eq.{bytes_eq-Decides}
use Rattle.dv_formats.specs.Scripts.{NamedLine, and_session, sessions_of}
use Rattle.dv_serial.specs.declared.numbers.Seen.{Seen}
use Rattle.dv_serial.specs.declared.numbers.Turn.{Turn}
use Rattle.dv_serial.specs.Numbering.{AreSeen, commands_in}
use Rattle.dv_serial.specs.Numbering.{turn_behind}
use Rattle.dv_serving.specs.Scripts.{number_among, numbered, numbered_by}

-- ---- numbers among names

-- a name that is there keeps its number where names are added
known_stays : (names more : List (List ℕ)) (name : List ℕ) → list_any (bytes_eq name) names ≡ true
    → (number_among (names ++ more) name ≡ number_among names name)
    × (list_any (bytes_eq name) (names ++ more) ≡ true)
known_stays [] more name known = absurd cc
known_stays (first ∷ names) more name known = by_test (bytes_eq name first) refl known (known_stays names more name)
  where
    by_test : (t : Bool) → bytes_eq name first ≡ t
        → list_any (bytes_eq name) (first ∷ names) ≡ true
        → (list_any (bytes_eq name) names ≡ true → (number_among (names ++ more) name ≡ number_among names name)
        × (list_any (bytes_eq name) (names ++ more) ≡ true))
        → (number_among (first ∷ names ++ more) name ≡ number_among (first ∷ names) name)
        × (list_any (bytes_eq name) (first ∷ names ++ more) ≡ true)
    by_test true e is rest = rw e (refl, refl)
    by_test false e is rest =
        let others : list_any (bytes_eq name) names ≡ true = subst (λ t. (t || list_any (bytes_eq name) names) ≡ true) e is in
        rw e (ap (λ n. 1 + n) (rest others).0, (rest others).1)

-- so is the number of one that is added
unknown_stays : (names more : List (List ℕ)) (name : List ℕ) → list_any (bytes_eq name) names ≡ false
    → (number_among (names ++ name ∷ more) name ≡ number_among names name)
    × (list_any (bytes_eq name) (names ++ name ∷ more) ≡ true)
unknown_stays [] more name unknown =
    let same : bytes_eq name name ≡ true = (bytes_eq-Decides name name).1 refl in rw same (refl, refl)
unknown_stays (first ∷ names) more name unknown = by_test (bytes_eq name first) refl unknown (unknown_stays names more name)
  where
    by_test : (t : Bool) → bytes_eq name first ≡ t
        → list_any (bytes_eq name) (first ∷ names) ≡ false
        → (list_any (bytes_eq name) names ≡ false → (number_among (names ++ name ∷ more) name ≡ number_among names name)
        × (list_any (bytes_eq name) (names ++ name ∷ more) ≡ true))
        → (number_among (first ∷ names ++ name ∷ more) name ≡ number_among (first ∷ names) name)
        × (list_any (bytes_eq name) (first ∷ names ++ name ∷ more) ≡ true)
    by_test true e is rest =
        let clash : true ≡ false = subst (λ t. (t || list_any (bytes_eq name) names) ≡ false) e is in absurd cc
    by_test false e is rest =
        let others : list_any (bytes_eq name) names ≡ false = subst (λ t. (t || list_any (bytes_eq name) names) ≡ false) e is in
        rw e (ap (λ n. 1 + n) (rest others).0, (rest others).1)

-- a number is from 1 to the number of names
number_within : (names : List (List ℕ)) (name : List ℕ) → list_any (bytes_eq name) names ≡ true
    → (1 ≤ number_among names name) × (number_among names name ≤ length names)
number_within [] name known = absurd cc
number_within (first ∷ names) name known = by_test (bytes_eq name first) refl known (number_within names name)
  where
    by_test : (t : Bool) → bytes_eq name first ≡ t
        → list_any (bytes_eq name) (first ∷ names) ≡ true
        → (list_any (bytes_eq name) names ≡ true → (1 ≤ number_among names name) × (number_among names name ≤ length names))
        → (1 ≤ number_among (first ∷ names) name) × (number_among (first ∷ names) name ≤ length (first ∷ names))
    by_test true e is rest = rw e (omega arith, omega arith)
    by_test false e is rest =
        let others : list_any (bytes_eq name) names ≡ true = subst (λ t. (t || list_any (bytes_eq name) names) ≡ true) e is in
        let within = (rest others).1 in
        rw e (omega arith, omega (arith, within))

-- ---- numbers behind lines

-- a further line gives its name a number, and leaves those that there are
one_stays : (names : List (List ℕ)) (line : NamedLine)
    → (number_among (and_session names line) line.0 ≡ number_among names line.0)
    × (list_any (bytes_eq line.0) (and_session names line) ≡ true)
one_stays names line = by_test (list_any (bytes_eq line.0) names) refl
  where
    by_test : (t : Bool) → list_any (bytes_eq line.0) names ≡ t
        → (number_among (and_session names line) line.0 ≡ number_among names line.0)
        × (list_any (bytes_eq line.0) (and_session names line) ≡ true)
    by_test true e = rw e (refl, e)
    by_test false e = rw e (unknown_stays names [] line.0 e)

all_stay : (lines : List NamedLine) (names : List (List ℕ)) (name : List ℕ)
    → list_any (bytes_eq name) names ≡ true
    → (number_among (fold and_session names lines) name ≡ number_among names name)
    × (list_any (bytes_eq name) (fold and_session names lines) ≡ true)
all_stay [] names name known = (refl, known)
all_stay (line ∷ lines) names name known =
    let next = one_more (list_any (bytes_eq line.0) names) refl in
    let rest = all_stay lines (and_session names line) name next.1 in
    (rest.0 ∙ next.0, rest.1)
  where
    one_more : (t : Bool) → list_any (bytes_eq line.0) names ≡ t
        → (number_among (and_session names line) name ≡ number_among names name)
        × (list_any (bytes_eq name) (and_session names line) ≡ true)
    one_more true e = rw e (refl, known)
    one_more false e = rw e (known_stays names (line.0 ∷ []) name known)

-- the number of a line among all names, and among those before it
number_stays : (before : List NamedLine) (line : NamedLine) (behind : List NamedLine)
    → (number_among (sessions_of (before ++ line ∷ behind)) line.0 ≡ number_among (sessions_of before) line.0)
    × (list_any (bytes_eq line.0) (sessions_of (before ++ line ∷ behind)) ≡ true)
number_stays before line behind =
    let one = one_stays (sessions_of before) line in
    let all = all_stay behind (and_session (sessions_of before) line) line.0 one.1 in
    rw (fold-append and_session [] before (line ∷ behind)) (all.0 ∙ one.0, all.1)

-- there are no more sessions than lines
few_sessions : (lines : List NamedLine) (names : List (List ℕ))
    → length (fold and_session names lines) ≤ length names + length lines
few_sessions [] names = omega arith
few_sessions (line ∷ lines) names = by_test (list_any (bytes_eq line.0) names) refl (few_sessions lines (and_session names line))
  where
    by_test : (t : Bool) → list_any (bytes_eq line.0) names ≡ t
        → length (fold and_session (and_session names line) lines) ≤ length (and_session names line) + length lines
        → length (fold and_session (and_session names line) lines) ≤ length names + length (line ∷ lines)
    by_test true e rest = let less = rw e at rest in rw e (omega (arith, less))
    by_test false e rest = let less = rw e at rest in rw e (omega (arith, less, length-append names (line.0 ∷ [])))

-- ---- counts

pub seen_sessions : (before : List NamedLine) (seen : List Seen) → AreSeen before seen
    → (length seen ≡ length (sessions_of before)) × (length seen ≤ length before)
seen_sessions before seen so_far =
    let same = sym (length-map seen (λ (s : Seen). s.name)) ∙ ap length so_far.names in
    (same, omega (arith, same, few_sessions before []))

pub seen_commands : (before : List NamedLine) (seen : List Seen) (name : List ℕ) → AreSeen before seen
    → commands_in seen name ≤ length before
seen_commands before seen name so_far =
    omega (arith, so_far.commands name, count_by-le-length (λ (l : NamedLine). bytes_eq l.0 name) before)

-- ---- a line's turn

-- this line of a script is given by the session of this number
pub record IsNext (lines : List NamedLine) (i session : ℕ) (line : NamedLine) : Type 0 where
  pub less : i < length lines
  pub is : line ≡ get_or lines i line
  pub number : session ≡ number_among (sessions_of lines) line.0

parts_at : (lines : List NamedLine) (i : ℕ) (line : NamedLine) → i < length lines → line ≡ get_or lines i line
    → lines ≡ take i lines ++ line ∷ drop (i + 1) lines
parts_at lines i line less is =
    sym (take-append-drop i lines) ∙ ap (λ l. take i lines ++ l) (drop_more lines i line less ∙ ap (λ l. l ∷ drop (i + 1) lines) (sym is))

-- its session is one of those that the lines name
pub next_seat : (lines : List NamedLine) (i session : ℕ) (line : NamedLine) → IsNext lines i session line
    → (1 ≤ session) × (session ≤ length (sessions_of lines))
next_seat lines i session line next =
    let known = subst (λ ls. list_any (bytes_eq line.0) (sessions_of ls) ≡ true) (sym (parts_at lines i line next.less next.is)) (number_stays (take i lines) line (drop (i + 1) lines)).1 in
    let within = number_within (sessions_of lines) line.0 known in
    (omega (arith, within.0, next.number), omega (arith, within.1, next.number))

-- the lines by their numbers, up to this one and from it on
pub numbers_more : (lines : List NamedLine) (i session : ℕ) (line : NamedLine) → IsNext lines i session line
    → map (numbered_by (sessions_of lines)) (take (i + 1) lines) ≡ map (numbered_by (sessions_of lines)) (take i lines) ++ (session, line.1) ∷ []
numbers_more lines i session line next =
    map_more (numbered_by (sessions_of lines)) lines i line next.less
    ∙ ap (λ (l : NamedLine). map (numbered_by (sessions_of lines)) (take i lines) ++ numbered_by (sessions_of lines) l ∷ []) (sym next.is)
    ∙ ap (λ (n : ℕ). map (numbered_by (sessions_of lines)) (take i lines) ++ (n, line.1) ∷ []) (sym next.number)

pub numbers_parts : (lines : List NamedLine) (i session : ℕ) (line : NamedLine) → IsNext lines i session line
    → numbered lines ≡ map (numbered_by (sessions_of lines)) (take i lines) ++ (session, line.1) ∷ map (numbered_by (sessions_of lines)) (drop (i + 1) lines)
numbers_parts lines i session line next =
    ap (map (numbered_by (sessions_of lines))) (parts_at lines i line next.less next.is)
    ∙ map-append (numbered_by (sessions_of lines)) (take i lines) (line ∷ drop (i + 1) lines)
    ∙ ap (λ (n : ℕ). map (numbered_by (sessions_of lines)) (take i lines) ++ (n, line.1) ∷ map (numbered_by (sessions_of lines)) (drop (i + 1) lines)) (sym next.number)

-- ---- lines that are left

-- how many lines are given, where these are left
abbrev pub given : List NamedLine → List NamedLine → ℕ
given all left = length all - length left

-- these are left behind the ones that are given
abbrev pub AreLeft : List NamedLine → List NamedLine → Type 0
AreLeft all left = left ≡ drop (given all left) all

-- all are, at first
pub all_left : (all : List NamedLine) → (given all all ≡ 0) × AreLeft all all
all_left all =
    let none : given all all ≡ 0 = omega arith in
    (none, sym (ap (λ n. drop n all) none))

-- one line more is given
pub record IsGiven (all left after : List NamedLine) (line : NamedLine) : Type 0 where
  pub less : given all left < length all
  pub is : line ≡ get_or all (given all left) line
  pub one : given all after ≡ given all left + 1
  pub are : AreLeft all after

pub one_given : (all left after : List NamedLine) (line : NamedLine) → AreLeft all left → left ≡ line ∷ after → IsGiven all left after line
one_given all left after line are is =
    let i = given all left in
    let long : length left ≡ length all - i = ap length are ∙ length-drop i all in
    let many : length left ≡ length after + 1 = ap length is ∙ omega arith in
    let less : i < length all = omega (arith, long, many) in
    let one : given all after ≡ i + 1 = omega (arith, long, many) in
    let parts : line ∷ after ≡ get_or all i line ∷ drop (i + 1) all = sym is ∙ are ∙ drop_more all i line less in
    record {
      less = less;
      is = ap (λ l. get_or l 0 line) parts;
      one = one;
      are = ap (drop 1) parts ∙ sym (ap (λ n. drop n all) one);
    }

-- the sessions of the lines with it
pub seen_given : (all left after : List NamedLine) (line : NamedLine) (seen : List Seen) → IsGiven all left after line
    → AreSeen (take (given all left) all ++ line ∷ []) seen → AreSeen (take (given all after) all) seen
seen_given all left after line seen next are =
    subst (λ ls. AreSeen ls seen)
    (sym (ap (λ n. take n all) next.one ∙ take_more all (given all left) line next.less ∙ ap (λ (l : NamedLine). take (given all left) all ++ l ∷ []) (sym next.is))) are

-- and its own, which is numbered among those before it
pub turn_given : (all left after : List NamedLine) (line : NamedLine) (turn : Turn) → IsGiven all left after line
    → turn ≡ turn_behind (sessions_of (take (given all left) all)) (take (given all left) all) line
    → IsNext all (given all left) turn.session line
turn_given all left after line turn next turn_is =
    let i = given all left in
    let stays = (number_stays (take i all) line (drop (i + 1) all)).0 in
    record {
      less = next.less;
      is = next.is;
      number = ap (λ (t : Turn). t.session) turn_is ∙ sym stays ∙ ap (λ ls. number_among (sessions_of ls) line.0) (sym (parts_at all i line next.less next.is));
    }

-- the first of the lines that are left, by its session's number
pub first_given : (all left after : List NamedLine) (line : NamedLine) → IsGiven all left after line
    → IsNext all (given all left) (number_among (sessions_of all) line.0) line
first_given all left after line next = record { less = next.less; is = next.is; number = refl }

-- there are no more sessions than lines that are given
pub few_given : (all left : List NamedLine) (seen : List Seen) → AreSeen (take (given all left) all) seen
    → (length seen ≤ given all left) × ((name : List ℕ) → commands_in seen name ≤ given all left)
few_given all left seen are =
    let few : length (take (given all left) all) ≤ given all left = omega (arith, length-take (given all left) all) in (
      omega (arith, (seen_sessions (take (given all left) all) seen are).1, few),
      λ name. omega (arith, seen_commands (take (given all left) all) seen name are, few),
    )

-- where some are left, the first is
pub some_left : (left : List NamedLine) → (left ≡ [] → ⊥) → (line : NamedLine) × (after : List NamedLine) × (left ≡ line ∷ after)
some_left [] some = absurd (some refl)
some_left (line ∷ after) some = (line, after, refl)
