-- The sessions so far, where one more line is given.
use Rattle.std.proofs.Common.{◌≡◌, ℕ, zero, suc, ◌+◌, ◌<◌, Bool, true, false, cond, List, [], ◌∷◌, ◌++◌, length, get_or, map, None, Some, refl, sym, ◌∙◌, ap, arith, nat_lt, set, get_or-set_same}
use Rattle.std.specs.Prelude.{⊤, count_by, position}
use Rattle.std.specs.List.{list_any, position_or_len}
use Rattle.std.specs.Str.{bytes_eq}
use Rattle.std.proofs.Math.Seq.{map-set_same}
use Rattle.std.proofs.lemmas.Bool.{ltb-false}
use Rattle.std.proofs.lemmas.List.{map-append}
use Rattle.std.proofs.lemmas.List.Quantifiers.{position-Some}
use Rattle.std.proofs.lemmas.List.Sums.{fails_before_first, fold_push}
use Rattle.std.proofs.lemmas.Slice.Eq.{bytes_eq-Decides}
use Rattle.dv_model.specs.declared.types.Command.{Command}
use Rattle.dv_formats.specs.Scripts.{NamedLine, and_session, sessions_of}
use Rattle.dv_serial.specs.declared.numbers.Seen.{Seen}
use Rattle.dv_serial.specs.declared.numbers.Turn.{Turn}
use Rattle.dv_serial.specs.Numbering.{AreSeen, commands_in}
use Rattle.dv_serial.specs.Numbering.{turn_behind}
use Rattle.dv_serving.specs.Scripts.{number_among}

-- ---- names

abbrev names_in : List Seen → List (List ℕ)
names_in seen = map (λ (s : Seen). s.name) seen

turned : (a b : List ℕ) → bytes_eq a b ≡ bytes_eq b a
turned a b = by_test (bytes_eq a b) (bytes_eq b a) refl refl
  where
    by_test : (s t : Bool) → bytes_eq a b ≡ s → bytes_eq b a ≡ t → bytes_eq a b ≡ bytes_eq b a
    by_test true true e f = e ∙ sym f
    by_test false false e f = e ∙ sym f
    by_test true false e f = e ∙ sym ((bytes_eq-Decides b a).1 (sym ((bytes_eq-Decides a b).0 e)))
    by_test false true e f = (bytes_eq-Decides a b).1 (sym ((bytes_eq-Decides b a).0 f)) ∙ sym f

-- what is equal to one of two equal names is equal to the other
like : (x y q : List ℕ) → bytes_eq x y ≡ true → bytes_eq x q ≡ bytes_eq q y
like x y q same = ap (λ t. bytes_eq t q) ((bytes_eq-Decides x y).0 same) ∙ turned y q

-- ---- where a session stands

-- the first of these sessions of this name is there
abbrev pub First : List Seen → List ℕ → ℕ → Type 0
First [] name at = ⊥
First (s ∷ seen) name zero = bytes_eq name s.name ≡ true
First (s ∷ seen) name (suc at) = (bytes_eq name s.name ≡ false) × First seen name at

-- none has this name
abbrev pub Absent : List Seen → List ℕ → Type 0
Absent [] name = ⊤
Absent (s ∷ seen) name = (bytes_eq name s.name ≡ false) × Absent seen name

-- as a search finds it
first_by : (seen : List Seen) (name : List ℕ) (at : ℕ) (d : Seen) → at < length seen
    → bytes_eq name (get_or seen at d).name ≡ true
    → ((k : ℕ) → k < at → bytes_eq name (get_or seen k d).name ≡ false) → First seen name at
first_by [] name at d less is others = absurd (omega (arith, less))
first_by (s ∷ seen) name zero d less is others = is
first_by (s ∷ seen) name (suc at) d less is others =
    (others 0 (omega arith), first_by seen name at d (omega (arith, less)) is (λ k below. others (suc k) (omega (arith, below))))

absent_by : (seen : List Seen) (name : List ℕ) (d : Seen)
    → ((k : ℕ) → k < length seen → bytes_eq name (get_or seen k d).name ≡ false)
    → Absent seen name
absent_by [] name d none = tt
absent_by (s ∷ seen) name d none =
    (none 0 (omega arith), absent_by seen name d (λ k below. none (suc k) (omega (arith, below))))

pub found : (seen : List Seen) (name : List ℕ) (at : ℕ) (d : Seen)
    → position (λ (s : Seen). bytes_eq name s.name) seen ≡ Some at → First seen name at
found seen name at d is =
    let first = position-Some (λ (s : Seen). bytes_eq name s.name) seen at d is in
    first_by seen name at d first.0 first.1 first.2

pub lacking : (seen : List Seen) (name : List ℕ) (d : Seen)
    → position (λ (s : Seen). bytes_eq name s.name) seen ≡ None → Absent seen name
lacking seen name d is = by_test (nat_lt (position_or_len test seen) (length seen)) refl is
  where
    test : Seen → Bool
    test s = bytes_eq name s.name

    by_test : (t : Bool) → nat_lt (position_or_len test seen) (length seen) ≡ t
        → cond t (Some (position_or_len test seen)) None ≡ None → Absent seen name
    by_test true same none = absurd cc
    by_test false same none =
        absent_by seen name d (λ k below. fails_before_first test seen k d (omega (arith, below, ltb-false (position_or_len test seen) (length seen) same)))

-- ---- the numbers of a session that is there

first_number : (seen : List Seen) (name : List ℕ) (at : ℕ) → First seen name at
    → number_among (names_in seen) name ≡ at + 1
first_number [] name at is = absurd is
first_number (s ∷ seen) name zero is = rw is refl
first_number (s ∷ seen) name (suc at) is = rw is.0 (omega (arith, first_number seen name at is.1))

first_known : (seen : List Seen) (name : List ℕ) (at : ℕ) → First seen name at
    → list_any (bytes_eq name) (names_in seen) ≡ true
first_known [] name at is = absurd is
first_known (s ∷ seen) name zero is = rw is refl
first_known (s ∷ seen) name (suc at) is = rw is.0 (first_known seen name at is.1)

first_commands : (seen : List Seen) (name : List ℕ) (at : ℕ) (d : Seen) → First seen name at
    → commands_in seen name ≡ (get_or seen at d).commands
first_commands [] name at d is = absurd is
first_commands (s ∷ seen) name zero d is = rw is refl
first_commands (s ∷ seen) name (suc at) d is = rw is.0 (first_commands seen name at d is.1)

first_within : (seen : List Seen) (name : List ℕ) (at : ℕ) → First seen name at → at < length seen
first_within [] name at is = absurd is
first_within (s ∷ seen) name zero is = omega arith
first_within (s ∷ seen) name (suc at) is = omega (arith, first_within seen name at is.1)

-- with one command more
first_more : (seen : List Seen) (name : List ℕ) (at : ℕ) (d new : Seen) → First seen name at
    → new.name ≡ (get_or seen at d).name → new.commands ≡ (get_or seen at d).commands + 1
    → (q : List ℕ)
    → commands_in (set seen at new) q ≡ commands_in seen q + cond (bytes_eq name q) 1 0
first_more [] name at d new is named one q = absurd is
first_more (s ∷ seen) name zero d new is named one q =
    by_test (bytes_eq q s.name) refl
  where
    by_test : (t : Bool) → bytes_eq q s.name ≡ t
        → commands_in (new ∷ seen) q ≡ commands_in (s ∷ seen) q + cond (bytes_eq name q) 1 0
    by_test true e = rw (named, like name s.name q is, e) one
    by_test false e = rw (named, like name s.name q is, e) (omega arith)
first_more (s ∷ seen) name (suc at) d new is named one q =
    by_test (bytes_eq q s.name) refl (first_more seen name at d new is.1 named one q)
  where
    other : bytes_eq q s.name ≡ true → bytes_eq name q ≡ false
    other e = ap (bytes_eq name) ((bytes_eq-Decides q s.name).0 e) ∙ is.0

    by_test : (t : Bool) → bytes_eq q s.name ≡ t
        → commands_in (set seen at new) q ≡ commands_in seen q + cond (bytes_eq name q) 1 0
        → commands_in (s ∷ set seen at new) q ≡ commands_in (s ∷ seen) q + cond (bytes_eq name q) 1 0
    by_test true e rest = rw (e, other e) (omega arith)
    by_test false e rest = rw e rest

-- ---- those of a session that isn't there

absent_number : (seen : List Seen) (name : List ℕ) → Absent seen name
    → number_among (names_in seen) name ≡ length seen + 1
absent_number [] name none = omega arith
absent_number (s ∷ seen) name none = rw none.0 (omega (arith, absent_number seen name none.1))

absent_unknown : (seen : List Seen) (name : List ℕ) → Absent seen name
    → list_any (bytes_eq name) (names_in seen) ≡ false
absent_unknown [] name none = refl
absent_unknown (s ∷ seen) name none = rw none.0 (absent_unknown seen name none.1)

absent_commands : (seen : List Seen) (name : List ℕ) → Absent seen name
    → commands_in seen name ≡ 0
absent_commands [] name none = refl
absent_commands (s ∷ seen) name none = rw none.0 (absent_commands seen name none.1)

-- with a session more
absent_more : (seen : List Seen) (new : Seen) → Absent seen new.name → new.commands ≡ 1
    → (q : List ℕ)
    → commands_in (seen ++ new ∷ []) q ≡ commands_in seen q + cond (bytes_eq new.name q) 1 0
absent_more [] new none one q = by_test (bytes_eq new.name q) refl
  where
    by_test : (t : Bool) → bytes_eq new.name q ≡ t
        → commands_in (new ∷ []) q ≡ 0 + cond (bytes_eq new.name q) 1 0
    by_test true e = rw (sym (turned new.name q) ∙ e, e) (omega (arith, one))
    by_test false e = rw (sym (turned new.name q) ∙ e, e) (omega arith)
absent_more (s ∷ seen) new none one q =
    by_test (bytes_eq q s.name) refl (absent_more seen new none.1 one q)
  where
    other : bytes_eq q s.name ≡ true → bytes_eq new.name q ≡ false
    other e = ap (bytes_eq new.name) ((bytes_eq-Decides q s.name).0 e) ∙ none.0

    by_test : (t : Bool) → bytes_eq q s.name ≡ t
        → commands_in (seen ++ new ∷ []) q ≡ commands_in seen q + cond (bytes_eq new.name q) 1 0
        → commands_in (s ∷ seen ++ new ∷ []) q ≡ commands_in (s ∷ seen) q + cond (bytes_eq new.name q) 1 0
    by_test true e rest = rw (e, other e) (omega arith)
    by_test false e rest = rw e rest

-- ---- one line more

count_more : (lines : List NamedLine) (line : NamedLine) (q : List ℕ)
    → count_by (λ (l : NamedLine). bytes_eq l.0 q) (lines ++ line ∷ [])
    ≡ count_by (λ (l : NamedLine). bytes_eq l.0 q) lines + cond (bytes_eq line.0 q) 1 0
count_more lines line q = fold_push (λ n (l : NamedLine). n + cond (bytes_eq l.0 q) 1 0) 0 lines line

same_turn : (s t u v : ℕ) → s ≡ u → t ≡ v
    → ◌≡◌ {A = Turn} (record { session = s; command = t }) (record { session = u; command = v })
same_turn s t u v e f = rw (e, f) refl

-- a session that is there gives it
known_sessions : (before : List NamedLine) (seen : List Seen) (name : List ℕ) (c : Command) (at : ℕ)
    → AreSeen before seen → First seen name at
    → sessions_of (before ++ (name, c) ∷ []) ≡ sessions_of before
known_sessions before seen name c at so_far is =
    let known : list_any (bytes_eq name) (sessions_of before) ≡ true = ap (list_any (bytes_eq name)) (sym so_far.names) ∙ first_known seen name at is in
    fold_push and_session [] before (name, c) ∙ rw known refl

pub known_turn : (before : List NamedLine) (seen : List Seen) (name : List ℕ) (c : Command) (at count : ℕ)
    (d : Seen) → AreSeen before seen → First seen name at → count ≡ (get_or seen at d).commands + 1
    → ◌≡◌ {A = Turn} (record { session = at + 1; command = count }) (turn_behind (sessions_of before) before (name, c))
known_turn before seen name c at count d so_far is one =
    let number : at + 1 ≡ number_among (sessions_of before) name = sym (first_number seen name at is) ∙ ap (λ names. number_among names name) so_far.names in
    let same : count_by (λ (l : NamedLine). bytes_eq l.0 name) before ≡ (get_or seen at d).commands = sym (so_far.commands name) ∙ first_commands seen name at d is in
    same_turn (at + 1) count (number_among (sessions_of before) name) (1 + count_by (λ (l : NamedLine). bytes_eq l.0 name) before) number (omega (arith, one, same))

pub known_seen : (before : List NamedLine) (seen : List Seen) (name : List ℕ) (c : Command) (at : ℕ)
    (d new : Seen) → AreSeen before seen → First seen name at
    → new.name ≡ (get_or seen at d).name → new.commands ≡ (get_or seen at d).commands + 1
    → AreSeen (before ++ (name, c) ∷ []) (set seen at new)
known_seen before seen name c at d new so_far is named one = record {
  names = map-set_same (λ (s : Seen). s.name) seen at new d named ∙ so_far.names ∙ sym (known_sessions before seen name c at so_far is);
  commands = λ q. first_more seen name at d new is named one q ∙ ap (λ n. n + cond (bytes_eq name q) 1 0) (so_far.commands q) ∙ sym (count_more before (name, c) q);
}

-- a new one does
pub absent_turn : (before : List NamedLine) (seen : List Seen) (name : List ℕ) (c : Command) (count : ℕ)
    → AreSeen before seen → Absent seen name → count ≡ length seen + 1
    → ◌≡◌ {A = Turn} (record { session = count; command = 1 }) (turn_behind (sessions_of before) before (name, c))
absent_turn before seen name c count so_far none more =
    let number : count ≡ number_among (sessions_of before) name = more ∙ sym (absent_number seen name none) ∙ ap (λ names. number_among names name) so_far.names in
    let same : count_by (λ (l : NamedLine). bytes_eq l.0 name) before ≡ 0 = sym (so_far.commands name) ∙ absent_commands seen name none in
    same_turn count 1 (number_among (sessions_of before) name) (1 + count_by (λ (l : NamedLine). bytes_eq l.0 name) before) number (omega (arith, same))

pub absent_seen : (before : List NamedLine) (seen : List Seen) (new : Seen) (c : Command)
    → AreSeen before seen → Absent seen new.name → new.commands ≡ 1
    → AreSeen (before ++ (new.name, c) ∷ []) (seen ++ new ∷ [])
absent_seen before seen new c so_far none one =
    let unknown : list_any (bytes_eq new.name) (sessions_of before) ≡ false = ap (list_any (bytes_eq new.name)) (sym so_far.names) ∙ absent_unknown seen new.name none in
    let added : sessions_of (before ++ (new.name, c) ∷ []) ≡ sessions_of before ++ new.name ∷ [] = fold_push and_session [] before (new.name, c) ∙ rw unknown refl in
    record {
      names = map-append (λ (s : Seen). s.name) seen (new ∷ []) ∙ ap (λ names. names ++ new.name ∷ []) so_far.names ∙ sym added;
      commands = λ q. absent_more seen new none one q ∙ ap (λ n. n + cond (bytes_eq new.name q) 1 0) (so_far.commands q) ∙ sym (count_more before (new.name, c) q);
    }

-- what stands there then
pub set_there : (seen : List Seen) (name : List ℕ) (at : ℕ) (new d : Seen) → First seen name at
    → get_or (set seen at new) at d ≡ new
set_there seen name at new d is = let less = first_within seen name at is in rw get_or-set_same refl

-- what the first of this name has
pub known_count : (seen : List Seen) (name : List ℕ) (at : ℕ) (d : Seen) → First seen name at
    → commands_in seen name ≡ (get_or seen at d).commands
known_count seen name at d is = first_commands seen name at d is
