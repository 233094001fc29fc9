-- The parts of the lines so far, where one more line is given.
use Rattle.std.proofs.Common.{◌≡◌, ℕ, zero, suc, ◌+◌, ◌<◌, Bool, true, false, cond, List, [], ◌∷◌, ◌++◌, length, get_or, map, Option, None, Some, nat_eq, nat_lt, refl, sym, ◌∙◌, ap, subst, arith, set}
use Rattle.std.specs.Prelude.{filter, position}
use Rattle.std.specs.List.{list_any, position_or_len}
use Rattle.std.specs.Str.{bytes_eq}
use Rattle.std.proofs.Math.Seq.{map-set_same}
use Rattle.std.proofs.lemmas.Bool.{ltb-false}
use Rattle.std.proofs.lemmas.List.{append-nil, get_or-map, length-map, map-append}
use Rattle.std.proofs.lemmas.List.Elements.{filter-append}
use Rattle.std.proofs.lemmas.List.Quantifiers.{position-Some}
use Rattle.std.proofs.lemmas.List.Sums.{fails_before_first, fold_push}
use Rattle.dv_model.specs.declared.types.Command.{Command}
use Rattle.dv_model.specs.Transcripts.{Line, commands_of}
use Rattle.dv_formats.specs.Scripts.{NamedLine, and_session, sessions_of}
use Rattle.dv_script.specs.declared.types.Line.{Line as ScriptLine}
use Rattle.dv_script.specs.Sources.{IsNext}
use Rattle.dv_serving.specs.Scripts.{number_among, numbered_by}
use Rattle.dv_parts.specs.declared.parts.Part.{Part}
use Rattle.dv_parts.specs.Parts.{AreGiven, AreParts, commands_in, commands_named}
use Rattle.dv_parts.proofs.Naming.{AreApart, Lacks, equal_bytes, lacks_at, number_test, same_bytes, sessions_apart, turned}

abbrev names_in : List Part → List (List ℕ)
names_in parts = map (λ (p : Part). p.name) parts

-- what is equal to one of two equal names is equal to the other
like : (x y q : List ℕ) → bytes_eq x y ≡ true → bytes_eq x q ≡ bytes_eq q y
like x y q same = ap (λ t. bytes_eq t q) (equal_bytes x y same) ∙ turned y q

-- ---- where a session's part stands

-- the first part of this name is there
abbrev pub First : List Part → List ℕ → ℕ → Type 0
First [] name at = ⊥
First (p ∷ parts) name zero = bytes_eq name p.name ≡ true
First (p ∷ parts) name (suc at) = (bytes_eq name p.name ≡ false) × First parts name at

-- as a search finds it
first_by : (parts : List Part) (name : List ℕ) (at : ℕ) (d : Part) → at < length parts
    → bytes_eq name (get_or parts at d).name ≡ true
    → ((k : ℕ) → k < at → bytes_eq name (get_or parts k d).name ≡ false) → First parts name at
first_by [] name at d less is others = absurd (omega (arith, less))
first_by (p ∷ parts) name zero d less is others = is
first_by (p ∷ parts) name (suc at) d less is others =
    (others 0 (omega arith), first_by parts name at d (omega (arith, less)) is (λ k below. others (suc k) (omega (arith, below))))

absent_by : (parts : List Part) (name : List ℕ) (d : Part)
    → ((k : ℕ) → k < length parts → bytes_eq name (get_or parts k d).name ≡ false)
    → Lacks (names_in parts) name
absent_by [] name d none = tt
absent_by (p ∷ parts) name d none =
    (none 0 (omega arith), absent_by parts name d (λ k below. none (suc k) (omega (arith, below))))

pub found : (parts : List Part) (name : List ℕ) (at : ℕ) (d : Part)
    → position (λ (p : Part). bytes_eq name p.name) parts ≡ Some at → First parts name at
found parts name at d is =
    let first = position-Some (λ (p : Part). bytes_eq name p.name) parts at d is in
    first_by parts name at d first.0 first.1 first.2

pub lacking : (parts : List Part) (name : List ℕ) (d : Part)
    → position (λ (p : Part). bytes_eq name p.name) parts ≡ None → Lacks (names_in parts) name
lacking parts name d is = by_test (nat_lt (position_or_len test parts) (length parts)) refl is
  where
    test : Part → Bool
    test p = bytes_eq name p.name

    by_test : (t : Bool) → nat_lt (position_or_len test parts) (length parts) ≡ t
        → cond t (Some (position_or_len test parts)) None ≡ None → Lacks (names_in parts) name
    by_test true same none = absurd cc
    by_test false same none =
        absent_by parts name d (λ k below. fails_before_first test parts k d (omega (arith, below, ltb-false (position_or_len test parts) (length parts) same)))

-- ---- the commands of a part that is there, with one more

first_known : (parts : List Part) (name : List ℕ) (at : ℕ) → First parts name at
    → list_any (bytes_eq name) (names_in parts) ≡ true
first_known [] name at is = absurd is
first_known (p ∷ parts) name zero is = rw is refl
first_known (p ∷ parts) name (suc at) is = rw is.0 (first_known parts name at is.1)

first_more : (parts : List Part) (name : List ℕ) (at : ℕ) (d new : Part) (c : Command)
    → First parts name at → new.name ≡ (get_or parts at d).name
    → new.commands ≡ (get_or parts at d).commands ++ c ∷ [] → (q : List ℕ)
    → commands_in (set parts at new) q ≡ commands_in parts q ++ cond (bytes_eq name q) (c ∷ []) []
first_more [] name at d new c is named one q = absurd is
first_more (p ∷ parts) name zero d new c is named one q =
    by_test (bytes_eq q p.name) refl
  where
    by_test : (t : Bool) → bytes_eq q p.name ≡ t
        → commands_in (new ∷ parts) q ≡ commands_in (p ∷ parts) q ++ cond (bytes_eq name q) (c ∷ []) []
    by_test true e = rw (named, like name p.name q is, e) one
    by_test false e = rw (named, like name p.name q is, e) (sym (append-nil (commands_in parts q)))
first_more (p ∷ parts) name (suc at) d new c is named one q =
    by_test (bytes_eq q p.name) refl (first_more parts name at d new c is.1 named one q)
  where
    other : bytes_eq q p.name ≡ true → bytes_eq name q ≡ false
    other e = ap (bytes_eq name) (equal_bytes q p.name e) ∙ is.0

    by_test : (t : Bool) → bytes_eq q p.name ≡ t
        → commands_in (set parts at new) q ≡ commands_in parts q ++ cond (bytes_eq name q) (c ∷ []) []
        → commands_in (p ∷ set parts at new) q ≡ commands_in (p ∷ parts) q ++ cond (bytes_eq name q) (c ∷ []) []
    by_test true e rest = rw (e, other e) (sym (append-nil p.commands))
    by_test false e rest = rw e rest

-- ---- those of a new part

absent_unknown : (parts : List Part) (name : List ℕ) → Lacks (names_in parts) name
    → list_any (bytes_eq name) (names_in parts) ≡ false
absent_unknown [] name none = refl
absent_unknown (p ∷ parts) name none = rw none.0 (absent_unknown parts name none.1)

absent_more : (parts : List Part) (new : Part) (c : Command) → Lacks (names_in parts) new.name
    → new.commands ≡ c ∷ [] → (q : List ℕ)
    → commands_in (parts ++ new ∷ []) q ≡ commands_in parts q ++ cond (bytes_eq new.name q) (c ∷ []) []
absent_more [] new c none one q = by_test (bytes_eq new.name q) refl
  where
    by_test : (t : Bool) → bytes_eq new.name q ≡ t
        → commands_in (new ∷ []) q ≡ cond (bytes_eq new.name q) (c ∷ []) []
    by_test true e = rw (sym (turned new.name q) ∙ e, e) one
    by_test false e = rw (sym (turned new.name q) ∙ e, e) refl
absent_more (p ∷ parts) new c none one q =
    by_test (bytes_eq q p.name) refl (absent_more parts new c none.1 one q)
  where
    other : bytes_eq q p.name ≡ true → bytes_eq new.name q ≡ false
    other e = ap (bytes_eq new.name) (equal_bytes q p.name e) ∙ none.0

    by_test : (t : Bool) → bytes_eq q p.name ≡ t
        → commands_in (parts ++ new ∷ []) q ≡ commands_in parts q ++ cond (bytes_eq new.name q) (c ∷ []) []
        → commands_in (p ∷ parts ++ new ∷ []) q ≡ commands_in (p ∷ parts) q ++ cond (bytes_eq new.name q) (c ∷ []) []
    by_test true e rest = rw (e, other e) (sym (append-nil p.commands))
    by_test false e rest = rw e rest

-- ---- one line more

commands_more : (lines : List NamedLine) (line : NamedLine) (q : List ℕ)
    → commands_named q (lines ++ line ∷ [])
    ≡ commands_named q lines ++ cond (bytes_eq line.0 q) (line.1 ∷ []) []
commands_more lines line q =
    ap (map (λ (l : NamedLine). l.1)) (filter-append test lines (line ∷ []))
    ∙ map-append (λ (l : NamedLine). l.1) (filter test lines) (filter test (line ∷ []))
    ∙ ap (λ cs. commands_named q lines ++ cs) (by_test (bytes_eq line.0 q))
  where
    test : NamedLine → Bool
    test l = bytes_eq l.0 q

    by_test : (t : Bool)
        → map (λ (l : NamedLine). l.1) (cond t (line ∷ []) []) ≡ cond t (line.1 ∷ []) []
    by_test true = refl
    by_test false = refl

-- no line gave no part
pub none_given : AreGiven [] []
none_given = record { names = refl; commands = λ name. refl }

-- a session that has a part gives it
pub known_given : (before : List NamedLine) (parts : List Part) (name : List ℕ) (c : Command) (at : ℕ)
    (d new : Part) → AreGiven before parts → First parts name at
    → new.name ≡ (get_or parts at d).name → new.commands ≡ (get_or parts at d).commands ++ c ∷ []
    → AreGiven (before ++ (name, c) ∷ []) (set parts at new)
known_given before parts name c at d new so_far is named one =
    let known : list_any (bytes_eq name) (sessions_of before) ≡ true = ap (list_any (bytes_eq name)) (sym so_far.names) ∙ first_known parts name at is in
    let stays : sessions_of (before ++ (name, c) ∷ []) ≡ sessions_of before = fold_push and_session [] before (name, c) ∙ rw known refl in
    record {
      names = map-set_same (λ (p : Part). p.name) parts at new d named ∙ so_far.names ∙ sym stays;
      commands = λ q. first_more parts name at d new c is named one q
          ∙ ap (λ cs. cs ++ cond (bytes_eq name q) (c ∷ []) []) (so_far.commands q)
          ∙ sym (commands_more before (name, c) q);
    }

-- a new one does
pub absent_given : (before : List NamedLine) (parts : List Part) (new : Part) (c : Command)
    → AreGiven before parts → Lacks (names_in parts) new.name → new.commands ≡ c ∷ []
    → AreGiven (before ++ (new.name, c) ∷ []) (parts ++ new ∷ [])
absent_given before parts new c so_far none one =
    let unknown : list_any (bytes_eq new.name) (sessions_of before) ≡ false = ap (list_any (bytes_eq new.name)) (sym so_far.names) ∙ absent_unknown parts new.name none in
    let added : sessions_of (before ++ (new.name, c) ∷ []) ≡ sessions_of before ++ new.name ∷ [] = fold_push and_session [] before (new.name, c) ∙ rw unknown refl in
    record {
      names = map-append (λ (p : Part). p.name) parts (new ∷ []) ∙ ap (λ names. names ++ new.name ∷ []) so_far.names ∙ sym added;
      commands = λ q. absent_more parts new c none one q
          ∙ ap (λ cs. cs ++ cond (bytes_eq new.name q) (c ∷ []) []) (so_far.commands q)
          ∙ sym (commands_more before (new.name, c) q);
    }

-- ---- all lines

-- the part at a place is the one that its name finds
part_at : (parts : List Part) (k : ℕ) (d : Part) → AreApart (names_in parts) → k < length parts
    → commands_in parts (get_or parts k d).name ≡ (get_or parts k d).commands
part_at [] k d apart less = absurd (omega (arith, less))
part_at (p ∷ parts) zero d apart less = rw (same_bytes p.name) refl
part_at (p ∷ parts) (suc k) d apart less =
    let below : k < length parts = omega (arith, less) in
    let within : k < length (names_in parts) = omega (arith, below, length-map parts (λ (q : Part). q.name)) in
    let there : get_or (names_in parts) k [] ≡ (get_or parts k d).name = get_or-map (λ (q : Part). q.name) parts k d [] below in
    let other : bytes_eq (get_or parts k d).name p.name ≡ false =
    turned (get_or parts k d).name p.name ∙ ap (bytes_eq p.name) (sym there) ∙ lacks_at (names_in parts) p.name k [] apart.0 within in
    rw other (part_at parts k d apart.1 below)

-- the commands of a session by its number are those by its name
by_number : (names : List (List ℕ)) (name : List ℕ) (s : ℕ)
    → ((q : List ℕ) → nat_eq (number_among names q) s ≡ bytes_eq q name) → (lines : List NamedLine)
    → commands_of s (map (numbered_by names) lines) ≡ commands_named name lines
by_number names name s tests [] = refl
by_number names name s tests (line ∷ lines) =
    ap (λ t. map (λ (l : Line). l.1) (cond t (numbered_by names line ∷ ours) ours)) (tests line.0)
    ∙ by_test (bytes_eq line.0 name) (by_number names name s tests lines)
  where
    ours : List Line
    ours = filter (λ (l : Line). nat_eq l.0 s) (map (numbered_by names) lines)

    hers : List NamedLine
    hers = filter (λ (l : NamedLine). bytes_eq l.0 name) lines

    by_test : (t : Bool) → map (λ (l : Line). l.1) ours ≡ map (λ (l : NamedLine). l.1) hers
        → map (λ (l : Line). l.1) (cond t (numbered_by names line ∷ ours) ours)
        ≡ map (λ (l : NamedLine). l.1) (cond t (line ∷ hers) hers)
    by_test true rest = ap (λ cs. line.1 ∷ cs) rest
    by_test false rest = rest

pub given_are_parts : (lines : List NamedLine) (parts : List Part) → AreGiven lines parts
    → AreParts lines parts
given_are_parts lines parts given = record {
  names = given.names;
  commands = λ k d less. sym (part_at parts k d apart less) ∙ given.commands (get_or parts k d).name
      ∙ sym (by_number (names_in parts) (get_or parts k d).name (k + 1) (tests k d less) lines)
      ∙ ap (λ names. commands_of (k + 1) (map (numbered_by names) lines)) given.names;
}
  where
    apart : AreApart (names_in parts)
    apart = subst AreApart (sym given.names) (sessions_apart lines)

    tests : (k : ℕ) (d : Part) → k < length parts → (q : List ℕ)
        → nat_eq (number_among (names_in parts) q) (k + 1) ≡ bytes_eq q (get_or parts k d).name
    tests k d less q =
        let within : k < length (names_in parts) = omega (arith, less, length-map parts (λ (p : Part). p.name)) in
        number_test (names_in parts) q k [] apart within
        ∙ ap (bytes_eq q) (get_or-map (λ (p : Part). p.name) parts k d [] less)

-- no line was given, so none is left
pub none_left : (old : List NamedLine) (next : Option ScriptLine) (new : List NamedLine)
    → IsNext old next new → ((line : ScriptLine) → next ≡ Some line → ⊥) → old ≡ []
none_left old None new is never = is.0
none_left old (Some line) new is never = absurd (never line refl)

-- where none is left, the parts are those of all lines
pub all_given : (left lines : List NamedLine) (parts : List Part)
    → (before : List NamedLine) × (before ++ left ≡ lines) × AreGiven before parts
    → left ≡ [] → AreParts lines parts
all_given left lines parts so_far none =
    given_are_parts lines parts
    (subst (λ ls. AreGiven ls parts) (sym (append-nil so_far.0) ∙ ap (λ ls. so_far.0 ++ ls) (sym none) ∙ so_far.1) so_far.2)
