-- The lines of a script are an interleaving of its parts.
use Rattle.std.proofs.Common.{◌≡◌, ◌≢◌, ℕ, ◌+◌, ◌-◌, ◌<◌, ◌≤◌, Bool, true, false, List, [], ◌∷◌, length, get_or, map, nat_eq, refl, sym, ◌∙◌, ap, subst, arith, set, length-set, get_or-set_same, get_or-set_other}
use Rattle.std.specs.Prelude.{All, Some}
use Rattle.std.specs.List.{sum_by}
use Rattle.std.proofs.lemmas.Bool.{eqb-true}
use Rattle.std.proofs.lemmas.Bool.Decides.{nat_tests}
use Rattle.std.proofs.lemmas.List.{get_or-map, length-map}
use Rattle.std.proofs.lemmas.List.Elements.{All-cons, All-head, All-tail}
use Rattle.std.proofs.lemmas.List.Sums.{sum_by-cons, sum_by-set}
use Rattle.std.proofs.lemmas.Option.{get_or_from_slice_get, slice_get-get_or, slice_get_within}
use Rattle.dv_model.specs.declared.types.Command.{Command}
use Rattle.dv_model.specs.Transcripts.{Line, commands_of}
use Rattle.dv_formats.specs.Scripts.{NamedLine, sessions_of}
use Rattle.dv_serving.specs.Scripts.{numbered, numbered_by}
use Rattle.dv_parts.specs.declared.parts.Part.{Part}
use Rattle.dv_parts.specs.Interleaving.{Interleaves, LinesAreNumbered, OneParting, PartsAddUp, PartsInterleave, commands_by_part}
use Rattle.dv_parts.proofs.Naming.{AreKnown, lines_known, number_within}

-- ---- numbers

-- a line is of one of so many sessions
abbrev IsNumbered : ℕ → Line → Type 0
IsNumbered count line = (1 ≤ line.0) × (line.0 ≤ count)

all_numbered : (names : List (List ℕ)) (lines : List NamedLine) → AreKnown names lines
    → All (IsNumbered (length names)) (map (numbered_by names) lines)
all_numbered names [] known = λ k d less. absurd (omega (arith, less))
all_numbered names (line ∷ lines) known =
    All-cons (IsNumbered (length names)) (numbered_by names line) (map (numbered_by names) lines)
    (number_within names line.0 known.0) (all_numbered names lines known.1)

pub lines_are_numbered : LinesAreNumbered
lines_are_numbered lines = all_numbered (sessions_of lines) lines (lines_known lines)

-- ---- a line of a session, or of another

ours : (s : ℕ) (line : Line) (lines : List Line) → nat_eq line.0 s ≡ true
    → commands_of s (line ∷ lines) ≡ line.1 ∷ commands_of s lines
ours s line lines e = rw e refl

others : (s : ℕ) (line : Line) (lines : List Line) → nat_eq line.0 s ≡ false
    → commands_of s (line ∷ lines) ≡ commands_of s lines
others s line lines e = rw e refl

-- ---- the parts of all sessions are an interleaving

-- each of these parts has its session's commands
abbrev AreOf : List Line → List (List Command) → Type 0
AreOf lines parts =
    (k : ℕ) (d : List Command) → k < length parts → get_or parts k d ≡ commands_of (k + 1) lines

-- behind the first line its part has one command fewer
of_rest : (line : Line) (lines : List Line) (parts : List (List Command)) (k : ℕ)
    → line.0 ≡ k + 1 → k < length parts → AreOf (line ∷ lines) parts
    → AreOf lines (set parts k (commands_of (k + 1) lines))
of_rest line lines parts k number less are j d inside = by_test (nat_eq k j) refl
  where
    left : List Command
    left = commands_of (k + 1) lines

    by_test : (t : Bool) → nat_eq k j ≡ t → get_or (set parts k left) j d ≡ commands_of (j + 1) lines
    by_test true e =
        let here : k ≡ j = eqb-true k j e in
        ap (λ (n : ℕ). get_or (set parts k left) n d) (sym here)
        ∙ get_or-set_same parts k left d less
        ∙ ap (λ (n : ℕ). commands_of (n + 1) lines) here
    by_test false e =
        let other : j ≢ k = grind (arith, nat_tests) in
        let not_hers : nat_eq line.0 (j + 1) ≡ false = grind (arith, nat_tests) in
        get_or-set_other parts k j left d other
        ∙ are j d (omega (arith, inside, length-set parts k left))
        ∙ others (j + 1) line lines not_hers

interleaved : (lines : List Line) (parts : List (List Command))
    → All (IsNumbered (length parts)) lines → AreOf lines parts → Interleaves lines parts
interleaved [] parts all are = are
interleaved (line ∷ lines) parts all are =
    let head = All-head (IsNumbered (length parts)) line lines all in
    let k : ℕ = line.0 - 1 in
    let number : line.0 ≡ k + 1 = omega (arith, head.0) in
    let less : k < length parts = omega (arith, head.0, head.1) in
    let left : List Command = commands_of (k + 1) lines in
    let hers : nat_eq line.0 (k + 1) ≡ true = grind (arith, nat_tests) in (
      k,
      left,
      number,
      slice_get-get_or parts k [] less ∙ ap Some (are k [] less ∙ ours (k + 1) line lines hers),
      interleaved lines (set parts k left)
          (subst (λ n. All (IsNumbered n) lines) (sym (length-set parts k left)) (All-tail (IsNumbered (length parts)) line lines all))
          (of_rest line lines parts k number less are),
    )

pub parts_interleave : PartsInterleave
parts_interleave lines parts are =
    interleaved (numbered lines) (commands_by_part parts)
    (subst (λ n. All (IsNumbered n) (numbered lines)) count (lines_are_numbered lines))
    (λ k d less. by_part k d (omega (arith, less, length-map parts (λ (p : Part). p.commands))))
  where
    none : Part
    none = record { name = []; commands = [] }

    count : length (sessions_of lines) ≡ length (commands_by_part parts)
    count =
        sym (ap length are.names) ∙ length-map parts (λ (p : Part). p.name)
        ∙ sym (length-map parts (λ (p : Part). p.commands))

    by_part : (k : ℕ) (d : List Command) → k < length parts
        → get_or (commands_by_part parts) k d ≡ commands_of (k + 1) (numbered lines)
    by_part k d less =
        get_or-map (λ (p : Part). p.commands) parts k none d less ∙ are.commands k none less

-- ---- how many commands there are

empty_sum : (parts : List (List Command)) → All (λ part. part ≡ []) parts
    → sum_by (λ (part : List Command). length part) parts ≡ 0
empty_sum [] none = refl
empty_sum (part ∷ parts) none =
    let first = ap length (All-head (λ (p : List Command). p ≡ []) part parts none) in
    let rest = empty_sum parts (All-tail (λ (p : List Command). p ≡ []) part parts none) in
    omega (arith, first, rest, sum_by-cons (λ (p : List Command). length p) part parts)

add_up : (lines : List Line) (parts : List (List Command)) → Interleaves lines parts
    → sum_by (λ (part : List Command). length part) parts ≡ length lines
add_up [] parts h = empty_sum parts h
add_up (line ∷ lines) parts h =
    let size : List Command → ℕ = λ part. length part in
    let rest = add_up lines (set parts h.0 h.1) h.4 in
    let less = slice_get_within parts h.0 (line.1 ∷ h.1) h.3 in
    let first = ap size (get_or_from_slice_get parts h.0 (line.1 ∷ h.1) [] h.3) in
    omega (arith, rest, first, sum_by-set (λ (part : List Command). length part) parts h.0 h.1 [] less)

size_by_part : (parts : List Part)
    → sum_by (λ (p : Part). length p.commands) parts
    ≡ sum_by (λ (part : List Command). length part) (commands_by_part parts)
size_by_part [] = refl
size_by_part (p ∷ parts) =
    sum_by-cons (λ (q : Part). length q.commands) p parts
    ∙ ap (λ n. length p.commands + n) (size_by_part parts)
    ∙ sym (sum_by-cons (λ (part : List Command). length part) p.commands (commands_by_part parts))

pub parts_add_up : PartsAddUp
parts_add_up lines parts are =
    size_by_part parts
    ∙ add_up (numbered lines) (commands_by_part parts) (parts_interleave lines parts are)
    ∙ length-map lines (numbered_by (sessions_of lines))

-- ---- no other parts are

pub one_parting : OneParting
one_parting [] parts k d h less = h k d less
one_parting (line ∷ lines) parts k d h less =
    by_test (nat_eq h.0 k) refl (one_parting lines (set parts h.0 h.1) k d h.4 (omega (arith, less, length-set parts h.0 h.1)))
  where
    by_test : (t : Bool) → nat_eq h.0 k ≡ t
        → get_or (set parts h.0 h.1) k d ≡ commands_of (k + 1) lines
        → get_or parts k d ≡ commands_of (k + 1) (line ∷ lines)
    by_test true e rest =
        let here : h.0 ≡ k = eqb-true h.0 k e in
        let hers : nat_eq line.0 (k + 1) ≡ true = let n = h.2 in grind (arith, nat_tests) in
        let now : get_or (set parts h.0 h.1) k d ≡ h.1 =
        ap (λ (n : ℕ). get_or (set parts h.0 h.1) n d) (sym here)
        ∙ get_or-set_same parts h.0 h.1 d (omega (arith, less, here)) in
        ap (λ (n : ℕ). get_or parts n d) (sym here)
        ∙ get_or_from_slice_get parts h.0 (line.1 ∷ h.1) d h.3
        ∙ ap (λ cs. line.1 ∷ cs) (sym now ∙ rest)
        ∙ sym (ours (k + 1) line lines hers)
    by_test false e rest =
        let other : k ≢ h.0 = grind (arith, nat_tests) in
        let not_hers : nat_eq line.0 (k + 1) ≡ false = let n = h.2 in grind (arith, nat_tests) in
        sym (get_or-set_other parts h.0 k h.1 d other) ∙ rest ∙ sym (others (k + 1) line lines not_hers)
