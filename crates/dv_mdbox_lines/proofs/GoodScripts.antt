-- A script, by the grammar and as it is read.
use Rattle.std.proofs.Common.{◌≡◌, inr, ℕ, zero, suc, ◌+◌, ◌<◌, ◌≤◌, Bool, true, false, cond, List, [], ◌∷◌, ◌++◌, length, Option, Some, None, Result, Ok, Err, nat_lt, refl, sym, ◌∙◌, ap, subst, arith, append_assoc}
use Rattle.std.specs.Prelude.{flat_map}
use Rattle.std.proofs.lemmas.Bool.{ltb-false, ltb-true}
use Rattle.std.proofs.lemmas.List.{append-nil}
use Rattle.std.proofs.lemmas.List.Concat.{flat_map-cons}
use Rattle.dv_formats.specs.Scripts.{line_number, script_limit}
use Rattle.dv_formats.specs.Parsing.{LineFault, ScriptFault, as_list, fault_at, feeds_before}
use Rattle.dv_grammar.proofs.ReadLines.{bad_short, no_ok}
use Rattle.dv_grammar.proofs.Steps.{feeds_are}
use Rattle.dv_mdbox_lines.specs.Scripts.{Call, Copy, Drop, Get, Purge, Said, Save, TakenCall, behind_line, calls_in, in_script, line_at, line_of, parsed, said_in, said_within, with_call}
use Rattle.dv_mdbox_lines.specs.Grammar.{AreGood, IsEnded, IsFault, IsFirstFault, IsFollowed, IsGoodLine, IsOf, IsScript}
use Rattle.dv_mdbox_lines.specs.declared.reading.LineFault as told
use Rattle.dv_mdbox_lines.specs.declared.reading.LineFault.TheVariants as fault
use Rattle.dv_mdbox_lines.specs.Views.{IsOpened, IsTold, end_of, fault_of}
use Rattle.dv_mdbox_lines.proofs.GoodLines.{HasLine, good_read, line_has, short_read}
use Rattle.dv_mdbox_lines.proofs.Says.{before, before_none, beyond_limit, faulty, no_bytes, step, within_limit}
use Rattle.dv_mdbox_lines.proofs.Takes.{shorter}

abbrev calls_of : List (Option Call) → List Call
calls_of lines = flat_map as_list lines

-- ---- what stands before the rest

abbrev HasFront : List ℕ → List ℕ → Type 0
HasFront b rest = (front : List ℕ) × (b ≡ front ++ rest)

ended_front : (text b rest : List ℕ) → IsEnded text b rest → HasFront b rest
ended_front text b rest is = (text ++ is.ending, is.whole)

both_fronts : (b behind rest : List ℕ) → HasFront b behind → HasFront behind rest → HasFront b rest
both_fronts b behind rest one other = (one.0 ++ other.0, one.1 ∙ ap (λ t. one.0 ++ t) other.1 ∙ sym (append_assoc one.0 other.0 rest))

followed_front : (call : Call) (b rest : List ℕ) → IsFollowed call b rest → HasFront b rest
followed_front (Save message) b rest is = ended_front message b rest is
followed_front (Copy id) b rest is = ([], is)
followed_front (Drop id) b rest is = ([], is)
followed_front (Get id) b rest is = ([], is)
followed_front Purge b rest is = ([], is)

line_front : (line : Option Call) (b rest : List ℕ) → IsGoodLine line b rest → HasFront b rest
line_front None b rest is = ended_front is.text b rest is.line.ended
line_front (Some call) b rest is = both_fronts b is.behind rest (ended_front is.text b is.behind is.line.ended) (followed_front call is.behind rest is.followed)

lines_front : (lines : List (Option Call)) (b rest : List ℕ) → AreGood lines b rest → HasFront b rest
lines_front [] b rest is = ([], is)
lines_front (line ∷ lines) b rest is = both_fronts b is.0 rest (line_front line b is.0 is.1) (lines_front lines is.0 rest is.2)

number_is : (script front rest : List ℕ) → script ≡ front ++ rest → 1 + feeds_before script rest ≡ line_number front
number_is script front rest whole = ap (λ t. 1 + feeds_before t rest) whole ∙ ap (λ n. 1 + n) (feeds_are front rest)

-- ---- what is of the grammar is read

no_line : line_of [] ≡ Ok (None, [])
unfolding line_at
no_line = refl

taken_is : (x y : TakenCall) → ◌≡◌ {A = Result TakenCall LineFault} (Ok x) (Ok y) → x ≡ y
taken_is x y e = cc

any_step : (b : List ℕ) (taken : TakenCall) → line_of b ≡ Ok taken → said_in b ≡ with_call taken.0 (said_in taken.1)
any_step [] taken read = ap (λ (t : TakenCall). with_call t.0 (said_in t.1)) (taken_is (None, []) taken (sym no_line ∙ read))
any_step (x ∷ b) taken read = step (x ∷ b) taken (omega arith) read

with_before : (line : Option Call) (calls : List Call) (said : Said) → with_call line (before calls said) ≡ before (as_list line ++ calls) said
with_before None calls (Ok others) = refl
with_before None calls (Err fault) = refl
with_before (Some call) calls (Ok others) = refl
with_before (Some call) calls (Err fault) = refl

walk : (lines : List (Option Call)) (b rest : List ℕ) → AreGood lines b rest → said_in b ≡ before (calls_of lines) (said_in rest)
walk [] b rest is = ap said_in is ∙ sym (before_none (said_in rest))
walk (line ∷ lines) b rest is =
    any_step b (line, is.0) (good_read line b is.0 is.1)
    ∙ ap (with_call line) (walk lines is.0 rest is.2)
    ∙ with_before line (calls_of lines) (said_in rest)
    ∙ ap (λ calls. before calls (said_in rest)) (sym (flat_map-cons as_list line lines))

pub script_read : (calls : List Call) (script : List ℕ) → IsScript calls script → parsed script ≡ Ok calls
script_read calls script is =
    let said : said_in script ≡ Ok (calls_of is.lines ++ []) = walk is.lines script [] is.good ∙ ap (before (calls_of is.lines)) (no_bytes 0) in
    within_limit script is.size ∙ ap (in_script script) said ∙ ap Ok (append-nil (calls_of is.lines) ∙ sym is.are)

-- an empty line is good
no_fault_at_end : (rest : List ℕ) → rest ≡ [] → ((line : Option Call) (behind : List ℕ) → IsGoodLine line rest behind → ⊥) → ⊥
no_fault_at_end rest none bad = bad None [] (record { text = []; is = tt; line = record { size = omega arith; ended = record { ending = []; ends = inr (refl, refl); whole = none } } })

some_left : (rest : List ℕ) → ((line : Option Call) (behind : List ℕ) → IsGoodLine line rest behind → ⊥) → 0 < length rest
some_left [] bad = absurd (no_fault_at_end [] refl bad)
some_left (x ∷ rest) bad = omega arith

first_read : (script rest : List ℕ) (number : ℕ) (fault : LineFault) → IsFirstFault script rest number → line_of rest ≡ Err fault → parsed script ≡ Err (fault_at number fault)
first_read script rest number fault is e =
    let said : said_in script ≡ Err (fault, rest) = walk is.lines script rest is.good ∙ ap (before (calls_of is.lines)) (faulty rest fault (some_left rest is.bad) e) in
    within_limit script is.size ∙ ap (in_script script) said ∙ ap (λ k. Err (fault_at k fault)) (number_is script is.front rest is.text ∙ sym is.is)

pub fault_read : (fault : ScriptFault) (script : List ℕ) → IsFault fault script → parsed script ≡ Err fault
fault_read (ScriptFault.ShortLiteral number) script is = first_read script is.0 number LineFault.short is.1 (short_read is.0 is.2)
fault_read (ScriptFault.BadLine number) script is = by_line (line_of is.0) refl (line_has is.0)
  where
    by_line : (r : Result TakenCall LineFault) → line_of is.0 ≡ r → HasLine is.0 r → parsed script ≡ Err (ScriptFault.BadLine number)
    by_line (Ok taken) e has = absurd (is.1.bad taken.0 taken.1 has)
    by_line (Err LineFault.short) e has = absurd (is.2 has)
    by_line (Err LineFault.bad) e has = first_read script is.0 number LineFault.bad is.1 e
fault_read ScriptFault.TooLong script is = beyond_limit script is

-- ---- what is read is of the grammar

-- what bytes say is so by the grammar
abbrev SaidOf : List ℕ → Said → Type 0
SaidOf b (Ok calls) = (lines : List (Option Call)) × AreGood lines b [] × (calls ≡ calls_of lines)
SaidOf b (Err at) = (lines : List (Option Call)) × AreGood lines b at.1 × (line_of at.1 ≡ Err at.0)

one_more : (b : List ℕ) (line : Option Call) (behind : List ℕ) (said : Said) → IsGoodLine line b behind → SaidOf behind said → SaidOf b (with_call line said)
one_more b None behind (Ok calls) good is = (None ∷ is.0, (behind, good, is.1), is.2 ∙ sym (flat_map-cons as_list None is.0))
one_more b None behind (Err at) good is = (None ∷ is.0, (behind, good, is.1), is.2)
one_more b (Some call) behind (Ok calls) good is = (Some call ∷ is.0, (behind, good, is.1), ap (λ cs. call ∷ cs) is.2 ∙ sym (flat_map-cons as_list (Some call) is.0))
one_more b (Some call) behind (Err at) good is = (Some call ∷ is.0, (behind, good, is.1), is.2)

said_has : (most : ℕ) (b : List ℕ) → length b ≤ most → SaidOf b (said_within most b)
unfolding said_within
said_has most [] few = subst (SaidOf []) (sym (no_bytes most)) ([], refl, refl)
said_has zero (x ∷ b) few = absurd (omega (arith, few))
said_has (suc most) (x ∷ b) few = by_line (line_of (x ∷ b)) refl (line_has (x ∷ b)) (λ taken less. said_has most taken.1 (omega (arith, few, less)))
  where
    by_line : (r : Result TakenCall LineFault) → line_of (x ∷ b) ≡ r → HasLine (x ∷ b) r
        → ((taken : TakenCall) → length taken.1 < length (x ∷ b) → SaidOf taken.1 (said_within most taken.1))
        → SaidOf (x ∷ b) (behind_line (x ∷ b) r (said_within most))
    by_line (Err fault) e has others = ([], refl, e)
    by_line (Ok taken) e has others = one_more (x ∷ b) taken.0 taken.1 (said_within most taken.1) has (others taken (shorter (x ∷ b) taken (omega arith) e))

not_good : (rest : List ℕ) (fault : LineFault) → line_of rest ≡ Err fault → (line : Option Call) (behind : List ℕ) → IsGoodLine line rest behind → ⊥
not_good rest fault e line behind good = no_ok fault (line, behind) (sym e ∙ good_read line rest behind good)

first_is : (script rest : List ℕ) (fault : LineFault) (lines : List (Option Call)) → length script ≤ script_limit → AreGood lines script rest → line_of rest ≡ Err fault → IsFirstFault script rest (1 + feeds_before script rest)
first_is script rest fault lines short good e =
    let front = lines_front lines script rest good in
    record {
      size = short;
      lines = lines;
      good = good;
      bad = not_good rest fault e;
      front = front.0;
      text = front.1;
      is = number_is script front.0 rest front.1;
    }

said_is : (script : List ℕ) (said : Said) → length script ≤ script_limit → SaidOf script said → IsOf (in_script script said) script
said_is script (Ok calls) short is = record { size = short; lines = is.0; good = is.1; are = is.2 }
said_is script (Err (LineFault.short, rest)) short is =
    (rest, first_is script rest LineFault.short is.0 short is.1 is.2, subst (HasLine rest) is.2 (line_has rest))
said_is script (Err (LineFault.bad, rest)) short is =
    (rest, first_is script rest LineFault.bad is.0 short is.1 is.2, λ few. bad_short (sym is.2 ∙ short_read rest few))

pub script_is : (script : List ℕ) → IsOf (parsed script) script
script_is script = by_size (nat_lt script_limit (length script)) refl
  where
    by_size : (t : Bool) → nat_lt script_limit (length script) ≡ t → IsOf (cond t (Err ScriptFault.TooLong) (in_script script (said_in script))) script
    by_size true is = ltb-true script_limit (length script) is
    by_size false is = said_is script (said_in script) (ltb-false script_limit (length script) is) (said_has (length script) script (omega arith))

-- ---- a script is of one list of calls, or has one fault

read_so : (said : Result (List Call) ScriptFault) (b : List ℕ) → IsOf said b → parsed b ≡ said
read_so (Ok calls) b is = script_read calls b is
read_so (Err fault) b is = fault_read fault b is

pub is_one : (read other : Result (List Call) ScriptFault) (b : List ℕ) → IsOf read b → IsOf other b → read ≡ other
is_one read other b one two = sym (read_so read b one) ∙ read_so other b two

-- ---- as the program tells it

pub calls_opened : (b : List ℕ) → parsed b ≡ Ok (calls_in b) → IsScript (calls_in b) b
calls_opened b e = subst (λ read. IsOf read b) e (script_is b)

pub end_opened : (k : ℕ) (at : told.LineFault) (b : List ℕ) → Err (fault_at k (fault_of at)) ≡ parsed b → IsOpened (Err (end_of k at)) b
end_opened k fault.Bad b e = subst (λ read. IsOf read b) (sym e) (script_is b)
end_opened k fault.Short b e = subst (λ read. IsOf read b) (sym e) (script_is b)

pub calls_told : (b : List ℕ) → parsed b ≡ Ok (calls_in b) → (read : Result (List Call) ScriptFault) → IsOf read b → read ≡ Ok (calls_in b)
calls_told b e read is = sym (read_so read b is) ∙ e

pub end_told : (k : ℕ) (at : told.LineFault) (b : List ℕ) → Err (fault_at k (fault_of at)) ≡ parsed b → (read : Result (List Call) ScriptFault) → IsOf read b → IsTold read (Err (end_of k at))
end_told k fault.Bad b e read is = sym (e ∙ read_so read b is)
end_told k fault.Short b e read is = sym (e ∙ read_so read b is)
