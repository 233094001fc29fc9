-- One line more of a generated script.
use Rattle.std.proofs.Common.{◌≡◌, ◌≢◌, ◌<◌, ◌≤◌, ◌+◌, ◌-◌, ◌%◌, ◌++◌, ◌∷◌, [], ◌∙◌, ℕ, List, suc, map, Result, Ok, Err, IfOk, OnErr, ap, refl, sym, add_assoc, add_comm, arith}
use Rattle.std.specs.List.{range_with_len}
use Rattle.dv_model.specs.declared.types.Command.{Command}
use Rattle.dv_script.specs.declared.types.Line.{Line}
use Rattle.dv_script.specs.Sources.{all_named, named}
use Rattle.dv_formats.specs.Generators.{command_drawn, commands_from, generated, session_name}
use Rattle.dv_formats.specs.Scripts.{NamedLine}
use Rattle.dv_gen.specs.Lines.{generated_from, line_of, selected}

one_less : (i count : ℕ) → i < count → count - i ≡ suc (count - (i + 1))
one_less i count less = omega (arith, less)

-- all is left at first
pub starts : (seed count sessions : ℕ) → generated_from sessions count 0 0 seed ≡ generated seed count sessions
starts seed count sessions =
    let all : sessions - 0 ≡ sessions = omega arith in
    let each : count - 0 ≡ count = omega arith in
    ap (λ n. map selected (range_with_len 1 n) ++ commands_from sessions 0 (count - 0) seed) all
    ∙ ap (λ n. map selected (range_with_len 1 sessions) ++ commands_from sessions 0 n seed) each

-- a SELECT more
pub select_more : (sessions count selects commands state : ℕ) (line : Line) → selects < sessions → line ≡ line_of (selected (selects + 1))
    → generated_from sessions count selects commands state ≡ named line ∷ generated_from sessions count (selects + 1) commands state
select_more sessions count selects commands state line less is =
    let rest = commands_from sessions commands (count - commands) state in
    let k = sessions - (selects + 1) in
    ap (λ n. map selected (range_with_len (1 + selects) n) ++ rest) (one_less selects sessions less)
    ∙ ap (λ n. selected n ∷ (map selected (range_with_len (1 + selects + 1) k) ++ rest)) (add_comm 1 selects)
    ∙ ap (λ n. selected (selects + 1) ∷ (map selected (range_with_len n k) ++ rest)) (add_assoc 1 selects 1)
    ∙ ap (λ l. named l ∷ generated_from sessions count (selects + 1) commands state) (sym is)

-- no SELECT is left
only_commands : (sessions count selects commands state : ℕ) → sessions ≤ selects → generated_from sessions count selects commands state ≡ commands_from sessions commands (count - commands) state
only_commands sessions count selects commands state all =
    let none : sessions - selects ≡ 0 = omega (arith, all) in
    ap (λ n. map selected (range_with_len (1 + selects) n) ++ commands_from sessions commands (count - commands) state) none

-- a command more
pub command_more : (sessions count selects commands state next : ℕ) (command : Command) (line : Line) → sessions ≤ selects → commands < count
    → (command, next) ≡ command_drawn commands state → line ≡ line_of (session_name (commands % sessions + 1), command)
    → generated_from sessions count selects commands state ≡ named line ∷ generated_from sessions count selects (commands + 1) next
command_more sessions count selects commands state next command line all less drawn is =
    let k = count - (commands + 1) in
    let name = session_name (commands % sessions + 1) in
    only_commands sessions count selects commands state all
    ∙ ap (λ n. commands_from sessions commands n state) (one_less commands count less)
    ∙ ap (λ (p : Command × ℕ). (name, p.0) ∷ commands_from sessions (commands + 1) k p.1) (sym drawn)
    ∙ ap (λ ls. (name, command) ∷ ls) (sym (only_commands sessions count selects (commands + 1) next all))
    ∙ ap (λ l. named l ∷ generated_from sessions count selects (commands + 1) next) (sym is)

-- nothing is left
pub none_more : (sessions count selects commands state : ℕ) → sessions ≤ selects → count ≤ commands → generated_from sessions count selects commands state ≡ []
none_more sessions count selects commands state all done =
    let none : count - commands ≡ 0 = omega (arith, done) in
    only_commands sessions count selects commands state all ∙ ap (λ n. commands_from sessions commands n state) none

filled : (line : NamedLine) (lines others : List NamedLine) → others ≡ line ∷ lines → others ≢ []
filled line lines others is e = cc

pub select_left : (sessions count selects commands state : ℕ) → selects < sessions → generated_from sessions count selects commands state ≢ []
select_left sessions count selects commands state less =
    let line = line_of (selected (selects + 1)) in
    filled (named line) (generated_from sessions count (selects + 1) commands state) (generated_from sessions count selects commands state) (select_more sessions count selects commands state line less refl)

pub command_left : (sessions count selects commands state : ℕ) → sessions ≤ selects → commands < count → generated_from sessions count selects commands state ≢ []
command_left sessions count selects commands state all less =
    let drawn = command_drawn commands state in
    let line = line_of (session_name (commands % sessions + 1), drawn.0) in
    filled (named line) (generated_from sessions count selects (commands + 1) drawn.1) (generated_from sessions count selects commands state) (command_more sessions count selects commands state drawn.1 drawn.0 line all less refl refl)

-- lines as the program has them, of the sessions and commands that they name
pub lines_of : (lines : List Line) → lines ≡ map line_of (all_named lines)
lines_of [] = refl
lines_of (line ∷ lines) = ap (λ ls. line ∷ ls) (lines_of lines)

pub all_given : {E : Type 0} (r : Result (List Line) E) (given whole : List NamedLine) → given ≡ whole → IfOk r (λ lines. all_named lines ≡ given) → IfOk r (λ lines. lines ≡ map line_of whole)
all_given (Ok lines) given whole same is = lines_of lines ∙ ap (map line_of) (is ∙ same)
all_given (Err e) given whole same is = tt

-- an error comes where something is left
pub none_lost : {X E : Type 0} (r : Result X E) (left : List NamedLine) → left ≢ [] → OnErr r (left ≢ [])
none_lost (Ok x) left some = tt
none_lost (Err e) left some = some
