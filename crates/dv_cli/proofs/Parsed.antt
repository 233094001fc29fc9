-- The first bytes of a script say what it says.
use Rattle.std.proofs.Common.{◌≡◌, ◌<◌, ◌≤◌, ⊎_elim, ℕ, List, length, take, Err, Ok, refl, sym, ◌∙◌, ap, arith}
use Rattle.std.specs.Prelude.{None, Option, Result, Some}
use Rattle.std.proofs.lemmas.Bool.{cases_lt, lt-ltb}
use Rattle.std.proofs.lemmas.List.{length-take, take_all}
use Rattle.dv_model.specs.declared.types.Key.{Key}
use Rattle.dv_formats.specs.Parsing.{ScriptFault, parsed}
use Rattle.dv_formats.specs.Scripts.{NamedLine, script_limit}
use Rattle.dv_script.specs.Beside.{unnamed}
use Rattle.dv_script.proofs.LineByLine.{beyond_limit}
use Rattle.dv_cli.specs.Readings.{read_limit}
use Rattle.dv_mdbox_lines.specs.Scripts as storage
use Rattle.dv_mdbox_lines.specs.Scripts.{Call}
use Rattle.dv_cli.specs.Scripts.{AreAlike}
use Rattle.dv_cli.specs.Tasks.{parsed_with}

too_long : (s : List ℕ) → script_limit < length s → parsed s ≡ Err ScriptFault.TooLong
unfolding parsed
too_long s long = rw (lt-ltb script_limit (length s) long) refl

-- beside a kept search too
too_long_with : (beside : Option Key) (s : List ℕ) → script_limit < length s → parsed_with beside s ≡ Err ScriptFault.TooLong
too_long_with None s long = too_long s long
too_long_with (Some key) s long = beyond_limit unnamed s long

-- and to a storage
too_long_calls : (s : List ℕ) → script_limit < length s → storage.parsed s ≡ Err ScriptFault.TooLong
too_long_calls s long = rw (lt-ltb script_limit (length s) long) refl

-- more than the longest script isn't looked at
pub alike_front : (script : List ℕ) → AreAlike (take read_limit script) script
alike_front script = ⊎_elim whole cut (cases_lt read_limit (length script))
  where
    whole : read_limit < length script → AreAlike (take read_limit script) script
    whole long =
        let front : script_limit < length (take read_limit script) = omega (arith, length-take read_limit script, long) in
        record {
          lines = λ search. too_long_with search (take read_limit script) front ∙ sym (too_long_with search script (omega (arith, long)));
          calls = too_long_calls (take read_limit script) front ∙ sym (too_long_calls script (omega (arith, long)));
        }

    cut : length script ≤ read_limit → AreAlike (take read_limit script) script
    cut short =
        let same = take_all read_limit script short in
        record { lines = λ search. ap (parsed_with search) same; calls = ap storage.parsed same }

-- ---- the lines that were read

abbrev lines_in : Result (List NamedLine) ScriptFault → List NamedLine → List NamedLine
lines_in (Ok lines) other = lines
lines_in (Err fault) other = other

-- a script has one list of lines
pub same_lines : (read : Result (List NamedLine) ScriptFault) (one other : List NamedLine)
    → read ≡ Ok one → read ≡ Ok other → one ≡ other
same_lines read one other is also = ap (λ (r : Result (List NamedLine) ScriptFault). lines_in r one) (sym is ∙ also)

abbrev calls_in : Result (List Call) ScriptFault → List Call → List Call
calls_in (Ok calls) other = calls
calls_in (Err fault) other = other

-- and one list of calls
pub same_calls : (read : Result (List Call) ScriptFault) (one other : List Call)
    → read ≡ Ok one → read ≡ Ok other → one ≡ other
same_calls read one other is also = ap (λ (r : Result (List Call) ScriptFault). calls_in r one) (sym is ∙ also)
