-- The lines of a generated script by the sessions that they name.
use Rattle.std.proofs.Common.{◌≡◌, List, [], ◌∷◌, map, refl, ap}
use Rattle.dv_formats.specs.Scripts.{NamedLine}
use Rattle.dv_script.specs.Sources.{all_named}
use Rattle.dv_gen.specs.Lines.{line_of}

-- lines as the program has them name the sessions and commands that they were made of
pub named_lines : (lines : List NamedLine) → all_named (map line_of lines) ≡ lines
named_lines [] = refl
named_lines (line ∷ lines) = ap (λ (t : List NamedLine). line ∷ t) (named_lines lines)
