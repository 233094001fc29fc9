-- A script that is printed is parsed as the same lines.
use Rattle.std.proofs.Common.{◌≡◌, inl, inr, ℕ, ◌^◌, ◌<◌, ◌≤◌, List, [], ◌∷◌, ◌++◌, length, map, All, Ok, codes, refl, sym, ◌∙◌, ap, arith, append_assoc}
use Rattle.std.specs.List.{AllByRecursion}
use Rattle.std.proofs.lemmas.List.Concat.{flat_map-cons}
use Rattle.std.proofs.lemmas.List.Elements.{All-cons, All-nil}
use Rattle.dv_model.specs.declared.types.Command.{Command}
use Rattle.dv_model.specs.declared.types.Command.TheVariants as command
use Rattle.dv_formats.specs.Printing.{command_text, flags_text, line_text, script_text}
use Rattle.dv_formats.specs.Scripts.{AreEnded, AreFlags, IsCommand, IsLine, IsLiteral, IsPiece, IsSession, IsShortLine, NamedLine, Piece, line_limit, pieces_lines, pieces_text}
use Rattle.dv_formats.specs.Parsing.{parsed}
use Rattle.dv_commands.proofs.PrintedCommands.{command_printed}
use Rattle.dv_sets.proofs.PrintedFlags.{flags_printed}
use Rattle.dv_grammar.proofs.GrammarScripts.{script_read}
use Rattle.dv_script.specs.Printed.{ArePrintable, HasText, IsPrintable, head_text}

-- ---- one line

-- a printed line without its line feed
abbrev text_of : NamedLine → List ℕ
text_of line = line.0 ++ codes " " ++ command_text line.1

whole_is : (line : NamedLine) (b : List ℕ) → IsSession line.0 → length (line.0 ++ 32 ∷ command_text line.1) ≤ line_limit → IsCommand line.1 b → IsShortLine line (text_of line)
whole_is line b is short has = record {
  session = is;
  command_text = command_text line.1;
  command = command_printed line.1 b has;
  text = refl;
  size = omega (arith, short, ap length (append_assoc line.0 (codes " ") (command_text line.1)));
}

append_is : (name : List ℕ) (flags : ℕ) (keywords : List (List ℕ)) (message b : List ℕ) → IsSession name
    → length (name ++ 32 ∷ head_text (command.Append flags keywords message)) ≤ line_limit → AreFlags flags keywords b → length message < 2 ^ 32
    → IsLiteral name flags keywords message (text_of (name, command.Append flags keywords message))
append_is name flags keywords message b is short has small =
    let head = head_text (command.Append flags keywords message) in
    record {
      start = name ++ codes " " ++ head;
      ending = 10 ∷ [];
      starts = record {
        named = is;
        command_text = head;
        command = record { flags_text = flags_text flags keywords; stored = flags_printed flags keywords b has; below = small; text = refl };
        text = refl;
        short = omega (arith, short, ap length (append_assoc name (codes " ") head));
      };
      ends = inl refl;
      text = sym (append_assoc (name ++ codes " " ++ head) (10 ∷ []) message ∙ append_assoc (name ++ codes " ") head (10 ∷ message));
    }

line_is : (name : List ℕ) (c : Command) → IsSession name → HasText c → length (name ++ 32 ∷ head_text c) ≤ line_limit → IsLine (name, c) (text_of (name, c))
line_is name command.Select is has short = whole_is (name, command.Select) has.0 is short has.1
line_is name command.Noop is has short = whole_is (name, command.Noop) has.0 is short has.1
line_is name command.Check is has short = whole_is (name, command.Check) has.0 is short has.1
line_is name command.Expunge is has short = whole_is (name, command.Expunge) has.0 is short has.1
line_is name (command.Append flags keywords message) is has short = append_is name flags keywords message has.0 is short has.1 has.2
line_is name (command.Fetch by_uid set items) is has short = whole_is (name, command.Fetch by_uid set items) has.0 is short has.1
line_is name (command.Store by_uid set how flags keywords since) is has short = whole_is (name, command.Store by_uid set how flags keywords since) has.0 is short has.1
line_is name (command.Search by_uid k) is has short = whole_is (name, command.Search by_uid k) has.0 is short has.1
line_is name (command.UidRemove set) is has short = whole_is (name, command.UidRemove set) has.0 is short has.1

-- ---- all lines

abbrev piece_of : NamedLine → Piece
piece_of line = record { lines = line ∷ []; text = text_of line; ending = 10 ∷ [] }

pieces_are : (lines : List NamedLine) → AllByRecursion IsPrintable lines → All IsPiece (map piece_of lines)
pieces_are [] all = All-nil IsPiece
pieces_are (line ∷ lines) all =
    All-cons IsPiece (piece_of line) (map piece_of lines) (inr (inl (line, refl, line_is line.0 line.1 all.0.session all.0.command all.0.short))) (pieces_are lines all.1)

pieces_end : (lines : List NamedLine) → AreEnded (map piece_of lines)
pieces_end [] = tt
pieces_end (line ∷ []) = inl (inl refl)
pieces_end (line ∷ next ∷ lines) = (inl refl, pieces_end (next ∷ lines))

text_is : (lines : List NamedLine) → script_text lines ≡ pieces_text (map piece_of lines)
text_is [] = refl
text_is (line ∷ lines) = flat_map-cons line_text line lines ∙ ap (λ t. line_text line ++ t) (text_is lines) ∙ sym (flat_map-cons (λ (p : Piece). p.text ++ p.ending) (piece_of line) (map piece_of lines))

lines_are : (lines : List NamedLine) → lines ≡ pieces_lines (map piece_of lines)
lines_are [] = refl
lines_are (line ∷ lines) = ap (λ ls. line ∷ ls) (lines_are lines) ∙ sym (flat_map-cons (λ (p : Piece). p.lines) (piece_of line) (map piece_of lines))

pub printed_is_read : (lines : List NamedLine) → ArePrintable lines → parsed (script_text lines) ≡ Ok lines
printed_is_read lines is = script_read (script_text lines) lines (record {
  size = is.size;
  pieces = map piece_of lines;
  each = pieces_are lines is.each;
  ended = pieces_end lines;
  text = text_is lines;
  are = lines_are lines;
  sessions = is.sessions;
})
