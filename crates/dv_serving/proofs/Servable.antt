-- Each command of a script may be served.
use Rattle.std.proofs.Common.{◌≡◌, inl, inr, ℕ, ◌≤◌, List, [], ◌∷◌, ◌++◌, length, All, codes, decimal, sym, ap, subst, arith, length-append}
use Rattle.std.proofs.lemmas.List.Concat.{flat_map-cons}
use Rattle.std.proofs.lemmas.List.Elements.{All-append, All-cons, All-head, All-nil, All-tail}
use Rattle.dv_model.specs.declared.types.Command.{Command}
use Rattle.dv_model.specs.declared.types.Command.TheVariants as command
use Rattle.dv_formats.specs.Scripts.{IsCommand, IsLine, IsLiteralStart, IsPiece, IsScript, IsShortLine, IsStore, NamedLine, Piece, how_text, line_limit, pieces_lines, uid_text}
use Rattle.dv_search.proofs.Depths.{sought_levels}
use Rattle.dv_serving.specs.Servable.{IsServable}
use Rattle.dv_serving.proofs.Flags.{flags_fit}

abbrev pub IsFine : NamedLine → Type 0
IsFine line = IsServable line.1

-- ---- one line

-- what ends a text is no longer
ends_within : (before last b : List ℕ) → b ≡ before ++ last → length last ≤ length b
ends_within before last b is = omega (arith, ap length is, length-append before last)

store_is : (by_uid : _) (set : _) (how : _) (flags : ℕ) (keywords : List (List ℕ)) (since : _) (b : List ℕ)
    → IsStore by_uid set how flags keywords since b → length b ≤ line_limit
    → IsServable (command.Store by_uid set how flags keywords since)
store_is by_uid set how flags keywords since b is short =
    let fits = flags_fit flags keywords is.flags_text is.stored in
    let within = ends_within (uid_text by_uid ++ codes "STORE " ++ is.set_text ++ codes " " ++ is.modifier ++ how_text how ++ codes " ") is.flags_text b is.text in
    record { command = (fits.0, fits.1); few = omega (arith, fits.2, within, short); shallow = tt }

whole_is : (c : Command) (b : List ℕ) → IsCommand c b → length b ≤ line_limit → IsServable c
whole_is command.Select b is short = record { command = tt; few = tt; shallow = tt }
whole_is command.Noop b is short = record { command = tt; few = tt; shallow = tt }
whole_is command.Check b is short = record { command = tt; few = tt; shallow = tt }
whole_is command.Expunge b is short = record { command = tt; few = tt; shallow = tt }
whole_is (command.Append flags keywords message) b is short = absurd is
whole_is (command.Fetch by_uid set items) b is short = record { command = tt; few = tt; shallow = tt }
whole_is (command.Store by_uid set how flags keywords since) b is short =
    store_is by_uid set how flags keywords since b is short
whole_is (command.Search by_uid key) b is short =
    record { command = tt; few = tt; shallow = sought_levels key is.0 is.1 }
whole_is (command.UidRemove set) b is short = record { command = tt; few = tt; shallow = tt }

short_is : (line : NamedLine) (b : List ℕ) → IsShortLine line b → IsFine line
short_is line b is = whole_is line.1 is.command_text is.command (omega (arith, is.size, ends_within (line.0 ++ codes " ") is.command_text b is.text))

append_is : (session : List ℕ) (flags : ℕ) (keywords : List (List ℕ)) (size : ℕ) (message b : List ℕ)
    → IsLiteralStart session flags keywords size b
    → IsServable (command.Append flags keywords message)
append_is session flags keywords size message b is =
    let start = is.command in
    let fits = flags_fit flags keywords start.flags_text start.stored in
    let within = ends_within (session ++ codes " ") is.command_text b is.text in
    let inside : length start.flags_text ≤ length is.command_text = omega (arith, ap length start.text, length-append (codes "APPEND ") start.flags_text, length-append (codes "APPEND " ++ start.flags_text) (codes " {"), length-append (codes "APPEND " ++ start.flags_text ++ codes " {") (decimal size), length-append (codes "APPEND " ++ start.flags_text ++ codes " {" ++ decimal size) (codes "}")) in
    record { command = (fits.0, fits.1); few = omega (arith, fits.2, inside, within, is.short); shallow = tt }

line_is : (session : List ℕ) (c : Command) (b : List ℕ) → IsLine (session, c) b → IsServable c
line_is session command.Select b is = short_is (session, command.Select) b is
line_is session command.Noop b is = short_is (session, command.Noop) b is
line_is session command.Check b is = short_is (session, command.Check) b is
line_is session command.Expunge b is = short_is (session, command.Expunge) b is
line_is session (command.Append flags keywords message) b is = append_is session flags keywords (length message) message is.start is.starts
line_is session (command.Fetch by_uid set items) b is = short_is (session, command.Fetch by_uid set items) b is
line_is session (command.Store by_uid set how flags keywords since) b is = short_is (session, command.Store by_uid set how flags keywords since) b is
line_is session (command.Search by_uid key) b is = short_is (session, command.Search by_uid key) b is
line_is session (command.UidRemove set) b is = short_is (session, command.UidRemove set) b is

-- ---- all lines

one_is : (line : NamedLine) → IsFine line → All IsFine (line ∷ [])
one_is line is = All-cons IsFine line [] is (All-nil IsFine)

piece_is : (piece : Piece) → IsPiece piece → All IsFine piece.lines
piece_is piece (inl skipped) = subst (All IsFine) (sym skipped.0) (All-nil IsFine)
piece_is piece (inr (inl has)) = subst (All IsFine) (sym has.1) (one_is has.0 (line_is has.0.0 has.0.1 piece.text has.2))
piece_is piece (inr (inr empty)) =
    subst (All IsFine) (sym empty.lines) (one_is (empty.session, command.Append empty.flags empty.keywords [])
    (append_is empty.session empty.flags empty.keywords 0 [] piece.text empty.starts))

pieces_are : (pieces : List Piece) → All IsPiece pieces → All IsFine (pieces_lines pieces)
pieces_are [] all = All-nil IsFine
pieces_are (piece ∷ pieces) all =
    subst (All IsFine) (sym (flat_map-cons (λ (p : Piece). p.lines) piece pieces))
    (All-append IsFine piece.lines (pieces_lines pieces) (piece_is piece (All-head IsPiece piece pieces all)) (pieces_are pieces (All-tail IsPiece piece pieces all)))

pub script_servable : (lines : List NamedLine) (b : List ℕ) → IsScript lines b
    → All (λ (line : NamedLine). IsServable line.1) lines
script_servable lines b is = subst (All IsFine) (sym is.are) (pieces_are is.pieces is.each)
