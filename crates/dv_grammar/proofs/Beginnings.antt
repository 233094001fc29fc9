-- What begins the rest of a script, in the grammar's terms and as it is read.
use Rattle.std.proofs.Common.{◌≡◌, ℕ, ◌≤◌, List, [], ◌∷◌, ◌++◌, length, All, fold, Option, Some, None, Ok, Err, sym, ◌∙◌, ap, subst, append_assoc}
use Rattle.std.proofs.lemmas.List.Elements.{All-cons, All-head, All-nil, All-tail}
use Rattle.std.proofs.lemmas.List.Sums.{fold-append}
use Rattle.dv_model.specs.declared.types.Command.TheVariants as command
use Rattle.dv_formats.specs.Scripts.{BeginsShort, BeginsWell, MaySpeak, NamedLine, and_session, session_limit, sessions_of}
use Rattle.dv_formats.specs.Parsing.{LineFault, TakenLine, as_list, first_line, line_at}
use Rattle.dv_grammar.proofs.FirstLines.{first_is}
use Rattle.dv_grammar.proofs.GrammarLines.{piece_taken, short_literal_taken}
use Rattle.dv_grammar.proofs.NamedLines.{HasRoom}
use Rattle.dv_grammar.proofs.ReadLines.{IsRead, IsShort, line_sound, short_sound}

-- behind these good lines, of these sessions
module _ (lines : List NamedLine) (names : List (List ℕ)) (named : names ≡ sessions_of lines) (few : length names ≤ session_limit) (b : List ℕ) where
  sessions_with : (session : List ℕ) → sessions_of (lines ++ (session, command.Noop) ∷ []) ≡ and_session names (session, command.Noop)
  sessions_with session = fold-append and_session [] lines ((session, command.Noop) ∷ []) ∙ ap (λ ns. and_session ns (session, command.Noop)) (sym named)

  may_speak : (session : List ℕ) → HasRoom names (session, command.Noop) → MaySpeak lines session
  may_speak session room = subst (λ ns. length ns ≤ session_limit) (sym (sessions_with session)) room

  has_room : (session : List ℕ) → MaySpeak lines session → HasRoom names (session, command.Noop)
  has_room session may = subst (λ ns. length ns ≤ session_limit) (sessions_with session) may

  have_room : (more : List NamedLine) → All (λ (line : NamedLine). MaySpeak lines line.0) more → All (HasRoom names) more
  have_room [] all = All-nil (HasRoom names)
  have_room (line ∷ more) all = All-cons (HasRoom names) line more (has_room line.0 (All-head (λ (l : NamedLine). MaySpeak lines l.0) line more all)) (have_room more (All-tail (λ (l : NamedLine). MaySpeak lines l.0) line more all))

  -- ---- from the grammar

  pub well_taken : BeginsWell lines b → (taken : TakenLine) × (line_at names (first_line b).0 (first_line b).1 ≡ Ok taken)
  well_taken is =
      let whole = is.text ∙ append_assoc is.piece.text is.piece.ending is.behind in
      let taken = piece_taken names is.piece is.behind is.is is.ended (have_room is.piece.lines is.allowed) in
      ((taken.line, fold and_session names is.piece.lines, is.behind), ap (λ t. line_at names (first_line t).0 (first_line t).1) whole ∙ taken.read)

  pub short_taken : BeginsShort lines b → line_at names (first_line b).0 (first_line b).1 ≡ Err LineFault.short
  short_taken is =
      let whole = is.text ∙ append_assoc is.start is.ending is.bytes in
      ap (λ t. line_at names (first_line t).0 (first_line t).1) whole ∙ short_literal_taken names is.session is.flags is.keywords is.number is.start is.ending is.bytes is.starts is.ended (has_room is.session is.allowed) is.few

  -- ---- to the grammar

  begins_well : (taken : TakenLine) → IsRead names b taken → BeginsWell lines b
  begins_well taken read = record {
    piece = read.piece;
    is = read.is;
    behind = taken.2;
    text = read.whole ∙ sym (append_assoc read.piece.text read.piece.ending taken.2);
    ended = read.ended;
    allowed = subst (All (λ (line : NamedLine). MaySpeak lines line.0)) (sym read.are) (may_all taken.0 (subst (λ ns. length ns ≤ session_limit) read.named (read.few few)));
  }
    where
      may_all : (line : Option NamedLine) → length (fold and_session names (as_list line)) ≤ session_limit → All (λ (l : NamedLine). MaySpeak lines l.0) (as_list line)
      may_all None less = All-nil (λ (l : NamedLine). MaySpeak lines l.0)
      may_all (Some line) less = All-cons (λ (l : NamedLine). MaySpeak lines l.0) line [] (may_speak line.0 less) (All-nil (λ (l : NamedLine). MaySpeak lines l.0))

  begins_short : IsShort names b → BeginsShort lines b
  begins_short is = record {
    session = is.session;
    flags = is.start.0.0;
    keywords = is.start.0.1;
    number = is.start.1;
    start = (first_line b).0;
    ending = is.ending;
    bytes = (first_line b).1;
    starts = is.starts;
    text = is.whole ∙ sym (append_assoc (first_line b).0 is.ending (first_line b).1);
    ended = is.ended;
    few = is.few;
    allowed = may_speak is.session (is.allowed few);
  }

  pub taken_well : (taken : TakenLine) → line_at names (first_line b).0 (first_line b).1 ≡ Ok taken → BeginsWell lines b
  taken_well taken e = begins_well taken (line_sound names b taken (first_is b) e)

  pub taken_short : line_at names (first_line b).0 (first_line b).1 ≡ Err LineFault.short → BeginsShort lines b
  taken_short e = begins_short (short_sound names b (first_is b) e)
