-- Reading line by line.
use Rattle.std.proofs.Common.{◌≡◌, ◌⊎◌, inl, inr, ℕ, ◌+◌, ◌-◌, ◌≤◌, ◌<◌, true, List, [], ◌∷◌, ◌++◌, fold, length, Option, Some, None, Ok, Err, refl, sym, ap, subst, ◌∙◌, arith}
use Rattle.std.specs.Prelude.{All}
use Rattle.std.proofs.lemmas.Bool.{le-ltb, lt-ltb}
use Rattle.std.proofs.lemmas.List.Elements.{All-append, All-cons, All-nil}
use Rattle.std.proofs.lemmas.List.{length-append}
use Rattle.std.proofs.lemmas.List.Sums.{fold-append}
use Rattle.dv_model.specs.declared.types.Command.TheVariants as command
use Rattle.dv_formats.specs.Scripts.{IsEmptyLiteral, IsLine, IsPiece, IsSkipped, NamedLine, Piece, and_session, script_limit}
use Rattle.dv_formats.specs.Parsing.{LineFault, ScriptFault, TakenLine, as_list, feeds_before, first_line, line_at, lines_at}
use Rattle.dv_grammar.proofs.Steps.{faulty, none_left, step}
use Rattle.dv_script.specs.declared.script.LineEnd.{LineEnd}
use Rattle.dv_script.specs.declared.script.LineEnd.TheVariants as line_end
use Rattle.dv_script.specs.Beside.{HasName, parsed_among}
use Rattle.dv_script.specs.Rests.{is_good, left_from}
use Rattle.dv_script.specs.Sources.{LineFails, ScriptFails, script_end_of}
use Rattle.dv_script.proofs.Rests.{is_left, read_is}

pub within_limit : (names : List (List ℕ)) (b : List ℕ) → length b ≤ script_limit → parsed_among names b ≡ lines_at (length b) 1 [] names b
within_limit names b short = rw (le-ltb script_limit (length b) short) refl

pub beyond_limit : (names : List (List ℕ)) (b : List ℕ) → script_limit < length b → parsed_among names b ≡ Err ScriptFault.TooLong
beyond_limit names b long = rw (lt-ltb script_limit (length b) long) refl

-- behind these sessions some lines were read, of these sessions, and this is left, from the line of
-- this number on
pub record IsReadTo (first : List (List ℕ)) (b : List ℕ) (k : ℕ) (names : List (List ℕ)) (rest : List ℕ) : Type 0 where
  pub most : ℕ
  pub enough : length rest ≤ most
  pub lines : List NamedLine
  pub same : lines_at most k lines names rest ≡ lines_at (length b) 1 [] first b
  pub named : names ≡ fold and_session first lines
  pub spoken : All HasName lines
  pub few : length lines + length rest ≤ length b

pub starts : (first : List (List ℕ)) (b : List ℕ) → IsReadTo first b 1 first b
starts first b = record { most = length b; enough = omega arith; lines = []; same = refl; named = refl; spoken = All-nil HasName; few = omega arith }

one_at_most : (line : Option NamedLine) → length (as_list line) ≤ 1
one_at_most None = omega arith
one_at_most (Some line) = omega arith

-- ---- a line's session has a name

line_named : (line : NamedLine) (text : List ℕ) → IsLine line text → HasName line
line_named (name, command.Select) text is = is.session.size.0
line_named (name, command.Noop) text is = is.session.size.0
line_named (name, command.Check) text is = is.session.size.0
line_named (name, command.Expunge) text is = is.session.size.0
line_named (name, command.Append flags keywords message) text is = is.starts.named.size.0
line_named (name, command.Fetch by_uid set items) text is = is.session.size.0
line_named (name, command.Store by_uid set how flags keywords since) text is = is.session.size.0
line_named (name, command.Search by_uid k) text is = is.session.size.0
line_named (name, command.UidRemove set) text is = is.session.size.0

one_named : (line : NamedLine) → HasName line → All HasName (line ∷ [])
one_named line named = All-cons HasName line [] named (All-nil HasName)

piece_named : (piece : Piece) → IsPiece piece → All HasName piece.lines
piece_named piece (inl skipped) = subst (All HasName) (sym skipped.0) (All-nil HasName)
piece_named piece (inr (inl (line, are, is))) = subst (All HasName) (sym are) (one_named line (line_named line piece.text is))
piece_named piece (inr (inr empty)) = subst (All HasName) (sym empty.lines) (one_named (empty.session, command.Append empty.flags empty.keywords []) empty.starts.named.size.0)

-- one line more
pub goes_on : (first : List (List ℕ)) (b : List ℕ) (k : ℕ) (names : List (List ℕ)) (rest : List ℕ) (taken : TakenLine) → IsReadTo first b k names rest → 0 < length rest → length taken.2 < length rest
    → line_at names (first_line rest).0 (first_line rest).1 ≡ Ok taken → IsReadTo first b (k + feeds_before rest taken.2) taken.1 taken.2
goes_on first b k names rest taken so_far some less read = record {
  most = so_far.most - 1;
  enough = omega (arith, so_far.enough, less);
  lines = so_far.lines ++ as_list taken.0;
  same = sym (step so_far.most k so_far.lines names rest taken some so_far.enough read) ∙ so_far.same;
  named = (read_is names rest taken read).named ∙ ap (λ ns. fold and_session ns (as_list taken.0)) so_far.named ∙ sym (fold-append and_session first so_far.lines (as_list taken.0));
  spoken = All-append HasName so_far.lines (as_list taken.0) so_far.spoken (subst (All HasName) (read_is names rest taken read).are (piece_named (read_is names rest taken read).piece (read_is names rest taken read).is));
  few = omega (arith, so_far.few, less, one_at_most taken.0, length-append so_far.lines (as_list taken.0));
}

-- a line with a fault
pub fails : (first : List (List ℕ)) (b : List ℕ) (k : ℕ) (names : List (List ℕ)) (rest : List ℕ) (end : LineEnd)
    → IsReadTo first b k names rest → 0 < length rest → length b ≤ 67108864
    → LineFails end (line_at names (first_line rest).0 (first_line rest).1)
    → ScriptFails (script_end_of k end) (parsed_among first b)
fails first b k names rest line_end.NoMemory so_far some short fault = tt
fails first b k names rest line_end.Bad so_far some short fault = within_limit first b short ∙ sym so_far.same ∙ faulty so_far.most k so_far.lines names rest LineFault.bad some so_far.enough fault
fails first b k names rest line_end.Short so_far some short fault = within_limit first b short ∙ sym so_far.same ∙ faulty so_far.most k so_far.lines names rest LineFault.short some so_far.enough fault

-- all was read
ended : (most k : ℕ) (lines : List NamedLine) (names : List (List ℕ)) (rest : List ℕ) → length rest ≡ 0 → lines_at most k lines names rest ≡ Ok lines
ended most k lines names [] empty = none_left most k lines names
ended most k lines names (x ∷ rest) empty = absurd (omega (arith, empty))

pub record IsDone (first : List (List ℕ)) (b : List ℕ) (names : List (List ℕ)) : Type 0 where
  pub good : is_good first b ≡ true
  pub lines : parsed_among first b ≡ Ok (left_from first b)
  pub few : length (left_from first b) ≤ length b
  pub named : names ≡ fold and_session first (left_from first b)
  pub spoken : All HasName (left_from first b)

pub done : (first : List (List ℕ)) (b : List ℕ) (k : ℕ) (names : List (List ℕ)) (rest : List ℕ) → IsReadTo first b k names rest → length rest ≡ 0 → length b ≤ 67108864 → IsDone first b names
done first b k names rest so_far empty short =
    let all = sym so_far.same ∙ ended so_far.most k so_far.lines names rest empty in
    let left = is_left first b so_far.lines all in
    record {
      good = left.0;
      lines = within_limit first b short ∙ all ∙ ap Ok (sym left.1);
      few = omega (arith, so_far.few, ap length left.1);
      named = so_far.named ∙ ap (fold and_session first) (sym left.1);
      spoken = subst (All HasName) (sym left.1) so_far.spoken;
    }

-- the line that was read is the first one
pub same_line : (names : List (List ℕ)) (rest text end : List ℕ) → text ≡ (first_line rest).0 → end ≡ (first_line rest).1
    → line_at names text end ≡ line_at names (first_line rest).0 (first_line rest).1
same_line names rest text end p q = ap (λ t. line_at names t end) p ∙ ap (λ t. line_at names (first_line rest).0 t) q
