-- What the grammar has is read: a line of a script.
use Rattle.std.proofs.Common.{◌≡◌, inl, inr, ℕ, zero, suc, ◌-◌, ◌<◌, ◌≤◌, Bool, true, false, List, [], ◌∷◌, ◌++◌, length, get_or, take, All, Contains, fold, Option, Some, None, Result, Ok, Err, codes, refl, sym, ◌∙◌, ap, subst, arith, append_assoc, nat_eq}
use Rattle.std.specs.Fmt.{decimal}
use Rattle.std.specs.Str.Lines.{strip_carriage_return}
use Rattle.std.proofs.lemmas.Bool.{eq-eqb, le-ltb, lt-ltb}
use Rattle.std.proofs.lemmas.List.{length-take-le}
use Rattle.std.proofs.lemmas.List.Elements.{All-head}
use Rattle.dv_model.specs.declared.types.Command.{Command}
use Rattle.dv_model.specs.declared.types.Command.TheVariants as command
use Rattle.dv_formats.specs.Scripts.{IsCommand, IsEmptyLiteral, IsLine, IsLineEnd, IsLiteral, IsLiteralStart, IsPiece, IsShortLine, IsSkipped, NamedLine, Piece, and_session, how_text, line_limit, uid_text}
use Rattle.dv_formats.specs.Parsing.{LineFault, TakenLine, after, as_list, command_at, first_line, is_skipped, line_at, literal_at}
use Rattle.dv_commands.proofs.AppendTexts.{append_again}
use Rattle.dv_commands.proofs.CommandTexts.{command_again}
use Rattle.dv_commands.proofs.Plain.{and_plain, append_plain, command_plain, plain}
use Rattle.dv_grammar.proofs.FirstLines.{IsEndedBy, free_of_feeds, read_first}
use Rattle.dv_grammar.proofs.NamedLines.{HasRoom, line_named, literal_here, no_return, plain_open, session_plain, start_here, whole_here}

-- the line that begins these bytes is read as these lines, which are one or none
pub record IsTaken (names : List (List ℕ)) (b : List ℕ) (lines : List NamedLine) (rest : List ℕ) : Type 0 where
  pub line : Option NamedLine
  pub are : as_list line ≡ lines
  pub read : line_at names (first_line b).0 (first_line b).1 ≡ Ok (line, fold and_session names lines, rest)

-- ---- skipped lines

front_skipped : (n : ℕ) (t : List ℕ) → is_skipped t ≡ true → is_skipped (take n t) ≡ true
front_skipped zero t is = refl
front_skipped (suc n) [] is = refl
front_skipped (suc n) (x ∷ t) is = is

cut_skipped : (t : List ℕ) → is_skipped t ≡ true → length t ≤ line_limit → (is_skipped (strip_carriage_return t) ≡ true) × (length (strip_carriage_return t) ≤ line_limit)
cut_skipped t is short = by_test (nat_eq (get_or t (length t - 1) 0) 13) refl
  where
    by_test : (f : Bool) → nat_eq (get_or t (length t - 1) 0) 13 ≡ f → (is_skipped (strip_carriage_return t) ≡ true) × (length (strip_carriage_return t) ≤ line_limit)
    by_test true last =
        let same : strip_carriage_return t ≡ take (length t - 1) t = rw last refl in
        (ap is_skipped same ∙ front_skipped (length t - 1) t is, omega (arith, short, ap length same, length-take-le (length t - 1) t (omega arith)))
    by_test false last =
        let same : strip_carriage_return t ≡ t = rw last refl in
        (ap is_skipped same ∙ is, omega (arith, short, ap length same))

skipped_parts : (t : List ℕ) → IsSkipped t → (is_skipped t ≡ true) × (length t ≤ line_limit) × (Contains t 10 → ⊥)
skipped_parts [] is = (refl, omega arith, λ has. omega (arith, has.1))
skipped_parts (x ∷ t) is = (eq-eqb x 35 is.0, is.2, λ has. at has.0 has.1 has.2)
  where
    at : (k : ℕ) → k < length (x ∷ t) → get_or (x ∷ t) k 10 ≡ 10 → ⊥
    at zero less e = omega (arith, is.0, e)
    at (suc k) less e = is.1 (k, omega (arith, less), e)

nothing_here : (names : List (List ℕ)) (text rest : List ℕ) → is_skipped text ≡ true → length text ≤ line_limit → line_at names text rest ≡ Ok (None, names, rest)
unfolding line_at
nothing_here names text rest is short = rw (le-ltb line_limit (length text) short, is) refl

skipped_taken : (names : List (List ℕ)) (t ending rest : List ℕ) → IsSkipped t → IsEndedBy ending rest → IsTaken names (t ++ (ending ++ rest)) [] rest
skipped_taken names t ending rest is ended =
    let whole = skipped_parts t is in
    let cut = cut_skipped t whole.0 whole.1 in
    record {
      line = None;
      are = refl;
      read = read_first t ending rest (free_of_feeds t whole.2) ended (λ (p : List ℕ × List ℕ). line_at names p.0 p.1 ≡ Ok (None, names, rest)) (nothing_here names (strip_carriage_return t) rest cut.0 cut.1) (nothing_here names t rest whole.0 whole.1);
    }

-- ---- a line with a command

-- no command of one line begins with the word of an APPEND
no_append : (c : Command) (b : List ℕ) → IsCommand c b → after (codes "APPEND ") b ≡ None
no_append command.Select b is = ap (after (codes "APPEND ")) is
no_append command.Noop b is = ap (after (codes "APPEND ")) is
no_append command.Check b is = ap (after (codes "APPEND ")) is
no_append command.Expunge b is = ap (after (codes "APPEND ")) is
no_append (command.Append flags keywords message) b is = absurd is
no_append (command.Fetch by_uid set items) b is = ap (after (codes "APPEND ")) is.text ∙ by_word by_uid
  where
    by_word : (t : Bool) → after (codes "APPEND ") (uid_text t ++ codes "FETCH " ++ is.set_text ++ codes " " ++ is.items_text) ≡ None
    by_word true = refl
    by_word false = refl
no_append (command.Store by_uid set how flags keywords since) b is = ap (after (codes "APPEND ")) is.text ∙ by_word by_uid
  where
    by_word : (t : Bool) → after (codes "APPEND ") (uid_text t ++ codes "STORE " ++ is.set_text ++ codes " " ++ is.modifier ++ how_text how ++ codes " " ++ is.flags_text) ≡ None
    by_word true = refl
    by_word false = refl
no_append (command.Search by_uid k) b is = ap (after (codes "APPEND ")) is.2 ∙ by_word by_uid
  where
    by_word : (t : Bool) → after (codes "APPEND ") (uid_text t ++ codes "SEARCH " ++ is.0) ≡ None
    by_word true = refl
    by_word false = refl
no_append (command.UidRemove set) b is = ap (after (codes "APPEND ")) is.2

read_plain : (names : List (List ℕ)) (text ending rest : List ℕ) (r : Result TakenLine LineFault) → plain text ≡ true → IsEndedBy ending rest → line_at names text rest ≡ r
    → line_at names (first_line (text ++ (ending ++ rest))).0 (first_line (text ++ (ending ++ rest))).1 ≡ r
read_plain names text ending rest r is ended e =
    read_first text ending rest (plain_open text 10 (omega arith) is) ended (λ (p : List ℕ × List ℕ). line_at names p.0 p.1 ≡ r) (ap (λ t. line_at names t rest) (no_return text is) ∙ e) e

short_taken : (names : List (List ℕ)) (line : NamedLine) (text ending rest : List ℕ) → IsShortLine line text → IsEndedBy ending rest → HasRoom names line → IsTaken names (text ++ (ending ++ rest)) (line ∷ []) rest
short_taken names line text ending rest is ended room =
    let words = is.command_text in
    let same : text ≡ line.0 ++ 32 ∷ words = is.text ∙ append_assoc line.0 (codes " ") words in
    let printable : plain text ≡ true = ap plain same ∙ and_plain line.0 (32 ∷ words) (session_plain line.0 is.session) (command_plain line.1 words is.command) in
    let short : length (line.0 ++ 32 ∷ words) ≤ line_limit = subst (λ t. length t ≤ line_limit) same is.size in
    let read : line_at names (line.0 ++ 32 ∷ words) rest ≡ Ok (Some line, and_session names line, rest) =
    line_named names line words rest is.session short room ∙ whole_here line.0 (and_session names line) words rest line.1 (no_append line.1 words is.command) (command_again line.1 words is.command) in
    record {
      line = Some line;
      are = refl;
      read = read_plain names text ending rest (Ok (Some line, and_session names line, rest)) printable ended (ap (λ t. line_at names t rest) same ∙ read);
    }

-- ---- a literal

-- behind the first line of an APPEND its literal is read
pub start_taken : (names : List (List ℕ)) (session : List ℕ) (flags : ℕ) (keywords : List (List ℕ)) (number : ℕ) (start ending bytes : List ℕ)
    → IsLiteralStart session flags keywords number start → IsEndedBy ending bytes → HasRoom names (session, command.Noop)
    → line_at names (first_line (start ++ (ending ++ bytes))).0 (first_line (start ++ (ending ++ bytes))).1 ≡ literal_at session (and_session names (session, command.Noop)) ((flags, keywords), number) bytes
start_taken names session flags keywords number start ending bytes is ended room =
    let all = and_session names (session, command.Noop) in
    let list = is.command.flags_text in
    let behind = list ++ (codes " {" ++ (decimal number ++ codes "}")) in
    let words = is.command_text in
    let words_are : words ≡ codes "APPEND " ++ behind = is.command.text
    ∙ append_assoc (codes "APPEND " ++ list ++ codes " {") (decimal number) (codes "}")
    ∙ append_assoc (codes "APPEND " ++ list) (codes " {") (decimal number ++ codes "}")
    ∙ append_assoc (codes "APPEND ") list (codes " {" ++ (decimal number ++ codes "}")) in
    let same : start ≡ session ++ 32 ∷ words = is.text ∙ append_assoc session (codes " ") words in
    let printable : plain start ≡ true = ap plain same ∙ and_plain session (32 ∷ words) (session_plain session is.named) (append_plain flags keywords number words is.command) in
    let short : length (session ++ 32 ∷ words) ≤ line_limit = subst (λ t. length t ≤ line_limit) same is.short in
    let read : line_at names start bytes ≡ literal_at session all ((flags, keywords), number) bytes = ap (λ t. line_at names t bytes) same
    ∙ line_named names (session, command.Noop) words bytes is.named short room
    ∙ ap (λ w. command_at session all w bytes) words_are
    ∙ start_here session all behind bytes ((flags, keywords), number) (append_again flags keywords number list is.command.stored is.command.below) in
    read_plain names start ending bytes (literal_at session all ((flags, keywords), number) bytes) printable ended read

literal_taken : (names : List (List ℕ)) (name : List ℕ) (flags : ℕ) (keywords : List (List ℕ)) (message text ending rest : List ℕ) → IsLiteral name flags keywords message text
    → IsEndedBy ending rest → HasRoom names (name, command.Noop) → IsTaken names (text ++ (ending ++ rest)) ((name, command.Append flags keywords message) ∷ []) rest
literal_taken names name flags keywords message text ending rest is ended room =
    let all = and_session names (name, command.Noop) in
    let bytes = message ++ (ending ++ rest) in
    let whole : text ++ (ending ++ rest) ≡ is.start ++ (is.ending ++ bytes) = ap (λ t. t ++ (ending ++ rest)) is.text ∙ append_assoc (is.start ++ is.ending) message (ending ++ rest) ∙ append_assoc is.start is.ending bytes in
    record {
      line = Some (name, command.Append flags keywords message);
      are = refl;
      read = ap (λ b. line_at names (first_line b).0 (first_line b).1) whole ∙ start_taken names name flags keywords (length message) is.start is.ending bytes is.starts (inl is.ends) room ∙ literal_here name all flags keywords message ending rest ended;
    }

no_end : (ending : List ℕ) → ending ≡ [] → IsLineEnd ending → ⊥
no_end ending e (inl feed) = let same = sym e ∙ feed in cc
no_end ending e (inr both) = let same = sym e ∙ both in cc

empty_taken : (names : List (List ℕ)) (piece : Piece) (rest : List ℕ) → IsEmptyLiteral piece → IsEndedBy piece.ending rest → All (HasRoom names) piece.lines → IsTaken names (piece.text ++ (piece.ending ++ rest)) piece.lines rest
empty_taken names piece rest is (inl ends) room = absurd (no_end piece.ending is.ending ends)
empty_taken names piece rest is (inr none) room =
    let line : NamedLine = (is.session, command.Append is.flags is.keywords []) in
    let fits : HasRoom names line = All-head (HasRoom names) line [] (subst (All (HasRoom names)) is.lines room) in
    let read = start_taken names is.session is.flags is.keywords 0 piece.text piece.ending rest is.starts (inr none) fits ∙ literal_here is.session (and_session names line) is.flags is.keywords [] [] rest (inr (refl, none.1)) in
    subst (λ ls. IsTaken names (piece.text ++ (piece.ending ++ rest)) ls rest) (sym is.lines) (record { line = Some line; are = refl; read = read })

-- ---- lines of each kind

line_taken : (names : List (List ℕ)) (line : NamedLine) (text ending rest : List ℕ) → IsLine line text → IsEndedBy ending rest → HasRoom names line → IsTaken names (text ++ (ending ++ rest)) (line ∷ []) rest
line_taken names (name, command.Select) text ending rest is ended room = short_taken names (name, command.Select) text ending rest is ended room
line_taken names (name, command.Noop) text ending rest is ended room = short_taken names (name, command.Noop) text ending rest is ended room
line_taken names (name, command.Check) text ending rest is ended room = short_taken names (name, command.Check) text ending rest is ended room
line_taken names (name, command.Expunge) text ending rest is ended room = short_taken names (name, command.Expunge) text ending rest is ended room
line_taken names (name, command.Append flags keywords message) text ending rest is ended room = literal_taken names name flags keywords message text ending rest is ended room
line_taken names (name, command.Fetch by_uid set items) text ending rest is ended room = short_taken names (name, command.Fetch by_uid set items) text ending rest is ended room
line_taken names (name, command.Store by_uid set how flags keywords since) text ending rest is ended room = short_taken names (name, command.Store by_uid set how flags keywords since) text ending rest is ended room
line_taken names (name, command.Search by_uid k) text ending rest is ended room = short_taken names (name, command.Search by_uid k) text ending rest is ended room
line_taken names (name, command.UidRemove set) text ending rest is ended room = short_taken names (name, command.UidRemove set) text ending rest is ended room

pub piece_taken : (names : List (List ℕ)) (piece : Piece) (rest : List ℕ) → IsPiece piece → IsEndedBy piece.ending rest → All (HasRoom names) piece.lines → IsTaken names (piece.text ++ (piece.ending ++ rest)) piece.lines rest
piece_taken names piece rest (inl none) ended room = subst (λ ls. IsTaken names (piece.text ++ (piece.ending ++ rest)) ls rest) (sym none.0) (skipped_taken names piece.text piece.ending rest none.1 ended)
piece_taken names piece rest (inr (inl (line, are, is))) ended room =
    subst (λ ls. IsTaken names (piece.text ++ (piece.ending ++ rest)) ls rest) (sym are) (line_taken names line piece.text piece.ending rest is ended (All-head (HasRoom names) line [] (subst (All (HasRoom names)) are room)))
piece_taken names piece rest (inr (inr is)) ended room = empty_taken names piece rest is ended room

-- a literal without all its bytes
literal_short : (name : List ℕ) (names : List (List ℕ)) (start : (ℕ × List (List ℕ)) × ℕ) (bytes : List ℕ) → length bytes < start.1 → literal_at name names start bytes ≡ Err LineFault.short
unfolding literal_at
literal_short name names start bytes few = rw (lt-ltb (length bytes) start.1 few) refl

pub short_literal_taken : (names : List (List ℕ)) (session : List ℕ) (flags : ℕ) (keywords : List (List ℕ)) (number : ℕ) (start ending bytes : List ℕ)
    → IsLiteralStart session flags keywords number start → IsEndedBy ending bytes → HasRoom names (session, command.Noop) → length bytes < number
    → line_at names (first_line (start ++ (ending ++ bytes))).0 (first_line (start ++ (ending ++ bytes))).1 ≡ Err LineFault.short
short_literal_taken names session flags keywords number start ending bytes is ended room few =
    start_taken names session flags keywords number start ending bytes is ended room ∙ literal_short session (and_session names (session, command.Noop)) ((flags, keywords), number) bytes few
