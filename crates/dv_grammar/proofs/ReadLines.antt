-- What is read is of the grammar: a line of a script.
use Rattle.std.proofs.Common.{◌≡◌, ◌⊎◌, inl, inr, ℕ, suc, ◌<◌, ◌≤◌, Bool, true, false, cond, List, [], ◌∷◌, ◌++◌, length, take, drop, fold, Option, Some, None, Result, Ok, Err, codes, refl, sym, ◌∙◌, ap, subst, arith, append_assoc, nat_lt}
use Rattle.std.specs.List.{list_any}
use Rattle.std.specs.Str.{bytes_eq}
use Rattle.std.proofs.lemmas.Bool.{eqb-true, ltb-false, ltb-true}
use Rattle.std.proofs.lemmas.List.{length-append, length-take-le, take-append-drop}
use Rattle.dv_model.specs.declared.types.Command.{Command}
use Rattle.dv_model.specs.declared.types.Command.TheVariants as command
use Rattle.dv_formats.specs.Scripts.{IsAppendStart, IsLine, IsLineEnd, IsLiteralStart, IsPiece, IsSession, IsShortLine, IsSkipped, NamedLine, Piece, and_session, line_limit, session_limit}
use Rattle.dv_formats.specs.Parsing.{LineFault, TakenLine, after, append_of, as_list, behind_line_end, command_at, command_of, first_line, is_byte, is_skipped, line_at, literal_at, session_at, with_session}
use Rattle.dv_commands.proofs.Base.{after_is, some_is}
use Rattle.dv_commands.proofs.Words.{goes_on}
use Rattle.dv_grammar.proofs.Commands.{append_sound, command_sound}
use Rattle.dv_grammar.proofs.FirstLines.{FirstIs, feedless}
use Rattle.dv_grammar.proofs.NamedLines.{session_takes}

ok_is : {A E : Type 0} (x y : A) → ◌≡◌ {A = Result A E} (Ok x) (Ok y) → x ≡ y
ok_is x y e = cc

pub no_ok : {A E : Type 0} (x : E) (y : A) → ◌≡◌ {A = Result A E} (Err x) (Ok y) → ⊥
no_ok x y e = cc

-- a good line begins the bytes, and what was read is what it says
pub record IsRead (names : List (List ℕ)) (b : List ℕ) (taken : TakenLine) : Type 0 where
  pub piece : Piece
  pub is : IsPiece piece
  pub are : piece.lines ≡ as_list taken.0
  pub whole : b ≡ piece.text ++ (piece.ending ++ taken.2)
  pub ended : IsLineEnd piece.ending ⊎ ((piece.ending ≡ []) × (taken.2 ≡ []))
  pub named : taken.1 ≡ fold and_session names (as_list taken.0)
  pub few : length names ≤ session_limit → length taken.1 ≤ session_limit

-- ---- parts of a line

skipped : (text : List ℕ) → is_skipped text ≡ true → goes_on (is_byte 10) text ≡ true → length text ≤ line_limit → IsSkipped text
skipped [] is free short = tt
skipped (b ∷ text) is free short = (eqb-true b 35 is, (λ has. feedless (b ∷ text) free (suc has.0, omega (arith, has.1), has.2)), short)

whole_line : (line : NamedLine) (text : List ℕ) → IsShortLine line text → IsLine line text
whole_line (name, command.Select) text is = is
whole_line (name, command.Noop) text is = is
whole_line (name, command.Check) text is = is
whole_line (name, command.Expunge) text is = is
whole_line (name, command.Append flags keywords message) text is = absurd is.command
whole_line (name, command.Fetch by_uid set items) text is = is
whole_line (name, command.Store by_uid set how flags keywords since) text is = is
whole_line (name, command.Search by_uid k) text is = is
whole_line (name, command.UidRemove set) text is = is

pub named_so : (names : List (List ℕ)) (line : NamedLine) (all : List (List ℕ)) → with_session names line.0 ≡ Some all → all ≡ and_session names line
named_so names line all e = by_known (list_any (bytes_eq line.0) names) (nat_lt (length names) session_limit) e
  where
    by_known : (t few : Bool) → cond t (Some names) (cond few (Some (names ++ line.0 ∷ [])) None) ≡ Some all → all ≡ cond t names (names ++ line.0 ∷ [])
    by_known true few f = sym (some_is names all f)
    by_known false true f = sym (some_is (names ++ line.0 ∷ []) all f)
    by_known false false f = absurd cc

pub named_few : (names : List (List ℕ)) (name : List ℕ) (all : List (List ℕ)) → with_session names name ≡ Some all → length names ≤ session_limit → length all ≤ session_limit
named_few names name all e few = by_known (list_any (bytes_eq name) names) (nat_lt (length names) session_limit) refl e
  where
    by_known : (t more : Bool) → nat_lt (length names) session_limit ≡ more → cond t (Some names) (cond more (Some (names ++ name ∷ [])) None) ≡ Some all → length all ≤ session_limit
    by_known true more is f = subst (λ xs. length xs ≤ session_limit) (some_is names all f) few
    by_known false true is f = subst (λ xs. length xs ≤ session_limit) (some_is (names ++ name ∷ []) all f) (omega (arith, ltb-true (length names) session_limit is, length-append names (name ∷ [])))
    by_known false false is f = absurd cc

-- a line end, or the script's end
end_is : (b next : List ℕ) → behind_line_end b ≡ Some next → (ending : List ℕ) × (b ≡ ending ++ next) × (IsLineEnd ending ⊎ ((ending ≡ []) × (next ≡ [])))
end_is [] next e = ([], some_is [] next e, inr (refl, sym (some_is [] next e)))
end_is (x ∷ b) next e = by_feed (after (codes "\n") (x ∷ b)) refl
  where
    by_feed : (r : Option (List ℕ)) → after (codes "\n") (x ∷ b) ≡ r → (ending : List ℕ) × (x ∷ b ≡ ending ++ next) × (IsLineEnd ending ⊎ ((ending ≡ []) × (next ≡ [])))
    by_feed (Some rest) is = (10 ∷ [], after_is (codes "\n") (x ∷ b) rest is ∙ ap (λ t. 10 ∷ t) (some_is rest next (sym (rw is refl) ∙ e)), inl (inl refl))
    by_feed None is = (13 ∷ 10 ∷ [], after_is (codes "\r\n") (x ∷ b) next (sym (rw is refl) ∙ e), inl (inr refl))

-- ---- a literal

module _ (names all : List (List ℕ)) (name : List ℕ) (start : (ℕ × List (List ℕ)) × ℕ) (text b : List ℕ) (taken : TakenLine)
    (first : FirstIs b (first_line b))
    (here : (first_line b).0 ≡ text)
    (starts : IsLiteralStart name start.0.0 start.0.1 start.1 text)
    (known : with_session names name ≡ Some all) where
  abbrev message : List ℕ
  message = take start.1 (first_line b).1

  abbrev line : NamedLine
  line = (name, command.Append start.0.0 start.0.1 message)

  taken_literal : (next : List ℕ) → start.1 ≤ length (first_line b).1 → behind_line_end (drop start.1 (first_line b).1) ≡ Some next → IsRead names b (Some line, all, next)
  taken_literal next enough e = by_end first.ended
    where
      rest : List ℕ
      rest = (first_line b).1

      size : length (take start.1 (first_line b).1) ≡ start.1
      size = length-take-le start.1 (first_line b).1 enough

      by_end : IsLineEnd first.ending ⊎ ((first.ending ≡ []) × ((first_line b).1 ≡ [])) → IsRead names b (Some line, all, next)
      by_end (inl ends) =
          let end = end_is (drop start.1 (first_line b).1) next e in
          let text_is = text ++ first.ending ++ message in
          let whole : b ≡ text_is ++ (end.0 ++ next) = first.whole ∙ ap (λ t. t ++ (first.ending ++ (first_line b).1)) here
          ∙ ap (λ t. text ++ (first.ending ++ t)) (sym (take-append-drop start.1 (first_line b).1) ∙ ap (λ t. message ++ t) end.1)
          ∙ sym (append_assoc (text ++ first.ending) message (end.0 ++ next) ∙ append_assoc text first.ending (message ++ (end.0 ++ next))) in
          record {
            piece = record { lines = line ∷ []; text = text_is; ending = end.0 };
            is = inr (inl (line, refl, record { start = text; ending = first.ending; starts = subst (λ n. IsLiteralStart name start.0.0 start.0.1 n text) (sym size) starts; ends = ends; text = refl }));
            are = refl;
            whole = whole;
            ended = end.2;
            named = named_so names line all known;
            few = named_few names name all known;
          }
      by_end (inr none) =
          let zero : start.1 ≡ 0 = omega (arith, enough, ap length none.1) in
          let empty : message ≡ [] = ap (λ n. take n (first_line b).1) zero in
          let gone : drop start.1 (first_line b).1 ≡ [] = ap (λ n. drop n (first_line b).1) zero ∙ none.1 in
          let last : [] ≡ next = some_is [] next (ap behind_line_end (sym gone) ∙ e) in
          record {
            piece = record { lines = line ∷ []; text = text; ending = [] };
            is = inr (inr (record { session = name; flags = start.0.0; keywords = start.0.1; starts = subst (λ n. IsLiteralStart name start.0.0 start.0.1 n text) zero starts; lines = ap (λ m. (name, command.Append start.0.0 start.0.1 m) ∷ []) empty; ending = refl }));
            are = refl;
            whole = first.whole ∙ ap (λ t. t ++ (first.ending ++ (first_line b).1)) here ∙ ap (λ t. text ++ (t ++ (first_line b).1)) none.0 ∙ ap (λ t. text ++ t) (none.1 ∙ last);
            ended = inr (refl, sym last);
            named = named_so names line all known;
            few = named_few names name all known;
          }

  literal_sound : literal_at name all start (first_line b).1 ≡ Ok taken → IsRead names b taken
  unfolding literal_at
  literal_sound e = by_size (nat_lt (length (first_line b).1) start.1) refl
    where
      by_next : (r : Option (List ℕ)) → nat_lt (length (first_line b).1) start.1 ≡ false → behind_line_end (drop start.1 (first_line b).1) ≡ r → IsRead names b taken
      by_next None enough is = absurd (no_ok LineFault.bad taken (sym (rw (enough, is) refl) ∙ e))
      by_next (Some next) enough is = subst (IsRead names b) (ok_is (Some line, all, next) taken (sym (rw (enough, is) refl) ∙ e)) (taken_literal next (ltb-false (length (first_line b).1) start.1 enough) is)

      by_size : (t : Bool) → nat_lt (length (first_line b).1) start.1 ≡ t → IsRead names b taken
      by_size true is = absurd (no_ok LineFault.short taken (sym (rw is refl) ∙ e))
      by_size false is = by_next (behind_line_end (drop start.1 (first_line b).1)) is refl

-- ---- a line

module _ (names : List (List ℕ)) (b : List ℕ) (taken : TakenLine) (first : FirstIs b (first_line b)) where
  abbrev text : List ℕ
  text = (first_line b).0

  abbrev rest : List ℕ
  rest = (first_line b).1

  whole_command : (name words : List ℕ) (all : List (List ℕ)) (c : Command) → IsSession name → text ≡ name ++ 32 ∷ words → length text ≤ line_limit → with_session names name ≡ Some all
      → command_of words ≡ Some c → IsRead names b (Some (name, c), all, rest)
  whole_command name words all c named is short known read =
      let short_line : IsShortLine (name, c) text = record { session = named; command_text = words; command = command_sound words c read; text = is ∙ sym (append_assoc name (codes " ") words); size = short } in
      record {
        piece = record { lines = (name, c) ∷ []; text = text; ending = first.ending };
        is = inr (inl ((name, c), refl, whole_line (name, c) text short_line));
        are = refl;
        whole = first.whole;
        ended = first.ended;
        named = named_so names (name, c) all known;
        few = named_few names name all known;
      }

  command_at_sound : (name words : List ℕ) (all : List (List ℕ)) → IsSession name → text ≡ name ++ 32 ∷ words → length text ≤ line_limit → with_session names name ≡ Some all
      → command_at name all words rest ≡ Ok taken → IsRead names b taken
  unfolding command_at
  command_at_sound name words all named is short known e = by_append (after (codes "APPEND ") words) refl
    where
      by_start : (behind : List ℕ) (r : Option ((ℕ × List (List ℕ)) × ℕ)) → after (codes "APPEND ") words ≡ Some behind → append_of behind ≡ r → IsRead names b taken
      by_start behind None one two = absurd (no_ok LineFault.bad taken (sym (rw one (rw two refl)) ∙ e))
      by_start behind (Some start) one two =
          let starts : IsLiteralStart name start.0.0 start.0.1 start.1 (first_line b).0 = record {
            named = named;
            command_text = words;
            command = subst (IsAppendStart start.0.0 start.0.1 start.1) (sym (after_is (codes "APPEND ") words behind one)) (append_sound behind start two);
            text = is ∙ sym (append_assoc name (codes " ") words);
            short = short;
          } in
          literal_sound names all name start (first_line b).0 b taken first refl starts known (sym (rw one (rw two refl)) ∙ e)

      by_command : (r : Option Command) → after (codes "APPEND ") words ≡ None → command_of words ≡ r → IsRead names b taken
      by_command None one two = absurd (no_ok LineFault.bad taken (sym (rw one (rw two refl)) ∙ e))
      by_command (Some c) one two = subst (IsRead names b) (ok_is (Some (name, c), all, rest) taken (sym (rw one (rw two refl)) ∙ e)) (whole_command name words all c named is short known two)

      by_append : (r : Option (List ℕ)) → after (codes "APPEND ") words ≡ r → IsRead names b taken
      by_append (Some behind) one = by_start behind (append_of behind) one refl
      by_append None one = by_command (command_of words) one refl

  pub line_sound : line_at names (first_line b).0 (first_line b).1 ≡ Ok taken → IsRead names b taken
  unfolding line_at
  line_sound e = by_long (nat_lt line_limit (length (first_line b).0)) refl
    where
      by_names : (session : List ℕ × List ℕ) (r : Option (List (List ℕ))) → nat_lt line_limit (length (first_line b).0) ≡ false → is_skipped (first_line b).0 ≡ false → session_at (first_line b).0 ≡ Some session
          → with_session names session.0 ≡ r → IsRead names b taken
      by_names session None one two three four = absurd (no_ok LineFault.bad taken (sym (rw (one, two) (rw three (rw four refl))) ∙ e))
      by_names session (Some all) one two three four =
          let is = session_takes (first_line b).0 session three in
          command_at_sound session.0 session.1 all is.0 is.1 (ltb-false line_limit (length (first_line b).0) one) four (sym (rw (one, two) (rw three (rw four refl))) ∙ e)

      by_session : (r : Option (List ℕ × List ℕ)) → nat_lt line_limit (length (first_line b).0) ≡ false → is_skipped (first_line b).0 ≡ false → session_at (first_line b).0 ≡ r → IsRead names b taken
      by_session None one two three = absurd (no_ok LineFault.bad taken (sym (rw (one, two) (rw three refl)) ∙ e))
      by_session (Some session) one two three = by_names session (with_session names session.0) one two three refl

      by_skipped : (t : Bool) → nat_lt line_limit (length (first_line b).0) ≡ false → is_skipped (first_line b).0 ≡ t → IsRead names b taken
      by_skipped true one two = subst (IsRead names b) (ok_is (None, names, (first_line b).1) taken (sym (rw (one, two) refl) ∙ e)) (record {
        piece = record { lines = []; text = (first_line b).0; ending = first.ending };
        is = inl (refl, skipped (first_line b).0 two first.free (ltb-false line_limit (length (first_line b).0) one));
        are = refl;
        whole = first.whole;
        ended = first.ended;
        named = refl;
        few = λ less. less;
      })
      by_skipped false one two = by_session (session_at (first_line b).0) one two refl

      by_long : (t : Bool) → nat_lt line_limit (length (first_line b).0) ≡ t → IsRead names b taken
      by_long true one = absurd (no_ok LineFault.bad taken (sym (rw one refl) ∙ e))
      by_long false one = by_skipped (is_skipped (first_line b).0) one refl

-- ---- a literal without all its bytes

pub record IsShort (names : List (List ℕ)) (b : List ℕ) : Type 0 where
  pub session : List ℕ
  pub start : (ℕ × List (List ℕ)) × ℕ
  pub ending : List ℕ
  pub starts : IsLiteralStart session start.0.0 start.0.1 start.1 (first_line b).0
  pub whole : b ≡ (first_line b).0 ++ (ending ++ (first_line b).1)
  pub ended : IsLineEnd ending ⊎ ((ending ≡ []) × ((first_line b).1 ≡ []))
  pub few : length (first_line b).1 < start.1
  pub allowed : length names ≤ session_limit → length (and_session names (session, command.Noop)) ≤ session_limit

pub bad_short : {A : Type 0} → ◌≡◌ {A = Result A LineFault} (Err LineFault.bad) (Err LineFault.short) → ⊥
bad_short e = cc

ok_short : {A : Type 0} (x : A) → ◌≡◌ {A = Result A LineFault} (Ok x) (Err LineFault.short) → ⊥
ok_short x e = cc

module _ (names : List (List ℕ)) (b : List ℕ) (first : FirstIs b (first_line b)) where
  short_literal : (name : List ℕ) (all : List (List ℕ)) (start : (ℕ × List (List ℕ)) × ℕ) → with_session names name ≡ Some all → IsLiteralStart name start.0.0 start.0.1 start.1 (first_line b).0
      → literal_at name all start (first_line b).1 ≡ Err LineFault.short → IsShort names b
  unfolding literal_at
  short_literal name all start known starts e = by_size (nat_lt (length (first_line b).1) start.1) refl
    where
      by_next : (r : Option (List ℕ)) → nat_lt (length (first_line b).1) start.1 ≡ false → behind_line_end (drop start.1 (first_line b).1) ≡ r → IsShort names b
      by_next None enough is = absurd (bad_short (sym (rw (enough, is) refl) ∙ e))
      by_next (Some next) enough is =
          let taken : TakenLine = (Some (name, command.Append start.0.0 start.0.1 (take start.1 (first_line b).1)), all, next) in
          absurd (ok_short taken (sym (rw (enough, is) refl) ∙ e))

      by_size : (t : Bool) → nat_lt (length (first_line b).1) start.1 ≡ t → IsShort names b
      by_size true is = record {
        session = name;
        start = start;
        ending = first.ending;
        starts = starts;
        whole = first.whole;
        ended = first.ended;
        few = ltb-true (length (first_line b).1) start.1 is;
        allowed = λ less. subst (λ ns. length ns ≤ session_limit) (named_so names (name, command.Noop) all known) (named_few names name all known less);
      }
      by_size false is = by_next (behind_line_end (drop start.1 (first_line b).1)) is refl

  short_command : (name words : List ℕ) (all : List (List ℕ)) → IsSession name → (first_line b).0 ≡ name ++ 32 ∷ words → length (first_line b).0 ≤ line_limit → with_session names name ≡ Some all
      → command_at name all words (first_line b).1 ≡ Err LineFault.short → IsShort names b
  unfolding command_at
  short_command name words all named is short known e = by_append (after (codes "APPEND ") words) refl
    where
      by_start : (behind : List ℕ) (r : Option ((ℕ × List (List ℕ)) × ℕ)) → after (codes "APPEND ") words ≡ Some behind → append_of behind ≡ r → IsShort names b
      by_start behind None one two = absurd (bad_short (sym (rw one (rw two refl)) ∙ e))
      by_start behind (Some start) one two =
          let starts : IsLiteralStart name start.0.0 start.0.1 start.1 (first_line b).0 = record {
            named = named;
            command_text = words;
            command = subst (IsAppendStart start.0.0 start.0.1 start.1) (sym (after_is (codes "APPEND ") words behind one)) (append_sound behind start two);
            text = is ∙ sym (append_assoc name (codes " ") words);
            short = short;
          } in
          short_literal name all start known starts (sym (rw one (rw two refl)) ∙ e)

      by_command : (r : Option Command) → after (codes "APPEND ") words ≡ None → command_of words ≡ r → IsShort names b
      by_command None one two = absurd (bad_short (sym (rw one (rw two refl)) ∙ e))
      by_command (Some c) one two =
          let taken : TakenLine = (Some (name, c), all, (first_line b).1) in
          absurd (ok_short taken (sym (rw one (rw two refl)) ∙ e))

      by_append : (r : Option (List ℕ)) → after (codes "APPEND ") words ≡ r → IsShort names b
      by_append (Some behind) one = by_start behind (append_of behind) one refl
      by_append None one = by_command (command_of words) one refl

  pub short_sound : line_at names (first_line b).0 (first_line b).1 ≡ Err LineFault.short → IsShort names b
  unfolding line_at
  short_sound e = by_long (nat_lt line_limit (length (first_line b).0)) refl
    where
      by_names : (session : List ℕ × List ℕ) (r : Option (List (List ℕ))) → nat_lt line_limit (length (first_line b).0) ≡ false → is_skipped (first_line b).0 ≡ false → session_at (first_line b).0 ≡ Some session
          → with_session names session.0 ≡ r → IsShort names b
      by_names session None one two three four = absurd (bad_short (sym (rw (one, two) (rw three (rw four refl))) ∙ e))
      by_names session (Some all) one two three four =
          let is = session_takes (first_line b).0 session three in
          short_command session.0 session.1 all is.0 is.1 (ltb-false line_limit (length (first_line b).0) one) four (sym (rw (one, two) (rw three (rw four refl))) ∙ e)

      by_session : (r : Option (List ℕ × List ℕ)) → nat_lt line_limit (length (first_line b).0) ≡ false → is_skipped (first_line b).0 ≡ false → session_at (first_line b).0 ≡ r → IsShort names b
      by_session None one two three = absurd (bad_short (sym (rw (one, two) (rw three refl)) ∙ e))
      by_session (Some session) one two three = by_names session (with_session names session.0) one two three refl

      by_skipped : (t : Bool) → nat_lt line_limit (length (first_line b).0) ≡ false → is_skipped (first_line b).0 ≡ t → IsShort names b
      by_skipped true one two =
          let taken : TakenLine = (None, names, (first_line b).1) in
          absurd (ok_short taken (sym (rw (one, two) refl) ∙ e))
      by_skipped false one two = by_session (session_at (first_line b).0) one two refl

      by_long : (t : Bool) → nat_lt line_limit (length (first_line b).0) ≡ t → IsShort names b
      by_long true one = absurd (bad_short (sym (rw one refl) ∙ e))
      by_long false one = by_skipped (is_skipped (first_line b).0) one refl
