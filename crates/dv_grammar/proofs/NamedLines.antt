-- A line that begins with a session's name: what is read behind that.
use Rattle.std.proofs.Common.{◌≡◌, inl, inr, ℕ, zero, suc, ◌-◌, ◌<◌, ◌≤◌, Bool, true, false, cond, List, [], ◌∷◌, ◌++◌, length, All, get_or, fold, Some, None, Ok, codes, refl, sym, ◌∙◌, ap, subst, arith, nat_le, nat_lt}
use Rattle.std.specs.List.{list_all, list_any}
use Rattle.std.specs.Str.{bytes_eq}
use Rattle.std.specs.Str.Lines.{strip_carriage_return}
use Rattle.std.proofs.lemmas.Bool.{and_parts, le-leb, le-ltb, leb-true, lt-ltb, ne_eqb}
use Rattle.std.proofs.lemmas.Bool.Decides.{nat_tests}
use Rattle.std.proofs.lemmas.List.{drop_at, length-append, take_at}
use Rattle.std.proofs.lemmas.List.Elements.{All-head, All-tail}
use Rattle.dv_model.specs.declared.types.Command.{Command}
use Rattle.dv_model.specs.declared.types.Command.TheVariants as command
use Rattle.dv_formats.specs.Scripts.{IsSession, NamedLine, and_session, is_session_byte, line_limit, session_limit}
use Rattle.dv_formats.specs.Parsing.{◌>>=◌, after, append_of, before, behind_line_end, command_at, command_of, from, is_byte, is_session_name, is_skipped, line_at, literal_at, session_at, with_session}
use Rattle.dv_commands.proofs.Base.{after_then, parted, some_is}
use Rattle.dv_commands.proofs.Names.{session_sound}
use Rattle.dv_commands.proofs.Plain.{all_plain, plain}
use Rattle.dv_commands.proofs.Words.{all_goes_on, before_again, from_again, goes_on}
use Rattle.dv_grammar.proofs.FirstLines.{IsEndedBy}

-- ---- texts without control bytes

pub plain_open : (b : List ℕ) (byte : ℕ) → byte < 32 → plain b ≡ true → goes_on (is_byte byte) b ≡ true
plain_open [] byte low is = refl
plain_open (x ∷ b) byte low is =
    let first = and_parts (nat_le 32 x) (plain b) is in
    let above : 32 ≤ x = leb-true 32 x first.0 in
    rw (ne_eqb x byte (λ e. omega (arith, above, low, e)), plain_open b byte low first.1) refl

plain_at : (b : List ℕ) (k : ℕ) → plain b ≡ true → get_or b k 0 ≡ 13 → ⊥
plain_at [] k is e = omega (arith, e)
plain_at (x ∷ b) zero is e = omega (arith, leb-true 32 x (and_parts (nat_le 32 x) (plain b) is).0, e)
plain_at (x ∷ b) (suc k) is e = plain_at b k (and_parts (nat_le 32 x) (plain b) is).1 e

pub no_return : (b : List ℕ) → plain b ≡ true → strip_carriage_return b ≡ b
no_return b is = rw (ne_eqb (get_or b (length b - 1) 0) 13 (plain_at b (length b - 1) is)) refl

-- ---- sessions

session_byte : (b : ℕ) → is_session_byte b ≡ true → 48 ≤ b
session_byte b is = grind (arith, nat_tests)

pub session_plain : (name : List ℕ) → IsSession name → plain name ≡ true
session_plain name is = all_plain (λ n. is_session_byte n ≡ true) (λ b byte. omega (arith, session_byte b byte)) name is.bytes

session_open : (name : List ℕ) → IsSession name → goes_on (is_byte 32) name ≡ true
session_open name is = all_goes_on (is_byte 32) (λ n. is_session_byte n ≡ true) (λ b byte. ne_eqb b 32 (λ e. omega (arith, session_byte b byte, e))) name is.bytes

session_test : (name : List ℕ) → IsSession name → is_session_name name ≡ true
unfolding is_session_name
session_test name is = rw (le-leb 1 (length name) is.size.0, le-leb (length name) 16 is.size.1, all_test name is.bytes) refl
  where
    all_test : (w : List ℕ) → All (λ n. is_session_byte n ≡ true) w → list_all is_session_byte w ≡ true
    all_test [] all = refl
    all_test (x ∷ w) all = rw (All-head (λ n. is_session_byte n ≡ true) x w all, all_test w (All-tail (λ n. is_session_byte n ≡ true) x w all)) refl

pub session_here : (name text : List ℕ) → IsSession name → session_at (name ++ 32 ∷ text) ≡ Some (name, text)
session_here name text is =
    let go = session_open name is in
    rw (before_again (is_byte 32) name (32 ∷ text) go refl, session_test name is) (rw (from_again (is_byte 32) name (32 ∷ text) go refl) refl)

pub session_takes : (b : List ℕ) (y : List ℕ × List ℕ) → session_at b ≡ Some y → IsSession y.0 × (b ≡ y.0 ++ 32 ∷ y.1)
session_takes b y e = by_test (is_session_name name) refl e
  where
    name : List ℕ
    name = before (is_byte 32) b

    by_test : (t : Bool) → is_session_name (before (is_byte 32) b) ≡ t
        → cond t (after (codes " ") (from (is_byte 32) b) >>= λ rest. Some (before (is_byte 32) b, rest)) None ≡ Some y → IsSession y.0 × (b ≡ y.0 ++ 32 ∷ y.1)
    by_test true is f = after_then (codes " ") (from (is_byte 32) b) _ y f (λ rest p g.
        subst (λ (z : List ℕ × List ℕ). IsSession z.0 × (b ≡ z.0 ++ 32 ∷ z.1)) (some_is (before (is_byte 32) b, rest) y g) (session_sound (before (is_byte 32) b) is, parted (is_byte 32) b ∙ ap (λ t. before (is_byte 32) b ++ t) p))
    by_test false is f = absurd cc

not_skipped : (name text : List ℕ) → IsSession name → is_skipped (name ++ 32 ∷ text) ≡ false
not_skipped [] text is = absurd (omega (arith, is.size))
not_skipped (x ∷ name) text is = ne_eqb x 35 (λ e. omega (arith, session_byte x (All-head (λ n. is_session_byte n ≡ true) x name is.bytes), e))

-- there is room for the session of this line
abbrev pub HasRoom : List (List ℕ) → NamedLine → Type 0
HasRoom names line = length (and_session names line) ≤ session_limit

named_more : (names : List (List ℕ)) (line : NamedLine) → HasRoom names line → with_session names line.0 ≡ Some (and_session names line)
named_more names line few = by_known (list_any (bytes_eq line.0) names) refl few
  where
    by_known : (t : Bool) → list_any (bytes_eq line.0) names ≡ t → length (cond t names (names ++ line.0 ∷ [])) ≤ session_limit
        → cond t (Some names) (cond (nat_lt (length names) session_limit) (Some (names ++ line.0 ∷ [])) None) ≡ Some (cond t names (names ++ line.0 ∷ []))
    by_known true same less = refl
    by_known false same less = rw (lt-ltb (length names) session_limit (omega (arith, less, length-append names (line.0 ∷ [])))) refl

one_more : (names : List (List ℕ)) (line : NamedLine) → length names ≤ length (and_session names line)
one_more names line = by_known (list_any (bytes_eq line.0) names)
  where
    by_known : (t : Bool) → length names ≤ length (cond t names (names ++ line.0 ∷ []))
    by_known true = omega arith
    by_known false = omega (arith, length-append names (line.0 ∷ []))

pub more_names : (lines : List NamedLine) (names : List (List ℕ)) → length names ≤ length (fold and_session names lines)
more_names [] names = omega arith
more_names (line ∷ lines) names = omega (arith, one_more names line, more_names lines (and_session names line))

-- ---- what is read behind the name

pub line_named : (names : List (List ℕ)) (line : NamedLine) (text rest : List ℕ) → IsSession line.0 → length (line.0 ++ 32 ∷ text) ≤ line_limit
    → HasRoom names line → line_at names (line.0 ++ 32 ∷ text) rest ≡ command_at line.0 (and_session names line) text rest
unfolding line_at
line_named names line text rest is short few =
    rw (le-ltb line_limit (length (line.0 ++ 32 ∷ text)) short, not_skipped line.0 text is) (rw (session_here line.0 text is) (rw (named_more names line few) refl))

pub whole_here : (name : List ℕ) (names : List (List ℕ)) (text rest : List ℕ) (c : Command) → after (codes "APPEND ") text ≡ None → command_of text ≡ Some c
    → command_at name names text rest ≡ Ok (Some (name, c), names, rest)
unfolding command_at
whole_here name names text rest c none is = rw none (rw is refl)

pub start_here : (name : List ℕ) (names : List (List ℕ)) (text rest : List ℕ) (start : (ℕ × List (List ℕ)) × ℕ) → append_of text ≡ Some start
    → command_at name names (codes "APPEND " ++ text) rest ≡ literal_at name names start rest
unfolding command_at
start_here name names text rest start is = rw is refl

end_here : (ending rest : List ℕ) → IsEndedBy ending rest → behind_line_end (ending ++ rest) ≡ Some rest
end_here ending rest (inl (inl feed)) = ap (λ e. behind_line_end (e ++ rest)) feed
end_here ending rest (inl (inr both)) = ap (λ e. behind_line_end (e ++ rest)) both
end_here ending rest (inr none) = ap (λ e. behind_line_end (e ++ rest)) none.0 ∙ ap behind_line_end none.1 ∙ ap Some (sym none.1)

pub literal_here : (name : List ℕ) (names : List (List ℕ)) (flags : ℕ) (keywords : List (List ℕ)) (message ending rest : List ℕ) → IsEndedBy ending rest
    → literal_at name names ((flags, keywords), length message) (message ++ (ending ++ rest)) ≡ Ok (Some (name, command.Append flags keywords message), names, rest)
unfolding literal_at
literal_here name names flags keywords message ending rest ended =
    let end = ending ++ rest in
    let enough : nat_lt (length (message ++ end)) (length message) ≡ false = le-ltb (length (message ++ end)) (length message) (omega (arith, length-append message end)) in
    rw (enough, drop_at message end (length message) refl) (rw (end_here ending rest ended) (rw (take_at message end (length message) refl) refl))
