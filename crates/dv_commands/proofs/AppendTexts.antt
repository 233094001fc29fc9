-- What the grammar has is read: the line of an APPEND.
use Rattle.std.proofs.Common.{◌≡◌, inl, inr, ℕ, ◌+◌, ◌^◌, ◌<◌, true, List, [], ◌∷◌, ◌++◌, length, All, take, drop, Some, position, codes, refl, sym, ◌∙◌, ap, arith, append_assoc}
use Rattle.std.specs.List.{position_or_len}
use Rattle.std.specs.Fmt.{decimal}
use Rattle.std.proofs.lemmas.Bool.{lt-ltb, ne_eqb}
use Rattle.std.proofs.lemmas.List.{drop_at, length-append, take_at}
use Rattle.std.proofs.lemmas.List.Elements.{All-head, All-tail}
use Rattle.dv_model.specs.Names.{IsName, IsNameByte}
use Rattle.dv_model.specs.Texts.{spaced}
use Rattle.dv_formats.specs.Scripts.{AreFlags, IsFlag}
use Rattle.dv_formats.specs.Parsing.{append_of, is_byte, list_at}
use Rattle.dv_commands.proofs.Base.{ahead_again}
use Rattle.dv_commands.proofs.Grammar.{flags_complete}
use Rattle.dv_commands.proofs.Numbers.{number_complete}
use Rattle.dv_commands.proofs.Plain.{system_word}
use Rattle.dv_commands.proofs.Words.{all_goes_on, append_goes_on, goes_on, place_again}

name_open : (name : List ℕ) → IsName name → goes_on (is_byte 41) name ≡ true
name_open name is = all_goes_on (is_byte 41) IsNameByte (λ b byte. ne_eqb b 41 (λ e. byte.plain (1, omega arith, sym e))) name is.bytes

flag_open : (word : List ℕ) → IsFlag word → goes_on (is_byte 41) word ≡ true
flag_open word (inl (bit, e)) = system_word word bit e (λ w. goes_on (is_byte 41) w ≡ true) refl refl refl refl refl
flag_open word (inr name) = name_open word name

spaced_open : (words : List (List ℕ)) → All IsFlag words → goes_on (is_byte 41) (spaced words) ≡ true
spaced_open [] all = refl
spaced_open (w ∷ []) all = flag_open w (All-head IsFlag w [] all)
spaced_open (w ∷ v ∷ ws) all = append_goes_on (is_byte 41) w (32 ∷ spaced (v ∷ ws)) (flag_open w (All-head IsFlag w (v ∷ ws) all)) (spaced_open (v ∷ ws) (All-tail IsFlag w (v ∷ ws) all))

-- a list ends at its closing parenthesis
list_again : (front tail : List ℕ) → goes_on (is_byte 41) front ≡ true → list_at (front ++ 41 ∷ tail) ≡ Some (front ++ 41 ∷ [], tail)
list_again front tail goes =
    let b = front ++ 41 ∷ tail in
    let place : position_or_len (is_byte 41) b ≡ length front = place_again (is_byte 41) front (41 ∷ tail) goes refl in
    let within : position_or_len (is_byte 41) b < length b = omega (arith, place, length-append front (41 ∷ tail)) in
    let found : position (is_byte 41) b ≡ Some (length front) = rw (lt-ltb (position_or_len (is_byte 41) b) (length b) within) (ap Some place) in
    let whole : (front ++ 41 ∷ []) ++ tail ≡ b = append_assoc front (41 ∷ []) tail in
    let size : length (front ++ 41 ∷ []) ≡ length front + 1 = omega (arith, length-append front (41 ∷ [])) in
    let list : take (length front + 1) b ≡ front ++ 41 ∷ [] = ap (take (length front + 1)) (sym whole) ∙ take_at (front ++ 41 ∷ []) tail (length front + 1) size in
    let rest : drop (length front + 1) b ≡ tail = ap (drop (length front + 1)) (sym whole) ∙ drop_at (front ++ 41 ∷ []) tail (length front + 1) size in
    by_place found list rest
  where
    by_place : position (is_byte 41) (front ++ 41 ∷ tail) ≡ Some (length front) → take (length front + 1) (front ++ 41 ∷ tail) ≡ front ++ 41 ∷ []
        → drop (length front + 1) (front ++ 41 ∷ tail) ≡ tail → list_at (front ++ 41 ∷ tail) ≡ Some (front ++ 41 ∷ [], tail)
    by_place found list rest = rw found (rw (list, rest) refl)

pub append_again : (flags : ℕ) (keywords : List (List ℕ)) (size : ℕ) (list : List ℕ) → AreFlags flags keywords list → size < 2 ^ 32
    → append_of (list ++ (codes " {" ++ (decimal size ++ codes "}"))) ≡ Some ((flags, keywords), size)
unfolding append_of
append_again flags keywords size list is small =
    let tail = codes " {" ++ (decimal size ++ codes "}") in
    let front = 40 ∷ spaced is.words in
    let whole : list ++ tail ≡ front ++ 41 ∷ tail = ap (λ t. t ++ tail) is.text ∙ append_assoc front (41 ∷ []) tail in
    let parts : list_at (list ++ tail) ≡ Some (list, tail) = ap list_at whole ∙ list_again front tail (spaced_open is.words is.each) ∙ ap (λ t. Some (t, tail)) (sym is.text) in
    rw parts (rw (flags_complete list flags keywords is) (rw (ahead_again (codes "}") (decimal size)) (rw (number_complete (2 ^ 32) (decimal size) size (omega arith) small refl) refl)))
