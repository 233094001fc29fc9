-- The text of transcripts, one session after another.
use Rattle.std.proofs.Common.{◌≡◌, ℕ, ◌≤◌, Bool, true, false, List, [], ◌∷◌, ◌++◌, length, refl, sym, ◌∙◌, ap, append_assoc, append-nil, arith}
use Rattle.std.specs.Prelude.{All, ◌||◌, flat_map}
use Rattle.std.specs.Str.{bytes_eq}
use Rattle.std.proofs.lemmas.List.Elements.{All-cons, All-head, All-tail}
use Rattle.dv_model.specs.declared.types.Reply.{Reply}
use Rattle.dv_model.specs.Texts.{line_text}
use Rattle.dv_formats.specs.Scripts.{NamedLine, sessions_of}
use Rattle.dv_serving.specs.Scripts.{replies_text}
use Rattle.dv_parts.specs.Texts.{OneSessionIsSerial, SessionIsSerial, TranscriptsGoOn, transcript_text, transcripts_text}
use Rattle.dv_parts.proofs.Naming.{AreKnown, equal_bytes, lines_known}

pub session_is_serial : SessionIsSerial
session_is_serial name [] [] all few = refl
session_is_serial name [] (said ∷ replies) all few = absurd (omega (arith, few))
session_is_serial name (line ∷ lines) [] all few = refl
session_is_serial name (line ∷ lines) (said ∷ replies) all few =
    let same : line.0 ≡ name = All-head (λ (l : NamedLine). l.0 ≡ name) line lines all in
    let rest = session_is_serial name lines replies (All-tail (λ (l : NamedLine). l.0 ≡ name) line lines all) (omega (arith, few)) in
    ap (λ n. flat_map (line_text n) said ++ transcript_text name replies) (sym same)
    ∙ ap (λ t. flat_map (line_text line.0) said ++ t) rest

all_of_one : (name : List ℕ) (lines : List NamedLine) → AreKnown (name ∷ []) lines
    → All (λ (line : NamedLine). line.0 ≡ name) lines
all_of_one name [] known = λ k d less. absurd (omega (arith, less))
all_of_one name (line ∷ lines) known =
    All-cons (λ (l : NamedLine). l.0 ≡ name) line lines
    (by_test (bytes_eq line.0 name) refl known.0) (all_of_one name lines known.1)
  where
    by_test : (t : Bool) → bytes_eq line.0 name ≡ t → (t || false) ≡ true → line.0 ≡ name
    by_test true e f = equal_bytes line.0 name e
    by_test false e f = absurd cc

by_names : (names : List (List ℕ)) (lines : List NamedLine) (replies : List (List Reply))
    → AreKnown names lines → length names ≡ 1 → length replies ≤ length lines
    → transcripts_text names (replies ∷ []) ≡ replies_text lines replies
by_names [] lines replies known one few = absurd (omega (arith, one))
by_names (name ∷ []) lines replies known one few =
    append-nil (transcript_text name replies)
    ∙ session_is_serial name lines replies (all_of_one name lines known) few
by_names (name ∷ next ∷ names) lines replies known one few = absurd (omega (arith, one))

pub one_session_is_serial : OneSessionIsSerial
one_session_is_serial lines replies one few =
    by_names (sessions_of lines) lines replies (lines_known lines) one few

pub transcripts_go_on : TranscriptsGoOn
transcripts_go_on [] more [] others even = refl
transcripts_go_on [] more (said ∷ replies) others even = absurd (omega (arith, even))
transcripts_go_on (name ∷ names) more [] others even = absurd (omega (arith, even))
transcripts_go_on (name ∷ names) more (said ∷ replies) others even =
    ap (λ t. transcript_text name said ++ t) (transcripts_go_on names more replies others (omega (arith, even)))
    ∙ sym (append_assoc (transcript_text name said) (transcripts_text names replies) (transcripts_text more others))
