-- What the pieces of a written file are.
use Rattle.std.proofs.Common.{◌≡◌, ℕ, ◌-◌, ◌^◌, false, List, [], ◌∷◌, ◌++◌, length, replicate, Result, Ok, Err, refl, sym, ap, ◌∙◌, append_assoc, arith}
use Rattle.std.specs.Prelude.{IfOk, codes}
use Rattle.std.specs.Fmt.{char_count, format_spec, padded_integral}
use Rattle.std.proofs.lemmas.List.{append-nil}
use Rattle.dv_dbox.specs.BoxTexts.{first_line_text, hex_text, message_header_text, metadata_text, pairs_text, trailer}

-- what `{:016x}` writes
pub zeros_before : (numeral : List ℕ)
    → padded_integral (format_spec 32 0 4 16 (2 ^ 64 - 1)) false [] numeral ≡ replicate (16 - length numeral) 48 ++ numeral
unfolding padded_integral char_count
zeros_before numeral =
    let short : 16 - length numeral - 0 - 0 ≡ 16 - length numeral = omega arith in
    rw (short, append-nil) refl

-- an answer's text, said otherwise
pub said_as : {S E : Type 0} (view : S → List ℕ) (r : Result S E) (a b : List ℕ) → a ≡ b
    → IfOk r (λ s. view s ≡ a) → IfOk r (λ s. view s ≡ b)
said_as view (Ok s) a b e h = h ∙ e
said_as view (Err e) a b h k = tt

-- the text before the message, piece by piece
abbrev pub head_pieces : ℕ → ℕ → List ℕ
head_pieces stamp size = codes "2 M1e C" ++ (hex_text stamp ++ ((10 ∷ 1 ∷ 2 ∷ codes "N          ") ++ (padded_integral (format_spec 32 0 4 16 (2 ^ 64 - 1)) false [] (hex_text size) ++ 10 ∷ [])))

pub head_is : (stamp size : ℕ)
    → head_pieces stamp size ≡ first_line_text stamp ++ message_header_text size
head_is stamp size = rw zeros_before (ap (λ (t : List ℕ). codes "2 M1e C" ++ t) (sym (append_assoc (hex_text stamp) (10 ∷ []) (message_header_text size))))

-- the text behind the message
abbrev pub tail_pieces : List ℕ → ℕ → ℕ → ℕ → List ℕ
tail_pieces guid received size as_sent =
    codes "\n\u{1}\u{3}\nG" ++ (guid ++ (codes "\nR" ++ (hex_text received ++ (codes "\nZ" ++ (hex_text size ++ (codes "\nV" ++ (hex_text as_sent ++ codes "\n\n")))))))

pub tail_is : (guid : List ℕ) (received size as_sent : ℕ)
    → tail_pieces (pairs_text guid) received size as_sent ≡ trailer ++ metadata_text guid received size as_sent
tail_is guid received size as_sent =
    let last = (hex_text as_sent ++ 10 ∷ []) ++ 10 ∷ [] in
    let fourth : hex_text as_sent ++ 10 ∷ 10 ∷ [] ≡ last = sym (append_assoc (hex_text as_sent) (10 ∷ []) (10 ∷ [])) in
    let third = ap (λ (t : List ℕ). hex_text size ++ 10 ∷ 86 ∷ t) fourth ∙ sym (append_assoc (hex_text size) (10 ∷ []) (86 ∷ last)) in
    let behind = 90 ∷ ((hex_text size ++ 10 ∷ []) ++ 86 ∷ last) in
    let second = ap (λ (t : List ℕ). hex_text received ++ 10 ∷ 90 ∷ t) third ∙ sym (append_assoc (hex_text received) (10 ∷ []) behind) in
    let first = ap (λ (t : List ℕ). pairs_text guid ++ 10 ∷ 82 ∷ t) second ∙ sym (append_assoc (pairs_text guid) (10 ∷ []) (82 ∷ ((hex_text received ++ 10 ∷ []) ++ behind))) in
    ap (λ (t : List ℕ). 10 ∷ 1 ∷ 3 ∷ 10 ∷ 71 ∷ t) first
