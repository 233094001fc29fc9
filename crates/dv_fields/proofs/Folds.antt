-- Unfolding a header line by line.
use Rattle.std.proofs.Common.{◌≡◌, ℕ, ◌<◌, Bool, true, false, cond, List, [], ◌∷◌, ◌++◌, length, refl, sym, ap, ◌∙◌, append_assoc, arith}
use Rattle.std.specs.List.{take_while}
use Rattle.std.specs.Str.Lines.{lines}
use Rattle.std.proofs.lemmas.List.Sums.{take_while-cons}
use Rattle.dv_model.specs.Fields.{is_text_line, is_continuation, header_lines, folded_onto, unfolded}
use Rattle.dv_fields.proofs.FirstLines.{line_opens}

-- a line of text is one of the header
pub header_more : (text line rest : List ℕ) → lines text ≡ line ∷ lines rest → 0 < length line
    → header_lines text ≡ line ∷ header_lines rest
header_more text [] rest e some = absurd (omega arith)
header_more text (b ∷ line) rest e some = rw e (take_while-cons is_text_line (b ∷ line) (lines rest) ∙ grind arith)

-- an empty line ends the header
pub header_end : (text rest : List ℕ) → lines text ≡ [] ∷ lines rest → header_lines text ≡ []
header_end text rest e = rw e (take_while-cons is_text_line [] (lines rest))

longer_continues : (line more : List ℕ) → is_continuation line ≡ true
    → is_continuation (line ++ more) ≡ true
longer_continues [] more e = absurd cc
longer_continues (b ∷ line) more e = e

longer_stops : (line more : List ℕ) → 0 < length line → is_continuation line ≡ false
    → is_continuation (line ++ more) ≡ false
longer_stops [] more some e = absurd (omega arith)
longer_stops (b ∷ line) more some e = e

pub continuation_has_bytes : (line : List ℕ) → is_continuation line ≡ true → 0 < length line
continuation_has_bytes [] e = absurd cc
continuation_has_bytes (b ∷ line) e = omega arith

-- a continuation goes to the line before it
pub onto_more : (field more : List ℕ) (others : List (List ℕ)) → is_continuation more ≡ true
    → folded_onto field (folded_onto more others) ≡ folded_onto (field ++ more) others
onto_more field more [] e = rw e refl
onto_more field more (next ∷ others) e = by_next (is_continuation next) refl
  where
    by_next : (t : Bool) → is_continuation next ≡ t
        → folded_onto field (folded_onto more (next ∷ others)) ≡ folded_onto (field ++ more) (next ∷ others)
    by_next true h = rw (h, longer_continues more next e) (ap (λ (x : List ℕ). x ∷ others) (sym (append_assoc field more next)))
    by_next false h = rw (h, e) refl

-- what a line before no continuation is
stops : (field line : List ℕ) (others : List (List ℕ)) → 0 < length line
    → is_continuation line ≡ false
    → folded_onto field (folded_onto line others) ≡ field ∷ folded_onto line others
stops field line [] some e = rw e refl
stops field line (next ∷ others) some e = by_next (is_continuation next) refl
  where
    by_next : (t : Bool) → is_continuation next ≡ t
        → folded_onto field (folded_onto line (next ∷ others)) ≡ field ∷ folded_onto line (next ∷ others)
    by_next true h = rw (h, longer_stops line next some e) refl
    by_next false h = rw (h, e) refl

-- a header that doesn't begin with a continuation adds nothing to the line before it
pub onto_none : (field : List ℕ) (hs : List (List ℕ))
    → ((line : List ℕ) (others : List (List ℕ)) → hs ≡ line ∷ others → (0 < length line) × (is_continuation line ≡ false))
    → folded_onto field (unfolded hs) ≡ field ∷ unfolded hs
onto_none field [] h = refl
onto_none field (line ∷ others) h = let k = h line others refl in stops field line (unfolded others) k.0 k.1

has_bytes : (line : List ℕ) → is_text_line line ≡ true → 0 < length line
has_bytes [] e = absurd cc
has_bytes (b ∷ line) e = omega arith

-- the header's first line is the text's
pub header_opens : (text line : List ℕ) (others : List (List ℕ)) → header_lines text ≡ line ∷ others
    → (0 < length line) × (is_continuation line ≡ is_continuation text)
header_opens text line others e = by_lines (lines text) refl
  where
    chosen : (l : List ℕ) (more : List (List ℕ)) (t : Bool) → is_text_line l ≡ t
        → cond t (l ∷ take_while is_text_line more) [] ≡ line ∷ others → (l ≡ line) × (0 < length l)
    chosen l more true h f = let same : l ≡ line = cc in (same, has_bytes l h)
    chosen l more false h f = absurd cc

    by_lines : (ls : List (List ℕ)) → lines text ≡ ls
        → (0 < length line) × (is_continuation line ≡ is_continuation text)
    by_lines [] h = let f : take_while is_text_line [] ≡ line ∷ others = sym (ap (take_while is_text_line) h) ∙ e in absurd cc
    by_lines (l ∷ more) h =
        let f : take_while is_text_line (l ∷ more) ≡ line ∷ others = sym (ap (take_while is_text_line) h) ∙ e in
        let g = chosen l more (is_text_line l) refl (sym (take_while-cons is_text_line l more) ∙ f) in
        (rw (← g.0) g.1, rw (← g.0) (line_opens text l more h))
