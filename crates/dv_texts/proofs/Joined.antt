-- A text in pieces is written piece by piece, and cut.
use Rattle.std.proofs.Common.{◌≡◌, ℕ, ◌+◌, ◌-◌, ◌<◌, ◌≤◌, List, [], ◌∷◌, ◌++◌, Result, Ok, Err, length, get_or, take, drop, append_assoc, sym, ◌∙◌, ap, subst, arith}
use Rattle.std.specs.Prelude.{OnErr}
use Rattle.std.proofs.Math.Seq.{take-append-add, take-append_seam}
use Rattle.std.proofs.lemmas.Grind.{flat_map-append}
use Rattle.std.proofs.lemmas.List.{append-nil, length-append, take-append-drop, take-append-le, take_more}
use Rattle.dv_model.specs.Counts.{Rose}
use Rattle.dv_shelf.specs.Causes.{HasCause}
use Rattle.dv_shelf.specs.Streams.{AppendsFront}
use Rattle.dv_texts.specs.Lines.{Lines, joined}

-- one piece more
pub joined_more : (pieces : List (List ℕ)) (i : ℕ) (piece : List ℕ) → i < length pieces → piece ≡ get_or pieces i piece → joined (take (i + 1) pieces) ≡ joined (take i pieces) ++ piece
joined_more pieces i piece less is =
    ap joined (take_more pieces i piece less ∙ ap (λ (p : List ℕ). take i pieces ++ p ∷ []) (sym is))
    ∙ flat_map-append (λ (p : List ℕ). p) (take i pieces) (piece ∷ [])
    ∙ ap (λ (t : List ℕ). joined (take i pieces) ++ t) (append-nil piece)

-- the first pieces, and the others
joined_split : (pieces : List (List ℕ)) (i : ℕ) → joined pieces ≡ joined (take i pieces) ++ joined (drop i pieces)
joined_split pieces i = ap joined (sym (take-append-drop i pieces)) ∙ flat_map-append (λ (p : List ℕ). p) (take i pieces) (drop i pieces)

-- some bytes of a text, behind another that was written whole
pub front_behind : (old first text mid new : List ℕ) → mid ≡ old ++ first → AppendsFront mid new text → AppendsFront old new (first ++ text)
front_behind old first text mid new whole front =
    let k = front.0 in
    let long = length-append first text in
    let few = front.1 in (
      length first + k,
      omega (arith, long, few),
      front.2 ∙ ap (λ (t : List ℕ). t ++ take k text) whole ∙ append_assoc old first (take k text) ∙ ap (λ (t : List ℕ). old ++ t) (sym (take-append-add first text k)),
    )

-- and where more text follows
pub front_of_more : (old first more new : List ℕ) → AppendsFront old new first → AppendsFront old new (first ++ more)
front_of_more old first more new front =
    let k = front.0 in
    let long = length-append first more in
    let few = front.1 in (
      k,
      omega (arith, long, few),
      front.2 ∙ ap (λ (t : List ℕ). old ++ t) (sym (take-append-le k first more few)),
    )

-- so the first bytes of a piece are the first of all
pub front_of_pieces : (pieces : List (List ℕ)) (i : ℕ) (piece old mid new : List ℕ) → i < length pieces → piece ≡ get_or pieces i piece
    → mid ≡ old ++ joined (take i pieces) → AppendsFront mid new piece → AppendsFront old new (joined pieces)
front_of_pieces pieces i piece old mid new less is whole front =
    subst (AppendsFront old new) (sym (joined_split pieces (i + 1) ∙ ap (λ (t : List ℕ). t ++ joined (drop (i + 1) pieces)) (joined_more pieces i piece less is)))
    (front_of_more old (joined (take i pieces) ++ piece) (joined (drop (i + 1) pieces)) new (front_behind old (joined (take i pieces)) piece mid new whole front))

-- a failure behind others has their cause too
pub cause_behind : {T E : Type 0} (before mid now : ℕ) (result : Result T E) → before ≤ mid → HasCause mid now result → HasCause before now result
cause_behind before mid now result later cause = record { later = let risen = cause.later in omega (arith, later, risen); rose = by_result result cause.rose }
  where
    by_result : {T E : Type 0} (r : Result T E) → OnErr r (Rose mid now) → OnErr r (Rose before now)
    by_result (Ok x) rose = tt
    by_result (Err e) rose = omega (arith, later, rose)

-- what was cut to the length of its front is that front
pub cut_front : (front more whole last old_whole old_last text : List ℕ) (n : ℕ) → n ≡ length front → old_whole ++ old_last ≡ front ++ more
    → take n (whole ++ last) ≡ take n (old_whole ++ old_last) → length whole ≤ n → text ≡ take (n - length whole) last → whole ++ text ≡ front
cut_front front more whole last old_whole old_last text n long were same inside cut =
    let sum : length whole + (n - length whole) ≡ n = omega (arith, inside) in
    ap (λ (t : List ℕ). whole ++ t) cut
    ∙ sym (take-append-add whole last (n - length whole))
    ∙ ap (λ (k : ℕ). take k (whole ++ last)) sum
    ∙ same
    ∙ ap (take n) were
    ∙ ap (λ (k : ℕ). take k (front ++ more)) long
    ∙ take-append_seam front more

-- a line behind the last piece is one behind the whole text
abbrev pub lines_of : List ℕ → List ℕ → Lines
lines_of session text = record { session = session; text = text }

pub line_taken : (session pieces text line new : List ℕ) → new ≡ text ++ line → lines_of session (pieces ++ new) ≡ lines_of session ((pieces ++ text) ++ (line ++ []))
line_taken session pieces text line new is =
    ap (lines_of session)
    (ap (λ (t : List ℕ). pieces ++ t) is ∙ sym (append_assoc pieces text line) ∙ ap (λ (t : List ℕ). (pieces ++ text) ++ t) (sym (append-nil line)))
