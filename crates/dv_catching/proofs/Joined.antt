-- A text in pieces.
use Rattle.std.proofs.Common.{◌≡◌, ℕ, ◌+◌, ◌<◌, List, [], ◌∷◌, ◌++◌, length, get_or, take, drop, append_assoc, sym, ◌∙◌, ap, subst, arith}
use Rattle.std.proofs.Math.Seq.{take-append-add}
use Rattle.std.proofs.lemmas.Grind.{flat_map-append}
use Rattle.std.proofs.lemmas.List.{append-nil, length-append, take-append-drop, take-append-le, take_more}
use Rattle.dv_shelf.specs.Streams.{AppendsFront}
use Rattle.dv_catching.specs.Texts.{joined}

-- ---- put together

-- one more behind others
pub joined_push : (pieces : List (List ℕ)) (piece : List ℕ) → joined (pieces ++ piece ∷ []) ≡ joined pieces ++ piece
joined_push pieces piece =
    flat_map-append (λ (p : List ℕ). p) pieces (piece ∷ [])
    ∙ ap (λ (t : List ℕ). joined pieces ++ t) (append-nil piece)

pub joined_more : (pieces : List (List ℕ)) (i : ℕ) (piece : List ℕ) → i < length pieces → piece ≡ get_or pieces i piece → joined (take (i + 1) pieces) ≡ joined (take i pieces) ++ piece
joined_more pieces i piece less is =
    ap joined (take_more pieces i piece less ∙ ap (λ (p : List ℕ). take i pieces ++ p ∷ []) (sym is))
    ∙ joined_push (take i pieces) piece

-- ---- written

joined_split : (pieces : List (List ℕ)) (i : ℕ) → joined pieces ≡ joined (take i pieces) ++ joined (drop i pieces)
joined_split pieces i = ap joined (sym (take-append-drop i pieces)) ∙ flat_map-append (λ (p : List ℕ). p) (take i pieces) (drop i pieces)

-- some bytes of a text between two others, of which the first was written
front_between : (old first text more mid new : List ℕ) → mid ≡ old ++ first → AppendsFront mid new text → AppendsFront old new ((first ++ text) ++ more)
front_between old first text more mid new whole front =
    let k = front.0 in
    let few = front.1 in
    let long = length-append first text in
    let all = length-append (first ++ text) more in (
      length first + k,
      omega (arith, long, all, few),
      front.2 ∙ ap (λ (t : List ℕ). t ++ take k text) whole ∙ append_assoc old first (take k text)
          ∙ ap (λ (t : List ℕ). old ++ t) (sym (take-append-add first text k) ∙ sym (take-append-le (length first + k) (first ++ text) more (omega (arith, long, few)))),
    )

-- so the first bytes of a piece are the first of all
pub front_of_pieces : (pieces : List (List ℕ)) (i : ℕ) (piece old mid new : List ℕ) → i < length pieces → piece ≡ get_or pieces i piece
    → mid ≡ old ++ joined (take i pieces) → AppendsFront mid new piece → AppendsFront old new (joined pieces)
front_of_pieces pieces i piece old mid new less is whole front =
    subst (AppendsFront old new) (sym (joined_split pieces (i + 1) ∙ ap (λ (t : List ℕ). t ++ joined (drop (i + 1) pieces)) (joined_more pieces i piece less is)))
    (front_between old (joined (take i pieces)) piece (joined (drop (i + 1) pieces)) mid new whole front)
