-- A text is written in parts.
use Rattle.std.proofs.Common.{◌≡◌, ℕ, ◌+◌, List, ◌++◌, length, take, append_assoc, sym, ◌∙◌, ap, arith}
use Rattle.std.proofs.Math.Seq.{take-append-add}
use Rattle.std.proofs.lemmas.List.{length-append, take-append-le}
use Rattle.dv_shelf.specs.Streams.{AppendsFront}

-- some bytes of a text, behind another that was written whole
pub front_behind : (old first text mid new : List ℕ) → mid ≡ old ++ first → AppendsFront mid new text → AppendsFront old new (first ++ text)
front_behind old first text mid new whole front =
    let k = front.0 in
    let long = length-append first text in
    let few = front.1 in (
      length first + k,
      omega (arith, long, few),
      front.2 ∙ ap (λ (t : List ℕ). t ++ take k text) whole ∙ append_assoc old first (take k text) ∙ ap (λ (t : List ℕ). old ++ t) (sym (take-append-add first text k)),
    )

-- and where more text follows
pub front_of_more : (old first more new : List ℕ) → AppendsFront old new first → AppendsFront old new (first ++ more)
front_of_more old first more new front =
    let k = front.0 in
    let long = length-append first more in
    let few = front.1 in (
      k,
      omega (arith, long, few),
      front.2 ∙ ap (λ (t : List ℕ). old ++ t) (sym (take-append-le k first more few)),
    )
