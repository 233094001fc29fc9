use Rattle.std.proofs.Common.{◌≡◌, ◌==◌, ◌+◌, ℕ, zero, suc, ◌<◌, false, length, sym, ◌∙◌, arith}
use Rattle.std.proofs.lemmas.List.{take_rest, drop_all, length-drop}
use Rattle.dv_fields.proofs.FirstLines.{first_line, only_line, position-some}
use Rattle.dv_maildrop.proofs.message.split_line.Goals as goal

some_length : (n : ℕ) → (n == 0) ≡ false → 0 < n
some_length zero e = absurd cc
some_length (suc n) e = omega arith

pub returns-in-Some : goal.returns-in-Some
returns-in-Some c =
    let text = c.args.text.now in
    let at = position-some (λ b. b == 10) text c.in-Some.end (sym c.in-Some.ensures) in
    let less = at.1 in
    (rw take_rest (rw c.without_return.ensures (first_line text c.in-Some.end (sym c.in-Some.ensures))), rw take_rest (omega (arith, less, length-drop (c.in-Some.end + 1) text)))

pub returns-in-None : goal.returns-in-None
returns-in-None c =
    let text = c.args.text.now in
    let some = some_length (length text) (sym c.is_empty.ensures ∙ c.if-is_empty.false) in
    rw (take_rest text (length text), drop_all (length text) text (omega arith)) (only_line text (sym c.place_of.ensures ∙ c.in-None.is) some, some)
