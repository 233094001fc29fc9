use Rattle.std.proofs.Common.{◌++◌, ◌∙◌, ◌∷◌, [], List, ℕ, ap, append_assoc}
use Rattle.std.specs.Prelude.{codes, decimal, length}
use Rattle.dv_mdbox_lines.proofs.Fronts.{front_behind, front_of_more}
use Rattle.dv_mdbox_lines.proofs.answers.write_message.Goals as goal

abbrev front_of : List ℕ → List ℕ
front_of message = codes "OK {" ++ decimal (length message) ++ codes "}\n"

pub returns-in_err-write_number-clause-err : goal.returns-in_err-write_number-clause-err
returns-in_err-write_number-clause-err g c = λ tells.
    let old = g.O.Sink.sees.taken c.args.out.now in
    let new = g.O.Sink.sees.taken c.write_number.new.out in
    let message = c.args.message.now in
    front_of_more old (front_of message ++ message) (10 ∷ []) new (front_of_more old (front_of message) message new (c.in_err-write_number.ensures.err tells))

pub returns-in_err-write_all-clause-err : goal.returns-in_err-write_all-clause-err
returns-in_err-write_all-clause-err g c = λ tells.
    let old = g.O.Sink.sees.taken c.args.out.now in
    let mid = g.O.Sink.sees.taken c.write_number.new.out in
    let new = g.O.Sink.sees.taken c.write_all.new.self in
    let message = c.args.message.now in
    front_of_more old (front_of message ++ message) (10 ∷ []) new
    (front_behind old (front_of message) message mid new (c.in_ok-write_number.ensures.ok tells) (c.in_err-write_all.ensures.err tells))

pub returns-clause-err : goal.returns-clause-err
returns-clause-err g c = λ tells.
    let old = g.O.Sink.sees.taken c.args.out.now in
    let then = g.O.Sink.sees.taken c.write_all.new.self in
    let new = g.O.Sink.sees.taken c.write_all-2.new.self in
    let message = c.args.message.now in
    front_behind old (front_of message ++ message) (10 ∷ []) then new
    (c.in_ok-write_all.ensures.ok tells ∙ ap (λ (t : List ℕ). t ++ message) (c.in_ok-write_number.ensures.ok tells) ∙ append_assoc old (front_of message) message)
    (c.write_all-2.ensures.err tells)
