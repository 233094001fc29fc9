use Rattle.std.proofs.Common.{◌++◌, ◌∙◌, List, ℕ, ap, append_assoc}
use Rattle.dv_mdbox_lines.proofs.Fronts.{front_behind, front_of_more}
use Rattle.dv_mdbox_lines.proofs.answers.write_parts.Goals as goal

pub returns-in_err-write_all-2-clause-err : goal.returns-in_err-write_all-2-clause-err
returns-in_err-write_all-2-clause-err g c = λ tells.
    let old = g.O.Sink.sees.taken c.args.out.now in
    let mid = g.O.Sink.sees.taken c.write_all.new.self in
    let new = g.O.Sink.sees.taken c.write_all-2.new.self in
    front_of_more old (c.args.before.now ++ c.args.digits.now) c.args.behind.now new
    (front_behind old c.args.before.now c.args.digits.now mid new (c.in_ok-write_all.ensures.ok tells) (c.in_err-write_all-2.ensures.err tells))

pub returns-clause-err : goal.returns-clause-err
returns-clause-err g c = λ tells.
    let old = g.O.Sink.sees.taken c.args.out.now in
    let then = g.O.Sink.sees.taken c.write_all-2.new.self in
    let new = g.O.Sink.sees.taken c.write_all-3.new.self in
    front_behind old (c.args.before.now ++ c.args.digits.now) c.args.behind.now then new
    (c.in_ok-write_all-2.ensures.ok tells ∙ ap (λ (t : List ℕ). t ++ c.args.digits.now) (c.in_ok-write_all.ensures.ok tells) ∙ append_assoc old c.args.before.now c.args.digits.now)
    (c.write_all-3.ensures.err tells)
