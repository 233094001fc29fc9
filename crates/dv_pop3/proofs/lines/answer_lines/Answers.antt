use Rattle.std.proofs.Common.{◌≡◌, ◌∷◌, [], List, arith, false, inl, inr, rules, subst, true}
use Rattle.dv_front.proofs.Prefixes.{prefix_self, prefix_trans}
use Rattle.dv_maildrop.specs.declared.types.PopLine.{PopLine}
use Rattle.dv_member.specs.Members.{notes_of}
use Rattle.dv_serving.specs.Outputs.{output_of}
use Rattle.dv_pop3.proofs.Exchanging.{Goes, ends_answered, ends_at, goes_first, goes_more}
use Rattle.dv_pop3.proofs.lines.answer_lines.Goals as goal

pub loop-lines-init : goal.loop-lines-init
loop-lines-init g c =
    let O = g.O.Sink in (
      λ h. goes_first g.K.Keeping.start g.K.Keeping.count c.args.pop.now c.args.lines O.sees.tells (O.sees.taken c.args.out.now),
      c.requires.fresh,
      prefix_self (notes_of c.args.pop.now.session),
      omega arith,
    )

pub returns-in_default-clause-answers : goal.returns-in_default-clause-answers
returns-in_default-clause-answers g c = λ h.
    let none : c.loop-lines.lines ≡ [] = search rules in
    ends_answered g.K.Keeping.start g.K.Keeping.count c.args.pop.now c.loop-lines.pop c.args.lines c.loop-lines.lines (output_of g.O.Sink.sees c.args.out.now c.loop-lines.out) (c.loop-lines.invariant.0 h) (inr none)

pub returns-in-Err-clause-answers : goal.returns-in-Err-clause-answers
returns-in-Err-clause-answers g c = λ h.
    let k = g.K.Keeping in
    let O = g.O.Sink in
    let line = c.in-Some.line in
    let rest = c.next.new.self in
    let next : c.loop-lines.lines ≡ line ∷ rest = search rules in
    let open_ : c.loop-lines.pop.maildrop.ended ≡ false = search rules in
    let goes = subst (λ (ls : List PopLine). Goes k.start k.count c.args.pop.now c.loop-lines.pop c.args.lines ls (output_of O.sees c.args.out.now c.loop-lines.out)) next (c.loop-lines.invariant.0 h) in
    ends_at k.start k.count c.args.pop.now c.loop-lines.pop c.args.lines line rest O.sees.tells (O.sees.taken c.args.out.now) (O.sees.taken c.loop-lines.out) (O.sees.taken c.answer_line.new.out) goes open_ c.answer_line.new.pop c.in-Err.end (record { number = c.answer_line.ensures.number; begins = c.answer_line.ensures.begins }) (c.in-Err.ensures.takes h)

pub loop-lines-preserved : goal.loop-lines-preserved
loop-lines-preserved g c =
    let k = g.K.Keeping in
    let O = g.O.Sink in
    let line = c.in-Some.line in
    let rest = c.next.new.self in
    let next : c.loop-lines.lines ≡ line ∷ rest = search rules in
    let open_ : c.loop-lines.pop.maildrop.ended ≡ false = search rules in
    let inv = c.loop-lines.invariant in (
      λ h.
          let goes = subst (λ (ls : List PopLine). Goes k.start k.count c.args.pop.now c.loop-lines.pop c.args.lines ls (output_of O.sees c.args.out.now c.loop-lines.out)) next (inv.0 h) in
          goes_more k.start k.count c.args.pop.now c.loop-lines.pop c.args.lines line rest O.sees.tells (O.sees.taken c.args.out.now) (O.sees.taken c.loop-lines.out) (O.sees.taken c.answer_line.new.out) goes open_ c.answer_line.new.pop c.in-Ok.field-0 (record { number = c.answer_line.ensures.number; begins = c.answer_line.ensures.begins }) (c.in-Ok.ensures.takes h),
      c.in-Ok.ensures.fresh,
      prefix_trans (notes_of c.args.pop.now.session) (notes_of c.loop-lines.pop.session) (notes_of c.answer_line.new.pop.session) inv.2 c.answer_line.ensures.begins,
      omega (arith, inv.3, c.answer_line.ensures.later),
    )

pub returns-clause-answers : goal.returns-clause-answers
returns-clause-answers g c = λ h.
    let ended : c.loop-lines.pop.maildrop.ended ≡ true = search rules in
    ends_answered g.K.Keeping.start g.K.Keeping.count c.args.pop.now c.loop-lines.pop c.args.lines c.loop-lines.lines (output_of g.O.Sink.sees c.args.out.now c.loop-lines.out) (c.loop-lines.invariant.0 h) (inl ended)
