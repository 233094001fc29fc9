use Rattle.std.proofs.Common.{◌∙◌, ◌++◌, List, ap, rules, subst, ℕ}
use Rattle.dv_front.proofs.Prefixes.{prefix_self}
use Rattle.dv_shelf.specs.Streams.{AppendsFront}
use Rattle.dv_maildrop.specs.Answers.{greeting}
use Rattle.dv_member.specs.Members.{notes_of}
use Rattle.dv_pop3.proofs.Exchanging.{greeting_failed, lines_behind}
use Rattle.dv_pop3.proofs.serving.converse.Goals as goal

pub returns-in-Ok-clause-spoken : goal.returns-in-Ok-clause-spoken
returns-in-Ok-clause-spoken g c = λ h.
    let O = g.O.Sink in
    record {
      last = c.answer_lines-end.new.pop;
      answers = lines_behind g.K.Keeping.start g.K.Keeping.count greeting c.args.pop c.answer_lines-end.new.pop c.args.lines c.answer_lines-end.result O.sees.tells (O.sees.taken c.args.out.now) (O.sees.taken c.write_all.new.self) (O.sees.taken c.answer_lines-end.new.out)
          (λ told. c.in-Ok.ensures.ok told ∙ ap (λ (t : List ℕ). O.sees.taken c.args.out.now ++ t) c.requires.text) (c.answer_lines-end.ensures.answers h);
      session = search rules;
      begins = rw c.session.ensures c.answer_lines-end.ensures.begins;
    }

pub returns-in-Err-clause-spoken : goal.returns-in-Err-clause-spoken
returns-in-Err-clause-spoken g c = λ h.
    let O = g.O.Sink in
    record {
      last = c.args.pop;
      answers = greeting_failed g.K.Keeping.start g.K.Keeping.count greeting c.args.pop c.args.lines _ O.sees.tells (O.sees.taken c.args.out.now) (O.sees.taken c.write_all.new.self)
          (λ told. subst (AppendsFront (O.sees.taken c.args.out.now) (O.sees.taken c.write_all.new.self)) c.requires.text (c.write_all.ensures.err told));
      session = search rules;
      begins = rw c.session-in-Err.ensures (prefix_self (notes_of c.args.pop.session));
    }

pub returns-in-Err-clause-begins : goal.returns-in-Err-clause-begins
returns-in-Err-clause-begins g c = rw c.session-in-Err.ensures (prefix_self (notes_of c.args.pop.session))
