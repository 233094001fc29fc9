use Rattle.std.proofs.lemmas.Result.{IfOk-weaker}
use Rattle.dv_model.specs.declared.types.Value.TheVariants as value
use Rattle.dv_texts.proofs.Growing.{whole_of_one}
use Rattle.dv_texts.proofs.lines.put_flags_line.Goals as goal
use Rattle.dv_view.specs.Tells.{names_at}

pub returns-clause-ok : goal.returns-clause-ok
returns-clause-ok c =
    let s = c.args.s.now in
    let flags = value.Flags s.flags (names_at c.args.names.now.names s.keywords) in
    IfOk-weaker c.end_fetch.result _ _ (λ done last. whole_of_one c.args.session.now c.args.number s.uid _ _ _ _ flags c.in_ok-begin_fetch.ensures.ok c.in_ok-put_flags.ensures.ok last) c.end_fetch.ensures.ok
