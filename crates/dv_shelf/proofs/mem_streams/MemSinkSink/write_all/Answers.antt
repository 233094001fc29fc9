use Rattle.std.proofs.Common.{length, arith, ap, sym, ◌∙◌, ◌++◌}
use Rattle.std.proofs.lemmas.List.{take_all}
use Rattle.dv_shelf.proofs.mem_streams.MemSinkSink.write_all.Goals as goal

-- all of the bytes were taken
pub returns-clause-err : goal.returns-clause-err
returns-clause-err c =
    let bytes = c.args.bytes.now in
    (length bytes, omega arith, c.in-Ok.ensures.items ∙ ap (λ b. c.args.self.now.taken.items ++ b) (sym (take_all (length bytes) bytes (omega arith))))
