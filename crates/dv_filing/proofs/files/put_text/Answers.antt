use Rattle.std.proofs.Common.{◌≡◌, ℕ, List, Ok, Err, sym, subst}
use Rattle.std.proofs.lemmas.Result.{err_from_is_err_and}
use Rattle.dv_logfile.proofs.Settling.{rose_settled}
use Rattle.dv_filing.specs.declared.steps.Files.TheVariants as files
use Rattle.dv_filing.specs.Files.{WritesFiles}
use Rattle.dv_filing.proofs.Filed.{text_failed, text_settled, text_written}
use Rattle.dv_filing.proofs.files.put_text.Goals as goal

pub returns-in_err-write_at-clause-writes : goal.returns-in_err-write_at-clause-writes
returns-in_err-write_at-clause-writes g c = λ tells.
    let S = g.S.Shelf in
    let old = c.args.shelf.now in
    let mid = c.write_at.new.self in
    let p = err_from_is_err_and c.from_residual.result c.from_residual.ensures.1 in
    rw p.1
    (subst (λ (t : List ℕ). WritesFiles S.sees (files.Text c.args.file c.args.at t) (Err p.0) old mid) c.as_slice.ensures
    (text_failed S.sees c.args.file c.args.at c.as_slice.result.now old mid (λ f left. g.met.S.Shelf.only_now old f tells left) (c.write_at.ensures.time tells) (c.write_at.ensures.crash tells) p.0 (c.in_err-write_at.ensures.err tells)))

pub returns-clause-writes : goal.returns-clause-writes
returns-clause-writes g c = λ tells.
    let S = g.S.Shelf in
    let old = c.args.shelf.now in
    let mid = c.write_at.new.self in
    let new = c.sync.new.self in
    subst (λ (t : List ℕ). WritesFiles S.sees (files.Text c.args.file c.args.at t) c.sync.result old new) c.as_slice.ensures
    (text_written S.sees c.args.file c.args.at c.as_slice.result.now old mid (λ f left. g.met.S.Shelf.only_now old f tells left) (c.write_at.ensures.time tells) (c.write_at.ensures.crash tells)
    new (c.in_ok-write_at.ensures.ok tells) (c.sync.ensures.files tells) (c.sync.ensures.crash tells) (c.sync.ensures.time tells) c.sync.result (c.sync.ensures.durable tells))

pub returns-in_err-write_at-clause-settled : goal.returns-in_err-write_at-clause-settled
returns-in_err-write_at-clause-settled g c = λ tells. rose_settled g.S.Shelf.sees c.args.shelf.now c.write_at.new.self c.in_err-write_at.ensures.cause.rose

pub returns-clause-settled : goal.returns-clause-settled
returns-clause-settled g c = λ tells.
    let S = g.S.Shelf in
    let old = c.args.shelf.now in
    let mid = c.write_at.new.self in
    let new = c.sync.new.self in
    text_settled S.sees c.args.file c.args.at c.as_slice.result.now old mid (λ f left. g.met.S.Shelf.only_now old f tells left) (c.write_at.ensures.time tells) (c.write_at.ensures.crash tells)
    new (c.in_ok-write_at.ensures.ok tells) (c.sync.ensures.files tells) (c.sync.ensures.crash tells) (c.sync.ensures.time tells) c.sync.result c.sync.ensures.cause c.in_ok-write_at.ensures.cause.later (c.sync.ensures.durable tells)
