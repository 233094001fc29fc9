use Rattle.std.proofs.Common.{ℕ, List, subst}
use Rattle.dv_shelf.specs.declared.shelf.Name.TheVariants as name
use Rattle.dv_files.specs.Leavings.{IsPut, Leaves, Puts}
use Rattle.dv_files.proofs.Replacing.{replaced}
use Rattle.dv_writing.proofs.Settling.{put_settled}
use Rattle.dv_filing.specs.declared.steps.Files.TheVariants as files
use Rattle.dv_filing.specs.Files.{WritesFiles}
use Rattle.dv_filing.proofs.Filed.{file_written}
use Rattle.dv_filing.proofs.files.put_file.Goals as goal

pub returns-clause-writes : goal.returns-clause-writes
returns-clause-writes g c = λ tells.
    let S = g.S.Shelf in
    let n = name.Mail c.args.file in
    let old = c.args.shelf.now in
    let new = c.replace.new.self in
    subst (λ (t : List ℕ). WritesFiles S.sees (files.File c.args.file t) c.replace.result old new) c.as_slice.ensures
    (file_written S.sees c.args.file c.as_slice.result.now old new c.replace.result
    (replaced S.sees old new n c.as_slice.result.now c.replace.result (λ f left. g.met.S.Shelf.only_now old f tells left)
    (c.replace.ensures.ok tells) (c.replace.ensures.err tells) (c.replace.ensures.durable tells) (c.replace.ensures.crash tells) (c.replace.ensures.time tells)))

pub returns-clause-settled : goal.returns-clause-settled
returns-clause-settled g c = λ tells.
    let S = g.S.Shelf in
    let n = name.Mail c.args.file in
    let old = c.args.shelf.now in
    let new = c.replace.new.self in
    put_settled S.sees old new n c.as_slice.result.now c.replace.result c.replace.ensures.cause
    (replaced S.sees old new n c.as_slice.result.now c.replace.result (λ f left. g.met.S.Shelf.only_now old f tells left)
    (c.replace.ensures.ok tells) (c.replace.ensures.err tells) (c.replace.ensures.durable tells) (c.replace.ensures.crash tells) (c.replace.ensures.time tells))
