use Rattle.std.proofs.Common.{◌∙◌, ap, map}
use Rattle.dv_shelf.specs.Disks.{files_after, put_call}
use Rattle.dv_shelf.proofs.StartLemmas.{put_files, put_only}
use Rattle.dv_shelf.proofs.mem_shelf.MemShelf.of.Goals as goal

pub returns-clause-files : goal.returns-clause-files
returns-clause-files c = ap files_after c.in_ok-of.ensures.calls ∙ ap (λ l. files_after (map put_call l)) c.as_slice.ensures ∙ put_files c.args.folder.now

pub returns-clause-settled : goal.returns-clause-settled
returns-clause-settled c = put_only _ c.as_slice.result.now c.in_ok-of.ensures.calls
