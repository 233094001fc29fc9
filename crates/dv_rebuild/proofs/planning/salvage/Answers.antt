use Rattle.dv_chain.specs.Files.{snapshot_in}
use Rattle.dv_rebuild.specs.Walks.{salvaged_of}
use Rattle.dv_rebuild.proofs.Plans.{salvages_of}
use Rattle.dv_rebuild.proofs.planning.salvage.Goals as goal

pub returns : goal.returns
returns c =
    salvages_of c.args.texts c.in_ok-log.log c.in_ok-rotated.rotated (snapshot_in c.in_ok-index.index) c.in_ok-used.used (salvaged_of c.in_ok-salvage.salvage) c.there_in-there.result c.read_in-read.result c.in_ok-salvage.taken c.sources_of.result c.in_ok-log.ensures.front c.in_ok-rotated.ensures.whole c.in_ok-index.ensures.found c.in_ok-used.ensures c.in_ok-salvage.ensures.salvaged
    c.there_in-there.ensures c.read_in-read.ensures c.in_ok-salvage.ensures.taken c.sources_of.ensures
