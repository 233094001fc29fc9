use Rattle.dv_maps.proofs.ByFile as by_file
use Rattle.dv_maps.proofs.laws.tables_stay.Goals as goal

pub returns : goal.returns
returns c = by_file.tables_stay
